-- What `calls` does with the rest of the input.
use Rattle.std.specs.Prelude.{◌≡◌, true, false, List, ◌++◌, ℕ, ◌+◌, ◌-◌, ◌≤◌, eqb, ℤ, length, take, drop}
use Rattle.std.proofs.Common.{sym, ◌∙◌, ap, inl, arith, length-drop, length-take-le, eq-eqb, ne_eqb}
use Rattle.std.proofs.Math.Seq.{take-length}
use Rattle.base.specs.Pick.{pick, pick_true, pick-false}
use Rattle.rules.specs.declared.State.{State}
use Rattle.rules.specs.Step.{step}
use Rattle.book.specs.declared.Book.{Book}
use Rattle.lines.specs.declared.Text.{Text}
use Rattle.lines.specs.Puts.{Within}
use Rattle.streams.specs.declared.Input.{Input}
use Rattle.streams.specs.Rests.{rest_of, left, Passed, rest-after, rest-length}
use Rattle.turns.specs.Turns.{Tape, Turn, Tells, event_turn}
use Rattle.calls.specs.Items.{item_of, lent_of, item-within, item-lengths, lent-most}
use Rattle.calls.specs.Listings.{lookup_text, cut_line}
use Rattle.calls.specs.Printed.{Printed, printed-out, printed-one, printed-then}

-- an item as a call: the frame behind its two lengths, and the space that it is lent
abbrev pub call_turn : State → ℕ → List ℕ → List ℕ → Turn
call_turn b index item rest = event_turn (step b (drop 4 item) (lent_of item)) index rest

-- what is printed at the end of the input: `cut` where it ends inside an item, and what the lookups say
abbrev pub end_text : State → List ℕ → List ℕ
end_text b rest = cut_line (length rest) ++ lookup_text b

-- what comes next: the end where no whole item is left, else the first item
unfoldable pub item_turn : State → ℕ → List ℕ → Turn
item_turn b index rest =
    pick (eqb (item_of rest) 0) (record { state = b; text = end_text b rest; rest = rest; on = false })
    (call_turn b index (take (item_of rest) rest) (drop (item_of rest) rest))

-- a turn: what the rules say of the rest of the input
pub record ItemTurned (t : Tape) (index : ℕ) (x : Tape) : Type 0 where
  pub state : x.book.state ≡ (item_turn t.book.state index (rest_of t.input)).state
  pub text : Printed t.text x.text (item_turn t.book.state index (rest_of t.input)).text
  pub rest : rest_of x.input ≡ (item_turn t.book.state index (rest_of t.input)).rest
  pub on : x.on ≡ (item_turn t.book.state index (rest_of t.input)).on

-- the last turn, at any index: the book and the input stay, and no more is to come
pub record ItemsEnded (b : Book) (i : Input) (s q : Text) : Type 0 where
  pub turned : (index : ℕ) → ItemTurned (record { book = b; input = i; text = s; on = true }) index (record { book = b; input = i; text = q; on = false })

-- laws

turn_end : (b : State) (index : ℕ) (rest : List ℕ) → item_of rest ≡ 0 → item_turn b index rest ≡ record { state = b; text = end_text b rest; rest = rest; on = false }
unfolding item_turn
turn_end b index rest e = pick_true _ _ _ (eq-eqb _ _ e)

turn-call : (b : State) (index : ℕ) (rest : List ℕ) → (item_of rest ≡ 0 → ⊥) → item_turn b index rest ≡ call_turn b index (take (item_of rest) rest) (drop (item_of rest) rest)
unfolding item_turn
turn-call b index rest h = pick-false _ _ _ (ne_eqb _ _ h)

-- the end: `cut` or nothing, then the lookups behind it
pub ended :
    (b : Book) (i : Input) {s q x r : Text} → item_of (rest_of i) ≡ 0 → Within 86 s q (cut_line (length (rest_of i))) → x.used ≡ q.used → x.out ≡ q.out →
    Printed x r (lookup_text b.state) → ItemsEnded b i s r
ended b i {s} {q} {x} {r} e w u o g =
    record {
      turned = λ index.
          let y = turn_end b.state index (rest_of i) e in
          record { state = rw y; text = rw y (printed-then (printed-out (printed-one w.put) (inl u) o) g); rest = rw y; on = rw y };
    }

-- a call of an item, which lends the first numbers of the space
pub tells-item :
    {b : State} (index : ℕ) (item : List ℕ) (space : List ℤ) {s q : Text} {n : ℕ} {x : Book} → n ≡ lent_of item → length space ≡ 15360 →
    Tells b index (take (length item - 4) (drop 4 item)) (length (take n space)) s q x → Tells b index (drop 4 item) (lent_of item) s q x
tells-item {b} index item space e l w =
    let k : length (take (lent_of item) space) ≡ lent_of item = length-take-le _ _ (omega (arith, lent-most item)) in
    let d : take (length item - 4) (drop 4 item) ≡ drop 4 item = ap (λ (n : ℕ). take n (drop 4 item)) (sym (length-drop 4 item)) ∙ take-length (drop 4 item) in
    rw (e, k, d) at w

-- an item: it lies in the block, with its two lengths
pub item-fits : (i : Input) {n : ℕ} → n ≡ item_of (rest_of i) → i.at + n ≤ i.«end»
item-fits i e = omega (arith, e, item-within (rest_of i), rest-length i, i.order)

pub item-long : (i : Input) {n : ℕ} → n ≡ item_of (rest_of i) → (n ≡ 0 → ⊥) → 4 ≤ length (take n (rest_of i))
item-long i {n} e h =
    let k : length (take n (rest_of i)) ≡ n = length-take-le _ _ (omega (arith, item-fits i e, rest-length i)) in
    rw (k, e) (item-lengths (rest_of i) (λ z. h (e ∙ z)))

pub turned-item :
    {b : Book} (i : Input) (index : ℕ) {s q : Text} {j : Input} {n : ℕ} {x : Book} → n ≡ item_of (rest_of i) → (n ≡ 0 → ⊥) →
    Tells b.state index (drop 4 (take n (rest_of i))) (lent_of (take n (rest_of i))) s q x → Passed i j n →
    ItemTurned (record { book = b; input = i; text = s; on = true }) index (record { book = x; input = j; text = q; on = true })
turned-item {b} i index {n = n} e h w p =
    let few : n ≤ left i = omega (arith, item-fits i e) in
    let x = rw (← e) at (turn-call b.state index (rest_of i) (λ z. h (e ∙ z))) in
    record { state = rw x w.state; text = rw x (printed-one w.text.put); rest = rw x (rest-after p few); on = rw x }
