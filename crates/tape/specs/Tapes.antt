-- What `tape` does with the rest of the input.
use Rattle.std.specs.Prelude.{◌≡◌, true, false, List, [], ℕ, ◌+◌, ◌*◌, ◌≤◌, eqb, ℤ, length, take, drop, Err}
use Rattle.std.proofs.Common.{◌∙◌, append-nil, arith, eq-eqb, ne_eqb}
use Rattle.base.specs.Pick.{pick, pick_true, pick-false}
use Rattle.events.specs.declared.Refusal.TheVariants as F
use Rattle.rules.specs.Step.{step, answer_count}
use Rattle.rules.specs.declared.State.{State}
use Rattle.book.specs.declared.Book.{Book}
use Rattle.lines.specs.declared.Text.{Text}
use Rattle.lines.specs.Cuts.{cut_of, cut-within}
use Rattle.lines.specs.Lines.{event_line, record_lines, event_text}
use Rattle.lines.specs.Puts.{Within, put-nil}
use Rattle.streams.specs.declared.Input.{Input}
use Rattle.streams.specs.Rests.{rest_of, left, Passed, rest-after, rest-length}
use Rattle.turns.specs.Turns.{Tape, Turn, Tells, event_turn}

-- "A length under 4 or past the input's end, a lone last byte included, prints refusal 2 and stops."
unfoldable pub frame_turn : State → ℕ → List ℕ → Turn
frame_turn b index rest =
    pick (eqb (length rest) 0) (record { state = b; text = []; rest = rest; on = false })
    (pick (eqb (cut_of rest) 0) (record { state = b; text = event_line index (Err F.BadFrame); rest = rest; on = false })
    (event_turn (step b (take (cut_of rest) rest) 15360) index (drop (cut_of rest) rest)))

-- a turn: what the rules say of the rest of the input
pub record Turned (t : Tape) (index : ℕ) (x : Tape) : Type 0 where
  pub state : x.book.state ≡ (frame_turn t.book.state index (rest_of t.input)).state
  pub text : Within 189526 t.text x.text (frame_turn t.book.state index (rest_of t.input)).text
  pub rest : rest_of x.input ≡ (frame_turn t.book.state index (rest_of t.input)).rest
  pub on : x.on ≡ (frame_turn t.book.state index (rest_of t.input)).on

-- the last turn, of any book: the book and the input stay, and no more is to come
pub record Ended (i : Input) (index : ℕ) (s q : Text) : Type 0 where
  pub turned : (b : Book) → Turned (record { book = b; input = i; text = s; on = true }) index (record { book = b; input = i; text = q; on = false })

-- laws

-- the three turns
turn-ended : (b : State) (index : ℕ) (rest : List ℕ) → length rest ≡ 0 → frame_turn b index rest ≡ record { state = b; text = []; rest = rest; on = false }
unfolding frame_turn
turn-ended b index rest e = pick_true _ _ _ (eq-eqb _ _ e)

turn-cut :
    (b : State) (index : ℕ) (rest : List ℕ) → (length rest ≡ 0 → ⊥) → cut_of rest ≡ 0 →
    frame_turn b index rest ≡ record { state = b; text = event_line index (Err F.BadFrame); rest = rest; on = false }
unfolding frame_turn
turn-cut b index rest h e = pick-false _ _ _ (ne_eqb _ _ h) ∙ pick_true _ _ _ (eq-eqb _ _ e)

turn-event :
    (b : State) (index : ℕ) (rest : List ℕ) → (cut_of rest ≡ 0 → ⊥) →
    frame_turn b index rest ≡ event_turn (step b (take (cut_of rest) rest) 15360) index (drop (cut_of rest) rest)
unfolding frame_turn
turn-event b index rest h =
    let k : length rest ≡ 0 → ⊥ = λ z. h (omega (arith, z, cut-within rest)) in
    pick-false _ _ _ (ne_eqb _ _ k) ∙ pick-false _ _ _ (ne_eqb _ _ h)

pub ended : (i : Input) (index : ℕ) (s : Text) → i.at ≡ i.«end» → Ended i index s s
ended i index s e =
    record {
      turned = λ b.
          let x = turn-ended b.state index (rest_of i) (omega (arith, rest-length i, e)) in
          record { state = rw x; text = rw x (record { put = put-nil s; few = omega arith }); rest = rw x; on = rw x };
    }

pub ended-cut :
    (i : Input) (index : ℕ) {s q : Text} → (i.at ≡ i.«end» → ⊥) → cut_of (rest_of i) ≡ 0 → Within 189526 s q (event_line index (Err F.BadFrame)) → Ended i index s q
ended-cut i index h e w =
    record {
      turned = λ b.
          let x = turn-cut b.state index (rest_of i) (λ k. h (omega (arith, k, rest-length i, i.order))) e in
          record { state = rw x; text = rw x w; rest = rw x; on = rw x };
    }

pub event-fits : (i : Input) {n : ℕ} → n ≡ cut_of (rest_of i) → i.at + n ≤ i.«end»
event-fits i e = omega (arith, e, cut-within (rest_of i), rest-length i, i.order)

pub turned-event :
    {b : Book} (i : Input) (index : ℕ) {s q : Text} {j : Input} {n : ℕ} {x : Book} → n ≡ cut_of (rest_of i) → (n ≡ 0 → ⊥) →
    Tells b.state index (take n (rest_of i)) 15360 s q x → Passed i j n →
    Turned (record { book = b; input = i; text = s; on = true }) index (record { book = x; input = j; text = q; on = true })
turned-event {b} i index {n = n} e h w p =
    let few : n ≤ left i = omega (arith, event-fits i e) in
    let x = rw (← e) at (turn-event b.state index (rest_of i) (λ z. h (e ∙ z))) in
    record { state = rw x w.state; text = rw x w.text; rest = rw x (rest-after p few); on = rw x }

pub cut-told :
    (index : ℕ) (space : List ℤ) {s q : Text} →
    Within (86 + 74 * answer_count (Err F.BadFrame)) s q (event_text index (Err F.BadFrame) space) → Within 189526 s q (event_line index (Err F.BadFrame))
unfolding event_text record_lines answer_count
cut-told index space w = record { put = rw append-nil at w.put; few = omega (arith, w.few) }
