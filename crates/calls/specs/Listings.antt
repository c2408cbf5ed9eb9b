-- What the lookups say of a book, as lines: each line, or nothing, by the rules' lookup.
use Rattle.std.specs.Prelude.{◌≡◌, refl, Bool, true, false, List, [], ◌∷◌, ◌++◌, map, ℕ, ◌+◌, ◌/◌, ◌%◌, ◌≤◌, eqb, pos, get_or, Option, None, Some, Result, Ok, Err}
use Rattle.std.proofs.Common.{sym, ◌∙◌, ap, arith, eq-eqb, ne_eqb}
use Rattle.std.specs.Option.{option_flatten}
use Rattle.std.specs.Result.{result_ok}
use Rattle.base.specs.Pick.{pick, pick_true, pick-false, tests}
use Rattle.base.specs.Walks.{join_n, clash}
use Rattle.rules.specs.Sizes.{strategy_slots}
use Rattle.rules.specs.declared.State.{State}
use Rattle.rules.specs.declared.OrderEntry.{OrderEntry}
use Rattle.rules.specs.declared.Best.{Best}
use Rattle.rules.specs.declared.ShutLegs.{ShutLegs}
use Rattle.rules.specs.declared.StrategyNets.{StrategyNets}
use Rattle.events.specs.declared.Refusal.{Refusal}
use Rattle.rules.specs.Lookups.{LookedUp, values, nets, refused_by, live_quantity, shut_legs, leg_nets, row_depth, depth_tells, shut_tells, nets_tells, net_told}
use Rattle.rules.specs.Valid.{Valid}
use Rattle.lookups.specs.Lookups.{book_depth, lent_row}
use Rattle.depths.specs.Rows.{row-depth-book}
use Rattle.lines.specs.declared.Text.{Text}
use Rattle.lines.specs.Lines.{text_line, told_line}
use Rattle.lines.specs.Puts.{Put, Within, put-nil}

-- `L` number quantity, of a number with something live
unfoldable pub live_line : State → ℕ → List ℕ
live_line b n = pick (eqb (live_quantity b n) 0) [] (text_line 76 (pos n ∷ (pos (live_quantity b n) ∷ [])))

-- `S` strategy count lowest, of a lookup that is not refused
unfoldable pub shut_text : ℕ → LookedUp → List ℕ
shut_text k (values ns) = text_line 83 (pos k ∷ map pos ns)
shut_text k (nets x y) = []
shut_text k (refused_by n) = []

-- .. of a strategy
unfoldable pub shut_line : State → ℕ → List ℕ
shut_line b k = shut_text k (shut_legs b k)

-- 2026-05: `N` strategy bid offer, each net in cents or `-` where it is unknown, of a lookup that is not refused
unfoldable pub nets_text : ℕ → LookedUp → List ℕ
nets_text k (values ns) = []
nets_text k (nets x y) = told_line 78 k x y
nets_text k (refused_by n) = []

-- .. of a strategy
unfoldable pub nets_line : State → ℕ → List ℕ
nets_line b k = nets_text k (leg_nets b k)

-- `D` series side price contracts, of a depth that is not empty
unfoldable pub depth_text : ℕ → ℕ → LookedUp → List ℕ
depth_text s side (values []) = []
depth_text s side (values (n ∷ ns)) = text_line 68 (pos s ∷ (pos side ∷ map pos (n ∷ ns)))
depth_text s side (nets x y) = []
depth_text s side (refused_by n) = []

-- .. of a series and side
unfoldable pub depth_line : State → ℕ → ℕ → List ℕ
depth_line b s side = depth_text s side (book_depth b.orders s side)

-- the line of the number behind n
abbrev pub live_at : State → ℕ → List ℕ
live_at b n = live_line b (n + 1)

-- the numbers 1 to 100,000, rising
unfoldable pub live_lines : State → List ℕ
live_lines b = join_n (live_at b) 100000

-- the strategies 0 to 15, rising
unfoldable pub shut_lines : State → List ℕ
shut_lines b = join_n (shut_line b) strategy_slots

-- .. and their nets
unfoldable pub nets_lines : State → List ℕ
nets_lines b = join_n (nets_line b) strategy_slots

-- the line of a side of a series, two places a series
abbrev pub depth_at : State → ℕ → List ℕ
depth_at b i = depth_line b (i / 2) (i % 2)

-- the series 0 to 31, by series then side
unfoldable pub depth_lines : State → List ℕ
depth_lines b = join_n (depth_at b) 64

-- all of them
unfoldable pub lookup_text : State → List ℕ
lookup_text b = live_lines b ++ (shut_lines b ++ (nets_lines b ++ depth_lines b))

-- `cut`, where some bytes of an item are left
unfoldable pub cut_line : ℕ → List ℕ
cut_line left = pick (eqb left 0) [] (99 ∷ (117 ∷ (116 ∷ (10 ∷ []))))

-- the best price of a depth, none where it is empty or refused
unfoldable pub best_of : Result (Option Best) Refusal → Option Best
best_of (Ok b) = b
best_of (Err r) = None

-- whether a best price is that price with those contracts
unfoldable pub is_best : Option Best → ℕ → ℕ → Bool
is_best (Some b) price contracts = pick (eqb b.price price) (eqb b.contracts contracts) false
is_best None price contracts = false

-- laws

within_none : (s : Text) → Within 86 s s []
within_none s = record { put = put-nil s; few = omega arith }

within_more : {k : ℕ} {s q : Text} {t : List ℕ} → k ≤ 86 → Within k s q t → Within 86 s q t
within_more h w = record { put = w.put; few = omega (arith, w.few) }

pub live-none : (b : State) (n : ℕ) (s : Text) {q : ℕ} → q ≡ live_quantity b n → q ≡ 0 → Within 86 s s (live_line b n)
unfolding live_line
live-none b n s e z = rw (pick_true (eqb (live_quantity b n) 0) [] (text_line 76 (pos n ∷ (pos (live_quantity b n) ∷ []))) (eq-eqb _ _ (sym e ∙ z))) (within_none s)

pub live-some :
    (b : State) (n : ℕ) {s r : Text} {q : ℕ} → q ≡ live_quantity b n → (q ≡ 0 → ⊥) →
    Within 44 s r (text_line 76 (pos n ∷ (pos q ∷ []))) → Within 86 s r (live_line b n)
unfolding live_line
live-some b n e h w =
    rw (pick-false (eqb (live_quantity b n) 0) [] (text_line 76 (pos n ∷ (pos (live_quantity b n) ∷ []))) (ne_eqb _ _ (λ z. h (e ∙ z))))
    (within_more (omega arith) (rw e at w))

pub shut-some :
    (b : State) (k : ℕ) (l : ShutLegs) {x : Result ShutLegs Refusal} → shut_tells x ≡ shut_legs b k → x ≡ Ok l → {s q : Text} →
    Within 65 s q (text_line 83 (pos k ∷ (pos l.count ∷ (pos l.lowest ∷ [])))) → Within 86 s q (shut_line b k)
unfolding shut_line shut_text shut_tells
shut-some b k l e g w = rw (← e, g) (within_more (omega arith) w)

pub shut-none :
    (b : State) (k : ℕ) (x : Result ShutLegs Refusal) → shut_tells x ≡ shut_legs b k → ((l : ShutLegs) → x ≡ Ok l → ⊥) → (s : Text) → Within 86 s s (shut_line b k)
unfolding shut_line shut_text shut_tells
shut-none b k (Ok l) e h s = absurd (h l refl)
shut-none b k (Err r) e h s = rw (← e) (within_none s)

pub nets-some :
    (b : State) (k : ℕ) (n : StrategyNets) {x : Result StrategyNets Refusal} → nets_tells x ≡ leg_nets b k → x ≡ Ok n → {s q : Text} →
    Within 47 s q (told_line 78 k (net_told n.bid) (net_told n.offer)) → Within 86 s q (nets_line b k)
unfolding nets_line nets_text nets_tells
nets-some b k n e g w = rw (← e, g) (within_more (omega arith) w)

pub nets-none :
    (b : State) (k : ℕ) (x : Result StrategyNets Refusal) → nets_tells x ≡ leg_nets b k → ((n : StrategyNets) → x ≡ Ok n → ⊥) → (s : Text) → Within 86 s s (nets_line b k)
unfolding nets_line nets_text nets_tells
nets-none b k (Ok n) e h s = absurd (h n refl)
nets-none b k (Err r) e h s = rw (← e) (within_none s)

pub best-ok : (d : Result (Option Best) Refusal) → option_flatten (result_ok d) ≡ best_of d
unfolding best_of
best-ok (Ok (Some b)) = refl
best-ok (Ok None) = refl
best-ok (Err r) = refl

pub best-is : {d : Option Best} (b : Best) (price contracts : ℕ) → d ≡ Some b → b.price ≡ price → eqb b.contracts contracts ≡ is_best d price contracts
unfolding is_best
best-is b price contracts e h = rw e (search tests)

pub best-other : {d : Option Best} (b : Best) (price contracts : ℕ) → d ≡ Some b → (b.price ≡ price → ⊥) → eqb b.price price ≡ is_best d price contracts
unfolding is_best
best-other b price contracts e h = rw e (ne_eqb _ _ h ∙ sym (pick-false _ _ _ (ne_eqb _ _ h)))

pub best-none : {d : Option Best} (price contracts : ℕ) → d ≡ None → false ≡ is_best d price contracts
unfolding is_best
best-none price contracts e = rw e

-- a lookup that tells a price and contracts is of that price and contracts
value_at : ℕ → LookedUp → ℕ
value_at i (values ns) = get_or ns i 0
value_at i (nets x y) = 0
value_at i (refused_by n) = 0

tells_some : LookedUp → Bool
tells_some (values []) = false
tells_some (values (n ∷ ns)) = true
tells_some (nets x y) = false
tells_some (refused_by n) = false

best-told : (x : Result (Option Best) Refusal) {price contracts : ℕ} → depth_tells x ≡ values (price ∷ (contracts ∷ [])) → is_best (best_of x) price contracts ≡ true
unfolding depth_tells best_of is_best value_at tells_some
best-told (Ok (Some b)) e = pick_true _ _ _ (eq-eqb _ _ (ap (value_at 0) e)) ∙ eq-eqb _ _ (ap (value_at 1) e)
best-told (Ok None) e = absurd (clash (ap tells_some e) refl)
best-told (Err r) e = absurd (clash (ap tells_some e) refl)

best-values : (x : Result (Option Best) Refusal) {b : Best} → best_of x ≡ Some b → depth_tells x ≡ values (b.price ∷ (b.contracts ∷ []))
unfolding depth_tells best_of
best-values (Ok y) e = rw e
best-values (Err r) e = absurd (cc)

pub depth-some :
    (b : State) (s side : ℕ) (x : Best) (d : Result (Option Best) Refusal) {y : Option Best} → depth_tells d ≡ book_depth b.orders s side → y ≡ best_of d → y ≡ Some x →
    {o q : Text} → Within 86 o q (text_line 68 (pos s ∷ (pos side ∷ (pos x.price ∷ (pos x.contracts ∷ []))))) → Within 86 o q (depth_line b s side)
unfolding depth_line depth_text
depth-some b s side x d e f g w = rw (← e, best-values d (sym f ∙ g)) w

pub depth-none :
    (b : State) (s side : ℕ) (d : Result (Option Best) Refusal) {y : Option Best} → depth_tells d ≡ book_depth b.orders s side → y ≡ best_of d → ((x : Best) → y ≡ Some x → ⊥) →
    (o : Text) → Within 86 o o (depth_line b s side)
unfolding depth_line depth_text depth_tells best_of
depth-none b s side (Ok (Some x)) e f h o = absurd (h x f)
depth-none b s side (Ok None) e f h o = rw (← e) (within_none o)
depth-none b s side (Err r) e f h o = rw (← e) (within_none o)

-- the depth of the row that a valid book hands out is the book's
pub lent-depth :
    (b : State) (s side : ℕ) {row : List OrderEntry} {x : LookedUp} → Valid b → row ≡ lent_row b.orders → x ≡ row_depth row s side → x ≡ book_depth b.orders s side
lent-depth b s side v e h = h ∙ ap (λ (r : List OrderEntry). row_depth r s side) e ∙ row-depth-book b s side v

-- the two lookups of a depth are one, so they do not differ
pub never-differ :
    (x y : Result (Option Best) Refusal) {u v : Option Best} {z : LookedUp} (b : Best) {r : Bool} →
    depth_tells x ≡ z → depth_tells y ≡ z → u ≡ best_of x → v ≡ best_of y → v ≡ Some b → r ≡ is_best u b.price b.contracts → r ≡ false → ⊥
never-differ x y b e g f k h i j =
    clash (best-told x (e ∙ sym g ∙ best-values y (sym k ∙ h))) (ap (λ (o : Option Best). is_best o b.price b.contracts) (sym f) ∙ sym i ∙ j)

pub cut-none : (s : Text) {left : ℕ} → left ≡ 0 → Within 86 s s (cut_line left)
unfolding cut_line
cut-none s {left} e = rw (pick_true {A = List ℕ} (eqb left 0) [] (99 ∷ (117 ∷ (116 ∷ (10 ∷ [])))) (eq-eqb _ _ e)) (within_none s)

pub cut-some : {s q : Text} {left : ℕ} → (left ≡ 0 → ⊥) → Put s q (99 ∷ (117 ∷ (116 ∷ (10 ∷ [])))) → Within 86 s q (cut_line left)
unfolding cut_line
cut-some {left = left} h p =
    rw (pick-false {A = List ℕ} (eqb left 0) [] (99 ∷ (117 ∷ (116 ∷ (10 ∷ [])))) (ne_eqb _ _ h)) (record { put = p; few = omega (arith, p.next) })
