-- One event, accepted or refused, and then a list of them: what entered and came is what went and is there at the end.
use Rattle.std.specs.Prelude.{Result, Ok, Err}
use mathlib.Core.Path.{◌≡◌, refl, sym, ◌∙◌, ap, subst}
use mathlib.Core.Bool.{Bool, true, false}
use mathlib.Core.List.Memᴰ
use mathlib.Core.List.{List, [], ◌∷◌, ◌++◌, map, Memᴰ}
use Prim.Native.Nat.{ℕ, ◌+◌}
use native.Mathlib.Omega.{arith}
use borrow.Author.Tests.{eqb-true, eqb-false, eq-eqb, ne_eqb}
use lib.Dec.{eqb, ltb}
use lib.IntN.{pos}
use Rattle.base.specs.Pick.{pick, pick_all, pick_true, pick-false}
use Rattle.base.specs.Walks.{clash}
use Rattle.events.specs.Refusals.{refusal_number, refusal-some}
use Rattle.events.specs.declared.Refusal.{Refusal}
use Rattle.events.specs.declared.Event.{Event}
use Rattle.events.specs.declared.Event.TheVariants as E
use Rattle.events.specs.declared.Sweep.{Sweep as GivenSweep}
use Rattle.frames.specs.Frames.{read_of}
use Rattle.rules.specs.declared.State.{State}
use Rattle.rules.specs.declared.Record.{Record}
use Rattle.rules.specs.Moves.{still}
use Rattle.rules.specs.Given.{order_given, sweep_given, leg_order_given}
use Rattle.rules.specs.Refusals.{first_cause, causes, read_causes, table_of, refusal}
use Rattle.rules.specs.Step.{Outcome, value_of, accept, refused, perform, refuse_or_perform, step}
use Rattle.rules.specs.Records.{line_of, cents}
use Rattle.rules.specs.Valid.{Valid}
use Rattle.rules.specs.Totals.{Sent, Logged, outcome, after, log_of, run, lines_of, Brought, complex, leg, nothing, enters, enters_read, brought}
use Rattle.rules.specs.Fits.{FitEvent, FitReading}
use Rattle.rules.proofs.Ranges.{reading-fit}
use Rattle.rules.proofs.Validity.{clear, valid-step}
use Rattle.rules.proofs.Tables.{tally, tally-append}
use Rattle.rules.proofs.Laws.{Law, size, come, gone, Good}
use Rattle.rules.proofs.Steps.{Row, entry_row, leg_row, no_row, added, FitsRow, Books, books-still, row_of, accept-books}

-- WHAT BECAME OF AN EVENT
abbrev pub done : State → Event → Outcome
done b e = record { answer = 0; value = value_of b e; moved = accept b e }

pub data Went (b : State) (x : Sent) : Type 0 where
  refused_as : (n : ℕ) → (n ≡ 0 → ⊥) → outcome b x ≡ refused n b → Went b x
  accepted_as : (e : Event) → read_of x.frame ≡ Ok e → first_cause (causes b e) ≡ 0 → outcome b x ≡ done b e → Went b x

-- a frame that was refused as it was read is refused
read-refused : (b : State) (r : Refusal) (space : ℕ) → refusal b (Err r) space ≡ 0 → ⊥
unfolding refusal table_of read_causes
read-refused b r space z =
    let x = clear 1 (ltb space 15_360) _ (omega arith) z in
    let y = clear (refusal_number r) true _ (refusal-some r) x.1 in
    clash refl y.0

went-accepted : (b : State) (x : Sent) (r : Result Event Refusal) → read_of x.frame ≡ r → outcome b x ≡ perform b r → refusal b r x.space ≡ 0 → Went b x
unfolding perform refusal table_of read_causes
went-accepted b x (Ok e) p q z = accepted_as e p (clear 1 (ltb x.space 15_360) (causes b e) (omega arith) z).1 q
went-accepted b x (Err r) p q z = absurd (read-refused b r x.space z)

outcome-yes : (b : State) (x : Sent) → eqb (refusal b (read_of x.frame) x.space) 0 ≡ true → outcome b x ≡ perform b (read_of x.frame)
unfolding outcome step refuse_or_perform
outcome-yes b x t = pick_true _ _ _ t

outcome-no : (b : State) (x : Sent) → eqb (refusal b (read_of x.frame) x.space) 0 ≡ false → outcome b x ≡ refused (refusal b (read_of x.frame) x.space) b
unfolding outcome step refuse_or_perform
outcome-no b x t = pick-false _ _ _ t

pub went : (b : State) (x : Sent) → Went b x
went b x = go (eqb (refusal b (read_of x.frame) x.space) 0) refl
  where
    go : (t : Bool) → eqb (refusal b (read_of x.frame) x.space) 0 ≡ t → Went b x
    go true t = went-accepted b x (read_of x.frame) refl (outcome-yes b x t) (eqb-true _ _ t)
    go false t = refused_as (refusal b (read_of x.frame) x.space) (eqb-false _ _ t) (outcome-no b x t)

-- what two readings of one event are
pub event-same : {e f : Event} → ◌≡◌ {A = Result Event Refusal} (Ok e) (Ok f) → e ≡ f
event-same h = cc

pub event-fits : (x : Sent) (e : Event) → read_of x.frame ≡ Ok e → FitEvent e
event-fits x e p = subst FitReading p (reading-fit x.frame)

-- THE ROW that an event brought in
unfoldable pub row_read : State → Result Event Refusal → Row
row_read b (Ok e) = row_of b e
row_read b (Err r) = no_row

unfoldable pub row_in : State → Sent → Row
row_in b x = pick (eqb (outcome b x).answer 0) (row_read b (read_of x.frame)) no_row

abbrev pub next : State → Sent → State
next b x = (outcome b x).moved.state

module _ (b : State) (x : Sent) where
  pub row-refused : (n : ℕ) → (n ≡ 0 → ⊥) → outcome b x ≡ refused n b → row_in b x ≡ no_row
  unfolding row_in refused
  row-refused n h e = pick-false _ _ _ (ap (λ (o : Outcome). eqb o.answer 0) e ∙ ne_eqb n 0 h)

  pub row-accepted : (e : Event) → read_of x.frame ≡ Ok e → outcome b x ≡ done b e → row_in b x ≡ row_of b e
  unfolding row_in row_read
  row-accepted e p q = pick_true _ _ _ (ap (λ (o : Outcome). eqb o.answer 0) q ∙ eq-eqb 0 0 refl) ∙ rw p

  pub refused-moved : (n : ℕ) → outcome b x ≡ refused n b → (outcome b x).moved ≡ still b
  unfolding refused
  refused-moved n e = rw e

  pub accepted-moved : (e : Event) → outcome b x ≡ done b e → (outcome b x).moved ≡ accept b e
  accepted-moved e p = rw p

-- what is logged of it: a number, a quantity, a side and a limit
abbrev pub terms_of : Row → Brought
terms_of (entry_row e) = complex (record { number = e.number; quantity = e.units; side = e.side; limit = cents e.level }) e.strategy
terms_of (leg_row o) = leg (record { number = o.number; quantity = o.contracts; side = o.side; limit = pos o.price })
terms_of no_row = nothing

some_number : (n : ℕ) → eqb (n + 1) 0 ≡ false
some_number n = ne_eqb (n + 1) 0 (λ z. omega arith)

enters-sweep : (b : State) (e : GivenSweep) (t : Bool) → pick (eqb (pick t 0 (b.last + 1)) 0) nothing (enters (E.Sweep e) (pick t 0 (b.last + 1))) ≡ terms_of (pick t no_row (entry_row (sweep_given b e)))
unfolding pick enters sweep_given
enters-sweep b e true = refl
enters-sweep b e false = rw (some_number b.last)

enters-row : (b : State) (e : Event) → enters_read (Ok e) (value_of b e) ≡ terms_of (row_of b e)
unfolding enters_read value_of enters order_given leg_order_given
enters-row b (E.Strategy e) = pick_all (λ (w : Brought). w ≡ nothing) _ refl refl
enters-row b (E.Order e) = pick-false _ _ _ (some_number b.last)
enters-row b (E.Sweep e) = enters-sweep b e (eqb e.units 0)
enters-row b (E.LegOrder e) = pick-false _ _ _ (some_number b.last)
enters-row b (E.Cancel e) = pick_all (λ (w : Brought). w ≡ nothing) _ refl refl
enters-row b (E.Series e) = pick_all (λ (w : Brought). w ≡ nothing) _ refl refl
enters-row b (E.Clock e) = pick_all (λ (w : Brought). w ≡ nothing) _ refl refl
enters-row b (E.DayEnd e) = pick_all (λ (w : Brought). w ≡ nothing) _ refl refl
enters-row b (E.National e) = pick_all (λ (w : Brought). w ≡ nothing) _ refl refl
enters-row b (E.Range e) = pick_all (λ (w : Brought). w ≡ nothing) _ refl refl
enters-row b (E.Specialist e) = pick_all (λ (w : Brought). w ≡ nothing) _ refl refl

brought-refused : (b : State) (x : Sent) (n : ℕ) → (n ≡ 0 → ⊥) → outcome b x ≡ refused n b → brought (log_of x (outcome b x)) ≡ nothing
unfolding brought refused
brought-refused b x n h e = pick-false _ _ _ (ap (λ (o : Outcome). eqb o.answer 0) e ∙ ne_eqb n 0 h)

brought-accepted : (b : State) (x : Sent) (e : Event) → read_of x.frame ≡ Ok e → outcome b x ≡ done b e → brought (log_of x (outcome b x)) ≡ terms_of (row_of b e)
unfolding brought
brought-accepted b x e p q = rw (p, q) (pick_true _ _ _ (eq-eqb 0 0 refl) ∙ enters-row b e)

pub brought-row : (b : State) (x : Sent) → brought (log_of x (outcome b x)) ≡ terms_of (row_in b x)
brought-row b x = go (went b x)
  where
    go : Went b x → brought (log_of x (outcome b x)) ≡ terms_of (row_in b x)
    go (refused_as n h e) = rw (row-refused b x n h e) (brought-refused b x n h e)
    go (accepted_as e p c q) = rw (row-accepted b x e p q) (brought-accepted b x e p q)

-- ONE EVENT of any bytes
pub outcome-books : (l : Law) (b : State) (x : Sent) → Valid b → FitsRow l b (row_in b x) → Good l b → Books l b (added l (row_in b x)) (outcome b x).moved
outcome-books l b x v = go (went b x)
  where
    go : Went b x → FitsRow l b (row_in b x) → Good l b → Books l b (added l (row_in b x)) (outcome b x).moved
    go (refused_as n h e) = rw (row-refused b x n h e, refused-moved b x n e) (λ f g. books-still l b g)
    go (accepted_as e p c q) = rw (row-accepted b x e p q, accepted-moved b x e q) (λ f g. accept-books l b e v (event-fits x e p) c f g)

pub next-valid : (b : State) (x : Sent) → Valid b → Valid (next b x)
unfolding outcome
next-valid b x v = valid-step b v x.frame x.space

-- A LIST
unfoldable pub records_of : State → List Sent → List Record
records_of b [] = []
records_of b (x ∷ xs) = (outcome b x).moved.records ++ records_of (next b x) xs

-- what it added to a law, and what the law asks of what it brought in
unfoldable pub entered_of : Law → State → List Sent → ℕ
entered_of l b [] = 0
entered_of l b (x ∷ xs) = added l (row_in b x) + entered_of l (next b x) xs

abbrev pub Fitting : Law → State → List Sent → Type 0
Fitting l b [] = Unit {0}
Fitting l b (x ∷ xs) = FitsRow l b (row_in b x) × Fitting l (next b x) xs

pub run-law : (l : Law) (b : State) (xs : List Sent) → Valid b → Good l b → Fitting l b xs →
    size l b + entered_of l b xs + tally (come l) (records_of b xs) ≡ tally (gone l) (records_of b xs) + size l (after b xs)
unfolding records_of entered_of after tally
run-law l b [] v g f = omega arith
run-law l b (x ∷ xs) v g f =
    let h : Books l b (added l (row_in b x)) (outcome b x).moved = outcome-books l b x v f.0 g in
    rw (tally-append (come l) (outcome b x).moved.records (records_of (next b x) xs), tally-append (gone l) (outcome b x).moved.records (records_of (next b x) xs))
    (omega (arith, h.sums, run-law l (next b x) xs (next-valid b x v) h.goes_on f.1))

pub run-good : (l : Law) (b : State) (xs : List Sent) → Valid b → Good l b → Fitting l b xs → Good l (after b xs)
unfolding after
run-good l b [] v g f = g
run-good l b (x ∷ xs) v g f = run-good l (next b x) xs (next-valid b x v) (outcome-books l b x v f.0 g).goes_on f.1

-- the lines are those of the records
map-append : {A B : Type 0} (f : A → B) (xs ys : List A) → map f (xs ++ ys) ≡ map f xs ++ map f ys
map-append f [] ys = refl
map-append f (x ∷ xs) ys = rw (map-append f xs ys)

pub lines-records : (b : State) (xs : List Sent) → lines_of (run b xs) ≡ map line_of (records_of b xs)
unfolding lines_of run records_of
lines-records b [] = refl
lines-records b (x ∷ xs) = rw (lines-records (next b x) xs) (sym (map-append line_of (outcome b x).moved.records (records_of (next b x) xs)))

-- A LIST IN TWO PARTS
pub after-append : (b : State) (xs ys : List Sent) → after b (xs ++ ys) ≡ after (after b xs) ys
unfolding after
after-append b [] ys = refl
after-append b (x ∷ xs) ys = after-append (next b x) xs ys

pub entered-append : (l : Law) (b : State) (xs ys : List Sent) → entered_of l b (xs ++ ys) ≡ entered_of l b xs + entered_of l (after b xs) ys
unfolding entered_of after
entered-append l b [] ys = omega arith
entered-append l b (x ∷ xs) ys = omega (arith, entered-append l (next b x) xs ys)

pub fitting-append : (l : Law) (b : State) (xs ys : List Sent) → Fitting l b xs → Fitting l (after b xs) ys → Fitting l b (xs ++ ys)
unfolding after
fitting-append l b [] ys f g = g
fitting-append l b (x ∷ xs) ys f g = (f.0, fitting-append l (next b x) xs ys f.1 g)

pub run-append : (b : State) (xs ys : List Sent) → run b (xs ++ ys) ≡ run b xs ++ run (after b xs) ys
unfolding run after
run-append b [] ys = refl
run-append b (x ∷ xs) ys = ap (λ (l : List Logged). log_of x (outcome b x) ∷ l) (run-append (next b x) xs ys)

-- the records of one of its events
pub records-of : (b : State) (xs : List Sent) (y : Sent) (ys : List Sent) (r : Record) → Memᴰ r (outcome (after b xs) y).moved.records → Memᴰ r (records_of b (xs ++ (y ∷ ys)))
unfolding records_of after
records-of b [] y ys r m = Memᴰ.append_left (records_of (next b y) ys) m
records-of b (x ∷ xs) y ys r m = Memᴰ.append_right (outcome b x).moved.records (records-of (next b x) xs y ys r m)

-- a log in two parts is that of a list in two parts
pub record Divided (b : State) (xs : List Sent) (before : List Logged) (x : Logged) : Type 0 where
  pub prefix : List Sent
  pub event : Sent
  pub suffix : List Sent
  pub is : xs ≡ prefix ++ (event ∷ suffix)
  pub earlier : before ≡ run b prefix
  pub here : x ≡ log_of event (outcome (after b prefix) event)

pub run-divided : (b : State) (xs : List Sent) (before : List Logged) (x : Logged) (behind : List Logged) → run b xs ≡ before ++ (x ∷ behind) → Divided b xs before x
unfolding run after
run-divided b [] [] x behind e = absurd (let z : ◌≡◌ {A = ℕ} 0 1 = cc in omega arith)
run-divided b [] (y ∷ before) x behind e = absurd (let z : ◌≡◌ {A = ℕ} 0 1 = cc in omega arith)
run-divided b (s ∷ xs) [] x behind e = record { prefix = []; event = s; suffix = xs; is = refl; earlier = refl; here = (let z : log_of s (outcome b s) ≡ x = cc in sym z) }
run-divided b (s ∷ xs) (y ∷ before) x behind e =
    let p : log_of s (outcome b s) ≡ y = cc in
    let q : run (next b s) xs ≡ before ++ (x ∷ behind) = cc in
    let d : Divided (next b s) xs before x = run-divided (next b s) xs before x behind q in
    record {
      prefix = s ∷ d.prefix;
      event = d.event;
      suffix = d.suffix;
      is = ap (λ (ys : List Sent). s ∷ ys) d.is;
      earlier = ap (λ (l : Logged). l ∷ before) (sym p) ∙ ap (λ (ls : List Logged). log_of s (outcome b s) ∷ ls) d.earlier;
      here = d.here;
    }

pub after-valid : (b : State) (xs : List Sent) → Valid b → Valid (after b xs)
unfolding after
after-valid b [] v = v
after-valid b (x ∷ xs) v = after-valid (next b x) xs (next-valid b x v)
