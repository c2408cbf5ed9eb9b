-- Numbers rise within a day, so each is given once; and a strategy that is defined stays.
use Rattle.std.specs.Prelude.{Ok}
use mathlib.Core.Path.{◌≡◌, refl, sym, ◌∙◌, ap, subst}
use mathlib.Core.Bool.{Bool, true, false, not}
use mathlib.Core.Logic.{⊎_elim}
use mathlib.Core.List.Memᴰ
use mathlib.Core.List.{List, [], ◌∷◌, ◌++◌}
use Prim.Native.Nat.{ℕ, ◌+◌, ◌-◌, ◌^◌, ◌≤◌, ◌<◌}
use native.Mathlib.Omega.{arith}
use borrow.Author.Tests.{eq-eqb}
use lib.Dec.{eqb}
use lib.IntN.{pos}
use lib.ListN.{length, get_or}
use lib.Seq.{get_or-set_other}
use Rattle.base.specs.Pick.{pick, pick_all, pick_true}
use Rattle.events.specs.declared.Event.{Event}
use Rattle.events.specs.declared.Event.TheVariants as E
use Rattle.frames.specs.Frames.{read_of}
use Rattle.rules.specs.declared.Strategy.{Strategy}
use Rattle.rules.specs.declared.Entry.{Entry}
use Rattle.rules.specs.declared.LegOrder.{LegOrder}
use Rattle.rules.specs.declared.Quote.{Quote}
use Rattle.rules.specs.declared.State.{State}
use Rattle.rules.specs.State.{no_order, no_strategy, fresh, strategy_at, with_entries, with_orders, with_strategies, with_opened, with_clock, with_last, with_national, with_range, with_nets}
use Rattle.rules.specs.Moves.{Moved, and_then}
use Rattle.rules.specs.Strategies.{held, added as strategy_added, define}
use Rattle.rules.specs.Fills.{cancel_entry}
use Rattle.rules.specs.Auctions.{answer}
use Rattle.rules.specs.Events.{live, live_order, enter, enter_order, on_order, old_sweep, enter_sweep, on_sweep, on_leg_order, cancel_number, on_clock, shut, reopen, on_series}
use Rattle.rules.specs.National.{on_national, on_range}
use Rattle.rules.specs.Given.{strategy_given, order_given, sweep_given, leg_order_given, specialist_given, quote_given}
use Rattle.rules.specs.Refusals.{first_cause, causes, undefined}
use Rattle.rules.specs.Step.{accept}
use Rattle.rules.specs.Records.{cents}
use Rattle.rules.specs.Valid.{Valid}
use Rattle.rules.specs.Totals.{Sent, outcome, after, log_of, run, Terms, Brought, complex, leg, brought, Came, Unknown, is_day_end, ends_day, OneDay}
use Rattle.rules.proofs.Shrinks.{SameStrategy, Shrinks, same-strategy, strategy-trans, specialist-shrinks, cancel-shrinks, answer-shrinks}
use Rattle.rules.proofs.Tables.{behind-length, tally}
use Rattle.rules.proofs.Control.{shrinks-kept, on_order-kept, on_leg_order-kept, cancel_number-kept, on_clock-kept, shut-kept, reopen-kept}
use Rattle.rules.proofs.Validity.{clear, known}
use Rattle.rules.proofs.Laws.{Law, of_units, of_contracts, no_entries, no_orders, of_ratio, of_limit, of_party, of_price, size, come, gone, Good, when-no}
use Rattle.rules.proofs.Steps.{Row, entry_row, leg_row, no_row, added, FitsRow, row_of, sweep-units, size-fresh, good-fresh}
use Rattle.rules.proofs.Lists.{done, Went, refused_as, accepted_as, went, row_in, next, row-refused, row-accepted, refused-moved, accepted-moved, terms_of, brought-row, next-valid, records_of, entered_of, Fitting, run-law, run-good, entered-append, fitting-append, after-valid}

-- WITHIN A DAY
-- the last number given, after what entered
abbrev pub last_by : ℕ → Row → ℕ
last_by m (entry_row e) = e.number
last_by m (leg_row o) = o.number
last_by m no_row = m

-- an event that ends no day: numbers go on, and the strategies defined stay
pub record Goes (b c : State) (r : Row) : Type 0 where
  pub last : c.last ≡ last_by b.last r
  pub defined : b.defined ≤ c.defined
  pub strategy : (k : ℕ) → k < b.defined → SameStrategy (strategy_at b k) (strategy_at c k)

-- one that defines none either
pub record Kin (b c : State) (r : Row) : Type 0 where
  pub last : c.last ≡ last_by b.last r
  pub defined : c.defined ≡ b.defined
  pub strategy : (k : ℕ) → SameStrategy (strategy_at b k) (strategy_at c k)

kin-goes : {b c : State} {r : Row} → Kin b c r → Goes b c r
kin-goes k = record { last = k.last; defined = omega (arith, k.defined); strategy = λ i h. k.strategy i }

kin-still : (b : State) → Kin b b no_row
kin-still b = record { last = refl; defined = refl; strategy = λ k. same-strategy _ }

goes-still : (b : State) → Goes b b no_row
goes-still b = kin-goes (kin-still b)

-- a move from a state in which what entered stands
kin-shrinks : (b a c : State) (r : Row) → a.strategies ≡ b.strategies → a.defined ≡ b.defined → a.last ≡ last_by b.last r → Shrinks a c → Kin b c r
kin-shrinks b a c r p q l h = record {
  last = h.last ∙ l;
  defined = h.defined ∙ q;
  strategy = λ k. subst (λ (ss : List Strategy). SameStrategy (get_or ss k no_strategy) (strategy_at c k)) p (h.strategy k);
}

kin-order : (b : State) (e : Entry) → length b.orders ≡ 32 → Kin b (on_order e b).state (entry_row e)
unfolding enter with_last with_entries
kin-order b e n = kin-shrinks b (enter e b) (on_order e b).state (entry_row e) refl refl refl (on_order-kept shrinks-kept e b n)

kin-leg : (b : State) (o : LegOrder) → Kin b (on_leg_order o b).state (leg_row o)
unfolding enter_order with_last with_orders
kin-leg b o = kin-shrinks b (enter_order o b) (on_leg_order o b).state (leg_row o) refl refl refl (on_leg_order-kept shrinks-kept o b (behind-length live_order no_order o b.orders))

kin-clock : (b : State) (t : ℕ) → length b.orders ≡ 32 → Kin b (on_clock t b).state no_row
unfolding with_clock
kin-clock b t n = kin-shrinks b (with_clock b t) (on_clock t b).state no_row refl refl refl (on_clock-kept shrinks-kept t b n)

kin-series : (b : State) (s state : ℕ) → length b.orders ≡ 32 → Kin b (on_series s state b).state no_row
unfolding on_series with_opened
kin-series b s state n =
    let P : Moved → Type 0 = λ (m : Moved). Kin b m.state no_row in
    pick_all P _
    (pick_all P _ (kin-shrinks b (with_opened b (b.opened - 2 ^ s)) (shut s b).state no_row refl refl refl (shut-kept shrinks-kept s b n)) (kin-still b))
    (pick_all P _ (kin-still b) (kin-shrinks b (with_opened b (b.opened + 2 ^ s)) (reopen s b).state no_row refl refl refl (reopen-kept shrinks-kept s b n)))

kin-entered : (b a : State) (e : Entry) → Shrinks b a → Kin b (answer e.strategy e.side (enter e a)) (entry_row e)
unfolding enter with_last with_entries
kin-entered b a e h =
    let k = answer-shrinks (enter e a) e.strategy e.side in
    record {
      last = k.last;
      defined = k.defined ∙ h.defined;
      strategy = λ j. strategy-trans (h.strategy j) (k.strategy j);
    }

kin-sweep : (b : State) (e : Entry) (t : Bool) → live e ≡ not t → Kin b (on_sweep e b).state (pick t no_row (entry_row e))
unfolding on_sweep enter_sweep and_then pick
kin-sweep b e true h = rw h (kin-shrinks b b (cancel_entry (old_sweep b e) b).state no_row refl refl refl (cancel-shrinks b (old_sweep b e)))
kin-sweep b e false h = rw h (kin-entered b (cancel_entry (old_sweep b e) b).state e (cancel-shrinks b (old_sweep b e)))

kin-national : (b : State) (s : ℕ) (q : Quote) → Kin b (on_national s q b) no_row
unfolding on_national with_national
kin-national b s q = record { last = refl; defined = refl; strategy = λ k. same-strategy (strategy_at b k) }

kin-range : (b : State) (r : ℕ) → Kin b (on_range r b) no_row
unfolding on_range with_range
kin-range b r = record { last = refl; defined = refl; strategy = λ k. same-strategy (strategy_at b k) }

-- an event that neither defines a strategy nor ends a day
abbrev pub Plain : Event → Type 0
Plain (E.Strategy e) = ⊥
Plain (E.Order e) = Unit {0}
Plain (E.Sweep e) = Unit {0}
Plain (E.LegOrder e) = Unit {0}
Plain (E.Cancel e) = Unit {0}
Plain (E.Series e) = Unit {0}
Plain (E.Clock e) = Unit {0}
Plain (E.DayEnd e) = ⊥
Plain (E.National e) = Unit {0}
Plain (E.Range e) = Unit {0}
Plain (E.Specialist e) = Unit {0}

pub accept-kin : (b : State) (e : Event) → length b.orders ≡ 32 → Plain e → Kin b (accept b e).state (row_of b e)
unfolding accept
accept-kin b (E.Strategy e) n p = absurd p
accept-kin b (E.Order e) n p = kin-order b (order_given b e) n
accept-kin b (E.Sweep e) n p = kin-sweep b (sweep_given b e) (eqb e.units 0) (sweep-units b e)
accept-kin b (E.LegOrder e) n p = kin-leg b (leg_order_given b e)
accept-kin b (E.Cancel e) n p = kin-shrinks b b (cancel_number e.number b).state no_row refl refl refl (cancel_number-kept shrinks-kept e.number b n)
accept-kin b (E.Series e) n p = kin-series b e.series e.state n
accept-kin b (E.Clock e) n p = kin-clock b e.time n
accept-kin b (E.DayEnd e) n p = absurd p
accept-kin b (E.National e) n p = kin-national b e.series (quote_given e)
accept-kin b (E.Range e) n p = kin-range b e.range
accept-kin b (E.Specialist e) n p = kin-shrinks b b _ no_row refl refl refl (specialist-shrinks e.strategy (specialist_given e) b)

goes-define : (b : State) (t : Strategy) → Goes b (define t b) no_row
unfolding define strategy_added with_strategies with_nets
goes-define b t =
    pick_all (λ (c : State). Goes b c no_row) (held b t) (goes-still b)
    (record {
      last = refl;
      defined = omega arith;
      strategy = λ k h. rw (get_or-set_other b.strategies b.defined k t no_strategy (λ (z : k ≡ b.defined). omega arith)) (same-strategy _);
    })

accept-goes : (b : State) (e : Event) → length b.orders ≡ 32 → is_day_end (Ok e) ≡ false → Goes b (accept b e).state (row_of b e)
unfolding accept is_day_end
accept-goes b (E.Strategy e) n h = goes-define b (strategy_given e)
accept-goes b (E.Order e) n h = kin-goes (accept-kin b (E.Order e) n tt)
accept-goes b (E.Sweep e) n h = kin-goes (accept-kin b (E.Sweep e) n tt)
accept-goes b (E.LegOrder e) n h = kin-goes (accept-kin b (E.LegOrder e) n tt)
accept-goes b (E.Cancel e) n h = kin-goes (accept-kin b (E.Cancel e) n tt)
accept-goes b (E.Series e) n h = kin-goes (accept-kin b (E.Series e) n tt)
accept-goes b (E.Clock e) n h = kin-goes (accept-kin b (E.Clock e) n tt)
accept-goes b (E.DayEnd e) n h = absurd (let z : ◌≡◌ {A = ℕ} 0 1 = cc in omega arith)
accept-goes b (E.National e) n h = kin-goes (accept-kin b (E.National e) n tt)
accept-goes b (E.Range e) n h = kin-goes (accept-kin b (E.Range e) n tt)
accept-goes b (E.Specialist e) n h = kin-goes (accept-kin b (E.Specialist e) n tt)

-- what enters is under the next number, and a complex order or sweep in a strategy that is defined
abbrev pub Numbered : State → Row → Type 0
Numbered b (entry_row e) = (e.number ≡ b.last + 1) × (e.strategy < b.defined)
Numbered b (leg_row o) = o.number ≡ b.last + 1
Numbered b no_row = Unit {0}

accept-numbered : (b : State) (e : Event) → first_cause (causes b e) ≡ 0 → Numbered b (row_of b e)
unfolding causes order_given sweep_given leg_order_given
accept-numbered b (E.Strategy e) c = tt
accept-numbered b (E.Order e) c = (refl, known b e.strategy (clear 4 (undefined b e.strategy) _ (omega arith) c).0)
accept-numbered b (E.Sweep e) c = pick_all (Numbered b) (eqb e.units 0) tt (refl, known b e.strategy (clear 4 (undefined b e.strategy) _ (omega arith) c).0)
accept-numbered b (E.LegOrder e) c = refl
accept-numbered b (E.Cancel e) c = tt
accept-numbered b (E.Series e) c = tt
accept-numbered b (E.Clock e) c = tt
accept-numbered b (E.DayEnd e) c = tt
accept-numbered b (E.National e) c = tt
accept-numbered b (E.Range e) c = tt
accept-numbered b (E.Specialist e) c = tt

pub ends-accepted : (b : State) (x : Sent) (e : Event) → read_of x.frame ≡ Ok e → outcome b x ≡ done b e → ends_day (log_of x (outcome b x)) ≡ is_day_end (Ok e)
unfolding ends_day
ends-accepted b x e p q = rw (p, q) (pick_true _ _ _ (eq-eqb 0 0 refl))

pub outcome-goes : (b : State) (x : Sent) → Valid b → ends_day (log_of x (outcome b x)) ≡ false → Goes b (next b x) (row_in b x)
outcome-goes b x v d = go (went b x)
  where
    go : Went b x → Goes b (next b x) (row_in b x)
    go (refused_as n h e) = rw (row-refused b x n h e) (subst (λ (m : Moved). Goes b m.state no_row) (sym (refused-moved b x n e)) (goes-still b))
    go (accepted_as e p c q) = rw (row-accepted b x e p q) (subst (λ (m : Moved). Goes b m.state (row_of b e)) (sym (accepted-moved b x e q)) (accept-goes b e v.sound.order_rows (sym (ends-accepted b x e p q) ∙ d)))

pub outcome-numbered : (b : State) (x : Sent) → Numbered b (row_in b x)
outcome-numbered b x = go (went b x)
  where
    go : Went b x → Numbered b (row_in b x)
    go (refused_as n h e) = rw (row-refused b x n h e) tt
    go (accepted_as e p c q) = rw (row-accepted b x e p q) (accept-numbered b e c)

-- the last number never falls
last-rises : (b c : State) (r : Row) → Numbered b r → Goes b c r → b.last ≤ c.last
last-rises b c (entry_row e) n g = omega (arith, g.last, n.0)
last-rises b c (leg_row o) n g = omega (arith, g.last)
last-rises b c no_row n g = omega (arith, g.last)

pub next-rises : (b : State) (x : Sent) → Valid b → ends_day (log_of x (outcome b x)) ≡ false → b.last ≤ (next b x).last
next-rises b x v d = last-rises b (next b x) (row_in b x) (outcome-numbered b x) (outcome-goes b x v d)

-- DAYS
-- events of which none ends a day
abbrev pub Open : State → List Sent → Type 0
Open b [] = Unit {0}
Open b (x ∷ xs) = (ends_day (log_of x (outcome b x)) ≡ false) × Open (next b x) xs

pub one-day-split : (b : State) (xs : List Sent) (y : Sent) (ys : List Sent) → OneDay (run b (xs ++ (y ∷ ys))) → Open b xs × OneDay (run (after b xs) (y ∷ ys))
unfolding run after
one-day-split b [] y ys d = (tt, d)
one-day-split b (x ∷ []) y ys d = ((d.0, tt), d.1)
one-day-split b (x ∷ (z ∷ zs)) y ys d =
    let r = one-day-split (next b x) (z ∷ zs) y ys d.1 in
    ((d.0, r.0), r.1)

pub open-day : (b : State) (xs : List Sent) → Open b xs → OneDay (run b xs)
unfolding run
open-day b [] o = tt
open-day b (x ∷ []) o = tt
open-day b (x ∷ (y ∷ ys)) o = (o.0, open-day (next b x) (y ∷ ys) o.1)

pub after-rises : (b : State) (xs : List Sent) → Valid b → Open b xs → b.last ≤ (after b xs).last
unfolding after
after-rises b [] v d = omega arith
after-rises b (x ∷ xs) v d = omega (arith, next-rises b x v d.0, after-rises (next b x) xs (next-valid b x v) d.1)

-- A NUMBER THAT IS NOT GIVEN
abbrev pub NotRow : ℕ → Row → Type 0
NotRow n (entry_row e) = e.number ≡ n → ⊥
NotRow n (leg_row o) = o.number ≡ n → ⊥
NotRow n no_row = Unit {0}

abbrev pub Apart : ℕ → State → List Sent → Type 0
Apart n b [] = Unit {0}
Apart n b (x ∷ xs) = NotRow n (row_in b x) × Apart n (next b x) xs

not-row : (n : ℕ) (b : State) (r : Row) → Numbered b r → (b.last + 1 ≡ n → ⊥) → NotRow n r
not-row n b (entry_row e) h k = λ z. k (omega (arith, h.0))
not-row n b (leg_row o) h k = λ z. k (omega arith)
not-row n b no_row h k = tt

-- one that was given before
pub apart-after : (n : ℕ) (b : State) (xs : List Sent) → Valid b → OneDay (run b xs) → n ≤ b.last → Apart n b xs
unfolding run
apart-after n b [] v d h = tt
apart-after n b (x ∷ []) v d h = (not-row n b (row_in b x) (outcome-numbered b x) (λ z. omega arith), tt)
apart-after n b (x ∷ (y ∷ ys)) v d h =
    (not-row n b (row_in b x) (outcome-numbered b x) (λ z. omega arith), apart-after n (next b x) (y ∷ ys) (next-valid b x v) d.1 (omega (arith, next-rises b x v d.0)))

-- one that is given later
row_last : (n : ℕ) (b c : State) (r : Row) → Goes b c r → c.last < n → NotRow n r
row_last n b c (entry_row e) g h = λ z. omega (arith, g.last)
row_last n b c (leg_row o) g h = λ z. omega (arith, g.last)
row_last n b c no_row g h = tt

pub apart-before : (n : ℕ) (b : State) (xs : List Sent) → Valid b → Open b xs → (after b xs).last < n → Apart n b xs
unfolding after
apart-before n b [] v d h = tt
apart-before n b (x ∷ xs) v d h = (
  row_last n b (next b x) (row_in b x) (outcome-goes b x v d.0) (omega (arith, after-rises (next b x) xs (next-valid b x v) d.1)),
  apart-before n (next b x) xs (next-valid b x v) d.1 h,
)

-- one that no event of the list gave
not-brought : (n : ℕ) (r : Row) → ((w : Terms) (k : ℕ) → w.number ≡ n → terms_of r ≡ complex w k → ⊥) → ((w : Terms) → w.number ≡ n → terms_of r ≡ leg w → ⊥) → NotRow n r
not-brought n (entry_row e) f g = λ z. f _ _ z refl
not-brought n (leg_row o) f g = λ z. g _ z refl
not-brought n no_row f g = tt

pub apart-unknown : (n : ℕ) (b : State) (xs : List Sent) → Unknown n (run b xs) → Apart n b xs
unfolding run
apart-unknown n b [] u = tt
apart-unknown n b (x ∷ xs) u = (
  not-brought n (row_in b x) (λ w k e p. u.complex w k e (Memᴰ.head (sym (brought-row b x ∙ p)))) (λ w e p. u.leg w e (Memᴰ.head (sym (brought-row b x ∙ p)))),
  apart-unknown n (next b x) xs (record { complex = λ w k e m. u.complex w k e (Memᴰ.tail m); leg = λ w e m. u.leg w e (Memᴰ.tail m) }),
)

-- the laws of one number ask nothing of other numbers, and get nothing from them
pub data About (n : ℕ) : Law → Type 0 where
  a-units : About n (of_units n)
  a-contracts : About n (of_contracts n)
  a-no_entries : About n (no_entries n)
  a-no_orders : About n (no_orders n)
  a-ratio : (s x : ℕ) → About n (of_ratio n s x)
  a-limit : (side limit : ℕ) → About n (of_limit n side limit)
  a-party : (k side : ℕ) → About n (of_party n k side)
  a-price : (s side price : ℕ) → About n (of_price n s side price)

other_row : {n : ℕ} {l : Law} → About n l → (b : State) (r : Row) → NotRow n r → (added l r ≡ 0) × FitsRow l b r
other_row {n} a-units b (entry_row e) h = (when-no e.number n e.units h, tt)
other_row {n} a-units b (leg_row o) h = (refl, tt)
other_row {n} a-units b no_row h = (refl, tt)
other_row {n} a-contracts b (entry_row e) h = (refl, tt)
other_row {n} a-contracts b (leg_row o) h = (when-no o.number n o.contracts h, tt)
other_row {n} a-contracts b no_row h = (refl, tt)
other_row {n} a-no_entries b (entry_row e) h = (refl, h)
other_row {n} a-no_entries b (leg_row o) h = (refl, tt)
other_row {n} a-no_entries b no_row h = (refl, tt)
other_row {n} a-no_orders b (entry_row e) h = (refl, tt)
other_row {n} a-no_orders b (leg_row o) h = (refl, h)
other_row {n} a-no_orders b no_row h = (refl, tt)
other_row {n} (a-ratio s x) b (entry_row e) h = (refl, λ z. absurd (h z))
other_row {n} (a-ratio s x) b (leg_row o) h = (refl, tt)
other_row {n} (a-ratio s x) b no_row h = (refl, tt)
other_row {n} (a-limit side limit) b (entry_row e) h = (refl, λ z. absurd (h z))
other_row {n} (a-limit side limit) b (leg_row o) h = (refl, tt)
other_row {n} (a-limit side limit) b no_row h = (refl, tt)
other_row {n} (a-party k side) b (entry_row e) h = (refl, λ z. absurd (h z))
other_row {n} (a-party k side) b (leg_row o) h = (refl, tt)
other_row {n} (a-party k side) b no_row h = (refl, tt)
other_row {n} (a-price s side price) b (entry_row e) h = (refl, tt)
other_row {n} (a-price s side price) b (leg_row o) h = (refl, λ z. absurd (h z))
other_row {n} (a-price s side price) b no_row h = (refl, tt)

pub record Quiet (l : Law) (b : State) (xs : List Sent) : Type 0 where
  pub none : entered_of l b xs ≡ 0
  pub fitting : Fitting l b xs

pub quiet : {n : ℕ} {l : Law} → About n l → (b : State) (xs : List Sent) → Apart n b xs → Quiet l b xs
unfolding entered_of
quiet a b [] h = record { none = refl; fitting = tt }
quiet {n} {l} a b (x ∷ xs) h =
    let r = other_row a b (row_in b x) h.0 in
    let q : Quiet l (next b x) xs = quiet a (next b x) xs h.1 in
    record { none = omega (arith, r.0, q.none); fitting = (r.1, q.fitting) }

-- THE EVENT THAT BROUGHT SOMETHING IN, those before it and those after
pub record Found (w : Brought) (b : State) (xs : List Sent) : Type 0 where
  pub before : List Sent
  pub event : Sent
  pub behind : List Sent
  pub is : xs ≡ before ++ (event ∷ behind)
  pub row : terms_of (row_in (after b before) event) ≡ w

pub found : (w : Brought) (b : State) (xs : List Sent) → Came w (run b xs) → Found w b xs
unfolding run after
found w b [] m = absurd (Memᴰ.not-nil m)
found w b (x ∷ xs) m = ⊎_elim here (λ k. later (found w (next b x) xs k)) (Memᴰ.cases_cons m)
  where
    here : w ≡ brought (log_of x (outcome b x)) → Found w b (x ∷ xs)
    here e = record { before = []; event = x; behind = xs; is = refl; row = sym (brought-row b x) ∙ sym e }

    later : Found w (next b x) xs → Found w b (x ∷ xs)
    later f = record { before = x ∷ f.before; event = f.event; behind = f.behind; is = ap (λ (l : List Sent). x ∷ l) f.is; row = f.row }

-- A LAW OVER A LIST
-- no event of the list has to do with it
pub law-quiet : (l : Law) (timer : ℕ) (xs : List Sent) → Valid (fresh timer) → Quiet l (fresh timer) xs →
    tally (come l) (records_of (fresh timer) xs) ≡ tally (gone l) (records_of (fresh timer) xs) + size l (after (fresh timer) xs)
law-quiet l timer xs v q = omega (arith, run-law l (fresh timer) xs v (good-fresh l timer) q.fitting, q.none, size-fresh l timer)

-- after the event that gave a number it is not given
apart-behind : (n : ℕ) (c : State) (x : Sent) (ys : List Sent) → Valid c → OneDay (run c (x ∷ ys)) → last_by c.last (row_in c x) ≡ n → Apart n (next c x) ys
unfolding run
apart-behind n c x [] v d e = tt
apart-behind n c x (y ∷ ys) v d e = apart-after n (next c x) (y ∷ ys) (next-valid c x v) d.1 (omega (arith, (outcome-goes c x v d.0).last))

-- the events before the one that gave a number, and those behind it, have nothing to do with its laws
record Its (l : Law) (timer : ℕ) (ys : List Sent) (x : Sent) (zs : List Sent) : Type 0 where
  before : entered_of l (fresh timer) ys ≡ 0
  behind : entered_of l (next (after (fresh timer) ys) x) zs ≡ 0
  fitting : Fitting l (fresh timer) (ys ++ (x ∷ zs))

module _ {n : ℕ} {l : Law} (a : About n l) (timer : ℕ) (ys : List Sent) (x : Sent) (zs : List Sent) (v : Valid (fresh timer)) (day : OneDay (run (fresh timer) (ys ++ (x ∷ zs))))
    (e : last_by (after (fresh timer) ys).last (row_in (after (fresh timer) ys) x) ≡ n) (h : (after (fresh timer) ys).last < n) (f : FitsRow l (after (fresh timer) ys) (row_in (after (fresh timer) ys) x)) where
  its : Its l timer ys x zs
  its =
      let b : State = fresh timer in
      let c : State = after b ys in
      let d = one-day-split b ys x zs day in
      let p : Quiet l b ys = quiet a b ys (apart-before n b ys v d.0 h) in
      let q : Quiet l (next c x) zs = quiet a (next c x) zs (apart-behind n c x zs (after-valid b ys v) d.1 e) in
      record { before = p.none; behind = q.none; fitting = fitting-append l b ys (x ∷ zs) p.fitting (f, q.fitting) }

  law-at : added l (row_in (after (fresh timer) ys) x) + tally (come l) (records_of (fresh timer) (ys ++ (x ∷ zs)))
      ≡ tally (gone l) (records_of (fresh timer) (ys ++ (x ∷ zs))) + size l (after (fresh timer) (ys ++ (x ∷ zs)))
  unfolding entered_of
  law-at = omega (arith, run-law l (fresh timer) (ys ++ (x ∷ zs)) v (good-fresh l timer) its.fitting, entered-append l (fresh timer) ys (x ∷ zs), its.before, its.behind, size-fresh l timer)

  good-at : Good l (after (fresh timer) (ys ++ (x ∷ zs)))
  good-at = run-good l (fresh timer) (ys ++ (x ∷ zs)) v (good-fresh l timer) its.fitting

-- what a list brought in, as a row of the state before it
pub record Entered (timer : ℕ) (xs : List Sent) (r : Row) : Type 0 where
  pub before : State
  pub law : {n : ℕ} {l : Law} → About n l → last_by before.last r ≡ n → before.last < n → FitsRow l before r →
      added l r + tally (come l) (records_of (fresh timer) xs) ≡ tally (gone l) (records_of (fresh timer) xs) + size l (after (fresh timer) xs)
  pub good : {n : ℕ} {l : Law} → About n l → last_by before.last r ≡ n → before.last < n → FitsRow l before r → Good l (after (fresh timer) xs)
  pub numbered : Numbered before r
  pub valid : Valid before
  pub prefix : List Sent
  pub suffix : List Sent
  pub is : xs ≡ prefix ++ suffix
  pub at : before ≡ after (fresh timer) prefix
  pub day : Open (fresh timer) prefix × OneDay (run (after (fresh timer) prefix) suffix)

pub entered : (timer : ℕ) (xs : List Sent) → Valid (fresh timer) → OneDay (run (fresh timer) xs) → {w : Brought} (f : Found w (fresh timer) xs) → Entered timer xs (row_in (after (fresh timer) f.before) f.event)
entered timer xs v day {w} f = record {
  before = after (fresh timer) f.before;
  law = λ {n} {l} a e h k. subst (λ (ys : List Sent).
      added l (row_in (after (fresh timer) f.before) f.event) + tally (come l) (records_of (fresh timer) ys) ≡ tally (gone l) (records_of (fresh timer) ys) + size l (after (fresh timer) ys))
      (sym f.is) (law-at a timer f.before f.event f.behind v (subst (λ (ys : List Sent). OneDay (run (fresh timer) ys)) f.is day) e h k);
  good = λ {n} {l} a e h k. subst (λ (ys : List Sent). Good l (after (fresh timer) ys)) (sym f.is)
      (good-at a timer f.before f.event f.behind v (subst (λ (ys : List Sent). OneDay (run (fresh timer) ys)) f.is day) e h k);
  numbered = outcome-numbered (after (fresh timer) f.before) f.event;
  valid = after-valid (fresh timer) f.before v;
  prefix = f.before;
  suffix = f.event ∷ f.behind;
  is = f.is;
  at = refl;
  day = one-day-split (fresh timer) f.before f.event f.behind (subst (λ (ys : List Sent). OneDay (run (fresh timer) ys)) f.is day);
}

-- an order or sweep that came
pub record CameEntry (timer : ℕ) (xs : List Sent) (w : Terms) (k : ℕ) : Type 0 where
  pub entry : Entry
  pub number : entry.number ≡ w.number
  pub units : entry.units ≡ w.quantity
  pub side : entry.side ≡ w.side
  pub limit : cents entry.level ≡ w.limit
  pub strategy : entry.strategy ≡ k
  pub entered : Entered timer xs (entry_row entry)

-- a leg order that came
pub record CameOrder (timer : ℕ) (xs : List Sent) (w : Terms) : Type 0 where
  pub order : LegOrder
  pub number : order.number ≡ w.number
  pub contracts : order.contracts ≡ w.quantity
  pub side : order.side ≡ w.side
  pub limit : pos order.price ≡ w.limit
  pub entered : Entered timer xs (leg_row order)

entry-terms : (timer : ℕ) (xs : List Sent) (w : Terms) (k : ℕ) (r : Row) → terms_of r ≡ complex w k → Entered timer xs r → CameEntry timer xs w k
entry-terms timer xs w k (entry_row e) p i = record { entry = e; number = cc; units = cc; side = cc; limit = cc; strategy = cc; entered = i }
entry-terms timer xs w k (leg_row o) p i = absurd (let z : ◌≡◌ {A = ℕ} 0 1 = cc in omega arith)
entry-terms timer xs w k no_row p i = absurd (let z : ◌≡◌ {A = ℕ} 0 1 = cc in omega arith)

order-terms : (timer : ℕ) (xs : List Sent) (w : Terms) (r : Row) → terms_of r ≡ leg w → Entered timer xs r → CameOrder timer xs w
order-terms timer xs w (entry_row e) p i = absurd (let z : ◌≡◌ {A = ℕ} 0 1 = cc in omega arith)
order-terms timer xs w (leg_row o) p i = record { order = o; number = cc; contracts = cc; side = cc; limit = cc; entered = i }
order-terms timer xs w no_row p i = absurd (let z : ◌≡◌ {A = ℕ} 0 1 = cc in omega arith)

module _ (timer : ℕ) (xs : List Sent) (v : Valid (fresh timer)) (day : OneDay (run (fresh timer) xs)) where
  pub came-entry : (w : Terms) (k : ℕ) → Came (complex w k) (run (fresh timer) xs) → CameEntry timer xs w k
  came-entry w k m =
      let f : Found (complex w k) (fresh timer) xs = found (complex w k) (fresh timer) xs m in
      entry-terms timer xs w k _ f.row (entered timer xs v day f)

  pub came-order : (w : Terms) → Came (leg w) (run (fresh timer) xs) → CameOrder timer xs w
  came-order w m =
      let f : Found (leg w) (fresh timer) xs = found (leg w) (fresh timer) xs m in
      order-terms timer xs w _ f.row (entered timer xs v day f)
