-- Every accepted event keeps the accounts: what it brought in and what came by its records, went by them or is there afterwards.
use mathlib.Core.Path.{◌≡◌, refl, sym, ◌∙◌, ap, subst}
use mathlib.Core.Bool.{true, false, not, Bool}
use mathlib.Core.List.{List}
use Prim.Native.Nat.{ℕ, ◌+◌, ◌-◌, ◌^◌, ◌<◌}
use native.Mathlib.Omega.{arith}
use borrow.Author.Tests.{eqb-true, not-false}
use lib.Dec.{eqb}
use lib.ListN.{length, get_or}
use lib.Seq.{get_or-set_other}
use Rattle.base.specs.Pick.{pick, pick_all, pick-by}
use Rattle.base.specs.Walks.{sum-zero, sum_n}
use Rattle.base.specs.All.{all-at, all_replicate}
use Rattle.events.specs.declared.Event.{Event}
use Rattle.events.specs.declared.Event.TheVariants as E
use Rattle.events.specs.declared.Sweep.{Sweep as GivenSweep}
use Rattle.rules.specs.declared.Strategy.{Strategy}
use Rattle.rules.specs.declared.Entry.{Entry}
use Rattle.rules.specs.declared.LegOrder.{LegOrder}
use Rattle.rules.specs.declared.Quote.{Quote}
use Rattle.rules.specs.declared.Specialist.{Specialist}
use Rattle.rules.specs.declared.State.{State}
use Rattle.rules.specs.State.{no_leg, no_entry, no_order, no_strategy, fresh, entry_at, order_at, strategy_at, with_entries, with_orders, with_strategies, with_opened, with_clock, with_last, with_national, with_range, with_nets}
use Rattle.rules.specs.Moves.{Moved, still, and_then, each}
use Rattle.rules.specs.Strategies.{held, added as strategy_added, define}
use Rattle.rules.specs.Fills.{cancel_entry}
use Rattle.rules.specs.Auctions.{answer}
use Rattle.rules.specs.Events.{live, live_order, keep, enter, enter_order, on_order, old_sweep, enter_sweep, on_sweep, on_leg_order, cancel_number, on_clock, shut, reopen, on_series, close_running, cancel_lowest, restart, on_day_end, behind}
use Rattle.rules.specs.National.{on_national, on_range}
use Rattle.rules.specs.Specialists.{on_specialist}
use Rattle.rules.specs.Given.{strategy_given, order_given, sweep_given, leg_order_given, specialist_given, quote_given}
use Rattle.rules.specs.Refusals.{first_cause, causes}
use Rattle.rules.specs.Step.{accept}
use Rattle.rules.specs.Valid.{FitLeg, Sound, Valid}
use Rattle.rules.specs.Totals.{if_same}
use Rattle.rules.proofs.Tables.{sum-tally, behind-tally, behind-live, tally, tally-append, positive}
use Rattle.rules.proofs.Control.{Kept, each-kept, on_order-kept, on_leg_order-kept, cancel_number-kept, on_clock-kept, shut-kept, reopen-kept, close_running-kept, cancel_lowest-kept}
use Rattle.rules.proofs.Entering.{dead-zero, fit_at_lem, fit-entry-at, fit-order-at, fresh-dead, Entering, enter-room, sound-enter, EnteringOrder, enter_order-room, sound-enter_order, none-live, none-order}
use Rattle.rules.proofs.Settled.{strategy-same, cancel-strategies}
use Rattle.rules.proofs.Arrivals.{Sweeping, swept-valid, swept-entering}
use Rattle.rules.specs.Fits.{FitEvent}
use Rattle.rules.proofs.Validity.{order-clear, sweep-clear, leg_order-clear}
use Rattle.rules.proofs.DayEnd.{Finished, day-end-clears}
use Rattle.rules.proofs.Laws.{Law, of_units, of_contracts, no_entries, no_orders, of_series, of_cash, of_ratio, of_limit, of_party, of_price, size, come, gone, FitsEntry, FitsOrder, Good, Steady, Acct, ratio_for, steady-shrinks, good-shrinks, acct-nothing, acct-both, pick-none, measure, measure-by}
use Rattle.rules.proofs.Accounts.{acct-whole, acct-trade, acct-cancel, acct-cancel_order, acct-begins, acct-closes, acct-answers, size_same}
use Rattle.rules.proofs.LegAccounts.{acct-legs}
use Rattle.rules.proofs.Shrinks.{specialist-shrinks}

-- EVERY RULE KEEPS THE ACCOUNTS
pub acct : Kept (λ (b : State) (m : Moved). Steady b → Acct b m)
acct = record {
  nothing = λ b st. acct-nothing b;
  both = λ b x f h k st. acct-both b x f (h st) (k (steady-shrinks (h st).shrinks st));
  whole = λ b a h level q p st. acct-whole b a h level q st p;
  legs = λ b a l st. acct-legs b a st l;
  trade = λ b a h t st. acct-trade b a h st t;
  cancel = λ b i st. acct-cancel b st i;
  cancel_order = λ b i st. acct-cancel_order b st i;
  begins = λ b i st. acct-begins b i;
  closes = λ b k st. acct-closes b k;
  answers = λ b k side st. acct-answers b k side;
}

-- what is sound is steady
pub sound-steady : {b : State} → Sound b → Steady b
sound-steady {b} s = record {
  entry_rows = s.entry_rows;
  order_rows = s.order_rows;
  side = λ i. (fit-entry-at b s i).side;
  order_side = λ i. (fit-order-at b s i).side;
  leg_side = λ k i. (all-at {P = FitLeg} no_leg (record { series = omega arith; side = omega arith; ratio = omega arith }) (fit_at_lem b s k).legs i).side;
  rising = λ k. (fit_at_lem b s k).rising;
}

-- WHAT ENTERS
pub data Row : Type 0 where
  entry_row : Entry → Row
  leg_row : LegOrder → Row
  no_row : Row

abbrev pub add_entry : Law → Entry → ℕ
add_entry l e = measure l (λ (n : ℕ). if_same e.number n e.units) (λ (n : ℕ). 0)

abbrev pub add_order : Law → LegOrder → ℕ
add_order l o = measure l (λ (n : ℕ). 0) (λ (n : ℕ). if_same o.number n o.contracts)

abbrev pub added : Law → Row → ℕ
added l (entry_row e) = add_entry l e
added l (leg_row o) = add_order l o
added l no_row = 0

abbrev pub FitsRow : Law → State → Row → Type 0
FitsRow l b (entry_row e) = FitsEntry l b e
FitsRow l b (leg_row o) = FitsOrder l o
FitsRow l b no_row = Unit {0}

dead-order : (o : LegOrder) → live_order o ≡ false → o.contracts ≡ 0
unfolding live_order
dead-order o h = eqb-true _ 0 (not-false _ h)

when-nil : (x n q : ℕ) → q ≡ 0 → if_same x n q ≡ 0
when-nil x n q e = rw e (pick-none (eqb x n))

-- the quantity of a number in a table in which x stands behind the live rows
behind-number : {A : Type 0} (test : A → Bool) (none : A) (number quantity : A → ℕ) → test none ≡ false → ((y : A) → test y ≡ false → quantity y ≡ 0) →
    (x : A) (l : List A) → length l ≡ 32 → length (keep test l) < 32 → (n : ℕ) →
    sum_n (λ (i : ℕ). if_same (number (get_or (behind test none x l) i none)) n (quantity (get_or (behind test none x l) i none))) 32
    ≡ sum_n (λ (i : ℕ). if_same (number (get_or l i none)) n (quantity (get_or l i none))) 32 + if_same (number x) n (quantity x)
behind-number {A} test none number quantity dead zero x l r h n =
    let w : A → ℕ = λ (y : A). if_same (number y) n (quantity y) in
    let z : (y : A) → test y ≡ false → w y ≡ 0 = λ y t. when-nil (number y) n (quantity y) (zero y t) in
    behind-tally test none x l w dead z h ∙ ap (λ (k : ℕ). k + w x) (sym (sum-tally w none (z none dead) l 32 (omega arith)))

pub enter-size : (l : Law) (b : State) (e : Entry) → length b.entries ≡ 32 → length (keep live b.entries) < 32 → size l (enter e b) ≡ size l b + add_entry l e
unfolding enter with_last with_entries
enter-size l b e r h =
    measure-by (λ (x y z : ℕ). x ≡ y + z) refl l
    (behind-number live no_entry (λ (y : Entry). y.number) (λ (y : Entry). y.units) none-live dead-zero e b.entries r h) (λ n. omega arith)

pub enter_order-size : (l : Law) (b : State) (o : LegOrder) → length b.orders ≡ 32 → length (keep live_order b.orders) < 32 → size l (enter_order o b) ≡ size l b + add_order l o
unfolding enter_order with_last with_orders
enter_order-size l b o r h =
    measure-by (λ (x y z : ℕ). x ≡ y + z) refl l (λ n. omega arith)
    (behind-number live_order no_order (λ (y : LegOrder). y.number) (λ (y : LegOrder). y.contracts) none-order dead-order o b.orders r h)

-- what a law asks of an entry depends on the strategies' legs alone
pub fits-strategies : (l : Law) (b c : State) (e : Entry) → strategy_at c e.strategy ≡ strategy_at b e.strategy → FitsEntry l b e → FitsEntry l c e
fits-strategies (of_units n) b c e h f = tt
fits-strategies (of_contracts n) b c e h f = tt
fits-strategies (no_entries n) b c e h f = f
fits-strategies (no_orders n) b c e h f = tt
fits-strategies (of_series s) b c e h f = tt
fits-strategies of_cash b c e h f = tt
fits-strategies (of_ratio n s x) b c e h f = λ i. ap (λ (t : Strategy). ratio_for t s) h ∙ f i
fits-strategies (of_limit n side limit) b c e h f = f
fits-strategies (of_party n k side) b c e h f = f
fits-strategies (of_price n s side price) b c e h f = tt

good-same : (l : Law) (b c : State) → c.entries ≡ b.entries → c.orders ≡ b.orders → ((i : ℕ) → 0 < (entry_at b i).units → strategy_at c (entry_at b i).strategy ≡ strategy_at b (entry_at b i).strategy) → Good l b → Good l c
good-same l b c p q s g = record {
  entry = λ i. subst (λ (es : List Entry). 0 < (get_or es i no_entry).units → FitsEntry l c (get_or es i no_entry)) (sym p) (λ alive. fits-strategies l b c (entry_at b i) (s i alive) (g.entry i alive));
  order = λ i. rw q (g.order i);
}

pub enter-good : (l : Law) (b : State) (e : Entry) → FitsEntry l b e → Good l b → Good l (enter e b)
unfolding enter with_last with_entries
enter-good l b e f g = record {
  entry = λ i alive. fits-strategies l b (enter e b) (entry_at (enter e b) i) refl
      (behind-live live no_entry (λ (y : Entry). y.units) refl e b.entries (FitsEntry l b) f g.entry i alive);
  order = g.order;
}

pub enter_order-good : (l : Law) (b : State) (o : LegOrder) → FitsOrder l o → Good l b → Good l (enter_order o b)
unfolding enter_order with_last with_orders
enter_order-good l b o f g = record {
  entry = λ i alive. fits-strategies l b (enter_order o b) (entry_at b i) refl (g.entry i alive);
  order = behind-live live_order no_order (λ (y : LegOrder). y.contracts) refl o b.orders (FitsOrder l) f g.order;
}

-- AN EVENT'S EFFECT on a law: what it added, what its records say, and that the law can go on
pub record Books (l : Law) (b : State) (add : ℕ) (m : Moved) : Type 0 where
  pub sums : size l b + add + tally (come l) m.records ≡ tally (gone l) m.records + size l m.state
  pub goes_on : Good l m.state

books-acct : (l : Law) (b c : State) (m : Moved) (add : ℕ) → size l c ≡ size l b + add → Good l c → Acct c m → Books l b add m
books-acct l b c m add e g a = record { sums = omega (arith, a.law l g); goes_on = good-shrinks l a.shrinks g }

pub books-still : (l : Law) (b : State) → Good l b → Books l b 0 (still b)
books-still l b g = books-acct l b b (still b) 0 (omega arith) g (acct-nothing b)

-- a state in which neither table nor a live entry's strategy has changed
books-same : (l : Law) (b c : State) (m : Moved) → c.entries ≡ b.entries → c.orders ≡ b.orders → c.strategies ≡ b.strategies → Steady b → Good l b → (Steady c → Acct c m) → Books l b 0 m
books-same l b c m p q r st g a =
    books-acct l b c m 0 (omega (arith, size_same l b c p q))
    (good-same l b c p q (λ i alive. ap (λ (ss : List Strategy). get_or ss (entry_at b i).strategy no_strategy) r) g)
    (a (record {
      entry_rows = rw p st.entry_rows;
      order_rows = rw q st.order_rows;
      side = rw p st.side;
      order_side = rw q st.order_side;
      leg_side = rw r st.leg_side;
      rising = rw r st.rising;
    }))

module _ (l : Law) (b : State) (s : Sound b) (g : Good l b) where
  books-order : (e : Entry) → Entering b e → FitsEntry l b e → Books l b (add_entry l e) (on_order e b)
  books-order e n f =
      books-acct l b (enter e b) (on_order e b) (add_entry l e) (enter-size l b e s.entry_rows (enter-room b e s n)) (enter-good l b e f g)
      (on_order-kept acct e b (sound-steady (sound-enter b e s n)))

  books-leg : (o : LegOrder) → EnteringOrder b o → FitsOrder l o → Books l b (add_order l o) (on_leg_order o b)
  books-leg o n f =
      books-acct l b (enter_order o b) (on_leg_order o b) (add_order l o) (enter_order-size l b o s.order_rows (enter_order-room b o s n)) (enter_order-good l b o f g)
      (on_leg_order-kept acct o b (sound-steady (sound-enter_order b o s n)))

  books-cancel : (n : ℕ) → Books l b 0 (cancel_number n b)
  books-cancel n = books-acct l b b (cancel_number n b) 0 (omega arith) g (cancel_number-kept acct n b (sound-steady s))

  books-clock : (t : ℕ) → Books l b 0 (on_clock t b)
  unfolding with_clock
  books-clock t = books-same l b (with_clock b t) (on_clock t b) refl refl refl (sound-steady s) g (on_clock-kept acct t b)

  -- national prices and the range move nothing
  books-national : (x : ℕ) (q : Quote) → Books l b 0 (still (on_national x q b))
  unfolding on_national with_national
  books-national x q = books-same l b (on_national x q b) (still (on_national x q b)) refl refl refl (sound-steady s) g (acct.nothing (on_national x q b))

  books-range : (r : ℕ) → Books l b 0 (still (on_range r b))
  unfolding on_range with_range
  books-range r = books-same l b (on_range r b) (still (on_range r b)) refl refl refl (sound-steady s) g (acct.nothing (on_range r b))

  books-specialist : (k : ℕ) (p : Specialist) → Books l b 0 (still (on_specialist k p b))
  unfolding on_specialist with_strategies
  books-specialist k p = record {
    sums = omega (arith, (acct-nothing b).law l g, size_same l b (on_specialist k p b) refl refl);
    goes_on = good-shrinks l (specialist-shrinks k p b) g;
  }

  books-series : (x state : ℕ) → Books l b 0 (on_series x state b)
  unfolding on_series with_opened
  books-series x state =
      let P : Moved → Type 0 = Books l b 0 in
      pick_all P _
      (pick_all P _ (books-same l b (with_opened b (b.opened - 2 ^ x)) (shut x b) refl refl refl (sound-steady s) g (shut-kept acct x b)) (books-still l b g))
      (pick_all P _ (books-still l b g) (books-same l b (with_opened b (b.opened + 2 ^ x)) (reopen x b) refl refl refl (sound-steady s) g (reopen-kept acct x b)))

-- A SWEEP: the old one is cancelled, then it enters if it has units
module _ (l : Law) (b : State) (v : Valid b) (g : Good l b) (e : Entry) (life : e.life ≡ 4) where
  abbrev left : State
  left = (cancel_entry (old_sweep b e) b).state

  cancelled : Acct b (cancel_entry (old_sweep b e) b)
  cancelled = acct-cancel b (sound-steady v.sound) (old_sweep b e)

  left-good : Good l left
  left-good = good-shrinks l cancelled.shrinks g

  entered : live e ≡ true → Sweeping b e → FitsEntry l left e → Books l left (add_entry l e) (still (answer e.strategy e.side (enter e left)))
  entered t n f =
      let i : Entering left e = swept-entering b e v life t n in
      let s : Sound left = (swept-valid b e v life).sound in
      books-acct l left (enter e left) _ (add_entry l e) (enter-size l left e s.entry_rows (enter-room left e s i)) (enter-good l left e f left-good)
      (acct-answers (enter e left) e.strategy e.side)

  then-books : (add : ℕ) (f : State → Moved) → Books l left add (f left) → Books l b add (and_then (cancel_entry (old_sweep b e) b) f)
  unfolding and_then
  then-books add f h = record { sums = simp tally-append (omega (arith, cancelled.law l g, h.sums)); goes_on = h.goes_on }

  books-sweep : live e ≡ true → Sweeping b e → FitsEntry l left e → Books l b (add_entry l e) (on_sweep e b)
  unfolding on_sweep enter_sweep
  books-sweep t n f =
      then-books (add_entry l e) (enter_sweep e) (pick-by (Books l left (add_entry l e)) (live e) (λ _. entered t n f) (λ z. absurd (let q : ◌≡◌ {A = ℕ} 0 1 = cc in omega arith)))

  books-remove : live e ≡ false → Books l b 0 (on_sweep e b)
  unfolding on_sweep enter_sweep
  books-remove t =
      then-books 0 (enter_sweep e) (pick-by (Books l left 0) (live e) (λ z. absurd (let q : ◌≡◌ {A = ℕ} 0 1 = cc in omega arith)) (λ _. books-still l left left-good))

-- the strategy of what enters is the same after the cancel
left-fits : (l : Law) (b : State) (e f : Entry) → FitsEntry l b f → FitsEntry l (cancel_entry (old_sweep b e) b).state f
left-fits l b e f h = fits-strategies l b (cancel_entry (old_sweep b e) b).state f (strategy-same b (cancel_entry (old_sweep b e) b).state (cancel-strategies b (old_sweep b e)) f.strategy) h

-- A DEFINITION: no live entry is of the strategy that it gives
books-define : (l : Law) (b : State) (t : Strategy) → Sound b → Good l b → Books l b 0 (still (define t b))
unfolding define strategy_added with_strategies with_nets tally
books-define l b t s g =
    pick_all (λ (c : State). Books l b 0 (still c)) (held b t) (books-still l b g)
    (record {
      sums = omega (arith, size_same l b (strategy_added t b) refl refl);
      goes_on = good-same l b _ refl refl
          (λ i alive. get_or-set_other b.strategies b.defined (entry_at b i).strategy t no_strategy (λ z. omega (arith, (s.live i alive).strategy))) g;
    })

-- A FRESH STATE, and the end of a day
fresh-order : (timer i : ℕ) → (order_at (fresh timer) i).contracts ≡ 0
unfolding fresh
fresh-order timer i = all-at {P = λ (o : LegOrder). o.contracts ≡ 0} no_order refl (all_replicate no_order refl 32) i

-- where nothing is live there is nothing to measure
size_none : (l : Law) (b : State) → ((i : ℕ) → Finished b i) → size l b ≡ 0
size_none l b h =
    measure-by (λ (x y z : ℕ). x ≡ 0) refl l {v = λ (n : ℕ). 0} {w = λ (n : ℕ). 0} {d = λ (n : ℕ). 0} {e = λ (n : ℕ). 0}
    (λ n. sum-zero _ 32 (λ i k. when-nil (entry_at b i).number n (entry_at b i).units (h i).entry))
    (λ n. sum-zero _ 32 (λ i k. when-nil (order_at b i).number n (order_at b i).contracts (h i).order))

fresh-finished : (timer i : ℕ) → Finished (fresh timer) i
fresh-finished timer i = record { entry = fresh-dead timer i; order = fresh-order timer i }

pub size-fresh : (l : Law) (timer : ℕ) → size l (fresh timer) ≡ 0
size-fresh l timer = size_none l (fresh timer) (fresh-finished timer)

pub good-fresh : (l : Law) (timer : ℕ) → Good l (fresh timer)
good-fresh l timer = record {
  entry = λ i alive. absurd (omega (arith, fresh-dead timer i));
  order = λ i alive. absurd (omega (arith, fresh-order timer i));
}

books-day_end : (l : Law) (b : State) → Sound b → Good l b → (timer : ℕ) → Books l b 0 (on_day_end timer b)
unfolding on_day_end and_then restart tally
books-day_end l b s g timer =
    let x : Acct b (each close_running 16 b) = each-kept acct close_running (close_running-kept acct) 16 b (sound-steady s) in
    let c : State = (each close_running 16 b).state in
    let y : Acct c (each cancel_lowest 64 c) = each-kept acct cancel_lowest (cancel_lowest-kept acct) 64 c (steady-shrinks x.shrinks (sound-steady s)) in
    record {
      sums = simp tally-append (omega (arith, x.law l g, y.law l (good-shrinks l x.shrinks g), size_none l (each cancel_lowest 64 c).state (day-end-clears s), size-fresh l timer));
      goes_on = good-fresh l timer;
    }

-- AN ACCEPTED EVENT
abbrev pub row_of : State → Event → Row
row_of b (E.Strategy e) = no_row
row_of b (E.Order e) = entry_row (order_given b e)
row_of b (E.Sweep e) = pick (eqb e.units 0) no_row (entry_row (sweep_given b e))
row_of b (E.LegOrder e) = leg_row (leg_order_given b e)
row_of b (E.Cancel e) = no_row
row_of b (E.Series e) = no_row
row_of b (E.Clock e) = no_row
row_of b (E.DayEnd e) = no_row
row_of b (E.National e) = no_row
row_of b (E.Range e) = no_row
row_of b (E.Specialist e) = no_row

sweep-life : (b : State) (e : GivenSweep) → (sweep_given b e).life ≡ 4
unfolding sweep_given
sweep-life b e = refl

pub sweep-units : (b : State) (e : GivenSweep) → live (sweep_given b e) ≡ not (eqb e.units 0)
unfolding sweep_given live
sweep-units b e = refl

pub accept-books : (l : Law) (b : State) (e : Event) → Valid b → FitEvent e → first_cause (causes b e) ≡ 0 → FitsRow l b (row_of b e) → Good l b → Books l b (added l (row_of b e)) (accept b e)
unfolding accept causes
accept-books l b (E.Strategy e) v f c h g = books-define l b (strategy_given e) v.sound g
accept-books l b (E.Order e) v f c h g = books-order l b v.sound g (order_given b e) (order-clear b e v.sound f c) h
accept-books l b (E.Sweep e) v f c h g =
    let k : Entry = sweep_given b e in
    pick-by (λ (r : Row). FitsRow l b r → Books l b (added l r) (on_sweep k b)) (eqb e.units 0)
    (λ t _. books-remove l b v g k (sweep-life b e) (sweep-units b e ∙ ap not t))
    (λ t fits.
    books-sweep l b v g k (sweep-life b e) (sweep-units b e ∙ ap not t) ((sweep-clear b e f c).1 (positive e.units t)) (left-fits l b k k fits))
    h
accept-books l b (E.LegOrder e) v f c h g = books-leg l b v.sound g (leg_order_given b e) (leg_order-clear b e f c) h
accept-books l b (E.Cancel e) v f c h g = books-cancel l b v.sound g e.number
accept-books l b (E.Series e) v f c h g = books-series l b v.sound g e.series e.state
accept-books l b (E.Clock e) v f c h g = books-clock l b v.sound g e.time
accept-books l b (E.DayEnd e) v f c h g = books-day_end l b v.sound g e.timer
accept-books l b (E.National e) v f c h g = books-national l b v.sound g e.series (quote_given e)
accept-books l b (E.Range e) v f c h g = books-range l b v.sound g e.range
accept-books l b (E.Specialist e) v f c h g = books-specialist l b v.sound g e.strategy (specialist_given e)
