-- "Refusals by cause": the causes of each kind with their numbers, and the first that applies in the order in which they are checked.
use Rattle.std.specs.Prelude.{Bool, true, false, not, List, [], ◌∷◌, ℕ, suc, eqb, ltb, leb, Result, Ok, Err}
use Rattle.base.specs.Pick.{pick, both, either}
use Rattle.base.specs.Walks.{sum_n, any_n}
use Rattle.base.specs.Sets.{has}
use Rattle.events.specs.Refusals.{refusal_number}
use Rattle.events.specs.declared.Refusal.{Refusal}
use Rattle.events.specs.declared.Event.{Event}
use Rattle.events.specs.declared.Event.TheVariants as E
use Rattle.events.specs.declared.Strategy.{Strategy as GivenStrategy}
use Rattle.events.specs.declared.Sweep.{Sweep as GivenSweep}
use Rattle.events.specs.declared.National.{National as GivenNational}
use Rattle.rules.specs.Sizes.{strategy_slots, order_slots, sweep_slots, leg_order_slots, table_rows, record_space}
use Rattle.rules.specs.declared.Entry.{Entry}
use Rattle.rules.specs.declared.LegOrder.{LegOrder}
use Rattle.rules.specs.declared.State.{State}
use Rattle.rules.specs.State.{entry_at, order_at, strategy_at, own_net}
use Rattle.rules.specs.Strategies.{twice, over_threefold, held}
use Rattle.rules.specs.Nets.{betters}
use Rattle.rules.specs.Auctions.{running}
use Rattle.rules.specs.Events.{live, live_order, old_sweep}
use Rattle.rules.specs.Given.{legs_given, strategy_given, sweep_given}

infix 20 ◌if◌
-- a refusal's number, and whether its cause applies
pub data Cause : Type 0 where
  ◌if◌ : ℕ → Bool → Cause

-- the place of n in a list, its length where n is not in it
unfoldable pub position : List ℕ → ℕ → ℕ
position [] n = 0
position (x ∷ xs) n = pick (eqb x n) 0 (suc (position xs n))

-- The order in which causes are checked. "The smallest number that applies is given"; 2026-01: "refusals of events [join] document 01's table,
-- .. each checked at the place named": 14 is "checked after 3", 15 "checked between 10 and 11" (2026-03).
abbrev pub check_order : List ℕ
check_order = 1 ∷ (2 ∷ (3 ∷ (14 ∷ (4 ∷ (5 ∷ (6 ∷ (7 ∷ (8 ∷ (9 ∷ (10 ∷ (15 ∷ (11 ∷ (12 ∷ (13 ∷ []))))))))))))))

-- the place of a refusal in it
unfoldable pub rank : ℕ → ℕ
rank n = position check_order n

-- the number of the first cause that applies; 0 where none does. The causes of an event stand in the order in which they are checked.
unfoldable pub first_cause : List Cause → ℕ
first_cause [] = 0
first_cause ((n if c) ∷ cs) = pick c n (first_cause cs)

-- whether a cause of that number applies
unfoldable pub applies : List Cause → ℕ → Bool
applies [] n = false
applies ((m if c) ∷ cs) n = pick (eqb m n) (pick c true (applies cs n)) (applies cs n)

-- 4: "strategy not defined"; 2026-04: "an undefined strategy gets 4"
unfoldable pub undefined : State → ℕ → Bool
undefined b k = leb b.defined k

-- 5: "series twice, or largest ratio over 3 × smallest"
unfoldable pub ill_formed : GivenStrategy → Bool
ill_formed e = either (twice (legs_given e) e.count) (over_threefold (legs_given e) e.count)

-- 6: "series of a leg order not open"
abbrev pub not_open : State → ℕ → Bool
not_open b s = not (has b.opened s)

-- whether e is a live complex order of that member and number
unfoldable pub is_order_of : ℕ → ℕ → Entry → Bool
is_order_of m n e = both (live e) (pick (eqb e.life 4) false (both (eqb e.member m) (eqb e.number n)))

-- the same of a leg order
unfoldable pub is_leg_order_of : ℕ → ℕ → LegOrder → Bool
is_leg_order_of m n o = both (live_order o) (both (eqb o.member m) (eqb o.number n))

-- the entry at slot i is such a complex order
abbrev pub order_at_is : State → ℕ → ℕ → ℕ → Bool
order_at_is b m n i = is_order_of m n (entry_at b i)

-- the leg order at slot i is such a one
abbrev pub leg_order_at_is : State → ℕ → ℕ → ℕ → Bool
leg_order_at_is b m n i = is_leg_order_of m n (order_at b i)

-- 7: "no live complex or leg order of that member and number": neither table has it
unfoldable pub not_found : State → ℕ → ℕ → Bool
not_found b m n = pick (any_n (order_at_is b m n) table_rows) false (not (any_n (leg_order_at_is b m n) table_rows))

-- the order of that number started the auction of strategy k
abbrev pub started_by : State → ℕ → ℕ → Bool
started_by b n k = eqb (strategy_at b k).starter n

-- 8: "cancel of a running auction's starter": of any of the strategies
unfoldable pub is_starter : State → ℕ → Bool
is_starter b n = any_n (started_by b n) strategy_slots

-- 9: "sweep or response, no auction in the strategy": a response (a sweep has its own line below)
unfoldable pub unanswerable : State → ℕ → ℕ → Bool
unanswerable b life k = both (eqb life 2) (not (running b k))

-- the sweep replaces one
abbrev pub replaces : State → GivenSweep → Bool
replaces b e = ltb (old_sweep b (sweep_given b e)) table_rows

-- 10: "sweep of 0 units with none to remove"
unfoldable pub removes_none : State → GivenSweep → Bool
removes_none b e = both (eqb e.units 0) (not (replaces b e))

-- 12: "the table needed is full": a strategy that is not held needs a slot
unfoldable pub strategies_full : State → GivenStrategy → Bool
strategies_full b e = pick (held b (strategy_given e)) false (leb strategy_slots b.defined)

-- 1 for a live complex order
unfoldable pub is_order : Entry → ℕ
is_order e = pick (live e) (pick (eqb e.life 4) 0 1) 0

-- 1 for a live sweep
unfoldable pub is_sweep : Entry → ℕ
is_sweep e = pick (live e) (pick (eqb e.life 4) 1 0) 0

-- 1 for a live leg order
unfoldable pub is_leg_order : LegOrder → ℕ
is_leg_order o = pick (live_order o) 1 0

-- 1 where the entry at slot i is a live complex order
abbrev pub is_order_at : State → ℕ → ℕ
is_order_at b i = is_order (entry_at b i)

-- 1 where it is a live sweep
abbrev pub is_sweep_at : State → ℕ → ℕ
is_sweep_at b i = is_sweep (entry_at b i)

-- 1 where the leg order at slot i is live
abbrev pub is_leg_order_at : State → ℕ → ℕ
is_leg_order_at b i = is_leg_order (order_at b i)

-- 12 of a complex order: as many are live as there are slots
unfoldable pub orders_full : State → Bool
orders_full b = leb order_slots (sum_n (is_order_at b) table_rows)

-- as many sweeps are live as there are slots
unfoldable pub sweeps_full : State → Bool
sweeps_full b = leb sweep_slots (sum_n (is_sweep_at b) table_rows)

-- 12 of a leg order
unfoldable pub leg_orders_full : State → Bool
leg_orders_full b = leb leg_order_slots (sum_n (is_leg_order_at b) table_rows)

-- 12 of a sweep: "a sweep that replaces one takes its slot", and one of 0 units needs none
unfoldable pub no_room : State → GivenSweep → Bool
no_room b e = pick (eqb e.units 0) false (pick (replaces b e) false (sweeps_full b))

-- 13: "a new order number is due and 100,000 were given"
unfoldable pub numbers_out : State → Bool
numbers_out b = leb 100_000 b.last

-- .. a sweep of 0 units needs no number
unfoldable pub sweep_numbers_out : State → GivenSweep → Bool
sweep_numbers_out b e = pick (eqb e.units 0) false (numbers_out b)

-- 14, 2026-01: "A national bid above a national offer, neither 0"
unfoldable pub bid_above_offer : GivenNational → Bool
bid_above_offer e = both (not (eqb e.bid 0)) (both (not (eqb e.offer 0)) (ltb e.offer e.bid))

-- 15, 2026-03: "a sweep of 1 unit or more has to be above the bid net when it buys, below the offer net when it sells. Where that net is unknown,
-- every price betters it." As it arrives, whether it replaces one or not: "A sweep that betters nothing is refused"
unfoldable pub betters_nothing : State → GivenSweep → Bool
betters_nothing b e = pick (eqb e.units 0) false (not (betters true e.side e.level (own_net b e.side e.strategy)))

-- the causes that an event of each kind can have
unfoldable pub causes : State → Event → List Cause
causes b (E.Strategy e) = (5 if ill_formed e) ∷ ((12 if strategies_full b e) ∷ [])
causes b (E.Order e) =
    (4 if undefined b e.strategy)
    ∷ ((9 if unanswerable b e.life e.strategy) ∷ ((12 if orders_full b) ∷ ((13 if numbers_out b) ∷ [])))
causes b (E.Sweep e) =
    (4 if undefined b e.strategy)
    ∷ ((9 if not (running b e.strategy))
    ∷ ((10 if removes_none b e) ∷ ((15 if betters_nothing b e) ∷ ((12 if no_room b e) ∷ ((13 if sweep_numbers_out b e) ∷ [])))))
causes b (E.LegOrder e) = (6 if not_open b e.series) ∷ ((12 if leg_orders_full b) ∷ ((13 if numbers_out b) ∷ []))
causes b (E.Cancel e) = (7 if not_found b e.member e.number) ∷ ((8 if is_starter b e.number) ∷ [])
causes b (E.Series e) = []
causes b (E.Clock e) = (11 if ltb e.time b.clock) ∷ []
causes b (E.DayEnd e) = []
causes b (E.National e) = (14 if bid_above_offer e) ∷ []
causes b (E.Range e) = []
causes b (E.Specialist e) = (4 if undefined b e.strategy) ∷ []

-- those of a frame of any bytes, as it is read: 2 and 3 are the reader's, the rest need an event
unfoldable pub read_causes : State → Result Event Refusal → List Cause
read_causes b (Err r) = (refusal_number r if true) ∷ []
read_causes b (Ok e) = causes b e

-- the whole table, for a frame that reads so and a record space of that length
unfoldable pub table_of : State → Result Event Refusal → ℕ → List Cause
table_of b r space = (1 if ltb space record_space) ∷ read_causes b r

-- the first that applies
unfoldable pub refusal : State → Result Event Refusal → ℕ → ℕ
refusal b r space = first_cause (table_of b r space)
