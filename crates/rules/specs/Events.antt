-- What each event does where it is accepted.
use Rattle.std.specs.Prelude.{Bool, true, false, not, List, [], ◌∷◌, ◌++◌, ℕ, ◌+◌, ◌-◌, ◌^◌, min, eqb, ltb, length, take, replicate}
use Rattle.base.specs.Pick.{pick, both, either}
use Rattle.base.specs.Walks.{first_n, walk}
use Rattle.base.specs.Sets.{has}
use Rattle.rules.specs.Sizes.{strategy_slots, table_rows}
use Rattle.rules.specs.declared.Entry.{Entry}
use Rattle.rules.specs.declared.LegOrder.{LegOrder}
use Rattle.rules.specs.declared.State.{State}
use Rattle.rules.specs.declared.Allocation.TheVariants.{Shared}
use Rattle.rules.specs.State.{no_entry, no_order, fresh, entry_at, order_at, with_entries, with_orders, with_opened, with_clock, with_last, own_net}
use Rattle.rules.specs.Moves.{Moved, still, and_then, each}
use Rattle.rules.specs.Sides.{other, meets, better}
use Rattle.rules.specs.Nets.{stands, betters}
use Rattle.rules.specs.Strategies.{all_open}
use Rattle.rules.specs.Fills.{leg_trade, cancel_entry, cancel_order}
use Rattle.rules.specs.Passes.{pass}
use Rattle.rules.specs.Auctions.{running, begin, close, answer, end_due, end_holding, leg_passes, match_in}

-- an entry that has units left
unfoldable pub live : Entry → Bool
live e = not (eqb e.units 0)

-- a leg order that has contracts left
unfoldable pub live_order : LegOrder → Bool
live_order o = not (eqb o.contracts 0)

-- the rows of a table that pass a test, in their order
unfoldable pub keep : {A : Type 0} → (A → Bool) → List A → List A
keep test [] = []
keep test (x ∷ xs) = pick (test x) (x ∷ keep test xs) (keep test xs)

-- "A finished order's slot is free again": the live rows in their order, one more behind them, and empty ones to the end
unfoldable pub behind : {A : Type 0} → (A → Bool) → A → A → List A → List A
behind test none x xs = take table_rows (keep test xs ++ (x ∷ replicate table_rows none))

-- an order or sweep enters under the next number, its slot being the first behind the live ones
unfoldable pub enter : Entry → State → State
enter e b = with_last (with_entries b (behind live no_entry e b.entries)) e.number

-- the same of a leg order
unfoldable pub enter_order : LegOrder → State → State
enter_order o b = with_last (with_orders b (behind live_order no_order o b.orders)) o.number

-- the slot behind the live entries
unfoldable pub free_slot : State → ℕ
free_slot b = length (keep live b.entries)

-- the slot behind the live leg orders
unfoldable pub free_order_slot : State → ℕ
free_order_slot b = length (keep live_order b.orders)

-- "day rests and others are cancelled"
unfoldable pub rest_or_cancel : ℕ → State → Moved
rest_or_cancel i b = pick (eqb (entry_at b i).life 0) (still b) (cancel_entry i b)

-- "class 1 or 2 with life 0 or 1"
unfoldable pub may_start : Entry → Bool
may_start e = both (either (eqb e.class 1) (eqb e.class 2)) (either (eqb e.life 0) (eqb e.life 1))

-- ".. starts an auction if its limit is better than the known leg net of its own side (buy above bid net, sell below offer net)"
unfoldable pub starts : State → Entry → Bool
starts b e = both (may_start e) (betters false e.side e.level (own_net b e.side e.strategy))

-- "If an auction runs, do-not-auction is cancelled and others wait.": the order at slot i
unfoldable pub waits : ℕ → State → Moved
waits i b =
    let e : Entry = entry_at b i in
    pick (eqb e.life 3) (cancel_entry i b) (still (answer e.strategy e.side b))

-- "Else a shared pass; then day rests, others are cancelled."
unfoldable pub trades : ℕ → State → Moved
trades i b = and_then (pass Shared true i b) (rest_or_cancel i)

-- "Complex order": "if a series is shut ..", "If an auction runs ..", "Otherwise .. starts an auction ..", "Else a shared pass"
unfoldable pub arrive : ℕ → State → Moved
arrive i b =
    let e : Entry = entry_at b i in
    pick (all_open b e.strategy)
    (pick (running b e.strategy) (waits i b) (pick (starts b e) (begin i b) (trades i b)))
    (rest_or_cancel i b)

-- the order enters, then does that
unfoldable pub on_order : Entry → State → Moved
on_order e b = arrive (free_slot b) (enter e b)

-- "same member, strategy, side and limit": f is a live sweep that e replaces
unfoldable pub same_sweep : Entry → Entry → Bool
same_sweep e f =
    both (live f)
    (both (eqb f.life 4)
    (both (eqb f.member e.member)
    (both (eqb f.strategy e.strategy) (both (eqb f.side e.side) (eqb f.level e.level)))))

-- the entry at slot i is such a sweep
abbrev pub same_sweep_at : State → Entry → ℕ → Bool
same_sweep_at b e i = same_sweep e (entry_at b i)

-- the slot of the old one, 32 where there is none
unfoldable pub old_sweep : State → Entry → ℕ
old_sweep b e = first_n (same_sweep_at b e) table_rows

-- "0 units enters nothing"
unfoldable pub enter_sweep : Entry → State → Moved
enter_sweep e b = pick (live e) (still (answer e.strategy e.side (enter e b))) (still b)

-- "Sweep": "the old one is cancelled by record first", then the new one enters
unfoldable pub on_sweep : Entry → State → Moved
on_sweep e b = and_then (cancel_entry (old_sweep b e) b) (enter_sweep e)

-- "opposite leg orders that meet its price": whether p is one for o
unfoldable pub meets_order : LegOrder → LegOrder → Bool
meets_order o p = both (stands o.series (other o.side) p) (meets o.side o.price p.price)

-- whether the leg order at slot i goes before the best so far: it meets the price and is strictly better, or the first
unfoldable pub ahead_order : State → LegOrder → ℕ → ℕ → Bool
ahead_order b o i best =
    both (meets_order o (order_at b i)) (either (eqb best table_rows) (better o.side (order_at b i).price (order_at b best).price))

-- one slot more: the best so far, or this one
abbrev pub best_order_step : State → LegOrder → ℕ → ℕ → ℕ
best_order_step b o i best = pick (ahead_order b o i best) i best

-- "best price then number": the slot of the best one by price, then by slot, which is by number; past the table where there is none
unfoldable pub best_order : State → LegOrder → ℕ
best_order b o = walk (best_order_step b o) table_rows table_rows

-- one trade of the leg order at slot a, while it has contracts and one meets it
unfoldable pub trade_once : ℕ → ℕ → State → Moved
trade_once a i b =
    let h : ℕ = best_order b (order_at b a) in
    pick (eqb (order_at b a).contracts 0) (still b) (pick (ltb h table_rows) (leg_trade b a h) (still b))

-- each trade finishes an order, so there are no more than slots
unfoldable pub trade_all : ℕ → State → Moved
trade_all a b = each (trade_once a) table_rows b

-- "If any rests, each day order .. gets a pass by legs only."
unfoldable pub if_rests : ℕ → ℕ → State → Moved
if_rests s a b = pick (eqb (order_at b a).contracts 0) (still b) (leg_passes s b)

-- "Leg order": it enters, "trades with opposite leg orders that meet its price", and may rest
unfoldable pub on_leg_order : LegOrder → State → Moved
on_leg_order o b =
    let a : ℕ = free_order_slot b in
    and_then (trade_all a (enter_order o b)) (if_rests o.series a)

-- the entry at slot i is cancelled, if it has that number
unfoldable pub cancel_entry_of : ℕ → ℕ → State → Moved
cancel_entry_of n i b = pick (eqb (entry_at b i).number n) (cancel_entry i b) (still b)

-- the same of the leg order at slot i
unfoldable pub cancel_order_of : ℕ → ℕ → State → Moved
cancel_order_of n i b = pick (eqb (order_at b i).number n) (cancel_order i b) (still b)

-- "Cancel": "one record 3 for what is live", in whichever table holds the number
unfoldable pub cancel_number : ℕ → State → Moved
cancel_number n b = and_then (each (cancel_entry_of n) table_rows b) (each (cancel_order_of n) table_rows)

-- "Clock": the clock is set, then "auctions begun at least the timer ago end, by strategy"
unfoldable pub on_clock : ℕ → State → Moved
on_clock t b = each end_due strategy_slots (with_clock b t)

-- "shut ends the auctions of strategies holding it, by strategy"
unfoldable pub shut : ℕ → State → Moved
shut s b = each (end_holding s) strategy_slots (with_opened b (b.opened - 2 ^ s))

-- "Opening one that was shut: each all-open strategy holding it, by strategy, matches ..; when all have matched, the legs-only passes."
unfoldable pub reopen : ℕ → State → Moved
reopen s b = and_then (each (match_in s) strategy_slots (with_opened b (b.opened + 2 ^ s))) (leg_passes s)

-- "Series": shut, opened, or "No change of state does nothing."
unfoldable pub on_series : ℕ → ℕ → State → Moved
on_series s state b =
    pick (has b.opened s)
    (pick (eqb state 0) (shut s b) (still b))
    (pick (eqb state 0) (still b) (reopen s b))

-- "records 5 by strategy": that of strategy k, if its auction runs
unfoldable pub close_running : ℕ → State → Moved
close_running k b = pick (running b k) (close k b) (still b)

-- the lower of two numbers, of which 0 is none
unfoldable pub lower_number : ℕ → ℕ → ℕ
lower_number n m = pick (eqb n 0) m (pick (eqb m 0) n (min n m))

-- the lowest so far, and that of the entry at slot i where it is live
abbrev pub lower_entry : State → ℕ → ℕ → ℕ
lower_entry b i n = pick (live (entry_at b i)) (lower_number n (entry_at b i).number) n

-- the same of the leg order at slot i
abbrev pub lower_order : State → ℕ → ℕ → ℕ
lower_order b i n = pick (live_order (order_at b i)) (lower_number n (order_at b i).number) n

-- the lowest number that is live in either table, 0 where none is
unfoldable pub lowest_live : State → ℕ
lowest_live b = walk (lower_order b) (walk (lower_entry b) 0 table_rows) table_rows

-- "3 by number": one cancel, of the lowest live number
unfoldable pub cancel_lowest : ℕ → State → Moved
cancel_lowest i b = cancel_number (lowest_live b) b

-- "then a fresh book with the new timer"
unfoldable pub restart : ℕ → State → Moved
restart timer b = still (fresh timer)

-- "Day end": "records 5 by strategy, 3 by number, then a fresh book with the new timer"; both tables full are the most that can be live
unfoldable pub on_day_end : ℕ → State → Moved
on_day_end timer b = and_then (each close_running strategy_slots b) (λ c. and_then (each cancel_lowest (table_rows + table_rows) c) (restart timer))
