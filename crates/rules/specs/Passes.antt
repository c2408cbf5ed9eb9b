-- Passes. "A pass fills one active order."
use Rattle.std.specs.Prelude.{Bool, false, not, List, ℕ, eqb, get_or}
use Rattle.base.specs.Pick.{pick, both, either}
use Rattle.base.specs.Walks.{slot, table, first_n, walk}
use Rattle.rules.specs.Sizes.{table_rows}
use Rattle.rules.specs.declared.Specialist.{Specialist}
use Rattle.rules.specs.declared.Strategy.{Strategy}
use Rattle.rules.specs.declared.Entry.{Entry}
use Rattle.rules.specs.declared.State.{State}
use Rattle.rules.specs.declared.Allocation.{Allocation}
use Rattle.rules.specs.declared.Allocation.TheVariants.{LegsOnly, Shared, ForStarter, Numbered}
use Rattle.rules.specs.declared.Bounds.{Bounds}
use Rattle.rules.specs.declared.Turn.{Turn}
use Rattle.rules.specs.declared.Turn.TheVariants.{Stop, ByLegs, AtLimit}
use Rattle.rules.specs.State.{no_entry, entry_at, strategy_of}
use Rattle.rules.specs.Moves.{Moved, still, and_then, each}
use Rattle.rules.specs.Sides.{other, meets, better, best_price}
use Rattle.rules.specs.Quotas.{Division, in_turn, share, share_beside}
use Rattle.rules.specs.Nets.{prices, net_of, units_of}
use Rattle.rules.specs.National.{bounds_at, may_take, may_meet}
use Rattle.rules.specs.Fills.{whole_fill, leg_fill}

-- an entry stands opposite another: live, of its strategy, of the other side
unfoldable pub opposes : Entry → Entry → Bool
opposes e f = pick (eqb f.units 0) false (both (eqb f.strategy e.strategy) (eqb f.side (other e.side)))

-- the best limit so far and that of f, where f stands opposite e
unfoldable pub limit_with : Entry → ℕ → Entry → ℕ
limit_with e x f = pick (opposes e f) (best_price (other e.side) x f.level) x

-- one slot more
abbrev pub limit_step : List Entry → Entry → ℕ → ℕ → ℕ
limit_step es e i x = limit_with e x (get_or es i no_entry)

-- "the best opposite limit in the strategy" over the table, 0 where none stands
unfoldable pub best_opposite : List Entry → Entry → ℕ
best_opposite es e = walk (limit_step es e) 0 table_rows

-- "customers by number; then sweeps and market makers; then broker-dealers": groups 0, 1, 2
unfoldable pub group_of : Entry → ℕ
group_of f = pick (eqb f.life 4) 1 (pick (eqb f.class 3) 1 (pick (eqb f.class 1) 0 2))

-- group 3 is everyone
unfoldable pub within : ℕ → Entry → Bool
within g f = either (eqb g 3) (eqb (group_of f) g)

-- what an entry holds against e at a limit, as one of a group
unfoldable pub holding : Entry → ℕ → ℕ → Entry → ℕ
holding e level g f = pick (opposes e f) (pick (eqb f.level level) (pick (within g f) f.units 0) 0) 0

-- .. by the entry at slot i
abbrev pub size_at : List Entry → Entry → ℕ → ℕ → ℕ → ℕ
size_at es e level g i = holding e level g (get_or es i no_entry)

-- .. by each of the 32
unfoldable pub sizes : List Entry → Entry → ℕ → ℕ → List ℕ
sizes es e level g = table (size_at es e level g) table_rows

-- 2026-04: "the specialist has a sweep there": f is a sweep of that member, opposite e at that limit
unfoldable pub is_sweep_of : ℕ → Entry → ℕ → Entry → Bool
is_sweep_of member e level f = both (opposes e f) (both (eqb f.level level) (both (eqb f.life 4) (eqb f.member member)))

-- .. the entry at slot i
abbrev pub sweep_at : ℕ → List Entry → Entry → ℕ → ℕ → Bool
sweep_at member es e level i = is_sweep_of member e level (get_or es i no_entry)

-- its slot; past the table where none stands there, and where no specialist is named
unfoldable pub specialist_slot : ℕ → List Entry → Entry → ℕ → ℕ
specialist_slot member es e level = pick (eqb member 0) table_rows (first_n (sweep_at member es e level) table_rows)

-- how what remains of entry a is divided over the second group at a limit, beside the specialist of its strategy
unfoldable pub beside_specialist : ℕ → ℕ → State → Division
beside_specialist a level b =
    let e : Entry = entry_at b a in
    let s : Specialist = (strategy_of b e).specialist in
    share_beside (specialist_slot s.member b.entries e level) s.percentage

-- "Each holder met is a fill of its own": the active entry meets slot i for its quota
abbrev pub give_at : ℕ → ℕ → List ℕ → ℕ → State → Moved
give_at a level qs i b = whole_fill b a i level (slot qs i)

-- ".. by number within a group": slot by slot, which is by number
unfoldable pub give : ℕ → ℕ → List ℕ → State → Moved
give a level qs b = each (give_at a level qs) table_rows b

-- a group, over which what remains is divided in that way
unfoldable pub give_group : Division → ℕ → ℕ → ℕ → State → Moved
give_group divide a level g b = give a level (divide (entry_at b a).units (sizes b.entries (entry_at b a) level g)) b

-- "In a shared pass one limit's holders go in groups: customers by number; then sweeps and market makers; then broker-dealers": the second group
-- divided in that way
unfoldable pub give_shared : Division → ℕ → ℕ → State → Moved
give_shared second a level b = and_then (give_group in_turn a level 0 b) (λ c. and_then (give_group second a level 1 c) (give_group share a level 2))

-- 2026-04: "In a starter's pass" the second group is divided beside the specialist
unfoldable pub give_for_starter : ℕ → ℕ → State → Moved
give_for_starter a level b = give_shared (beside_specialist a level b) a level b

-- "Whole: fill at the opposite limit."
unfoldable pub meet_limit : Allocation → ℕ → ℕ → State → Moved
meet_limit LegsOnly a level b = still b
meet_limit Shared a level b = give_shared share a level b
meet_limit ForStarter a level b = give_for_starter a level b
meet_limit Numbered a level b = give_group in_turn a level 3 b

-- "The legs are ready when each best price holds at least the ratio in contracts": one unit is there
unfoldable pub ready : ℕ → State → Bool
ready a b =
    let e : Entry = entry_at b a in
    let s : Strategy = strategy_of b e in
    not (eqb (units_of b.orders e.side s (prices b.orders e.side s.legs) 1) 0)

-- the leg net of entry a where the legs may be used and are ready, else 0
unfoldable pub ready_net : Bool → ℕ → State → ℕ
ready_net legs a b =
    let e : Entry = entry_at b a in
    let s : Strategy = strategy_of b e in
    pick legs (pick (ready a b) (net_of s (prices b.orders e.side s.legs)) 0) 0

-- the best opposite limit that a pass looks at; a pass by legs only looks at none
unfoldable pub opposite : Allocation → ℕ → State → ℕ
opposite LegsOnly a b = 0
opposite Shared a b = best_opposite b.entries (entry_at b a)
opposite ForStarter a b = best_opposite b.entries (entry_at b a)
opposite Numbered a b = best_opposite b.entries (entry_at b a)

-- "the leg net .. if the legs are ready and it is strictly better for the active order or no opposite limit stands"
unfoldable pub legs_first : ℕ → ℕ → ℕ → Bool
legs_first side net x = pick (eqb net 0) false (either (eqb x 0) (better side net x))

-- "Stop when neither meets its limit": what an entry does at the best opposite limit x and the ready leg net
unfoldable pub turn_at : Entry → ℕ → ℕ → Turn
turn_at e x net =
    pick (eqb e.units 0) Stop
    (pick (legs_first e.side net x) (pick (meets e.side e.level net) ByLegs Stop)
    (pick (eqb x 0) Stop
    (pick (meets e.side e.level x) (AtLimit x) Stop)))

-- 2026-01: "A pass .. stops at the first fill that either complex party may not take": a turn of an entry of that side, at that ready leg net,
-- within these bounds. The other price is not tried.
unfoldable pub allowed : Bounds → ℕ → ℕ → Turn → Turn
allowed w side net Stop = Stop
allowed w side net ByLegs = pick (may_take w side net) ByLegs Stop
allowed w side net (AtLimit x) = pick (may_meet w x) (AtLimit x) Stop

-- what the entry at slot a would do next, whatever the national prices
abbrev pub choice : Allocation → Bool → ℕ → State → Turn
choice way legs a b = turn_at (entry_at b a) (opposite way a b) (ready_net legs a b)

-- what it does next
unfoldable pub turn_of : Allocation → Bool → ℕ → State → Turn
turn_of way legs a b = allowed (bounds_at b (entry_at b a).strategy) (entry_at b a).side (ready_net legs a b) (choice way legs a b)

-- and does it
unfoldable pub take_turn : Allocation → ℕ → Turn → State → Moved
take_turn way a Stop b = still b
take_turn way a ByLegs b = leg_fill a b
take_turn way a (AtLimit level) b = meet_limit way a level b

-- one turn; where it stops nothing moves
abbrev pub turn : Allocation → Bool → ℕ → ℕ → State → Moved
turn way legs a i b = take_turn way a (turn_of way legs a b) b

-- "Repeat while units of it remain": a turn that does not stop fills a unit or more, so there are no more turns than units
unfoldable pub pass : Allocation → Bool → ℕ → State → Moved
pass way legs a b = each (turn way legs a) (entry_at b a).units b
