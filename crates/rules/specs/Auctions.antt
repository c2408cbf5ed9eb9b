-- Auctions, the passes by legs only, and the match of the resting orders where a series opens.
use Rattle.std.specs.Prelude.{Bool, true, false, not, [], ◌∷◌, ℕ, ◌+◌, min, eqb, ltb, leb, set}
use Rattle.base.specs.Pick.{pick, both, either}
use Rattle.base.specs.Walks.{first_n, walk}
use Rattle.rules.specs.Sizes.{strategy_slots, table_rows, zero_level}
use Rattle.rules.specs.declared.Strategy.{Strategy}
use Rattle.rules.specs.declared.Entry.{Entry}
use Rattle.rules.specs.declared.State.{State}
use Rattle.rules.specs.declared.Kind.TheVariants.{AuctionBegun, AuctionEnded}
use Rattle.rules.specs.declared.Allocation.TheVariants.{LegsOnly, ForStarter, Numbered}
use Rattle.rules.specs.State.{entry_at, strategy_at, with_strategies}
use Rattle.rules.specs.Moves.{Moved, still, and_then, each}
use Rattle.rules.specs.Sides.{other, better}
use Rattle.rules.specs.Strategies.{all_open, holds}
use Rattle.rules.specs.National.{bounds_at, may_meet}
use Rattle.rules.specs.Fills.{whole_fill, cancel_entry}
use Rattle.rules.specs.Passes.{pass}

-- a live entry of strategy k
unfoldable pub live_in : ℕ → Entry → Bool
live_in k e = pick (eqb e.units 0) false (eqb e.strategy k)

-- an auction runs in strategy k
abbrev pub running : State → ℕ → Bool
running b k = not (eqb (strategy_at b k).starter 0)

-- the auction of strategy k, changed: its starter, the clock at its start, whether it was answered
abbrev pub with_auction : Strategy → ℕ → ℕ → Bool → Strategy
with_auction s n t a = record { legs = s.legs; count = s.count; series = s.series; starter = n; begun = t; answered = a; specialist = s.specialist }

-- the state with the auction of strategy k changed so
unfoldable pub put_auction : State → ℕ → ℕ → ℕ → Bool → State
put_auction b k n t a = with_strategies b (set b.strategies k (with_auction (strategy_at b k) n t a)) b.defined

-- "4 auction begun (strategy, units, limit)"
unfoldable pub begin : ℕ → State → Moved
begin i b =
    let e : Entry = entry_at b i in
    record {
      state = put_auction b e.strategy e.number b.clock false;
      records = record { kind = AuctionBegun; number = e.number; place = e.strategy; side = e.side; quantity = e.units; level = e.level } ∷ [];
    }

-- "5 auction ended (starter's number, strategy, then zeros)"
unfoldable pub close : ℕ → State → Moved
close k b = record {
  state = put_auction b k 0 0 false;
  records = record { kind = AuctionEnded; number = (strategy_at b k).starter; place = k; side = 0; quantity = 0; level = zero_level } ∷ [];
}

-- whether the entry at slot i is live, of strategy k and of that number
abbrev pub is_number : State → ℕ → ℕ → ℕ → Bool
is_number b k n i = both (live_in k (entry_at b i)) (eqb (entry_at b i).number n)

-- the slot of the running auction's starter, past the table where it is gone
unfoldable pub starter_slot : State → ℕ → ℕ
starter_slot b k = first_n (is_number b k (strategy_at b k).starter) table_rows

-- "if any opposite sweep or waiting order was accepted meanwhile": one of that side has been accepted
unfoldable pub answer : ℕ → ℕ → State → State
answer k side b =
    let s : Strategy = strategy_at b k in
    pick (eqb (entry_at b (starter_slot b k)).side (other side)) (put_auction b k s.starter s.begun true) b

-- "Sweeps, responses and immediates left": e is one of strategy k
unfoldable pub lapses : ℕ → Entry → Bool
lapses k e = both (live_in k e) (either (eqb e.life 1) (either (eqb e.life 2) (eqb e.life 4)))

-- ".. are cancelled by number": the one at slot i, if it lapses
unfoldable pub cancel_lapsed : ℕ → ℕ → State → Moved
cancel_lapsed k i b = pick (lapses k (entry_at b i)) (cancel_entry i b) (still b)

-- "from the cancels on": the cancels, then record 5
unfoldable pub end_unfilled : ℕ → State → Moved
end_unfilled k b = and_then (each (cancel_lapsed k) table_rows b) (close k)

-- "The starter gets a shared pass, legs barred if any opposite .. was accepted meanwhile."
unfoldable pub starter_pass : ℕ → State → Moved
starter_pass k b = pass ForStarter (not (strategy_at b k).answered) (starter_slot b k) b

-- "each other entry accepted meanwhile": e of strategy k came after number n
unfoldable pub later : ℕ → ℕ → Entry → Bool
later k n e = both (live_in k e) (ltb n e.number)

-- ".. gets a numbered pass; sweeps never use legs": the one at slot i
unfoldable pub later_pass : ℕ → ℕ → ℕ → State → Moved
later_pass k n i b = pick (later k n (entry_at b i)) (pass Numbered (not (eqb (entry_at b i).life 4)) i b) (still b)

-- "The starter gets a shared pass ..", "Then each other entry ..", then the cancels and record 5
unfoldable pub end_auction : ℕ → State → Moved
end_auction k b =
    let n : ℕ = (strategy_at b k).starter in
    and_then (starter_pass k b) (λ c. and_then (each (later_pass k n) table_rows c) (end_unfilled k))

-- "auctions begun at least the timer ago": that of strategy k
unfoldable pub due : State → ℕ → Bool
due b k = both (running b k) (leb ((strategy_at b k).begun + b.timer) b.clock)

-- ".. end, by strategy": that of strategy k, if it is due
unfoldable pub end_due : ℕ → State → Moved
end_due k b = pick (due b k) (end_auction k b) (still b)

-- "shut ends the auctions of strategies holding it, by strategy, without fills": that of strategy k
unfoldable pub end_holding : ℕ → ℕ → State → Moved
end_holding s k b = pick (running b k) (pick (holds b s k) (end_unfilled k b) (still b)) (still b)

-- a "day order" of strategy k
unfoldable pub day_order : ℕ → Entry → Bool
day_order k e = both (live_in k e) (eqb e.life 0)

-- ".. gets a pass by legs only": the day order at slot i
unfoldable pub leg_pass : ℕ → ℕ → State → Moved
leg_pass k i b = pick (day_order k (entry_at b i)) (pass LegsOnly true i b) (still b)

-- "in strategies holding that series, all open, without an auction": strategy k
unfoldable pub leg_passes_in : ℕ → ℕ → State → Moved
leg_passes_in s k b =
    pick (holds b s k) (pick (all_open b k) (pick (running b k) (still b) (each (leg_pass k) table_rows b)) (still b)) (still b)

-- "each day order by strategy, then number"
unfoldable pub leg_passes : ℕ → State → Moved
leg_passes s b = each (leg_passes_in s) strategy_slots b

-- whether the entry at slot i is of strategy k and side, and goes before the best so far: strictly better, or the first
unfoldable pub ahead : State → ℕ → ℕ → ℕ → ℕ → Bool
ahead b k side i best =
    let e : Entry = entry_at b i in
    both (live_in k e) (both (eqb e.side side) (either (eqb best table_rows) (better (other side) e.level (entry_at b best).level)))

-- one slot more: the best so far, or this one
abbrev pub best_step : State → ℕ → ℕ → ℕ → ℕ → ℕ
best_step b k side i best = pick (ahead b k side i best) i best

-- "best buy", "best sell (price, then number)": its slot by price, then by slot, which is by number; past the table where there is none
unfoldable pub best_slot : State → ℕ → ℕ → ℕ
best_slot b k side = walk (best_step b k side) table_rows table_rows

-- whether the best buy and the best sell meet
unfoldable pub crossed : State → ℕ → ℕ → Bool
crossed b x y = both (ltb x table_rows) (both (ltb y table_rows) (leb (entry_at b y).level (entry_at b x).level))

-- the slot of the lower number of the two
abbrev pub lower_of : State → ℕ → ℕ → ℕ
lower_of b x y = pick (ltb (entry_at b x).number (entry_at b y).number) x y

-- and that of the other
abbrev pub higher_of : State → ℕ → ℕ → ℕ
higher_of b x y = pick (ltb (entry_at b x).number (entry_at b y).number) y x

-- 2026-01: "A .. opening match stops at the first fill that either complex party may not take": the two meet, and both may fill at that limit
abbrev pub may_match : State → ℕ → ℕ → ℕ → Bool
may_match b k x y = both (crossed b x y) (may_meet (bounds_at b k) (entry_at b (lower_of b x y)).level)

-- "matches best buy with best sell (price, then number) .., at the lower number's limit, its order active"
unfoldable pub match_once : ℕ → ℕ → State → Moved
match_once k i b =
    let x : ℕ = best_slot b k 0 in
    let y : ℕ = best_slot b k 1 in
    let a : ℕ = lower_of b x y in
    let h : ℕ = higher_of b x y in
    pick (may_match b k x y) (whole_fill b a h (entry_at b a).level (min (entry_at b a).units (entry_at b h).units)) (still b)

-- ".. while they meet": each match finishes an order, so there are no more than slots
unfoldable pub match_all : ℕ → State → Moved
match_all k b = each (match_once k) table_rows b

-- "each all-open strategy holding it": strategy k
unfoldable pub match_in : ℕ → ℕ → State → Moved
match_in s k b = pick (holds b s k) (pick (all_open b k) (match_all k b) (still b)) (still b)
