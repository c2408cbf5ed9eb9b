-- Best prices of the leg orders, and nets. A price or level of 0 means that there is none.
use Rattle.std.specs.Prelude.{Bool, false, List, ℕ, ◌+◌, ◌-◌, ◌*◌, ◌/◌, min, eqb, ltb, get_or}
use Rattle.base.specs.Pick.{pick, both, either}
use Rattle.base.specs.Walks.{sum_n, slot, table, all_n, walk}
use Rattle.rules.specs.Sizes.{strategy_slots, table_rows, zero_level}
use Rattle.rules.specs.declared.Leg.{Leg}
use Rattle.rules.specs.declared.Strategy.{Strategy}
use Rattle.rules.specs.declared.LegOrder.{LegOrder}
use Rattle.rules.specs.declared.Best.{Best}
use Rattle.rules.specs.declared.LegNets.{LegNets}
use Rattle.rules.specs.Rows.{no_leg, no_order, no_strategy, no_nets}
use Rattle.rules.specs.Sides.{other, leg_side, better, best_price}

-- whether a leg order stands in that series and side
unfoldable pub stands : ℕ → ℕ → LegOrder → Bool
stands s side o = pick (eqb o.contracts 0) false (both (eqb o.series s) (eqb o.side side))

-- the best price so far and a leg order's, where it stands in that series and side
unfoldable pub price_with : ℕ → ℕ → ℕ → LegOrder → ℕ
price_with s side p o = pick (stands s side o) (best_price side p o.price) p

-- one slot more
abbrev pub price_step : List LegOrder → ℕ → ℕ → ℕ → ℕ → ℕ
price_step os s side i p = price_with s side p (get_or os i no_order)

-- "best price" of a series and side over the table, 0 where no order stands there
unfoldable pub price_of : List LegOrder → ℕ → ℕ → ℕ
price_of os s side = walk (price_step os s side) 0 table_rows

-- what a leg order holds of a series and side at a price
unfoldable pub lot : ℕ → ℕ → ℕ → LegOrder → ℕ
lot s side price o = pick (stands s side o) (pick (eqb o.price price) o.contracts 0) 0

-- .. by the leg order at slot i
abbrev pub lot_at : List LegOrder → ℕ → ℕ → ℕ → ℕ → ℕ
lot_at os s side price i = lot s side price (get_or os i no_order)

-- .. by each of the 32
unfoldable pub lots : List LegOrder → ℕ → ℕ → ℕ → List ℕ
lots os s side price = table (lot_at os s side price) table_rows

-- "a series' best price and the contracts at it" (2026-02): both 0 where no order stands there
unfoldable pub best_of : List LegOrder → ℕ → ℕ → Best
best_of os s side = record { price = price_of os s side; contracts = sum_n (slot (lots os s side (price_of os s side))) table_rows }

-- 2026-02: "a running pair", before any slot
abbrev pub no_best : Best
no_best = record { price = 0; contracts = 0 }

-- ".. that starts afresh at a better price": at price q of that side, the best so far being p (0: none yet)
unfoldable pub starts_afresh : ℕ → ℕ → ℕ → Bool
starts_afresh side p q = either (eqb p 0) (better side p q)

-- .. the pair with one leg order more: an equal price adds its contracts, a worse one nothing
unfoldable pub best_with : ℕ → ℕ → Best → LegOrder → Best
best_with s side b o =
    pick (stands s side o)
    (pick (starts_afresh side b.price o.price) (record { price = o.price; contracts = o.contracts })
    (pick (eqb o.price b.price) (record { price = b.price; contracts = b.contracts + o.contracts }) b))
    b

-- .. one slot more
abbrev pub best_step : List LegOrder → ℕ → ℕ → ℕ → Best → Best
best_step os s side i b = best_with s side b (get_or os i no_order)

-- "both in one walk over the leg orders": the pair after k slots
unfoldable pub best_after : List LegOrder → ℕ → ℕ → ℕ → Best
best_after os s side k = walk (best_step os s side) no_best k

-- the best price that a complex party of that side meets on a leg: "offers for buy legs, bids for sell legs", or the reverse
unfoldable pub leg_price : List LegOrder → ℕ → Leg → ℕ
leg_price os side l = price_of os l.series (other (leg_side side l))

-- .. on the leg at place i
abbrev pub price_at : List LegOrder → ℕ → List Leg → ℕ → ℕ
price_at os side legs i = leg_price os side (get_or legs i no_leg)

-- .. on each of the six rows
unfoldable pub prices : List LegOrder → ℕ → List Leg → List ℕ
prices os side legs = table (price_at os side legs) 6

-- the leg at place i has a price
abbrev pub priced_at : List ℕ → ℕ → Bool
priced_at ps i = ltb 0 (slot ps i)

-- "unknown if a price is missing": known where each of the count legs has one
unfoldable pub known : List ℕ → ℕ → Bool
known ps count = all_n (priced_at ps) count

-- ratio × price of a leg, in the sum over the buy legs (w 0) and in that over the sell legs (w 1)
unfoldable pub weight : ℕ → Leg → ℕ → ℕ
weight w l price = pick (eqb l.side 0) (pick (eqb w 0) (l.ratio * price) 0) (pick (eqb w 0) 0 (l.ratio * price))

-- .. of the leg at place i
abbrev pub weight_at : ℕ → List Leg → List ℕ → ℕ → ℕ
weight_at w legs ps i = weight w (get_or legs i no_leg) (slot ps i)

-- the sum over the count legs
unfoldable pub weighed : ℕ → List Leg → List ℕ → ℕ → ℕ
weighed w legs ps count = sum_n (weight_at w legs ps) count

-- "Net = sum of ratio × price over buy legs, less that over sell legs", as a level; 0 where it is unknown
unfoldable pub net_of : Strategy → List ℕ → ℕ
net_of s ps = pick (known ps s.count) (zero_level + weighed 0 s.legs ps s.count - weighed 1 s.legs ps s.count) 0

-- 2026-05: "the bid and offer net" of a strategy at these leg orders, "with a mark for unknown", which is 0; a free row has none
unfoldable pub nets_in : List LegOrder → Strategy → LegNets
nets_in os s = pick (eqb s.count 0) no_nets (record { bid = net_of s (prices os 1 s.legs); offer = net_of s (prices os 0 s.legs) })

-- .. of the strategy at slot k
abbrev pub nets_at : List LegOrder → List Strategy → ℕ → LegNets
nets_at os ss k = nets_in os (get_or ss k no_strategy)

-- .. of each of the 16
unfoldable pub nets_of : List LegOrder → List Strategy → List LegNets
nets_of os ss = table (nets_at os ss) strategy_slots

-- whether a limit of a side is strictly better than the leg net of its own side: "buy above bid net, sell below offer net"; 2026-03: "above the bid net when it buys,
-- below the offer net when it sells". Both ask this one test, with two answers where the net is unknown: an order starts an auction by "the known
-- leg net" alone, so there `unknown` is no; of a sweep "Where that net is unknown, every price betters it", so there it is yes.
unfoldable pub betters : Bool → ℕ → ℕ → ℕ → Bool
betters unknown side level net = pick (eqb net 0) unknown (better (other side) level net)

-- "each best price's contracts divided by ratio, rounded down"
unfoldable pub leg_units : List LegOrder → ℕ → ℕ → Leg → ℕ
leg_units os side price l = sum_n (slot (lots os l.series (other (leg_side side l)) price)) table_rows / l.ratio

-- the least so far and those of the leg at place i
abbrev pub units_step : List LegOrder → ℕ → List Leg → List ℕ → ℕ → ℕ → ℕ
units_step os side legs ps i n = min (leg_units os side (slot ps i) (get_or legs i no_leg)) n

-- "the least of what remains and" those of each leg
unfoldable pub units_of : List LegOrder → ℕ → Strategy → List ℕ → ℕ → ℕ
units_of os side s ps most = walk (units_step os side s.legs ps) most s.count
