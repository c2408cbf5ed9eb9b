-- "Lookups": live quantity, shut legs, depth; leg nets (2026-05).
use Rattle.std.specs.Prelude.{Bool, true, false, List, [], ◌∷◌, map, ℕ, ◌+◌, eqb, leb, ltb, ℤ, get_or, length, Option, Some, None, Result, Ok, Err}
use Rattle.base.specs.Pick.{pick}
use Rattle.base.specs.Walks.{sum_n, slot, all_n}
use Rattle.base.specs.Sets.{size_of, lowest_of}
use Rattle.rules.specs.Sizes.{table_rows}
use Rattle.rules.specs.declared.LegOrder.{LegOrder}
use Rattle.rules.specs.declared.State.{State}
use Rattle.rules.specs.declared.OrderEntry.{OrderEntry}
use Rattle.rules.specs.declared.Best.{Best}
use Rattle.rules.specs.declared.ShutLegs.{ShutLegs}
use Rattle.rules.specs.declared.StrategyNets.{StrategyNets}
use Rattle.events.specs.declared.Refusal.{Refusal}
use Rattle.events.specs.Refusals.{refusal_number}
use Rattle.rules.specs.State.{entry_at, order_at, bid_net, offer_net}
use Rattle.rules.specs.Records.{cents}
use Rattle.rules.specs.Strategies.{shut_set}
use Rattle.rules.specs.Nets.{price_of, lots}
use Rattle.rules.specs.Refusals.{undefined}

-- the units of the entry at slot i, if it has that number
abbrev pub units_of_number : State → ℕ → ℕ → ℕ
units_of_number b n i = pick (eqb (entry_at b i).number n) (entry_at b i).units 0

-- the contracts of the leg order at slot i, if it has that number
abbrev pub contracts_of_number : State → ℕ → ℕ → ℕ
contracts_of_number b n i = pick (eqb (order_at b i).number n) (order_at b i).contracts 0

-- "Live quantity of a number (0 if none).": it stands in one row at most
unfoldable pub live_quantity : State → ℕ → ℕ
live_quantity b n = sum_n (units_of_number b n) table_rows + sum_n (contracts_of_number b n) table_rows

-- a net as it is told: in cents, or unknown
pub data ToldNet : Type 0 where
  known : ℤ → ToldNet
  unknown : ToldNet

-- what a lookup tells, under the number 0: its values, or the bid and offer net; or the number of a refusal
pub data LookedUp : Type 0 where
  values : List ℕ → LookedUp
  nets : ToldNet → ToldNet → LookedUp
  refused_by : ℕ → LookedUp

-- "Shut legs of a strategy, count and lowest series, 32 when none is shut (4 if undefined)."
unfoldable pub shut_legs : State → ℕ → LookedUp
shut_legs b k = pick (undefined b k) (refused_by 4) (values (size_of (shut_set b k) ∷ (lowest_of (shut_set b k) ∷ [])))

-- a net, from its level
unfoldable pub told_net : ℕ → ToldNet
told_net level = pick (eqb level 0) unknown (known (cents level))

-- the leg nets of a strategy: 2026-05, "the bid and offer net .., with a mark for unknown" (4 if undefined)
unfoldable pub leg_nets : State → ℕ → LookedUp
leg_nets b k = pick (undefined b k) (refused_by 4) (nets (told_net (bid_net b k)) (told_net (offer_net b k)))

-- "Depth of a series and side: best price and its contracts, or empty"
unfoldable pub depth_of : List LegOrder → ℕ → ℕ → LookedUp
depth_of os s side =
    let price : ℕ = price_of os s side in
    pick (eqb price 0) (values []) (values (price ∷ (sum_n (slot (lots os s side price)) table_rows ∷ [])))

-- an empty order entry
abbrev pub no_order_entry : OrderEntry
no_order_entry = record { series = 0; side = 0; contracts = 0; price = 0 }

-- an order entry as a leg order
abbrev pub as_order : OrderEntry → LegOrder
as_order e = record { number = 0; member = 0; series = e.series; side = e.side; contracts = e.contracts; price = e.price }

-- "3 if .. an entry that isn't empty has a field outside kind 4's range"
unfoldable pub well_formed : OrderEntry → Bool
well_formed e =
    pick (eqb e.contracts 0) true
    (pick (ltb 31 e.series) false
    (pick (ltb 1 e.side) false
    (pick (ltb 9999 e.contracts) false
    (pick (eqb e.price 0) false (leb e.price 99_999)))))

-- .. of the entry at place i
abbrev pub well_formed_at : List OrderEntry → ℕ → Bool
well_formed_at row i = well_formed (get_or row i no_order_entry)

-- "3 if series or side is out of range, the row has over 32 entries, or .."
unfoldable pub row_depth : List OrderEntry → ℕ → ℕ → LookedUp
row_depth row s side =
    pick (ltb 31 s) (refused_by 3)
    (pick (ltb 1 side) (refused_by 3)
    (pick (ltb table_rows (length row)) (refused_by 3)
    (pick (all_n (well_formed_at row) (length row)) (depth_of (map as_order row) s side) (refused_by 3))))

-- the paper's values of a depth: price and contracts, none where it is empty, or the refusal
unfoldable pub depth_tells : Result (Option Best) Refusal → LookedUp
depth_tells (Ok (Some b)) = values (b.price ∷ (b.contracts ∷ []))
depth_tells (Ok None) = values []
depth_tells (Err r) = refused_by (refusal_number r)

-- .. of shut legs: count and lowest series, or the refusal
unfoldable pub shut_tells : Result ShutLegs Refusal → LookedUp
shut_tells (Ok s) = values (s.count ∷ (s.lowest ∷ []))
shut_tells (Err r) = refused_by (refusal_number r)

-- a net as a lookup answers it
unfoldable pub net_told : Option ℤ → ToldNet
net_told (Some net) = known net
net_told None = unknown

-- .. of leg nets: each in cents or unknown, or the refusal
unfoldable pub nets_tells : Result StrategyNets Refusal → LookedUp
nets_tells (Ok n) = nets (net_told n.bid) (net_told n.offer)
nets_tells (Err r) = refused_by (refusal_number r)
