-- The state of the book: the fresh state, rows by their place, and a setter for each part that changes.
use Rattle.std.specs.Prelude.{◌≡◌, List, ℕ, get_or, replicate}
use Rattle.rules.specs.Sizes.{strategy_slots, series_count}
use Rattle.rules.specs.declared.Leg.{Leg}
use Rattle.rules.specs.declared.Strategy.{Strategy}
use Rattle.rules.specs.declared.Entry.{Entry}
use Rattle.rules.specs.declared.LegOrder.{LegOrder}
use Rattle.rules.specs.declared.State.{State}
use Rattle.rules.specs.declared.Quote.{Quote}
use Rattle.rules.specs.declared.LegNets.{LegNets}
use Rattle.rules.specs.Sides.{other}
use Rattle.rules.specs.Nets.{prices, net_of, nets_of}
unfoldable pub use Rattle.rules.specs.Rows.{no_leg, no_entry, no_order, no_quote, no_specialist, no_strategy, free_strategy, no_nets}

-- a fresh book of a timer: clock 0, all shut, its tables empty and no number given. 2026-01: "a fresh book has 9,999", and "misses all" national
-- prices
unfoldable pub fresh : ℕ → State
fresh timer = record {
  strategies = replicate strategy_slots free_strategy;
  nets = replicate strategy_slots no_nets;
  entries = replicate 32 no_entry;
  orders = replicate 32 no_order;
  defined = 0;
  opened = 0;
  clock = 0;
  timer = timer;
  last = 0;
  national = replicate series_count no_quote;
  range = 9999;
}

-- "A first book has timer 5,000, clock 0, all shut, its tables empty and no number given."
abbrev pub first : State
first = fresh 5000

-- the entry at slot i
abbrev pub entry_at : State → ℕ → Entry
entry_at b i = get_or b.entries i no_entry

-- the leg order at slot i
abbrev pub order_at : State → ℕ → LegOrder
order_at b i = get_or b.orders i no_order

-- strategy k
abbrev pub strategy_at : State → ℕ → Strategy
strategy_at b k = get_or b.strategies k no_strategy

-- the leg at place i
abbrev pub leg_at : Strategy → ℕ → Leg
leg_at s i = get_or s.legs i no_leg

-- the strategy of an entry
abbrev pub strategy_of : State → Entry → Strategy
strategy_of b e = strategy_at b e.strategy

-- the state with these entries
unfoldable pub with_entries : State → List Entry → State
with_entries b es = record { strategies = b.strategies; nets = b.nets; entries = es; orders = b.orders; defined = b.defined; opened = b.opened; clock = b.clock; timer = b.timer; last = b.last; national = b.national; range = b.range }

-- the state with these leg orders. 2026-05: "Each event that touches a leg order keeps [the stored nets] true after each fill, cancels .. included":
-- no rule changes a leg order but by this, the fresh book of a day's end apart
unfoldable pub with_orders : State → List LegOrder → State
with_orders b os = record { strategies = b.strategies; nets = nets_of os b.strategies; entries = b.entries; orders = os; defined = b.defined; opened = b.opened; clock = b.clock; timer = b.timer; last = b.last; national = b.national; range = b.range }

-- the state with these strategies, so many of them defined
unfoldable pub with_strategies : State → List Strategy → ℕ → State
with_strategies b ss n = record { strategies = ss; nets = b.nets; entries = b.entries; orders = b.orders; defined = n; opened = b.opened; clock = b.clock; timer = b.timer; last = b.last; national = b.national; range = b.range }

-- the state with these nets stored
unfoldable pub with_nets : State → List LegNets → State
with_nets b ns = record { strategies = b.strategies; nets = ns; entries = b.entries; orders = b.orders; defined = b.defined; opened = b.opened; clock = b.clock; timer = b.timer; last = b.last; national = b.national; range = b.range }

-- the state with these series open
unfoldable pub with_opened : State → ℕ → State
with_opened b o = record { strategies = b.strategies; nets = b.nets; entries = b.entries; orders = b.orders; defined = b.defined; opened = o; clock = b.clock; timer = b.timer; last = b.last; national = b.national; range = b.range }

-- the state at that clock
unfoldable pub with_clock : State → ℕ → State
with_clock b t = record { strategies = b.strategies; nets = b.nets; entries = b.entries; orders = b.orders; defined = b.defined; opened = b.opened; clock = t; timer = b.timer; last = b.last; national = b.national; range = b.range }

-- the state with that number given last
unfoldable pub with_last : State → ℕ → State
with_last b n = record { strategies = b.strategies; nets = b.nets; entries = b.entries; orders = b.orders; defined = b.defined; opened = b.opened; clock = b.clock; timer = b.timer; last = n; national = b.national; range = b.range }

-- the state with these national prices
unfoldable pub with_national : State → List Quote → State
with_national b qs = record { strategies = b.strategies; nets = b.nets; entries = b.entries; orders = b.orders; defined = b.defined; opened = b.opened; clock = b.clock; timer = b.timer; last = b.last; national = qs; range = b.range }

-- the state with that execution range
unfoldable pub with_range : State → ℕ → State
with_range b r = record { strategies = b.strategies; nets = b.nets; entries = b.entries; orders = b.orders; defined = b.defined; opened = b.opened; clock = b.clock; timer = b.timer; last = b.last; national = b.national; range = r }

-- the leg net that a complex party of that side meets: "offer net for a buy, bid net for a sell"
unfoldable pub leg_net : State → ℕ → ℕ → ℕ
leg_net b side k = net_of (strategy_at b k) (prices b.orders side (strategy_at b k).legs)

-- "Offer net takes offers for buy legs, bids for sell legs"
abbrev pub offer_net : State → ℕ → ℕ
offer_net b k = leg_net b 0 k

-- "bid net the reverse"
abbrev pub bid_net : State → ℕ → ℕ
bid_net b k = leg_net b 1 k

-- "the .. leg net of its own side": that of an entry of a side, "bid net" for a buy, "offer net" for a sell. The net that starts an auction and the
-- net that a sweep must better (2026-03) are this one.
abbrev pub own_net : State → ℕ → ℕ → ℕ
own_net b side k = leg_net b (other side) k

-- the nets that are stored of strategy k
abbrev pub nets_stored : State → ℕ → LegNets
nets_stored b k = get_or b.nets k no_nets

-- 2026-05: the whole table is the one reckoned from the leg orders and the strategies, rows of free slots included
pub record Netted (b : State) : Type 0 where
  pub are : b.nets ≡ nets_of b.orders b.strategies
