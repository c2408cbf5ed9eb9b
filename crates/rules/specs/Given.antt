-- What an event brings: the legs of a definition, and the row that enters.
use Rattle.std.specs.Prelude.{List, [], ◌∷◌, ℕ, ◌+◌}
use Rattle.events.specs.declared.Leg.{Leg as GivenLeg}
use Rattle.events.specs.declared.Strategy.{Strategy as GivenStrategy}
use Rattle.events.specs.declared.Order.{Order as GivenOrder}
use Rattle.events.specs.declared.Sweep.{Sweep as GivenSweep}
use Rattle.events.specs.declared.LegOrder.{LegOrder as GivenLegOrder}
use Rattle.events.specs.declared.National.{National as GivenNational}
use Rattle.events.specs.declared.Specialist.{Specialist as GivenSpecialist}
use Rattle.rules.specs.declared.Leg.{Leg}
use Rattle.rules.specs.declared.Specialist.{Specialist}
use Rattle.rules.specs.declared.Strategy.{Strategy}
use Rattle.rules.specs.declared.Entry.{Entry}
use Rattle.rules.specs.declared.LegOrder.{LegOrder}
use Rattle.rules.specs.declared.Quote.{Quote}
use Rattle.rules.specs.declared.State.{State}
use Rattle.rules.specs.Strategies.{defined}

-- one leg as the event has it
abbrev pub leg_given : GivenLeg → Leg
leg_given l = record { series = l.series; side = l.side; ratio = l.ratio }

-- six rows, the first count in use
abbrev pub legs_given : GivenStrategy → List Leg
legs_given e =
    leg_given e.legs.0
    ∷ (leg_given e.legs.1 ∷ (leg_given e.legs.2 ∷ (leg_given e.legs.3 ∷ (leg_given e.legs.4 ∷ (leg_given e.legs.5 ∷ [])))))

-- the strategy that a definition gives
unfoldable pub strategy_given : GivenStrategy → Strategy
strategy_given e = defined (legs_given e) e.count

-- "Numbers rise from 1 over orders and sweeps together."
abbrev pub next : State → ℕ
next b = b.last + 1

-- a complex order as it enters
unfoldable pub order_given : State → GivenOrder → Entry
order_given b e = record {
  number = next b;
  member = e.member;
  strategy = e.strategy;
  side = e.side;
  class = e.class;
  life = e.life;
  units = e.units;
  level = e.level;
}

-- a sweep is an entry of life 4
unfoldable pub sweep_given : State → GivenSweep → Entry
sweep_given b e = record {
  number = next b;
  member = e.member;
  strategy = e.strategy;
  side = e.side;
  class = 0;
  life = 4;
  units = e.units;
  level = e.level;
}

-- a leg order as it enters
unfoldable pub leg_order_given : State → GivenLegOrder → LegOrder
leg_order_given b e = record {
  number = next b;
  member = e.member;
  series = e.series;
  side = e.side;
  contracts = e.contracts;
  price = e.price;
}

-- a specialist as it is named
unfoldable pub specialist_given : GivenSpecialist → Specialist
specialist_given e = record { member = e.member; percentage = e.percentage }

-- national prices as they are set
unfoldable pub quote_given : GivenNational → Quote
quote_given e = record { bid = e.bid; offer = e.offer }
