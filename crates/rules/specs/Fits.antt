-- The ranges that the book's functions ask of an event's values. A frame that reads as an event has them (proofs Ranges.reading-fit); they are
-- wider than the table of fields where nothing rests on its lower end.
use Rattle.std.specs.Prelude.{ℕ, ◌≤◌, ◌<◌, get_or, Result, Ok, Err}
use Rattle.base.specs.All.{All}
use Rattle.events.specs.declared.Refusal.{Refusal}
use Rattle.events.specs.declared.Event.{Event}
use Rattle.events.specs.declared.Event.TheVariants as E
use Rattle.events.specs.declared.Strategy.{Strategy as GivenStrategy}
use Rattle.events.specs.declared.Order.{Order as GivenOrder}
use Rattle.events.specs.declared.Sweep.{Sweep as GivenSweep}
use Rattle.events.specs.declared.LegOrder.{LegOrder as GivenLegOrder}
use Rattle.rules.specs.Sizes.{strategy_slots, series_count}
use Rattle.rules.specs.State.{no_leg}
use Rattle.rules.specs.Strategies.{series_of, ratio_of}
use Rattle.rules.specs.Given.{legs_given}
use Rattle.rules.specs.Valid.{FitLeg}

-- kind 1; a leg past the count is in the ranges too, but that its ratio may be 0
pub record FitGiven (e : GivenStrategy) : Type 0 where
  pub two : 2 ≤ e.count
  pub six : e.count ≤ 6
  pub series : (i : ℕ) → i < e.count → series_of (legs_given e) i < 32
  pub side : (i : ℕ) → i < e.count → (get_or (legs_given e) i no_leg).side ≤ 1
  pub ratio : (i : ℕ) → i < e.count → (1 ≤ ratio_of (legs_given e) i) × (ratio_of (legs_given e) i ≤ 12)
  pub legs : All FitLeg (legs_given e)

-- kind 2
pub record FitOrderGiven (e : GivenOrder) : Type 0 where
  pub member : e.member ≤ 65_535
  pub strategy : e.strategy < strategy_slots
  pub side : e.side ≤ 1
  pub class : e.class ≤ 3
  pub life : e.life ≤ 3
  pub units : (1 ≤ e.units) × (e.units ≤ 9999)
  pub level : (1 ≤ e.level) × (e.level ≤ 19_999_999)

-- kind 3
pub record FitSweepGiven (e : GivenSweep) : Type 0 where
  pub member : e.member ≤ 65_535
  pub strategy : e.strategy < strategy_slots
  pub side : e.side ≤ 1
  pub units : e.units ≤ 9999
  pub level : (1 ≤ e.level) × (e.level ≤ 19_999_999)

-- kind 4
pub record FitLegOrderGiven (e : GivenLegOrder) : Type 0 where
  pub member : e.member ≤ 65_535
  pub series : e.series < 32
  pub side : e.side ≤ 1
  pub contracts : (1 ≤ e.contracts) × (e.contracts ≤ 9999)
  pub price : (1 ≤ e.price) × (e.price ≤ 99_999)

-- each kind
abbrev pub FitEvent : Event → Type 0
FitEvent (E.Strategy e) = FitGiven e
FitEvent (E.Order e) = FitOrderGiven e
FitEvent (E.Sweep e) = FitSweepGiven e
FitEvent (E.LegOrder e) = FitLegOrderGiven e
FitEvent (E.Cancel e) = 1 ≤ e.number
FitEvent (E.Series e) = e.series < 32
FitEvent (E.Clock e) = e.time ≤ 86_400_000
FitEvent (E.DayEnd e) = (1 ≤ e.timer) × (e.timer ≤ 5000)
FitEvent (E.National e) = (e.series < series_count) × (e.bid ≤ 99_999) × (e.offer ≤ 99_999)
FitEvent (E.Range e) = e.range ≤ 9999
FitEvent (E.Specialist e) = (1 ≤ e.member) × (e.member ≤ 65_535) × (e.strategy < strategy_slots) × (e.percentage ≤ 100)

-- a frame that is refused has none
abbrev pub FitReading : Result Event Refusal → Type 0
FitReading (Ok e) = FitEvent e
FitReading (Err r) = Unit {0}
