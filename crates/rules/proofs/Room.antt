-- NO EVENT WRITES MORE THAN 2,560 RECORDS, whatever its frame, from any state that is sound.
use Rattle.std.specs.Prelude.{Result, Ok, Err}
use Prim.Native.Nat.{ℕ, ◌≤◌, ◌<◌}
use native.Mathlib.Omega.{arith}
use mathlib.Core.List.{List}
use lib.ListN.{length}
use Rattle.base.specs.All.{All, all-at, all_map}
use Rattle.base.specs.Pick.{pick_all}
use Rattle.events.specs.declared.Refusal.{Refusal}
use Rattle.events.specs.declared.Event.{Event}
use Rattle.events.specs.declared.Event.TheVariants as E
use Rattle.frames.specs.Frames.{read_of}
use Rattle.rules.specs.declared.Strategy.{Strategy}
use Rattle.rules.specs.declared.State.{State}
use Rattle.rules.specs.State.{no_strategy, strategy_at, leg_at}
use Rattle.rules.specs.Given.{order_given, sweep_given, leg_order_given}
use Rattle.rules.specs.Step.{Outcome, accept, perform, refused, refuse_or_perform, step}
use Rattle.rules.specs.Valid.{Sound}
use Rattle.rules.proofs.Load.{Six}
use Rattle.rules.proofs.Bound.{order-few, sweep-few, leg-few, cancel-few, series-few, clock-few, day_end-few}

-- what the bound needs of a sound state
record Legs (s : Strategy) : Type 0 where
  count : s.count ≤ 6
  rising : (i j : ℕ) → i < j → j < s.count → (leg_at s i).series < (leg_at s j).series

pub six-sound : (b : State) → Sound b → Six b
six-sound b h =
    let none : Legs no_strategy = record { count = omega arith; rising = λ i j l m. absurd (omega arith) } in
    let all : All Legs b.strategies = all_map (λ s f. record { count = f.count; rising = f.rising }) h.strategies in
    let at : (k : ℕ) → Legs (strategy_at b k) = all-at no_strategy none all in
    record { entries = h.entry_rows; orders = h.order_rows; count = λ k. (at k).count; rising = λ k. (at k).rising }

pub accept-few : (b : State) (e : Event) → Six b → length (accept b e).records ≤ 2560
unfolding accept
accept-few b (E.Strategy e) six = omega arith
accept-few b (E.Order e) six = omega (arith, order-few (order_given b e) b six)
accept-few b (E.Sweep e) six = omega (arith, sweep-few (sweep_given b e) b)
accept-few b (E.LegOrder e) six = omega (arith, leg-few (leg_order_given b e) b six)
accept-few b (E.Cancel e) six = omega (arith, cancel-few e.number b six)
accept-few b (E.Series e) six = omega (arith, series-few e.series e.state b six)
accept-few b (E.Clock e) six = omega (arith, clock-few e.time b six)
accept-few b (E.DayEnd e) six = omega (arith, day_end-few e.timer b six)
accept-few b (E.National e) six = omega arith
accept-few b (E.Range e) six = omega arith
accept-few b (E.Specialist e) six = omega arith

perform-few : (b : State) (r : Result Event Refusal) → Six b → length (perform b r).moved.records ≤ 2560
unfolding perform refused
perform-few b (Err r) six = omega arith
perform-few b (Ok e) six = accept-few b e six

pub room-read : (b : State) → Sound b → (r : Result Event Refusal) (space : ℕ) → length (refuse_or_perform b r space).moved.records ≤ 2560
unfolding refuse_or_perform refused
room-read b h r space =
    pick_all (λ (o : Outcome). length o.moved.records ≤ 2560) _ (perform-few b r (six-sound b h)) (omega arith)

pub room : (b : State) → Sound b → (frame : List ℕ) (space : ℕ) → length (step b frame space).moved.records ≤ 2560
unfolding step
room b h frame space = room-read b h (read_of frame) space
