-- What holds of every record of an event: of those of the proper fills, of the cancels and of the auctions, so of all.
use Prim.Native.Nat.{ℕ}
use Rattle.base.specs.Pick.{pick_all}
use Rattle.base.specs.All.{All, all_nil, all_append}
use Rattle.rules.specs.declared.Entry.{Entry}
use Rattle.rules.specs.declared.State.{State}
use Rattle.rules.specs.declared.Record.{Record}
use Rattle.rules.specs.State.{with_opened, with_clock}
use Rattle.rules.specs.Moves.{Moved, still, and_then}
use Rattle.rules.specs.Events.{enter, enter_order, enter_sweep, on_sweep, on_series, close_running, cancel_lowest, restart, on_day_end}
use Rattle.rules.specs.Given.{order_given, sweep_given, leg_order_given}
use Rattle.rules.specs.Step.{accept}
use Rattle.events.specs.declared.Event.{Event}
use Rattle.events.specs.declared.Event.TheVariants as E
use Rattle.rules.proofs.Control.{Kept, each-kept, close_running-kept, cancel_lowest-kept, shut-kept, reopen-kept, on_order-kept, on_leg_order-kept, cancel_number-kept, on_clock-kept}

-- from a state in S the move writes records in P, and leaves a state in S
pub record Told (S : State → Type 0) (P : Record → Type 0) (b : State) (m : Moved) : Type 0 where
  pub records : S b → All P m.records
  pub state : S b → S m.state

-- the states from which an event moves
abbrev pub Starts : (State → Type 0) → State → Event → Type 0
Starts S b (E.Strategy e) = Unit {0}
Starts S b (E.Order e) = S (enter (order_given b e) b)
Starts S b (E.Sweep e) = S b
Starts S b (E.LegOrder e) = S (enter_order (leg_order_given b e) b)
Starts S b (E.Cancel e) = S b
Starts S b (E.Series e) = (x : ℕ) → S (with_opened b x)
Starts S b (E.Clock e) = S (with_clock b e.time)
Starts S b (E.DayEnd e) = S b
Starts S b (E.National e) = Unit {0}
Starts S b (E.Range e) = Unit {0}
Starts S b (E.Specialist e) = Unit {0}

module _ {S : State → Type 0} {P : Record → Type 0} where
  pub told-nothing : (b : State) → Told S P b (still b)
  told-nothing b = record { records = λ _. all_nil; state = λ s. s }

  pub told-both : (b : State) (x : Moved) (f : State → Moved) → Told S P b x → Told S P x.state (f x.state) → Told S P b (and_then x f)
  unfolding and_then
  told-both b x f h k = record { records = λ s. all_append (h.records s) (k.records (h.state s)); state = λ s. k.state (h.state s) }

  module _ (κ : Kept (Told S P)) where
    series-told : (s state : ℕ) (b : State) → ((x : ℕ) → S (with_opened b x)) → All P (on_series s state b).records
    unfolding on_series
    series-told s state b h =
        let Q : Moved → Type 0 = λ (m : Moved). All P m.records in
        pick_all Q _ (pick_all Q _ ((shut-kept κ s b).records (h _)) all_nil) (pick_all Q _ all_nil ((reopen-kept κ s b).records (h _)))

    sweep-told : (e : Entry) (b : State) → S b → All P (on_sweep e b).records
    unfolding on_sweep and_then enter_sweep
    sweep-told e b h = all_append ((κ.cancel b _).records h) (pick_all (λ (m : Moved). All P m.records) _ all_nil all_nil)

    day-end-told : (t : ℕ) (b : State) → S b → All P (on_day_end t b).records
    unfolding on_day_end restart and_then
    day-end-told t b h =
        let x = each-kept κ close_running (close_running-kept κ) 16 b in
        all_append (x.records h) (all_append ((each-kept κ cancel_lowest (cancel_lowest-kept κ) 64 _).records (x.state h)) all_nil)

    pub accept-told : (b : State) (e : Event) → Starts S b e → All P (accept b e).records
    unfolding accept
    accept-told b (E.Strategy e) h = all_nil
    accept-told b (E.Order e) h = (on_order-kept κ (order_given b e) b).records h
    accept-told b (E.Sweep e) h = sweep-told (sweep_given b e) b h
    accept-told b (E.LegOrder e) h = (on_leg_order-kept κ (leg_order_given b e) b).records h
    accept-told b (E.Cancel e) h = (cancel_number-kept κ e.number b).records h
    accept-told b (E.Series e) h = series-told e.series e.state b h
    accept-told b (E.Clock e) h = (on_clock-kept κ e.time b).records h
    accept-told b (E.DayEnd e) h = day-end-told e.timer b h
    accept-told b (E.National e) h = all_nil
    accept-told b (E.Range e) h = all_nil
    accept-told b (E.Specialist e) h = all_nil
