-- Every accepted event meets its sentence, in every state that frames lead to.
use Rattle.std.specs.Prelude.{Result, Ok, Err}
use mathlib.Core.Path.{◌≡◌, refl, ap}
use mathlib.Core.List.{List}
use Prim.Native.Nat.{ℕ, ◌≤◌}
use native.Mathlib.Omega.{arith}
use borrow.Author.Tests.{eqb-true, eqb-false}
use lib.Dec.{eqb, ltb}
use Rattle.base.specs.Pick.{pick-by}
use Rattle.events.specs.declared.Refusal.{Refusal}
use Rattle.events.specs.declared.Event.{Event}
use Rattle.events.specs.declared.Event.TheVariants as E
use Rattle.frames.specs.Frames.{read_of}
use Rattle.rules.specs.declared.State.{State}
use Rattle.rules.specs.State.{fresh}
use Rattle.rules.specs.Moves.{Moved}
use Rattle.rules.specs.Refusals.{causes, read_causes, table_of, refusal}
use Rattle.rules.specs.Step.{Outcome, accept, refused, perform, refuse_or_perform, step}
use Rattle.rules.specs.Fits.{FitReading}
use Rattle.rules.specs.Sentences.{AcceptedEvent, Sentence, ReachedState, OneSweep}
use Rattle.rules.proofs.Ranges.{reading-fit}
use Rattle.rules.proofs.Validity.{clear, valid-fresh, valid-step}
use Rattle.rules.proofs.Definitions.{strategy-sentence}
use Rattle.rules.proofs.Orders.{order-sentence}
use Rattle.rules.proofs.Sweeps.{sweep-sentence}
use Rattle.rules.proofs.OneSweep.{one-sweep-fresh, one-sweep-kept}
use Rattle.rules.proofs.LegOrders.{leg-order-sentence}
use Rattle.rules.proofs.Cancels.{cancel-sentence}
use Rattle.rules.proofs.Matching.{series-sentence}
use Rattle.rules.proofs.Clocks.{clock-sentence}
use Rattle.rules.proofs.LastRecords.{day-end-sentence}
use Rattle.rules.proofs.Nationals.{national-sentence, range-sentence}
use Rattle.rules.proofs.Specialists.{specialist-sentence}

-- EACH EVENT
pub event-sentence : (b : State) (e : Event) → AcceptedEvent b e → OneSweep b → Sentence b e
event-sentence b (E.Strategy e) a o = strategy-sentence b e a
event-sentence b (E.Order e) a o = order-sentence b e a
event-sentence b (E.Sweep e) a o = sweep-sentence b e a o
event-sentence b (E.LegOrder e) a o = leg-order-sentence b e a
event-sentence b (E.Cancel e) a o = cancel-sentence b e a
event-sentence b (E.Series e) a o = series-sentence b e a
event-sentence b (E.Clock e) a o = clock-sentence b e a o
event-sentence b (E.DayEnd e) a o = day-end-sentence b e a
event-sentence b (E.National e) a o = national-sentence b e a
event-sentence b (E.Range e) a o = range-sentence b e a
event-sentence b (E.Specialist e) a o = specialist-sentence b e a

-- EACH STATE
pub reached-fresh : (timer : ℕ) → 1 ≤ timer → timer ≤ 5000 → ReachedState (fresh timer)
reached-fresh timer h m = record { valid = valid-fresh timer h m; sweeps = one-sweep-fresh timer }

-- a reading that nothing refuses
no-refusal : (b : State) (r : Result Event Refusal) (space : ℕ) (e : Event) → r ≡ Ok e → ReachedState b → FitReading r → refusal b r space ≡ 0 → AcceptedEvent b e
unfolding refusal table_of read_causes
no-refusal b r space e q h f z =
    record { valid = h.valid; fit = rw q at f; clear = (clear 1 (ltb space 15_360) (causes b e) (omega arith) (rw q at z)).1 }

sweeps-perform : (b : State) (r : Result Event Refusal) (space : ℕ) → ReachedState b → FitReading r → refusal b r space ≡ 0 → OneSweep (perform b r).moved.state
unfolding perform refused
sweeps-perform b (Err r) space h f z = h.sweeps
sweeps-perform b (Ok e) space h f z = one-sweep-kept b e (no-refusal b (Ok e) space e refl h f z) h.sweeps

sweeps-refuse_or_perform : (b : State) (r : Result Event Refusal) (space : ℕ) → ReachedState b → FitReading r → OneSweep (refuse_or_perform b r space).moved.state
unfolding refuse_or_perform refused
sweeps-refuse_or_perform b r space h f =
    pick-by (λ (o : Outcome). OneSweep o.moved.state) (eqb (refusal b r space) 0) (λ z. sweeps-perform b r space h f (eqb-true _ _ z)) (λ _. h.sweeps)

pub reached-step : (b : State) → ReachedState b → (frame : List ℕ) (space : ℕ) → ReachedState (step b frame space).moved.state
unfolding step
reached-step b h frame space = record { valid = valid-step b h.valid frame space; sweeps = sweeps-refuse_or_perform b (read_of frame) space h (reading-fit frame) }

-- EACH FRAME that reads as an event and is answered 0: what moves is that event's, and the event's sentence holds
pub record Held (b : State) (e : Event) (x : Moved) : Type 0 where
  pub moves : x ≡ accept b e
  pub sentence : Sentence b e

decide-sentence : (b : State) (r : Result Event Refusal) (space : ℕ) (e : Event) → r ≡ Ok e → ReachedState b → FitReading r → (refuse_or_perform b r space).answer ≡ 0 → Held b e (refuse_or_perform b r space).moved
unfolding refuse_or_perform perform refused
decide-sentence b r space e q h f =
    pick-by (λ (o : Outcome). o.answer ≡ 0 → Held b e o.moved) (eqb (refusal b r space) 0)
    (λ z _. record {
      moves = ap (λ (x : Result Event Refusal). (perform b x).moved) q;
      sentence = event-sentence b e (no-refusal b r space e q h f (eqb-true _ _ z)) h.sweeps;
    })
    (λ z n. absurd (eqb-false _ _ z n))

pub step-sentence : (b : State) → ReachedState b → (frame : List ℕ) (space : ℕ) (e : Event) → read_of frame ≡ Ok e → (step b frame space).answer ≡ 0 → Held b e (step b frame space).moved
unfolding step
step-sentence b h frame space e q = decide-sentence b (read_of frame) space e q h (reading-fit frame)
