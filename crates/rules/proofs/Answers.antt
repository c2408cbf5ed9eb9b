-- The answer of every event: its number is that of a refusal, so that the refusal says what the number says.
use Rattle.std.specs.Prelude.{◌≡◌, true, false, Bool, List, ℕ, ◌≤◌, eqb, length, Result, Ok, Err}
use Rattle.std.proofs.Common.{refl, sym, ◌∙◌, ap, arith, eq-eqb, ne_eqb, eqb-true}
use Rattle.std.proofs.lemmas.Bool.{eqb-false}
use Rattle.base.specs.Pick.{pick, pick_all, pick_true, pick-false}
use Rattle.events.specs.Refusals.{refusal_number, refusal_of, refusal-number, number-refusal, refusal-some}
use Rattle.events.specs.declared.Refusal.{Refusal}
use Rattle.events.specs.declared.Refusal.TheVariants as F
use Rattle.events.specs.declared.Event.{Event}
use Rattle.events.specs.declared.Event.TheVariants as E
use Rattle.frames.specs.Frames.{read_of}
use Rattle.rules.specs.declared.State.{State}
use Rattle.rules.specs.Refusals.{first_cause, causes, read_causes, table_of, refusal}
use Rattle.rules.specs.Step.{Outcome, refused, perform, refuse_or_perform, step, answer_of, answer_number}

-- no number is above 15
refusal-most : (r : Refusal) → refusal_number r ≤ 15
refusal-most F.ShortSpace = omega arith
refusal-most F.BadFrame = omega arith
refusal-most F.BadField = omega arith
refusal-most F.UnknownStrategy = omega arith
refusal-most F.BadDefinition = omega arith
refusal-most F.SeriesShut = omega arith
refusal-most F.UnknownOrder = omega arith
refusal-most F.AuctionStarter = omega arith
refusal-most F.NoAuction = omega arith
refusal-most F.NothingRemoved = omega arith
refusal-most F.EarlyClock = omega arith
refusal-most F.TableFull = omega arith
refusal-most F.NumbersOut = omega arith
refusal-most F.BidAboveOffer = omega arith
refusal-most F.NothingBettered = omega arith

one-most : (t : Bool) (n : ℕ) {m : ℕ} → n ≤ 15 → m ≤ 15 → pick t n m ≤ 15
one-most t n h k = pick_all (λ (x : ℕ). x ≤ 15) t h k

causes-most : (b : State) (e : Event) → first_cause (causes b e) ≤ 15
unfolding causes first_cause
causes-most b (E.Strategy e) = one-most _ 5 (omega arith) (one-most _ 12 (omega arith) (omega arith))
causes-most b (E.Order e) = one-most _ 4 (omega arith) (one-most _ 9 (omega arith) (one-most _ 12 (omega arith) (one-most _ 13 (omega arith) (omega arith))))
causes-most b (E.Sweep e) =
    one-most _ 4 (omega arith) (one-most _ 9 (omega arith) (one-most _ 10 (omega arith) (one-most _ 15 (omega arith) (one-most _ 12 (omega arith) (one-most _ 13 (omega arith) (omega arith))))))
causes-most b (E.LegOrder e) = one-most _ 6 (omega arith) (one-most _ 12 (omega arith) (one-most _ 13 (omega arith) (omega arith)))
causes-most b (E.Cancel e) = one-most _ 7 (omega arith) (one-most _ 8 (omega arith) (omega arith))
causes-most b (E.Series e) = omega arith
causes-most b (E.Clock e) = one-most _ 11 (omega arith) (omega arith)
causes-most b (E.DayEnd e) = omega arith
causes-most b (E.National e) = one-most _ 14 (omega arith) (omega arith)
causes-most b (E.Range e) = omega arith
causes-most b (E.Specialist e) = one-most _ 4 (omega arith) (omega arith)

read-most : (b : State) (r : Result Event Refusal) → first_cause (read_causes b r) ≤ 15
unfolding read_causes first_cause
read-most b (Ok e) = causes-most b e
read-most b (Err r) = one-most true (refusal_number r) (refusal-most r) (omega arith)

refusal_most : (b : State) (r : Result Event Refusal) (space : ℕ) → refusal b r space ≤ 15
unfolding refusal table_of first_cause
refusal_most b r space = one-most _ 1 (omega arith) (read-most b r)

perform-most : (b : State) (r : Result Event Refusal) → (perform b r).answer ≤ 15
unfolding perform refused
perform-most b (Ok e) = omega arith
perform-most b (Err r) = refusal-most r

pub answer-most : (b : State) (frame : List ℕ) (space : ℕ) → (step b frame space).answer ≤ 15
unfolding step refuse_or_perform refused
answer-most b frame space = pick_all (λ (o : Outcome). o.answer ≤ 15) _ (perform-most b (read_of frame)) (refusal_most b (read_of frame) space)

-- the answer by the number of the outcome
pub answer-none : (o : Outcome) → o.answer ≡ 0 → answer_of o ≡ Ok (record { value = o.value; records = length o.moved.records })
unfolding answer_of
answer-none o z = pick_true _ _ _ (eq-eqb _ 0 z)

pub answer-some : (o : Outcome) (r : Refusal) → o.answer ≡ refusal_number r → answer_of o ≡ Err r
unfolding answer_of
answer-some o r e =
    let n = refusal-some r in
    pick-false _ _ _ (ne_eqb _ 0 (λ z. omega arith)) ∙ ap (λ (n : ℕ). Err (refusal_of n)) e ∙ ap (λ (r : Refusal). Err r) (refusal-number r)

pub answer-number : (o : Outcome) → o.answer ≤ 15 → answer_number (answer_of o) ≡ o.answer
unfolding answer_number
answer-number o h = by (eqb o.answer 0) refl
  where
    by : (t : Bool) → eqb o.answer 0 ≡ t → answer_number (answer_of o) ≡ o.answer
    by true e = ap answer_number (answer-none o (eqb-true _ _ e)) ∙ sym (eqb-true _ _ e)
    by false e =
        let n = eqb-false _ _ e in
        let k : refusal_number (refusal_of o.answer) ≡ o.answer = number-refusal o.answer (omega arith) h in
        ap answer_number (answer-some o (refusal_of o.answer) (sym k)) ∙ k
