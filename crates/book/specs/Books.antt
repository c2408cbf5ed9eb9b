-- What a call leaves.
use Rattle.std.specs.Prelude.{◌≡◌, List, ℕ, ◌≤◌, ℤ, length, Result, Ok}
use Rattle.events.specs.declared.Refusal.{Refusal}
use Rattle.events.specs.declared.Event.{Event}
use Rattle.rules.specs.Sizes.{records_lent}
use Rattle.rules.specs.declared.State.{State}
use Rattle.rules.specs.declared.Accepted.{Accepted}
use Rattle.rules.specs.Step.{Outcome, refuse_or_perform, step, answer_of, answer_number, answer_value, answer_count}
use Rattle.records.specs.Space.{laid}

-- What a call leaves, of the outcome o that the rules give: the state c of the book, each number of the space, which was s and is t, and the answer.
-- A space of 15,360 numbers holds the records.
pub record Handed (o : Outcome) (s t : List ℤ) (c : State) (x : Result Accepted Refusal) : Type 0 where
  pub answer : x ≡ answer_of o
  -- by the paper's number, value and count of an answer
  pub number : answer_number x ≡ o.answer
  pub value : answer_value x ≡ o.value
  pub count : answer_count x ≡ length o.moved.records
  pub state : c ≡ o.moved.state
  pub space : t ≡ laid s 0 o.moved.records
  pub few : answer_count x ≤ records_lent
  pub same : length t ≡ length s

-- an event of any kind
abbrev pub Took : State → Event → List ℤ → List ℤ → State → Result Accepted Refusal → Type 0
Took b e s t c x = Handed (refuse_or_perform b (Ok e) (length s)) s t c x

-- a frame of any bytes, with a record space of any length
abbrev pub Stepped : State → List ℕ → List ℤ → List ℤ → State → Result Accepted Refusal → Type 0
Stepped b frame s t c x = Handed (step b frame (length s)) s t c x
