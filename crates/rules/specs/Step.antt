-- One event: a frame of any bytes, and a record space of any length.
use Rattle.std.specs.Prelude.{List, ℕ, eqb, length, Result, Ok, Err}
use Rattle.base.specs.Pick.{pick}
use Rattle.events.specs.Refusals.{refusal_number, refusal_of}
use Rattle.events.specs.declared.Refusal.{Refusal}
use Rattle.events.specs.declared.Event.{Event}
use Rattle.events.specs.declared.Event.TheVariants as E
use Rattle.frames.specs.Frames.{read_of}
use Rattle.rules.specs.declared.State.{State}
use Rattle.rules.specs.declared.Accepted.{Accepted}
use Rattle.rules.specs.Moves.{Moved, still}
use Rattle.rules.specs.Strategies.{number_of, define}
use Rattle.rules.specs.Events.{on_order, on_sweep, on_leg_order, cancel_number, on_series, on_clock, on_day_end}
use Rattle.rules.specs.National.{on_national, on_range}
use Rattle.rules.specs.Specialists.{on_specialist}
use Rattle.rules.specs.Given.{strategy_given, next, order_given, sweep_given, leg_order_given, specialist_given, quote_given}
use Rattle.rules.specs.Refusals.{refusal}

-- what an event ends in: the answer (0, or the refusal), the value, and what moved
pub record Outcome : Type 0 where
  pub answer : ℕ
  pub value : ℕ
  pub moved : Moved

-- "The value is the new order number (kinds 2 to 4), the strategy number (kind 1), or 0 (a sweep of 0 units, all other kinds)."
unfoldable pub value_of : State → Event → ℕ
value_of b (E.Strategy e) = number_of b (strategy_given e)
value_of b (E.Order e) = next b
value_of b (E.Sweep e) = pick (eqb e.units 0) 0 (next b)
value_of b (E.LegOrder e) = next b
value_of b (E.Cancel e) = 0
value_of b (E.Series e) = 0
value_of b (E.Clock e) = 0
value_of b (E.DayEnd e) = 0
value_of b (E.National e) = 0
value_of b (E.Range e) = 0
value_of b (E.Specialist e) = 0

-- what an accepted event does
unfoldable pub accept : State → Event → Moved
accept b (E.Strategy e) = still (define (strategy_given e) b)
accept b (E.Order e) = on_order (order_given b e) b
accept b (E.Sweep e) = on_sweep (sweep_given b e) b
accept b (E.LegOrder e) = on_leg_order (leg_order_given b e) b
accept b (E.Cancel e) = cancel_number e.number b
accept b (E.Series e) = on_series e.series e.state b
accept b (E.Clock e) = on_clock e.time b
accept b (E.DayEnd e) = on_day_end e.timer b
accept b (E.National e) = still (on_national e.series (quote_given e) b)
accept b (E.Range e) = still (on_range e.range b)
accept b (E.Specialist e) = still (on_specialist e.strategy (specialist_given e) b)

-- "number only"; "book, space" are left as they were
unfoldable pub refused : ℕ → State → Outcome
refused n b = record { answer = n; value = 0; moved = still b }

-- the outcome of an event that nothing refuses
unfoldable pub perform : State → Result Event Refusal → Outcome
perform b (Err r) = refused (refusal_number r) b
perform b (Ok e) = record { answer = 0; value = value_of b e; moved = accept b e }

-- the refusal, or else the event is performed
unfoldable pub refuse_or_perform : State → Result Event Refusal → ℕ → Outcome
refuse_or_perform b r space = pick (eqb (refusal b r space) 0) (perform b r) (refused (refusal b r space) b)

-- "each event goes in with the book and hands a book back"
unfoldable pub step : State → List ℕ → ℕ → Outcome
step b frame space = refuse_or_perform b (read_of frame) space

-- "An accepted event answers a value and a record count"; a refused one, "number only"
unfoldable pub answer_of : Outcome → Result Accepted Refusal
answer_of o = pick (eqb o.answer 0) (Ok (record { value = o.value; records = length o.moved.records })) (Err (refusal_of o.answer))

-- the paper's number, value and count of an answer
unfoldable pub answer_number : Result Accepted Refusal → ℕ
answer_number (Ok a) = 0
answer_number (Err r) = refusal_number r

-- its value
unfoldable pub answer_value : Result Accepted Refusal → ℕ
answer_value (Ok a) = a.value
answer_value (Err r) = 0

-- its number of records
unfoldable pub answer_count : Result Accepted Refusal → ℕ
answer_count (Ok a) = a.records
answer_count (Err r) = 0
