use Rattle.turns.specs.Turns.{records-fit, tells}
use Rattle.turns.proofs.tell.Goals as goal

pub event-requires-clause-answer_in_bounds_2 : goal.event-requires-clause-answer_in_bounds_2
event-requires-clause-answer_in_bounds_2 c = records-fit _ _ c.step-answer.ensures

pub returns : goal.returns
returns c = tells _ c.step-answer.ensures c.event.ensures
