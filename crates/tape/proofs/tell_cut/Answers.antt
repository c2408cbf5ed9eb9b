use Rattle.std.proofs.Common.{arith}
use Rattle.rules.specs.Step.{answer_count}
use Rattle.tape.specs.Tapes.{cut-told}
use Rattle.tape.proofs.tell_cut.Goals as goal

pub event-requires : goal.event-requires
unfolding answer_count
event-requires c = record { answer_in_bounds = omega arith; answer_in_bounds_2 = omega arith }

pub returns : goal.returns
returns c = cut-told _ _ c.event.ensures
