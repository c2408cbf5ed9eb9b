use Rattle.lines.specs.Places.{Writing}
use Rattle.lines.proofs.put_record.Given as goal

abbrev pub invariant-loop-x : goal.invariant-loop-x
invariant-loop-x l = Writing 82 12 l.numbers l.fn.out l.out l.at l.next l.x-index
