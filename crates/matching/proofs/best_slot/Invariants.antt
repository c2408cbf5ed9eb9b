use Rattle.matching.specs.Slots.{BestSoFar}
use Rattle.matching.proofs.best_slot.Given as goal

abbrev pub invariant-loop-i : goal.invariant-loop-i
invariant-loop-i l = BestSoFar l.fn.es l.k l.side l.i l.slot l.best
