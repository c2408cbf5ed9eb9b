use Rattle.std.proofs.Common.{arith}
use Rattle.base.specs.Pick.{told}
use Rattle.matching.specs.Slots.{best-none, best-takes, best-stays, best-all}
use Rattle.matching.proofs.best_slot.Goals as goal
use Rattle.matching.proofs.best_slot.Goals.{then-ahead, else-ahead}

pub loop-i-init : goal.loop-i-init
loop-i-init c = best-none _ _ _

pub loop-i-preserved : goal.loop-i-preserved
loop-i-preserved c = elim c.if-ahead.branch [
  | then-ahead w ↦ rw (w.slot-is, w.best-is) (best-takes c.loop-i.invariant (omega arith) (told c.ahead.ensures w.if-ahead.true))
  | else-ahead w ↦ rw (w.slot-is, w.best-is) (best-stays c.loop-i.invariant (told c.ahead.ensures w.if-ahead.false))
]

pub returns : goal.returns
returns c = best-all c.loop-i.invariant (omega arith)
