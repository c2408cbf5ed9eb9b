use Rattle.day_ends.specs.DayEnds.{close-yes, close-not}
use Rattle.records.specs.Done.{visit-none, visit-moves, visit-stays, visit-room, visit-all}
use Rattle.base.specs.Pick.{told}
use native.Mathlib.Omega.{arith}
use Rattle.day_ends.proofs.close_all.Goals as goal
use Rattle.day_ends.proofs.close_all.Goals.{then-runs, else-runs}

pub loop-k-init : goal.loop-k-init
loop-k-init c = visit-none _ _ _ _

pub close-requires-clause-room : goal.close-requires-clause-room
close-requires-clause-room c = visit-room c.loop-k.invariant (omega arith) (close-yes _ _ (told c.runs.ensures c.if-runs.true)) c.requires

pub loop-k-preserved : goal.loop-k-preserved
loop-k-preserved c = (elim c.if-runs.branch [
  | then-runs w ↦ rw (w.records-is, w.b-is) (visit-moves c.loop-k.invariant (omega arith) (close-yes _ _ (told c.runs.ensures w.if-runs.true)) w.close.ensures)
  | else-runs w ↦ rw (w.records-is, w.b-is) (visit-stays c.loop-k.invariant (omega arith) (close-not _ _ (told c.runs.ensures w.if-runs.false)))
])

pub returns : goal.returns
returns c = visit-all c.loop-k.invariant (omega arith)
