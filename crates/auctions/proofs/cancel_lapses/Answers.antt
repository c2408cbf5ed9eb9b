use Rattle.auctions.specs.Auctions.{lapsed-none, lapsed-some}
use Rattle.records.specs.Done.{visit-none, visit-moves, visit-stays, visit-room, visit-all}
use Rattle.base.specs.Pick.{told}
use native.Mathlib.Omega.{arith}
use Rattle.auctions.proofs.cancel_lapses.Goals as goal
use Rattle.auctions.proofs.cancel_lapses.Goals.{then-lapses, else-lapses}

pub loop-i-init : goal.loop-i-init
loop-i-init c = visit-none _ _ _ _

pub cancel_entry-requires-clause-room : goal.cancel_entry-requires-clause-room
cancel_entry-requires-clause-room c = visit-room c.loop-i.invariant c.loop-i-test.true (lapsed-some _ _ _ (told c.lapses.ensures c.if-lapses.true)) c.requires

pub loop-i-preserved : goal.loop-i-preserved
loop-i-preserved c = (elim c.if-lapses.branch [
  | then-lapses w ↦ rw (w.records-is, w.b-is) (visit-moves c.loop-i.invariant c.loop-i-test.true (lapsed-some _ _ _ (told c.lapses.ensures w.if-lapses.true)) w.cancel_entry.ensures)
  | else-lapses w ↦ rw (w.records-is, w.b-is) (visit-stays c.loop-i.invariant c.loop-i-test.true (lapsed-none _ _ _ (told c.lapses.ensures w.if-lapses.false)))
])

pub returns : goal.returns
returns c = visit-all c.loop-i.invariant (omega arith)
