use Rattle.base.specs.SetLaws.{shifted}
use Rattle.base.specs.Pick.{told}
use Rattle.rules.specs.State.{with_opened}
use Rattle.series.specs.Series.{shut-is, holding-yes, holding-not}
use Rattle.records.specs.Done.{visit-none, visit-moves, visit-stays, visit-room, visit-all, done-of, room_of}
use native.Mathlib.Omega.{arith}
use Rattle.series.proofs.shut.Goals as goal
use Rattle.series.proofs.shut.Goals.{then-ends, else-ends}

pub loop-k-init : goal.loop-k-init
loop-k-init c = visit-none _ _ _ _

pub end_unfilled-requires-clause-room : goal.end_unfilled-requires-clause-room
unfolding with_opened
end_unfilled-requires-clause-room c = visit-room c.loop-k.invariant (omega arith) (holding-yes _ _ _ (told c.ends.ensures c.if-ends.true)) (room_of (shut-is _ c.args.b.now (shifted _ c.requires.s_bound) c.saturating_sub-b.ensures) c.requires.room)

pub loop-k-preserved : goal.loop-k-preserved
loop-k-preserved c = (elim c.if-ends.branch [
  | then-ends w ↦ rw (w.records-is, w.b-is) (visit-moves c.loop-k.invariant (omega arith) (holding-yes _ _ _ (told c.ends.ensures w.if-ends.true)) w.end_unfilled.ensures)
  | else-ends w ↦ rw (w.records-is, w.b-is) (visit-stays c.loop-k.invariant (omega arith) (holding-not _ _ _ (told c.ends.ensures w.if-ends.false)))
])

pub returns : goal.returns
unfolding with_opened
returns c = done-of (shut-is _ c.args.b.now (shifted _ c.requires.s_bound) c.saturating_sub-b.ensures) (visit-all c.loop-k.invariant (omega arith))
