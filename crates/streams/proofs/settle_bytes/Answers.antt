use Rattle.std.proofs.Common.{arith}
use Rattle.streams.specs.Texts.{settles_to-more, settles_to-all}
use Rattle.streams.proofs.settle_bytes.Goals as goal
use Rattle.streams.proofs.settle_bytes.Goals.{then-more, else-more}

pub returns : goal.returns
returns g c =
    elim c.if-more.branch [
      | then-more w ↦ settles_to-more w.if-more.true (rw w.least-is at c.drain_bytes.ensures)
      | else-more w ↦ settles_to-all w.if-more.false c.requires.1 (omega (arith, w.least-is)) c.drain_bytes.ensures
    ]
