use Rattle.std.proofs.Common.{add-one, take-suc, length-take-le, arith}
use Rattle.lines.specs.Puts.{put-length, put_then}
use Rattle.lines.proofs.Text.put.Goals as goal

pub push-requires : goal.push-requires
push-requires c =
    omega (arith, c.requires, c.loop-byte.invariant.next, put-length c.loop-byte.invariant, length-take-le c.loop-byte.byte-index c.args.bytes.now (omega arith))

pub loop-byte-preserved : goal.loop-byte-preserved
loop-byte-preserved c = rw (add-one, take-suc c.args.bytes.now c.loop-byte.byte-index 0 c.loop-byte-test.true) (put_then c.loop-byte.invariant c.push.ensures)
