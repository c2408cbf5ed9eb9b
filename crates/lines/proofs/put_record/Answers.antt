use Rattle.std.proofs.Common.{pos, get_or, SFits, to_z-of_z, arith, rules}
use Rattle.std.specs.Int.{w32}
use Rattle.lines.specs.Places.{length-at, writing-first, writing-next, writing-done}
use Rattle.lines.proofs.put_record.Goals as goal

pub loop-x-init : goal.loop-x-init
loop-x-init c = writing-first _ _ _ c.put_byte-next.ensures

pub put_signed-next-requires : goal.put_signed-next-requires
put_signed-next-requires c = omega (arith, c.requires, c.loop-x.invariant.few, length-at c.loop-x.invariant.put)

pub loop-x-preserved : goal.loop-x-preserved
loop-x-preserved c =
    let f : SFits w32 (get_or c.args.numbers.now c.loop-x.x-index (pos 0)) = search rules in
    writing-next _ c.loop-x.invariant c.loop-x-test.true (rw (to_z-of_z f) at c.put_signed-next.ensures)

pub put_byte-requires : goal.put_byte-requires
put_byte-requires c = omega (arith, c.requires, c.loop-x.invariant.few, length-at c.loop-x.invariant.put)

pub returns : goal.returns
returns c = writing-done _ c.loop-x.invariant (omega arith) c.put_byte.ensures
