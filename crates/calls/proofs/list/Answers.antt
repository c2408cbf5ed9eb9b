use Rattle.std.proofs.Common.{arith}
use Rattle.calls.specs.Printed.{listed-first, listed-next, printed-length}
use Rattle.calls.proofs.list.Goals as goal

pub loop-place-init : goal.loop-place-init
loop-place-init g c = listed-first _ _

pub drain-requires : goal.drain-requires
drain-requires g c = omega (arith, c.requires.room, printed-length c.loop-place.invariant)

pub loop-place-preserved : goal.loop-place-preserved
loop-place-preserved g c = listed-next _ c.loop-place.invariant c.drain.ensures c.put.ensures
