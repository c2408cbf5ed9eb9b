use Rattle.legging.specs.OneLeg.{Taking}
use Rattle.rules.specs.Fills.{leg_take}
use Prim.Native.Nat.{◌*◌}
use Rattle.legging.proofs.one_leg.Given as goal

abbrev pub invariant-loop-i : goal.invariant-loop-i
invariant-loop-i l = Taking l.initial.records l.records l.initial.rows l.rows l.fn.os (leg_take l.side (l.l.ratio * l.q) l.price l.l) l.left l.i
