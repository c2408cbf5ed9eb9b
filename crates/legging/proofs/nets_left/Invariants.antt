use Rattle.legging.specs.Left.{LegsLeft}
use Rattle.legging.proofs.nets_left.Given as goal

abbrev pub invariant-loop-i : goal.invariant-loop-i
invariant-loop-i l = LegsLeft l.initial.ns l.ss l.os l.side l.t.legs l.t.count l.ps l.i l.ns
