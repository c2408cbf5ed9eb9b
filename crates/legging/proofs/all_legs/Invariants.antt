use Rattle.legging.specs.Legging.{AllLegs}
use Rattle.legging.proofs.all_legs.Given as goal

abbrev pub invariant-loop-i : goal.invariant-loop-i
invariant-loop-i l = AllLegs l.initial.records l.records l.rows l.os l.side l.q l.s.legs l.ps l.i
