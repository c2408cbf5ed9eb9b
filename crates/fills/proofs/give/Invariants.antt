use Rattle.fills.specs.Gives.{Giving}
use Rattle.fills.proofs.give.Given as goal

abbrev pub invariant-loop-i : goal.invariant-loop-i
invariant-loop-i l = Giving l.initial.rows l.s l.a l.level l.fn.qs l.initial.records l.records l.rows l.i
