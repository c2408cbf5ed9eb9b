use Rattle.passes.specs.Passes.{Turning}
use Rattle.passes.proofs.pass.Given as goal

abbrev pub invariant-loop : goal.invariant-loop
invariant-loop l = Turning l.way l.legs l.a l.end l.initial.b l.initial.records l.records l.b l.counter
