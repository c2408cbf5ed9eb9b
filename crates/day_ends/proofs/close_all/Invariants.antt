use Rattle.records.specs.Done.{Visited}
use Rattle.rules.specs.Events.{close_running}
use Rattle.day_ends.proofs.close_all.Given as goal

abbrev pub invariant-loop-k : goal.invariant-loop-k
invariant-loop-k l = Visited close_running 16 l.initial.b l.initial.records l.records l.b l.k
