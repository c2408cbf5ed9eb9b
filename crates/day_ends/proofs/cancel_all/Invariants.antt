use Rattle.records.specs.Done.{Visited}
use Rattle.rules.specs.Events.{cancel_lowest}
use Rattle.day_ends.proofs.cancel_all.Given as goal

abbrev pub invariant-loop : goal.invariant-loop
invariant-loop l = Visited cancel_lowest 64 l.initial.b l.initial.records l.records l.b l.counter
