use Rattle.records.specs.Done.{Visited}
use Rattle.rules.specs.Auctions.{end_holding}
use Rattle.series.proofs.shut.Given as goal

abbrev pub invariant-loop-k : goal.invariant-loop-k
invariant-loop-k l = Visited (end_holding l.s) 16 l.initial.b l.initial.records l.records l.b l.k
