use Rattle.rules.specs.Auctions.{match_in}
use Rattle.records.specs.Done.{Visited}
use Rattle.matching.proofs.match_series.Given as goal

abbrev pub invariant-loop-k : goal.invariant-loop-k
invariant-loop-k l = Visited (match_in l.s) 16 l.initial.b l.initial.records l.records l.b l.k
