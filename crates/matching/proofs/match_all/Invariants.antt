use Rattle.rules.specs.Auctions.{match_once}
use Rattle.records.specs.Done.{Visited}
use Rattle.matching.proofs.match_all.Given as goal

abbrev pub invariant-loop : goal.invariant-loop
invariant-loop l = Visited (match_once l.k) 32 l.initial.b l.initial.records l.records l.b l.counter
