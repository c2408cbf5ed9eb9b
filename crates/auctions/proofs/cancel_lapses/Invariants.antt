use Rattle.records.specs.Done.{Visited}
use Rattle.rules.specs.Auctions.{cancel_lapsed}
use Rattle.auctions.proofs.cancel_lapses.Given as goal

abbrev pub invariant-loop-i : goal.invariant-loop-i
invariant-loop-i l = Visited (cancel_lapsed l.k) 32 l.initial.b l.initial.records l.records l.b l.i
