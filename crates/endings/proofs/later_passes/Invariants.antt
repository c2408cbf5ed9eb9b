use Rattle.records.specs.Done.{Visited}
use Rattle.rules.specs.Auctions.{later_pass}
use Rattle.endings.proofs.later_passes.Given as goal

abbrev pub invariant-loop-i : goal.invariant-loop-i
invariant-loop-i l = Visited (later_pass l.k l.n) 32 l.initial.b l.initial.records l.records l.b l.i
