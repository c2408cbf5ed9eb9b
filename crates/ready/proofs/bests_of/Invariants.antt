use Rattle.ready.specs.Lots.{bests_after}
use Rattle.std.specs.Prelude.{◌≡◌}
use Rattle.ready.proofs.bests_of.Given as goal

abbrev pub invariant-loop-o : goal.invariant-loop-o
invariant-loop-o l = l.bests ≡ bests_after l.fn.os l.o-index
