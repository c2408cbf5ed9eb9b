use mathlib.Core.Path.{◌≡◌}
use Rattle.rules.specs.Nets.{best_after}
use Rattle.nets.proofs.best_in.Given as goal

abbrev pub invariant-loop-o : goal.invariant-loop-o
invariant-loop-o l = l.b ≡ best_after l.os l.s l.side l.o-index
