use mathlib.Core.Path.{◌≡◌}
use Rattle.base.specs.Sets.{set_n}
use Rattle.rules.specs.Strategies.{present}
use Rattle.strategies.proofs.series_set.Given as goal

abbrev pub invariant-loop-i : goal.invariant-loop-i
invariant-loop-i l = l.x ≡ set_n (present l.legs l.i) 32
