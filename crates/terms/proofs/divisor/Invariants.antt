use mathlib.Core.Path.{◌≡◌}
use Rattle.base.specs.Walks.{walk}
use Rattle.rules.specs.Strategies.{divisor_step}
use Rattle.terms.proofs.divisor.Given as goal

abbrev pub invariant-loop-i : goal.invariant-loop-i
invariant-loop-i l = l.d ≡ walk (divisor_step l.legs) 0 l.i
