use mathlib.Core.Path.{◌≡◌}
use Rattle.base.specs.Walks.{walk}
use Rattle.rules.specs.Strategies.{largest_step, smallest_step}
use Rattle.terms.proofs.over_threefold.Given as goal

abbrev pub invariant-loop-i : goal.invariant-loop-i
invariant-loop-i l = (l.largest ≡ walk (largest_step l.legs) 0 l.i) × (l.smallest ≡ walk (smallest_step l.legs) 12 l.i)
