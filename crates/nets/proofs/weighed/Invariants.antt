use mathlib.Core.Path.{◌≡◌}
use Rattle.rules.specs.Nets.{weighed}
use Rattle.nets.proofs.weighed.Given as goal

abbrev pub invariant-loop-i : goal.invariant-loop-i
invariant-loop-i l = l.n ≡ weighed l.side l.legs l.ps l.i
