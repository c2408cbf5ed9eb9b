use mathlib.Core.Path.{◌≡◌}
use Rattle.base.specs.Walks.{stored}
use Rattle.rules.specs.National.{national_at}
use Rattle.national.proofs.national_net.Given as goal

abbrev pub invariant-loop-i : goal.invariant-loop-i
invariant-loop-i l = l.ps ≡ stored 6 (national_at l.qs l.side l.s.legs) l.i
