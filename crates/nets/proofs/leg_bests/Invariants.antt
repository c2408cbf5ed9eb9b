use mathlib.Core.Path.{◌≡◌}
use Rattle.base.specs.Walks.{stored}
use Rattle.rules.specs.Nets.{price_at}
use Rattle.nets.specs.Legs.{Netting, leg_best}
use Rattle.nets.proofs.leg_bests.Given as goal

abbrev pub invariant-loop-i : goal.invariant-loop-i
invariant-loop-i l = (l.prices ≡ stored 6 (price_at l.os l.side l.s.legs) l.i) × Netting (leg_best l.os l.side l.s.legs) l.s.legs l.i l.n
