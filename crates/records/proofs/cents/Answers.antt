use Rattle.records.specs.Space.{cents-is, cents-fits}
use mir.Facts.{to_z-of_z}
use mir.Val.{to_z, of_z}
use mir.Syntax.{w32}
use mathlib.Core.Path.{ap, ◌∙◌}
use Rattle.records.proofs.cents.Goals as goal

pub overflow_sub-result : goal.overflow_sub-result
overflow_sub-result c = rw (cents-is _ c.requires) (cents-fits _ c.requires)

pub returns : goal.returns
returns c = ap (λ z. to_z w32 (of_z w32 z)) (cents-is _ c.requires) ∙ to_z-of_z (cents-fits _ c.requires)
