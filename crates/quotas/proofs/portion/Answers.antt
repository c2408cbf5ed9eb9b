use mathlib.Core.Path.{refl}
use native.Mathlib.Omega.{arith}
use Rattle.rules.specs.Quotas.{portion}
use Rattle.quotas.specs.Bounds.{portion-fits}
use Rattle.quotas.proofs.portion.Goals as goal

pub overflow_mul-result : goal.overflow_mul-result
overflow_mul-result c = omega (arith, portion-fits _ _ c.requires.0 c.requires.1)

pub returns : goal.returns
unfolding portion
returns c = refl
