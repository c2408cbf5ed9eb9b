use native.Mathlib.Omega.{arith}
use Rattle.fills.proofs.leg_record.Goals as goal

pub overflow_mul-result : goal.overflow_mul-result
overflow_mul-result c = omega (arith, c.requires.0)

pub returns : goal.returns
returns c = rw c.leg_side-side.ensures
