use native.Mathlib.Omega.{arith}
use Rattle.base.specs.SetLaws.{shifted, add-lt}
use Rattle.series.proofs.with_series.Goals as goal

pub overflow_add-result : goal.overflow_add-result
overflow_add-result c = omega (arith, shifted c.args.s c.requires.0, add-lt c.args.x c.args.s c.requires.0 (omega arith) c.requires.1)

pub returns : goal.returns
returns c = rw (shifted c.args.s c.requires.0)
