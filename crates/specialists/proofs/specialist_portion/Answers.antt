use native.Mathlib.Omega.{arith}
use Rattle.rules.specs.Quotas.{specialist_portion}
use Rattle.specialists.specs.Laws.{percentage-fits}
use Rattle.specialists.proofs.specialist_portion.Goals as goal

pub overflow_mul-percentage : goal.overflow_mul-percentage
overflow_mul-percentage c = omega (arith, percentage-fits c.args.percentage c.args.r (omega (arith, c.ranges.percentage)) c.requires.0)

pub returns : goal.returns
unfolding specialist_portion
returns c = cc
