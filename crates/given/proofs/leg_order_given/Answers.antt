use mathlib.Core.Path.{refl}
use Rattle.rules.specs.Given.{leg_order_given}
use Rattle.given.proofs.leg_order_given.Goals as goal

pub returns : goal.returns
unfolding leg_order_given
returns c = refl
