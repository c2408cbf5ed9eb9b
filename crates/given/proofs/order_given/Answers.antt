use mathlib.Core.Path.{refl}
use Rattle.rules.specs.Given.{order_given}
use Rattle.given.proofs.order_given.Goals as goal

pub returns : goal.returns
unfolding order_given
returns c = refl
