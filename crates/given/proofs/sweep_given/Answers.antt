use mathlib.Core.Path.{refl}
use Rattle.rules.specs.Given.{sweep_given}
use Rattle.given.proofs.sweep_given.Goals as goal

pub returns : goal.returns
unfolding sweep_given
returns c = refl
