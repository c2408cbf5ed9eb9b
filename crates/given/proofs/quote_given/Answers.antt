use Rattle.rules.specs.Given.{quote_given}
use mathlib.Core.Path.{refl}
use Rattle.given.proofs.quote_given.Goals as goal

pub returns : goal.returns
unfolding quote_given
returns c = refl
