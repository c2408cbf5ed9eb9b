use Rattle.rules.specs.Given.{specialist_given}
use mathlib.Core.Path.{refl}
use borrow.Author.Rules.{rules}
use Rattle.given.proofs.specialist_given.Goals as goal

pub overflow_cast-result : goal.overflow_cast-result
unfolding specialist_given
overflow_cast-result c = search rules

pub overflow_cast-result-2 : goal.overflow_cast-result-2
unfolding specialist_given
overflow_cast-result-2 c = search rules

pub returns : goal.returns
unfolding specialist_given
returns c = refl
