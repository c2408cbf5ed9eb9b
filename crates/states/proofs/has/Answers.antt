use mathlib.Core.Path.{sym, ◌∙◌}
use Rattle.base.specs.Sets.{has}
use Rattle.base.specs.SetLaws.{has-past}
use borrow.Author.Rules.{rules}
use borrow.Author.Tests.{le-ltb}
use Rattle.states.proofs.has.Goals as goal

pub returns-then-s-lt32 : goal.returns-then-s-lt32
unfolding has
returns-then-s-lt32 c = search rules

pub returns-else-s-lt32 : goal.returns-else-s-lt32
returns-else-s-lt32 c = le-ltb _ _ c.if-s-lt32.false ∙ sym (has-past _ _ c.ranges.x.fits c.if-s-lt32.false)
