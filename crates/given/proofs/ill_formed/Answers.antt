use Rattle.std.proofs.Common.{◌∙◌}
use Rattle.base.specs.Pick.{told}
use Rattle.given.specs.Definitions.{ill-twice, ill-ratios}
use Rattle.given.proofs.ill_formed.Goals as goal

pub returns-then-twice : goal.returns-then-twice
returns-then-twice c = c.if-twice.true ∙ ill-twice _ c.legs_given-legs.ensures (told c.twice.ensures c.if-twice.true)

pub returns-else-twice : goal.returns-else-twice
returns-else-twice c = ill-ratios _ c.legs_given-legs.ensures (told c.twice.ensures c.if-twice.false) c.over_threefold.ensures
