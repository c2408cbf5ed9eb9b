use Rattle.std.proofs.Common.{◌∙◌}
use Rattle.terms.specs.Terms.{gcd-end, gcd-next}
use Rattle.terms.proofs.+gcd.Goals as goal

pub returns-then-b-eq0 : goal.returns-then-b-eq0
returns-then-b-eq0 t c = gcd-end _ _ c.if-b-eq0.true

pub returns-else-b-eq0 : goal.returns-else-b-eq0
returns-else-b-eq0 t c = c.gcd.ensures ∙ gcd-next _ _ c.if-b-eq0.false
