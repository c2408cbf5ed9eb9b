use Rattle.nets.specs.Nets.{stands-other-series, stands-other-side, stands-there}
use borrow.Author.Tests.{ne_eqb}
use mathlib.Core.Path.{◌∙◌}
use mathlib.Core.Logic.{⊎_elim}
use Rattle.nets.proofs.stands.Goals.{then-o-s, else-o-s}
use Rattle.nets.proofs.stands.Goals as goal

pub returns-then-o-side : goal.returns-then-o-side
returns-then-o-side c = stands-there _ _ _ c.if-o-side.true.0 c.if-o-side.true.1

pub returns-else-o-side : goal.returns-else-o-side
returns-else-o-side c =
    elim c.if-o-s.branch [
      | then-o-s w ↦ ⊎_elim (λ p. w.t-5-is ∙ ne_eqb _ _ p.1 ∙ stands-other-side _ _ _ p.1) (λ n. absurd (n w.if-o-s.true)) c.if-o-side.either
      | else-o-s w ↦ w.t-5-is ∙ ne_eqb _ _ w.if-o-s.false ∙ stands-other-series _ _ _ w.if-o-s.false
    ]
