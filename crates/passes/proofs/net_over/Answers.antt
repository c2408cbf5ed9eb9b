use Rattle.std.proofs.Common.{◌∙◌, ap, sym}
use Rattle.base.specs.Chains.{unless_zero}
use Rattle.base.specs.Pick.{pick_true, pick-false}
use Rattle.passes.proofs.net_over.Goals as goal

pub returns-then-legs : goal.returns-then-legs
returns-then-legs c = c.net_for.ensures ∙ ap unless_zero (sym (pick_true _ _ _ c.if-legs.true))

pub returns-else-legs : goal.returns-else-legs
returns-else-legs c = ap unless_zero (sym (pick-false _ _ _ c.if-legs.false))
