use Rattle.base.specs.Chains.{unless_zero}
use mathlib.Core.Path.{sym, ap, ◌∙◌}
use Rattle.rules.specs.declared.Allocation.{Allocation}
use Rattle.passes.specs.Passes.{opposite_in}
use Rattle.passes.proofs.opposite.Goals as goal

pub returns-in-LegsOnly : goal.returns-in-LegsOnly
unfolding opposite_in
returns-in-LegsOnly c = (sym (ap (λ (w : Allocation). unless_zero (opposite_in w c.args.es c.args.e)) c.in-LegsOnly.is))

pub returns-in-Shared : goal.returns-in-Shared
unfolding opposite_in
returns-in-Shared c = c.best_opposite.ensures ∙ (sym (ap (λ (w : Allocation). unless_zero (opposite_in w c.args.es c.args.e)) c.in-Shared.is))

pub returns-in-ForStarter : goal.returns-in-ForStarter
unfolding opposite_in
returns-in-ForStarter c = c.best_opposite-in-ForStarter.ensures ∙ (sym (ap (λ (w : Allocation). unless_zero (opposite_in w c.args.es c.args.e)) c.in-ForStarter.is))

pub returns-in-Numbered : goal.returns-in-Numbered
unfolding opposite_in
returns-in-Numbered c = c.best_opposite-in-Numbered.ensures ∙ (sym (ap (λ (w : Allocation). unless_zero (opposite_in w c.args.es c.args.e)) c.in-Numbered.is))
