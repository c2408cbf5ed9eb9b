use Rattle.rules.specs.Nets.{starts_afresh}
use mathlib.Core.Path.{sym, ◌∙◌}
use borrow.Author.Tests.{eq-eqb, ne_eqb}
use Rattle.base.specs.Pick.{pick_true, pick-false}
use Rattle.nets.proofs.starts_afresh.Goals as goal

pub returns-then-p-eq0 : goal.returns-then-p-eq0
unfolding starts_afresh
returns-then-p-eq0 c = let e = eq-eqb c.args.p 0 c.if-p-eq0.true in e ∙ sym (pick_true _ _ _ e)

pub returns-else-p-eq0 : goal.returns-else-p-eq0
unfolding starts_afresh
returns-else-p-eq0 c = c.better.ensures ∙ sym (pick-false _ _ _ (ne_eqb _ _ c.if-p-eq0.false))
