use Rattle.std.proofs.Common.{sym, ◌∙◌, eq-eqb}
use Rattle.base.specs.Pick.{pick_true, tests}
use Rattle.rules.specs.National.{may_buy}
use Rattle.national.proofs.may_buy.Goals as goal

pub returns-then-w-eq0 : goal.returns-then-w-eq0
unfolding may_buy
returns-then-w-eq0 c = let e = eq-eqb _ _ c.if-w-eq0.true in e ∙ sym (pick_true _ _ _ e)

pub returns-else-w-eq0 : goal.returns-else-w-eq0
unfolding may_buy
returns-else-w-eq0 c = search tests
