use Rattle.std.proofs.Common.{◌∙◌}
use Rattle.national.specs.National.{take-buy, take-sell}
use Rattle.national.proofs.may_take.Goals as goal

pub returns-then-side-eq0 : goal.returns-then-side-eq0
returns-then-side-eq0 c = c.may_buy.ensures ∙ take-buy _ _ _ c.if-side-eq0.true

pub returns-else-side-eq0 : goal.returns-else-side-eq0
returns-else-side-eq0 c = c.may_sell.ensures ∙ take-sell _ _ _ c.if-side-eq0.false
