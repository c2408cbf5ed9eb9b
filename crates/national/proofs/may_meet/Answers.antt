use Rattle.std.proofs.Common.{◌∙◌}
use Rattle.base.specs.Pick.{told}
use Rattle.national.specs.National.{meet-yes, meet-no}
use Rattle.national.proofs.may_meet.Goals as goal

pub returns-then-may_buy : goal.returns-then-may_buy
returns-then-may_buy c = c.may_sell.ensures ∙ meet-yes _ _ (told c.may_buy.ensures c.if-may_buy.true)

pub returns-else-may_buy : goal.returns-else-may_buy
returns-else-may_buy c = c.if-may_buy.false ∙ meet-no _ _ (told c.may_buy.ensures c.if-may_buy.false)
