use Rattle.complex_orders.specs.ComplexOrders.{starts_by, starts-yes}
use Rattle.base.specs.Pick.{tests, told}
use Rattle.complex_orders.proofs.starts.Goals as goal

pub returns-then-may_start : goal.returns-then-may_start
returns-then-may_start c = starts-yes _ _ (told c.may_start.ensures c.if-may_start.true) c.other.ensures c.net_for.ensures c.betters.ensures

pub returns-else-may_start : goal.returns-else-may_start
unfolding starts_by
returns-else-may_start c = search (tests, told c.may_start.ensures c.if-may_start.false)
