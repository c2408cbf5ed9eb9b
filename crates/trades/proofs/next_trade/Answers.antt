use Rattle.std.proofs.Common.{rules, ◌≡◌, ◌∙◌, ap, length, refl}
use Rattle.base.specs.Chains.{found}
use Rattle.trades.specs.Trades.{next-none, next_past, next-some}
use Rattle.trades.proofs.next_trade.Goals as goal

pub returns-then-a-ge-LEG_ORDERS : goal.returns-then-a-ge-LEG_ORDERS
returns-then-a-ge-LEG_ORDERS c = let n : length c.args.os ≡ 32 = search rules in ap (found 32) (next_past _ _ n c.if-a-ge-LEG_ORDERS.true)

pub returns-then-o-eq0 : goal.returns-then-o-eq0
returns-then-o-eq0 c = ap (found 32) (next-none _ _ c.if-o-eq0.true)

pub returns : goal.returns
returns c = c.best_order.ensures ∙ ap (found 32) (next-some _ _ c.if-o-eq0.false refl)
