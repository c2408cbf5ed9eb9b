use Rattle.rules.specs.Events.{free_order_slot}
use Rattle.refusals.specs.Refusing.{slots-full}
use lib.ListN.{length}
use mathlib.Core.Path.{◌≡◌}
use borrow.Author.Rules.{rules}
use Rattle.refusals.proofs.leg_orders_full.Goals as goal

pub returns : goal.returns
unfolding free_order_slot
returns c = slots-full c.args.b (let l : length c.args.b.orders ≡ 32 = search rules in l) c.free_order_slot.ensures
