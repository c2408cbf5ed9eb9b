use Rattle.std.proofs.Common.{◌≡◌, arith}
use Rattle.rules.specs.Strategies.{series_set}
use Rattle.strategies.specs.Order.{set_first, set_next}
use Rattle.strategies.proofs.series_set.Goals as goal

pub loop-i-init : goal.loop-i-init
loop-i-init c = set_first _

pub loop-i-preserved : goal.loop-i-preserved
loop-i-preserved c = set_next _ _ c.loop-i.invariant (rw c.leg_at.ensures at c.add_series-x.ensures)

pub returns : goal.returns
unfolding series_set
returns c = let e : c.loop-i.i ≡ c.args.count = omega arith in rw e at c.loop-i.invariant
