use Rattle.std.proofs.Common.{◌≡◌, arith}
use Rattle.base.specs.Walks.{walk_first, walk-next}
use Rattle.rules.specs.Strategies.{divisor}
use Rattle.terms.proofs.divisor.Goals as goal

pub loop-i-init : goal.loop-i-init
loop-i-init c = walk_first _ _

pub loop-i-preserved : goal.loop-i-preserved
loop-i-preserved c = walk-next _ _ _ c.loop-i.invariant (rw c.leg_at.ensures at c.gcd-d.ensures)

pub returns : goal.returns
unfolding divisor
returns c = let e : c.loop-i.i ≡ c.args.count = omega arith in rw e at c.loop-i.invariant
