use Rattle.std.proofs.Common.{◌≡◌, arith}
use Rattle.base.specs.Walks.{walk_first, walk-next}
use Rattle.rules.specs.Strategies.{over_threefold}
use Rattle.terms.specs.Terms.{smallest-most}
use Rattle.terms.proofs.over_threefold.Goals as goal

pub loop-i-init : goal.loop-i-init
loop-i-init c = (walk_first _ _, walk_first _ _)

pub loop-i-preserved : goal.loop-i-preserved
loop-i-preserved c =
    (walk-next _ _ _ c.loop-i.invariant.0 (rw c.leg_at-ratio.ensures at c.max-largest.ensures), walk-next _ _ _ c.loop-i.invariant.1 (rw c.leg_at-ratio.ensures at c.min-smallest.ensures))

pub overflow_mul-result : goal.overflow_mul-result
overflow_mul-result c = rw c.loop-i.invariant.1 (omega (arith, smallest-most c.args.legs c.loop-i.i))

pub returns : goal.returns
unfolding over_threefold
returns c = let e : c.loop-i.i ≡ c.args.count = omega arith in rw (← e, c.loop-i.invariant.0, c.loop-i.invariant.1)
