use Rattle.std.proofs.Common.{◌≡◌, sym, arith}
use Rattle.base.specs.Walks.{all_none, all_more, all-stop}
use Rattle.ranges.specs.Fit.{fit-leg}
use Rattle.ready.specs.Ready.{ready_by}
use Rattle.ready.specs.Lots.{other-most, leg-ready, leg-short}
use Rattle.ready.proofs.ready.Goals as goal

pub loop-i-init : goal.loop-i-init
loop-i-init c = all_none _

pub bounds-ls-l : goal.bounds-ls-l
bounds-ls-l c = let l = fit-leg c.requires.legs c.loop-i.i in omega (arith, l.series, other-most c.leg_side.result c.other-on.ensures)

pub returns-then-ls-l : goal.returns-then-ls-l
unfolding ready_by
returns-then-ls-l c = sym (all-stop _ _ _ c.loop-i-test.true (leg-short _ _ _ c.leg_side.ensures c.other-on.ensures c.if-ls-l.true))

pub loop-i-preserved : goal.loop-i-preserved
loop-i-preserved c = all_more _ _ c.loop-i.invariant (leg-ready _ _ _ c.leg_side.ensures c.other-on.ensures c.if-ls-l.false)

pub returns : goal.returns
unfolding ready_by
returns c = let e : c.loop-i.i ≡ c.args.t.count = omega arith in sym (rw e at c.loop-i.invariant)
