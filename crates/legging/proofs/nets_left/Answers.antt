use Rattle.legging.specs.Left.{side-most, legs-none, done-fits, met-most, done_next}
use native.Mathlib.Omega.{arith}
use mathlib.Core.Path.{◌≡◌}
use Rattle.legging.proofs.nets_left.Goals as goal

pub loop-i-init : goal.loop-i-init
loop-i-init c = legs-none _ _ _ _ _ _ _

pub bounds-t-i : goal.bounds-t-i
bounds-t-i c = omega (arith, c.requires.3.count)

pub bounds-ps-i : goal.bounds-ps-i
bounds-ps-i c = omega (arith, c.requires.3.count)

pub refreshed-requires : goal.refreshed-requires
refreshed-requires c = (c.requires.0, c.requires.1, c.requires.2, done-fits c.args.t c.requires.1 c.requires.3 c.loop-i.invariant c.requires.0 c.requires.4, side-most _ c.other-on.ensures, met-most c.args.t c.requires.1 c.requires.3 c.loop-i.invariant c.requires.4 c.loop-i-test.true)

pub loop-i-preserved : goal.loop-i-preserved
loop-i-preserved c = done_next c.args.t c.requires.1 c.requires.3 c.loop-i.invariant c.loop-i-test.true (rw c.leg_side.ensures at c.other-on.ensures) c.refreshed.ensures

pub returns : goal.returns
returns c = let e : c.loop-i.i ≡ c.args.t.count = omega arith in rw e at c.loop-i.invariant
