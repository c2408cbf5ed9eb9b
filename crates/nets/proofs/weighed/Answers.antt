use Rattle.nets.specs.Nets.{weight-most, weighed-most}
use Rattle.ranges.specs.Fit.{fit-leg}
use Rattle.rules.specs.State.{no_leg}
use Rattle.rules.specs.Nets.{weighed}
use Rattle.base.specs.Walks.{sum_n}
use lib.ListN.{get_or}
use native.Mathlib.Numerals.{add-one}
use mathlib.Core.Path.{refl}
use native.Mathlib.Omega.{arith}
use Rattle.nets.proofs.weighed.Goals as goal

pub loop-i-init : goal.loop-i-init
unfolding weighed sum_n
loop-i-init c = refl

pub weight-n-requires : goal.weight-n-requires
weight-n-requires c = (fit-leg c.requires.1 _, c.requires.2, c.requires.3.at _)

pub overflow_add-n : goal.overflow_add-n
overflow_add-n c = rw (c.loop-i.invariant, c.weight-n.ensures) (omega (arith, weighed-most c.args.side c.args.legs c.args.ps c.requires.1 c.requires.3 c.loop-i.i, weight-most c.args.side (get_or c.args.legs c.loop-i.i no_leg) (get_or c.args.ps c.loop-i.i 0) (fit-leg c.requires.1 _).ratio (c.requires.3.at _)))

pub loop-i-preserved : goal.loop-i-preserved
unfolding weighed sum_n
loop-i-preserved c = rw add-one (cc)
