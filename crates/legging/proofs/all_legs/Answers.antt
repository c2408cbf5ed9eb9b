use Rattle.legging.specs.Legging.{legs-first, legs-next}
use Rattle.ranges.specs.Fit.{fit-leg}
use Rattle.records.specs.Space.{room_row}
use mathlib.Core.Path.{◌≡◌}
use native.Mathlib.Omega.{arith}
use Rattle.legging.proofs.all_legs.Goals as goal

pub loop-i-init : goal.loop-i-init
loop-i-init c = legs-first _ _ _ _ _ _

pub one_leg-requires : goal.one_leg-requires
one_leg-requires c = record { ratio_bound = ((fit-leg c.requires.fit_legs.0.legs _).ratio, c.requires.fit_legs.1); room = room_row _ _ _ c.requires.room c.loop-i-test.true c.loop-i.invariant.wrote }

pub loop-i-preserved : goal.loop-i-preserved
loop-i-preserved c = legs-next c.loop-i.invariant c.one_leg.ensures

pub returns : goal.returns
returns c = let e : c.loop-i.i ≡ c.args.s.count = omega arith in rw e at c.loop-i.invariant
