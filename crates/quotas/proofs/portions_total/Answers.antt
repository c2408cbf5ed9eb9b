use mathlib.Core.Path.{◌≡◌, refl}
use Prim.Native.Nat.{◌≤◌}
use native.Mathlib.Numerals.{add-one}
use native.Mathlib.Omega.{arith}
use lib.ListN.{get_or}
use Rattle.base.specs.Walks.{sum_n}
use Rattle.quotas.specs.Bounds.{portion-le, portions-le}
use Rattle.quotas.proofs.portions_total.Goals as goal

pub loop-x-init : goal.loop-x-init
unfolding sum_n
loop-x-init c = refl

pub overflow_add-n : goal.overflow_add-n
overflow_add-n c = let r : c.args.r ≤ c.args.total = omega arith in
    rw (c.loop-x.invariant, c.portion-n.ensures) (omega (arith, portions-le c.args.r c.args.total c.args.xs r c.requires.2 c.loop-x.x-index, portion-le c.args.r c.args.total (get_or c.args.xs c.loop-x.x-index 0) r, c.requires.2.at c.loop-x.x-index))

pub loop-x-preserved : goal.loop-x-preserved
unfolding sum_n
loop-x-preserved c = rw add-one (cc)

pub returns : goal.returns
returns c = let e : c.loop-x.x-index ≡ 32 = omega arith in cc
