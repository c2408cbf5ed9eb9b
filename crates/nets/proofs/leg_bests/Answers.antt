use Prim.Native.Nat.{◌<◌}
use mathlib.Core.Path.{◌≡◌, ◌∙◌, sym}
use Rattle.nets.specs.Legs.{leg_best, leg-met, leg-price, netting-first, netting-next, sums-fit, legs-found, legs-missing, FitSums}
use Rattle.nets.specs.Bests.{of-fits, priced-none, priced-some}
use Rattle.ranges.specs.Fit.{fit-leg}
use Rattle.base.specs.Walks.{stored-first, stored_next}
use native.Mathlib.Omega.{arith}
use Rattle.nets.proofs.leg_bests.Goals as goal

pub loop-i-init : goal.loop-i-init
loop-i-init c = (stored-first _ _, netting-first _ _)

pub returns-in_err-b : goal.returns-in_err-b
returns-in_err-b c =
    c.from_residual.ensures
    ∙ legs-missing _ _ _ c.requires.2.count c.loop-i-test.true (leg-met c.args.os c.args.side c.args.s.legs c.loop-i.i c.leg_side.ensures c.other.ensures) (priced-none _ (sym c.in_err-b.was ∙ c.best_in.ensures))

pub sums_with-n-requires : goal.sums_with-n-requires
sums_with-n-requires c =
    let f : FitSums c.loop-i.i c.loop-i.n = sums-fit (leg_best c.args.os c.args.side c.args.s.legs) _ c.requires.2.legs (λ i. of-fits _ _ _ c.requires.0 c.requires.1) _ c.loop-i.invariant.1.sums in
    let b = priced-some _ (sym c.in_ok-b.was ∙ c.best_in.ensures) in
    (fit-leg c.requires.2.legs _, c.requires.2.used _ c.loop-i-test.true, rw b.0 (of-fits _ _ _ c.requires.0 c.requires.1), omega (arith, f.buys, c.requires.2.count), omega (arith, f.sells, c.requires.2.count))

pub loop-i-preserved : goal.loop-i-preserved
loop-i-preserved c =
    let b = priced-some _ (sym c.in_ok-b.was ∙ c.best_in.ensures) in
    let m : c.in_ok-b.b ≡ leg_best c.args.os c.args.side c.args.s.legs c.loop-i.i = b.0 ∙ leg-met c.args.os c.args.side c.args.s.legs c.loop-i.i c.leg_side.ensures c.other.ensures in
    let h : c.loop-i.i < 6 = omega (arith, c.requires.2.count) in
    (stored_next _ _ h (leg-price c.args.os c.args.side c.args.s.legs _ m) c.loop-i.invariant.0, netting-next _ _ h c.loop-i.invariant.1 m (rw b.0 b.1) c.sums_with-n.ensures)

pub overflow_add-result : goal.overflow_add-result
overflow_add-result c =
    let f : FitSums c.loop-i.i c.loop-i.n = sums-fit (leg_best c.args.os c.args.side c.args.s.legs) _ c.requires.2.legs (λ i. of-fits _ _ _ c.requires.0 c.requires.1) _ c.loop-i.invariant.1.sums in
    omega (arith, f.buys, c.loop-i.auto.i-end, c.requires.2.count)

pub overflow_sub-result : goal.overflow_sub-result
overflow_sub-result c =
    let f : FitSums c.loop-i.i c.loop-i.n = sums-fit (leg_best c.args.os c.args.side c.args.s.legs) _ c.requires.2.legs (λ i. of-fits _ _ _ c.requires.0 c.requires.1) _ c.loop-i.invariant.1.sums in
    omega (arith, f.sells, c.loop-i.auto.i-end, c.requires.2.count)

pub returns : goal.returns
returns c =
    let e : c.loop-i.i ≡ c.args.s.count = omega arith in
    legs-found _ _ _ c.requires.2.count (rw e at c.loop-i.invariant.0) (rw e at c.loop-i.invariant.1)
