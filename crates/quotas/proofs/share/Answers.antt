use mathlib.Core.Path.{ap}
use Prim.Native.Nat.{ℕ, ◌≤◌, ◌-◌}
use native.Mathlib.Omega.{arith}
use lib.ListN.{get_or}
use Rattle.base.specs.Walks.{sum_n, stored-first, stored_next, stored_last}
use Rattle.quotas.specs.Laws.{one_left, portions-fit, share-parts, share-whole, shared-is}
use Rattle.quotas.specs.Bounds.{one-le, portion-le}
use Rattle.quotas.proofs.share.Goals as goal

pub returns-then-t-r : goal.returns-then-t-r
returns-then-t-r c = share-whole _ _ _ c.total-t.ensures c.if-t-r.true

pub overflow_sub-n : goal.overflow_sub-n
overflow_sub-n c = rw c.portions_total.ensures (portions-fit c.args.r c.args.xs _ c.total-t.ensures c.if-t-r.false)

pub loop-i-init : goal.loop-i-init
unfolding sum_n
loop-i-init c = (omega arith, stored-first 32 _)

pub overflow_add-qs : goal.overflow_add-qs
overflow_add-qs c = let r : c.args.r ≤ c.total-t.result = omega arith in
    rw (c.portion.ensures, c.one_of-u.ensures) (omega (arith, portion-le c.args.r c.total-t.result (get_or c.args.xs c.loop-i.i 0) r, c.requires.1.at c.loop-i.i, one-le c.loop-i.n (get_or c.args.xs c.loop-i.i 0)))

pub overflow_sub-n-in-loop-i : goal.overflow_sub-n-in-loop-i
overflow_sub-n-in-loop-i c = rw c.one_of-u.ensures (omega (arith, one-le c.loop-i.n (get_or c.args.xs c.loop-i.i 0)))

pub loop-i-preserved : goal.loop-i-preserved
loop-i-preserved c = (
  rw c.one_of-u.ensures (one_left _ c.args.xs c.loop-i.i c.loop-i.n c.loop-i.invariant.0),
  stored_next 32 _ c.loop-i-test.true (rw (c.portion.ensures, c.one_of-u.ensures) (shared-is c.args.r c.total-t.result _ c.args.xs c.loop-i.i c.loop-i.n c.loop-i.invariant.0)) c.loop-i.invariant.1,
)

pub returns : goal.returns
returns c = share-parts _ _ _ c.total-t.ensures _ _ c.if-t-r.false (ap (λ (x : ℕ). c.args.r - x) c.portions_total.ensures) (stored_last 32 _ (omega arith) c.loop-i.invariant.1)
