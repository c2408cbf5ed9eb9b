use mathlib.Core.Path.{◌≡◌}
use Prim.Native.Nat.{◌-◌}
use Rattle.base.specs.Walks.{sum_n, stored}
use Rattle.rules.specs.Quotas.{holder_at, shared_at}
use Rattle.quotas.proofs.share.Given as goal

abbrev pub invariant-loop-i : goal.invariant-loop-i
invariant-loop-i l = (l.n ≡ l.initial.n - sum_n (holder_at l.fn.xs) l.i) × (l.qs ≡ stored 32 (shared_at l.r l.t l.initial.n l.fn.xs) l.i)
