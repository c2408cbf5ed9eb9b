use mathlib.Core.Path.{◌≡◌}
use Prim.Native.Nat.{◌-◌}
use Rattle.base.specs.Walks.{sum_n, slot, stored}
use Rattle.rules.specs.Quotas.{in_turn_at}
use Rattle.quotas.proofs.in_turn.Given as goal

abbrev pub invariant-loop-i : goal.invariant-loop-i
invariant-loop-i l = (l.left ≡ l.r - sum_n (slot l.fn.xs) l.i) × (l.qs ≡ stored 32 (in_turn_at l.r l.fn.xs) l.i)
