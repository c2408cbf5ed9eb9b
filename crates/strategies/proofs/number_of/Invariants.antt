use mathlib.Core.Path.{◌≡◌}
use Rattle.std.specs.Prelude.{true, ◌≤◌}
use Prim.Native.Nat.{◌-◌}
use Rattle.base.specs.Walks.{all_n, Passed}
use Rattle.rules.specs.Strategies.{same_at}
use Rattle.strategies.specs.Held.{agree_at}
use Rattle.strategies.proofs.number_of.Given as goal

abbrev pub invariant-loop-i : goal.invariant-loop-i
invariant-loop-i l = (all_n (agree_at l.theirs l.s.legs) l.i ≡ true) × (l.k ≡ l.initial.k)

abbrev pub decreases-held : goal.decreases-held
decreases-held l = l.n - l.k

abbrev pub invariant-held : goal.invariant-held
invariant-held l = (l.k ≤ l.n) × Passed (same_at l.b l.s) l.k
