use Rattle.ready.specs.Ready.{ready_leg}
use Rattle.rules.specs.State.{no_leg}
use Rattle.base.specs.Walks.{all_n}
use lib.ListN.{get_or}
use mathlib.Core.Bool.{true}
use mathlib.Core.Path.{◌≡◌}
use Prim.Native.Nat.{ℕ}
use Rattle.ready.proofs.ready.Given as goal

abbrev pub invariant-loop-i : goal.invariant-loop-i
invariant-loop-i l = all_n (λ (k : ℕ). ready_leg l.ls l.side (get_or l.t.legs k no_leg)) l.i ≡ true
