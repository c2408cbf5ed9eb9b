use Rattle.std.specs.Option.{unwrap_or}
use Rattle.std.proofs.Common.{◌≡◌}
use Rattle.base.specs.Chains.{found}
use Rattle.matching.specs.Places.{Looked}
use Rattle.matching.proofs.next_pass.Given as goal

abbrev pub invariant-loop-i : goal.invariant-loop-i
invariant-loop-i l = Looked l.b.strategies l.b.entries l.b.orders l.b.opened l.s l.from l.i (unwrap_or l.best 512) × (l.best ≡ found 512 (unwrap_or l.best 512))
