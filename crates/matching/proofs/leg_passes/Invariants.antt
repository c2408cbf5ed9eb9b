use Rattle.std.specs.Option.{unwrap_or}
use Rattle.std.proofs.Common.{◌≡◌, ◌-◌}
use Rattle.base.specs.Chains.{found}
use Rattle.matching.specs.Places.{PassedTo}
use Rattle.matching.proofs.leg_passes.Given as goal

abbrev pub invariant-loop-next : goal.invariant-loop-next
invariant-loop-next l = PassedTo l.s l.initial.b l.initial.records l.records l.b (unwrap_or l.next 512) × (l.next ≡ found 512 (unwrap_or l.next 512))

abbrev pub decreases-loop-next : goal.decreases-loop-next
decreases-loop-next l = 512 - unwrap_or l.next 512
