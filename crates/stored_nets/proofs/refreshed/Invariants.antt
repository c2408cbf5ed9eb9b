use mathlib.Core.Path.{◌≡◌}
use Rattle.base.specs.Walks.{seam}
use Rattle.stored_nets.specs.Stored.{after_at}
use Rattle.stored_nets.proofs.refreshed.Given as goal

abbrev pub invariant-loop-k : goal.invariant-loop-k
invariant-loop-k l = l.ms ≡ seam (after_at l.ns l.fn.ss l.os l.s l.side l.old l.new) l.ns l.k
