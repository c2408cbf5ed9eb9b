use mathlib.Core.Path.{◌≡◌}
use Rattle.base.specs.Walks.{stored}
use Rattle.rules.specs.Passes.{size_at}
use Rattle.quotas.specs.Groups.{group_number}
use Rattle.quotas.proofs.sizes.Given as goal

abbrev pub invariant-loop-i : goal.invariant-loop-i
invariant-loop-i l = l.xs ≡ stored 32 (size_at l.fn.es l.fn.e l.fn.level (group_number l.fn.g)) l.i
