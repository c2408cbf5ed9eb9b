use mathlib.Core.Path.{◌≡◌}
use Rattle.base.specs.Walks.{sum_n}
use Rattle.rules.specs.Quotas.{portion_at}
use Rattle.quotas.proofs.portions_total.Given as goal

abbrev pub invariant-loop-x : goal.invariant-loop-x
invariant-loop-x l = l.n ≡ sum_n (portion_at l.r l.total l.fn.xs) l.x-index
