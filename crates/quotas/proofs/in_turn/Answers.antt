use mathlib.Core.Path.{◌∙◌}
use native.Mathlib.Omega.{arith}
use Rattle.base.specs.Walks.{sum_n, stored-first, stored_next, stored_last}
use Rattle.rules.specs.Quotas.{in_turn}
use Rattle.quotas.specs.Laws.{in_turn-is, in_turn-left}
use Rattle.quotas.proofs.in_turn.Goals as goal

pub loop-i-init : goal.loop-i-init
unfolding sum_n
loop-i-init c = (omega arith, stored-first 32 _)

pub loop-i-preserved : goal.loop-i-preserved
loop-i-preserved c = (rw c.min-q.ensures (in_turn-left c.args.r c.args.xs c.loop-i.i c.loop-i.left c.loop-i.invariant.0), stored_next 32 _ c.loop-i-test.true (c.min-q.ensures ∙ in_turn-is c.args.r c.args.xs c.loop-i.i c.loop-i.left c.loop-i.invariant.0) c.loop-i.invariant.1)

pub returns : goal.returns
unfolding in_turn
returns c = stored_last 32 _ (omega arith) c.loop-i.invariant.1
