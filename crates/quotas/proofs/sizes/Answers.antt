use native.Mathlib.Omega.{arith}
use Rattle.base.specs.Walks.{stored-first, stored_next, stored_last}
use Rattle.rules.specs.Passes.{sizes}
use Rattle.quotas.proofs.sizes.Goals as goal

pub loop-i-init : goal.loop-i-init
loop-i-init c = stored-first 32 _

pub loop-i-preserved : goal.loop-i-preserved
loop-i-preserved c = stored_next 32 _ c.loop-i-test.true c.holding.ensures c.loop-i.invariant

pub returns : goal.returns
unfolding sizes
returns c = stored_last 32 _ (omega arith) c.loop-i.invariant
