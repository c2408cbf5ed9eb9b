use Rattle.rules.specs.State.{fresh}
use Rattle.tables.proofs.fresh.Goals as goal

pub returns : goal.returns
unfolding fresh
returns c = rw c.free_strategy.ensures
