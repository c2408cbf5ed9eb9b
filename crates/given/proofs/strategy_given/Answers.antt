use Rattle.given.specs.Definitions.{strategy-is}
use Rattle.given.proofs.strategy_given.Goals as goal

pub returns : goal.returns
returns c = strategy-is _ c.legs_given.ensures c.defined.ensures
