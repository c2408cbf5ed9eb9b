use Rattle.rules.specs.Strategies.{shut_set}
use Rattle.states.proofs.shut_set.Goals as goal

pub returns : goal.returns
unfolding shut_set
returns c = c.shut_in.ensures
