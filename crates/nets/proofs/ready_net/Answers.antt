use borrow.Author.Rules.{rules}
use Rattle.base.specs.Pick.{tests}
use Rattle.nets.specs.Legs.{net_where}
use Rattle.nets.proofs.ready_net.Goals as goal

pub returns : goal.returns
unfolding net_where
returns c = search (rules, tests)
