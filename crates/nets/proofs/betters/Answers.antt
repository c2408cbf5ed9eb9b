use borrow.Author.Rules.{rules}
use Rattle.nets.specs.Nets.{betters_net}
use Rattle.nets.proofs.betters.Goals as goal

pub returns : goal.returns
unfolding betters_net
returns c = search rules
