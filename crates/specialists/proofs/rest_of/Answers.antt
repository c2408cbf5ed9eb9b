use Rattle.specialists.specs.Laws.{rest-is}
use borrow.Author.Rules.{rules}
use Rattle.specialists.proofs.rest_of.Goals as goal

pub returns : goal.returns
returns c = rest-is _ (search rules) _ c.requires
