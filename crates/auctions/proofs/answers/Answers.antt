use borrow.Author.Rules.{rules}
use Rattle.auctions.specs.Auctions.{answers_by}
use Rattle.auctions.proofs.answers.Goals as goal

pub returns : goal.returns
returns c = answers_by _ _ _ _ (search rules) c.starter_slot.ensures (search rules) c.other.ensures
