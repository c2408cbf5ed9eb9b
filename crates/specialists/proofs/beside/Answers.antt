use native.Mathlib.Omega.{arith}
use Rattle.specialists.specs.Laws.{rest-most, beside-is}
use borrow.Author.Rules.{rules}
use Rattle.specialists.proofs.beside.Goals as goal

pub share-qs-requires : goal.share-qs-requires
share-qs-requires c = (omega arith, rw c.rest_of.ensures (rest-most _ _ c.requires.3))

pub returns : goal.returns
returns c = beside-is _ _ _ _ c.requires.0 c.rest_of.ensures c.share-qs.ensures (search rules)
