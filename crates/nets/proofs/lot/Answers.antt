use Rattle.rules.specs.Nets.{lot}
use Rattle.base.specs.Pick.{tests, told}
use Rattle.nets.proofs.lot.Goals.{else-stands-via-then-stands+else-o-price, else-stands-via-else-stands}
use Rattle.nets.proofs.lot.Goals as goal

pub returns-then-o-price : goal.returns-then-o-price
unfolding lot
returns-then-o-price c = search (tests, told c.stands.ensures c.if-stands.true)

pub returns-else-stands : goal.returns-else-stands
unfolding lot
returns-else-stands c =
    elim c.else-stands.branch [
      | else-stands-via-then-stands+else-o-price w ↦ search (tests, told c.stands.ensures w.if-stands.true, w.if-o-price.false)
      | else-stands-via-else-stands w ↦ search (tests, told c.stands.ensures w.if-stands.false)
    ]
