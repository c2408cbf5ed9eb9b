use Rattle.base.specs.Pick.{told}
use Rattle.nets.specs.Bests.{price-afresh, price-kept, price-none}
use Rattle.nets.proofs.price_with.Goals.{else-stands-via-then-stands+else-starts_afresh, else-stands-via-else-stands}
use Rattle.nets.proofs.price_with.Goals as goal

pub returns-then-starts_afresh : goal.returns-then-starts_afresh
returns-then-starts_afresh c = price-afresh _ _ _ _ (told c.stands.ensures c.if-stands.true) (told c.starts_afresh.ensures c.if-starts_afresh.true)

pub returns-else-stands : goal.returns-else-stands
returns-else-stands c =
    elim c.else-stands.branch [
      | else-stands-via-then-stands+else-starts_afresh w ↦ price-kept _ _ _ _ (told c.stands.ensures w.if-stands.true) (told w.starts_afresh.ensures w.if-starts_afresh.false)
      | else-stands-via-else-stands w ↦ price-none _ _ _ _ (told c.stands.ensures w.if-stands.false)
    ]
