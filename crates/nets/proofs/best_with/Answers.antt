use Rattle.nets.specs.Bests.{with-afresh, with-equal, with-worse, with_none}
use Rattle.base.specs.Pick.{told}
use Rattle.nets.proofs.best_with.Goals as goal

pub returns-then-starts_afresh : goal.returns-then-starts_afresh
returns-then-starts_afresh c = with-afresh _ _ _ _ (told c.stands.ensures c.if-stands.true) (told c.starts_afresh.ensures c.if-starts_afresh.true)

pub returns-then-o-b : goal.returns-then-o-b
returns-then-o-b c = with-equal _ _ _ _ (told c.stands.ensures c.if-stands.true) (told c.starts_afresh.ensures c.if-starts_afresh.false) c.if-o-b.true

pub returns-else-o-b : goal.returns-else-o-b
returns-else-o-b c = with-worse _ _ _ _ (told c.stands.ensures c.if-stands.true) (told c.starts_afresh.ensures c.if-starts_afresh.false) c.if-o-b.false

pub returns-else-stands : goal.returns-else-stands
returns-else-stands c = with_none _ _ _ _ (told c.stands.ensures c.if-stands.false)
