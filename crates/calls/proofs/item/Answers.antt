use Rattle.calls.specs.Items.{item-short, item-cut, item-whole}
use Rattle.calls.proofs.item.Goals as goal

pub returns-then-rest-lt4 : goal.returns-then-rest-lt4
returns-then-rest-lt4 c = item-short _ c.if-rest-lt4.true

pub returns-then-rest-n : goal.returns-then-rest-n
returns-then-rest-n c = item-cut _ c.two_bytes-n.ensures.0 c.if-rest-lt4.false c.if-rest-n.true

pub returns : goal.returns
returns c = item-whole _ c.two_bytes-n.ensures.0 c.if-rest-lt4.false c.if-rest-n.false
