use Rattle.base.specs.Pick.{tests}
use Rattle.calls.specs.Items.{item_needed, needed-more}
use Rattle.calls.proofs.needed.Goals as goal

pub returns-then-rest-lt4 : goal.returns-then-rest-lt4
unfolding item_needed
returns-then-rest-lt4 c = search tests

pub returns : goal.returns
returns c = needed-more _ c.two_bytes.ensures.0 c.if-rest-lt4.false
