use Rattle.calls.specs.Listings.{cut-none, cut-some}
use Rattle.calls.proofs.put_cut.Goals as goal

pub returns-then-left-ne0 : goal.returns-then-left-ne0
returns-then-left-ne0 c = cut-some c.if-left-ne0.true c.put.ensures

pub returns-else-left-ne0 : goal.returns-else-left-ne0
returns-else-left-ne0 c = cut-none _ c.if-left-ne0.false
