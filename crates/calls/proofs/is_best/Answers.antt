use Rattle.calls.specs.Listings.{best-is, best-other, best-none}
use Rattle.calls.proofs.is_best.Goals as goal

pub returns-then-best-price : goal.returns-then-best-price
returns-then-best-price c = best-is c.in-Some.best _ _ c.in-Some.is c.if-best-price.true

pub returns-else-best-price : goal.returns-else-best-price
returns-else-best-price c = best-other c.in-Some.best _ _ c.in-Some.is c.if-best-price.false

pub returns-in-None : goal.returns-in-None
returns-in-None c = best-none _ _ c.in-None.is
