use Rattle.calls.specs.Listings.{live-none, live-some}
use Rattle.calls.proofs.LiveLookup.put.Goals as goal

pub returns-then-quantity-ne0 : goal.returns-then-quantity-ne0
returns-then-quantity-ne0 c =
    live-some _ _ c.live_quantity-quantity.ensures c.if-quantity-ne0.true (rw (c.from.ensures, c.from-then-quantity-ne0.ensures) at c.line.ensures)

pub returns-else-quantity-ne0 : goal.returns-else-quantity-ne0
returns-else-quantity-ne0 c = live-none _ _ _ c.live_quantity-quantity.ensures c.if-quantity-ne0.false
