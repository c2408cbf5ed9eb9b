use Rattle.calls.specs.Listings.{nets-some, nets-none}
use Rattle.calls.proofs.NetsLookup.put.Goals as goal

pub returns-in-Ok : goal.returns-in-Ok
returns-in-Ok c = nets-some _ _ c.in-Ok.nets c.nets.ensures c.in-Ok.is (rw c.from.ensures at c.told.ensures)

pub returns-in_default : goal.returns-in_default
returns-in_default c = nets-none _ _ _ c.nets.ensures c.in_default.not-Ok _
