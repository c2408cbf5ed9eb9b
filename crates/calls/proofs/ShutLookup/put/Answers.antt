use Rattle.calls.specs.Listings.{shut-some, shut-none}
use Rattle.calls.proofs.ShutLookup.put.Goals as goal

pub returns-in-Ok : goal.returns-in-Ok
returns-in-Ok c =
    shut-some _ _ c.in-Ok.legs c.shut_legs.ensures c.in-Ok.is (rw (c.from.ensures, c.from-in-Ok.ensures, c.from-in-Ok-2.ensures) at c.line.ensures)

pub returns-in_default : goal.returns-in_default
returns-in_default c = shut-none _ _ _ c.shut_legs.ensures c.in_default.not-Ok _
