-- The slot that an order enters is free.
use Rattle.std.specs.Prelude.{◌<◌}
use Rattle.rules.specs.declared.Entry.{Entry}
use Rattle.rules.specs.declared.State.{State}
use Rattle.rules.specs.Events.{free_slot}
use Rattle.rules.specs.Valid.{Sound}
use Rattle.rules.proofs.Entering.{Entering, enter-free}

pub order-slot : (b : State) (e : Entry) → Sound b → Entering b e → free_slot b < 32
order-slot b e s n = enter-free b e s n
