use Rattle.std.proofs.Common.{refl}
use Rattle.streams.specs.Texts.{drains-by}
use Rattle.streams.proofs.drain.Goals as goal

pub returns : goal.returns
returns g c = drains-by refl (rw c.space_of.ensures at c.drain_bytes-used.ensures)
