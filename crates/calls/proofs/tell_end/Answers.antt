use Rattle.std.proofs.Common.{refl, arith}
use Rattle.lines.specs.Puts.{put-length}
use Rattle.calls.specs.Calls.{ended}
use Rattle.calls.proofs.tell_end.Goals as goal

pub list_lookups-requires : goal.list_lookups-requires
list_lookups-requires g c = omega (arith, c.requires.room, put-length c.put_cut.ensures.put)

pub returns : goal.returns
returns g c = ended _ _ c.requires.nothing (rw c.rest.ensures at c.put_cut.ensures) refl refl c.list_lookups.ensures
