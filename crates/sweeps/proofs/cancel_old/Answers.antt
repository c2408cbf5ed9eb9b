use Rattle.records.specs.Done.{done-of, done-still, room_of}
use Rattle.sweeps.specs.Sweeps.{old-is, old-none}
use Rattle.sweeps.proofs.cancel_old.Goals as goal

pub cancel_entry-requires-clause-room : goal.cancel_entry-requires-clause-room
cancel_entry-requires-clause-room c = room_of (old-is _ _ c.old_sweep.ensures c.in-Some.is) c.requires.room

pub returns-in-Some : goal.returns-in-Some
returns-in-Some c = done-of (old-is _ _ c.old_sweep.ensures c.in-Some.is) c.cancel_entry.ensures

pub returns-in_default : goal.returns-in_default
returns-in_default c = done-of (old-none _ _ c.old_sweep.ensures c.requires.fit.entry_rows c.in_default.is) (done-still _ _)
