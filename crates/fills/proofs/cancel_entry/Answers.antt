use Rattle.fills.specs.Fills.{cancelled, cancel-none, cancel-live}
use Rattle.records.specs.Done.{done-still, done-of, room_of}
use Rattle.rules.specs.State.{with_entries}
use Rattle.rules.specs.Fills.{cut}
use Rattle.fills.proofs.cancel_entry.Goals as goal

pub push-requires : goal.push-requires
unfolding cancelled
push-requires c = rw c.cancel_record.ensures (room_of (cancel-live _ _ c.if-e-ne0.true) c.requires.room)

pub returns-then-e-ne0 : goal.returns-then-e-ne0
unfolding cancelled cut with_entries
returns-then-e-ne0 c = let first = rw c.cancel_record.ensures at c.push.ensures in done-of (cancel-live _ _ c.if-e-ne0.true) (record { wrote = first; state = rw c.cut_entry.ensures })

pub returns-else-e-ne0 : goal.returns-else-e-ne0
returns-else-e-ne0 c = done-of (cancel-none _ _ c.if-e-ne0.false) (done-still _ _)
