use Rattle.endings.specs.Endings.{starter-gone, starter-here}
use Rattle.records.specs.Done.{done-still, done-of, room_of}
use Rattle.endings.proofs.starter_pass.Goals as goal

pub pass-requires-clause-room : goal.pass-requires-clause-room
pass-requires-clause-room c = room_of (starter-here _ _ c.starter_slot.ensures c.in-Some.is) c.requires.room

pub returns-in-Some : goal.returns-in-Some
returns-in-Some c = done-of (starter-here _ _ c.starter_slot.ensures c.in-Some.is) c.pass.ensures

pub returns-in_default : goal.returns-in_default
returns-in_default c = done-of (starter-gone _ _ c.starter_slot.ensures c.requires.k_lt_strategy_slots.1.entry_rows c.in_default.is) (done-still _ _)
