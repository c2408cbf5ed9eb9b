use Rattle.day_ends.specs.DayEnds.{running-sound, sound-each, day-end}
use Rattle.rules.specs.Events.{close_running, on_day_end}
use Rattle.records.specs.Done.{room-then, room_after}
use Rattle.day_ends.proofs.on_day_end.Goals as goal

pub close_all-requires : goal.close_all-requires
unfolding on_day_end
close_all-requires c = room-then _ _ c.requires.room

pub cancel_all-requires : goal.cancel_all-requires
unfolding on_day_end
cancel_all-requires c = record { sound = sound-each close_running running-sound 16 _ c.requires.valid.sound c.close_all.ensures; room = room-then _ _ (room_after _ _ c.requires.room c.close_all.ensures) }

pub returns : goal.returns
returns c = day-end _ _ c.close_all.ensures c.cancel_all.ensures c.fresh.ensures
