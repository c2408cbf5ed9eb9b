use Rattle.records.specs.Done.{in-room, in-done}
use Rattle.fills.specs.Gives.{for-starter-is}
use Rattle.fills.proofs.give_for_starter.Goals as goal

pub give_groups-requires : goal.give_groups-requires
give_groups-requires c = record { a_lt_table_rows = c.requires.a_lt_table_rows; room_in = in-room (for-starter-is _ _ c.specialist_slot-k.ensures) c.requires.room_in }

pub returns : goal.returns
returns c = in-done (for-starter-is _ _ c.specialist_slot-k.ensures) c.give_groups.ensures
