use Rattle.records.specs.Done.{in-room, in-done}
use Rattle.fills.specs.Gives.{shared-is}
use Rattle.fills.proofs.give_shared.Goals as goal

pub give_groups-requires : goal.give_groups-requires
give_groups-requires c = record { a_lt_table_rows = c.requires.a_lt_table_rows; room_in = in-room (shared-is _ _ _) c.requires.room_in }

pub returns : goal.returns
returns c = in-done (shared-is _ _ _) c.give_groups.ensures
