use Rattle.rules.specs.Quotas.{in_turn}
use Rattle.records.specs.Done.{in-room, in-done}
use Rattle.fills.specs.Gives.{group-is}
use Rattle.fills.proofs.give_in_turn.Goals as goal

pub give-requires : goal.give-requires
give-requires c = record { a_lt_table_rows = c.requires.a_lt_table_rows; room_in = in-room (group-is in_turn _ _ _ (rw c.sizes-xs.ensures at c.in_turn-qs.ensures)) c.requires.room_in }

pub returns : goal.returns
returns c = in-done (group-is in_turn _ _ _ (rw c.sizes-xs.ensures at c.in_turn-qs.ensures)) c.give.ensures
