use Rattle.rules.specs.State.{with_entries}
use Rattle.rules.specs.Quotas.{in_turn, share_beside}
use Rattle.rules.specs.Passes.{give_shared}
use Rattle.records.specs.Done.{in-first, in_after, in_then, in-room, in-done}
use Rattle.fills.specs.Gives.{holds_after, group-shrinks, group-past}
use Rattle.fills.proofs.give_groups.Goals as goal

pub give_in_turn-requires : goal.give_in_turn-requires
unfolding give_shared
give_in_turn-requires c = record { a_lt_table_rows = c.requires.a_lt_table_rows; room_in = in-first _ _ c.requires.room_in }

pub give_group-requires : goal.give_group-requires
unfolding give_shared
give_group-requires c = record { a_lt_table_rows = c.requires.a_lt_table_rows; room_in = in-first _ _ (in_after _ _ c.requires.room_in c.give_in_turn.ensures (holds_after (group-shrinks in_turn _ _ _) c.give_in_turn.ensures)) }

pub give_group-requires-2 : goal.give_group-requires-2
unfolding give_shared
give_group-requires-2 c = record { a_lt_table_rows = c.requires.a_lt_table_rows; room_in = in-room (group-past _ _ _ _) (in_after _ _ (in_after _ _ c.requires.room_in c.give_in_turn.ensures (holds_after (group-shrinks in_turn _ _ _) c.give_in_turn.ensures)) c.give_group.ensures (holds_after (group-shrinks (share_beside _ _) _ _ _) c.give_group.ensures)) }

pub returns : goal.returns
unfolding give_shared with_entries
returns c = in_then _ _ c.give_in_turn.ensures (holds_after (group-shrinks in_turn _ _ _) c.give_in_turn.ensures) (in_then _ _ c.give_group.ensures (holds_after (group-shrinks (share_beside _ _) _ _ _) c.give_group.ensures) (in-done (group-past _ _ _ _) c.give_group-2.ensures))
