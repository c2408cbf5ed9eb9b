use Rattle.rules.specs.Events.{trades}
use Rattle.records.specs.Done.{done-then, room-then, room_after}
use Rattle.complex_orders.proofs.trades.Goals as goal

pub pass-requires : goal.pass-requires
unfolding trades
pass-requires c = record { a_lt_table_rows = c.requires.i_lt_table_rows; room = room-then _ _ c.requires.room }

pub rest_or_cancel-requires : goal.rest_or_cancel-requires
unfolding trades
rest_or_cancel-requires c = record { i_lt_table_rows = c.requires.i_lt_table_rows.0; room = room_after _ _ c.requires.room c.pass.ensures }

pub returns : goal.returns
unfolding trades
returns c = done-then _ _ c.pass.ensures c.rest_or_cancel.ensures
