use Rattle.complex_orders.specs.ComplexOrders.{rest-day, rest-not}
use Rattle.records.specs.Done.{done-still, done-of, room_of}
use Rattle.complex_orders.proofs.rest_or_cancel.Goals as goal

pub cancel_entry-requires : goal.cancel_entry-requires
cancel_entry-requires c = record { i_lt_table_rows = c.requires.i_lt_table_rows; room = room_of (rest-not _ _ c.if-b-i-ne0.true) c.requires.room }

pub returns-then-b-i-ne0 : goal.returns-then-b-i-ne0
returns-then-b-i-ne0 c = done-of (rest-not _ _ c.if-b-i-ne0.true) c.cancel_entry.ensures

pub returns-else-b-i-ne0 : goal.returns-else-b-i-ne0
returns-else-b-i-ne0 c = done-of (rest-day _ _ c.if-b-i-ne0.false) (done-still _ _)
