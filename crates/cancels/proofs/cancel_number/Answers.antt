use Rattle.cancels.specs.Cancels.{cancelled_order, number-at-entry, number-at-order, number-not, cut-asks, cut-nets}
use Rattle.records.specs.Done.{done-still, done-of, room_of}
use Rattle.rules.specs.State.{with_orders}
use Rattle.rules.specs.Fills.{cut_leg}
use Rattle.cancels.proofs.cancel_number.Goals as goal

pub cancel_entry-requires-clause-room : goal.cancel_entry-requires-clause-room
cancel_entry-requires-clause-room c = room_of (number-at-entry _ _ c.requires.sound c.entry_of.ensures c.in-Some.is) c.requires.room

pub returns-in-Some : goal.returns-in-Some
returns-in-Some c = done-of (number-at-entry _ _ c.requires.sound c.entry_of.ensures c.in-Some.is) c.cancel_entry.ensures

pub push-requires : goal.push-requires
unfolding cancelled_order
push-requires c = rw c.cancel_leg_record.ensures (room_of (number-at-order _ _ c.requires.sound c.order_of.ensures c.in-Some-order_of.is) c.requires.room)

pub refreshed-b-requires : goal.refreshed-b-requires
refreshed-b-requires c = cut-asks _ c.requires.sound _ _ c.cut_order.ensures c.price_of-p.ensures

pub returns-in-Some-order_of : goal.returns-in-Some-order_of
unfolding cancelled_order cut_leg with_orders
returns-in-Some-order_of c = let w = rw c.cancel_leg_record.ensures at c.push.ensures in
    let m = cut-nets _ c.requires.sound _ _ c.cut_order.ensures c.price_of-p.ensures c.refreshed-b.ensures in
    done-of (number-at-order _ _ c.requires.sound c.order_of.ensures c.in-Some-order_of.is) (record { wrote = w; state = rw (m, c.cut_order.ensures) })

pub returns-in_default-order_of : goal.returns-in_default-order_of
returns-in_default-order_of c = done-of (number-not _ _ c.requires.sound c.entry_of.ensures c.in_default.is c.order_of.ensures c.in_default-order_of.is) (done-still _ _)
