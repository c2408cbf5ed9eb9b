use Rattle.records.specs.Space.{wrote-append, room-first, room_next}
use Rattle.base.specs.All.{all_head}
use Rattle.std.specs.Prelude.{[], ◌∷◌}
use Rattle.trades.proofs.report.Goals as goal

pub order_record-requires : goal.order_record-requires
order_record-requires c = (all_head c.requires.small).level

pub push-requires : goal.push-requires
push-requires c = rw c.order_record.ensures (room-first (_ ∷ []) (_ ∷ []) c.requires)

pub order_record-requires-2 : goal.order_record-requires-2
order_record-requires-2 c = (all_head c.requires.small).level

pub push-requires-2 : goal.push-requires-2
push-requires-2 c = rw c.order_record-2.ensures (room_next (_ ∷ []) (_ ∷ []) c.requires (rw c.order_record.ensures at c.push.ensures))

pub returns : goal.returns
returns c = wrote-append (rw c.order_record.ensures at c.push.ensures) (rw c.order_record-2.ensures at c.push-2.ensures)
