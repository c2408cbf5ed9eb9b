use Rattle.std.proofs.Common.{◌∙◌, arith}
use Rattle.events.specs.Laws.{four-in, layout-in, room_in, short-in}
use Rattle.frames.specs.Codec.{frame-stores}
use Rattle.frames.proofs.write_frame.Goals as goal

pub overflow_cast-n : goal.overflow_cast-n
overflow_cast-n c = record { fits = omega (arith, c.length_in-n.ensures, short-in c.args.event c.requires.event_value) }

pub put-requires : goal.put-requires
put-requires c = omega (arith, c.requires.event_in_bounds, four-in c.args.event)

pub put-requires-2 : goal.put-requires-2
put-requires-2 c = omega (arith, c.put.auto.space, c.requires.event_in_bounds, four-in c.args.event)

pub overflow_sub-n : goal.overflow_sub-n
overflow_sub-n c = rw c.length_in-n.ensures (four-in c.args.event)

pub encode-requires : goal.encode-requires
encode-requires c = rw (layout-in c.args.event c.from-kind.ensures c.fields_of.ensures c.length_in-n.ensures)
    (omega (arith, c.put.auto.space, c.put-2.auto.space, c.requires.event_in_bounds, room_in c.args.event c.requires.event_value))

pub returns : goal.returns
returns c = frame-stores c.args.event c.args.space.now
    (c.put.ensures ∙ rw c.length_in-n.ensures)
    (c.put-2.ensures ∙ rw (c.from.ensures, c.from-kind.ensures))
    (c.encode.ensures ∙ rw (layout-in c.args.event c.from-kind.ensures c.fields_of.ensures c.length_in-n.ensures, c.row_of.ensures))
