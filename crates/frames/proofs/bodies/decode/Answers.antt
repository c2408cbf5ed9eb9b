use Rattle.std.proofs.Common.{◌≡◌, ◌+◌, ◌≤◌, length, refl, add-one, arith}
use Rattle.events.specs.Fields.{width, layout, offset, offset-room}
use Rattle.frames.specs.Bodies.{row_n}
use Rattle.frames.proofs.bodies.decode.Goals as goal

pub loop-i-init : goal.loop-i-init
unfolding offset row_n
loop-i-init c = (refl, refl)

pub value-requires : goal.value-requires
unfolding layout
value-requires c = record {
  field_in_bounds = rw (c.present-field.ensures, c.loop-i.invariant.0) (omega (arith, offset-room (layout c.args.fields.now c.args.m) c.loop-i.i 19 c.loop-i-test.true, c.requires.m_in_bounds));
  field_bound = rw c.present-field.ensures (c.requires.narrow.narrow c.loop-i.i);
}

pub overflow_add-at : goal.overflow_add-at
unfolding layout
overflow_add-at c =
    let room-is : c.loop-i.at + width c.present-field.result ≤ length c.args.frame.now = rw (c.present-field.ensures, c.loop-i.invariant.0)
    (omega (arith, offset-room (layout c.args.fields.now c.args.m) c.loop-i.i 19 c.loop-i-test.true, c.requires.m_in_bounds)) in
    record { fits = omega (arith, room-is) }

pub loop-i-preserved : goal.loop-i-preserved
unfolding offset row_n layout
loop-i-preserved c = (rw add-one (cc), rw add-one (cc))

pub returns : goal.returns
returns c = let e : c.loop-i.i ≡ 19 = omega arith in cc
