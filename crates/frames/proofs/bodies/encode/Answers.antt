use Rattle.std.proofs.Common.{◌≡◌, ◌+◌, ◌≤◌, length, refl, ◌∙◌, add-one, arith}
use Rattle.frames.specs.Bodies.{body-next, body_n}
use Rattle.events.specs.Fields.{width, layout, offset, offset-room}
use Rattle.frames.proofs.bodies.encode.Goals as goal

pub loop-i-init : goal.loop-i-init
unfolding offset body_n
loop-i-init c = (refl, refl, refl)

pub write_value-requires : goal.write_value-requires
unfolding layout
write_value-requires c =
    rw (c.present-field.ensures, c.loop-i.invariant.0, c.loop-i.invariant.1)
    (omega (arith, offset-room (layout c.args.fields c.args.m) c.loop-i.i 19 c.loop-i-test.true, c.requires))

pub overflow_add-at : goal.overflow_add-at
unfolding layout
overflow_add-at c =
    let room-is : c.loop-i.at + width c.present-field.result ≤ length c.loop-i.space = rw (c.present-field.ensures, c.loop-i.invariant.0, c.loop-i.invariant.1)
    (omega (arith, offset-room (layout c.args.fields c.args.m) c.loop-i.i 19 c.loop-i-test.true, c.requires)) in
    record { fits = omega (arith, room-is, c.loop-i.invariant.1) }

pub loop-i-preserved : goal.loop-i-preserved
unfolding offset layout
loop-i-preserved c = (
  rw (add-one, c.present-field.ensures, c.loop-i.invariant.0),
  c.write_value.auto.space ∙ c.loop-i.invariant.1,
  rw add-one (c.write_value.ensures ∙ rw (c.present-field.ensures, c.loop-i.invariant.0, c.loop-i.invariant.2) (body-next (layout c.args.fields c.args.m) c.args.row c.args.space.now c.loop-i.i)),
)

pub returns : goal.returns
returns c = let e : c.loop-i.i ≡ 19 = omega arith in cc
