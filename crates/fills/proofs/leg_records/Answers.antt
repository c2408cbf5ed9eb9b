use mathlib.Core.Path.{◌≡◌}
use native.Mathlib.Omega.{arith}
use Rattle.records.specs.Space.{wrote-first, wrote-next, room_row}
use Rattle.base.specs.All.{all_head}
use Rattle.fills.proofs.leg_records.Goals as goal

pub loop-i-init : goal.loop-i-init
loop-i-init c = wrote-first _ _

pub leg_record-requires : goal.leg_record-requires
leg_record-requires c = let room = room_row _ _ _ c.requires.room c.loop-i-test.true c.loop-i.invariant in
    ((all_head room.small).quantity, (all_head room.small).level)

pub push-requires : goal.push-requires
push-requires c = rw c.leg_record.ensures (room_row _ _ _ c.requires.room c.loop-i-test.true c.loop-i.invariant)

pub loop-i-preserved : goal.loop-i-preserved
loop-i-preserved c = let r = rw c.leg_record.ensures at c.push.ensures in wrote-next _ _ c.loop-i.invariant r

pub returns : goal.returns
returns c = let e : c.loop-i.i ≡ c.args.s.count = omega arith in rw e at c.loop-i.invariant
