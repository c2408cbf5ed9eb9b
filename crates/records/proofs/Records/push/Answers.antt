use Rattle.std.proofs.Common.{◌<◌, ◌^◌, refl, arith}
use Rattle.std.proofs.Math.Facts.{to_z_pos, to_z-of_z}
use Rattle.std.specs.Int.{w32}
use Rattle.base.specs.All.{all_head}
use Rattle.rules.specs.Records.{kind_number}
use Rattle.records.specs.Space.{Small, kind-small, cents-fits, record-stores}
use Rattle.records.proofs.Records.push.Goals as goal

pub overflow_cast-self : goal.overflow_cast-self
overflow_cast-self c = record { sfits = omega (arith, c.from.ensures, kind-small c.args.r.kind) }

pub returns : goal.returns
returns c =
    let small : Small c.args.r = all_head c.requires.small in
    let number : c.args.r.number < 2 ^ 31 = omega (arith, small.number) in
    let place : c.args.r.place < 2 ^ 31 = omega arith in
    let side : c.args.r.side < 2 ^ 31 = omega arith in
    let quantity : c.args.r.quantity < 2 ^ 31 = omega (arith, small.quantity) in
    let kind : kind_number c.args.r.kind < 2 ^ 31 = omega (arith, kind-small c.args.r.kind) in
    rw (c.from.ensures, c.cents.ensures)
    (simp (to_z_pos w32 kind, to_z_pos w32 number, to_z_pos w32 place, to_z_pos w32 side, to_z_pos w32 quantity, to_z-of_z (cents-fits _ small.level))
    (record { count = refl; space = record-stores c.args.self.now.space.now c.args.self.now.count c.args.r; lent = refl }))
