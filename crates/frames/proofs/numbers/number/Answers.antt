use Rattle.std.proofs.Common.{◌+◌, ◌-◌, ◌^◌, ◌<◌, refl, arith}
use Rattle.frames.specs.Number.{number, number-next, number-all, number-le, Bytes}
use Rattle.frames.proofs.numbers.number.Goals as goal

pub loop-i-init : goal.loop-i-init
unfolding number
loop-i-init c = refl

pub overflow_mul-v : goal.overflow_mul-v
overflow_mul-v c =
    let b : Bytes c.args.frame.now = record { small = λ i. omega (arith, c.type_inv.frame i) } in
    let small-is : c.loop-i.v < 256 ^ 3 = rw c.loop-i.invariant (number-le c.args.frame.now b c.loop-i.i 3 (c.args.at + (c.args.width - c.loop-i.i)) (omega arith)) in
    record { fits = omega (arith, small-is) }

pub overflow_add-v : goal.overflow_add-v
overflow_add-v c =
    let b : Bytes c.args.frame.now = record { small = λ i. omega (arith, c.type_inv.frame i) } in
    let small-is : c.loop-i.v < 256 ^ 3 = rw c.loop-i.invariant (number-le c.args.frame.now b c.loop-i.i 3 (c.args.at + (c.args.width - c.loop-i.i)) (omega arith)) in
    record { fits = omega (arith, small-is) }

pub loop-i-preserved : goal.loop-i-preserved
loop-i-preserved c = number-next _ _ _ c.loop-i.i c.loop-i-test.true c.loop-i.invariant c.from.ensures

pub returns : goal.returns
returns c = number-all _ _ _ c.loop-i.i (omega arith) c.loop-i-test.false c.loop-i.invariant
