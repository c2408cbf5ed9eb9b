use Rattle.std.proofs.Common.{◌≤◌, ◌∙◌, ap, ℤ, pos, nat_abs, to_z-of_z, arith}
use Rattle.std.specs.Int.Signed.{lt_z}
use Rattle.base.specs.Pick.{told}
use Rattle.lines.specs.Places.{length-at, signed-length, put-below, put-above}
use Rattle.lines.proofs.put_signed.Goals as goal

pub put_decimal-requires : goal.put_decimal-requires
put_decimal-requires c =
    omega (arith, length-at c.put_byte-next.ensures, length-at c.put_byte-digits.ensures, signed-length c.from.result (omega arith), c.put_byte-next.ensures.next, c.put_byte-digits.ensures.next, c.requires)

pub returns-then-negative : goal.returns-then-negative
returns-then-negative c =
    let e = c.from.ensures ∙ c.unsigned_abs.ensures.value ∙ ap nat_abs (to_z-of_z c.ranges.x) in
    let l : nat_abs c.args.x ≤ 2147483648 = omega (arith, e, c.from.ensures, c.unsigned_abs.ensures.bound) in
    let sign = told (ap (λ (z : ℤ). lt_z z (pos 0)) (to_z-of_z c.ranges.x)) c.if-negative.true in
    put-below c.args.x sign l c.put_byte-next.ensures c.put_byte-digits.ensures (rw e at c.put_decimal.ensures)

pub put_decimal-requires-2 : goal.put_decimal-requires-2
put_decimal-requires-2 c = omega (arith, length-at c.put_byte-next.ensures, signed-length c.from-2.result (omega arith), c.put_byte-next.ensures.next, c.requires)

pub returns : goal.returns
returns c =
    let e = c.from-2.ensures ∙ c.unsigned_abs-2.ensures.value ∙ ap nat_abs (to_z-of_z c.ranges.x) in
    let l : nat_abs c.args.x ≤ 2147483648 = omega (arith, e, c.from-2.ensures, c.unsigned_abs-2.ensures.bound) in
    let sign = told (ap (λ (z : ℤ). lt_z z (pos 0)) (to_z-of_z c.ranges.x)) c.if-negative.false in
    put-above c.args.x sign l c.put_byte-next.ensures (rw e at c.put_decimal-2.ensures)
