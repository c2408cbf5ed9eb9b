use Rattle.std.proofs.Common.{arith}
use Rattle.lines.specs.Places.{length-at, number-length, put-number}
use Rattle.lines.proofs.put_number.Goals as goal

pub put_decimal-requires : goal.put_decimal-requires
put_decimal-requires c = omega (arith, c.requires, c.put_byte-next.ensures.next, length-at c.put_byte-next.ensures, number-length c.args.n (omega arith))

pub returns : goal.returns
returns c = put-number _ (omega arith) c.put_byte-next.ensures c.put_decimal.ensures
