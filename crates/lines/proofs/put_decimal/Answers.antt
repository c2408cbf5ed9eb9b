use Rattle.std.proofs.Common.{arith}
use Rattle.lines.specs.Places.{length-one, put_one}
use Rattle.lines.proofs.put_decimal.Goals as goal

pub put_byte-requires : goal.put_byte-requires
put_byte-requires c = omega (arith, c.requires, length-one c.args.n c.if-n-lt10.true)

pub returns-then-n-lt10 : goal.returns-then-n-lt10
returns-then-n-lt10 c = put_one _ c.if-n-lt10.true c.put_byte.ensures
