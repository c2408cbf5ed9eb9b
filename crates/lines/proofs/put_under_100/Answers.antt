use Rattle.std.proofs.Common.{arith}
use Rattle.lines.specs.Places.{length-one, length_two, put_one, put-two-digits}
use Rattle.lines.proofs.put_under_100.Goals as goal

pub put_byte-requires : goal.put_byte-requires
put_byte-requires c = omega (arith, c.requires.room, length-one c.args.n c.if-n-lt10.true)

pub returns-then-n-lt10 : goal.returns-then-n-lt10
returns-then-n-lt10 c = put_one _ c.if-n-lt10.true c.put_byte.ensures

pub put_last_two-requires : goal.put_last_two-requires
put_last_two-requires c = omega (arith, c.requires.room, length_two c.args.n c.if-n-lt10.false c.requires.n_bound)

pub returns : goal.returns
returns c = put-two-digits _ c.if-n-lt10.false c.requires.n_bound c.put_last_two.ensures
