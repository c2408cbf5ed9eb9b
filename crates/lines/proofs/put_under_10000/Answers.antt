use Rattle.std.proofs.Common.{arith, div-add-mod'}
use Rattle.lines.specs.Places.{length-at, length-hundreds, put-hundreds}
use Rattle.lines.proofs.put_under_10000.Goals as goal

pub put_under_100-next-requires : goal.put_under_100-next-requires
put_under_100-next-requires c =
    record { n_bound = omega (arith, div-add-mod' c.args.n 100); room = omega (arith, c.requires.room, length-hundreds c.args.n c.if-n-lt100.false) }

pub put_last_two-requires : goal.put_last_two-requires
put_last_two-requires c =
    omega (arith, c.requires.room, length-at c.put_under_100-next.ensures, c.put_under_100-next.ensures.next, length-hundreds c.args.n c.if-n-lt100.false)

pub returns : goal.returns
returns c = put-hundreds _ c.if-n-lt100.false c.put_under_100-next.ensures c.put_last_two.ensures
