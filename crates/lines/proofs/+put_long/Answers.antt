use Rattle.std.proofs.Common.{◌≤◌, arith, div-add-mod'}
use Rattle.lines.specs.Places.{length-at, length-hundreds, put-hundreds}
use Rattle.lines.proofs.+put_long.Goals as goal
use Rattle.lines.proofs.+put_long.Goals.{then-n-lt1000000, else-n-lt1000000}

pub put_under_10000-next-requires : goal.put_under_10000-next-requires
put_under_10000-next-requires t c =
    let h : 100 ≤ c.args.n = omega (arith, c.requires.n_bound) in
    record { n_bound = omega (arith, div-add-mod' c.args.n 100, c.if-n-lt1000000.true); room = omega (arith, c.requires.room, length-hundreds c.args.n h) }

pub put_long-next-requires : goal.put_long-next-requires
put_long-next-requires t c =
    let h : 100 ≤ c.args.n = omega (arith, c.requires.n_bound) in
    let d = div-add-mod' c.args.n 100 in
    (omega (arith, d, h, c.decreases), (omega (arith, d, c.if-n-lt1000000.false), omega (arith, c.requires.room, length-hundreds c.args.n h)))

pub put_last_two-requires : goal.put_last_two-requires
put_last_two-requires t c =
    let h : 100 ≤ c.args.n = omega (arith, c.requires.n_bound) in
    elim c.if-n-lt1000000.branch [
      | then-n-lt1000000 w ↦
          rw (w.out-is, w.next-is)
          (omega (arith, c.requires.room, length-at w.put_under_10000-next.ensures, w.put_under_10000-next.ensures.next, length-hundreds c.args.n h))
      | else-n-lt1000000 w ↦
          rw (w.out-is, w.next-is) (omega (arith, c.requires.room, length-at w.put_long-next.ensures, w.put_long-next.ensures.next, length-hundreds c.args.n h))
    ]

pub returns : goal.returns
returns t c =
    let h : 100 ≤ c.args.n = omega (arith, c.requires.n_bound) in
    elim c.if-n-lt1000000.branch [
      | then-n-lt1000000 w ↦ put-hundreds _ h w.put_under_10000-next.ensures (rw (w.out-is, w.next-is) at c.put_last_two.ensures)
      | else-n-lt1000000 w ↦ put-hundreds _ h w.put_long-next.ensures (rw (w.out-is, w.next-is) at c.put_last_two.ensures)
    ]
