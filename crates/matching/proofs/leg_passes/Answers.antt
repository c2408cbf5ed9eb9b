use Rattle.std.proofs.Common.{arith, refl}
use Rattle.matching.specs.Places.{search-asks, passing-first, passing-fit, passing-room, passing-fits, passing-less, passing-next, passing-all, next-most}
use Rattle.base.specs.Chains.{found-is, found-none, found-or}
use Rattle.matching.proofs.leg_passes.Goals as goal

pub loop-next-init : goal.loop-next-init
loop-next-init c = let n = found-or (next-most c.args.b.now _ _ refl) c.requires.fit.1 in (passing-first _ n.0, n.1)

pub pass-requires : goal.pass-requires
pass-requires c =
    let v = rw c.in-Some.is at c.loop-next.invariant.0 in
    let l = found-is (rw c.in-Some.is at c.loop-next.invariant.1) in
    record { a_lt_table_rows = (omega arith, passing-fit c.requires.fit.0 v); room = passing-room c.requires.fit.0 v l.1 c.requires.room }

pub next_pass-next-requires : goal.next_pass-next-requires
next_pass-next-requires c = search-asks (passing-fits c.requires.fit.0 (rw c.in-Some.is at c.loop-next.invariant.0) c.pass.ensures)

pub loop-next-smaller : goal.loop-next-smaller
loop-next-smaller c =
    let v = rw c.in-Some.is at c.loop-next.invariant.0 in
    let l = found-is (rw c.in-Some.is at c.loop-next.invariant.1) in
    rw c.in-Some.is (passing-less c.requires.fit.0 v l.1 c.pass.ensures (found-or (next-most c.pass.new.b _ _ refl) c.next_pass-next.ensures).0)

pub loop-next-preserved : goal.loop-next-preserved
loop-next-preserved c =
    let v = rw c.in-Some.is at c.loop-next.invariant.0 in
    let l = found-is (rw c.in-Some.is at c.loop-next.invariant.1) in
    let n = found-or (next-most c.pass.new.b _ _ refl) c.next_pass-next.ensures in
    (passing-next c.requires.fit.0 v l.1 c.pass.ensures n.0, n.1)

pub returns : goal.returns
returns c = passing-all c.requires.fit.0 c.loop-next.invariant.0 (found-none c.loop-next.invariant.1 c.in_default.not-Some)
