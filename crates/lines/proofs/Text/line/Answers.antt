use Rattle.std.proofs.Common.{◌≡◌, ◌<◌, refl, pos, map, length, arith}
use Rattle.std.proofs.lemmas.List.{length-map}
use Rattle.std.proofs.Math.ListN.{get_or-map}
use Rattle.lines.specs.Places.{length-at, writing-first, writing-next, writing-done}
use Rattle.lines.specs.Puts.{within-of}
use Rattle.lines.proofs.Text.line.Goals as goal

pub loop-n-init : goal.loop-n-init
loop-n-init c = writing-first _ _ _ c.put_byte-at.ensures

pub put_number-at-requires : goal.put_number-at-requires
put_number-at-requires c = omega (arith, c.requires, c.loop-n.invariant.few, length-at c.loop-n.invariant.put)

pub loop-n-preserved : goal.loop-n-preserved
loop-n-preserved c =
    let e : length (map pos c.args.numbers.now) ≡ length c.args.numbers.now = length-map _ _ in
    let l : c.loop-n.n-index < length (map pos c.args.numbers.now) = omega arith in
    writing-next _ c.loop-n.invariant l (rw (get_or-map pos c.args.numbers.now c.loop-n.n-index 0) c.put_number-at.ensures)

pub put_byte-self-requires : goal.put_byte-self-requires
put_byte-self-requires c = omega (arith, c.requires, c.loop-n.invariant.few, length-at c.loop-n.invariant.put)

pub returns : goal.returns
returns c =
    let e : length (map pos c.args.numbers.now) ≡ length c.args.numbers.now = length-map _ _ in
    within-of (rw e at (writing-done _ c.loop-n.invariant (omega arith) c.put_byte-self.ensures)) refl
