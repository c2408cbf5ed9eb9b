use Rattle.std.proofs.Common.{[], ◌∷◌, List, ℤ, pos, refl, arith}
use Rattle.lines.specs.Places.{writing-first, writing-next, writing-done}
use Rattle.lines.proofs.put_four.Goals as goal

pub returns : goal.returns
returns c =
    let zs : List ℤ = pos c.args.i ∷ (pos c.args.j ∷ (pos c.args.k ∷ (pos c.args.n ∷ []))) in
    let a = writing-first c.args.letter 21 zs c.put_byte-next.ensures in
    let b = writing-next zs a (omega arith) c.put_number-next.ensures in
    let d = writing-next zs b (omega arith) c.put_number-next-2.ensures in
    let e = writing-next zs d (omega arith) c.put_number-next-3.ensures in
    let f = writing-next zs e (omega arith) c.put_number-next-4.ensures in
    writing-done zs f refl c.put_byte.ensures
