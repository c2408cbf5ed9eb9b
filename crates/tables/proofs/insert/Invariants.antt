use Prim.Native.Nat.{◌≤◌}
use Rattle.tables.specs.Packed.{Packing}
use Rattle.tables.proofs.insert.Given as goal

abbrev pub invariant-loop-y : goal.invariant-loop-y
invariant-loop-y g l = (l.n ≤ l.y-index) × Packing g.T.Row.test g.T.Row.none l.fn.xs l.y-index l.rows l.n
