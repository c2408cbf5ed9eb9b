use native.Mathlib.Omega.{arith}
use Rattle.std.proofs.Common.{rules}
use Rattle.base.specs.Pick.{told}
use Rattle.tables.specs.Packed.{packing-first, packing-more, packing-skip, counted-all, inserted, inserted-none}
use Rattle.tables.proofs.insert.Goals as goal
use Rattle.tables.proofs.insert.Goals.{then-is_live, else-is_live, then-n-lt-ROWS, else-n-lt-ROWS}

pub loop-y-init : goal.loop-y-init
loop-y-init g c = rw c.empty-rows.ensures (omega arith, packing-first _ _ _ (search rules))

pub loop-y-preserved : goal.loop-y-preserved
loop-y-preserved g c = elim c.if-is_live.branch [
  | then-is_live w ↦ rw (w.rows-is, w.n-is) (omega arith, packing-more _ _ _ _ c.loop-y-test.true c.y-item.result (told c.is_live.ensures w.if-is_live.true) c.loop-y.invariant.1)
  | else-is_live w ↦ rw (w.rows-is, w.n-is) (omega arith, packing-skip _ _ _ _ c.loop-y-test.true c.y-item.result (told c.is_live.ensures w.if-is_live.false) c.loop-y.invariant.1)
]

pub returns : goal.returns
returns g c = elim c.if-n-lt-ROWS.branch [
  | then-n-lt-ROWS w ↦ rw w.rows-is (inserted _ _ _ _ c.loop-y-test.false _ w.if-n-lt-ROWS.true c.loop-y.invariant.1, counted-all _ g.T.Row.none _ _ c.loop-y-test.false c.loop-y.invariant.1.counted)
  | else-n-lt-ROWS w ↦ rw w.rows-is (inserted-none _ _ _ _ c.loop-y-test.false _ w.if-n-lt-ROWS.false c.loop-y.invariant.1, counted-all _ g.T.Row.none _ _ c.loop-y-test.false c.loop-y.invariant.1.counted)
]
