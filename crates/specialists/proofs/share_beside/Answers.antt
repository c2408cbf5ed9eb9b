use native.Mathlib.Omega.{arith}
use Rattle.specialists.specs.Laws.{shares-enough, shares-none, shares-beside}
use Rattle.specialists.proofs.share_beside.Goals.{in_default-via-in-Some+else-k-lt-ROWS, in_default-via-in_default}
use Rattle.specialists.proofs.share_beside.Goals as goal

pub returns-then-t-r : goal.returns-then-t-r
returns-then-t-r c = shares-enough _ _ _ _ c.total-t.ensures c.if-t-r.true c.share.ensures

pub returns-else-t-r : goal.returns-else-t-r
returns-else-t-r c = rw c.in-Some.is (shares-beside _ _ _ _ c.total-t.ensures c.if-t-r.false c.if-k-lt-ROWS.true c.specialist_portion.ensures c.min-q.ensures c.beside.ensures)

pub returns-in_default : goal.returns-in_default
returns-in_default c = elim c.in_default.branch [
  | in_default-via-in-Some+else-k-lt-ROWS w ↦ rw w.in-Some.is (shares-none _ _ _ _ w.if-k-lt-ROWS.false c.share-in_default.ensures)
  | in_default-via-in_default w ↦ rw w.in_default.is (shares-none _ _ _ _ (omega arith) c.share-in_default.ensures)
]
