use Rattle.calls.specs.Listings.{lent-depth, depth-some, depth-none, never-differ}
use Rattle.calls.proofs.put_depth.Goals as goal

pub returns-then-is_best : goal.returns-then-is_best
returns-then-is_best c =
    depth-some _ _ _ c.in-Some.best _ (lent-depth _ _ _ c.args.book.now.valid c.order_row.ensures c.depth_in.ensures) c.best_of.ensures c.in-Some.is
    (rw (c.from.ensures, c.from-then-is_best.ensures, c.from-then-is_best-2.ensures, c.from-then-is_best-3.ensures) at c.line.ensures)

pub returns-else-is_best : goal.returns-else-is_best
returns-else-is_best c =
    absurd
    (never-differ _ _ c.in-Some.best c.depth.ensures (lent-depth _ _ _ c.args.book.now.valid c.order_row.ensures c.depth_in.ensures) c.best_of-held.ensures
    c.best_of.ensures c.in-Some.is c.is_best.ensures c.if-is_best.false)

pub returns-in_default : goal.returns-in_default
returns-in_default c =
    depth-none _ _ _ _ (lent-depth _ _ _ c.args.book.now.valid c.order_row.ensures c.depth_in.ensures) c.best_of.ensures c.in_default.not-Some _
