-- proofs/row_depth/Answers.antt
use Rattle.std.proofs.Common.{arith}
use Rattle.std.proofs.lemmas.Result.{err_from_is_err_and}
use Rattle.depths.specs.Rows.{row-long, row-fine, row-bad, row-sound}
use Rattle.depths.proofs.row_depth.Goals as goal

pub returns-then-row-gt-LEG_ORDERS : goal.returns-then-row-gt-LEG_ORDERS
returns-then-row-gt-LEG_ORDERS c = row-long c.args.row.now c.args.series c.args.side (omega arith)

pub returns-in_err-orders_of : goal.returns-in_err-orders_of
returns-in_err-orders_of c =
    let p = err_from_is_err_and c.from_residual.result c.from_residual.ensures.1 in
    rw (p.1, p.2) (row-bad c.args.row.now c.args.series c.args.side (omega arith) c.in_err-orders_of.ensures)

pub depth-requires : goal.depth-requires
depth-requires c = row-sound c.args.row.now c.in_ok-orders_of.ensures

pub returns : goal.returns
returns c = row-fine c.args.row.now c.args.series c.args.side (omega arith) c.in_ok-orders_of.ensures c.depth.ensures
