-- proofs/orders_of/Answers.antt
use Rattle.std.proofs.Common.{arith}
use Rattle.std.proofs.lemmas.Result.{err_from_is_err_and}
use Rattle.base.specs.Walks.{all_none, all_more}
use Rattle.depths.specs.Rows.{orders-first, orders-next, entry-read, row-stop, row-end}
use Rattle.depths.proofs.orders_of.Goals as goal

pub loop-i-init : goal.loop-i-init
loop-i-init c = record { orders = orders-first c.args.row.now; formed = all_none _ }

pub returns-in_err-orders : goal.returns-in_err-orders
returns-in_err-orders c = let p = err_from_is_err_and c.from_residual.result c.from_residual.ensures.1 in rw (p.1, p.2) (row-stop c.args.row.now c.loop-i-test.true c.in_err-orders.ensures)

pub loop-i-preserved : goal.loop-i-preserved
loop-i-preserved c =
    let f = entry-read _ c.in_ok-orders.ensures in
    record { orders = orders-next c.args.row.now c.loop-i.i f.1 c.loop-i.invariant.orders; formed = all_more _ _ c.loop-i.invariant.formed f.0 }

pub returns : goal.returns
returns c = row-end c.args.row.now (omega arith) c.loop-i.invariant.formed c.loop-i.invariant.orders
