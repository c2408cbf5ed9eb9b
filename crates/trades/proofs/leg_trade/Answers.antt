use Rattle.trades.specs.Trades.{traded_rows}
use Rattle.trades.proofs.leg_trade.Goals as goal

pub returns : goal.returns
unfolding traded_rows
returns c = rw (c.cut_order-2.ensures, c.cut_order.ensures)
