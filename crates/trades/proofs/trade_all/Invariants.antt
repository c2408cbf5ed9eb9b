use Rattle.trades.specs.Trades.{Trading}
use Rattle.trades.proofs.trade_all.Given as goal

abbrev pub invariant-loop : goal.invariant-loop
invariant-loop l = Trading l.initial.rows l.a l.initial.records l.records l.rows l.counter
