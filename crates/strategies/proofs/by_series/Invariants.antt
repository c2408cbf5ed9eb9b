use Rattle.strategies.specs.Order.{Ordering}
use Rattle.strategies.proofs.by_series.Given as goal

abbrev pub invariant-loop-s : goal.invariant-loop-s
invariant-loop-s l = Ordering l.legs l.count l.s l.rows l.used
