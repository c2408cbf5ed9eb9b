use mathlib.Core.Path.{◌≡◌}
use Rattle.tables.specs.Only.{only_orders}
use Rattle.legs.specs.Search.{leading}
use Rattle.legs.proofs.best_order.Given as goal

abbrev pub invariant-loop-i : goal.invariant-loop-i
invariant-loop-i l = l.best ≡ leading (only_orders l.fn.os) l.o l.i
