use Rattle.std.proofs.Common.{◌≡◌}
use Rattle.events.specs.Fields.{fit_n, layout}
use Rattle.events.proofs.table.fit_in.Given as goal

abbrev pub invariant-loop-i : goal.invariant-loop-i
invariant-loop-i l = l.ok ≡ fit_n (layout l.fields l.m) l.row l.i
