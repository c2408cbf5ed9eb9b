use Rattle.std.proofs.Common.{◌≡◌}
use Rattle.events.specs.Fields.{layout, offset}
use Rattle.frames.specs.Bodies.{row_n}
use Rattle.frames.proofs.bodies.decode.Given as goal

abbrev pub invariant-loop-i : goal.invariant-loop-i
invariant-loop-i l = (l.at ≡ offset (layout l.fields l.m) l.i) × (l.row ≡ row_n (layout l.fields l.m) l.frame l.i)
