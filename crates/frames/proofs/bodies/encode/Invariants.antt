use Rattle.std.proofs.Common.{◌≡◌, length}
use lib.Seq.{sets}
use Rattle.frames.specs.Bodies.{body_n}
use Rattle.events.specs.Fields.{layout, offset}
use Rattle.frames.proofs.bodies.encode.Given as goal

abbrev pub invariant-loop-i : goal.invariant-loop-i
invariant-loop-i l = (l.at ≡ offset (layout l.fields l.m) l.i) × (length l.space ≡ length l.initial.space) × (l.space ≡ sets l.initial.space 4 (body_n (layout l.fields l.m) l.v-items l.i))
