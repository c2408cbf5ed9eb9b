use Rattle.std.proofs.Common.{◌≡◌, ◌+◌, ◌-◌, length}
use lib.Seq.{sets}
use Rattle.frames.specs.Number.{bytes}
use Rattle.frames.proofs.numbers.put.Given as goal

abbrev pub invariant-loop-i : goal.invariant-loop-i
invariant-loop-i l = (length l.space ≡ length l.initial.space) × (sets l.space (l.at + l.i) (bytes (l.width - l.i) l.v) ≡ sets l.initial.space l.at (bytes l.width l.value))
