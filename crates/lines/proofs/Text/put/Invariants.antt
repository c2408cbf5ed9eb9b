use Rattle.std.proofs.Common.{take}
use Rattle.lines.specs.Puts.{Put}
use Rattle.lines.proofs.Text.put.Given as goal

abbrev pub invariant-loop-byte : goal.invariant-loop-byte
invariant-loop-byte l = Put l.fn.self l.self (take l.byte-index l.bytes)
