use Rattle.std.proofs.Common.{arith}
use Rattle.frames.specs.Number.{number}
use Rattle.lines.proofs.two_bytes.Goals as goal

pub returns : goal.returns
unfolding number
returns c = (omega arith, omega arith)
