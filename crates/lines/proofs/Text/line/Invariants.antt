use Rattle.std.proofs.Common.{pos, map}
use Rattle.lines.specs.Places.{Writing}
use Rattle.lines.proofs.Text.line.Given as goal

abbrev pub invariant-loop-n : goal.invariant-loop-n
invariant-loop-n l = Writing l.letter 21 (map pos l.numbers) l.fn.self.out.now l.out l.fn.self.used l.at l.n-index
