use Rattle.std.proofs.Common.{true}
use Rattle.turns.specs.Turns.{Running, Continues}
use Rattle.turns.proofs.run.Given as goal

abbrev pub invariant-loop-index : goal.invariant-loop-index
invariant-loop-index g l =
    Running (Continues g.P.Program.turned) g.P.Program.first_of (record { book = l.book; input = l.input; text = l.text; on = true }) l.index
