use Rattle.std.proofs.Common.{sym, ◌∙◌}
use Rattle.frames.specs.Carried.{value-err, exit}
use Rattle.frames.proofs.carried.day_end_in.Goals as goal

pub returns-in_err-read : goal.returns-in_err-read
returns-in_err-read c = exit c.from_residual.ensures.1 ∙ sym (value-err _ c.in_err-read.ensures)
