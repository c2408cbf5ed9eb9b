use Rattle.std.proofs.Common.{sym, ◌∙◌}
use Rattle.frames.specs.Carried.{value-ok, value-err, exit}
use Rattle.frames.proofs.carried.national_in.Goals as goal

pub returns-in_err-read : goal.returns-in_err-read
returns-in_err-read c = exit c.from_residual.ensures.1 ∙ sym (value-err _ c.in_err-read.ensures)

pub returns-in_err-read-2 : goal.returns-in_err-read-2
returns-in_err-read-2 c = exit c.from_residual-in_err-read-2.ensures.1 ∙ sym (value-ok _ c.in_ok-read.ensures ∙ value-err _ c.in_err-read-2.ensures)

pub returns-in_err-read-3 : goal.returns-in_err-read-3
returns-in_err-read-3 c = exit c.from_residual-in_err-read-3.ensures.1 ∙ sym (value-ok _ c.in_ok-read.ensures ∙ value-ok _ c.in_ok-read-2.ensures ∙ value-err _ c.in_err-read-3.ensures)
