use Rattle.std.proofs.Common.{sym, ◌∙◌}
use Rattle.frames.specs.Carried.{value-ok, value-err, exit}
use Rattle.frames.proofs.carried.order_in.Goals as goal

pub returns-in_err-read : goal.returns-in_err-read
returns-in_err-read c = exit c.from_residual.ensures.1 ∙ sym (value-err _ c.in_err-read.ensures)

pub returns-in_err-read-2 : goal.returns-in_err-read-2
returns-in_err-read-2 c = exit c.from_residual-in_err-read-2.ensures.1 ∙ sym (value-ok _ c.in_ok-read.ensures ∙ value-err _ c.in_err-read-2.ensures)

pub returns-in_err-read-3 : goal.returns-in_err-read-3
returns-in_err-read-3 c = exit c.from_residual-in_err-read-3.ensures.1 ∙ sym (value-ok _ c.in_ok-read.ensures ∙ value-ok _ c.in_ok-read-2.ensures ∙ value-err _ c.in_err-read-3.ensures)

pub returns-in_err-read-4 : goal.returns-in_err-read-4
returns-in_err-read-4 c = exit c.from_residual-in_err-read-4.ensures.1 ∙ sym (value-ok _ c.in_ok-read.ensures ∙ value-ok _ c.in_ok-read-2.ensures ∙ value-ok _ c.in_ok-read-3.ensures ∙ value-err _ c.in_err-read-4.ensures)

pub returns-in_err-read-5 : goal.returns-in_err-read-5
returns-in_err-read-5 c = exit c.from_residual-in_err-read-5.ensures.1 ∙ sym (value-ok _ c.in_ok-read.ensures ∙ value-ok _ c.in_ok-read-2.ensures ∙ value-ok _ c.in_ok-read-3.ensures ∙ value-ok _ c.in_ok-read-4.ensures ∙ value-err _ c.in_err-read-5.ensures)

pub returns-in_err-read-6 : goal.returns-in_err-read-6
returns-in_err-read-6 c = exit c.from_residual-in_err-read-6.ensures.1 ∙ sym (value-ok _ c.in_ok-read.ensures ∙ value-ok _ c.in_ok-read-2.ensures ∙ value-ok _ c.in_ok-read-3.ensures ∙ value-ok _ c.in_ok-read-4.ensures ∙ value-ok _ c.in_ok-read-5.ensures ∙ value-err _ c.in_err-read-6.ensures)

pub returns-in_err-read-7 : goal.returns-in_err-read-7
returns-in_err-read-7 c = exit c.from_residual-in_err-read-7.ensures.1 ∙ sym (value-ok _ c.in_ok-read.ensures ∙ value-ok _ c.in_ok-read-2.ensures ∙ value-ok _ c.in_ok-read-3.ensures ∙ value-ok _ c.in_ok-read-4.ensures ∙ value-ok _ c.in_ok-read-5.ensures ∙ value-ok _ c.in_ok-read-6.ensures ∙ value-err _ c.in_err-read-7.ensures)

pub returns : goal.returns
returns c = sym (value-ok _ c.in_ok-read.ensures ∙ value-ok _ c.in_ok-read-2.ensures ∙ value-ok _ c.in_ok-read-3.ensures ∙ value-ok _ c.in_ok-read-4.ensures ∙ value-ok _ c.in_ok-read-5.ensures ∙ value-ok _ c.in_ok-read-6.ensures ∙ value-ok _ c.in_ok-read-7.ensures)
