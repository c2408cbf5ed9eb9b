use Rattle.std.proofs.Common.{sym, ap, ◌∙◌}
use Rattle.std.proofs.lemmas.Result.{err_from_is_err_and}
use Rattle.events.specs.Rows.{reading_number}
use Rattle.frames.specs.Round.{judge-reads}
use Rattle.frames.proofs.judge.Goals as goal

pub returns-in_err-read : goal.returns-in_err-read
returns-in_err-read c = let p = err_from_is_err_and c.from_residual.result c.from_residual.ensures.1 in
    rw (p.1, p.2) (ap reading_number c.in_err-read.ensures ∙ sym (judge-reads _))

pub returns : goal.returns
returns c = ap reading_number c.in_ok-read.ensures ∙ sym (judge-reads _)
