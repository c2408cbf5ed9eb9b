use Rattle.exports.specs.Laws.{length-small}
use Rattle.frames.specs.Frames.{written_number}
use native.Mathlib.Omega.{arith}
use mathlib.Core.Path.{sym, ap, ◌∙◌}
use Rattle.exports.proofs.send.Goals as goal

pub overflow_cast-result : goal.overflow_cast-result
overflow_cast-result c = record { fits = omega (arith, (length-small c.args.event _ _ (sym c.in-Ok.ensures.answer)).1) }

pub returns-in-Ok : goal.returns-in-Ok
returns-in-Ok c = record { answer = ap written_number c.in-Ok.ensures.answer; space = c.in-Ok.ensures.space }

pub returns-in-Err : goal.returns-in-Err
returns-in-Err c = record { answer = c.from.ensures ∙ ap written_number c.in-Err.ensures.answer; space = c.in-Err.ensures.space }
