use Rattle.exports.specs.Laws.{read_one, read_out}
use mathlib.Core.Path.{refl}
use Rattle.exports.proofs.complex_book_read.Goals as goal

pub returns-then-values-lt20 : goal.returns-then-values-lt20
returns-then-values-lt20 c = read_one _ _ c.if-values-lt20.true

pub returns-in-Ok : goal.returns-in-Ok
returns-in-Ok c = read_out _ _ c.if-values-lt20.false c.in-Ok.ensures c.fill.ensures

pub returns-in-Err : goal.returns-in-Err
returns-in-Err c = rw c.from.ensures (read_out _ _ c.if-values-lt20.false c.in-Err.ensures refl)
