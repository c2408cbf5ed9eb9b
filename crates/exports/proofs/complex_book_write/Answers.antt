use Rattle.exports.specs.Laws.{write-three, write-out}
use mathlib.Core.Path.{refl}
use Rattle.exports.proofs.complex_book_write.Goals as goal

pub returns-then-values-lt20 : goal.returns-then-values-lt20
returns-then-values-lt20 c = write-three _ _ c.if-values-lt20.true

pub returns-in-Ok : goal.returns-in-Ok
returns-in-Ok c = write-out _ _ c.if-values-lt20.false c.in-Ok.ensures c.send.ensures.answer c.send.ensures.space

pub returns-in-Err : goal.returns-in-Err
returns-in-Err c = write-out _ _ c.if-values-lt20.false c.in-Err.ensures refl refl
