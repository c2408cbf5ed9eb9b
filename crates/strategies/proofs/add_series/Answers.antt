use Rattle.base.specs.Pick.{told}
use Rattle.base.specs.SetLaws.{shifted}
use Rattle.strategies.specs.Order.{add-past, add-held, add-new, add-fits}
use Rattle.strategies.proofs.add_series.Goals.{else-s-lt32-via-then-s-lt32+else-not-has, else-s-lt32-via-else-s-lt32}
use Rattle.strategies.proofs.add_series.Goals as goal

pub overflow_add-result : goal.overflow_add-result
overflow_add-result c = record { fits = add-fits _ _ c.ranges.x.fits c.if-s-lt32.true (told c.has.ensures c.if-not-has.true) (shifted _ c.if-s-lt32.true) }

pub returns-then-not-has : goal.returns-then-not-has
returns-then-not-has c = add-new _ _ c.if-s-lt32.true (told c.has.ensures c.if-not-has.true) (shifted _ c.if-s-lt32.true)

pub returns-else-s-lt32 : goal.returns-else-s-lt32
returns-else-s-lt32 c =
    elim c.else-s-lt32.branch [
      | else-s-lt32-via-then-s-lt32+else-not-has w ↦ add-held _ _ w.if-s-lt32.true (told w.has.ensures w.if-not-has.false)
      | else-s-lt32-via-else-s-lt32 w ↦ add-past _ _ w.if-s-lt32.false
    ]
