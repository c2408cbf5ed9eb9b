use Rattle.rules.specs.Sides.{best_price}
use Rattle.base.specs.Pick.{tests, told}
use mathlib.Core.Path.{sym, ◌∙◌}
use Rattle.sides.proofs.best_price.Goals as goal
use Rattle.sides.proofs.best_price.Goals.{then-p-eq0, else-p-eq0}

pub returns-then-better : goal.returns-then-better
unfolding best_price
returns-then-better c =
    elim c.if-p-eq0.branch [
      | then-p-eq0 w ↦ search (tests, w.if-p-eq0.true)
      | else-p-eq0 w ↦ search (tests, w.if-p-eq0.false, told w.better.ensures (sym w.value-is ∙ c.if-better.true))
    ]

pub returns-else-better : goal.returns-else-better
unfolding best_price
returns-else-better c =
    elim c.if-p-eq0.branch [
      | then-p-eq0 w ↦ cc
      | else-p-eq0 w ↦ search (tests, w.if-p-eq0.false, told w.better.ensures (sym w.value-is ∙ c.if-better.false))
    ]
