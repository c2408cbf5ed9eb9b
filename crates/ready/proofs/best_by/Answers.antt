use Rattle.std.proofs.Common.{sym, ◌∙◌, eq-eqb}
use Rattle.std.proofs.Math.Bool.{true≢false}
use Rattle.base.specs.Pick.{told}
use Rattle.ready.specs.Lots.{by_first, by-better, by_equal, by-worse}
use Rattle.ready.proofs.best_by.Goals.{then-best-eq0, else-best-eq0}
use Rattle.ready.proofs.best_by.Goals as goal

pub returns-then-better : goal.returns-then-better
returns-then-better c =
    elim c.if-best-eq0.branch [
      | then-best-eq0 w ↦ by_first _ _ c.requires.2 w.if-best-eq0.true
      | else-best-eq0 w ↦ by-better _ _ c.requires.2 (told w.better.ensures (sym w.value-is ∙ c.if-better.true))
    ]

pub returns-then-o-best : goal.returns-then-o-best
returns-then-o-best c =
    elim c.if-best-eq0.branch [
      | then-best-eq0 w ↦ absurd (true≢false (sym (eq-eqb _ _ w.if-best-eq0.true) ∙ sym w.value-is ∙ c.if-better.false))
      | else-best-eq0 w ↦ by_equal _ _ c.requires.2 w.if-best-eq0.false (told w.better.ensures (sym w.value-is ∙ c.if-better.false)) c.if-o-best.true
    ]

pub returns-else-o-best : goal.returns-else-o-best
returns-else-o-best c =
    elim c.if-best-eq0.branch [
      | then-best-eq0 w ↦ absurd (true≢false (sym (eq-eqb _ _ w.if-best-eq0.true) ∙ sym w.value-is ∙ c.if-better.false))
      | else-best-eq0 w ↦ by-worse _ _ c.requires.2 w.if-best-eq0.false (told w.better.ensures (sym w.value-is ∙ c.if-better.false)) c.if-o-best.false
    ]
