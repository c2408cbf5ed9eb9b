use Rattle.std.proofs.Common.{refl, ◌∙◌}
use Rattle.base.specs.Pick.{told}
use Rattle.auctions.specs.Auctions.{put_is, answer-yes, answer-no}
use Rattle.entries.specs.Entered.{entered-is}
use Rattle.sweeps.specs.Sweeps.{sweep-none, sweep-enters}
use Rattle.sweeps.proofs.enter_sweep.Goals as goal

pub returns-then-answers : goal.returns-then-answers
returns-then-answers c = sweep-enters _ _ (told c.is_live.ensures c.if-is_live.true) (entered-is _ _ c.insert.ensures.0) (put_is _ _ _ _ _ refl ∙ answer-yes _ _ _ (told c.answers.ensures c.if-answers.true))

pub returns-else-answers : goal.returns-else-answers
returns-else-answers c = sweep-enters _ _ (told c.is_live.ensures c.if-is_live.true) (entered-is _ _ c.insert.ensures.0) (answer-no _ _ _ (told c.answers.ensures c.if-answers.false))

pub returns-else-is_live : goal.returns-else-is_live
returns-else-is_live c = sweep-none _ _ (told c.is_live.ensures c.if-is_live.false)
