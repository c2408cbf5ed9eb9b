use Rattle.std.proofs.Common.{sym, refl, ◌∙◌, length-set}
use Rattle.frames.specs.Number.{put-end, put-start, put_step}
use Rattle.frames.proofs.numbers.put.Goals as goal

pub loop-i-init : goal.loop-i-init
loop-i-init c = (refl, put-start _ _ _ _)

pub loop-i-preserved : goal.loop-i-preserved
loop-i-preserved c = (simp length-set c.loop-i.invariant.0, put_step _ _ _ _ _ c.loop-i-test.true ∙ c.loop-i.invariant.1)

pub returns : goal.returns
returns c = sym (put-end _ _ _ _ _ c.loop-i-test.false) ∙ c.loop-i.invariant.1
