use Rattle.std.proofs.Common.{refl, sym, ◌∙◌}
-- proofs/depth/Answers.antt
use Rattle.lookups.specs.Lookups.{depth-series, depth-side, depth_is, tells-best}
use Rattle.lookups.proofs.depth.Goals.{then-s-gt31-via-then-s-gt31, then-s-gt31-via-else-s-gt31+then-side-gt1}
use Rattle.lookups.proofs.depth.Goals as goal

pub returns-then-s-gt31 : goal.returns-then-s-gt31
returns-then-s-gt31 c =
    elim c.then-s-gt31.branch [ then-s-gt31-via-then-s-gt31 w ↦ depth-series _ _ _ w.if-s-gt31.true | then-s-gt31-via-else-s-gt31+then-side-gt1 w ↦ depth-side _ _ _ w.if-s-gt31.false w.if-side-gt1.true ]

pub returns-in_default : goal.returns-in_default
returns-in_default c = depth_is _ _ _ c.if-s-gt31.false c.if-side-gt1.false refl (tells-best _ (sym c.in_default.is ∙ c.best_of.ensures))

pub returns : goal.returns
returns c = depth_is _ _ _ c.if-s-gt31.false c.if-side-gt1.false refl (tells-best _ (sym c.in-Some.is ∙ c.best_of.ensures))
