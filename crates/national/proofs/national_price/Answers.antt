use Rattle.std.proofs.Common.{◌≡◌, ◌∙◌, ap, eqb}
use Rattle.base.specs.Pick.{pick, tests}
use Rattle.base.specs.Chains.{unless_zero}
use Rattle.rules.specs.Sides.{leg_side}
use Rattle.nets.specs.Bests.{unless-by}
use Rattle.national.proofs.national_price.Goals.{then-leg_side-eq0, else-leg_side-eq0}
use Rattle.national.proofs.national_price.Goals as goal

pub returns : goal.returns
returns c =
    let h : c.if-leg_side-eq0.price ≡ pick (eqb (leg_side c.args.side c.args.l) 0) c.args.q.offer c.args.q.bid =
    rw (← c.leg_side.ensures) (elim c.if-leg_side-eq0.branch [ then-leg_side-eq0 w ↦ rw w.price-is (search (tests, w.if-leg_side-eq0.true)) | else-leg_side-eq0 w ↦ rw w.price-is (search (tests, w.if-leg_side-eq0.false)) ]) in
    c.then_some.ensures ∙ unless-by _ ∙ ap unless_zero h
