use Rattle.std.proofs.Common.{◌≡◌, ◌∙◌, ap}
use Rattle.base.specs.Pick.{tests}
use Rattle.base.specs.Chains.{unless_zero}
use Rattle.nets.specs.Bests.{unless-by}
use Rattle.stored_nets.specs.Stored.{net_for}
use Rattle.stored_nets.proofs.net_for.Goals as goal
use Rattle.stored_nets.proofs.net_for.Goals.{then-side-eq0, else-side-eq0}

pub returns : goal.returns
unfolding net_for
returns c =
    let h : c.if-side-eq0.net ≡ net_for c.args.n c.args.side = elim c.if-side-eq0.branch [ then-side-eq0 w ↦ rw w.net-is (search (tests, w.if-side-eq0.true)) | else-side-eq0 w ↦ rw w.net-is (search (tests, w.if-side-eq0.false)) ] in
    c.then_some.ensures ∙ unless-by _ ∙ ap unless_zero h
