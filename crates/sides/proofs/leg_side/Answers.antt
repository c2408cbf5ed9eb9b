use Rattle.rules.specs.Sides.{leg_side}
use Rattle.base.specs.Pick.{tests}
use Rattle.sides.proofs.leg_side.Goals as goal

pub returns-then-side-eq0 : goal.returns-then-side-eq0
unfolding leg_side
returns-then-side-eq0 c = search tests

pub returns-else-side-eq0 : goal.returns-else-side-eq0
unfolding leg_side
returns-else-side-eq0 c = rw c.other.ensures (search tests)
