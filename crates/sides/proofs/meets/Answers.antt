use Rattle.rules.specs.Sides.{meets}
use Rattle.base.specs.Pick.{tests}
use Rattle.sides.proofs.meets.Goals as goal

pub returns-then-side-eq0 : goal.returns-then-side-eq0
unfolding meets
returns-then-side-eq0 c = search tests

pub returns-else-side-eq0 : goal.returns-else-side-eq0
unfolding meets
returns-else-side-eq0 c = search tests
