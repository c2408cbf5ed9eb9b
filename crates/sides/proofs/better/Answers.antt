use Rattle.rules.specs.Sides.{better}
use Rattle.base.specs.Pick.{tests}
use Rattle.sides.proofs.better.Goals as goal

pub returns-then-side-eq0 : goal.returns-then-side-eq0
unfolding better
returns-then-side-eq0 c = search tests

pub returns-else-side-eq0 : goal.returns-else-side-eq0
unfolding better
returns-else-side-eq0 c = search tests
