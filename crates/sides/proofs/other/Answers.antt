use Rattle.rules.specs.Sides.{other}
use Rattle.base.specs.Pick.{tests}
use Rattle.sides.proofs.other.Goals as goal

pub returns-then-side-eq0 : goal.returns-then-side-eq0
unfolding other
returns-then-side-eq0 c = search tests

pub returns-else-side-eq0 : goal.returns-else-side-eq0
unfolding other
returns-else-side-eq0 c = search tests
