use Rattle.stored_nets.specs.Stored.{nets_moved}
use Rattle.base.specs.Pick.{tests}
use Rattle.stored_nets.proofs.nets_moved.Goals as goal

pub returns-then-l-side : goal.returns-then-l-side
unfolding nets_moved
returns-then-l-side c = rw c.net_moved.ensures (search tests)

pub returns-else-l-side : goal.returns-else-l-side
unfolding nets_moved
returns-else-l-side c = rw c.net_moved-else-l-side.ensures (search tests)
