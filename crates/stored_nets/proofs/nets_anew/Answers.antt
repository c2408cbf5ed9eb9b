use Rattle.stored_nets.specs.Stored.{nets_anew}
use Rattle.base.specs.Pick.{tests}
use Rattle.stored_nets.proofs.nets_anew.Goals as goal

pub returns-then-l-side : goal.returns-then-l-side
unfolding nets_anew
returns-then-l-side c = rw c.net_in.ensures (search tests)

pub returns-else-l-side : goal.returns-else-l-side
unfolding nets_anew
returns-else-l-side c = rw c.net_in-else-l-side.ensures (search tests)
