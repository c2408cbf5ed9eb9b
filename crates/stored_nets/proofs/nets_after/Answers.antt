use Rattle.base.specs.Pick.{tests}
use Rattle.stored_nets.specs.Stored.{nets_after}
use Rattle.stored_nets.proofs.nets_after.Goals as goal

pub nets_anew-requires : goal.nets_anew-requires
nets_anew-requires c = (c.requires.3, c.requires.4, c.requires.1)

pub nets_moved-requires : goal.nets_moved-requires
nets_moved-requires c = (c.requires.0, c.requires.2, c.requires.5, c.requires.6)

pub returns-then-p-eq0 : goal.returns-then-p-eq0
unfolding nets_after
returns-then-p-eq0 c = rw c.nets_anew.ensures (search tests)

pub returns-else-p-eq0 : goal.returns-else-p-eq0
unfolding nets_after
returns-else-p-eq0 c = rw c.nets_moved.ensures (search tests)
