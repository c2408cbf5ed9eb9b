use Rattle.std.proofs.Common.{◌∙◌}
use Rattle.rules.specs.Events.{old_sweep}
use Rattle.refusals.specs.Refusing.{found-there}
use Rattle.refusals.proofs.replaces.Goals as goal

pub returns : goal.returns
unfolding old_sweep
returns c = c.is_some.ensures ∙ found-there _ _ (rw c.sweep_given.ensures at c.old_sweep.ensures)
