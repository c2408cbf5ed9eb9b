use Rattle.passes.specs.Passes.{turn_in}
use Rattle.passes.proofs.turn_of.Goals as goal

pub returns : goal.returns
unfolding turn_in
returns c = rw (c.allowed.ensures, c.turn_at.ensures)
