use Rattle.lines.specs.Cuts.{told_length}
use Rattle.lines.proofs.told_length.Goals as goal

pub returns : goal.returns
unfolding told_length
returns c = c.two_bytes.ensures.0
