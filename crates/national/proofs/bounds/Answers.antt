use Rattle.rules.specs.National.{bounds_of}
use Rattle.national.proofs.bounds.Goals as goal

pub returns : goal.returns
unfolding bounds_of
returns c = rw (c.unwrap_or.ensures, c.unwrap_or-2.ensures, c.national_net.ensures, c.national_net-2.ensures)
