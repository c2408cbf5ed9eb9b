use Rattle.std.proofs.Common.{refl}
use Rattle.rules.specs.State.{with_range}
use Rattle.rules.specs.National.{on_range}
use Rattle.national.proofs.set_range.Goals as goal

pub returns : goal.returns
unfolding on_range with_range
returns c = refl
