use Rattle.std.proofs.Common.{refl}
use Rattle.rules.specs.State.{with_national}
use Rattle.rules.specs.National.{on_national}
use Rattle.national.proofs.set_prices.Goals as goal

pub returns : goal.returns
unfolding on_national with_national
returns c = refl
