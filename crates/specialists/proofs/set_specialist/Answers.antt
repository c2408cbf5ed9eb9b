use mathlib.Core.Path.{refl}
use Rattle.rules.specs.State.{with_strategies}
use Rattle.rules.specs.Specialists.{on_specialist}
use Rattle.specialists.proofs.set_specialist.Goals as goal

pub returns : goal.returns
unfolding on_specialist with_strategies
returns c = refl
