use Rattle.std.proofs.Common.{rules}
use Rattle.std.proofs.lemmas.Iterator.{YieldsList-from_slice}
use Rattle.std.proofs.lemmas.Iterator.Search.{position_from_yields_List}
use Rattle.rules.specs.Events.{same_sweep}
use Rattle.entries.specs.Sweeps.{old-is}
use Rattle.entries.proofs.old_sweep.Goals as goal

pub returns : goal.returns
returns c = old-is c.args.es c.args.e (search rules) (position_from_yields_List (same_sweep c.args.e) _ _ _ c.position.ensures.ran (YieldsList-from_slice c.args.es cc) (λ x b q k. search rules))
