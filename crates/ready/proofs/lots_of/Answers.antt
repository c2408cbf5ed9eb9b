use Rattle.std.proofs.Common.{◌∙◌, rules}
use Rattle.base.specs.Maps.{map-slots}
use Rattle.rules.specs.declared.Best.{Best}
use Rattle.rules.specs.Nets.{no_best}
use Rattle.ready.specs.Lots.{lots-of}
use Rattle.ready.proofs.lots_of.Goals as goal

pub returns : goal.returns
returns c =
    map-slots _ (λ (b : Best). b.contracts) _ (λ x y q k. search rules) _ _ no_best 64 (rw c.bests_of.ensures at c.map.ensures.items) ∙ lots-of _
