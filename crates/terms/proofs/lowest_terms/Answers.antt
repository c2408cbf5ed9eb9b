use Rattle.std.proofs.Common.{◌/◌, rules}
use Rattle.base.specs.Maps.{map-slots}
use Rattle.rules.specs.declared.Leg.{Leg}
use Rattle.rules.specs.State.{no_leg}
use Rattle.rules.specs.Strategies.{lowest_terms}
use Rattle.terms.proofs.lowest_terms.Goals as goal

pub returns : goal.returns
unfolding lowest_terms
returns c =
    rw (← c.divisor-d.ensures)
    (map-slots _ (λ (l : Leg). record { series = l.series; side = l.side; ratio = l.ratio / c.divisor-d.result }) _ (λ x y q k. search rules) _ _ no_leg 6 c.map.ensures.items)
