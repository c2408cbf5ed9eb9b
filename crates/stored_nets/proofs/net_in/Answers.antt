use Rattle.std.proofs.Common.{◌≡◌, ◌∙◌, ap, rules}
use Rattle.std.specs.Option.{option_map_or}
use Rattle.nets.specs.declared.LegBests.{LegBests}
use Rattle.std.specs.Prelude.{Option}
use Rattle.nets.specs.Legs.{net-is}
use Rattle.stored_nets.proofs.net_in.Goals as goal

pub returns : goal.returns
returns c =
    let h : c.map_or.result ≡ option_map_or (λ (b : LegBests). b.net) c.leg_bests.result 0 = search rules in
    h ∙ ap (λ (x : Option LegBests). option_map_or (λ (b : LegBests). b.net) x 0) c.leg_bests.ensures ∙ net-is _ _ _
