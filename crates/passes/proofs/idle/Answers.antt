use Rattle.std.proofs.Common.{◌∙◌, ap, ℕ}
use Rattle.std.specs.Prelude.{Option, unwrap_or}
use Rattle.nets.specs.Bests.{unless-zero-or}
use Rattle.passes.specs.Passes.{stops-by, stops-in}
use Rattle.passes.proofs.idle.Goals as goal

pub returns : goal.returns
returns c = stops-in _ _ _ _ _ _ (ap (λ (n : Option ℕ). unwrap_or n 0) c.opposite-x.ensures ∙ unless-zero-or _) (stops-by _ _ _ _ _ c.stops.ensures c.turn_at-t.ensures (ap (λ (n : Option ℕ). unwrap_or n 0) c.ready_net-r.ensures) c.legs_met-p.ensures)
