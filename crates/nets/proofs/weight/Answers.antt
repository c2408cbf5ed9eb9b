use Rattle.nets.specs.Nets.{weight-own, weight-other}
use Rattle.nets.proofs.weight.Goals as goal

pub returns-then-l-side : goal.returns-then-l-side
returns-then-l-side c = weight-own _ _ _ c.if-l-side.true

pub returns-else-l-side : goal.returns-else-l-side
returns-else-l-side c = weight-other _ _ _ c.requires.0.side c.requires.1 c.if-l-side.false
