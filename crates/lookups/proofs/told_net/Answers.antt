-- proofs/told_net/Answers.antt
use Rattle.lookups.specs.LegNets.{cents-word, tells_unknown, tells-known}
use Rattle.lookups.proofs.told_net.Goals as goal

pub returns-then-level-eq0 : goal.returns-then-level-eq0
returns-then-level-eq0 c = tells_unknown _ c.if-level-eq0.true

pub returns-else-level-eq0 : goal.returns-else-level-eq0
returns-else-level-eq0 c = tells-known _ c.if-level-eq0.false (cents-word _ c.requires c.cents.ensures)
