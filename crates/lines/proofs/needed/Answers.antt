use Rattle.base.specs.Pick.{tests}
use Rattle.lines.specs.Cuts.{needed_of, needed-under, needed-whole}
use Rattle.lines.proofs.needed.Goals as goal

pub returns-then-rest-lt2 : goal.returns-then-rest-lt2
unfolding needed_of
returns-then-rest-lt2 c = search tests

pub returns-then-n-lt4 : goal.returns-then-n-lt4
returns-then-n-lt4 c = needed-under _ c.told_length-n.ensures c.if-rest-lt2.false c.if-n-lt4.true

pub returns-else-n-lt4 : goal.returns-else-n-lt4
returns-else-n-lt4 c = needed-whole _ c.told_length-n.ensures c.if-rest-lt2.false c.if-n-lt4.false
