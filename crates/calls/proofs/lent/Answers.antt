use Rattle.std.proofs.Common.{◌∙◌}
use Rattle.calls.specs.Items.{lent-min}
use Rattle.calls.proofs.lent.Goals as goal

pub returns : goal.returns
returns c = c.min.ensures ∙ lent-min _ c.two_bytes.ensures.0
