use Rattle.std.proofs.Common.{◌∙◌}
use Rattle.frames.specs.Carried.{exit}
use Rattle.exports.specs.Exports.{event_in}
use Rattle.exports.proofs.event_in.Goals as goal

pub returns-in_err-kind : goal.returns-in_err-kind
unfolding event_in
returns-in_err-kind c = exit c.from_residual.ensures.1 ∙ rw (← c.in_err-kind.ensures)

pub returns : goal.returns
unfolding event_in
returns c = rw (← c.in_ok-kind.ensures, c.event_of.ensures, c.copy_from_slice.ensures.after)
