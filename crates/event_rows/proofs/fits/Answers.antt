use mathlib.Core.Path.{◌∙◌}
use Rattle.events.specs.Rows.{fitting}
use Rattle.events.specs.Laws.{four-in, layout-in}
use Rattle.event_rows.proofs.fits.Goals as goal

pub overflow_sub-length_in : goal.overflow_sub-length_in
overflow_sub-length_in c = rw c.length_in.ensures (four-in c.args.event)

pub returns : goal.returns
unfolding fitting
returns c = c.fit.ensures ∙ rw (layout-in c.args.event c.from.ensures c.fields_of.ensures c.length_in.ensures, c.row_of.ensures)
