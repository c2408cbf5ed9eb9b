use Rattle.std.proofs.Common.{sym, ◌∙◌}
use Rattle.frames.specs.Codec.{wrote-frame, wrote_one, wrote-three}
use Rattle.frames.proofs.write.Goals as goal

pub returns-then-not-fits : goal.returns-then-not-fits
returns-then-not-fits c = wrote-three c.args.event c.args.space.now (sym c.fits.ensures ∙ c.if-not-fits.true)

pub returns-then-space-n : goal.returns-then-space-n
returns-then-space-n c = wrote_one c.args.event (sym c.fits.ensures ∙ c.if-not-fits.false) c.args.space.now (rw c.length_in-n.ensures at c.if-space-n.true)

pub write_frame-requires : goal.write_frame-requires
write_frame-requires c = record { event_value = sym c.fits.ensures ∙ c.if-not-fits.false; event_in_bounds = rw c.length_in-n.ensures at c.if-space-n.false }

pub returns : goal.returns
returns c = rw c.length_in-n.ensures
    (wrote-frame c.args.event (sym c.fits.ensures ∙ c.if-not-fits.false) _ _ (rw c.length_in-n.ensures at c.if-space-n.false) c.write_frame.ensures)
