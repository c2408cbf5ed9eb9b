-- proofs/sweep_refusal/Answers.antt
use Rattle.refusals.specs.Refusing.{has-legs, refused-not}
use Rattle.ranges.specs.Fit.{fit-sound}
use Rattle.refusals.proofs.sweep_refusal.Goals as goal

pub betters_nothing-requires : goal.betters_nothing-requires
betters_nothing-requires c = (c.requires.0, fit-sound c.requires.2, has-legs c.requires.2 _ c.undefined.ensures (refused-not _ _ c.in_ok-refuse_if.ensures))
