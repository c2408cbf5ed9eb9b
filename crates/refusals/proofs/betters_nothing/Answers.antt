-- proofs/betters_nothing/Answers.antt
use Rattle.base.specs.Pick.{pick}
use Rattle.std.proofs.lemmas.Grind.{common_steps}
use native.Mathlib.Omega.{arith}
use Rattle.refusals.specs.Refusing.{betters-none}
use Rattle.rules.specs.Refusals.{betters_nothing}
use Rattle.refusals.proofs.betters_nothing.Goals as goal

pub returns-then-e-ne0 : goal.returns-then-e-ne0
returns-then-e-ne0 c = betters-none _ _ c.if-e-ne0.true c.requires c.other.ensures c.net_for-net.ensures c.betters.ensures

pub returns-else-e-ne0 : goal.returns-else-e-ne0
unfolding betters_nothing pick
returns-else-e-ne0 c = grind (arith, common_steps)
