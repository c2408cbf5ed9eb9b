use Rattle.rules.specs.Auctions.{live_in}
use Rattle.base.specs.Pick.{tests}
use Rattle.states.proofs.live_in.Goals as goal

pub returns-then-e-ne0 : goal.returns-then-e-ne0
unfolding live_in
returns-then-e-ne0 c = search tests

pub returns-else-e-ne0 : goal.returns-else-e-ne0
unfolding live_in
returns-else-e-ne0 c = search tests
