use Rattle.passes.specs.Passes.{stops_at}
use mathlib.Core.Path.{sym, ap}
use Rattle.passes.proofs.stops.Goals as goal

pub returns-in-Stop : goal.returns-in-Stop
unfolding stops_at
returns-in-Stop c = sym (ap stops_at c.in-Stop.is)

pub returns-in-ByLegs : goal.returns-in-ByLegs
unfolding stops_at
returns-in-ByLegs c = sym (ap stops_at c.in-ByLegs.is)

pub returns-in-AtLimit : goal.returns-in-AtLimit
unfolding stops_at
returns-in-AtLimit c = sym (ap stops_at c.in-AtLimit.is)
