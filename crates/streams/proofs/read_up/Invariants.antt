use Rattle.std.proofs.Common.{◌-◌, length}
use Rattle.streams.specs.Added.{Added}
use Rattle.streams.proofs.read_up.Given as goal

abbrev pub invariant-loop-m : goal.invariant-loop-m
invariant-loop-m g l = Added l.fn.block l.block l.fn.n l.m

abbrev pub decreases-loop-m : goal.decreases-loop-m
decreases-loop-m g l = length l.block - l.m
