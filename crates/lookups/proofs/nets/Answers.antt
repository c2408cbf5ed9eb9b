-- proofs/nets/Answers.antt
use Rattle.std.proofs.Common.{rules, arith}
use Rattle.rules.specs.Lookups.{nets_tells}
use Rattle.lookups.specs.LegNets.{nets-undefined, row-undefined, stored-fits, nets-stored, row-stored}
use Rattle.lookups.proofs.nets.Goals as goal

pub returns-then-b-strategy : goal.returns-then-b-strategy
returns-then-b-strategy c = record { result_value = nets-undefined _ _ c.if-b-strategy.true; result_value_2 = row-undefined _ _ c.if-b-strategy.true }

pub told_net-requires : goal.told_net-requires
told_net-requires c = let f = stored-fits _ c.requires _ c.if-b-strategy.false in omega (arith, f.0, f.1)

pub told_net-requires-2 : goal.told_net-requires-2
told_net-requires-2 c = let f = stored-fits _ c.requires _ c.if-b-strategy.false in omega (arith, f.0, f.1)

pub returns : goal.returns
unfolding nets_tells
returns c = record {
  result_value = nets-stored _ c.requires _ c.if-b-strategy.false (search rules);
  result_value_2 = row-stored _ _ c.if-b-strategy.false (search rules);
}
