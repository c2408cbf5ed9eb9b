use Rattle.std.proofs.Common.{refl, ap, ◌∙◌, List, length, arith}
use Rattle.rules.specs.declared.LegNets.{LegNets}
use Rattle.rules.specs.State.{with_strategies, with_nets}
use Rattle.rules.proofs.Bests.{priced-sound}
use Rattle.rules.proofs.NetTables.{nets-length}
use Rattle.strategies.specs.Held.{add-slot, add_none}
use Rattle.strategies.proofs.add.Goals as goal

pub leg_nets-requires : goal.leg_nets-requires
leg_nets-requires c = (c.requires.0.sound.orders, priced-sound c.requires.0.sound, c.requires.1)

pub returns-then-at-lt-STRATEGIES : goal.returns-then-at-lt-STRATEGIES
unfolding with_strategies with_nets
returns-then-at-lt-STRATEGIES c = add-slot _ _ c.leg_nets.ensures refl

pub returns-else-at-lt-STRATEGIES : goal.returns-else-at-lt-STRATEGIES
unfolding with_strategies
returns-else-at-lt-STRATEGIES c = add_none _ _ (omega (arith, c.requires.0.sound.strategy_rows)) (omega (arith, ap (λ (ns : List LegNets). length ns) c.requires.0.sound.nets.are ∙ nets-length _ _)) refl
