use Rattle.fills.specs.Gives.{give-nobody}
use Rattle.rules.specs.Passes.{meet_limit}
use Rattle.rules.specs.declared.Allocation.{Allocation}
use Rattle.records.specs.Done.{in-room, in-done}
use mathlib.Core.Path.{ap}
use Rattle.passes.proofs.meet_limit.Goals as goal

pub give_shared-requires : goal.give_shared-requires
unfolding meet_limit
give_shared-requires c = record { a_lt_table_rows = c.requires.a_lt_table_rows; room_in = in-room (λ b _. (ap (λ (w : Allocation). meet_limit w c.args.a c.args.level b) c.in-Shared.is)) c.requires.room_in }

pub give_for_starter-requires : goal.give_for_starter-requires
unfolding meet_limit
give_for_starter-requires c = record { a_lt_table_rows = c.requires.a_lt_table_rows; room_in = in-room (λ b _. (ap (λ (w : Allocation). meet_limit w c.args.a c.args.level b) c.in-ForStarter.is)) c.requires.room_in }

pub give_in_turn-requires : goal.give_in_turn-requires
unfolding meet_limit
give_in_turn-requires c = record { a_lt_table_rows = c.requires.a_lt_table_rows; room_in = in-room (λ b _. (ap (λ (w : Allocation). meet_limit w c.args.a c.args.level b) c.in-Numbered.is)) c.requires.room_in }

pub returns-in-LegsOnly : goal.returns-in-LegsOnly
unfolding meet_limit
returns-in-LegsOnly c = in-done (λ b _. (ap (λ (w : Allocation). meet_limit w c.args.a c.args.level b) c.in-LegsOnly.is)) (give-nobody _ _ _ _)

pub returns-in-Shared : goal.returns-in-Shared
unfolding meet_limit
returns-in-Shared c = in-done (λ b _. (ap (λ (w : Allocation). meet_limit w c.args.a c.args.level b) c.in-Shared.is)) c.give_shared.ensures

pub returns-in-ForStarter : goal.returns-in-ForStarter
unfolding meet_limit
returns-in-ForStarter c = in-done (λ b _. (ap (λ (w : Allocation). meet_limit w c.args.a c.args.level b) c.in-ForStarter.is)) c.give_for_starter.ensures

pub returns-in-Numbered : goal.returns-in-Numbered
unfolding meet_limit
returns-in-Numbered c = in-done (λ b _. (ap (λ (w : Allocation). meet_limit w c.args.a c.args.level b) c.in-Numbered.is)) c.give_in_turn.ensures
