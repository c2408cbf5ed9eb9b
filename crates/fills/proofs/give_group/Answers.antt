use Rattle.rules.specs.Quotas.{share_beside}
use Rattle.records.specs.Done.{in-room, in-done}
use Rattle.fills.specs.Gives.{group-is, entries_fit}
use Rattle.ranges.specs.Fit.{fit-entry}
use Rattle.quotas.specs.Bounds.{sizes-most}
use Rattle.fills.proofs.give_group.Goals as goal

pub share_beside-qs-requires : goal.share_beside-qs-requires
share_beside-qs-requires c = let few = entries_fit c.requires.room_in in
    ((fit-entry few c.args.a).units, rw c.sizes-xs.ensures (sizes-most _ _ _ _ few))

pub give-requires : goal.give-requires
give-requires c = record { a_lt_table_rows = c.requires.a_lt_table_rows; room_in = in-room (group-is (share_beside _ _) _ _ _ (rw c.sizes-xs.ensures at c.share_beside-qs.ensures)) c.requires.room_in }

pub returns : goal.returns
returns c = in-done (group-is (share_beside _ _) _ _ _ (rw c.sizes-xs.ensures at c.share_beside-qs.ensures)) c.give.ensures
