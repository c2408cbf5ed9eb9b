use Rattle.records.specs.Done.{done-then, room-then, room_after}
use Rattle.rules.specs.Auctions.{end_unfilled}
use Rattle.auctions.proofs.end_unfilled.Goals as goal

pub cancel_lapses-requires : goal.cancel_lapses-requires
unfolding end_unfilled
cancel_lapses-requires c = room-then _ _ c.requires.room

pub close-requires : goal.close-requires
unfolding end_unfilled
close-requires c = record { k_lt_strategy_slots = c.requires.k_lt_strategy_slots; room = room_after _ _ c.requires.room c.cancel_lapses.ensures }

pub returns : goal.returns
unfolding end_unfilled
returns c = done-then _ _ c.cancel_lapses.ensures c.close.ensures
