use Rattle.endings.specs.Endings.{fit-starter}
use Rattle.records.specs.Done.{done-then, room-then, room_after}
use Rattle.rules.specs.Auctions.{end_auction}
use Rattle.endings.proofs.end_auction.Goals as goal

pub starter_pass-requires : goal.starter_pass-requires
unfolding end_auction
starter_pass-requires c = record { k_lt_strategy_slots = c.requires.k_lt_strategy_slots; room = room-then _ _ c.requires.room }

pub later_passes-requires : goal.later_passes-requires
unfolding end_auction
later_passes-requires c = record { fit = fit-starter _ _ c.requires.k_lt_strategy_slots.1 c.starter_pass.ensures; room = room-then _ _ (room_after _ _ c.requires.room c.starter_pass.ensures) }

pub end_unfilled-requires : goal.end_unfilled-requires
unfolding end_auction
end_unfilled-requires c = record { k_lt_strategy_slots = c.requires.k_lt_strategy_slots.0; room = room_after _ _ (room_after _ _ c.requires.room c.starter_pass.ensures) c.later_passes.ensures }

pub returns : goal.returns
unfolding end_auction
returns c = done-then _ _ c.starter_pass.ensures (done-then _ _ c.later_passes.ensures c.end_unfilled.ensures)
