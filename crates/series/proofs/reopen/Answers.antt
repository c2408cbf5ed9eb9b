use Rattle.rules.specs.State.{with_opened}
use Rattle.records.specs.Done.{done-then, done-of, room_of, room-then, room_after}
use Rattle.series.specs.Series.{reopen-is, opened-fit}
use Rattle.matching.specs.Matching.{fit-series}
use Rattle.series.proofs.reopen.Goals as goal

pub match_series-requires : goal.match_series-requires
unfolding with_opened
match_series-requires c = record { fit = opened-fit c.args.b.now _ c.requires.s_bound.1; room = room-then _ _ (room_of (reopen-is _ c.args.b.now c.with_series-b.ensures) c.requires.room) }

pub all_leg_passes-requires : goal.all_leg_passes-requires
unfolding with_opened
all_leg_passes-requires c = record { fit = fit-series c.args.s 16 _ (opened-fit c.args.b.now _ c.requires.s_bound.1) c.match_series.ensures; room = room_after _ _ (room_of (reopen-is _ c.args.b.now c.with_series-b.ensures) c.requires.room) c.match_series.ensures }

pub returns : goal.returns
unfolding with_opened
returns c = done-of (reopen-is _ c.args.b.now c.with_series-b.ensures) (done-then _ _ c.match_series.ensures c.all_leg_passes.ensures)
