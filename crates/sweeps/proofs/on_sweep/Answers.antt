use Rattle.records.specs.Done.{done-of, done-still, done-then, room-then}
use mathlib.Core.Path.{sym}
use Rattle.rules.specs.Events.{on_sweep}
use Rattle.sweeps.proofs.on_sweep.Goals as goal

pub cancel_old-requires-clause-room : goal.cancel_old-requires-clause-room
unfolding on_sweep
cancel_old-requires-clause-room c = room-then _ _ c.requires.room

pub returns : goal.returns
unfolding on_sweep
returns c = done-then _ _ c.cancel_old.ensures (done-of (sym c.enter_sweep.ensures) (done-still _ _))
