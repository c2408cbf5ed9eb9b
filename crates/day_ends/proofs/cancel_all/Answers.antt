use Rattle.day_ends.specs.DayEnds.{lowered-sound, low-is, low-none, lowest-stops}
use Rattle.records.specs.Done.{visit-none, visit-moves, visit-room, visit-all}
use native.Mathlib.Omega.{arith}
use Rattle.day_ends.proofs.cancel_all.Goals as goal

pub loop-init : goal.loop-init
loop-init c = visit-none _ _ _ _

pub cancel_number-requires-clause-sound : goal.cancel_number-requires-clause-sound
cancel_number-requires-clause-sound c = lowered-sound c.requires.sound c.loop.invariant

pub cancel_number-requires-clause-room : goal.cancel_number-requires-clause-room
cancel_number-requires-clause-room c = visit-room c.loop.invariant (omega arith) (low-is _ (lowered-sound c.requires.sound c.loop.invariant) _ c.lowest_live.ensures c.in-Some.is) c.requires.room

pub returns-in-None : goal.returns-in-None
returns-in-None c = lowest-stops _ _ (omega arith) c.loop.invariant.done (low-none _ (lowered-sound c.requires.sound c.loop.invariant) c.lowest_live.ensures c.in-None.is)

pub loop-preserved : goal.loop-preserved
loop-preserved c = visit-moves c.loop.invariant (omega arith) (low-is _ (lowered-sound c.requires.sound c.loop.invariant) _ c.lowest_live.ensures c.in-Some.is) c.cancel_number.ensures

pub returns : goal.returns
returns c = visit-all c.loop.invariant (omega arith)
