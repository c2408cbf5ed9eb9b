use Rattle.fills.specs.Gives.{legs-few, give-none, give-room, give-moves, give-stays, give_all, cut_both}
use native.Mathlib.Omega.{arith}
use Rattle.fills.proofs.give.Goals as goal
use Rattle.fills.proofs.give.Goals.{then-q-ne0, else-q-ne0}

pub loop-i-init : goal.loop-i-init
loop-i-init c = give-none _ _ _ _ _ _

pub fill_records-requires : goal.fill_records-requires
fill_records-requires c = record { count_bound = legs-few c.requires.room_in; room = give-room c.loop-i.invariant c.requires.room_in (omega arith) c.if-q-ne0.true }

pub loop-i-preserved : goal.loop-i-preserved
unfolding cut_both
loop-i-preserved c = (elim c.if-q-ne0.branch [
  | then-q-ne0 w ↦ rw (w.records-is, w.rows-is, w.cut_entry-then-q-ne0.ensures, w.cut_entry.ensures) (give-moves c.loop-i.invariant (omega arith) w.if-q-ne0.true w.fill_records.ensures)
  | else-q-ne0 w ↦ rw (w.records-is, w.rows-is) (give-stays c.loop-i.invariant (omega arith) w.if-q-ne0.false)
])

pub returns : goal.returns
returns c = give_all c.loop-i.invariant (omega arith)
