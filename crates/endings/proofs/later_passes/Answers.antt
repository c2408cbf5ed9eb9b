use mathlib.Core.Path.{refl}
use Rattle.endings.specs.Endings.{later-not, later-yes, fit-later}
use Rattle.records.specs.Done.{visit-none, visit-moves, visit-stays, visit-room, visit-all}
use Rattle.base.specs.Pick.{told}
use native.Mathlib.Omega.{arith}
use Rattle.endings.proofs.later_passes.Goals as goal
use Rattle.endings.proofs.later_passes.Goals.{then-later, else-later}

pub loop-i-init : goal.loop-i-init
loop-i-init c = visit-none _ _ _ _

pub pass-requires : goal.pass-requires
pass-requires c = record { a_lt_table_rows = (omega arith, fit-later _ _ _ _ c.requires.fit c.loop-i.invariant.done); room = visit-room c.loop-i.invariant (omega arith) (later-yes _ _ _ _ (told c.later.ensures c.if-later.true) refl) c.requires.room }

pub loop-i-preserved : goal.loop-i-preserved
loop-i-preserved c = (elim c.if-later.branch [
  | then-later w ↦ rw (w.records-is, w.b-is) (visit-moves c.loop-i.invariant (omega arith) (later-yes _ _ _ _ (told c.later.ensures w.if-later.true) refl) w.pass.ensures)
  | else-later w ↦ rw (w.records-is, w.b-is) (visit-stays c.loop-i.invariant (omega arith) (later-not _ _ _ _ (told c.later.ensures w.if-later.false)))
])

pub returns : goal.returns
returns c = visit-all c.loop-i.invariant (omega arith)
