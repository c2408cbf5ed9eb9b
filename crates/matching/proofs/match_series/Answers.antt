use Rattle.base.specs.Pick.{told}
use Rattle.matching.specs.Matching.{match-yes, match-not, fit-series}
use Rattle.records.specs.Done.{visit-none, visit-moves, visit-stays, visit-room, visit-all}
use Rattle.matching.proofs.match_series.Goals as goal
use Rattle.matching.proofs.match_series.Goals.{then-open_with, else-open_with}

pub loop-k-init : goal.loop-k-init
loop-k-init c = visit-none _ _ _ _

pub match_all-requires : goal.match_all-requires
match_all-requires c = record { k_lt_strategy_slots = (c.loop-k-test.true, fit-series _ _ _ c.requires.fit c.loop-k.invariant.done); room = visit-room c.loop-k.invariant c.loop-k-test.true (match-yes _ _ _ (told c.open_with.ensures c.if-open_with.true)) c.requires.room }

pub loop-k-preserved : goal.loop-k-preserved
loop-k-preserved c = (elim c.if-open_with.branch [
  | then-open_with w ↦ rw (w.records-is, w.b-is) (visit-moves c.loop-k.invariant c.loop-k-test.true (match-yes _ _ _ (told c.open_with.ensures w.if-open_with.true)) w.match_all.ensures)
  | else-open_with w ↦ rw (w.records-is, w.b-is) (visit-stays c.loop-k.invariant c.loop-k-test.true (match-not _ _ _ (told c.open_with.ensures w.if-open_with.false)))
])

pub returns : goal.returns
returns c = visit-all c.loop-k.invariant c.loop-k-test.false
