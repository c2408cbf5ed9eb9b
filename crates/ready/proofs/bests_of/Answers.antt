use Rattle.std.proofs.Common.{arith}
use Rattle.ranges.specs.Fit.{fit-order}
use Rattle.ready.specs.Lots.{bests-first, bests-skip, bests-next, bests-last, own-fits}
use Rattle.ready.proofs.bests_of.Goals.{then-o-gt0, else-o-gt0}
use Rattle.ready.proofs.bests_of.Goals as goal

pub loop-o-init : goal.loop-o-init
loop-o-init c = bests-first _

pub bounds-bests-at : goal.bounds-bests-at
bounds-bests-at c = let o = fit-order c.requires.0 c.loop-o.o-index in omega (arith, o.series, o.side)

pub best_by-requires : goal.best_by-requires
best_by-requires c = let o = fit-order c.requires.0 c.loop-o.o-index in (own-fits _ _ o c.loop-o.invariant c.requires.0 c.loop-o.auto.o-index-end, o.contracts, c.if-o-gt0.true)

pub bounds-bests-at-then-o-gt0 : goal.bounds-bests-at-then-o-gt0
bounds-bests-at-then-o-gt0 c = let o = fit-order c.requires.0 c.loop-o.o-index in omega (arith, o.series, o.side)

pub loop-o-preserved : goal.loop-o-preserved
loop-o-preserved c =
    elim c.if-o-gt0.branch [
      | then-o-gt0 w ↦ rw w.bests-is (bests-next _ _ (fit-order c.requires.0 _) c.loop-o.invariant w.best_by.ensures)
      | else-o-gt0 w ↦ rw w.bests-is (bests-skip _ _ (omega (arith, w.if-o-gt0.false)) c.loop-o.invariant)
    ]

pub returns : goal.returns
returns c = bests-last _ c.requires.1 (omega arith) c.loop-o.invariant
