use Rattle.rules.specs.State.{with_clock}
use Rattle.rules.specs.Events.{on_clock}
use Rattle.base.specs.Pick.{told}
use Rattle.clocks.specs.Clocks.{ranged-visited, due-fits, due-yes, due-not}
use Rattle.records.specs.Done.{visit-none, visit-moves, visit-stays, visit-room, visit-all}
use native.Mathlib.Omega.{arith}
use Rattle.clocks.proofs.on_clock.Goals as goal
use Rattle.clocks.proofs.on_clock.Goals.{then-due, else-due}

pub loop-k-init : goal.loop-k-init
loop-k-init c = visit-none _ _ _ _

pub due-requires : goal.due-requires
unfolding with_clock
due-requires c = due-fits _ _ (ranged-visited c.args.b.now c.args.t c.requires.t_bound.0 c.requires.t_bound.1 c.loop-k.invariant)

pub end_auction-requires : goal.end_auction-requires
unfolding with_clock on_clock
end_auction-requires c = record {
  k_lt_strategy_slots = (omega arith, (ranged-visited c.args.b.now c.args.t c.requires.t_bound.0 c.requires.t_bound.1 c.loop-k.invariant).fit);
  room = visit-room c.loop-k.invariant (omega arith) (due-yes _ _ (told c.due.ensures c.if-due.true)) c.requires.room;
}

pub loop-k-preserved : goal.loop-k-preserved
loop-k-preserved c = (elim c.if-due.branch [
  | then-due w ↦ rw (w.records-is, w.b-is) (visit-moves c.loop-k.invariant (omega arith) (due-yes _ _ (told c.due.ensures w.if-due.true)) w.end_auction.ensures)
  | else-due w ↦ rw (w.records-is, w.b-is) (visit-stays c.loop-k.invariant (omega arith) (due-not _ _ (told c.due.ensures w.if-due.false)))
])

pub returns : goal.returns
unfolding on_clock with_clock
returns c = visit-all c.loop-k.invariant (omega arith)
