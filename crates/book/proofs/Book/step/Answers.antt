-- proofs/Book/step/Answers.antt
use Rattle.book.specs.Outcomes.{stepped-short, stepped-exit, stepped, event-fits}
use Rattle.book.proofs.Book.step.Goals.{in-Strategy, in-Order, in-Sweep, in-LegOrder, in-Cancel, in-Series, in-Clock, in-DayEnd, in-National, in-Range, in-Specialist}
use Rattle.book.proofs.Book.step.Goals as goal

pub returns-then-space-lt-RECORD_SPACE : goal.returns-then-space-lt-RECORD_SPACE
returns-then-space-lt-RECORD_SPACE c = stepped-short _ _ _ c.if-space-lt-RECORD_SPACE.true

pub returns-in_err-e : goal.returns-in_err-e
returns-in_err-e c = stepped-exit _ _ _ c.if-space-lt-RECORD_SPACE.false _ c.from_residual.ensures.1 c.in_err-e.ensures

pub strategy-requires : goal.strategy-requires
strategy-requires c = event-fits c.args.frame.now c.in_ok-e.ensures c.in-Strategy.is

pub order-requires : goal.order-requires
order-requires c = (event-fits c.args.frame.now c.in_ok-e.ensures c.in-Order.is, c.if-space-lt-RECORD_SPACE.false)

pub sweep-requires : goal.sweep-requires
sweep-requires c = (event-fits c.args.frame.now c.in_ok-e.ensures c.in-Sweep.is, c.if-space-lt-RECORD_SPACE.false)

pub leg_order-requires : goal.leg_order-requires
leg_order-requires c = (event-fits c.args.frame.now c.in_ok-e.ensures c.in-LegOrder.is, c.if-space-lt-RECORD_SPACE.false)

pub cancel-requires : goal.cancel-requires
cancel-requires c = (event-fits c.args.frame.now c.in_ok-e.ensures c.in-Cancel.is, c.if-space-lt-RECORD_SPACE.false)

pub series-requires : goal.series-requires
series-requires c = (event-fits c.args.frame.now c.in_ok-e.ensures c.in-Series.is, c.if-space-lt-RECORD_SPACE.false)

pub clock-requires : goal.clock-requires
clock-requires c = (event-fits c.args.frame.now c.in_ok-e.ensures c.in-Clock.is, c.if-space-lt-RECORD_SPACE.false)

pub day_end-requires : goal.day_end-requires
day_end-requires c = (event-fits c.args.frame.now c.in_ok-e.ensures c.in-DayEnd.is, c.if-space-lt-RECORD_SPACE.false)

pub national-requires : goal.national-requires
national-requires c = event-fits c.args.frame.now c.in_ok-e.ensures c.in-National.is

pub range-requires : goal.range-requires
range-requires c = event-fits c.args.frame.now c.in_ok-e.ensures c.in-Range.is

pub specialist-requires : goal.specialist-requires
specialist-requires c = event-fits c.args.frame.now c.in_ok-e.ensures c.in-Specialist.is

pub returns : goal.returns
returns c =
    elim c.match-branch-2.branch [
      | in-Strategy w ↦ rw (w.space-is, w.answer-is) (stepped _ c.in_ok-e.ensures w.in-Strategy.is _ _ (w.strategy.ensures c.args.space.now c.if-space-lt-RECORD_SPACE.false))
      | in-Order w ↦ rw (w.space-is, w.answer-is) (stepped _ c.in_ok-e.ensures w.in-Order.is _ _ w.order.ensures)
      | in-Sweep w ↦ rw (w.space-is, w.answer-is) (stepped _ c.in_ok-e.ensures w.in-Sweep.is _ _ w.sweep.ensures)
      | in-LegOrder w ↦ rw (w.space-is, w.answer-is) (stepped _ c.in_ok-e.ensures w.in-LegOrder.is _ _ w.leg_order.ensures)
      | in-Cancel w ↦ rw (w.space-is, w.answer-is) (stepped _ c.in_ok-e.ensures w.in-Cancel.is _ _ w.cancel.ensures)
      | in-Series w ↦ rw (w.space-is, w.answer-is) (stepped _ c.in_ok-e.ensures w.in-Series.is _ _ w.series.ensures)
      | in-Clock w ↦ rw (w.space-is, w.answer-is) (stepped _ c.in_ok-e.ensures w.in-Clock.is _ _ w.clock.ensures)
      | in-DayEnd w ↦ rw (w.space-is, w.answer-is) (stepped _ c.in_ok-e.ensures w.in-DayEnd.is _ _ w.day_end.ensures)
      | in-National w ↦ rw (w.space-is, w.answer-is) (stepped _ c.in_ok-e.ensures w.in-National.is _ _ (w.national.ensures c.args.space.now c.if-space-lt-RECORD_SPACE.false))
      | in-Range w ↦ rw (w.space-is, w.answer-is) (stepped _ c.in_ok-e.ensures w.in-Range.is _ _ (w.range.ensures c.args.space.now c.if-space-lt-RECORD_SPACE.false))
      | in-Specialist w ↦ rw (w.space-is, w.answer-is) (stepped _ c.in_ok-e.ensures w.in-Specialist.is _ _ (w.specialist.ensures c.args.space.now c.if-space-lt-RECORD_SPACE.false))
    ]
