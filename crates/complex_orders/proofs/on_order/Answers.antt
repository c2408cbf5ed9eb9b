use mathlib.Core.Path.{refl, sym, ◌∙◌}
use Rattle.ranges.specs.Fit.{fit-legs}
use Rattle.entries.specs.Entered.{entered-is, fit-enter}
use Rattle.records.specs.Done.{done-of, done-still, room_of}
use Rattle.complex_orders.specs.ComplexOrders.{does, order_is, slot-within, answers-is, nets-are}
use Rattle.complex_orders.proofs.on_order.Goals as goal

pub bounds-b-k : goal.bounds-b-k
bounds-b-k c = c.requires.b_bound.1.strategy

pub arrives-requires : goal.arrives-requires
arrives-requires c = (c.requires.b_bound.4.orders, c.requires.b_bound.4.priced, fit-legs c.requires.b_bound.4.strategies _, nets-are _ _ c.requires.b_bound.4 c.requires.b_bound.1 c.requires.b_bound.3)

pub cancel_entry-requires : goal.cancel_entry-requires
unfolding does
cancel_entry-requires c = record { i_lt_table_rows = slot-within _ _ c.insert-i.ensures.0 c.insert-i.ensures.1 c.requires.b_bound.0; room = room_of (order_is _ _ c.insert-i.ensures.0 c.insert-i.ensures.1 c.requires.b_bound.0 (sym c.in-Cancelled.is ∙ c.arrives.ensures)) c.requires.room }

pub begin-requires : goal.begin-requires
unfolding does
begin-requires c = record { i_lt_table_rows = (slot-within _ _ c.insert-i.ensures.0 c.insert-i.ensures.1 c.requires.b_bound.0, fit-enter _ _ (entered-is _ _ c.insert-i.ensures.0) c.requires.b_bound.1 c.requires.b_bound.3 c.requires.b_bound.4); room = room_of (order_is _ _ c.insert-i.ensures.0 c.insert-i.ensures.1 c.requires.b_bound.0 (sym c.in-Starts.is ∙ c.arrives.ensures)) c.requires.room }

pub returns-in-Starts : goal.returns-in-Starts
unfolding does
returns-in-Starts c = done-of (order_is _ _ c.insert-i.ensures.0 c.insert-i.ensures.1 c.requires.b_bound.0 (sym c.in-Starts.is ∙ c.arrives.ensures)) c.begin.ensures

pub trades-requires : goal.trades-requires
unfolding does
trades-requires c = record { i_lt_table_rows = (slot-within _ _ c.insert-i.ensures.0 c.insert-i.ensures.1 c.requires.b_bound.0, fit-enter _ _ (entered-is _ _ c.insert-i.ensures.0) c.requires.b_bound.1 c.requires.b_bound.3 c.requires.b_bound.4); room = room_of (order_is _ _ c.insert-i.ensures.0 c.insert-i.ensures.1 c.requires.b_bound.0 (sym c.in-Passes.is ∙ c.arrives.ensures)) c.requires.room }

pub returns-in-Passes : goal.returns-in-Passes
unfolding does
returns-in-Passes c = done-of (order_is _ _ c.insert-i.ensures.0 c.insert-i.ensures.1 c.requires.b_bound.0 (sym c.in-Passes.is ∙ c.arrives.ensures)) c.trades.ensures

pub returns-in-Rests : goal.returns-in-Rests
unfolding does
returns-in-Rests c = done-of (order_is _ _ c.insert-i.ensures.0 c.insert-i.ensures.1 c.requires.b_bound.0 (sym c.in-Rests.is ∙ c.arrives.ensures)) (done-still _ _)

pub returns-in-Cancelled : goal.returns-in-Cancelled
unfolding does
returns-in-Cancelled c = done-of (order_is _ _ c.insert-i.ensures.0 c.insert-i.ensures.1 c.requires.b_bound.0 (sym c.in-Cancelled.is ∙ c.arrives.ensures)) c.cancel_entry.ensures

pub returns-in-Answers : goal.returns-in-Answers
returns-in-Answers c = done-of (order_is _ _ c.insert-i.ensures.0 c.insert-i.ensures.1 c.requires.b_bound.0 (sym c.in-Answers.is ∙ c.arrives.ensures) ∙ answers-is _ _ c.insert-i.ensures.0 c.insert-i.ensures.1 c.requires.b_bound.0 refl) (done-still _ _)
