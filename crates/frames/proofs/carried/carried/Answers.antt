use Rattle.std.proofs.Common.{◌∙◌}
use Rattle.frames.specs.Carried.{whole-fixed, carried-as}
use Rattle.frames.proofs.carried.carried.Goals as goal

pub order_in-requires : goal.order_in-requires
order_in-requires c = whole-fixed c.in-Order.is c.requires

pub sweep_in-requires : goal.sweep_in-requires
sweep_in-requires c = whole-fixed c.in-Sweep.is c.requires

pub leg_order_in-requires : goal.leg_order_in-requires
leg_order_in-requires c = whole-fixed c.in-LegOrder.is c.requires

pub cancel_in-requires : goal.cancel_in-requires
cancel_in-requires c = whole-fixed c.in-Cancel.is c.requires

pub series_in-requires : goal.series_in-requires
series_in-requires c = whole-fixed c.in-Series.is c.requires

pub clock_in-requires : goal.clock_in-requires
clock_in-requires c = whole-fixed c.in-Clock.is c.requires

pub day_end_in-requires : goal.day_end_in-requires
day_end_in-requires c = whole-fixed c.in-DayEnd.is c.requires

pub national_in-requires : goal.national_in-requires
national_in-requires c = whole-fixed c.in-National.is c.requires

pub range_in-requires : goal.range_in-requires
range_in-requires c = whole-fixed c.in-Range.is c.requires

pub specialist_in-requires : goal.specialist_in-requires
specialist_in-requires c = whole-fixed c.in-Specialist.is c.requires

pub returns-in-Order : goal.returns-in-Order
returns-in-Order c = c.order_in.ensures ∙ carried-as _ c.in-Order.is

pub returns-in-Sweep : goal.returns-in-Sweep
returns-in-Sweep c = c.sweep_in.ensures ∙ carried-as _ c.in-Sweep.is

pub returns-in-LegOrder : goal.returns-in-LegOrder
returns-in-LegOrder c = c.leg_order_in.ensures ∙ carried-as _ c.in-LegOrder.is

pub returns-in-Cancel : goal.returns-in-Cancel
returns-in-Cancel c = c.cancel_in.ensures ∙ carried-as _ c.in-Cancel.is

pub returns-in-Series : goal.returns-in-Series
returns-in-Series c = c.series_in.ensures ∙ carried-as _ c.in-Series.is

pub returns-in-Clock : goal.returns-in-Clock
returns-in-Clock c = c.clock_in.ensures ∙ carried-as _ c.in-Clock.is

pub returns-in-DayEnd : goal.returns-in-DayEnd
returns-in-DayEnd c = c.day_end_in.ensures ∙ carried-as _ c.in-DayEnd.is

pub returns-in-National : goal.returns-in-National
returns-in-National c = c.national_in.ensures ∙ carried-as _ c.in-National.is

pub returns-in-Range : goal.returns-in-Range
returns-in-Range c = c.range_in.ensures ∙ carried-as _ c.in-Range.is

pub returns-in-Specialist : goal.returns-in-Specialist
returns-in-Specialist c = c.specialist_in.ensures ∙ carried-as _ c.in-Specialist.is

pub returns-in-Unknown : goal.returns-in-Unknown
returns-in-Unknown c = carried-as _ c.in-Unknown.is
