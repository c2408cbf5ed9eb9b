pub mod DayEnds
