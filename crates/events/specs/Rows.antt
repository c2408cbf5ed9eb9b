-- Events as rows of 19 numbers.
use Rattle.std.specs.Prelude.{ℕ, ◌+◌, Bool, List, [], ◌∷◌, replicate, slice_index, Result, Ok, Err}
use Rattle.events.specs.Fields.{fit_n}
use Rattle.events.specs.Kinds.{length_of}
use Rattle.events.specs.Refusals.{refusal_number}
use Rattle.events.specs.Table.{layout_of}
use Rattle.events.specs.declared.Refusal.{Refusal}
use Rattle.events.specs.declared.Refusal.TheVariants as F
use Rattle.events.specs.declared.Field.{Field}
use Rattle.events.specs.declared.Kind.{Kind}
use Rattle.events.specs.declared.Kind.TheVariants as K
use Rattle.events.specs.declared.Leg.{Leg}
use Rattle.events.specs.declared.Event.{Event}
use Rattle.events.specs.declared.Event.TheVariants as E

-- the kind of an event
abbrev pub kind_in : Event → Kind
kind_in (E.Strategy e) = K.Strategy
kind_in (E.Order e) = K.Order
kind_in (E.Sweep e) = K.Sweep
kind_in (E.LegOrder e) = K.LegOrder
kind_in (E.Cancel e) = K.Cancel
kind_in (E.Series e) = K.Series
kind_in (E.Clock e) = K.Clock
kind_in (E.DayEnd e) = K.DayEnd
kind_in (E.National e) = K.National
kind_in (E.Range e) = K.Range
kind_in (E.Specialist e) = K.Specialist

-- the three numbers of a leg: "series (1) 0–31, side (1), ratio (1) 1–12"
abbrev leg_row : Leg → List ℕ → List ℕ
leg_row l rest = l.series ∷ l.side ∷ l.ratio ∷ rest

-- the event's values in the order of its fields, and zeros up to 19
abbrev pub row_of : Event → List ℕ
row_of (E.Strategy e) = e.count ∷ leg_row e.legs.0 (leg_row e.legs.1 (leg_row e.legs.2 (leg_row e.legs.3 (leg_row e.legs.4 (leg_row e.legs.5 [])))))
row_of (E.Order e) = e.member ∷ e.strategy ∷ e.side ∷ e.class ∷ e.life ∷ e.units ∷ e.level ∷ replicate 12 0
row_of (E.Sweep e) = e.member ∷ e.strategy ∷ e.side ∷ e.units ∷ e.level ∷ replicate 14 0
row_of (E.LegOrder e) = e.member ∷ e.series ∷ e.side ∷ e.contracts ∷ e.price ∷ replicate 14 0
row_of (E.Cancel e) = e.member ∷ e.number ∷ replicate 17 0
row_of (E.Series e) = e.series ∷ e.state ∷ replicate 17 0
row_of (E.Clock e) = e.time ∷ replicate 18 0
row_of (E.DayEnd e) = e.timer ∷ replicate 18 0
row_of (E.National e) = e.series ∷ e.bid ∷ e.offer ∷ replicate 16 0
row_of (E.Range e) = e.range ∷ replicate 18 0
row_of (E.Specialist e) = e.member ∷ e.strategy ∷ e.percentage ∷ replicate 16 0

-- the leg whose numbers begin at place i
abbrev pub leg_from : List ℕ → ℕ → Leg
leg_from v i = record { series = slice_index v i; side = slice_index v (i + 1); ratio = slice_index v (i + 2) }

-- the event of a kind with these values; "unknown kind" is refused 2
abbrev pub event_of : Kind → List ℕ → Result Event Refusal
event_of K.Strategy v = Ok (E.Strategy (record { count = slice_index v 0; legs = (leg_from v 1, leg_from v 4, leg_from v 7, leg_from v 10, leg_from v 13, leg_from v 16) }))
event_of K.Order v = Ok (E.Order (record { member = slice_index v 0; strategy = slice_index v 1; side = slice_index v 2; class = slice_index v 3; life = slice_index v 4; units = slice_index v 5; level = slice_index v 6 }))
event_of K.Sweep v = Ok (E.Sweep (record { member = slice_index v 0; strategy = slice_index v 1; side = slice_index v 2; units = slice_index v 3; level = slice_index v 4 }))
event_of K.LegOrder v = Ok (E.LegOrder (record { member = slice_index v 0; series = slice_index v 1; side = slice_index v 2; contracts = slice_index v 3; price = slice_index v 4 }))
event_of K.Cancel v = Ok (E.Cancel (record { member = slice_index v 0; number = slice_index v 1 }))
event_of K.Series v = Ok (E.Series (record { series = slice_index v 0; state = slice_index v 1 }))
event_of K.Clock v = Ok (E.Clock (record { time = slice_index v 0 }))
event_of K.DayEnd v = Ok (E.DayEnd (record { timer = slice_index v 0 }))
event_of K.National v = Ok (E.National (record { series = slice_index v 0; bid = slice_index v 1; offer = slice_index v 2 }))
event_of K.Range v = Ok (E.Range (record { range = slice_index v 0 }))
event_of K.Specialist v = Ok (E.Specialist (record { member = slice_index v 0; strategy = slice_index v 1; percentage = slice_index v 2 }))
event_of K.Unknown v = Err F.BadFrame

-- what a kind gives, or the refusal of an unknown one
abbrev pub of_kind : Result Kind Refusal → (Kind → Result Event Refusal) → Result Event Refusal
of_kind (Ok k) g = g k
of_kind (Err r) g = Err r

-- the fields of an event's frame
unfoldable pub layout_in : Event → ℕ → Field
layout_in e = layout_of (kind_in e) (slice_index (row_of e) 0)

-- "it checks 3": whether each value is in its field's range, and "legs past its count hold zeros, else it is refused 3"
unfoldable pub fitting : Event → Bool
fitting e = fit_n (layout_in e) (row_of e) 19

-- "the frame's length"
unfoldable pub length_in : Event → ℕ
length_in e = length_of (kind_in e) (slice_index (row_of e) 0)

-- "Answer 0 is accepted", else the refusal's number
abbrev pub reading_number : Result Event Refusal → ℕ
reading_number (Ok e) = 0
reading_number (Err r) = refusal_number r
