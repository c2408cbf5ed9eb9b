-- The table of fields.
use Rattle.std.specs.Prelude.{ℕ, ◌-◌, List, [], ◌∷◌, replicate}
use Rattle.events.specs.Fields.{none, layout}
use Rattle.events.specs.Kinds.{length_of}
use Rattle.events.specs.declared.Field.{Field}
use Rattle.events.specs.declared.Kind.{Kind}
use Rattle.events.specs.declared.Kind.TheVariants as K

-- "leg count (1) 2–6"
abbrev pub count : Field
count = (1, 2, 6, 0)

-- "series (1) 0–31"
abbrev pub series : Field
series = (1, 0, 31, 0)

-- "Side is 0 buy, 1 sell."
abbrev pub side : Field
side = (1, 0, 1, 0)

-- "ratio (1) 1–12"
abbrev pub ratio : Field
ratio = (1, 1, 12, 0)

-- "member (2) from 1"
abbrev pub member : Field
member = (2, 1, 65535, 0)

-- "strategy (1) 0–15"
abbrev pub strategy : Field
strategy = (1, 0, 15, 0)

-- "class (1): 1 customer, 2 broker-dealer, 3 market maker"
abbrev pub class : Field
class = (1, 1, 3, 0)

-- "life (1): 0 day, 1 immediate, 2 response, 3 do-not-auction"
abbrev pub life : Field
life = (1, 0, 3, 0)

-- "units (2) 1–9,999"
abbrev pub units : Field
units = (2, 1, 9999, 0)

-- "limit (4, signed) −9,999,999 to 9,999,999", as its level
abbrev pub limit : Field
limit = (4, 1, 19999999, 10000000)

-- "units 0–9,999"
abbrev pub sweep_units : Field
sweep_units = (2, 0, 9999, 0)

-- "contracts (2) 1–9,999"
abbrev pub contracts : Field
contracts = (2, 1, 9999, 0)

-- "price (4) 1–99,999"
abbrev pub price : Field
price = (4, 1, 99999, 0)

-- "order number (4) 1–100,000"
abbrev pub number : Field
number = (4, 1, 100000, 0)

-- "state (1) 0 shut or halted, 1 open"
abbrev pub state : Field
state = (1, 0, 1, 0)

-- "milliseconds (4) 0–86,400,000"
abbrev pub time : Field
time = (4, 0, 86400000, 0)

-- "next day's timer (2) 1–5,000 ms"
abbrev pub timer : Field
timer = (2, 1, 5000, 0)

-- "national bid (4) and offer (4), each 0–99,999, 0 meaning missing"
abbrev pub national_price : Field
national_price = (4, 0, 99999, 0)

-- "the range in cents (2), 0–9,999"
abbrev pub range : Field
range = (2, 0, 9999, 0)

-- "a percentage (1) 0–100"
abbrev pub percentage : Field
percentage = (1, 0, 100, 0)

-- "per leg series (1) 0–31, side (1), ratio (1) 1–12"
abbrev pub leg : List Field → List Field
leg fs = series ∷ side ∷ ratio ∷ fs

-- "then the fields": those of each kind, 19 with the empty ones
abbrev pub fields_of : Kind → List Field
-- "1 strategy: leg count (1) 2–6; per leg series (1) 0–31, side (1), ratio (1) 1–12."
fields_of K.Strategy = count ∷ leg (leg (leg (leg (leg (leg [])))))
-- "2 complex order: member (2) from 1, strategy (1) 0–15, side (1), class (1): .. life (1): .. units (2) 1–9,999; limit (4, signed) .."
fields_of K.Order = member ∷ strategy ∷ side ∷ class ∷ life ∷ units ∷ limit ∷ replicate 12 none
-- "3 sweep: member, strategy, side, units 0–9,999, limit, each as in 2"
fields_of K.Sweep = member ∷ strategy ∷ side ∷ sweep_units ∷ limit ∷ replicate 14 none
-- "4 leg order: member, series, side, contracts (2) 1–9,999, price (4) 1–99,999"
fields_of K.LegOrder = member ∷ series ∷ side ∷ contracts ∷ price ∷ replicate 14 none
-- "5 cancel: member, order number (4) 1–100,000"
fields_of K.Cancel = member ∷ number ∷ replicate 17 none
-- "6 series: series, state (1) 0 shut or halted, 1 open"
fields_of K.Series = series ∷ state ∷ replicate 17 none
-- "7 clock: milliseconds (4) 0–86,400,000"
fields_of K.Clock = time ∷ replicate 18 none
-- "8 day end: next day's timer (2) 1–5,000 ms"
fields_of K.DayEnd = timer ∷ replicate 18 none
-- "Kind 9 carries series, national bid (4) and offer (4), each 0–99,999, 0 meaning missing; length 13."
fields_of K.National = series ∷ national_price ∷ national_price ∷ replicate 16 none
-- "Kind 10 carries the range in cents (2), 0–9,999; length 6"
fields_of K.Range = range ∷ replicate 18 none
-- "Kind 11 names a member (2) and a strategy (1), both as in kind 2, and a percentage (1) 0–100; length 8."
fields_of K.Specialist = member ∷ strategy ∷ percentage ∷ replicate 16 none
fields_of K.Unknown = replicate 19 none

-- the fields of a frame of a kind whose first field is n: of its table those that the bytes past the fourth can hold, one byte each at least.
-- So a strategy has its count and three for each leg (Laws.strategy-fields), another kind all of its table (Laws.fixed-fields)
unfoldable pub layout_of : Kind → ℕ → ℕ → Field
layout_of k n = layout (fields_of k) (length_of k n - 4)
