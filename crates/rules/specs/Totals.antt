-- "The totals after a list": what is summed, from events, answers and records alone, and what is claimed of it.
use Rattle.std.specs.Prelude.{◌≡◌, Bool, true, false, ℕ, zero, suc, ◌+◌, ◌*◌, ◌/◌, ◌≤◌, ◌<◌, eqb, leb, get_or, ℤ, pos, neg_ℤ, ◌+ℤ◌, ◌-ℤ◌, ◌*ℤ◌, ◌≤ℤ◌, ◌<ℤ◌, Result, Ok, Err}
use mathlib.Core.List.{List, [], ◌∷◌, ◌++◌, map, Memᴰ}
use Rattle.base.specs.Pick.{pick}
use Rattle.base.specs.Walks.{sum_n}
use Rattle.events.specs.declared.Refusal.{Refusal}
use Rattle.events.specs.declared.Event.{Event}
use Rattle.events.specs.declared.Event.TheVariants as E
use Rattle.events.specs.declared.Strategy.{Strategy as GivenStrategy}
use Rattle.events.specs.declared.Sweep.{Sweep as GivenSweep}
use Rattle.events.specs.declared.LegOrder.{LegOrder as GivenLegOrder}
use Rattle.frames.specs.Frames.{read_of}
use Rattle.rules.specs.declared.Leg.{Leg}
use Rattle.rules.specs.declared.Quote.{Quote}
use Rattle.rules.specs.declared.Specialist.{Specialist}
use Rattle.rules.specs.declared.State.{State}
use Rattle.rules.specs.State.{no_leg, no_quote}
use Rattle.rules.specs.Sides.{other}
use Rattle.rules.specs.Strategies.{series_of, ratio_of, divisor}
use Rattle.rules.specs.Given.{legs_given}
use Rattle.rules.specs.Step.{Outcome, step}
use Rattle.rules.specs.Records.{Line, line_of, cents}
use Rattle.rules.specs.Lookups.{live_quantity}

-- "An event of the list is a frame of any bytes, with a record space of any length."
pub record Sent : Type 0 where
  pub frame : List ℕ
  pub space : ℕ

-- what came of it: the event, if the frame carries one, the answer and value, and the records as they are read at the answer
pub record Logged : Type 0 where
  pub reading : Result Event Refusal
  pub answer : ℕ
  pub value : ℕ
  pub lines : List Line

-- each event meets the book that the one before left: the run is the fold of `step`
unfoldable pub outcome : State → Sent → Outcome
outcome b x = step b x.frame x.space

-- the book that the list leaves
unfoldable pub after : State → List Sent → State
after b [] = b
after b (x ∷ xs) = after (outcome b x).moved.state xs

-- what is logged of one event
abbrev pub log_of : Sent → Outcome → Logged
log_of x o = record { reading = read_of x.frame; answer = o.answer; value = o.value; lines = map line_of o.moved.records }

-- what is logged of the list
unfoldable pub run : State → List Sent → List Logged
run b [] = []
run b (x ∷ xs) = log_of x (outcome b x) ∷ run (outcome b x).moved.state xs

-- "The list's records are those its accepted events wrote": a refused event has none
unfoldable pub lines_of : List Logged → List Line
lines_of [] = []
lines_of (x ∷ xs) = x.lines ++ lines_of xs

-- sums over records
unfoldable pub total : (Line → ℕ) → List Line → ℕ
total w [] = 0
total w (l ∷ ls) = w l + total w ls

-- q where the two are equal
abbrev pub if_same : ℕ → ℕ → ℕ → ℕ
if_same x y q = pick (eqb x y) q 0

-- "Filled sums the quantities of its records 1, for a leg order of its records 2; cancelled, of its records 3."
abbrev pub of_kind : ℕ → ℕ → Line → ℕ
of_kind kind n l = if_same l.kind kind (if_same l.number n l.quantity)

-- records 1
unfoldable pub whole_filled : ℕ → List Line → ℕ
whole_filled n ls = total (of_kind 1 n) ls

-- records 2
unfoldable pub leg_filled : ℕ → List Line → ℕ
leg_filled n ls = total (of_kind 2 n) ls

-- records 3
unfoldable pub cancelled : ℕ → List Line → ℕ
cancelled n ls = total (of_kind 3 n) ls

-- "Contracts filled on a leg sum its records 2 in that series."
abbrev pub on_leg : ℕ → ℕ → Line → ℕ
on_leg n s l = if_same l.place s (of_kind 2 n l)

-- .. over all records
unfoldable pub contracts_on : ℕ → ℕ → List Line → ℕ
contracts_on n s ls = total (on_leg n s) ls

-- "Bought sums a series' records 2 of side 0, sold those of side 1."
abbrev pub traded_in : ℕ → ℕ → Line → ℕ
traded_in s side l = if_same l.kind 2 (if_same l.place s (if_same l.side side l.quantity))

-- side 0
unfoldable pub bought : ℕ → List Line → ℕ
bought s ls = total (traded_in s 0) ls

-- side 1
unfoldable pub sold : ℕ → List Line → ℕ
sold s ls = total (traded_in s 1) ls

-- "An order or sweep enters by an accepted event of kind 2, 3 or 4 whose value isn't 0. That value is its number; the event's units or
-- contracts are what it entered." Beside these its side and its limit, a leg order's price.
pub record Terms : Type 0 where
  pub number : ℕ
  pub quantity : ℕ
  pub side : ℕ
  pub limit : ℤ

-- what an event brought in: a complex order or sweep with its strategy, a leg order, or nothing
pub data Brought : Type 0 where
  complex : Terms → ℕ → Brought
  leg : Terms → Brought
  nothing : Brought

-- by its kind, under the number n
unfoldable pub enters : Event → ℕ → Brought
enters (E.Strategy e) n = nothing
enters (E.Order e) n = complex (record { number = n; quantity = e.units; side = e.side; limit = cents e.level }) e.strategy
enters (E.Sweep e) n = complex (record { number = n; quantity = e.units; side = e.side; limit = cents e.level }) e.strategy
enters (E.LegOrder e) n = leg (record { number = n; quantity = e.contracts; side = e.side; limit = pos e.price })
enters (E.Cancel e) n = nothing
enters (E.Series e) n = nothing
enters (E.Clock e) n = nothing
enters (E.DayEnd e) n = nothing
enters (E.National e) n = nothing
enters (E.Range e) n = nothing
enters (E.Specialist e) n = nothing

-- "whose value isn't 0"
unfoldable pub enters_read : Result Event Refusal → ℕ → Brought
enters_read (Err r) v = nothing
enters_read (Ok e) v = pick (eqb v 0) nothing (enters e v)

-- "an accepted event"
unfoldable pub brought : Logged → Brought
brought x = pick (eqb x.answer 0) (enters_read x.reading x.value) nothing

-- the list brought it in
abbrev pub Came : Brought → List Logged → Type 0
Came w log = Memᴰ w (map brought log)

-- the number came in with no event of the list
pub record Unknown (n : ℕ) (log : List Logged) : Type 0 where
  pub complex : (w : Terms) (k : ℕ) → w.number ≡ n → Came (complex w k) log → ⊥
  pub leg : (w : Terms) → w.number ≡ n → Came (leg w) log → ⊥

-- records 1 to 3 of a number
abbrev pub mentions : ℕ → Line → ℕ
mentions n l = if_same l.number n (pick (leb l.kind 3) 1 0)

-- "The ratio is that of the accepted kind 1 event that answered its strategy, divided as above; a series outside the strategy counts as a
-- leg of ratio 0."
abbrev pub ratio_at : List Leg → ℕ → ℕ → ℕ → ℕ
ratio_at legs d s i = if_same (series_of legs i) s (ratio_of legs i / d)

-- .. over the count legs
unfoldable pub ratio_in : GivenStrategy → ℕ → ℕ
ratio_in e s = sum_n (ratio_at (legs_given e) (divisor (legs_given e) e.count) s) e.count

-- the accepted kind 1 event e of the list answered strategy k
pub record Answered (e : GivenStrategy) (k : ℕ) (log : List Logged) : Type 0 where
  pub entry : Logged
  pub sent : Memᴰ entry log
  pub reading : entry.reading ≡ Ok (E.Strategy e)
  pub answer : entry.answer ≡ 0
  pub value : entry.value ≡ k

pub record Defined (k : ℕ) (log : List Logged) : Type 0 where
  pub event : GivenStrategy
  pub answered : Answered event k log

-- "worse than the limit (a leg order's price) if its price is above it for a buy, below it for a sell": not so
pub record NotWorse (w : Terms) (l : Line) : Type 0 where
  pub buy : w.side ≡ 0 → l.price ≤ℤ w.limit
  pub sell : w.side ≡ 1 → w.limit ≤ℤ l.price

-- what came in is the leg order of that number
abbrev pub is_leg : ℕ → Brought → Bool
is_leg n (complex w k) = false
is_leg n (leg w) = eqb w.number n
is_leg n nothing = false

-- the number came in as a leg order
unfoldable pub is_leg_number : List Logged → ℕ → Bool
is_leg_number [] n = false
is_leg_number (x ∷ xs) n = pick (is_leg n (brought x)) true (is_leg_number xs n)

-- "A fill is a record 1, or a leg order's record 2"
unfoldable pub is_fill : List Logged → Line → Bool
is_fill log l = pick (eqb l.kind 1) true (pick (eqb l.kind 2) (is_leg_number log l.number) false)

-- "Cash paid sums quantity × price over the fills of side 0, received over those of side 1."
abbrev pub cash_of : List Logged → ℕ → Line → ℤ
cash_of log side l = pick (is_fill log l) (pick (eqb l.side side) (pos l.quantity *ℤ l.price) (pos 0)) (pos 0)

-- .. over all records
unfoldable pub cash : List Logged → ℕ → List Line → ℤ
cash log side [] = pos 0
cash log side (l ∷ ls) = cash_of log side l +ℤ cash log side ls

-- an accepted day end
unfoldable pub is_day_end : Result Event Refusal → Bool
is_day_end (Err r) = false
is_day_end (Ok (E.Strategy e)) = false
is_day_end (Ok (E.Order e)) = false
is_day_end (Ok (E.Sweep e)) = false
is_day_end (Ok (E.LegOrder e)) = false
is_day_end (Ok (E.Cancel e)) = false
is_day_end (Ok (E.Series e)) = false
is_day_end (Ok (E.Clock e)) = false
is_day_end (Ok (E.DayEnd e)) = true
is_day_end (Ok (E.National e)) = false
is_day_end (Ok (E.Range e)) = false
is_day_end (Ok (E.Specialist e)) = false

-- accepted, and a day end
unfoldable pub ends_day : Logged → Bool
ends_day x = pick (eqb x.answer 0) (is_day_end x.reading) false

-- in the words of demand 3, "with nothing after an accepted day end": it may be the last
abbrev pub OneDay : List Logged → Type 0
OneDay [] = Unit {0}
OneDay (x ∷ []) = Unit {0}
OneDay (x ∷ (y ∷ ys)) = (ends_day x ≡ false) × OneDay (y ∷ ys)

-- 2026-01, from the log alone: "prices known when it was made". What an accepted event says of the national prices of series s, which were q: kind 9
-- sets those of its series, a day end leaves a fresh book.
unfoldable pub quote_after : Result Event Refusal → ℕ → Quote → Quote
quote_after (Err c) s q = q
quote_after (Ok (E.Strategy e)) s q = q
quote_after (Ok (E.Order e)) s q = q
quote_after (Ok (E.Sweep e)) s q = q
quote_after (Ok (E.LegOrder e)) s q = q
quote_after (Ok (E.Cancel e)) s q = q
quote_after (Ok (E.Series e)) s q = q
quote_after (Ok (E.Clock e)) s q = q
quote_after (Ok (E.DayEnd e)) s q = no_quote
quote_after (Ok (E.National e)) s q = pick (eqb e.series s) (record { bid = e.bid; offer = e.offer }) q
quote_after (Ok (E.Range e)) s q = q
quote_after (Ok (E.Specialist e)) s q = q

-- .. and of the execution range, which was r
unfoldable pub range_after : Result Event Refusal → ℕ → ℕ
range_after (Err c) r = r
range_after (Ok (E.Strategy e)) r = r
range_after (Ok (E.Order e)) r = r
range_after (Ok (E.Sweep e)) r = r
range_after (Ok (E.LegOrder e)) r = r
range_after (Ok (E.Cancel e)) r = r
range_after (Ok (E.Series e)) r = r
range_after (Ok (E.Clock e)) r = r
range_after (Ok (E.DayEnd e)) r = 9999
range_after (Ok (E.National e)) r = r
range_after (Ok (E.Range e)) r = e.range
range_after (Ok (E.Specialist e)) r = r

-- the national prices of series s after a list of events, which were q before it: those of the last accepted kind 9 of that series
unfoldable pub quoted : Quote → List Logged → ℕ → Quote
quoted q [] s = q
quoted q (x ∷ xs) s = quoted (pick (eqb x.answer 0) (quote_after x.reading s q) q) xs s

-- the range after it: that of the last accepted kind 10
unfoldable pub range_said : ℕ → List Logged → ℕ
range_said r [] = r
range_said r (x ∷ xs) = range_said (pick (eqb x.answer 0) (range_after x.reading r) r) xs

-- 2026-04, from the log alone: what an accepted event says of the specialist of strategy k, which was s. "It sets the strategy's specialist until
-- day end"
unfoldable pub specialist_after : Result Event Refusal → ℕ → Specialist → Specialist
specialist_after (Err c) k s = s
specialist_after (Ok (E.Strategy e)) k s = s
specialist_after (Ok (E.Order e)) k s = s
specialist_after (Ok (E.Sweep e)) k s = s
specialist_after (Ok (E.LegOrder e)) k s = s
specialist_after (Ok (E.Cancel e)) k s = s
specialist_after (Ok (E.Series e)) k s = s
specialist_after (Ok (E.Clock e)) k s = s
specialist_after (Ok (E.DayEnd e)) k s = record { member = 0; percentage = 0 }
specialist_after (Ok (E.National e)) k s = s
specialist_after (Ok (E.Range e)) k s = s
specialist_after (Ok (E.Specialist e)) k s = pick (eqb e.strategy k) (record { member = e.member; percentage = e.percentage }) s

-- "the last one named holds": the specialist of strategy k after a list of events, which was s before it
unfoldable pub named_last : Specialist → List Logged → ℕ → Specialist
named_last s [] k = s
named_last s (x ∷ xs) k = named_last (pick (eqb x.answer 0) (specialist_after x.reading k s) s) xs k

-- "ratio × price" of the leg at place i of the strategy that event e defined, at these prices by leg: its ratio "divided as above", added for a buy
-- leg and taken off for a sell leg
unfoldable pub leg_term : GivenStrategy → (ℕ → ℕ) → ℕ → ℤ
leg_term e price i =
    let q : ℕ = ratio_of (legs_given e) i / divisor (legs_given e) e.count * price i in
    pick (eqb (get_or (legs_given e) i no_leg).side 0) (pos q) (neg_ℤ (pos q))

-- "Net = sum of ratio × price over buy legs, less that over sell legs": over the first legs
unfoldable pub net_over : GivenStrategy → (ℕ → ℕ) → ℕ → ℤ
net_over e price zero = pos 0
net_over e price (suc i) = net_over e price i +ℤ leg_term e price i

-- "Offer net takes offers for buy legs, bids for sell legs; bid net the reverse": the national price of the leg at place i in the offer net (side 0)
-- and in the bid net (side 1), as the list has said it
unfoldable pub price_said : List Logged → GivenStrategy → ℕ → ℕ → ℕ
price_said log e side i =
    let l : Leg = get_or (legs_given e) i no_leg in
    pick (eqb l.side side) (quoted no_quote log l.series).offer (quoted no_quote log l.series).bid

-- that national net is known: no price of it is missing
abbrev pub NetSaid : List Logged → GivenStrategy → ℕ → Type 0
NetSaid log e side = (i : ℕ) → i < e.count → 0 < price_said log e side i

-- 2026-01: "The national nets are formed like our leg nets"
abbrev pub net_said : List Logged → GivenStrategy → ℕ → ℤ
net_said log e side = net_over e (price_said log e side) e.count

-- "No complex order or sweep that buys fills above the national offer net plus the range, and none that sells below the national bid net less it. A
-- missing national net bounds nothing": fill l of what came in as w, in the strategy that event e defined, after the events of the log; "a fresh
-- book has 9,999", and "misses all" prices
pub record WithinRange (log : List Logged) (e : GivenStrategy) (w : Terms) (l : Line) : Type 0 where
  pub buy : w.side ≡ 0 → NetSaid log e 0 → l.price ≤ℤ (net_said log e 0 +ℤ pos (range_said 9999 log))
  pub sell : w.side ≡ 1 → NetSaid log e 1 → (net_said log e 1 -ℤ pos (range_said 9999 log)) ≤ℤ l.price

-- a level at which a buy would be above the national offer net plus the range, by a cent or more: no price of the net is missing
pub record AboveRange (log : List Logged) (e : GivenStrategy) (level : ℕ) : Type 0 where
  pub said : NetSaid log e 0
  pub above : (net_said log e 0 +ℤ pos (range_said 9999 log + 1)) ≤ℤ cents level

-- .. a sell below the national bid net less the range
pub record BelowRange (log : List Logged) (e : GivenStrategy) (level : ℕ) : Type 0 where
  pub said : NetSaid log e 1
  pub below : cents level ≤ℤ (net_said log e 1 -ℤ pos (range_said 9999 log + 1))

-- 2026-03, from the log alone: the leg book that the events of the list left. A leg order of that series and side stands in it at that price: an
-- accepted kind 4 brought it in, and not all of it was filled (its records 2) or cancelled (its records 3)
pub record LegStands (log : List Logged) (s side price : ℕ) : Type 0 where
  pub entry : Logged
  pub sent : Memᴰ entry log
  pub order : GivenLegOrder
  pub reading : entry.reading ≡ Ok (E.LegOrder order)
  pub answer : entry.answer ≡ 0
  pub of_series : order.series ≡ s
  pub on_side : order.side ≡ side
  pub at_price : order.price ≡ price
  pub left : leg_filled entry.value (lines_of log) + cancelled entry.value (lines_of log) < order.contracts

-- the best price there: one stands at it, and none at a higher bid or a lower offer
pub record BestSaid (log : List Logged) (s side price : ℕ) : Type 0 where
  pub stands : LegStands log s side price
  pub bid : side ≡ 0 → (q : ℕ) → LegStands log s side q → q ≤ price
  pub offer : side ≡ 1 → (q : ℕ) → LegStands log s side q → price ≤ q

-- "Offer net takes offers for buy legs, bids for sell legs; bid net the reverse": these are the best prices, by leg, that the bid net takes of the
-- strategy that event e defined; none is missing
abbrev pub BidPrices : List Logged → GivenStrategy → (ℕ → ℕ) → Type 0
BidPrices log e price = (i : ℕ) → i < e.count → BestSaid log (get_or (legs_given e) i no_leg).series (get_or (legs_given e) i no_leg).side (price i)

-- .. that the offer net takes
abbrev pub OfferPrices : List Logged → GivenStrategy → (ℕ → ℕ) → Type 0
OfferPrices log e price = (i : ℕ) → i < e.count → BestSaid log (get_or (legs_given e) i no_leg).series (other (get_or (legs_given e) i no_leg).side) (price i)

-- 2026-03: "a sweep .. has to be above the bid net when it buys, below the offer net when it sells. Where that net is unknown, every price betters
-- it.": sweep s in the strategy that event e defined, after the events of the log. Where a price is missing, there are no such prices.
pub record Bettered (log : List Logged) (e : GivenStrategy) (s : GivenSweep) : Type 0 where
  pub buy : s.side ≡ 0 → (price : ℕ → ℕ) → BidPrices log e price → net_over e price e.count <ℤ cents s.level
  pub sell : s.side ≡ 1 → (price : ℕ → ℕ) → OfferPrices log e price → cents s.level <ℤ net_over e price e.count

-- "A sweep that betters nothing": that net is known, and the sweep buys at it or below, or sells at it or above
pub record NotBettered (log : List Logged) (e : GivenStrategy) (s : GivenSweep) : Type 0 where
  pub price : ℕ → ℕ
  pub buy : s.side ≡ 0 → BidPrices log e price × (cents s.level ≤ℤ net_over e price e.count)
  pub sell : s.side ≡ 1 → OfferPrices log e price × (net_over e price e.count ≤ℤ cents s.level)

-- event x brought in sweep s: "an accepted event of kind 2, 3 or 4 whose value isn't 0"
pub record SweepIn (x : Logged) (s : GivenSweep) : Type 0 where
  pub reading : x.reading ≡ Ok (E.Sweep s)
  pub answer : x.answer ≡ 0
  pub value : x.value ≡ 0 → ⊥

-- event x of the list, after those before it, is a sweep of 1 unit or more in a strategy that one of them defined, and it betters nothing
pub record NothingBettered (log before : List Logged) (x : Logged) : Type 0 where
  pub sweep : GivenSweep
  pub reading : x.reading ≡ Ok (E.Sweep sweep)
  pub units : 0 < sweep.units
  pub defined : Defined sweep.strategy before
  pub nothing : (e : GivenStrategy) → Answered e sweep.strategy log → NotBettered before e sweep

-- THE TOTALS of a list: `log` is what came of it, `end` the book that it left.
pub record Totals (log : List Logged) (end : State) : Type 0 where
  -- what entered is filled, cancelled or live
  pub units : (w : Terms) (k : ℕ) → Came (complex w k) log →
      w.quantity ≡ whole_filled w.number (lines_of log) + cancelled w.number (lines_of log) + live_quantity end w.number
  pub contracts : (w : Terms) → Came (leg w) log →
      w.quantity ≡ leg_filled w.number (lines_of log) + cancelled w.number (lines_of log) + live_quantity end w.number
  -- "No other number has a record 1 to 3 or anything live"
  pub others : (n : ℕ) → Unknown n log →
      (total (mentions n) (lines_of log) ≡ 0) × (live_quantity end n ≡ 0)
  -- contracts on a leg are ratio × units, in every series; the strategy was defined by an event of the list
  pub strategy : (w : Terms) (k : ℕ) → Came (complex w k) log → Defined k log
  pub ratio : (w : Terms) (k : ℕ) → Came (complex w k) log → (e : GivenStrategy) → Answered e k log → (s : ℕ) →
      contracts_on w.number s (lines_of log) ≡ ratio_in e s * whole_filled w.number (lines_of log)
  -- bought is sold, in every series
  pub series : (s : ℕ) → bought s (lines_of log) ≡ sold s (lines_of log)
  -- no fill is worse than its order's limit
  pub limit : (w : Terms) (k : ℕ) → Came (complex w k) log → (l : Line) → Memᴰ l (lines_of log) →
      l.kind ≡ 1 → l.number ≡ w.number → NotWorse w l
  pub price : (w : Terms) → Came (leg w) log → (l : Line) → Memᴰ l (lines_of log) →
      l.kind ≡ 2 → l.number ≡ w.number → NotWorse w l
  -- a leg order has no record 1, so its fills are its records 2
  pub whole : (w : Terms) → Came (leg w) log → (l : Line) → Memᴰ l (lines_of log) → l.kind ≡ 1 → l.number ≡ w.number → ⊥
  -- cash paid is cash received
  pub paid : cash log 0 (lines_of log) ≡ cash log 1 (lines_of log)
  -- 2026-01: "each fill of a complex order or sweep keeps to the range and prices known when it was made": what the events before it said
  pub range : (w : Terms) (k : ℕ) → Came (complex w k) log → (e : GivenStrategy) → Answered e k log →
      (before : List Logged) (x : Logged) (behind : List Logged) → log ≡ before ++ (x ∷ behind) →
      (l : Line) → Memᴰ l x.lines → l.kind ≡ 1 → l.number ≡ w.number → WithinRange before e w l
  -- 2026-03: every sweep that came in bettered the leg net of its side as the events before it had left the leg books, or that net was unknown
  pub sweeps : (before : List Logged) (x : Logged) (behind : List Logged) → log ≡ before ++ (x ∷ behind) →
      (s : GivenSweep) → SweepIn x s → (e : GivenStrategy) → Answered e s.strategy log → Bettered before e s
