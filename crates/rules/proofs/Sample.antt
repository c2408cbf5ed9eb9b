-- The totals are no empty talk: the worked example of `tape`, as the frames that are sent, brings in two leg orders and a complex order, and
-- cash moves. With national prices and a range sent before the order, its fill at the bound is made, and one cent past it is not.
use mathlib.Core.Path.{◌≡◌, refl}
use mathlib.Core.List.{List, [], ◌∷◌, map}
use Prim.Native.Nat.{ℕ}
use lib.IntN.{pos}
use Rattle.events.specs.declared.Strategy.{Strategy as GivenStrategy}
use Rattle.events.specs.declared.Leg.{Leg as GivenLeg}
use Rattle.rules.specs.State
use Rattle.rules.specs.Records
use Rattle.rules.specs.Lookups
use Rattle.rules.specs.Totals
use Rattle.rules.specs.Examples

-- a frame, with the record space that document 01 lends
abbrev sent : List ℕ → Totals.Sent
sent f = record { frame = f; space = 15_360 }

-- "Opens of 0 and 1; strategy 0 buy 1, 1 sell 1; member 7 sells 5 of 0 at 300, buys 5 of 1 at 100; member 9, market maker, buys 2 immediate at
-- 200"
abbrev pub frames : List Totals.Sent
frames =
    sent (6 ∷ (0 ∷ (6 ∷ (0 ∷ (0 ∷ (1 ∷ []))))))
    ∷ (sent (6 ∷ (0 ∷ (6 ∷ (0 ∷ (1 ∷ (1 ∷ []))))))
    ∷ (sent (11 ∷ (0 ∷ (1 ∷ (0 ∷ (2 ∷ (0 ∷ (0 ∷ (1 ∷ (1 ∷ (1 ∷ (1 ∷ [])))))))))))
    ∷ (sent (14 ∷ (0 ∷ (4 ∷ (0 ∷ (7 ∷ (0 ∷ (0 ∷ (1 ∷ (5 ∷ (0 ∷ (44 ∷ (1 ∷ (0 ∷ (0 ∷ []))))))))))))))
    ∷ (sent (14 ∷ (0 ∷ (4 ∷ (0 ∷ (7 ∷ (0 ∷ (1 ∷ (0 ∷ (5 ∷ (0 ∷ (100 ∷ (0 ∷ (0 ∷ (0 ∷ []))))))))))))))
    ∷ (sent (16 ∷ (0 ∷ (2 ∷ (0 ∷ (9 ∷ (0 ∷ (0 ∷ (0 ∷ (3 ∷ (1 ∷ (2 ∷ (0 ∷ (200 ∷ (0 ∷ (0 ∷ (0 ∷ []))))))))))))))))
    ∷ [])))))

-- what is logged of them
abbrev pub day : List Totals.Logged
day = Totals.run State.first frames

-- what each event brought in
pub sample-came : map Totals.brought day
    ≡ Totals.nothing
    ∷ (Totals.nothing
    ∷ (Totals.nothing
    ∷ (Totals.leg (record { number = 1; quantity = 5; side = 1; limit = pos 300 })
    ∷ (Totals.leg (record { number = 2; quantity = 5; side = 0; limit = pos 100 })
    ∷ (Totals.complex (record { number = 3; quantity = 2; side = 0; limit = pos 200 }) 0 ∷ [])))))
unfolding Examples.performed Records.line_of Records.cents Totals.outcome Totals.run Totals.enters Totals.enters_read Totals.brought
sample-came = refl

-- the records of the day, which are those that document 01 prints: "R 1 3 0 0 2 200", "R 2 3 0 0 2 300", "R 2 3 1 1 2 100",
-- "R 2 1 0 1 2 300", "R 2 2 1 0 2 100"
pub sample-lines : Totals.lines_of day
    ≡ record { kind = 1; number = 3; place = 0; side = 0; quantity = 2; price = pos 200 }
    ∷ (record { kind = 2; number = 3; place = 0; side = 0; quantity = 2; price = pos 300 }
    ∷ (record { kind = 2; number = 3; place = 1; side = 1; quantity = 2; price = pos 100 }
    ∷ (record { kind = 2; number = 1; place = 0; side = 1; quantity = 2; price = pos 300 }
    ∷ (record { kind = 2; number = 2; place = 1; side = 0; quantity = 2; price = pos 100 } ∷ []))))
unfolding Examples.performed Records.line_of Records.cents Totals.outcome Totals.run Totals.lines_of
sample-lines = refl

-- the totals of the day that are not 0: 2 units filled of number 3, 2 contracts of series 0 bought, 6.00 paid and received; 3 contracts of
-- each leg order are live
pub record Moves : Type 0 where
  pub filled : Totals.whole_filled 3 (Totals.lines_of day) ≡ 2
  pub bought : Totals.bought 0 (Totals.lines_of day) ≡ 2
  pub paid : Totals.cash day 0 (Totals.lines_of day) ≡ pos 600
  pub received : Totals.cash day 1 (Totals.lines_of day) ≡ pos 600
  pub live : Lookups.live_quantity (Totals.after State.first frames) 1 ≡ 3

pub sample-moves : Moves
unfolding
    Examples.performed Records.line_of Records.cents Totals.outcome Totals.run Totals.after Totals.lines_of Totals.total Totals.whole_filled
    Totals.bought Totals.cash Totals.is_fill Totals.is_leg_number Totals.enters Totals.enters_read Totals.brought
sample-moves = record { filled = refl; bought = refl; paid = refl; received = refl; live = refl }

-- 2026-01: the same, where national prices 290 and 298 of series 0, 100 and 104 of series 1, and a range of so many cents come before the order
abbrev pub bounded : ℕ → List Totals.Sent
bounded r =
    sent (6 ∷ (0 ∷ (6 ∷ (0 ∷ (0 ∷ (1 ∷ []))))))
    ∷ (sent (6 ∷ (0 ∷ (6 ∷ (0 ∷ (1 ∷ (1 ∷ []))))))
    ∷ (sent (11 ∷ (0 ∷ (1 ∷ (0 ∷ (2 ∷ (0 ∷ (0 ∷ (1 ∷ (1 ∷ (1 ∷ (1 ∷ [])))))))))))
    ∷ (sent (14 ∷ (0 ∷ (4 ∷ (0 ∷ (7 ∷ (0 ∷ (0 ∷ (1 ∷ (5 ∷ (0 ∷ (44 ∷ (1 ∷ (0 ∷ (0 ∷ []))))))))))))))
    ∷ (sent (14 ∷ (0 ∷ (4 ∷ (0 ∷ (7 ∷ (0 ∷ (1 ∷ (0 ∷ (5 ∷ (0 ∷ (100 ∷ (0 ∷ (0 ∷ (0 ∷ []))))))))))))))
    ∷ (sent (13 ∷ (0 ∷ (9 ∷ (0 ∷ (0 ∷ (34 ∷ (1 ∷ (0 ∷ (0 ∷ (42 ∷ (1 ∷ (0 ∷ (0 ∷ [])))))))))))))
    ∷ (sent (13 ∷ (0 ∷ (9 ∷ (0 ∷ (1 ∷ (100 ∷ (0 ∷ (0 ∷ (0 ∷ (104 ∷ (0 ∷ (0 ∷ (0 ∷ [])))))))))))))
    ∷ (sent (6 ∷ (0 ∷ (10 ∷ (0 ∷ (r ∷ (0 ∷ []))))))
    ∷ (sent (16 ∷ (0 ∷ (2 ∷ (0 ∷ (9 ∷ (0 ∷ (0 ∷ (0 ∷ (3 ∷ (1 ∷ (2 ∷ (0 ∷ (200 ∷ (0 ∷ (0 ∷ (0 ∷ []))))))))))))))))
    ∷ []))))))))

-- the definition among them
abbrev spread_event : GivenStrategy
spread_event = record { count = 2; legs = (record { series = 0; side = 0; ratio = 1 }, record { series = 1; side = 1; ratio = 1 }, none, none, none, none) }
  where
    none : GivenLeg
    none = record { series = 0; side = 0; ratio = 0 }

-- the national offer net is 298 less 100; with a range of 2 the legs' net of 200 is at the bound and fills, with 1 it is past it and the order, which
-- is immediate, is cancelled
pub record Bounded : Type 0 where
  pub net : Totals.net_said (Totals.run State.first (bounded 2)) spread_event 0 ≡ pos 198
  pub range : Totals.range_said 9999 (Totals.run State.first (bounded 2)) ≡ 2
  pub filled : Totals.whole_filled 3 (Totals.lines_of (Totals.run State.first (bounded 2))) ≡ 2
  pub stopped : Totals.whole_filled 3 (Totals.lines_of (Totals.run State.first (bounded 1))) ≡ 0
  pub cancelled : Totals.cancelled 3 (Totals.lines_of (Totals.run State.first (bounded 1))) ≡ 2

pub sample-bounded : Bounded
unfolding
    Examples.performed Records.line_of Records.cents Totals.outcome Totals.run Totals.lines_of Totals.total Totals.whole_filled Totals.cancelled
    Totals.quote_after Totals.range_after Totals.quoted Totals.range_said Totals.leg_term Totals.net_over Totals.price_said
sample-bounded = record { net = refl; range = refl; filled = refl; stopped = refl; cancelled = refl }

-- 2026-03: the same strategy, markets 200/205 and 100/103, so nets 97 bid and 105 offer. A customer's buy at 104 starts an auction (number 5). Sweeps
-- sell at 105 and twice at 104, and buy at 97 and at 98; then an offer of 204 in series 0 takes the offer net to 104: one sweep at 104 is sent again
-- with 2 units, the other is withdrawn; a clock that ends nothing, and one that ends the auction
abbrev pub sweeping : List Totals.Sent
sweeping =
    sent (6 ∷ (0 ∷ (6 ∷ (0 ∷ (0 ∷ (1 ∷ []))))))
    ∷ (sent (6 ∷ (0 ∷ (6 ∷ (0 ∷ (1 ∷ (1 ∷ []))))))
    ∷ (sent (11 ∷ (0 ∷ (1 ∷ (0 ∷ (2 ∷ (0 ∷ (0 ∷ (1 ∷ (1 ∷ (1 ∷ (1 ∷ [])))))))))))
    ∷ (sent (14 ∷ (0 ∷ (4 ∷ (0 ∷ (7 ∷ (0 ∷ (0 ∷ (0 ∷ (5 ∷ (0 ∷ (200 ∷ (0 ∷ (0 ∷ (0 ∷ []))))))))))))))
    ∷ (sent (14 ∷ (0 ∷ (4 ∷ (0 ∷ (7 ∷ (0 ∷ (0 ∷ (1 ∷ (5 ∷ (0 ∷ (205 ∷ (0 ∷ (0 ∷ (0 ∷ []))))))))))))))
    ∷ (sent (14 ∷ (0 ∷ (4 ∷ (0 ∷ (7 ∷ (0 ∷ (1 ∷ (0 ∷ (5 ∷ (0 ∷ (100 ∷ (0 ∷ (0 ∷ (0 ∷ []))))))))))))))
    ∷ (sent (14 ∷ (0 ∷ (4 ∷ (0 ∷ (7 ∷ (0 ∷ (1 ∷ (1 ∷ (5 ∷ (0 ∷ (103 ∷ (0 ∷ (0 ∷ (0 ∷ []))))))))))))))
    ∷ (sent (16 ∷ (0 ∷ (2 ∷ (0 ∷ (9 ∷ (0 ∷ (0 ∷ (0 ∷ (1 ∷ (0 ∷ (2 ∷ (0 ∷ (104 ∷ (0 ∷ (0 ∷ (0 ∷ []))))))))))))))))
    ∷ (sent (14 ∷ (0 ∷ (3 ∷ (0 ∷ (3 ∷ (0 ∷ (0 ∷ (1 ∷ (1 ∷ (0 ∷ (105 ∷ (0 ∷ (0 ∷ (0 ∷ []))))))))))))))
    ∷ (sent (14 ∷ (0 ∷ (3 ∷ (0 ∷ (3 ∷ (0 ∷ (0 ∷ (1 ∷ (1 ∷ (0 ∷ (104 ∷ (0 ∷ (0 ∷ (0 ∷ []))))))))))))))
    ∷ (sent (14 ∷ (0 ∷ (3 ∷ (0 ∷ (5 ∷ (0 ∷ (0 ∷ (1 ∷ (1 ∷ (0 ∷ (104 ∷ (0 ∷ (0 ∷ (0 ∷ []))))))))))))))
    ∷ (sent (14 ∷ (0 ∷ (3 ∷ (0 ∷ (4 ∷ (0 ∷ (0 ∷ (0 ∷ (1 ∷ (0 ∷ (97 ∷ (0 ∷ (0 ∷ (0 ∷ []))))))))))))))
    ∷ (sent (14 ∷ (0 ∷ (3 ∷ (0 ∷ (4 ∷ (0 ∷ (0 ∷ (0 ∷ (1 ∷ (0 ∷ (98 ∷ (0 ∷ (0 ∷ (0 ∷ []))))))))))))))
    ∷ (sent (14 ∷ (0 ∷ (4 ∷ (0 ∷ (7 ∷ (0 ∷ (0 ∷ (1 ∷ (1 ∷ (0 ∷ (204 ∷ (0 ∷ (0 ∷ (0 ∷ []))))))))))))))
    ∷ (sent (14 ∷ (0 ∷ (3 ∷ (0 ∷ (3 ∷ (0 ∷ (0 ∷ (1 ∷ (2 ∷ (0 ∷ (104 ∷ (0 ∷ (0 ∷ (0 ∷ []))))))))))))))
    ∷ (sent (14 ∷ (0 ∷ (3 ∷ (0 ∷ (5 ∷ (0 ∷ (0 ∷ (1 ∷ (0 ∷ (0 ∷ (104 ∷ (0 ∷ (0 ∷ (0 ∷ []))))))))))))))
    ∷ (sent (8 ∷ (0 ∷ (7 ∷ (0 ∷ (1 ∷ (0 ∷ (0 ∷ (0 ∷ []))))))))
    ∷ (sent (8 ∷ (0 ∷ (7 ∷ (0 ∷ (136 ∷ (19 ∷ (0 ∷ (0 ∷ []))))))))
    ∷ [])))))))))))))))))

-- refused 15 at a net, accepted a cent better; refused 15 where the net has come to the limit, and the sweep of before stays and is filled at the end,
-- though it would better nothing now
pub record Swept : Type 0 where
  pub answers : map (λ (x : Totals.Logged). x.answer) (Totals.run State.first sweeping) ≡ 0 ∷ (0 ∷ (0 ∷ (0 ∷ (0 ∷ (0 ∷ (0 ∷ (0 ∷ (15 ∷ (0 ∷ (0 ∷ (15 ∷ (0 ∷ (0 ∷ (15 ∷ (0 ∷ (0 ∷ (0 ∷ [])))))))))))))))))
  pub values : map (λ (x : Totals.Logged). x.value) (Totals.run State.first sweeping) ≡ 0 ∷ (0 ∷ (0 ∷ (1 ∷ (2 ∷ (3 ∷ (4 ∷ (5 ∷ (0 ∷ (6 ∷ (7 ∷ (0 ∷ (8 ∷ (9 ∷ (0 ∷ (0 ∷ (0 ∷ (0 ∷ [])))))))))))))))))
  pub filled : Totals.whole_filled 6 (Totals.lines_of (Totals.run State.first sweeping)) ≡ 1
  pub withdrawn : Totals.cancelled 7 (Totals.lines_of (Totals.run State.first sweeping)) ≡ 1

pub sample-swept : Swept
unfolding Examples.performed Records.line_of Records.cents Totals.outcome Totals.run Totals.lines_of Totals.total Totals.whole_filled Totals.cancelled
sample-swept = record { answers = refl; values = refl; filled = refl; withdrawn = refl }

-- 2026-04: a market 300/305 and 100/103. Member 2 is named specialist at 60 per cent; a customer buys 10 at 204 and starts an auction; members 1, 2 and 3
-- sell 7 each by sweeps at 202
abbrev pub portioned : List Totals.Sent
portioned =
    sent (6 ∷ (0 ∷ (6 ∷ (0 ∷ (0 ∷ (1 ∷ []))))))
    ∷ (sent (6 ∷ (0 ∷ (6 ∷ (0 ∷ (1 ∷ (1 ∷ []))))))
    ∷ (sent (11 ∷ (0 ∷ (1 ∷ (0 ∷ (2 ∷ (0 ∷ (0 ∷ (1 ∷ (1 ∷ (1 ∷ (1 ∷ [])))))))))))
    ∷ (sent (14 ∷ (0 ∷ (4 ∷ (0 ∷ (7 ∷ (0 ∷ (0 ∷ (0 ∷ (9 ∷ (0 ∷ (44 ∷ (1 ∷ (0 ∷ (0 ∷ []))))))))))))))
    ∷ (sent (14 ∷ (0 ∷ (4 ∷ (0 ∷ (7 ∷ (0 ∷ (0 ∷ (1 ∷ (9 ∷ (0 ∷ (49 ∷ (1 ∷ (0 ∷ (0 ∷ []))))))))))))))
    ∷ (sent (14 ∷ (0 ∷ (4 ∷ (0 ∷ (7 ∷ (0 ∷ (1 ∷ (0 ∷ (9 ∷ (0 ∷ (100 ∷ (0 ∷ (0 ∷ (0 ∷ []))))))))))))))
    ∷ (sent (14 ∷ (0 ∷ (4 ∷ (0 ∷ (7 ∷ (0 ∷ (1 ∷ (1 ∷ (9 ∷ (0 ∷ (103 ∷ (0 ∷ (0 ∷ (0 ∷ []))))))))))))))
    ∷ (sent (8 ∷ (0 ∷ (11 ∷ (0 ∷ (2 ∷ (0 ∷ (0 ∷ (60 ∷ []))))))))
    ∷ (sent (16 ∷ (0 ∷ (2 ∷ (0 ∷ (9 ∷ (0 ∷ (0 ∷ (0 ∷ (1 ∷ (0 ∷ (10 ∷ (0 ∷ (204 ∷ (0 ∷ (0 ∷ (0 ∷ []))))))))))))))))
    ∷ (sent (14 ∷ (0 ∷ (3 ∷ (0 ∷ (1 ∷ (0 ∷ (0 ∷ (1 ∷ (7 ∷ (0 ∷ (202 ∷ (0 ∷ (0 ∷ (0 ∷ []))))))))))))))
    ∷ (sent (14 ∷ (0 ∷ (3 ∷ (0 ∷ (2 ∷ (0 ∷ (0 ∷ (1 ∷ (7 ∷ (0 ∷ (202 ∷ (0 ∷ (0 ∷ (0 ∷ []))))))))))))))
    ∷ (sent (14 ∷ (0 ∷ (3 ∷ (0 ∷ (3 ∷ (0 ∷ (0 ∷ (1 ∷ (7 ∷ (0 ∷ (202 ∷ (0 ∷ (0 ∷ (0 ∷ []))))))))))))))
    ∷ (sent (8 ∷ (0 ∷ (7 ∷ (0 ∷ (136 ∷ (19 ∷ (0 ∷ (0 ∷ []))))))))
    ∷ []))))))))))))

-- of the 10 that remain the specialist's sweep, number 7, gets 6, and of the 4 that are left the others get 2 each
pub record Portioned : Type 0 where
  pub first : Totals.whole_filled 6 (Totals.lines_of (Totals.run State.first portioned)) ≡ 2
  pub specialist : Totals.whole_filled 7 (Totals.lines_of (Totals.run State.first portioned)) ≡ 6
  pub last : Totals.whole_filled 8 (Totals.lines_of (Totals.run State.first portioned)) ≡ 2
  pub named : Totals.named_last State.no_specialist (Totals.run State.first portioned) 0 ≡ record { member = 2; percentage = 60 }

pub sample-portioned : Portioned
unfolding
    Examples.performed Records.line_of Records.cents Totals.outcome Totals.run Totals.lines_of Totals.total Totals.whole_filled Totals.specialist_after
    Totals.named_last
sample-portioned = record { first = refl; specialist = refl; last = refl; named = refl }

-- a strategy is defined; then kind 11 with 0 and 100 per cent; with 101; with member 0; of a strategy that is not defined
abbrev pub naming : List Totals.Sent
naming =
    sent (11 ∷ (0 ∷ (1 ∷ (0 ∷ (2 ∷ (0 ∷ (0 ∷ (1 ∷ (1 ∷ (1 ∷ (1 ∷ [])))))))))))
    ∷ (sent (8 ∷ (0 ∷ (11 ∷ (0 ∷ (2 ∷ (0 ∷ (0 ∷ (0 ∷ []))))))))
    ∷ (sent (8 ∷ (0 ∷ (11 ∷ (0 ∷ (255 ∷ (255 ∷ (0 ∷ (100 ∷ []))))))))
    ∷ (sent (8 ∷ (0 ∷ (11 ∷ (0 ∷ (2 ∷ (0 ∷ (0 ∷ (101 ∷ []))))))))
    ∷ (sent (8 ∷ (0 ∷ (11 ∷ (0 ∷ (0 ∷ (0 ∷ (0 ∷ (60 ∷ []))))))))
    ∷ (sent (8 ∷ (0 ∷ (11 ∷ (0 ∷ (2 ∷ (0 ∷ (1 ∷ (60 ∷ []))))))))
    ∷ [])))))

pub sample-named : map (λ (x : Totals.Logged). x.answer) (Totals.run State.first naming) ≡ 0 ∷ (0 ∷ (0 ∷ (3 ∷ (3 ∷ (4 ∷ [])))))
unfolding Examples.performed Totals.outcome Totals.run
sample-named = refl
