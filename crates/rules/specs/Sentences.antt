-- Sentences of "Events", "Passes" and "Refusals by cause" in another form than their definitions have: what can be seen of the state before an
-- event, the state after it and its records. Each holds of every accepted event in every state that frames lead to (proofs
-- Sentences.event-sentence, step-sentence; of the passes: Groups, PassEnds, Bars, WholeFills; of the causes: Causes; of best prices: Bests;
-- of the stored nets: StoredNets, OfToday).
-- Many a rule that is changed in its definition and in the code alike is refused here; docs/RULES.md has the list, and what no sentence says.
use Rattle.std.specs.Prelude.{◌≡◌, Bool, true, false, not, ◌⊎◌, ℕ, suc, ◌+◌, ◌-◌, ◌*◌, ◌/◌, ◌^◌, ◌≤◌, ◌<◌, min, max, eqb, get_or, replicate, take, length, Ok}
use mathlib.Core.List.{List, [], ◌∷◌, ◌++◌, Memᴰ}
use Rattle.base.specs.Pick.{pick, both}
use Rattle.base.specs.Walks.{sum_n, slot, any_n}
use Rattle.base.specs.All.{All, Sorted}
use Rattle.base.specs.Sets.{has}
use Rattle.base.specs.Gcd.{Divides}
use Rattle.events.specs.declared.Event.{Event}
use Rattle.events.specs.declared.Event.TheVariants as E
use Rattle.events.specs.declared.Strategy.{Strategy as GivenStrategy}
use Rattle.events.specs.declared.Order.{Order as GivenOrder}
use Rattle.events.specs.declared.Sweep.{Sweep as GivenSweep}
use Rattle.events.specs.declared.LegOrder.{LegOrder as GivenLegOrder}
use Rattle.events.specs.declared.National.{National as GivenNational}
use Rattle.events.specs.declared.Range.{Range as GivenRange}
use Rattle.events.specs.declared.Specialist.{Specialist as GivenSpecialist}
use Rattle.frames.specs.Frames.{read_of}
use Rattle.rules.specs.declared.Leg.{Leg}
use Rattle.rules.specs.declared.Strategy.{Strategy}
use Rattle.rules.specs.declared.Entry.{Entry}
use Rattle.rules.specs.declared.LegOrder.{LegOrder}
use Rattle.rules.specs.declared.State.{State}
use Rattle.rules.specs.declared.Record.{Record}
use Rattle.rules.specs.declared.Bounds.{Bounds}
use Rattle.rules.specs.declared.Turn.{Turn}
use Rattle.rules.specs.declared.Turn.TheVariants.{Stop, ByLegs, AtLimit}
use Rattle.rules.specs.declared.Kind.TheVariants.{LegFill, LegOrderFill, Cancelled, LegOrderCancelled, AuctionBegun, AuctionEnded}
use Rattle.rules.specs.State.{no_leg, no_order, no_quote, fresh, entry_at, order_at, strategy_at, strategy_of, leg_at, with_strategies, with_nets, with_opened, with_clock, with_national, with_range, offer_net, bid_net, nets_stored, Netted}
use Rattle.rules.specs.Moves.{Moved, still, each}
use Rattle.rules.specs.Records.{kind_number}
use Rattle.rules.specs.Sides.{other, leg_side, meets, better}
use Rattle.rules.specs.Nets.{stands, best_of, no_best, best_after}
use Rattle.rules.specs.Fills.{party_records}
use Rattle.rules.specs.National.{bounds_at, may_buy, may_sell, may_fill, may_take, may_meet}
use Rattle.rules.specs.declared.Allocation.TheVariants.{Shared, ForStarter}
use Rattle.rules.specs.Quotas.{share, rest_of}
use Rattle.rules.specs.Passes.{best_opposite, sizes, meet_limit, ready_net, turn_at, turn_of, turn, pass}
use Rattle.rules.specs.Auctions.{starter_pass, end_auction, match_in}
use Rattle.rules.specs.Sizes.{strategy_slots, order_slots, sweep_slots, leg_order_slots, table_rows, record_space, zero_level}
use Rattle.rules.specs.Refusals.{first_cause, causes, is_order_at, is_sweep_at, is_leg_order_at}
use Rattle.rules.specs.Events.{keep, enter, enter_order, free_slot, free_order_slot, trade_all}
use Rattle.rules.specs.Given.{legs_given, order_given, leg_order_given}
use Rattle.rules.specs.Step.{Outcome, value_of, accept}
use Rattle.rules.specs.Valid.{Starter, Valid}
use Rattle.rules.specs.Fits.{FitEvent}
use Rattle.rules.specs.Shrinks.{Shrinks}

-- AN ACCEPTED EVENT: the state is valid, the event's fields are in their ranges, and no cause of a refusal applies.
pub record AcceptedEvent (b : State) (e : Event) : Type 0 where
  pub valid : Valid b
  pub fit : FitEvent e
  pub clear : first_cause (causes b e) ≡ 0

-- one of the first n numbers has it
pub record Any (P : ℕ → Type 0) (n : ℕ) : Type 0 where
  pub at : ℕ
  pub below : at < n
  pub has : P at

-- an auction runs in strategy k
abbrev pub Runs : State → ℕ → Type 0
Runs b k = 0 < (strategy_at b k).starter

-- a record of that kind, as it is read: 1 to 5
abbrev pub IsKind : ℕ → Record → Type 0
IsKind n r = kind_number r.kind ≡ n

-- the record 5 of strategy k's auction, and the records 3 of an entry and of a leg order
abbrev pub auction_ended : State → ℕ → Record
auction_ended b k = record { kind = AuctionEnded; number = (strategy_at b k).starter; place = k; side = 0; quantity = 0; level = zero_level }

abbrev pub cancelled_record : Entry → Record
cancelled_record e = record { kind = Cancelled; number = e.number; place = 0; side = e.side; quantity = e.units; level = zero_level }

abbrev pub cancelled_leg_record : LegOrder → Record
cancelled_leg_record o = record { kind = LegOrderCancelled; number = o.number; place = 0; side = o.side; quantity = o.contracts; level = zero_level }

-- "price 0 where whole met whole": a record 2 that shows price 0
abbrev pub Unpriced : Record → Type 0
Unpriced r = IsKind 2 r → r.level ≡ zero_level

-- FILLS AND PASSES THAT USE NO LEGS: every leg order is as it was, and no record 2 shows a price
pub record WithoutLegs (b : State) (x : Moved) : Type 0 where
  pub orders : x.state.orders ≡ b.orders
  pub prices : All Unpriced x.records

-- GROUPS: "customers by number; then sweeps and market makers; then broker-dealers". A sweep is an entry of life 4.
abbrev pub Customer : Entry → Type 0
Customer e = (e.class ≡ 1) × (e.life ≡ 4 → ⊥)

abbrev pub SweepOrMaker : Entry → Type 0
SweepOrMaker e = (e.life ≡ 4) ⊎ (e.class ≡ 3)

abbrev pub Dealer : Entry → Type 0
Dealer e = (e.class ≡ 2) × (e.life ≡ 4 → ⊥)

-- two entries of one strategy and side
pub record Beside (e f : Entry) : Type 0 where
  pub strategy : f.strategy ≡ e.strategy
  pub side : f.side ≡ e.side

-- e has the better limit for who trades with both
abbrev pub BetterLimit : Entry → Entry → Type 0
BetterLimit e f = better (other e.side) e.level f.level ≡ true

-- in a shared pass e goes before f: by its limit, at one limit by its group, customers by number
pub data AheadShared (e f : Entry) : Type 0 where
  better-limit : BetterLimit e f → AheadShared e f
  customer-before-maker : f.level ≡ e.level → Customer e → SweepOrMaker f → AheadShared e f
  customer-before-dealer : f.level ≡ e.level → Customer e → Dealer f → AheadShared e f
  maker-before-dealer : f.level ≡ e.level → SweepOrMaker e → Dealer f → AheadShared e f
  customers-by-number : f.level ≡ e.level → Customer e → Customer f → e.number < f.number → AheadShared e f

-- "In a numbered pass they go by number alone", at one limit
abbrev pub AheadNumbered : Entry → Entry → Type 0
AheadNumbered e f = BetterLimit e f ⊎ ((f.level ≡ e.level) × (e.number < f.number))

-- nobody is passed by: where an entry has traded against the active one, at slot a, one beside it that goes before it has nothing left
abbrev pub NonePassed : (Entry → Entry → Type 0) → ℕ → State → State → Type 0
NonePassed Ahead a b c =
    (i j : ℕ) → (j ≡ a → ⊥) → Beside (entry_at b i) (entry_at b j) → Ahead (entry_at b i) (entry_at b j) → (entry_at c j).units < (entry_at b j).units → (entry_at c i).units ≡ 0

-- two of the second group, or two of the third
abbrev pub OneGroup : Entry → Entry → Type 0
OneGroup e f = (SweepOrMaker e × SweepOrMaker f) ⊎ (Dealer e × Dealer f)

-- what the entry at slot i got between b and c
abbrev pub got : State → State → ℕ → ℕ
got b c i = (entry_at b i).units - (entry_at c i).units

-- "remaining × size / group total, rounded down, then one unit each by number": two of a group at one limit, neither the active entry, at slot a
pub record SharedFairly (a : ℕ) (b c : State) : Type 0 where
  -- what they got is as their sizes, but for less than a unit each
  pub by_size : (i j : ℕ) → (i ≡ a → ⊥) → (j ≡ a → ⊥) → Beside (entry_at b i) (entry_at b j) → (entry_at b j).level ≡ (entry_at b i).level → OneGroup (entry_at b i) (entry_at b j) →
      0 < (entry_at b i).units → 0 < (entry_at b j).units → got b c i * (entry_at b j).units < got b c j * (entry_at b i).units + (entry_at b i).units + (entry_at b j).units
  -- and of two of one size the one with the smaller number got no less
  pub by_number : (i j : ℕ) → (i ≡ a → ⊥) → (j ≡ a → ⊥) → Beside (entry_at b i) (entry_at b j) → (entry_at b j).level ≡ (entry_at b i).level → OneGroup (entry_at b i) (entry_at b j) →
      0 < (entry_at b i).units → (entry_at b i).units ≡ (entry_at b j).units → (entry_at b i).number < (entry_at b j).number → got b c j ≤ got b c i

-- number n is that of the entry at slot i, which holds something against the entry at slot a, at that limit, as one of group g
abbrev pub held_by : State → ℕ → ℕ → ℕ → ℕ → ℕ → Bool
held_by b a level g n i = pick (eqb (slot (sizes b.entries (entry_at b a) level g) i) 0) false (eqb (entry_at b i).number n)

-- a record 1 of such a holder
abbrev pub fill_in : State → ℕ → ℕ → ℕ → Record → Bool
fill_in b a level g r = both (eqb (kind_number r.kind) 1) (any_n (held_by b a level g r.number) table_rows)

-- "Each holder met is a fill of its own, by number within a group": of each group the records 1 of its holders stand by rising number, so none has two
abbrev pub ByNumber : State → ℕ → ℕ → Moved → Type 0
ByNumber b a level x = (g : ℕ) → g < 3 → Sorted (λ (r s : Record). r.number < s.number) (keep (fill_in b a level g) x.records)

-- THE SPECIALIST'S PORTION (2026-04), at a limit that the entry at slot a, an auction's starter, meets in its pass. "what remains after customers":
-- of its units, once those customers have theirs
abbrev pub after_customers : State → ℕ → ℕ → ℕ
after_customers b a level = (entry_at b a).units - sum_n (slot (sizes b.entries (entry_at b a) level 0)) table_rows

-- the sizes of the second group there
abbrev pub second_group : State → ℕ → ℕ → List ℕ
second_group b a level = sizes b.entries (entry_at b a) level 1

-- .. and their total
abbrev pub group_total : State → ℕ → ℕ → ℕ
group_total b a level = sum_n (slot (second_group b a level)) table_rows

-- "the specialist has a sweep there": the entry at slot k
pub record SpecialistsSweep (b : State) (a level k : ℕ) : Type 0 where
  pub live : 0 < (entry_at b k).units
  pub strategy : (entry_at b k).strategy ≡ (entry_at b a).strategy
  pub side : (entry_at b k).side ≡ other (entry_at b a).side
  pub limit : (entry_at b k).level ≡ level
  pub sweep : (entry_at b k).life ≡ 4
  pub named : 0 < (strategy_of b (entry_at b a)).specialist.member
  pub member : (entry_at b k).member ≡ (strategy_of b (entry_at b a)).specialist.member

-- what a holder of the second group got between b and c
abbrev pub group_got : State → ℕ → ℕ → State → ℕ → ℕ
group_got b a level c i = pick (eqb (slot (second_group b a level) i) 0) 0 (got b c i)

-- x is what the starter's pass does at that limit
pub record PortionSentence (b : State) (a level : ℕ) (x : Moved) : Type 0 where
  -- "where the second group must be shared and the specialist has a sweep there, that sweep gets the greater of its rounded-down share and the
  -- rounded-down percentage of what remains after customers, never above its size"
  pub portion : after_customers b a level < group_total b a level → (k : ℕ) → SpecialistsSweep b a level k →
      got b x.state k ≡ min (entry_at b k).units
      (max (after_customers b a level * (entry_at b k).units / group_total b a level) ((strategy_of b (entry_at b a)).specialist.percentage * after_customers b a level / 100))
  -- "The rest of the group shares what is left by the old sharing rule"
  pub rest : after_customers b a level < group_total b a level → (k : ℕ) → SpecialistsSweep b a level k → (i : ℕ) → (i ≡ k → ⊥) → 0 < slot (second_group b a level) i →
      got b x.state i ≡ slot (share (after_customers b a level - got b x.state k) (rest_of k (second_group b a level))) i
  -- all that remains is given out, or the whole group is filled
  pub all : sum_n (group_got b a level x.state) table_rows ≡ min (after_customers b a level) (group_total b a level)
  -- fills stay by number within the group, the specialist's in its place
  pub by_number : ByNumber b a level x
  -- elsewhere nothing is changed: where no specialist has a sweep there, or the group need not be shared, it is what any order's shared pass does at
  -- that limit
  pub elsewhere : ((k : ℕ) → SpecialistsSweep b a level k → ⊥) ⊎ (group_total b a level ≤ after_customers b a level) → x ≡ meet_limit Shared a level b

-- no live entry opposite the one at slot i meets its limit
abbrev pub MeetsNone : State → ℕ → Type 0
MeetsNone b i =
    (j : ℕ) → 0 < (entry_at b j).units → (entry_at b j).strategy ≡ (entry_at b i).strategy → ((entry_at b j).side ≡ (entry_at b i).side → ⊥) → meets (entry_at b i).side (entry_at b i).level (entry_at b j).level ≡ false

-- the legs are not ready for it, or do not meet its limit
abbrev pub LegsMeetNone : State → ℕ → Type 0
LegsMeetNone b i = (ready_net true i b ≡ 0) ⊎ (meets (entry_at b i).side (entry_at b i).level (ready_net true i b) ≡ false)

-- a better price than p for an order of that side of a book: the first, a higher bid, a lower offer
pub data BetterPrice (side p q : ℕ) : Type 0 where
  first : p ≡ 0 → BetterPrice side p q
  higher : side ≡ 0 → p < q → BetterPrice side p q
  lower : side ≡ 1 → q < p → BetterPrice side p q

-- THE BEST PRICE OF A SERIES AND SIDE AND THE CONTRACTS AT IT (2026-02), "in one walk over the leg orders", of a table whose live orders have prices.
pub record Walked (os : List LegOrder) (s side : ℕ) : Type 0 where
  -- "from a running pair that starts afresh at a better price"
  pub afresh : (k : ℕ) → stands s side (get_or os k no_order) ≡ true → BetterPrice side (best_after os s side k).price (get_or os k no_order).price
      → best_after os s side (suc k) ≡ record { price = (get_or os k no_order).price; contracts = (get_or os k no_order).contracts }
  -- "After each slot the pair is that of the slots walked so far"
  pub slots : (k : ℕ) → k ≤ table_rows → best_after os s side k ≡ best_of (take k os) s side
  -- "at the end price and contracts are those of today"
  pub end : best_after os s side table_rows ≡ best_of os s side
  -- ".. an empty side included"
  pub empty : ((i : ℕ) → i < table_rows → stands s side (get_or os i no_order) ≡ false) → best_after os s side table_rows ≡ no_best

-- WHO MAY NOT FILL at a level, within bounds w: exactly who these name.
pub record BoundSentence (w : Bounds) (buys sells : Bool) (level : ℕ) : Type 0 where
  -- "either complex party": where a fill is barred, the one that buys or the one that sells may not take it
  pub either : may_fill w buys sells level ≡ false → ((buys ≡ true) × (may_buy w level ≡ false)) ⊎ ((sells ≡ true) × (may_sell w level ≡ false))
  pub both : may_fill w buys sells level ≡ true → (buys ≡ true → may_buy w level ≡ true) × (sells ≡ true → may_sell w level ≡ true)
  -- "No complex order or sweep that buys fills above the national offer net plus the range"; at it is not above; "A missing national net bounds nothing"
  pub above : may_buy w level ≡ false → (0 < w.offer) × (w.offer + w.range < level)
  pub not_above : may_buy w level ≡ true → (w.offer ≡ 0) ⊎ (level ≤ w.offer + w.range)
  -- ".. and none that sells below the national bid net less it"
  pub below : may_sell w level ≡ false → (0 < w.bid) × (level + w.range < w.bid)
  pub not_below : may_sell w level ≡ true → (w.bid ≡ 0) ⊎ (w.bid ≤ level + w.range)

-- 2026-01: "A pass .. stops at the first fill that either complex party may not take": what turn t fills, of an entry of that side at that ready
-- leg net, is such a fill
pub data BarredTurn (w : Bounds) (side net : ℕ) (t : Turn) : Type 0 where
  at-legs : t ≡ ByLegs → may_take w side net ≡ false → BarredTurn w side net t
  at-limit : (x : ℕ) → t ≡ AtLimit x → may_meet w x ≡ false → BarredTurn w side net t

-- .. what the entry at slot i would fill next, between the best opposite limit x and the legs
abbrev pub Barred : State → ℕ → ℕ → Bool → Type 0
Barred b i x legs = BarredTurn (bounds_at b (entry_at b i).strategy) (entry_at b i).side (ready_net legs i b) (turn_at (entry_at b i) x (ready_net legs i b))

-- .. at all holders of the best opposite limit
abbrev pub BarredHere : State → ℕ → Bool → Type 0
BarredHere b i legs = Barred b i (best_opposite b.entries (entry_at b i)) legs

-- "Repeat while units of it remain .. Stop when neither meets its limit": the entry at slot i has had its pass between b and c. At a moment between
-- them nothing of it was left, or nothing met its limit, legs included where it may use them, or the fill that it came to was barred.
pub record HadTurn (b c : State) (i : ℕ) (legs : Bool) : Type 0 where
  pub moment : State
  pub since : Shrinks b moment
  pub until : Shrinks moment c
  pub done : ((entry_at moment i).units ≡ 0) ⊎ ((MeetsNone moment i × (legs ≡ true → LegsMeetNone moment i)) ⊎ BarredHere moment i legs)

-- WHAT AN ORDER DOES NEXT, t, between the best opposite limit x and the ready leg net, 0 where there is none. "take the best opposite limit in
-- the strategy, or the leg net .. if the legs are ready and it is strictly better for the active order or no opposite limit stands."
pub record TurnSentence (e : Entry) (x net : ℕ) (t : Turn) : Type 0 where
  -- fills at a limit: at that one, which meets its own; and the legs are not ready, or no better
  pub at_limit : (level : ℕ) → t ≡ AtLimit level → (level ≡ x) × (0 < x) × (meets e.side e.level x ≡ true) × ((net ≡ 0) ⊎ (better e.side net x ≡ false))
  -- a fill by the legs: they are ready and meet its limit; and no opposite limit stands, or they are strictly better
  pub by_legs : t ≡ ByLegs → (0 < net) × (meets e.side e.level net ≡ true) × ((x ≡ 0) ⊎ (better e.side net x ≡ true))

-- "Whole: fill at the opposite limit.": every record 1 of the fills at a limit shows that limit
abbrev pub AtThatLimit : ℕ → Record → Type 0
AtThatLimit level r = IsKind 1 r → r.level ≡ level

-- the level at which turn t fills, at that ready leg net
abbrev pub fill_level : Turn → ℕ → ℕ
fill_level Stop net = 0
fill_level ByLegs net = net
fill_level (AtLimit x) net = x

-- WITHIN THE RANGE: t is what an order of that side chose, u what it does within these bounds, x the moves of that turn.
pub record AllowedSentence (w : Bounds) (side net : ℕ) (t u : Turn) (x : Moved) : Type 0 where
  -- it does what it chose, or that is barred and it stops: the other price is not tried
  pub same : (u ≡ t) ⊎ ((u ≡ Stop) × BarredTurn w side net t)
  -- what it does is not barred
  pub free : BarredTurn w side net u → ⊥
  -- all fills of the turn have one level, so the test of the turn is that of each fill
  pub level : All (AtThatLimit (fill_level u net)) x.records

-- 2026-01: "each fill of a complex order or sweep keeps to the range and prices known when it was made": a record 1 is of a strategy that book b
-- has defined, and at a level that a party of its side may take within what b knows
pub record InRange (b : State) (r : Record) : Type 0 where
  pub strategy : IsKind 1 r → r.place < b.defined
  pub range : IsKind 1 r → may_take (bounds_at b r.place) r.side r.level ≡ true

-- THE STARTER'S PASS, x, in the auction of strategy k.
pub record StarterSentence (b : State) (k : ℕ) (x : Moved) : Type 0 where
  -- "legs barred if any opposite sweep or waiting order was accepted meanwhile"
  pub barred : (strategy_at b k).answered ≡ true → WithoutLegs b x
  -- "The starter gets a shared pass"
  pub passes_none : (i : ℕ) → Starter b k i → NonePassed AheadShared i b x.state
  -- else they are not: it ends with nothing left, or where the legs are not ready or do not meet its limit, or at a fill that is barred
  pub free : (strategy_at b k).answered ≡ false → (i : ℕ) → Starter b k i → ((entry_at x.state i).units ≡ 0) ⊎ (LegsMeetNone x.state i ⊎ BarredHere x.state i true)

-- THE PASS of another entry that was accepted meanwhile, at slot i: "a numbered pass; sweeps never use legs"
pub record LaterSentence (b : State) (i : ℕ) (x : Moved) : Type 0 where
  pub passes_none : NonePassed AheadNumbered i b x.state
  pub sweep_barred : (entry_at b i).life ≡ 4 → WithoutLegs b x

-- a complex party's leg fill that shows price 0, if it is of that number
abbrev pub UnpricedOf : ℕ → Record → Type 0
UnpricedOf n r = r.kind ≡ LegFill → r.number ≡ n → r.level ≡ zero_level

-- the state after n turns of the pass of a starter, at slot i, in the auction of strategy k
abbrev pub after_turns : State → ℕ → ℕ → ℕ → State
after_turns b k i n = (each (turn ForStarter (not (strategy_at b k).answered) i) n b).state

-- 2026-04: "In a starter's pass": its pass is made of turns, and each that fills at a limit gives the specialist's sweep its portion there
pub record StarterPortions (b : State) (k i : ℕ) : Type 0 where
  pub turns : starter_pass k b ≡ each (turn ForStarter (not (strategy_at b k).answered) i) (entry_at b i).units b
  -- no turn names another
  pub specialist : (n : ℕ) → (strategy_at (after_turns b k i n) k).specialist ≡ (strategy_at b k).specialist
  pub portions : (n level : ℕ) → turn_of ForStarter (not (strategy_at b k).answered) i (after_turns b k i n) ≡ AtLimit level →
      PortionSentence (after_turns b k i n) i level (turn ForStarter (not (strategy_at b k).answered) i n (after_turns b k i n))

-- records that stand in a list in one piece
pub record Part (part all : List Record) : Type 0 where
  pub before : List Record
  pub behind : List Record
  pub whole : all ≡ before ++ (part ++ behind)

-- "The starter gets a shared pass, ..": THE END of the auction of strategy k, between b and c. As it comes, every entry of the strategy is as it was in
-- b, sweeps too, whatever the legs have done (2026-03: "Sweeps already in are not looked at again"); and what it leaves of them is what c has.
pub record AuctionEnds (b : State) (k : ℕ) (x : Moved) : Type 0 where
  pub moment : State
  pub valid : Valid moment
  pub since : Shrinks b moment
  pub auction : strategy_at moment k ≡ strategy_at b k
  pub found : (i : ℕ) → (entry_at b i).strategy ≡ k → entry_at moment i ≡ entry_at b i
  pub leaves : (i : ℕ) → (entry_at b i).strategy ≡ k → entry_at x.state i ≡ entry_at (end_auction k moment).state i
  -- it is the starter's pass, from that state, whose records the event has written
  pub passed : Part (starter_pass k moment).records x.records

-- CLOCK, at time t, from b to what x leaves.
pub record ClockSentence (b : State) (t : ℕ) (x : Moved) : Type 0 where
  -- "auctions begun at least the timer ago end": a clock at or past an auction's begin and the timer ends it ..
  pub ends : (k : ℕ) → Runs b k → (strategy_at b k).begun + b.timer ≤ t → (strategy_at x.state k).starter ≡ 0
  -- .. and one before that leaves it as it was
  pub goes_on : (k : ℕ) → Runs b k → t < (strategy_at b k).begun + b.timer → strategy_at x.state k ≡ strategy_at b k
  -- .. and so every entry of its strategy, and of one without an auction
  pub stays : (i : ℕ) → ((strategy_at b (entry_at b i).strategy).starter ≡ 0) ⊎ (t < (strategy_at b (entry_at b i).strategy).begun + b.timer) → entry_at x.state i ≡ entry_at b i
  -- one that ends finds its entries as the clock did
  pub wholly : (k : ℕ) → Runs b k → (strategy_at b k).begun + b.timer ≤ t → AuctionEnds (with_clock b t) k x
  -- 2026-04: at each limit of its starter's pass the specialist's sweep, and the rest of its group, get what the request says
  pub portions : (k : ℕ) (r : Runs b k) (d : (strategy_at b k).begun + b.timer ≤ t) (i : ℕ) → Starter (wholly k r d).moment k i → StarterPortions (wholly k r d).moment k i
  -- "The starter gets a shared pass", with the legs if nobody answered; "then each other entry accepted meanwhile", sweeps without legs
  pub starter_pass : (k : ℕ) → Runs b k → (strategy_at b k).begun + b.timer ≤ t → (i : ℕ) → Starter b k i → HadTurn (with_clock b t) x.state i (not (strategy_at b k).answered)
  pub other_passes : (k : ℕ) → Runs b k → (strategy_at b k).begun + b.timer ≤ t → (i : ℕ) → 0 < (entry_at b i).units → (entry_at b i).strategy ≡ k → (strategy_at b k).starter < (entry_at b i).number →
      HadTurn (with_clock b t) x.state i (not (eqb (entry_at b i).life 4))
  -- "Sweeps, responses and immediates left are cancelled"
  pub day_left : (k : ℕ) → Runs b k → (strategy_at b k).begun + b.timer ≤ t → (i : ℕ) → (entry_at b i).strategy ≡ k → 0 < (entry_at x.state i).units → (entry_at b i).life ≡ 0
  -- "record 5": of each auction that ends, and no other
  pub five_each : (k : ℕ) → Runs b k → (strategy_at b k).begun + b.timer ≤ t → Memᴰ (auction_ended b k) x.records
  pub five_only : All (λ (r : Record). IsKind 5 r → Runs b r.place × ((strategy_at b r.place).begun + b.timer ≤ t) × (r ≡ auction_ended b r.place)) x.records
  -- a clock begins no auction
  pub begins_none : (k : ℕ) → (strategy_at b k).starter ≡ 0 → (strategy_at x.state k).starter ≡ 0
  pub clock : x.state.clock ≡ t
  -- "legs barred if any opposite sweep or waiting order was accepted meanwhile": no leg fill of such an auction's starter shows a price
  pub barred : (k : ℕ) → Runs b k → (strategy_at b k).answered ≡ true → All (UnpricedOf (strategy_at b k).starter) x.records

-- CANCEL by a member of a number, from b to what x leaves. The row it ends is a complex order ..
pub record OrderCancelled (b : State) (m n : ℕ) (x : Moved) : Type 0 where
  pub at : ℕ
  pub member : (entry_at b at).member ≡ m
  pub number : (entry_at b at).number ≡ n
  pub no_sweep : (entry_at b at).life ≡ 4 → ⊥
  pub live : 0 < (entry_at b at).units
  pub ended : (entry_at x.state at).units ≡ 0
  pub records : x.records ≡ record { kind = Cancelled; number = n; place = 0; side = (entry_at b at).side; quantity = (entry_at b at).units; level = zero_level } ∷ []
  -- every other row is as it was
  pub others : (j : ℕ) → (j ≡ at → ⊥) → entry_at x.state j ≡ entry_at b j
  pub orders : x.state.orders ≡ b.orders

-- .. or a leg order
pub record LegOrderEnded (b : State) (m n : ℕ) (x : Moved) : Type 0 where
  pub at : ℕ
  pub member : (order_at b at).member ≡ m
  pub number : (order_at b at).number ≡ n
  pub live : 0 < (order_at b at).contracts
  pub ended : (order_at x.state at).contracts ≡ 0
  pub records : x.records ≡ record { kind = LegOrderCancelled; number = n; place = 0; side = (order_at b at).side; quantity = (order_at b at).contracts; level = zero_level } ∷ []
  pub others : (j : ℕ) → (j ≡ at → ⊥) → order_at x.state j ≡ order_at b j
  pub entries : x.state.entries ≡ b.entries

pub record CancelSentence (b : State) (m n : ℕ) (x : Moved) : Type 0 where
  -- "Cancel: one record 3 for what is live", of that member and number
  pub one : OrderCancelled b m n x ⊎ LegOrderEnded b m n x
  -- no running auction's starter
  pub no_starter : (k : ℕ) → (strategy_at b k).starter ≡ n → ⊥
  pub strategies : x.state.strategies ≡ b.strategies

-- every series of strategy k is open
abbrev pub Open : State → ℕ → Type 0
Open b k = (t : ℕ) → t < 32 → has (strategy_at b k).series t ≡ true → has b.opened t ≡ true

-- "each day order .. in strategies holding that series, all open, without an auction"
pub record GetsPass (b : State) (s i : ℕ) : Type 0 where
  pub live : 0 < (entry_at b i).units
  pub day : (entry_at b i).life ≡ 0
  pub holds : has (strategy_at b (entry_at b i).strategy).series s ≡ true
  pub all_open : Open b (entry_at b i).strategy
  pub no_auction : (strategy_at b (entry_at b i).strategy).starter ≡ 0

-- ".. gets a pass by legs only": at a moment between b and c nothing of it is left, or the legs are not ready for it or do not meet its limit, or
-- their fill is barred
pub record HadPass (b c : State) (i : ℕ) : Type 0 where
  pub moment : State
  pub since : Shrinks b moment
  pub until : Shrinks moment c
  pub done : ((entry_at moment i).units ≡ 0) ⊎ (LegsMeetNone moment i ⊎ Barred moment i 0 true)

-- p is a live leg order that o meets: of its series and the other side, at a price within its own
pub record Met (o p : LegOrder) : Type 0 where
  pub live : 0 < p.contracts
  pub series : p.series ≡ o.series
  pub side : p.side ≡ o.side → ⊥
  pub price : meets o.side o.price p.price ≡ true

-- "best price then number": p goes before q for one that trades with both
abbrev pub AheadOrder : LegOrder → LegOrder → LegOrder → Type 0
AheadOrder o p q = (better o.side p.price q.price ≡ true) ⊎ ((p.price ≡ q.price) × (p.number < q.number))

-- a leg order's record 2
abbrev pub traded : LegOrder → ℕ → ℕ → Record
traded o q price = record { kind = LegOrderFill; number = o.number; place = o.series; side = o.side; quantity = q; level = zero_level + price }

-- "at the resting price, incoming record first": the records of the trades of the leg order at slot a, two for each, both at the price of one that it met
pub data Trades (b : State) (a : ℕ) : List Record → Type 0 where
  no-trade : Trades b a []
  and-trade : {rs : List Record} → Trades b a rs → (h q : ℕ) → Met (order_at b a) (order_at b h) → 0 < q →
      Trades b a (rs ++ (traded (order_at b a) q (order_at b h).price ∷ (traded (order_at b h) q (order_at b h).price ∷ [])))

-- LEG ORDER, at slot a of the state b that it has entered. Its trades are x; c is the state after the event.
pub record LegOrderSentence (b : State) (a : ℕ) (x : Moved) (c : State) : Type 0 where
  -- "trades with opposite leg orders that meet its price": what is left of it meets none
  pub trades_all : 0 < (order_at x.state a).contracts → (i : ℕ) → Met (order_at x.state a) (order_at x.state i) → ⊥
  -- ".. best price then number": where it has traded with one, nothing is left of one that goes before it
  pub best_first : (i j : ℕ) → (j ≡ a → ⊥) → Met (order_at b a) (order_at b i) → AheadOrder (order_at b a) (order_at b i) (order_at b j) →
      (order_at x.state j).contracts < (order_at b j).contracts → (order_at x.state i).contracts ≡ 0
  pub records : Trades b a x.records
  -- its trades touch no complex order
  pub entries : x.state.entries ≡ b.entries
  -- "If any rests, each day order .. gets a pass by legs only"
  pub passes : 0 < (order_at x.state a).contracts → (i : ℕ) → GetsPass x.state (order_at b a).series i → HadPass x.state c i
  -- nobody else does, and none if nothing rests
  pub no_others : (i : ℕ) → (entry_at c i).units < (entry_at x.state i).units → GetsPass x.state (order_at b a).series i
  pub none_rests : (order_at x.state a).contracts ≡ 0 → c ≡ x.state

-- AN ANSWER to the auction of strategy k, by an entry of that side: it is marked if the entry is opposite its starter, and else it is not.
pub record AnswersAuction (b : State) (k s : ℕ) (c : State) : Type 0 where
  pub opposite : (i : ℕ) → Starter b k i → ((entry_at b i).side ≡ s → ⊥) → (strategy_at c k).answered ≡ true
  pub same_side : (i : ℕ) → Starter b k i → (entry_at b i).side ≡ s → strategy_at c k ≡ strategy_at b k

-- a live sweep of the member, strategy, side and limit of an event
pub record SweepOf (e : GivenSweep) (f : Entry) : Type 0 where
  pub live : 0 < f.units
  pub life : f.life ≡ 4
  pub member : f.member ≡ e.member
  pub strategy : f.strategy ≡ e.strategy
  pub side : f.side ≡ e.side
  pub limit : f.level ≡ e.level

-- two sweeps of one member, strategy, side and limit
pub record Alike (e f : Entry) : Type 0 where
  pub sweep : e.life ≡ 4
  pub life : f.life ≡ 4
  pub member : f.member ≡ e.member
  pub strategy : f.strategy ≡ e.strategy
  pub side : f.side ≡ e.side
  pub limit : f.level ≡ e.level

-- no two such sweeps are live
abbrev pub OneSweep : State → Type 0
OneSweep b = (i j : ℕ) → i < j → 0 < (entry_at b i).units → 0 < (entry_at b j).units → Alike (entry_at b i) (entry_at b j) → ⊥

-- the new sweep stands in a slot
pub record NewSweep (b : State) (e : GivenSweep) (c : State) : Type 0 where
  pub at : ℕ
  pub sweep : SweepOf e (entry_at c at)
  pub number : (entry_at c at).number ≡ b.last + 1
  pub units : (entry_at c at).units ≡ e.units
  -- and in no other
  pub alone : (i : ℕ) → SweepOf e (entry_at c i) → i ≡ at

-- SWEEP, from b to what x leaves.
pub record SweepSentence (b : State) (e : GivenSweep) (x : Moved) : Type 0 where
  -- "same member, strategy, side and limit: the old one is cancelled by record first"
  pub replaces : (i : ℕ) → SweepOf e (entry_at b i) →
      x.records ≡ record { kind = Cancelled; number = (entry_at b i).number; place = 0; side = e.side; quantity = (entry_at b i).units; level = zero_level } ∷ []
  pub removes_none : ((i : ℕ) → SweepOf e (entry_at b i) → ⊥) → x.records ≡ []
  -- "0 units enters nothing"
  pub withdrawn : e.units ≡ 0 → (i : ℕ) → SweepOf e (entry_at x.state i) → ⊥
  pub no_number : e.units ≡ 0 → x.state.last ≡ b.last
  -- with units it enters under a new number, and none but it is live
  pub enters : 0 < e.units → NewSweep b e x.state
  pub number : 0 < e.units → x.state.last ≡ b.last + 1
  -- "any opposite sweep .. accepted meanwhile"
  pub answers : 0 < e.units → AnswersAuction b e.strategy e.side x.state
  pub not_answers : e.units ≡ 0 → x.state.strategies ≡ b.strategies
  pub other_auctions : (k : ℕ) → (k ≡ e.strategy → ⊥) → strategy_at x.state k ≡ strategy_at b k

-- the order at slot a is cancelled: one record 3 for all of it, and every other row is as it was
pub record CancelsIt (b : State) (a : ℕ) (x : Moved) : Type 0 where
  pub records : x.records ≡ record { kind = Cancelled; number = (entry_at b a).number; place = 0; side = (entry_at b a).side; quantity = (entry_at b a).units; level = zero_level } ∷ []
  pub ended : (entry_at x.state a).units ≡ 0
  pub others : (j : ℕ) → (j ≡ a → ⊥) → entry_at x.state j ≡ entry_at b j
  pub strategies : x.state.strategies ≡ b.strategies
  pub orders : x.state.orders ≡ b.orders

-- a limit of a side "is better than the known leg net of its own side (buy above bid net, sell below offer net)", in strategy k
pub data BetterThanNet (b : State) (side k level : ℕ) : Type 0 where
  above-bid : side ≡ 0 → 0 < bid_net b k → bid_net b k < level → BetterThanNet b side k level
  below-offer : side ≡ 1 → 0 < offer_net b k → level < offer_net b k → BetterThanNet b side k level

-- .. is not: at the bid net or below it for a buy, at the offer net or above it for a sell
pub data NoBetterThanNet (b : State) (side k level : ℕ) : Type 0 where
  not-above-bid : side ≡ 0 → 0 < bid_net b k → level ≤ bid_net b k → NoBetterThanNet b side k level
  not-below-offer : side ≡ 1 → 0 < offer_net b k → offer_net b k ≤ level → NoBetterThanNet b side k level

-- "Offer net takes offers for buy legs, bids for sell legs; bid net the reverse; unknown if a price is missing": on some leg of strategy k no leg order
-- stands on the side that the net of an entry's own side takes, the one that the entry itself would take on the leg
abbrev pub NetUnknown : State → ℕ → ℕ → Type 0
NetUnknown b side k =
    Any (λ (i : ℕ). (j : ℕ) → stands (leg_at (strategy_at b k) i).series (leg_side side (leg_at (strategy_at b k) i)) (order_at b j) ≡ false) (strategy_at b k).count

-- "class 1 or 2 with life 0 or 1 .. if its limit is better than the known leg net of its own side"
pub record StartsOne (b : State) (e : Entry) : Type 0 where
  pub class : (e.class ≡ 1) ⊎ (e.class ≡ 2)
  pub life : e.life ≤ 1
  pub limit : BetterThanNet b e.side e.strategy e.level

-- the order at slot a starts an auction: one record 4, and no row but its strategy's has changed: it trades nothing
pub record Begins (b : State) (a : ℕ) (x : Moved) : Type 0 where
  pub records : x.records ≡ record { kind = AuctionBegun; number = (entry_at b a).number; place = (entry_at b a).strategy; side = (entry_at b a).side; quantity = (entry_at b a).units; level = (entry_at b a).level } ∷ []
  pub entries : x.state.entries ≡ b.entries
  pub orders : x.state.orders ≡ b.orders
  pub starter : (strategy_at x.state (entry_at b a).strategy).starter ≡ (entry_at b a).number
  pub begun : (strategy_at x.state (entry_at b a).strategy).begun ≡ b.clock
  pub answered : (strategy_at x.state (entry_at b a).strategy).answered ≡ false

-- the order at slot a has a shared pass; what is left of a day order rests, others are cancelled
pub record PassesIt (b : State) (a : ℕ) (x : Moved) : Type 0 where
  pub passes_none : NonePassed AheadShared a b x.state
  pub strategies : x.state.strategies ≡ b.strategies
  pub had : HadTurn b x.state a true
  pub cancelled : ((entry_at b a).life ≡ 0 → ⊥) → (entry_at x.state a).units ≡ 0
  -- "and a day order rests": nothing comes after its pass, whatever stopped it
  pub stays : (entry_at b a).life ≡ 0 → x ≡ pass Shared true a b
  -- what is left of a day order rests where nothing meets it, or at a fill that is barred
  pub rests : (entry_at b a).life ≡ 0 → 0 < (entry_at x.state a).units → (MeetsNone x.state a × LegsMeetNone x.state a) ⊎ BarredHere x.state a true

-- COMPLEX ORDER, at slot a of the state b that it has entered.
pub record OrderSentence (b : State) (a : ℕ) (x : Moved) : Type 0 where
  -- "if a series is shut, day rests and others are cancelled"
  pub shut_rests : (Open b (entry_at b a).strategy → ⊥) → (entry_at b a).life ≡ 0 → x ≡ still b
  pub shut_cancels : (Open b (entry_at b a).strategy → ⊥) → ((entry_at b a).life ≡ 0 → ⊥) → CancelsIt b a x
  -- "If an auction runs, do-not-auction is cancelled and others wait"
  pub auction_cancels : Runs b (entry_at b a).strategy → (entry_at b a).life ≡ 3 → CancelsIt b a x
  pub auction_waits : Runs b (entry_at b a).strategy → ((entry_at b a).life ≡ 3 → ⊥) → (x.records ≡ []) × (x.state.entries ≡ b.entries) × (x.state.orders ≡ b.orders)
  pub answers : Runs b (entry_at b a).strategy → ((entry_at b a).life ≡ 3 → ⊥) → AnswersAuction b (entry_at b a).strategy (entry_at b a).side x.state
  -- "Otherwise class 1 or 2 with life 0 or 1 starts an auction if .."
  pub begins : Open b (entry_at b a).strategy → (strategy_at b (entry_at b a).strategy).starter ≡ 0 → StartsOne b (entry_at b a) → Begins b a x
  -- "Else a shared pass; then day rests, others are cancelled"
  pub passes : Open b (entry_at b a).strategy → (strategy_at b (entry_at b a).strategy).starter ≡ 0 → (StartsOne b (entry_at b a) → ⊥) → PassesIt b a x

-- a record 3 or 5: no fill
abbrev pub NoFill : Record → Type 0
NoFill r = IsKind 3 r ⊎ IsKind 5 r

-- an entry that a shut series ends: a sweep, response or immediate order of a strategy that holds it and had an auction
pub record Lapsed (b : State) (s i : ℕ) (c : State) : Type 0 where
  pub ended : (entry_at c i).units ≡ 0
  pub lapses : ((entry_at b i).life ≡ 1) ⊎ (((entry_at b i).life ≡ 2) ⊎ ((entry_at b i).life ≡ 4))
  pub holds : has (strategy_at b (entry_at b i).strategy).series s ≡ true
  pub ran : Runs b (entry_at b i).strategy

-- SERIES s, which was open, shuts.
pub record ShutSentence (b : State) (s : ℕ) (x : Moved) : Type 0 where
  -- "shut ends the auctions of strategies holding it .."
  pub ends : (k : ℕ) → has (strategy_at b k).series s ≡ true → (strategy_at x.state k).starter ≡ 0
  pub goes_on : (k : ℕ) → has (strategy_at b k).series s ≡ false → strategy_at x.state k ≡ strategy_at b k
  -- ".. without fills": records 3 and 5 alone, and every leg order is as it was
  pub no_fills : All NoFill x.records
  pub orders : x.state.orders ≡ b.orders
  -- ".. as above from the cancels on": who loses anything lapses, and none that lapses is left
  pub only_lapsed : (i : ℕ) → (entry_at x.state i).units < (entry_at b i).units → Lapsed b s i x.state
  pub day_left : (i : ℕ) → has (strategy_at b (entry_at b i).strategy).series s ≡ true → 0 < (entry_at x.state i).units → (entry_at b i).life ≡ 0
  pub is_shut : has x.state.opened s ≡ false
  pub others : (t : ℕ) → (t ≡ s → ⊥) → has x.state.opened t ≡ has b.opened t

-- "the active order's whole fill, its leg fills by leg, then the other side's likewise", "price 0 where whole met whole"
abbrev pub match_records : State → ℕ → ℕ → ℕ → ℕ → List Record
match_records b i h level q =
    party_records (entry_at b i) (strategy_at b (entry_at b i).strategy) q level (replicate 6 0)
    ++ party_records (entry_at b h) (strategy_at b (entry_at b i).strategy) q level (replicate 6 0)

-- the records of the matches: "best buy with best sell .. while they meet, at the lower number's limit, its order active"
pub data Matches (b : State) : List Record → Type 0 where
  no-match : Matches b []
  and-match : {rs : List Record} → Matches b rs → (i h q : ℕ) → (entry_at b i).number < (entry_at b h).number → (entry_at b h).strategy ≡ (entry_at b i).strategy →
      ((entry_at b h).side ≡ (entry_at b i).side → ⊥) → meets (entry_at b h).side (entry_at b h).level (entry_at b i).level ≡ true → 0 < q → Matches b (rs ++ match_records b i h (entry_at b i).level q)

-- 2026-01: "A .. opening match stops at the first fill that either complex party may not take": at a moment between b and c the best buy and the
-- best sell of strategy k meet, the lower number at i, the other at h, and one of them may not fill at the limit of i
pub record MatchBarred (b : State) (k : ℕ) (c : State) : Type 0 where
  pub moment : State
  pub since : Shrinks b moment
  pub until : Shrinks moment c
  pub i : ℕ
  pub h : ℕ
  pub live : (0 < (entry_at moment i).units) × (0 < (entry_at moment h).units)
  pub strategy : ((entry_at moment i).strategy ≡ k) × ((entry_at moment h).strategy ≡ k)
  pub sides : (entry_at moment h).side ≡ (entry_at moment i).side → ⊥
  pub number : (entry_at moment i).number < (entry_at moment h).number
  pub best : (j : ℕ) → Beside (entry_at moment j) (entry_at moment i) → AheadNumbered (entry_at moment j) (entry_at moment i) → (entry_at moment j).units ≡ 0
  pub its_best : (j : ℕ) → Beside (entry_at moment j) (entry_at moment h) → AheadNumbered (entry_at moment j) (entry_at moment h) → (entry_at moment j).units ≡ 0
  pub meets : meets (entry_at moment h).side (entry_at moment h).level (entry_at moment i).level ≡ true
  pub barred : may_meet (bounds_at moment k) (entry_at moment i).level ≡ false

-- SERIES s opens: from b, in which it is open already, by the matches x to c.
pub record OpenSentence (b : State) (s : ℕ) (x : Moved) (c : State) : Type 0 where
  -- "(price, then number)": where one has traded, nothing is left of one beside it that goes before it
  pub best_first : (i j : ℕ) → Beside (entry_at b i) (entry_at b j) → AheadNumbered (entry_at b i) (entry_at b j) → (entry_at x.state j).units < (entry_at b j).units → (entry_at x.state i).units ≡ 0
  pub records : Matches b x.records
  pub orders : x.state.orders ≡ b.orders
  -- ".. while they meet": afterwards no buy of an all-open strategy that holds it is at or above a sell, if its match was not barred
  pub apart : (k : ℕ) → has (strategy_at b k).series s ≡ true → Open b k → MatchBarred b k x.state ⊎ ((i j : ℕ) → 0 < (entry_at c i).units → 0 < (entry_at c j).units → (entry_at b i).strategy ≡ k → (entry_at b j).strategy ≡ k →
      (entry_at b i).side ≡ 0 → (entry_at b j).side ≡ 1 → (entry_at b i).level < (entry_at b j).level)
  -- "when all have matched, the legs-only passes"
  pub passes : (i : ℕ) → GetsPass x.state s i → HadPass x.state c i
  pub no_others : (i : ℕ) → (entry_at c i).units < (entry_at x.state i).units → GetsPass x.state s i
  pub strategies : c.strategies ≡ b.strategies

-- SERIES s, to that state: 0 shut, else open.
pub record SeriesSentence (b : State) (s state : ℕ) (x : Moved) : Type 0 where
  -- "No change of state does nothing."
  pub open_already : has b.opened s ≡ true → (state ≡ 0 → ⊥) → x ≡ still b
  pub shut_already : has b.opened s ≡ false → state ≡ 0 → x ≡ still b
  pub shuts : has b.opened s ≡ true → state ≡ 0 → ShutSentence b s x
  pub opens : has b.opened s ≡ false → (state ≡ 0 → ⊥) → OpenSentence (with_opened b (b.opened + 2 ^ s)) s (each (match_in s) 16 (with_opened b (b.opened + 2 ^ s))) x.state
  pub is_open : has b.opened s ≡ false → (state ≡ 0 → ⊥) → (t : ℕ) → has x.state.opened t ≡ pick (eqb t s) true (has b.opened t)

-- DAY END, with the next day's timer.
pub record DayEndSentence (b : State) (timer : ℕ) (x : Moved) : Type 0 where
  pub fives : List Record
  pub threes : List Record
  pub records : x.records ≡ fives ++ threes
  -- "records 5 by strategy": of each auction that runs, and no other
  pub five_each : (k : ℕ) → Runs b k → Memᴰ (auction_ended b k) fives
  pub five_only : All (λ (r : Record). Runs b r.place × (r ≡ auction_ended b r.place)) fives
  pub five_order : Sorted (λ (r s : Record). r.place < s.place) fives
  -- "3 by number": of each live order, sweep and leg order, and no other
  pub three_entries : (i : ℕ) → 0 < (entry_at b i).units → Memᴰ (cancelled_record (entry_at b i)) threes
  pub three_orders : (i : ℕ) → 0 < (order_at b i).contracts → Memᴰ (cancelled_leg_record (order_at b i)) threes
  pub three_only : All (IsKind 3) threes
  pub three_order : Sorted (λ (r s : Record). r.number < s.number) threes
  -- "then a fresh book with the new timer"
  pub anew : x.state ≡ fresh timer

-- NATIONAL PRICES of a series, from b to what x leaves.
pub record NationalSentence (b : State) (e : GivenNational) (x : Moved) : Type 0 where
  -- "Kind 9 carries series, national bid (4) and offer (4), .. 0 meaning missing": both are as it says, of that series alone
  pub set : get_or x.state.national e.series no_quote ≡ record { bid = e.bid; offer = e.offer }
  pub others : (s : ℕ) → (s ≡ e.series → ⊥) → get_or x.state.national s no_quote ≡ get_or b.national s no_quote
  -- "Both kinds change nothing else."; the value is 0
  pub rest : x.state ≡ with_national b x.state.national
  pub records : x.records ≡ []
  pub value : value_of b (E.National e) ≡ 0

-- THE EXECUTION RANGE, from b to what x leaves.
pub record RangeSentence (b : State) (e : GivenRange) (x : Moved) : Type 0 where
  -- "Kind 10 carries the range in cents"
  pub set : x.state.range ≡ e.range
  -- "Both kinds change nothing else."; the value is 0
  pub rest : x.state ≡ with_range b x.state.range
  pub records : x.records ≡ []
  pub value : value_of b (E.Range e) ≡ 0

-- THE SPECIALIST of a strategy (2026-04), from b to what x leaves.
pub record SpecialistSentence (b : State) (e : GivenSpecialist) (x : Moved) : Type 0 where
  -- "It sets the strategy's specialist": "the last one named holds"
  pub set : (strategy_at x.state e.strategy).specialist ≡ record { member = e.member; percentage = e.percentage }
  -- nothing else of the strategy, its auction included, and no other strategy
  pub legs : (strategy_at x.state e.strategy).legs ≡ (strategy_at b e.strategy).legs
  pub count : (strategy_at x.state e.strategy).count ≡ (strategy_at b e.strategy).count
  pub series : (strategy_at x.state e.strategy).series ≡ (strategy_at b e.strategy).series
  pub starter : (strategy_at x.state e.strategy).starter ≡ (strategy_at b e.strategy).starter
  pub begun : (strategy_at x.state e.strategy).begun ≡ (strategy_at b e.strategy).begun
  pub answered : (strategy_at x.state e.strategy).answered ≡ (strategy_at b e.strategy).answered
  pub others : (k : ℕ) → (k ≡ e.strategy → ⊥) → strategy_at x.state k ≡ strategy_at b k
  pub rest : x.state ≡ with_strategies b x.state.strategies b.defined
  -- no record, and the value is 0
  pub records : x.records ≡ []
  pub value : value_of b (E.Specialist e) ≡ 0

-- a leg of the event stands in a row of the strategy, its ratio divided by d
pub record Placed (s : Strategy) (l : Leg) (d : ℕ) : Type 0 where
  pub at : ℕ
  pub row : at < 6
  pub series : (leg_at s at).series ≡ l.series
  pub side : (leg_at s at).side ≡ l.side
  pub ratio : d * (leg_at s at).ratio ≡ l.ratio

-- STRATEGY: the number that is answered is n, the state after the event c.
pub record StrategySentence (b : State) (e : GivenStrategy) (n : ℕ) (c : State) : Type 0 where
  -- "Ratios are divided by their greatest common divisor": every leg stands in strategy n, divided by one number ..
  pub divisor : ℕ
  pub legs : (i : ℕ) → i < e.count → Placed (strategy_at c n) (get_or (legs_given e) i no_leg) divisor
  -- .. and no number above 1 divides what is left of all of them
  pub lowest : (t : ℕ) → ((p : ℕ) → p < 6 → Divides t (leg_at (strategy_at c n) p).ratio) → t ≡ 1
  -- it has no other leg, and they stand by rising series
  pub no_other : (p : ℕ) → p < 6 → 0 < (leg_at (strategy_at c n) p).ratio → Any (λ (i : ℕ). (get_or (legs_given e) i no_leg).series ≡ (leg_at (strategy_at c n) p).series) e.count
  pub rising : (p q : ℕ) → p < q → q < 6 → 0 < (leg_at (strategy_at c n) p).ratio → 0 < (leg_at (strategy_at c n) q).ratio → (leg_at (strategy_at c n) p).series < (leg_at (strategy_at c n) q).series
  -- "an equal one answers its old number and takes no slot": n is the first with these legs ..
  pub equal : (k : ℕ) → k < b.defined → ((p : ℕ) → p < 6 → leg_at (strategy_at b k) p ≡ leg_at (strategy_at c n) p) → (c ≡ b) × (n ≤ k)
  -- .. "else the next number from 0"
  pub next : (c ≡ b) ⊎ ((n ≡ b.defined) × (c.defined ≡ b.defined + 1))
  pub others : (k : ℕ) → (k ≡ n → ⊥) → strategy_at c k ≡ strategy_at b k
  pub entries : c.entries ≡ b.entries
  pub orders : c.orders ≡ b.orders
  -- 2026-04: a new strategy has no specialist yet
  pub unnamed : (c ≡ b) ⊎ ((strategy_at c n).specialist.member ≡ 0)

-- THE SENTENCE OF AN EVENT, from b. An order or leg order is looked at in the state that it has entered.
abbrev pub Sentence : State → Event → Type 0
Sentence b (E.Strategy e) = StrategySentence b e (value_of b (E.Strategy e)) (accept b (E.Strategy e)).state
Sentence b (E.Order e) = OrderSentence (enter (order_given b e) b) (free_slot b) (accept b (E.Order e))
Sentence b (E.Sweep e) = SweepSentence b e (accept b (E.Sweep e))
Sentence b (E.LegOrder e) =
    LegOrderSentence (enter_order (leg_order_given b e) b) (free_order_slot b) (trade_all (free_order_slot b) (enter_order (leg_order_given b e) b)) (accept b (E.LegOrder e)).state
Sentence b (E.Cancel e) = CancelSentence b e.member e.number (accept b (E.Cancel e))
Sentence b (E.Series e) = SeriesSentence b e.series e.state (accept b (E.Series e))
Sentence b (E.Clock e) = ClockSentence b e.time (accept b (E.Clock e))
Sentence b (E.DayEnd e) = DayEndSentence b e.timer (accept b (E.DayEnd e))
Sentence b (E.National e) = NationalSentence b e (accept b (E.National e))
Sentence b (E.Range e) = RangeSentence b e (accept b (E.Range e))
Sentence b (E.Specialist e) = SpecialistSentence b e (accept b (E.Specialist e))

-- A STATE OF THE BOOK: valid, and without two sweeps of one member, strategy, side and limit. Every state that frames lead to is one.
pub record ReachedState (b : State) : Type 0 where
  pub valid : Valid b
  pub sweeps : OneSweep b

-- WHEN AN EVENT IS ACCEPTED: exactly where these hold. "The smallest number that applies is given .., and never otherwise."

-- a complex order: its strategy is defined (4), an auction runs in it if it is a response (9), a slot (12) and a number (13) are left
pub record OrderMay (b : State) (e : GivenOrder) : Type 0 where
  pub defined : e.strategy < b.defined
  pub response : e.life ≡ 2 → Runs b e.strategy
  pub slot : sum_n (is_order_at b) table_rows < order_slots
  pub number : b.last < 100_000

-- a sweep: its strategy is defined (4) and an auction runs in it (9); one of 0 units has one to remove (10); one with units is better than the leg
-- net of its side, or that is unknown (15), replaces one or has a slot (12), and has a number (13)
pub record SweepMay (b : State) (e : GivenSweep) : Type 0 where
  pub defined : e.strategy < b.defined
  pub auction : Runs b e.strategy
  pub removes : e.units ≡ 0 → Any (λ (i : ℕ). SweepOf e (entry_at b i)) table_rows
  pub betters : 0 < e.units → NetUnknown b e.side e.strategy ⊎ BetterThanNet b e.side e.strategy e.level
  pub slot : 0 < e.units → Any (λ (i : ℕ). SweepOf e (entry_at b i)) table_rows ⊎ (sum_n (is_sweep_at b) table_rows < sweep_slots)
  pub number : 0 < e.units → b.last < 100_000

-- 2026-03: "A sweep that betters nothing is refused with 15, checked between 10 and 11": the frame is a sweep, of which nothing that is checked before
-- applies: the space is long enough (1), it is read (2, 3), its strategy is defined (4), an auction runs in it (9), it has units (so not 10); and it is no
-- better than a known leg net of its side
pub record BettersNothing (b : State) (frame : List ℕ) (space : ℕ) : Type 0 where
  pub sweep : GivenSweep
  pub reading : read_of frame ≡ Ok (E.Sweep sweep)
  pub room : record_space ≤ space
  pub defined : sweep.strategy < b.defined
  pub auction : Runs b sweep.strategy
  pub units : 0 < sweep.units
  pub nothing : NoBetterThanNet b sweep.side sweep.strategy sweep.level

-- a leg order: its series is open (6), a slot (12) and a number (13) are left
pub record LegOrderMay (b : State) (e : GivenLegOrder) : Type 0 where
  pub is_open : has b.opened e.series ≡ true
  pub slot : sum_n (is_leg_order_at b) table_rows < leg_order_slots
  pub number : b.last < 100_000

-- a specialist: its strategy is defined (4)
abbrev pub SpecialistMay : State → GivenSpecialist → Type 0
SpecialistMay b e = e.strategy < b.defined

-- national prices: a bid that is not above the offer, or one of them missing (14)
abbrev pub NationalMay : GivenNational → Type 0
NationalMay e = (e.bid ≡ 0) ⊎ ((e.offer ≡ 0) ⊎ (e.bid ≤ e.offer))

-- a clock: not below the last accepted one (11)
abbrev pub ClockMay : State → ℕ → Type 0
ClockMay b t = b.clock ≤ t

-- 2026-05: two states that differ in the stored nets alone
abbrev pub SameButNets : State → State → Type 0
SameButNets b c = with_nets b [] ≡ with_nets c []

-- 2026-05: "answers and records are those of today": two outcomes with one answer, one value and the same records, whose states differ in the
-- stored nets alone
pub record OfToday (x y : Outcome) : Type 0 where
  pub answer : x.answer ≡ y.answer
  pub value : x.value ≡ y.value
  pub records : x.moved.records ≡ y.moved.records
  pub state : SameButNets x.moved.state y.moved.state

-- 2026-05: "the stored nets of each strategy held are those of the leg books"
pub record NetsTrue (b : State) : Type 0 where
  pub held : (k : ℕ) → k < b.defined → nets_stored b k ≡ record { bid = bid_net b k; offer = offer_net b k }

-- .. and what keeps it so from move to move: the tables have their rows, and each strategy held has legs
pub record NetsKept (b : State) : Type 0 where
  pub stored : Netted b
  pub strategy_rows : length b.strategies ≡ strategy_slots
  pub order_rows : length b.orders ≡ table_rows
  pub defined : b.defined ≤ strategy_slots
  pub legs : (k : ℕ) → k < b.defined → 0 < (strategy_at b k).count
