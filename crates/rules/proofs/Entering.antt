-- The fresh state is sound; what enters, is defined, or is set leaves a sound state sound, and so does a move that only lessens quantities.
use mathlib.Core.Path.{◌≡◌, refl, ◌∙◌, ap}
use mathlib.Core.Bool.{Bool, true, false, not}
use mathlib.Core.Logic.{⊎_elim}
use mathlib.Core.List.{List, []}
use Prim.Native.Nat.{ℕ, suc, ◌+◌, ◌^◌, ◌≤◌, ◌<◌}
use native.Mathlib.Nat.{le_refl}
use native.Mathlib.Omega.{arith}
use borrow.Author.Tests.{eqb-true, ne_eqb, not-true, not-false}
use lib.Count.{ones_in}
use lib.Dec.{eqb}
use lib.ListN.{length, get_or, replicate, length-set, length-replicate, set}
use lib.Seq.{get_or-set_same, get_or-set_other}
use Rattle.base.specs.Pick.{pick, pick-by, pick_all, pick_true, pick-false}
use Rattle.base.specs.Walks.{sum_n, sum-zero, sum_mono, below}
use Rattle.base.specs.All.{all_nil, all-at, all_set, all_replicate, All}
use Rattle.base.specs.Sets.{size_of}
use Rattle.rules.specs.declared.Leg.{Leg}
use Rattle.rules.specs.declared.Strategy.{Strategy}
use Rattle.rules.specs.declared.Entry.{Entry}
use Rattle.rules.specs.declared.LegOrder.{LegOrder}
use Rattle.rules.specs.declared.Quote.{Quote}
use Rattle.rules.specs.declared.LegNets.{LegNets}
use Rattle.rules.specs.declared.State.{State}
use Rattle.rules.specs.Sizes.{strategy_slots, series_count}
use Rattle.rules.specs.State.{no_specialist, no_leg, no_entry, no_order, no_quote, no_strategy, free_strategy, fresh, entry_at, order_at, strategy_at, with_entries, with_orders, with_strategies, with_opened, with_clock, with_last, with_national, with_range, with_nets, Netted}
use Rattle.rules.specs.Nets.{nets_in}
use Rattle.rules.specs.Strategies.{held, added, define}
use Rattle.rules.specs.Events.{live, live_order, keep, enter, enter_order, free_slot}
use Rattle.rules.specs.Refusals.{is_order, is_sweep, is_leg_order, is_order_at, is_sweep_at, is_leg_order_at}
use Rattle.rules.specs.Valid.{FitLeg, FitStrategy, FitEntry, FitOrder, FitQuote, LiveEntry, LiveOrder, Sound}
use Rattle.rules.proofs.Tables.{all_of, tally, sum-tally, tally-plus, Stands, keep_all, keep-length, behind-length, behind-all, behind-slot, behind-other, behind-tally, behind-stands, behind-live, behind-ordered, positive}
use Rattle.rules.proofs.NetTables.{nets-set, fresh-nets}
use Rattle.rules.proofs.Shrinks.{SameEntry, SameOrder, SameStrategy, Shrinks}

-- The tests of the live rows.

pub live_pos : (e : Entry) → live e ≡ true → 0 < e.units
unfolding live
live_pos e h = positive e.units (not-true _ h)

pub pos-live : (e : Entry) → 0 < e.units → live e ≡ true
unfolding live
pos-live e h = ap not (ne_eqb e.units 0 (λ z. omega arith))

pub dead-zero : (e : Entry) → live e ≡ false → e.units ≡ 0
unfolding live
dead-zero e h = eqb-true _ 0 (not-false _ h)

pub none-live : live no_entry ≡ false
unfolding live
none-live = refl

pub none-order : live_order no_order ≡ false
unfolding live_order
none-order = refl

-- Those that count as orders and as sweeps.

pub order-dead : (e : Entry) → live e ≡ false → is_order e ≡ 0
unfolding is_order
order-dead e h = pick-false _ _ _ h

pub sweep-dead : (e : Entry) → live e ≡ false → is_sweep e ≡ 0
unfolding is_sweep
sweep-dead e h = pick-false _ _ _ h

pub order-live : (e : Entry) → live e ≡ true → is_order e ≡ pick (eqb e.life 4) 0 1
unfolding is_order
order-live e h = pick_true _ _ _ h

pub sweep-live : (e : Entry) → live e ≡ true → is_sweep e ≡ pick (eqb e.life 4) 1 0
unfolding is_sweep
sweep-live e h = pick_true _ _ _ h

one-kind : (e : Entry) → is_order e + is_sweep e ≡ pick (live e) 1 0
unfolding is_order is_sweep pick
one-kind e = go (live e) (eqb e.life 4)
  where
    go : (t u : Bool) → pick t (pick u 0 1) 0 + pick t (pick u 1 0) 0 ≡ pick {A = ℕ} t 1 0
    go true true = refl
    go true false = refl
    go false u = refl

pub order-one : (e : Entry) → is_order e ≤ 1
order-one e = omega (arith, one-kind e, pick_all (λ (n : ℕ). n ≤ 1) (live e) {a = 1} {b = 0} (omega arith) (omega arith))

-- Empty rows are fit.

pub fit_none : FitEntry no_entry
fit_none = record { number = omega arith; member = omega arith; strategy = omega arith; side = omega arith; class = omega arith; life = omega arith; units = omega arith; level = omega arith }

pub fit-no-order : FitOrder no_order
fit-no-order = record { number = omega arith; member = omega arith; series = omega arith; side = omega arith; contracts = omega arith; price = omega arith }

pub fit-no-leg : FitLeg no_leg
fit-no-leg = record { series = omega arith; side = omega arith; ratio = omega arith }

no_ones : size_of 0 ≡ 0
unfolding size_of ones_in
no_ones = refl

-- a strategy with no leg in use and no auction
fit-unused : (legs : List Leg) → All FitLeg legs → FitStrategy (record { legs = legs; count = 0; series = 0; starter = 0; begun = 0; answered = false; specialist = no_specialist })
fit-unused legs a = record {
  count = omega arith;
  legs = a;
  used = λ i h. absurd (omega arith);
  rising = λ i j h l. absurd (omega arith);
  held = λ i h. absurd (omega arith);
  ones = no_ones;
  series = omega arith;
  starter = omega arith;
  begun = omega arith;
  percentage = omega arith;
}

pub fit-past : FitStrategy no_strategy
fit-past = fit-unused [] all_nil

pub fit_free : FitStrategy free_strategy
fit_free = fit-unused (replicate 6 no_leg) (all_replicate no_leg fit-no-leg 6)

-- Live rows of a state in which more numbers were given and more strategies are defined.

pub live_more : {b c : State} {e : Entry} → b.last ≤ c.last → b.defined ≤ c.defined → LiveEntry b e → LiveEntry c e
live_more h k l = record { given = (l.given.0, omega (arith, l.given.1)); level = l.level; strategy = omega (arith, l.strategy) }

pub order-more : {b c : State} {o : LegOrder} → b.last ≤ c.last → LiveOrder b o → LiveOrder c o
order-more h l = record { given = (l.given.0, omega (arith, l.given.1)); price = l.price }

-- The fresh state.

same-all : {A : Type 0} (d : A) (n i : ℕ) → get_or (replicate n d) i d ≡ d
same-all d n i = all-at {P = λ (y : _). y ≡ d} d refl (all_replicate d refl n) i

pub sound-fresh : (timer : ℕ) → 1 ≤ timer → timer ≤ 5000 → Sound (fresh timer)
unfolding fresh
sound-fresh timer h k = record {
  strategies = all_replicate free_strategy fit_free 16;
  entries = all_replicate no_entry fit_none 32;
  orders = all_replicate no_order fit-no-order 32;
  strategy_rows = length-replicate 16 free_strategy;
  entry_rows = length-replicate 32 no_entry;
  order_rows = length-replicate 32 no_order;
  defined = omega arith;
  opened = omega arith;
  clock = omega arith;
  timer = (h, k);
  last = omega arith;
  national = all_replicate no_quote (record { bid = omega arith; offer = omega arith }) series_count;
  quote_rows = length-replicate series_count no_quote;
  range = omega arith;
  nets = record { are = fresh-nets };
  undefined = λ i _. all-at {P = λ (s : Strategy). (s.count ≡ 0) × (s.series ≡ 0) × (s.starter ≡ 0)} no_strategy (refl, refl, refl) (all_replicate free_strategy (refl, refl, refl) 16) i;
  legs = λ i l. absurd (omega arith);
  live = λ i l. absurd (dead i l);
  live_order = λ i l. absurd (empty i l);
  rising = λ i j _ l _. absurd (dead i l);
  rising_orders = λ i j _ l _. absurd (empty i l);
  apart = λ i j l _ _. dead i l;
  complex_orders = rw (sum-zero _ 32 (λ i _. ap is_order (same-all no_entry 32 i) ∙ order-dead no_entry none-live)) (omega arith);
  sweeps = rw (sum-zero _ 32 (λ i _. ap is_sweep (same-all no_entry 32 i) ∙ sweep-dead no_entry none-live)) (omega arith);
}
  where
    dead : (i : ℕ) → 0 < (get_or (replicate 32 no_entry) i no_entry).units → ⊥
    dead i l = omega (arith, ap (λ (e : Entry). e.units) (same-all no_entry 32 i))

    empty : (i : ℕ) → 0 < (get_or (replicate 32 no_order) i no_order).contracts → ⊥
    empty i l = omega (arith, ap (λ (o : LegOrder). o.contracts) (same-all no_order 32 i))

-- nothing lives in it and no auction runs
pub fresh-dead : (timer i : ℕ) → (entry_at (fresh timer) i).units ≡ 0
unfolding fresh
fresh-dead timer i = ap (λ (e : Entry). e.units) (same-all no_entry 32 i)

pub fresh-auction : (timer k : ℕ) → ((strategy_at (fresh timer) k).starter ≡ 0) × ((strategy_at (fresh timer) k).begun ≡ 0)
unfolding fresh
fresh-auction timer k =
    all-at {P = λ (s : Strategy). (s.starter ≡ 0) × (s.begun ≡ 0)} no_strategy (refl, refl) (all_replicate free_strategy (refl, refl) 16) k

-- An entry that may enter: in range, live, under the next number, in a strategy that is defined, with room in its table.
pub record Entering (b : State) (e : Entry) : Type 0 where
  pub fit : FitEntry e
  pub number : e.number ≡ b.last + 1
  pub live : 0 < e.units
  pub level : 1 ≤ e.level
  pub strategy : e.strategy < b.defined
  pub orders : sum_n (is_order_at b) 32 + is_order e ≤ 16
  pub sweeps : sum_n (is_sweep_at b) 32 + is_sweep e ≤ 16

module _ (b : State) (e : Entry) (s : Sound b) (n : Entering b e) where
  total-orders : sum_n (is_order_at b) 32 ≡ tally is_order b.entries
  total-orders = sum-tally is_order no_entry (order-dead no_entry none-live) b.entries 32 (omega (arith, s.entry_rows))

  total-sweeps : sum_n (is_sweep_at b) 32 ≡ tally is_sweep b.entries
  total-sweeps = sum-tally is_sweep no_entry (sweep-dead no_entry none-live) b.entries 32 (omega (arith, s.entry_rows))

  -- a slot is free
  pub enter-room : length (keep live b.entries) < 32
  enter-room =
      omega (
        arith,
        keep-length live no_entry (λ (y : Entry). is_order y + is_sweep y) one-kind b.entries,
        tally-plus is_order is_sweep b.entries,
        total-orders,
        total-sweeps,
        one-kind e,
        pick_true {A = ℕ} (live e) 1 0 (pos-live e n.live),
        n.orders,
        n.sweeps,
      )

  pub sound-enter : Sound (enter e b)
  unfolding enter with_last with_entries
  sound-enter = record {
    strategies = s.strategies;
    entries = behind-all live no_entry e b.entries fit_none n.fit s.entries;
    orders = s.orders;
    strategy_rows = s.strategy_rows;
    entry_rows = behind-length live no_entry e b.entries;
    order_rows = s.order_rows;
    defined = s.defined;
    opened = s.opened;
    clock = s.clock;
    timer = s.timer;
    last = n.fit.number;
    national = s.national;
    quote_rows = s.quote_rows;
    range = s.range;
    nets = record { are = s.nets.are };
    undefined = s.undefined;
    legs = s.legs;
    live = behind-live live no_entry (λ (y : Entry). y.units) refl e b.entries (LiveEntry (enter e b)) (record { given = (omega (arith, n.number), le_refl _); level = n.level; strategy = n.strategy })
        (λ i h. live_more (omega (arith, n.number)) (le_refl _) (s.live i h));
    live_order = λ i h. order-more (omega (arith, n.number)) (s.live_order i h);
    rising = behind-ordered live no_entry (λ (y : Entry). y.units) refl e b.entries (λ (y z : Entry). y.number < z.number)
        (λ i h. omega (arith, n.number, (s.live i h).given.1)) s.rising;
    rising_orders = s.rising_orders;
    apart = λ i j h. behind-live live no_entry (λ (y : Entry). y.units) refl e b.entries (λ (y : Entry). (j : ℕ) → 0 < (order_at b j).contracts → y.number ≡ (order_at b j).number → ⊥)
        (λ j k q. omega (arith, n.number, (s.live_order j k).given.1)) (λ i h j. s.apart i j h) i h j;
    complex_orders = omega (arith, behind-tally live no_entry e b.entries is_order none-live order-dead enter-room, total-orders, n.orders);
    sweeps = omega (arith, behind-tally live no_entry e b.entries is_sweep none-live sweep-dead enter-room, total-sweeps, n.sweeps);
  }

  -- it stands in the slot that was free
  pub enter-slot : entry_at (enter e b) (free_slot b) ≡ e
  unfolding enter with_last with_entries free_slot
  enter-slot = behind-slot live no_entry e b.entries enter-room

  pub enter-free : free_slot b < 32
  unfolding free_slot
  enter-free = enter-room

  -- what holds of the live entries holds of those in the other slots
  pub enter-other : (P : Entry → Type 0) → ((i : ℕ) → 0 < (entry_at b i).units → P (entry_at b i)) → (j : ℕ) → (j ≡ free_slot b → ⊥) → 0 < (entry_at (enter e b) j).units → P (entry_at (enter e b) j)
  unfolding enter with_last with_entries free_slot
  enter-other P h j k =
      behind-other live no_entry e b.entries (λ (y : Entry). 0 < y.units → P y) (λ z. absurd (omega arith))
      (keep_all live no_entry (all_of (λ (y : Entry). 0 < y.units → P y) no_entry b.entries h)) j k

  -- a live entry stands on
  pub enter-stands : (i : ℕ) → i < 32 → 0 < (entry_at b i).units → Stands no_entry (enter e b).entries (entry_at b i)
  unfolding enter with_last with_entries
  enter-stands i h k = behind-stands live no_entry e b.entries enter-room i (omega (arith, s.entry_rows)) (pos-live (entry_at b i) k)

-- A leg order that may enter.
pub record EnteringOrder (b : State) (o : LegOrder) : Type 0 where
  pub fit : FitOrder o
  pub number : o.number ≡ b.last + 1
  pub live : 0 < o.contracts
  pub price : 1 ≤ o.price
  pub room : sum_n (is_leg_order_at b) 32 < 32

leg-order-is : (o : LegOrder) → is_leg_order o ≡ pick (live_order o) 1 0
unfolding is_leg_order
leg-order-is o = refl

module _ (b : State) (o : LegOrder) (s : Sound b) (n : EnteringOrder b o) where
  pub enter_order-room : length (keep live_order b.orders) < 32
  enter_order-room =
      omega (
        arith,
        keep-length live_order no_order is_leg_order leg-order-is b.orders,
        sum-tally is_leg_order no_order (leg-order-is no_order ∙ pick-false _ _ _ none-order) b.orders 32 (omega (arith, s.order_rows)),
        n.room,
      )

  pub sound-enter_order : Sound (enter_order o b)
  unfolding enter_order with_last with_orders
  sound-enter_order = record {
    strategies = s.strategies;
    entries = s.entries;
    orders = behind-all live_order no_order o b.orders fit-no-order n.fit s.orders;
    strategy_rows = s.strategy_rows;
    entry_rows = s.entry_rows;
    order_rows = behind-length live_order no_order o b.orders;
    defined = s.defined;
    opened = s.opened;
    clock = s.clock;
    timer = s.timer;
    last = n.fit.number;
    national = s.national;
    quote_rows = s.quote_rows;
    range = s.range;
    nets = record { are = refl };
    undefined = s.undefined;
    legs = s.legs;
    live = λ i h. live_more (omega (arith, n.number)) (le_refl _) (s.live i h);
    live_order = behind-live live_order no_order (λ (y : LegOrder). y.contracts) refl o b.orders (LiveOrder (enter_order o b)) (record { given = (omega (arith, n.number), le_refl _); price = n.price })
        (λ i h. order-more (omega (arith, n.number)) (s.live_order i h));
    rising = s.rising;
    rising_orders = behind-ordered live_order no_order (λ (y : LegOrder). y.contracts) refl o b.orders (λ (y z : LegOrder). y.number < z.number)
        (λ i h. omega (arith, n.number, (s.live_order i h).given.1)) s.rising_orders;
    apart = λ i j h. behind-live live_order no_order (λ (y : LegOrder). y.contracts) refl o b.orders (λ (y : LegOrder). (entry_at b i).number ≡ y.number → ⊥) (λ q. omega (arith, n.number, (s.live i h).given.1)) (λ j. s.apart i j h) j;
    complex_orders = s.complex_orders;
    sweeps = s.sweeps;
  }

-- A strategy that is defined.

pub netted-added : (b : State) (t : Strategy) → b.defined < strategy_slots → length b.strategies ≡ strategy_slots → Netted b → Netted (added t b)
unfolding added with_strategies with_nets
netted-added b t room rows n = record {
  are = ap (λ (ns : List LegNets). set ns b.defined (nets_in b.orders t)) n.are ∙ nets-set b.orders b.strategies b.defined t room rows;
}

pub sound-define : (b : State) (t : Strategy) → Sound b → FitStrategy t → 2 ≤ t.count → (held b t ≡ false → b.defined < 16) → Sound (define t b)
unfolding define added with_strategies with_nets
sound-define b t s f two room =
    pick-by Sound (held b t) (λ _. s)
    (λ e.
    let r : b.defined < 16 = room e in
    record {
      strategies = all_set t f s.strategies b.defined;
      entries = s.entries;
      orders = s.orders;
      strategy_rows = length-set b.strategies b.defined t ∙ s.strategy_rows;
      entry_rows = s.entry_rows;
      order_rows = s.order_rows;
      defined = omega arith;
      opened = s.opened;
      clock = s.clock;
      timer = s.timer;
      last = s.last;
      national = s.national;
      quote_rows = s.quote_rows;
      range = s.range;
      nets = netted-added b t r s.strategy_rows s.nets;
      undefined = λ k h. rw (get_or-set_other b.strategies b.defined k t no_strategy (λ q. omega arith)) (s.undefined k (omega arith));
      legs = λ k h. ⊎_elim
          (λ q. rw (q, get_or-set_same b.strategies b.defined t no_strategy (omega (arith, s.strategy_rows))) two)
          (λ l. rw (get_or-set_other b.strategies b.defined k t no_strategy (λ q. omega arith)) (s.legs k l))
          (below (later k b.defined h));
      live = λ i h. live_more (le_refl _) (omega arith) (s.live i h);
      live_order = λ i h. order-more (le_refl _) (s.live_order i h);
      rising = s.rising;
      rising_orders = s.rising_orders;
      apart = s.apart;
      complex_orders = s.complex_orders;
      sweeps = s.sweeps;
    })
  where
    later : (k n : ℕ) → k < n + 1 → k < suc n
    later k n h = omega arith

-- The clock and the open series.

sound-set : (b : State) (t o : ℕ) → Sound b → t ≤ 86_400_000 → o < 2 ^ 32 → Sound (with_clock (with_opened b o) t)
unfolding with_clock with_opened
sound-set b t o s h k = record {
  strategies = s.strategies;
  entries = s.entries;
  orders = s.orders;
  strategy_rows = s.strategy_rows;
  entry_rows = s.entry_rows;
  order_rows = s.order_rows;
  defined = s.defined;
  opened = k;
  clock = h;
  timer = s.timer;
  last = s.last;
  national = s.national;
  quote_rows = s.quote_rows;
  range = s.range;
  nets = record { are = s.nets.are };
  undefined = s.undefined;
  legs = s.legs;
  live = λ i l. live_more (le_refl _) (le_refl _) (s.live i l);
  live_order = λ i l. order-more (le_refl _) (s.live_order i l);
  rising = s.rising;
  rising_orders = s.rising_orders;
  apart = s.apart;
  complex_orders = s.complex_orders;
  sweeps = s.sweeps;
}

-- The national prices and the range.

sound-bounds : (b : State) (qs : List Quote) (r : ℕ) → Sound b → All FitQuote qs → length qs ≡ series_count → r ≤ 9999 → Sound (with_range (with_national b qs) r)
unfolding with_range with_national
sound-bounds b qs r s f n h = record {
  strategies = s.strategies;
  entries = s.entries;
  orders = s.orders;
  strategy_rows = s.strategy_rows;
  entry_rows = s.entry_rows;
  order_rows = s.order_rows;
  defined = s.defined;
  opened = s.opened;
  clock = s.clock;
  timer = s.timer;
  last = s.last;
  national = f;
  quote_rows = n;
  range = h;
  nets = record { are = s.nets.are };
  undefined = s.undefined;
  legs = s.legs;
  live = λ i l. live_more (le_refl _) (le_refl _) (s.live i l);
  live_order = λ i l. order-more (le_refl _) (s.live_order i l);
  rising = s.rising;
  rising_orders = s.rising_orders;
  apart = s.apart;
  complex_orders = s.complex_orders;
  sweeps = s.sweeps;
}

pub sound-national : (b : State) (qs : List Quote) → Sound b → All FitQuote qs → length qs ≡ series_count → Sound (with_national b qs)
unfolding with_range with_national
sound-national b qs s f n = sound-bounds b qs b.range s f n s.range

pub sound-range : (b : State) (r : ℕ) → Sound b → r ≤ 9999 → Sound (with_range b r)
unfolding with_range with_national
sound-range b r s h = sound-bounds b b.national r s s.national s.quote_rows h

pub sound-clock : (b : State) (t : ℕ) → Sound b → t ≤ 86_400_000 → Sound (with_clock b t)
unfolding with_clock with_opened
sound-clock b t s h = sound-set b t b.opened s h s.opened

pub sound-opened : (b : State) (o : ℕ) → Sound b → o < 2 ^ 32 → Sound (with_opened b o)
unfolding with_clock with_opened
sound-opened b o s h = sound-set b b.clock o s s.clock h

-- Rows that have lost at most a quantity.

pub entry-fits : {e f : Entry} → SameEntry e f → FitEntry e → FitEntry f
entry-fits h f = record {
  number = omega (arith, h.number, f.number);
  member = omega (arith, h.member, f.member);
  strategy = omega (arith, h.strategy, f.strategy);
  side = omega (arith, h.side, f.side);
  class = omega (arith, h.class, f.class);
  life = omega (arith, h.life, f.life);
  units = omega (arith, h.units, f.units);
  level = omega (arith, h.level, f.level);
}

pub order-fits : {o p : LegOrder} → SameOrder o p → FitOrder o → FitOrder p
order-fits h f = record {
  number = omega (arith, h.number, f.number);
  member = omega (arith, h.member, f.member);
  series = omega (arith, h.series, f.series);
  side = omega (arith, h.side, f.side);
  contracts = omega (arith, h.contracts, f.contracts);
  price = omega (arith, h.price, f.price);
}

-- a strategy of which no more than the auction and the specialist have changed
fit-strategy : {s t : Strategy} → SameStrategy s t → t.starter ≤ 100_000 → t.begun ≤ 86_400_000 → t.specialist.percentage ≤ 100 → FitStrategy s → FitStrategy t
fit-strategy {s} {t} h a u p f = record {
  count = omega (arith, h.count, f.count);
  legs = rw h.legs f.legs;
  used = λ i l. rw h.legs (f.used i (omega (arith, h.count)));
  rising = λ i j l m. rw h.legs (f.rising i j l (omega (arith, h.count)));
  held = λ i l. rw (h.legs, h.series) (f.held i (omega (arith, h.count)));
  ones = rw (h.series, h.count) f.ones;
  series = rw h.series f.series;
  starter = a;
  begun = u;
  percentage = p;
}

-- what counts by the life of a live entry
life-le : (k : ℕ → ℕ) {e f : Entry} → SameEntry e f → pick (live f) (k f.life) 0 ≤ pick (live e) (k e.life) 0
life-le k {e} {f} h =
    pick-by (λ (n : ℕ). n ≤ pick (live e) (k e.life) 0) (live f)
    (λ l. rw (pick_true (live e) (k e.life) 0 (pos-live e (omega (arith, live_pos f l, h.units))), h.life) (le_refl _))
    (λ l. omega arith)

pub order_le : {e f : Entry} → SameEntry e f → is_order f ≤ is_order e
unfolding is_order
order_le = life-le (λ (n : ℕ). pick (eqb n 4) 0 1)

pub sweep-le : {e f : Entry} → SameEntry e f → is_sweep f ≤ is_sweep e
unfolding is_sweep
sweep-le = life-le (λ (n : ℕ). pick (eqb n 4) 1 0)

-- The auctions of a state: a starter's number and a beginning in range, none in a strategy that is not defined; and the specialists' percentages.
pub record Auctions (b : State) : Type 0 where
  pub starter : (k : ℕ) → (strategy_at b k).starter ≤ 100_000
  pub begun : (k : ℕ) → (strategy_at b k).begun ≤ 86_400_000
  pub undefined : (k : ℕ) → b.defined ≤ k → (strategy_at b k).starter ≡ 0
  pub percentage : (k : ℕ) → (strategy_at b k).specialist.percentage ≤ 100

pub fit_at_lem : (b : State) → Sound b → (k : ℕ) → FitStrategy (strategy_at b k)
fit_at_lem b s k = all-at no_strategy fit-past s.strategies k

pub fit-entry-at : (b : State) → Sound b → (i : ℕ) → FitEntry (entry_at b i)
fit-entry-at b s i = all-at no_entry fit_none s.entries i

pub fit-order-at : (b : State) → Sound b → (i : ℕ) → FitOrder (order_at b i)
fit-order-at b s i = all-at no_order fit-no-order s.orders i

pub sound-auctions : (b : State) → Sound b → Auctions b
sound-auctions b s = record {
  starter = λ k. (fit_at_lem b s k).starter;
  begun = λ k. (fit_at_lem b s k).begun;
  undefined = λ k h. (s.undefined k h).2;
  percentage = λ k. (fit_at_lem b s k).percentage;
}

-- A move that only lessens quantities, and leaves auctions in range, leaves a sound state sound.
pub sound-shrinks : {b c : State} → Shrinks b c → Auctions c → Sound b → Sound c
sound-shrinks {b} {c} h a s = record {
  strategies = all_of FitStrategy no_strategy c.strategies (λ k. fit-strategy (h.strategy k) (a.starter k) (a.begun k) (a.percentage k) (fit_at_lem b s k));
  entries = all_of FitEntry no_entry c.entries (λ i. entry-fits (h.entry i) (fit-entry-at b s i));
  orders = all_of FitOrder no_order c.orders (λ i. order-fits (h.order i) (fit-order-at b s i));
  strategy_rows = h.strategy_rows ∙ s.strategy_rows;
  entry_rows = h.entry_rows ∙ s.entry_rows;
  order_rows = h.order_rows ∙ s.order_rows;
  defined = omega (arith, h.defined, s.defined);
  opened = rw h.opened s.opened;
  clock = omega (arith, h.clock, s.clock);
  timer = (omega (arith, h.timer, s.timer.0), omega (arith, h.timer, s.timer.1));
  last = omega (arith, h.last, s.last);
  national = rw h.national s.national;
  quote_rows = rw h.national s.quote_rows;
  range = rw h.range s.range;
  nets = h.nets s.nets;
  undefined = λ k l.
      let u = s.undefined k (omega (arith, h.defined)) in
      ((h.strategy k).count ∙ u.0, (h.strategy k).series ∙ u.1, a.undefined k l);
  legs = λ k l. omega (arith, (h.strategy k).count, s.legs k (omega (arith, h.defined)));
  live = λ i l. live_same h (h.entry i) (s.live i (omega (arith, (h.entry i).units)));
  live_order = λ i l. order_same h (h.order i) (s.live_order i (omega (arith, (h.order i).contracts)));
  rising = λ i j l p q. omega (arith, (h.entry i).number, (h.entry j).number, s.rising i j l (omega (arith, (h.entry i).units)) (omega (arith, (h.entry j).units)));
  rising_orders = λ i j l p q. omega (arith, (h.order i).number, (h.order j).number, s.rising_orders i j l (omega (arith, (h.order i).contracts)) (omega (arith, (h.order j).contracts)));
  apart = λ i j p q e. s.apart i j (omega (arith, (h.entry i).units)) (omega (arith, (h.order j).contracts)) (omega (arith, (h.entry i).number, (h.order j).number));
  complex_orders = omega (arith, s.complex_orders, sum_mono (is_order_at c) (is_order_at b) 32 (λ i l. order_le (h.entry i)));
  sweeps = omega (arith, s.sweeps, sum_mono (is_sweep_at c) (is_sweep_at b) 32 (λ i l. sweep-le (h.entry i)));
}
  where
    live_same : Shrinks b c → {e f : Entry} → SameEntry e f → LiveEntry b e → LiveEntry c f
    live_same h k l = record {
      given = (omega (arith, k.number, l.given.0), omega (arith, k.number, l.given.1, h.last));
      level = omega (arith, k.level, l.level);
      strategy = omega (arith, k.strategy, l.strategy, h.defined);
    }

    order_same : Shrinks b c → {o p : LegOrder} → SameOrder o p → LiveOrder b o → LiveOrder c p
    order_same h k l = record {
      given = (omega (arith, k.number, l.given.0), omega (arith, k.number, l.given.1, h.last));
      price = omega (arith, k.price, l.price);
    }

-- .. and so where no strategy has changed
pub auctions-same : {b c : State} → c.strategies ≡ b.strategies → c.defined ≡ b.defined → Auctions b → Auctions c
auctions-same {b} {c} e d a = record {
  starter = λ k. rw e (a.starter k);
  begun = λ k. rw e (a.begun k);
  undefined = λ k h. rw e (a.undefined k (omega arith));
  percentage = λ k. rw e (a.percentage k);
}
