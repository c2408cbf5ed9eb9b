-- Every state that events lead to is valid, and a refused event leaves the state as it was.
use Rattle.std.specs.Prelude.{Result, Ok, Err}
use mathlib.Core.Path.{◌≡◌, refl, sym, ◌∙◌, ap}
use mathlib.Core.Bool.{Bool, true, false, not}
use mathlib.Core.Logic.{◌⊎◌, inl, inr, ⊎_elim}
use mathlib.Core.List.{List, ◌∷◌}
use Prim.Native.Nat.{ℕ, ◌≤◌, ◌<◌}
use native.Mathlib.Nat.{le_refl}
use native.Mathlib.Omega.{arith}
use borrow.Author.Tests.{eqb-true, eq-eqb, ne_eqb, ltb-true, ltb-false, leb-false, not-false}
use lib.Dec.{eqb, ltb}
use lib.ListN.{get_or, length-set, set}
use lib.Seq.{get_or-set_same, get_or-set_other}
use Rattle.base.specs.Pick.{pick, pick-by, pick_true, pick-false, pick_yes}
use Rattle.base.specs.Walks.{sum_n, first_n, any-holds, any_where, first_holds, clash, lt-or-le}
use Rattle.base.specs.All.{all_set}
use Rattle.events.specs.declared.Refusal.{Refusal}
use Rattle.events.specs.declared.Event.{Event}
use Rattle.events.specs.declared.Event.TheVariants as E
use Rattle.events.specs.declared.Strategy.{Strategy as GivenStrategy}
use Rattle.events.specs.declared.Order.{Order as GivenOrder}
use Rattle.events.specs.declared.Sweep.{Sweep as GivenSweep}
use Rattle.events.specs.declared.LegOrder.{LegOrder as GivenLegOrder}
use Rattle.frames.specs.Frames.{read_of}
use Rattle.rules.specs.declared.Strategy.{Strategy}
use Rattle.rules.specs.declared.Entry.{Entry}
use Rattle.rules.specs.declared.Quote.{Quote}
use Rattle.rules.specs.declared.Specialist.{Specialist}
use Rattle.rules.specs.declared.State.{State}
use Rattle.rules.specs.State.{no_entry, no_strategy, fresh, entry_at, strategy_at, with_strategies, with_national, with_range, with_nets}
use Rattle.rules.specs.Strategies.{twice, held, added, define, shut_set}
use Rattle.rules.specs.Auctions.{live_in, running, is_number, starter_slot}
use Rattle.rules.specs.Events.{old_sweep}
use Rattle.rules.specs.National.{on_national, on_range}
use Rattle.rules.specs.Specialists.{with_specialist, on_specialist}
use Rattle.rules.specs.Given.{legs_given, strategy_given, order_given, sweep_given, leg_order_given, specialist_given, quote_given}
use Rattle.rules.specs.Refusals.{Cause, ◌if◌, first_cause, undefined, ill_formed, not_open, not_found, is_starter, unanswerable, replaces, removes_none, strategies_full, is_sweep, is_order_at, is_sweep_at, is_leg_order_at, orders_full, sweeps_full, leg_orders_full, no_room, numbers_out, sweep_numbers_out, causes, read_causes, table_of, refusal, betters_nothing}
use Rattle.rules.specs.Step.{Outcome, accept, refused, perform, refuse_or_perform, step}
use Rattle.rules.specs.Valid.{FitStrategy, FitQuote, Sound, Starter, HasStarter, Settled, Valid}
use Rattle.rules.proofs.Strategies.{Definition, defined-fit, defined-two, defined-starter, defined-begun}
use Rattle.rules.proofs.Entering.{Auctions, sound-auctions, sound-shrinks, pos-live, order-one, sweep-live, Entering, EnteringOrder, sound-define, sound-national, sound-range}
use Rattle.rules.proofs.Settled.{same_or, Nearly, OpenLegs, settled-nearly, nearly-settled, nearly-moves, open-moves, past, nearly-tables, loose-valid}
use Rattle.rules.proofs.Only.{live-in}
use Rattle.rules.proofs.Arrivals.{order-valid, Sweeping, sweep-valid, leg_order-valid, cancel-number-valid}
use Rattle.rules.proofs.Endings.{or_no, live-is, clock-valid, series-valid, fresh-valid, day_end-valid}
use Rattle.rules.specs.Fits.{FitGiven, FitOrderGiven, FitSweepGiven, FitLegOrderGiven, FitEvent, FitReading}
use Rattle.rules.proofs.Ranges.{reading-fit}
use Rattle.rules.proofs.Shrinks.{set-by, Shrinks, specialist-shrinks}

pub valid-fresh : (timer : ℕ) → 1 ≤ timer → timer ≤ 5000 → Valid (fresh timer)
valid-fresh = fresh-valid

-- Where nothing is refused, no cause applies.

pub clear : (n : ℕ) (c : Bool) (cs : List Cause) → 0 < n → first_cause ((n if c) ∷ cs) ≡ 0 → (c ≡ false) × (first_cause cs ≡ 0)
unfolding first_cause pick
clear n true cs h e = absurd (omega arith)
clear n false cs h e = (refl, e)

-- a test that a first one spares
pub then-no : (t : Bool) {u : Bool} → pick t false u ≡ false → t ≡ false → u ≡ false
then-no t e f = sym (pick-false _ _ _ f) ∙ e

-- Strategies.

pub given-definition : (e : GivenStrategy) → FitGiven e → ill_formed e ≡ false → Definition (legs_given e) e.count
unfolding ill_formed
given-definition e f h = record {
  two = f.two;
  six = f.six;
  series = f.series;
  side = f.side;
  ratio = f.ratio;
  once = (or_no (twice (legs_given e) e.count) h).0;
}

module _ (b : State) (t : Strategy) (v : Valid b) (fit : FitStrategy t) (two : 2 ≤ t.count) (starter : t.starter ≡ 0) (begun : t.begun ≡ 0)
    (room : held b t ≡ false → b.defined < 16) where
  abbrev more : State
  more = added t b

  more-at : b.defined < 16 → strategy_at more b.defined ≡ t
  unfolding added with_strategies with_nets
  more-at h = get_or-set_same b.strategies b.defined t no_strategy (omega (arith, v.sound.strategy_rows))

  more-other : (k : ℕ) → (k ≡ b.defined → ⊥) → strategy_at more k ≡ strategy_at b k
  unfolding added with_strategies with_nets
  more-other k h = get_or-set_other b.strategies b.defined k t no_strategy h

  more-still : b.defined < 16 → running more b.defined ≡ false
  more-still h = rw (more-at h, starter)

  -- no live entry is of the new strategy
  more-mine : b.defined < 16 → Nearly more b.defined 32
  unfolding added with_strategies with_nets
  more-mine h = record {
    starter = λ r. absurd (clash r (more-still h));
    begun = rw (more-at h, begun) (omega arith);
    day = λ _ i _ l e. absurd (omega (arith, (v.sound.live i l).strategy));
    stays = λ i _ l e _. omega (arith, (v.sound.live i l).strategy);
  }

  more-near : b.defined < 16 → (k : ℕ) → Nearly more k 32
  unfolding added with_strategies with_nets
  more-near h k =
      same_or (Nearly more k 32) k b.defined (λ q. rw q (more-mine h))
      (λ q. nearly-tables k 32 refl (more-other k q) (le_refl _) (settled-nearly 32 (v.settled k)))

  more-legs : b.defined < 16 → (k : ℕ) → OpenLegs more k
  unfolding added with_strategies with_nets shut_set
  more-legs h k =
      same_or (OpenLegs more k) k b.defined (λ q. rw q (λ r. absurd (clash r (more-still h))))
      (λ q. rw (more-other k q) (v.settled k).open_legs)

  define-near : (k : ℕ) → Nearly (define t b) k 32
  unfolding define added with_nets
  define-near k = pick-by (λ (c : State). Nearly c k 32) (held b t) (λ _. settled-nearly 32 (v.settled k)) (λ h. more-near (room h) k)

  define-legs : (k : ℕ) → OpenLegs (define t b) k
  unfolding define added with_nets
  define-legs k = pick-by (λ (c : State). OpenLegs c k) (held b t) (λ _. (v.settled k).open_legs) (λ h. more-legs (room h) k)

  define-valid : Valid (define t b)
  define-valid = loose-valid (record { sound = sound-define b t v.sound fit two room; near = define-near }) define-legs

strategy-valid : (b : State) (e : GivenStrategy) → Valid b → FitGiven e → ill_formed e ≡ false → strategies_full b e ≡ false → Valid (define (strategy_given e) b)
unfolding strategy_given strategies_full
strategy-valid b e v f h k =
    let d : Definition (legs_given e) e.count = given-definition e f h in
    define-valid b _ v (defined-fit _ _ d) (defined-two _ _ d) (defined-starter _ _ d) (defined-begun _ _ d)
    (λ n. leb-false 16 b.defined (then-no (held b (strategy_given e)) k n))

-- Orders and sweeps.

pub known : (b : State) (k : ℕ) → undefined b k ≡ false → k < b.defined
unfolding undefined
known b k h = leb-false _ _ h

numbers-left : (b : State) → numbers_out b ≡ false → b.last < 100_000
unfolding numbers_out
numbers-left b h = leb-false _ _ h

orders-left : (b : State) → orders_full b ≡ false → sum_n (is_order_at b) 32 < 16
unfolding orders_full
orders-left b h = leb-false _ _ h

sweeps-left : (b : State) → sweeps_full b ≡ false → sum_n (is_sweep_at b) 32 < 16
unfolding sweeps_full
sweeps-left b h = leb-false _ _ h

leg_orders-left : (b : State) → leg_orders_full b ≡ false → sum_n (is_leg_order_at b) 32 < 32
unfolding leg_orders_full
leg_orders-left b h = leb-false _ _ h

-- an order is no sweep
no-sweep : (e : Entry) → e.life ≤ 3 → 0 < e.units → is_sweep e ≡ 0
no-sweep e h l = sweep-live e (pos-live e l) ∙ pick-false _ _ _ (ne_eqb e.life 4 (λ z. omega arith))

pub order-entering : (b : State) (e : GivenOrder) → Sound b → FitOrderGiven e → undefined b e.strategy ≡ false → orders_full b ≡ false → numbers_out b ≡ false → Entering b (order_given b e)
unfolding order_given
order-entering b e s f u o n = record {
  fit = record {
    number = omega (arith, numbers-left b n);
    member = f.member;
    strategy = f.strategy;
    side = f.side;
    class = f.class;
    life = omega (arith, f.life);
    units = f.units.1;
    level = f.level.1;
  };
  number = refl;
  live = f.units.0;
  level = f.level.0;
  strategy = known b e.strategy u;
  orders = omega (arith, orders-left b o, order-one (order_given b e));
  sweeps = omega (arith, s.sweeps, no-sweep (order_given b e) f.life f.units.0);
}

sweeping-of : (b : State) (e : GivenSweep) → FitSweepGiven e → e.strategy < b.defined → b.last < 100_000 → (old_sweep b (sweep_given b e) < 32) ⊎ (sum_n (is_sweep_at b) 32 < 16) → Sweeping b (sweep_given b e)
unfolding sweep_given
sweeping-of b e f u n p = record {
  fit = record {
    number = omega arith;
    member = f.member;
    strategy = f.strategy;
    side = f.side;
    class = omega arith;
    life = omega arith;
    units = f.units;
    level = f.level.1;
  };
  number = refl;
  level = f.level.0;
  strategy = u;
  room = p;
}

pub sweep-given : (b : State) (e : GivenSweep) → FitSweepGiven e → undefined b e.strategy ≡ false → no_room b e ≡ false → sweep_numbers_out b e ≡ false → 0 < e.units → Sweeping b (sweep_given b e)
unfolding no_room sweep_numbers_out
sweep-given b e f u r n l =
    let some : eqb e.units 0 ≡ false = ne_eqb e.units 0 (λ z. omega arith) in
    sweeping-of b e f (known b e.strategy u) (numbers-left b (then-no (eqb e.units 0) n some)) (place (replaces b e) refl (then-no (eqb e.units 0) r some))
  where
    place : (t : Bool) → replaces b e ≡ t → pick (replaces b e) false (sweeps_full b) ≡ false → (old_sweep b (sweep_given b e) < 32) ⊎ (sum_n (is_sweep_at b) 32 < 16)
    place true t h = inl (ltb-true _ _ t)
    place false t h = inr (sweeps-left b (then-no (replaces b e) h t))

pub order-given : (b : State) (e : GivenLegOrder) → FitLegOrderGiven e → leg_orders_full b ≡ false → numbers_out b ≡ false → EnteringOrder b (leg_order_given b e)
unfolding leg_order_given
order-given b e f o n = record {
  fit = record {
    number = omega (arith, numbers-left b n);
    member = f.member;
    series = f.series;
    side = f.side;
    contracts = f.contracts.1;
    price = f.price.1;
  };
  number = refl;
  live = f.contracts.0;
  price = f.price.0;
  room = leg_orders-left b o;
}

-- What an event brings where nothing refuses it: an order that may enter, a sweep of a running auction that may enter if it has units, a leg order that may enter.

pub order-clear : (b : State) (e : GivenOrder) → Sound b → FitOrderGiven e → first_cause (causes b (E.Order e)) ≡ 0 → Entering b (order_given b e)
unfolding causes
order-clear b e s f c =
    let x = clear 4 (undefined b e.strategy) _ (omega arith) c in
    let y = clear 9 (unanswerable b e.life e.strategy) _ (omega arith) x.1 in
    let z = clear 12 (orders_full b) _ (omega arith) y.1 in
    let w = clear 13 (numbers_out b) _ (omega arith) z.1 in
    order-entering b e s f x.0 z.0 w.0

pub sweep-clear : (b : State) (e : GivenSweep) → FitSweepGiven e → first_cause (causes b (E.Sweep e)) ≡ 0 → (running b e.strategy ≡ true) × (0 < e.units → Sweeping b (sweep_given b e))
unfolding causes
sweep-clear b e f c =
    let x = clear 4 (undefined b e.strategy) _ (omega arith) c in
    let y = clear 9 (not (running b e.strategy)) _ (omega arith) x.1 in
    let z = clear 10 (removes_none b e) _ (omega arith) y.1 in
    let n = clear 15 (betters_nothing b e) _ (omega arith) z.1 in
    let w = clear 12 (no_room b e) _ (omega arith) n.1 in
    let u = clear 13 (sweep_numbers_out b e) _ (omega arith) w.1 in
    (not-false _ y.0, sweep-given b e f x.0 w.0 u.0)

pub leg_order-clear : (b : State) (e : GivenLegOrder) → FitLegOrderGiven e → first_cause (causes b (E.LegOrder e)) ≡ 0 → EnteringOrder b (leg_order_given b e)
unfolding causes
leg_order-clear b e f c =
    let x = clear 6 (not_open b e.series) _ (omega arith) c in
    let y = clear 12 (leg_orders_full b) _ (omega arith) x.1 in
    let z = clear 13 (numbers_out b) _ (omega arith) y.1 in
    order-given b e f y.0 z.0

-- National prices and the range: every table is as it was.

settled_same : (b c : State) (k : ℕ) → c.entries ≡ b.entries → c.strategies ≡ b.strategies → c.opened ≡ b.opened → c.clock ≡ b.clock → Settled b k → Settled c k
unfolding shut_set
settled_same b c k p q r t s = record {
  starter = λ x. starter (s.starter (rw q at x));
  open_legs = λ x. rw (q, r) (s.open_legs (rw q at x));
  begun = rw (q, t) s.begun;
  day = λ x. rw p (s.day (rw q at x));
  stays = rw p s.stays;
}
  where
    starter : HasStarter b k → HasStarter c k
    starter h =
        let e : entry_at c h.at ≡ entry_at b h.at = ap (λ (es : List Entry). get_or es h.at no_entry) p in
        let w = h.starter in
        record {
          at = h.at;
          starter = record { slot = w.slot; live = rw e w.live; strategy = rw e w.strategy; number = rw (e, q) w.number; class = rw e w.class; life = rw e w.life };
        }

national-valid : (s : ℕ) (q : Quote) (b : State) → Valid b → FitQuote q → Valid (on_national s q b)
unfolding on_national with_national
national-valid s q b v f = record {
  sound = sound-national b (set b.national s q) v.sound (all_set q f v.sound.national s) (length-set b.national s q ∙ v.sound.quote_rows);
  settled = λ k. settled_same b _ k refl refl refl refl (v.settled k);
}

range-valid : (r : ℕ) (b : State) → Valid b → r ≤ 9999 → Valid (on_range r b)
unfolding on_range with_range
range-valid r b v h = record { sound = sound-range b r v.sound h; settled = λ k. settled_same b _ k refl refl refl refl (v.settled k) }

-- a specialist is named: no auction changes
specialist-at : (k : ℕ) (p : Specialist) (b : State) (P : Strategy → Type 0) (j : ℕ) → P (strategy_at b j) → (j ≡ k → P (with_specialist (strategy_at b k) p)) → P (strategy_at (on_specialist k p b) j)
unfolding on_specialist with_strategies
specialist-at k p b P j h q = set-by P no_strategy _ b.strategies k j h q

specialist-live : (k : ℕ) (p : Specialist) (b : State) (i : ℕ) → 0 < (entry_at b i).units → 0 < (entry_at (on_specialist k p b) i).units
unfolding on_specialist with_strategies
specialist-live k p b i l = l

specialist-valid : (k : ℕ) (p : Specialist) (b : State) → Valid b → p.percentage ≤ 100 → Valid (on_specialist k p b)
specialist-valid k p b v h =
    let c : State = on_specialist k p b in
    let s : Shrinks b c = specialist-shrinks k p b in
    let starter : (j : ℕ) → (strategy_at c j).starter ≡ (strategy_at b j).starter = λ j. specialist-at k p b (λ (t : Strategy). t.starter ≡ (strategy_at b j).starter) j refl (λ e. rw e) in
    let begun : (j : ℕ) → (strategy_at c j).begun ≡ (strategy_at b j).begun = λ j. specialist-at k p b (λ (t : Strategy). t.begun ≡ (strategy_at b j).begun) j refl (λ e. rw e) in
    let was : Auctions b = sound-auctions b v.sound in
    record {
      sound = sound-shrinks s (record {
        starter = λ j. omega (arith, starter j, was.starter j);
        begun = λ j. omega (arith, begun j, was.begun j);
        undefined = λ j l. starter j ∙ was.undefined j (omega (arith, s.defined));
        percentage = λ j. specialist-at k p b (λ (t : Strategy). t.specialist.percentage ≤ 100) j (was.percentage j) (λ _. h);
      }) v.sound;
      settled = λ j.
          nearly-settled (nearly-moves j 32 s (starter j) (begun j) (λ _ i w. specialist-live k p b i w.live) (settled-nearly 32 (v.settled j))) (open-moves j s (starter j) (v.settled j).open_legs)
          (λ l. absurd (omega (arith, past b v.sound, (s.entry 32).units)));
    }

-- An event that is accepted.

pub accept-valid : (b : State) (e : Event) → Valid b → FitEvent e → first_cause (causes b e) ≡ 0 → Valid (accept b e).state
unfolding accept causes sweep_given specialist_given quote_given
accept-valid b (E.Strategy e) v f c =
    let x = clear 5 (ill_formed e) _ (omega arith) c in
    let y = clear 12 (strategies_full b e) _ (omega arith) x.1 in
    strategy-valid b e v f x.0 y.0
accept-valid b (E.Order e) v f c = order-valid b (order_given b e) v (order-clear b e v.sound f c)
accept-valid b (E.Sweep e) v f c = let x = sweep-clear b e f c in sweep-valid b (sweep_given b e) v refl x.0 x.1
accept-valid b (E.LegOrder e) v f c = leg_order-valid b (leg_order_given b e) v (leg_order-clear b e f c)
accept-valid b (E.Cancel e) v f c =
    let x = clear 7 (not_found b e.member e.number) _ (omega arith) c in
    let y = clear 8 (is_starter b e.number) _ (omega arith) x.1 in
    cancel-number-valid e.number b f y.0 v
accept-valid b (E.Series e) v f c = series-valid e.series e.state b f v
accept-valid b (E.Clock e) v f c =
    let x = clear 11 (ltb e.time b.clock) _ (omega arith) c in
    clock-valid e.time b (ltb-false _ _ x.0) f v
accept-valid b (E.DayEnd e) v f c = day_end-valid e.timer b f.0 f.1
accept-valid b (E.National e) v f c = national-valid e.series (quote_given e) b v (record { bid = f.1; offer = f.2 })
accept-valid b (E.Range e) v f c = range-valid e.range b v f
accept-valid b (E.Specialist e) v f c = specialist-valid e.strategy (specialist_given e) b v f.3

perform-valid : (b : State) (r : Result Event Refusal) (space : ℕ) → Valid b → FitReading r → refusal b r space ≡ 0 → Valid (perform b r).moved.state
unfolding perform refused refusal table_of read_causes
perform-valid b (Err r) space v f c = v
perform-valid b (Ok e) space v f c = accept-valid b e v f (clear 1 (ltb space 15_360) (causes b e) (omega arith) c).1

pub decide-valid : (b : State) (r : Result Event Refusal) (space : ℕ) → Valid b → FitReading r → Valid (refuse_or_perform b r space).moved.state
unfolding refuse_or_perform refused
decide-valid b r space v f =
    pick-by (λ (o : Outcome). Valid o.moved.state) (eqb (refusal b r space) 0)
    (λ e. perform-valid b r space v f (eqb-true _ _ e)) (λ _. v)

-- Every event leaves a valid state valid, whatever the frame and the space.
pub valid-step : (b : State) → Valid b → (frame : List ℕ) (space : ℕ) → Valid (step b frame space).moved.state
unfolding step
valid-step b v frame space = decide-valid b (read_of frame) space v (reading-fit frame)

-- The slot that the rules seek holds the auction's starter, where there is one.
pub starter-slot : (b : State) → Sound b → (k : ℕ) → HasStarter b k → Starter b k (starter_slot b k)
unfolding starter_slot
starter-slot b v k p =
    let i : ℕ = p.at in
    let s : Starter b k i = p.starter in
    let test : ℕ → Bool = is_number b k (strategy_at b k).starter in
    let here : test i ≡ true = pick_true _ _ _ (live-is k (entry_at b i) s.live s.strategy) ∙ eq-eqb _ _ s.number in
    let l : first_n test 32 < 32 = any_where test 32 (any-holds test 32 i s.slot here) in
    let q = pick_yes (live_in k (entry_at b (first_n test 32))) (first_holds test 32 l) in
    let n : (entry_at b (first_n test 32)).number ≡ (strategy_at b k).starter = eqb-true _ _ q.1 in
    let u : 0 < (entry_at b (first_n test 32)).units = (live-in k (entry_at b (first_n test 32)) q.0).0 in
    same_or (Starter b k (first_n test 32)) (first_n test 32) i (λ e. rw e s)
    (λ e. ⊎_elim
    (λ (m : first_n test 32 < i). absurd (omega (arith, v.rising (first_n test 32) i m u s.live, n, s.number)))
    (λ (m : i ≤ first_n test 32). absurd (omega (arith, v.rising i (first_n test 32) (after i (first_n test 32) m e) s.live u, n, s.number)))
    (lt-or-le (first_n test 32) i))
  where
    after : (i j : ℕ) → i ≤ j → (j ≡ i → ⊥) → i < j
    after i j h e = omega arith

-- In a valid state there is one.
pub starter-found : (b : State) → Valid b → (k : ℕ) → running b k ≡ true → Starter b k (starter_slot b k)
starter-found b v k r = starter-slot b v.sound k ((v.settled k).starter r)
