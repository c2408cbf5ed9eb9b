-- Orders, sweeps, leg orders and cancels leave a valid state valid.
use mathlib.Core.Path.{◌≡◌, refl, sym, ◌∙◌, ap}
use mathlib.Core.Bool.{Bool, true, false, not}
use mathlib.Core.Logic.{◌⊎◌, ⊎_elim}
use mathlib.Core.List.{List}
use Prim.Native.Nat.{ℕ, zero, suc, ◌+◌, ◌≤◌, ◌<◌}
use native.Mathlib.Nat.{le_refl}
use native.Mathlib.Omega.{arith}
use borrow.Author.Tests.{eqb-true, eqb-false, eq-eqb, ne_eqb}
use lib.Dec.{eqb}
use lib.ListN.{length, get_or}
use lib.Seq.{get_or-set_same, get_or-set_other}
use Rattle.base.specs.Pick.{pick-by, pick_all, pick_true, pick_yes}
use Rattle.base.specs.Walks.{sum_mono, sum_n, any_n, any-holds, first_holds, sum_same, below, clash, lt-or-le}
use Rattle.rules.specs.declared.Strategy.{Strategy}
use Rattle.rules.specs.declared.Entry.{Entry}
use Rattle.rules.specs.declared.LegOrder.{LegOrder}
use Rattle.rules.specs.declared.State.{State}
use Rattle.rules.specs.declared.Allocation.TheVariants.{Shared}
use Rattle.rules.specs.State.{no_entry, no_strategy, entry_at, strategy_at, with_entries, with_orders, with_strategies, with_last}
use Rattle.rules.specs.Moves.{Moved, and_then, each}
use Rattle.rules.specs.Strategies.{shut_set, all_open}
use Rattle.rules.specs.Fills.{cancel_entry}
use Rattle.rules.specs.Passes.{pass}
use Rattle.rules.specs.Auctions.{running, with_auction, put_auction, begin, answer, leg_passes_in, leg_passes}
use Rattle.rules.specs.Events.{live, enter, enter_order, free_slot, rest_or_cancel, may_start, starts, waits, trades, arrive, on_order, same_sweep, same_sweep_at, old_sweep, enter_sweep, on_sweep, if_rests, on_leg_order, cancel_entry_of, cancel_number}
use Rattle.rules.specs.Refusals.{is_sweep, is_sweep_at, started_by, is_starter}
use Rattle.rules.specs.Valid.{Sound, Starter, HasStarter, Settled, Valid, FitEntry}
use Rattle.rules.proofs.Tables.{Stands}
use Rattle.rules.proofs.Shrinks.{same-entry, Shrinks, set-by, auction-shrinks, cancel-shrinks, answer-shrinks}
use Rattle.rules.proofs.Entering.{order-live, sweep-live, sweep-dead, sweep-le, live_pos, Auctions, sound-auctions, sound-shrinks, fit-entry-at, Entering, sound-enter, enter-slot, enter-free, enter-other, enter-stands, EnteringOrder, sound-enter_order}
use Rattle.rules.proofs.Only.{Only, pass-only, leg_passes-only, trade_all-only, cancel_orders-only}
use Rattle.rules.proofs.Settled.{same_or, Nearly, OpenLegs, Fits, nearly-tables, loose-valid, settled-nearly, nearly-settled, running-same, starter-moves, nearly-moves, open-moves, shut-same, only-sound, only-nearly, only-open, valid-only, valid-quiet, each_keeps, cancel-other, cancel-dead, cancel-valid, cancel-strategies, strategy-same}

-- The auction of a strategy, put.

module _ (b : State) (k n t : ℕ) (a : Bool) where
  pub put_other : (j : ℕ) → (j ≡ k → ⊥) → strategy_at (put_auction b k n t a) j ≡ strategy_at b j
  unfolding put_auction with_strategies
  put_other j h = get_or-set_other b.strategies k j _ no_strategy h

  pub put-at : k < length b.strategies → strategy_at (put_auction b k n t a) k ≡ with_auction (strategy_at b k) n t a
  unfolding put_auction with_strategies
  put-at h = get_or-set_same b.strategies k _ no_strategy h

  pub put_entries_lem : (put_auction b k n t a).entries ≡ b.entries
  unfolding put_auction with_strategies
  put_entries_lem = refl

  -- what holds of the auction that was there and of the new one
  pub put-by : (P : Strategy → Type 0) (j : ℕ) → P (strategy_at b j) → (j ≡ k → P (with_auction (strategy_at b k) n t a)) → P (strategy_at (put_auction b k n t a) j)
  unfolding put_auction with_strategies
  put-by P j h q = set-by P no_strategy _ b.strategies k j h q

  put-defined : (put_auction b k n t a).defined ≡ b.defined
  unfolding put_auction with_strategies
  put-defined = refl

  pub put-auctions : n ≤ 100_000 → t ≤ 86_400_000 → (b.defined ≤ k → n ≡ 0) → Auctions b → Auctions (put_auction b k n t a)
  put-auctions hn ht hk s = record {
    starter = λ j. put-by (λ (y : Strategy). y.starter ≤ 100_000) j (s.starter j) (λ _. hn);
    begun = λ j. put-by (λ (y : Strategy). y.begun ≤ 86_400_000) j (s.begun j) (λ _. ht);
    undefined = λ j h. put-by (λ (y : Strategy). y.starter ≡ 0) j (s.undefined j (omega (arith, put-defined))) (λ e. hk (omega (arith, put-defined)));
    percentage = λ j. put-by (λ (y : Strategy). y.specialist.percentage ≤ 100) j (s.percentage j) (λ e. s.percentage k);
  }

-- A state that an entry has just entered: sound, and settled but for it.
pub record Arrived (b : State) (i : ℕ) : Type 0 where
  pub sound : Sound b
  pub near : (k : ℕ) → Nearly b k i
  pub legs : (k : ℕ) → OpenLegs b k
  pub slot : i < 32
  pub live : 0 < (entry_at b i).units

arrived-valid : {b : State} {i : ℕ} → Arrived b i → ((k : ℕ) → Fits b k i) → Valid b
arrived-valid a f = record { sound = a.sound; settled = λ k. nearly-settled (a.near k) (a.legs k) (f k) }

-- where no auction runs the entry rests if it is a day order, else it is cancelled
rest-valid : {b : State} (i : ℕ) → Sound b → ((k : ℕ) → Nearly b k i) → ((k : ℕ) → OpenLegs b k) → running b (entry_at b i).strategy ≡ false → Valid (rest_or_cancel i b).state
unfolding rest_or_cancel
rest-valid {b} i s near legs r =
    pick-by (λ (m : Moved). Valid m.state) (eqb (entry_at b i).life 0)
    (λ e.
    let z : (entry_at b i).life ≡ 0 = eqb-true _ _ e in
    record { sound = s; settled = λ k. nearly-settled (near k) (legs k) (λ _ _. (λ _. z, λ t. omega arith)) })
    (λ _. cancel-valid i s near legs (λ k q p. clash q (rw p.strategy at r)))

-- an answer changes no starter, no beginning and no entry
answer-same : (g : Strategy → ℕ) → ((s : Strategy) → g (with_auction s s.starter s.begun true) ≡ g s) → (b : State) (k side j : ℕ) → g (strategy_at (answer k side b) j) ≡ g (strategy_at b j)
unfolding answer
answer-same g h b k side j =
    pick_all (λ (c : State). g (strategy_at c j) ≡ g (strategy_at b j)) _
    (put-by b k _ _ _ (λ (y : Strategy). g y ≡ g (strategy_at b j)) j refl (λ e. rw e (h _))) refl

answer-starter : (b : State) (k side j : ℕ) → (strategy_at (answer k side b) j).starter ≡ (strategy_at b j).starter
answer-starter = answer-same (λ (s : Strategy). s.starter) (λ s. refl)

answer-begun : (b : State) (k side j : ℕ) → (strategy_at (answer k side b) j).begun ≡ (strategy_at b j).begun
answer-begun = answer-same (λ (s : Strategy). s.begun) (λ s. refl)

pub answer-entries : (b : State) (k side : ℕ) → (answer k side b).entries ≡ b.entries
unfolding answer
answer-entries b k side = pick_all (λ (c : State). c.entries ≡ b.entries) _ (put_entries_lem b k _ _ _) refl

pub answer-entry : (b : State) (k side i : ℕ) → entry_at (answer k side b) i ≡ entry_at b i
answer-entry b k side i = ap (λ (es : List Entry). get_or es i no_entry) (answer-entries b k side)

answer-auctions : (b : State) (k side : ℕ) → Sound b → Auctions (answer k side b)
unfolding answer
answer-auctions b k side s =
    let a : Auctions b = sound-auctions b s in
    pick_all Auctions _ (put-auctions b k _ _ _ (a.starter k) (a.begun k) (a.undefined k) a) a

answer-arrived : (b : State) (k side i : ℕ) → Arrived b i → Arrived (answer k side b) i
answer-arrived b k side i a =
    let h : Shrinks b (answer k side b) = answer-shrinks b k side in
    record {
      sound = sound-shrinks h (answer-auctions b k side a.sound) a.sound;
      near = λ j. nearly-moves j i h (answer-starter b k side j) (answer-begun b k side j) (λ _ x p. rw (answer-entry b k side x) p.live) (a.near j);
      legs = λ j. open-moves j h (answer-starter b k side j) (a.legs j);
      slot = a.slot;
      live = rw (answer-entry b k side i) a.live;
    }

-- an entry that is no do-not-auction order waits where an auction runs
answer-valid : (b : State) (k side i : ℕ) → Arrived b i → (entry_at b i).strategy ≡ k → running b k ≡ true → ((entry_at b i).life ≡ 3 → ⊥) → Valid (answer k side b)
answer-valid b k side i a e r n =
    let same : entry_at (answer k side b) i ≡ entry_at b i = answer-entry b k side i in
    arrived-valid (answer-arrived b k side i a)
    (λ j _ q.
    let z : j ≡ k = sym q ∙ ap (λ (y : Entry). y.strategy) same ∙ e in (
      λ f. absurd (clash r (sym (running-same b (answer k side b) k (answer-starter b k side k)) ∙ (rw z at f))),
      λ t. n (sym (ap (λ (y : Entry). y.life) same) ∙ t),
    ))

waits-valid : (b : State) (i : ℕ) → Arrived b i → running b (entry_at b i).strategy ≡ true → Valid (waits i b).state
unfolding waits
waits-valid b i a r =
    pick-by (λ (m : Moved). Valid m.state) (eqb (entry_at b i).life 3)
    (λ e.
    let z : (entry_at b i).life ≡ 3 = eqb-true _ _ e in
    cancel-valid i a.sound a.near a.legs (λ k q p. omega (arith, p.life)))
    (λ e. answer-valid b _ _ i a refl r (eqb-false _ _ e))

-- what may start an auction is of class 1 or 2 and of life 0 or 1
pub may-class : (e : Entry) → may_start e ≡ true → (1 ≤ e.class) × (e.class ≤ 2)
unfolding may_start
may-class e h =
    pick-by (λ (x : Bool). x ≡ true → (1 ≤ e.class) × (e.class ≤ 2)) (eqb e.class 1)
    (λ q _. let z : e.class ≡ 1 = eqb-true _ _ q in (omega arith, omega arith))
    (λ _ q. let z : e.class ≡ 2 = eqb-true _ _ q in (omega arith, omega arith))
    (pick_yes _ h).0

pub may-life : (e : Entry) → may_start e ≡ true → e.life ≤ 1
unfolding may_start
may-life e h =
    pick-by (λ (x : Bool). x ≡ true → e.life ≤ 1) (eqb e.life 0)
    (λ q _. omega (arith, eqb-true e.life 0 q))
    (λ _ q. omega (arith, eqb-true e.life 1 q))
    (pick_yes _ h).1

-- it starts one where its legs are open and none runs
module _ (b : State) (i : ℕ) (a : Arrived b i) where
  abbrev mine : ℕ
  mine = (entry_at b i).strategy

  abbrev begun : State
  begun = put_auction b mine (entry_at b i).number b.clock false

  begun-shrinks : Shrinks b begun
  begun-shrinks = auction-shrinks b mine (entry_at b i).number b.clock false

  begun-at : strategy_at begun mine ≡ with_auction (strategy_at b mine) (entry_at b i).number b.clock false
  begun-at = put-at b mine _ _ _ (omega (arith, a.sound.strategy_rows, a.sound.defined, (a.sound.live i a.live).strategy))

  begun-entry : (j : ℕ) → entry_at begun j ≡ entry_at b j
  begun-entry j = ap (λ (es : List Entry). get_or es j no_entry) (put_entries_lem b mine (entry_at b i).number b.clock false)

  begun-number : (strategy_at begun mine).starter ≡ (entry_at b i).number
  begun-number = ap (λ (t : Strategy). t.starter) begun-at

  begun-runs : running begun mine ≡ true
  begun-runs = rw begun-number (ap not (ne_eqb (entry_at b i).number 0 (λ z. omega (arith, (a.sound.live i a.live).given.0))))

  begun-sound : Sound begun
  begun-sound =
      sound-shrinks begun-shrinks
      (put-auctions b mine _ _ _ (fit-entry-at b a.sound i).number a.sound.clock (λ z. absurd (omega (arith, (a.sound.live i a.live).strategy))) (sound-auctions b a.sound))
      a.sound

  begun-mine : all_open b mine ≡ true → may_start (entry_at b i) ≡ true → Settled begun mine
  begun-mine o may = record {
    starter = λ _. record {
      at = i;
      starter = record {
        slot = a.slot;
        live = rw (begun-entry i) a.live;
        strategy = rw (begun-entry i);
        number = rw (begun-entry i) (sym begun-number);
        class = rw (begun-entry i) (may-class (entry_at b i) may);
        life = rw (begun-entry i) (may-life (entry_at b i) may);
      };
    };
    open_legs = λ _. ap (λ (n : ℕ). eqb n 0) (shut-same mine begun-shrinks) ∙ o;
    begun = omega (arith, begun-shrinks.clock, ap (λ (t : Strategy). t.begun) begun-at);
    day = λ z. absurd (clash begun-runs z);
    stays = λ x. rw (begun-entry x)
        (λ p q t. same_or ⊥ x i (λ z. omega (arith, may-life (entry_at b i) may, rw z at t)) (λ z. (a.near mine).stays x z p q t));
  }

  begun-other : (j : ℕ) → (j ≡ mine → ⊥) → Settled begun j
  begun-other j q =
      let e : strategy_at begun j ≡ strategy_at b j = put_other b mine _ _ _ j q in
      let s : (strategy_at begun j).starter ≡ (strategy_at b j).starter = ap (λ (t : Strategy). t.starter) e in
      nearly-settled
      (nearly-moves j i begun-shrinks s (ap (λ (t : Strategy). t.begun) e) (λ _ x p. rw (begun-entry x) p.live) (a.near j))
      (open-moves j begun-shrinks s (a.legs j))
      (λ _ z. absurd (q (sym z ∙ ap (λ (y : Entry). y.strategy) (begun-entry i))))

  begin-valid : all_open b mine ≡ true → may_start (entry_at b i) ≡ true → Valid (begin i b).state
  unfolding begin
  begin-valid o may = record {
    sound = begun-sound;
    settled = λ j. same_or (Settled begun j) j mine (λ q. rw q (begun-mine o may)) (begun-other j);
  }

  -- else it trades, and then rests or is cancelled
  trades-valid : running b mine ≡ false → Valid (trades i b).state
  unfolding trades and_then
  trades-valid r =
      let o : Only mine b (pass Shared true i b).state = pass-only mine Shared true i b a.sound.order_rows refl in
      let c : State = (pass Shared true i b).state in
      let q : (entry_at c i).strategy ≡ mine = (o.shrinks.entry i).strategy in
      rest-valid i (only-sound o a.sound) (λ k. only-nearly k i o (λ _. r) (a.near k)) (λ k. only-open k o (a.legs k))
      (rw q (running-same b c mine (ap (λ (t : Strategy). t.starter) (strategy-same b c o.strategies mine)) ∙ r))

  pub arrive-valid : Valid (arrive i b).state
  unfolding arrive starts
  arrive-valid =
      let P : Moved → Type 0 = λ (m : Moved). Valid m.state in
      pick-by P (all_open b mine)
      (λ o. pick-by P (running b mine)
      (λ r. waits-valid b i a r)
      (λ r. pick-by P _ (λ t. begin-valid o (pick_yes (may_start (entry_at b i)) t).0) (λ _. trades-valid r)))
      (λ o. rest-valid i a.sound a.near a.legs (shut-still (running b mine) refl (a.legs mine) o))
    where
      shut-still : (t : Bool) → running b mine ≡ t → OpenLegs b mine → all_open b mine ≡ false → running b mine ≡ false
      shut-still true e l o = absurd (clash (l e) o)
      shut-still false e l o = e

-- An entry that enters a valid state has arrived.

module _ (b : State) (e : Entry) (v : Valid b) (n : Entering b e) where
  enter-strategy : (k : ℕ) → strategy_at (enter e b) k ≡ strategy_at b k
  unfolding enter with_entries with_last
  enter-strategy k = refl

  enter-starter : (k : ℕ) → HasStarter b k → HasStarter (enter e b) k
  enter-starter k h =
      let p : Starter b k h.at = h.starter in
      let s : Stands no_entry (enter e b).entries (entry_at b h.at) = enter-stands b e v.sound n h.at p.slot p.live in
      record {
        at = s.at;
        starter = starter-moves k h.at s.at (rw s.is (same-entry _)) (omega (arith, s.slot, (sound-enter b e v.sound n).entry_rows)) (rw s.is p.live)
            (ap (λ (t : Strategy). t.starter) (enter-strategy k)) p;
      }

  enter-begun : (k : ℕ) → (strategy_at (enter e b) k).begun ≤ (enter e b).clock
  unfolding enter with_entries with_last
  enter-begun k = (v.settled k).begun

  enter-legs : (k : ℕ) → OpenLegs (enter e b) k
  unfolding enter with_entries with_last shut_set
  enter-legs k = (v.settled k).open_legs

  enter-near : (k : ℕ) → Nearly (enter e b) k (free_slot b)
  enter-near k =
      let s : Settled b k = v.settled k in
      record {
        starter = λ r. enter-starter k (s.starter (rw (enter-strategy k) at r));
        begun = enter-begun k;
        day = λ r. enter-other b e v.sound n (λ (y : Entry). y.strategy ≡ k → y.life ≡ 0) (s.day (rw (enter-strategy k) at r));
        stays = enter-other b e v.sound n (λ (y : Entry). y.strategy ≡ k → y.life ≡ 3 → ⊥) s.stays;
      }

  pub enter-arrived : Arrived (enter e b) (free_slot b)
  enter-arrived = record {
    sound = sound-enter b e v.sound n;
    near = enter-near;
    legs = enter-legs;
    slot = enter-free b e v.sound n;
    live = rw (enter-slot b e v.sound n) n.live;
  }

  pub order-valid : Valid (on_order e b).state
  unfolding on_order
  order-valid = arrive-valid (enter e b) (free_slot b) enter-arrived

-- Sweeps.

-- one term of a sum changes
sum-change : (f g : ℕ → ℕ) (k i : ℕ) → i < k → ((j : ℕ) → (j ≡ i → ⊥) → g j ≡ f j) → sum_n g k + f i ≡ sum_n f k + g i
unfolding sum_n
sum-change f g zero i h e = absurd (omega arith)
sum-change f g (suc k) i h e =
    ⊎_elim
    (λ q. rw q (omega (arith, sum_same f g k (λ j l. sym (e j (λ z. omega arith))))))
    (λ l. omega (arith, sum-change f g k i l e, e k (λ z. omega arith)))
    (below h)

-- an old sweep is a live sweep
pub old-sweep : (b : State) (e : Entry) → old_sweep b e < 32 → (live (entry_at b (old_sweep b e)) ≡ true) × ((entry_at b (old_sweep b e)).life ≡ 4)
unfolding old_sweep same_sweep
old-sweep b e h =
    let p = pick_yes (live (entry_at b (old_sweep b e))) (first_holds (same_sweep_at b e) 32 h) in
    (p.0, eqb-true _ _ (pick_yes (eqb (entry_at b (old_sweep b e)).life 4) p.1).0)

-- A sweep that may enter, once the old one is gone.
pub record Sweeping (b : State) (e : Entry) : Type 0 where
  pub fit : FitEntry e
  pub number : e.number ≡ b.last + 1
  pub level : 1 ≤ e.level
  pub strategy : e.strategy < b.defined
  pub room : (old_sweep b e < 32) ⊎ (sum_n (is_sweep_at b) 32 < 16)

module _ (b : State) (e : Entry) (v : Valid b) (life : e.life ≡ 4) where
  abbrev pub swept : State
  swept = (cancel_entry (old_sweep b e) b).state

  pub swept-shrinks : Shrinks b swept
  swept-shrinks = cancel-shrinks b (old_sweep b e)

  pub swept-valid : Valid swept
  swept-valid =
      cancel-valid (old_sweep b e) v.sound (λ k. settled-nearly _ (v.settled k)) (λ k. (v.settled k).open_legs)
      (λ k r p. omega (arith, p.life, (old-sweep b e p.slot).1))

  -- a replaced sweep leaves room for one
  swept-replaced : old_sweep b e < 32 → sum_n (is_sweep_at swept) 32 < 16
  swept-replaced h =
      let i : ℕ = old_sweep b e in
      let o = old-sweep b e h in
      let one : is_sweep_at b i ≡ 1 = sweep-live (entry_at b i) o.0 ∙ pick_true _ _ _ (eq-eqb _ _ o.1) in
      let none : is_sweep_at swept i ≡ 0 = sweep-gone (entry_at swept i) (cancel-dead b i) in
      omega (arith, sum-change (is_sweep_at b) (is_sweep_at swept) 32 i h (λ j n. ap is_sweep (cancel-other b i j n)), v.sound.sweeps)
    where
      sweep-gone : (y : Entry) → y.units ≡ 0 → is_sweep y ≡ 0
      sweep-gone y z = go (live y) refl
        where
          go : (t : Bool) → live y ≡ t → is_sweep y ≡ 0
          go true t = absurd (omega (arith, live_pos y t))
          go false t = sweep-dead y t

  swept-room : (old_sweep b e < 32) ⊎ (sum_n (is_sweep_at b) 32 < 16) → sum_n (is_sweep_at swept) 32 < 16
  swept-room = ⊎_elim swept-replaced (λ l. omega (arith, sum_mono (is_sweep_at swept) (is_sweep_at b) 32 (λ i _. sweep-le (swept-shrinks.entry i))))

  pub swept-entering : live e ≡ true → Sweeping b e → Entering swept e
  swept-entering t n = record {
    fit = n.fit;
    number = omega (arith, n.number, swept-shrinks.last);
    live = live_pos e t;
    level = n.level;
    strategy = omega (arith, n.strategy, swept-shrinks.defined);
    orders = omega (arith, swept-valid.sound.complex_orders, order-live e t, pick_true {A = ℕ} (eqb e.life 4) 0 1 (eq-eqb _ _ life));
    sweeps = omega (arith, swept-room n.room, sweep-live e t, pick_true {A = ℕ} (eqb e.life 4) 1 0 (eq-eqb _ _ life));
  }

  pub sweep-valid : running b e.strategy ≡ true → (0 < e.units → Sweeping b e) → Valid (on_sweep e b).state
  unfolding on_sweep and_then enter_sweep
  sweep-valid r f =
      pick-by (λ (m : Moved). Valid m.state) (live e)
      (λ t.
      let n : Entering swept e = swept-entering t (f (live_pos e t)) in
      let at : entry_at (enter e swept) (free_slot swept) ≡ e = enter-slot swept e swept-valid.sound n in
      let same : strategy_at (enter e swept) e.strategy ≡ strategy_at b e.strategy =
      enter-strategy swept e swept-valid n e.strategy ∙ strategy-same b swept (cancel-strategies b (old_sweep b e)) e.strategy in
      answer-valid (enter e swept) e.strategy e.side (free_slot swept) (enter-arrived swept e swept-valid n)
      (ap (λ (y : Entry). y.strategy) at) (rw same r) (λ z. omega (arith, life, ap (λ (y : Entry). y.life) at)))
      (λ _. swept-valid)

-- Leg orders.

-- the passes by legs are of strategies without an auction
leg_passes_in-valid : (s k : ℕ) (b : State) → Valid b → Valid (leg_passes_in s k b).state
unfolding leg_passes_in
leg_passes_in-valid s k b v =
    let P : Moved → Type 0 = λ (m : Moved). Valid m.state in
    pick_all P _
    (pick_all P _ (pick-by P (running b k) (λ _. v) (λ r. valid-only (leg_passes-only k b v.sound.order_rows) r v)) v)
    v

pub leg_passes-valid : (s : ℕ) (b : State) → Valid b → Valid (leg_passes s b).state
unfolding leg_passes
leg_passes-valid s b v = each_keeps Valid (leg_passes_in s) 16 (λ k _ c. leg_passes_in-valid s k c) b v

module _ (b : State) (o : LegOrder) (v : Valid b) (n : EnteringOrder b o) where
  order-near : (k : ℕ) → Nearly (enter_order o b) k 32
  unfolding enter_order with_orders with_last
  order-near k = nearly-tables k 32 refl refl (le_refl _) (settled-nearly 32 (v.settled k))

  order-legs : (k : ℕ) → OpenLegs (enter_order o b) k
  unfolding enter_order with_orders with_last shut_set
  order-legs k = (v.settled k).open_legs

  pub leg_order-valid : Valid (on_leg_order o b).state
  unfolding on_leg_order and_then if_rests
  leg_order-valid =
      let w : Valid (enter_order o b) = loose-valid (record { sound = sound-enter_order b o v.sound n; near = order-near }) order-legs in
      let t = valid-quiet (λ k. trade_all-only k _ (enter_order o b)) w in
      pick_all (λ (m : Moved). Valid m.state) _ t (leg_passes-valid o.series _ t)

-- Cancels.

-- a valid state in which number n started no auction
record Spared (n : ℕ) (b : State) : Type 0 where
  pub valid : Valid b
  pub other : (k : ℕ) → (strategy_at b k).starter ≡ n → ⊥

spared-cancel : (n i : ℕ) (b : State) → Spared n b → Spared n (cancel_entry_of n i b).state
unfolding cancel_entry_of
spared-cancel n i b s =
    let v : Valid b = s.valid in
    pick-by (λ (m : Moved). Spared n m.state) (eqb (entry_at b i).number n)
    (λ e. record {
      valid = cancel-valid i v.sound (λ k. settled-nearly i (v.settled k)) (λ k. (v.settled k).open_legs) (λ k _ p. s.other k (sym p.number ∙ eqb-true _ _ e));
      other = λ k. rw (strategy-same b (cancel_entry i b).state (cancel-strategies b i) k) (s.other k);
    })
    (λ _. s)

pub any_false : (f : ℕ → Bool) (k i : ℕ) → any_n f k ≡ false → i < k → f i ≡ false
any_false f k i h l = go (f i) refl
  where
    go : (t : Bool) → f i ≡ t → f i ≡ false
    go true e = absurd (clash (any-holds f k i l e) h)
    go false e = e

pub cancel-number-valid : (n : ℕ) (b : State) → 1 ≤ n → is_starter b n ≡ false → Valid b → Valid (cancel_number n b).state
unfolding cancel_number and_then is_starter
cancel-number-valid n b h e v =
    let p : Spared n (each (cancel_entry_of n) 32 b).state = each_keeps (Spared n) (cancel_entry_of n) 32 (λ i _ c. spared-cancel n i c) b (record { valid = v; other = none }) in
    valid-quiet (λ k. cancel_orders-only k n _) p.valid
  where
    none : (k : ℕ) → (strategy_at b k).starter ≡ n → ⊥
    none k q =
        ⊎_elim (λ (l : k < 16). eqb-false _ _ (any_false (started_by b n) 16 k e l) q)
        (λ (l : 16 ≤ k). omega (arith, (v.sound.undefined k (omega (arith, v.sound.defined))).2))
        (lt-or-le k 16)
