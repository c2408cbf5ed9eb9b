-- By slot is by number, and the best that a walk finds is the best by price, then number.
use mathlib.Core.Path.{◌≡◌, refl, sym, ap, ◌∙◌}
use mathlib.Core.Bool.{Bool, true, false}
use mathlib.Core.Logic.{◌⊎◌, inl, inr, ⊎_elim}
use Prim.Native.Nat.{ℕ, zero, suc, ◌≤◌, ◌<◌}
use native.Mathlib.Nat.{eq-or-lt_of_le}
use native.Mathlib.Omega.{arith}
use borrow.Author.Tests.{ltb-true, ltb-false, lt-ltb, le-ltb, eqb-true, eq-eqb, ne_eqb}
use lib.Dec.{eqb, ltb}
use lib.ListN.{length}
use Rattle.base.specs.Pick.{pick, pick_true, pick-false, pick_all, pick-by, pick_yes, pick_no}
use Rattle.base.specs.Walks.{walk, clash, below, lt-or-le}
use Rattle.rules.specs.declared.Entry.{Entry}
use Rattle.rules.specs.declared.LegOrder.{LegOrder}
use Rattle.rules.specs.declared.State.{State}
use Rattle.rules.specs.State.{no_entry, no_order, entry_at, order_at}
use Rattle.rules.specs.Sides.{other, meets, better}
use Rattle.rules.specs.Nets.{stands}
use Rattle.rules.specs.Auctions.{live_in, ahead, best_slot}
use Rattle.rules.specs.Events.{meets_order, ahead_order, best_order}
use Rattle.rules.specs.Valid.{Sound}
use Rattle.rules.proofs.Tables.{live-row, positive}

-- BY NUMBER IS BY SLOT, where the numbers of live rows rise
by-rising : (number quantity : ℕ → ℕ) → ((i j : ℕ) → i < j → 0 < quantity i → 0 < quantity j → number i < number j) → (i j : ℕ) → 0 < quantity i → 0 < quantity j → number i < number j → i < j
by-rising number quantity rising i j p q h =
    ⊎_elim (λ l. l)
    (λ (l : j ≤ i). absurd (⊎_elim (λ (e : j ≡ i). omega (arith, ap number e)) (λ (m : j < i). omega (arith, rising j i m q p)) (eq-or-lt_of_le l)))
    (lt-or-le i j)

pub by_number_lem : {b : State} → Sound b → (i j : ℕ) → 0 < (entry_at b i).units → 0 < (entry_at b j).units → (entry_at b i).number < (entry_at b j).number → i < j
by_number_lem {b} v = by-rising (λ (i : ℕ). (entry_at b i).number) (λ (i : ℕ). (entry_at b i).units) v.rising

pub by-order-number : {b : State} → Sound b → (i j : ℕ) → 0 < (order_at b i).contracts → 0 < (order_at b j).contracts → (order_at b i).number < (order_at b j).number → i < j
by-order-number {b} v = by-rising (λ (i : ℕ). (order_at b i).number) (λ (i : ℕ). (order_at b i).contracts) v.rising_orders

-- BETTER is a strict order of prices
pub better-turn : (side x y : ℕ) → better side x y ≡ true → better side y x ≡ false
unfolding better pick
better-turn side x y = by (eqb side 0)
  where
    by : (t : Bool) → pick t (ltb x y) (ltb y x) ≡ true → pick t (ltb y x) (ltb x y) ≡ false
    by true e = le-ltb y x (omega (arith, ltb-true x y e))
    by false e = le-ltb x y (omega (arith, ltb-true y x e))

pub better-past : (side x y z : ℕ) → better side x y ≡ true → better side z y ≡ false → better side x z ≡ true
unfolding better pick
better-past side x y z = by (eqb side 0)
  where
    by : (t : Bool) → pick t (ltb x y) (ltb y x) ≡ true → pick t (ltb z y) (ltb y z) ≡ false → pick t (ltb x z) (ltb z x) ≡ true
    by true e f = lt-ltb x z (omega (arith, ltb-true x y e, ltb-false z y f))
    by false e f = lt-ltb z x (omega (arith, ltb-true y x e, ltb-false y z f))

pub better-alike : (side x : ℕ) → better side x x ≡ false
unfolding better
better-alike side x = pick_all (λ (t : Bool). t ≡ false) _ (le-ltb x x (omega arith)) (le-ltb x x (omega arith))

-- THE BEST OF A WALK: none of the first k slots is a candidate, or slot w is one, none is better, and those before it are worse
record None (ok : ℕ → Bool) (k w : ℕ) : Type 0 where
  past : w ≡ 32
  none : (i : ℕ) → i < k → ok i ≡ false

record First (ok : ℕ → Bool) (price : ℕ → ℕ) (side k w : ℕ) : Type 0 where
  slot : w < k
  good : ok w ≡ true
  best : (i : ℕ) → i < k → ok i ≡ true → better side (price i) (price w) ≡ false
  first : (i : ℕ) → i < w → ok i ≡ true → better side (price w) (price i) ≡ true

abbrev Found : (ℕ → Bool) → (ℕ → ℕ) → ℕ → ℕ → ℕ → Type 0
Found ok price side k w = None ok k w ⊎ First ok price side k w

module _ (ok : ℕ → Bool) (price : ℕ → ℕ) (side : ℕ) where
  -- the new slot is no candidate, or no better than the best
  skips : (k w : ℕ) → ok k ≡ false → Found ok price side k w → Found ok price side (suc k) w
  skips k w e = ⊎_elim
      (λ n. inl (record { past = n.past; none = λ i l. ⊎_elim (λ q. ap ok q ∙ e) (n.none i) (below l) }))
      (λ f. inr (record {
        slot = omega (arith, f.slot);
        good = f.good;
        best = λ i l g. ⊎_elim (λ q. absurd (clash g (ap ok q ∙ e))) (λ m. f.best i m g) (below l);
        first = f.first;
      }))

  keeps : (k w : ℕ) → First ok price side k w → better side (price k) (price w) ≡ false → First ok price side (suc k) w
  keeps k w f e = record {
    slot = omega (arith, f.slot);
    good = f.good;
    best = λ i l g. ⊎_elim (λ q. rw q e) (λ m. f.best i m g) (below l);
    first = f.first;
  }

  -- it is the first candidate, or better than the best
  starts : (k w : ℕ) → None ok k w → ok k ≡ true → First ok price side (suc k) k
  starts k w n e = record {
    slot = omega arith;
    good = e;
    best = λ i l g. ⊎_elim (λ q. rw q (better-alike side (price k))) (λ m. absurd (clash g (n.none i m))) (below l);
    first = λ i l g. absurd (clash g (n.none i l));
  }

  leads : (k w : ℕ) → First ok price side k w → ok k ≡ true → better side (price k) (price w) ≡ true → First ok price side (suc k) k
  leads k w f e b = record {
    slot = omega arith;
    good = e;
    best = λ i l g. ⊎_elim (λ q. rw q (better-alike side (price k))) (λ m. better-turn side (price k) (price i) (ahead i m g)) (below l);
    first = ahead;
  }
    where
      ahead : (i : ℕ) → i < k → ok i ≡ true → better side (price k) (price i) ≡ true
      ahead i m g = better-past side (price k) (price w) (price i) b (f.best i m g)

  -- one slot more
  next : (k w : ℕ) → k < 32 → Found ok price side k w → Found ok price side (suc k) (pick (pick (ok k) (pick (eqb w 32) true (better side (price k) (price w))) false) k w)
  next k w h found =
      pick-by (λ (x : ℕ). Found ok price side (suc k) x) _
      (λ e. ⊎_elim (λ n. inr (starts k w n (pick_yes (ok k) e).0)) (λ f. inr (leads k w f (pick_yes (ok k) e).0 (sym (later f) ∙ (pick_yes (ok k) e).1))) found)
      (λ e. by (ok k) refl e)
    where
      front : Bool
      front = pick (eqb w 32) true (better side (price k) (price w))

      later : First ok price side k w → front ≡ better side (price k) (price w)
      later f = pick-false (eqb w 32) true _ (ne_eqb w 32 (λ q. omega (arith, f.slot)))

      by : (t : Bool) → ok k ≡ t → pick t front false ≡ false → Found ok price side (suc k) w
      by false o e = skips k w o found
      by true o e =
          let z : front ≡ false = sym (pick_true true front false refl) ∙ e in
          ⊎_elim (λ n. absurd (clash (pick_true (eqb w 32) true _ (eq-eqb w 32 n.past)) z)) (λ f. inr (keeps k w f (sym (later f) ∙ z))) found

  module _ (ahead : ℕ → ℕ → Bool) (is : (i w : ℕ) → ahead i w ≡ pick (ok i) (pick (eqb w 32) true (better side (price i) (price w))) false) where
    walked : (k : ℕ) → k ≤ 32 → Found ok price side k (walk (λ (i w : ℕ). pick (ahead i w) i w) 32 k)
    unfolding walk
    walked zero h = inl (record { past = refl; none = λ i l. absurd (omega arith) })
    walked (suc k) h = rw (is k _) (next k _ (omega arith) (walked k (omega arith)))

-- two tests or one
both : (s t u : Bool) → pick s (pick t u false) false ≡ pick (pick s t false) u false
unfolding pick
both true t u = refl
both false t u = refl

none_left : (u : ℕ) → 0 < u → eqb u 0 ≡ false
none_left u h = ne_eqb u 0 (λ e. omega arith)

-- a live row stands within the table
pub live-slot : (b : State) → length b.entries ≡ 32 → (i : ℕ) → 0 < (entry_at b i).units → i < 32
live-slot b n = live-row (λ (e : Entry). e.units) no_entry refl b.entries n

pub order-slot : (b : State) → length b.orders ≡ 32 → (i : ℕ) → 0 < (order_at b i).contracts → i < 32
order-slot b n = live-row (λ (o : LegOrder). o.contracts) no_order refl b.orders n

-- BEST BUY, BEST SELL. A live entry of a strategy and side
pub record Resting (b : State) (k s i : ℕ) : Type 0 where
  pub live : 0 < (entry_at b i).units
  pub strategy : (entry_at b i).strategy ≡ k
  pub side : (entry_at b i).side ≡ s

abbrev in_book : State → ℕ → ℕ → ℕ → Bool
in_book b k s i = pick (live_in k (entry_at b i)) (eqb (entry_at b i).side s) false

in-book : (b : State) (k s i : ℕ) → in_book b k s i ≡ true → Resting b k s i
unfolding live_in
in-book b k s i e =
    let l = pick_yes (live_in k (entry_at b i)) e in
    let u = pick_no (eqb (entry_at b i).units 0) l.0 in
    record { live = positive _ u.0; strategy = eqb-true _ _ u.1; side = eqb-true _ _ l.1 }

rests-in : (b : State) (k s i : ℕ) → Resting b k s i → in_book b k s i ≡ true
unfolding live_in
rests-in b k s i r =
    pick_true _ _ _ (pick-false _ _ _ (none_left _ r.live) ∙ eq-eqb _ _ r.strategy) ∙ eq-eqb _ _ r.side

abbrev level_at : State → ℕ → ℕ
level_at b i = (entry_at b i).level

slot-found : (b : State) (k s : ℕ) → Found (in_book b k s) (level_at b) (other s) 32 (best_slot b k s)
unfolding best_slot ahead
slot-found b k s = walked (in_book b k s) (level_at b) (other s) (ahead b k s) (λ i w. both (live_in k (entry_at b i)) _ _) 32 (omega arith)

pub best-rests : (b : State) (k s : ℕ) → best_slot b k s < 32 → Resting b k s (best_slot b k s)
best-rests b k s l = ⊎_elim (λ n. absurd (omega (arith, n.past))) (λ f. in-book b k s _ f.good) (slot-found b k s)

-- slot x is the best: none is better priced, and at its level none has a smaller number
pub record BestEntry (b : State) (k s x : ℕ) : Type 0 where
  pub slot : x < 32
  pub rests : Resting b k s x
  pub best : (i : ℕ) → Resting b k s i → better (other s) (entry_at b i).level (entry_at b x).level ≡ false
  pub first : (i : ℕ) → Resting b k s i → (entry_at b i).level ≡ (entry_at b x).level → (entry_at b x).number ≤ (entry_at b i).number

pub record NoEntry (b : State) (k s x : ℕ) : Type 0 where
  pub past : x ≡ 32
  pub none : (i : ℕ) → Resting b k s i → ⊥

-- "best buy with best sell (price, then number)"
pub best-first : {b : State} → Sound b → (k s : ℕ) → NoEntry b k s (best_slot b k s) ⊎ BestEntry b k s (best_slot b k s)
best-first {b} v k s = ⊎_elim
    (λ n. inl (record { past = n.past; none = λ i r. clash (rests-in b k s i r) (n.none i (within i r)) }))
    (λ f. inr (record { slot = f.slot; rests = in-book b k s x f.good; best = λ i r. f.best i (within i r) (rests-in b k s i r); first = first f }))
    (slot-found b k s)
  where
    x : ℕ
    x = best_slot b k s

    within : (i : ℕ) → Resting b k s i → i < 32
    within i r = live-slot b v.entry_rows i r.live

    first : First (in_book b k s) (level_at b) (other s) 32 x → (i : ℕ) → Resting b k s i → (entry_at b i).level ≡ (entry_at b x).level → (entry_at b x).number ≤ (entry_at b i).number
    first f i r e = ⊎_elim
        (λ (l : i < x). absurd (clash (f.first i l (rests-in b k s i r)) (rw e (better-alike (other s) (entry_at b x).level))))
        (λ (l : x ≤ i). ⊎_elim (λ q. rw q (omega arith)) (λ m. let o = v.rising x i m (in-book b k s x f.good).live r.live in omega arith) (eq-or-lt_of_le l))
        (lt-or-le i x)

-- the same in numbers: the highest buy, the lowest sell
pub best-buy : {b : State} {k x : ℕ} → BestEntry b k 0 x → (i : ℕ) → Resting b k 0 i → (entry_at b i).level ≤ (entry_at b x).level
unfolding better other pick
best-buy e i r = ltb-false _ _ (e.best i r)

pub best-sell : {b : State} {k x : ℕ} → BestEntry b k 1 x → (i : ℕ) → Resting b k 1 i → (entry_at b x).level ≤ (entry_at b i).level
unfolding better other pick
best-sell e i r = ltb-false _ _ (e.best i r)

-- where one rests there is a best one, and it is no worse
pub best-any : (b : State) → length b.entries ≡ 32 → (k s i : ℕ) → Resting b k s i
    → (best_slot b k s < 32) × (better (other s) (entry_at b i).level (entry_at b (best_slot b k s)).level ≡ false)
best-any b n k s i r =
    let l : i < 32 = live-slot b n i r.live in
    ⊎_elim (λ e. absurd (clash (rests-in b k s i r) (e.none i l))) (λ f. (f.slot, f.best i l (rests-in b k s i r))) (slot-found b k s)

-- THE BEST LEG ORDER. One that a leg order meets: live, of its series, of the other side, at a price within its own
pub record Meeting (b : State) (o : LegOrder) (i : ℕ) : Type 0 where
  pub live : 0 < (order_at b i).contracts
  pub series : (order_at b i).series ≡ o.series
  pub side : (order_at b i).side ≡ other o.side
  pub price : meets o.side o.price (order_at b i).price ≡ true

abbrev meets_at : State → LegOrder → ℕ → Bool
meets_at b o i = meets_order o (order_at b i)

meets_at_lem : (b : State) (o : LegOrder) (i : ℕ) → meets_at b o i ≡ true → Meeting b o i
unfolding meets_order stands
meets_at_lem b o i e =
    let m = pick_yes (stands o.series (other o.side) (order_at b i)) e in
    let u = pick_no (eqb (order_at b i).contracts 0) m.0 in
    let w = pick_yes (eqb (order_at b i).series o.series) u.1 in
    record { live = positive _ u.0; series = eqb-true _ _ w.0; side = eqb-true _ _ w.1; price = m.1 }

at_meets : (b : State) (o : LegOrder) (i : ℕ) → Meeting b o i → meets_at b o i ≡ true
unfolding meets_order stands
at_meets b o i m =
    pick_true _ _ _ (pick-false _ _ _ (none_left _ m.live) ∙ pick_true _ _ _ (eq-eqb _ _ m.series) ∙ eq-eqb _ _ m.side) ∙ m.price

abbrev order_price_at : State → ℕ → ℕ
order_price_at b i = (order_at b i).price

order-found : (b : State) (o : LegOrder) → Found (meets_at b o) (order_price_at b) o.side 32 (best_order b o)
unfolding best_order ahead_order
order-found b o = walked (meets_at b o) (order_price_at b) o.side (ahead_order b o) (λ i w. refl) 32 (omega arith)

pub best-meets : (b : State) (o : LegOrder) → best_order b o < 32 → Meeting b o (best_order b o)
best-meets b o l = ⊎_elim (λ n. absurd (omega (arith, n.past))) (λ f. meets_at_lem b o _ f.good) (order-found b o)

pub record BestOrder (b : State) (o : LegOrder) (x : ℕ) : Type 0 where
  pub slot : x < 32
  pub met : Meeting b o x
  pub best : (i : ℕ) → Meeting b o i → better o.side (order_at b i).price (order_at b x).price ≡ false
  pub first : (i : ℕ) → Meeting b o i → (order_at b i).price ≡ (order_at b x).price → (order_at b x).number ≤ (order_at b i).number

pub record NoOrder (b : State) (o : LegOrder) (x : ℕ) : Type 0 where
  pub past : x ≡ 32
  pub none : (i : ℕ) → Meeting b o i → ⊥

-- "opposite leg orders that meet its price, best price then number"
pub best-order-first : {b : State} → Sound b → (o : LegOrder) → NoOrder b o (best_order b o) ⊎ BestOrder b o (best_order b o)
best-order-first {b} v o = ⊎_elim
    (λ n. inl (record { past = n.past; none = λ i r. clash (at_meets b o i r) (n.none i (within i r)) }))
    (λ f. inr (record { slot = f.slot; met = meets_at_lem b o x f.good; best = λ i r. f.best i (within i r) (at_meets b o i r); first = first f }))
    (order-found b o)
  where
    x : ℕ
    x = best_order b o

    within : (i : ℕ) → Meeting b o i → i < 32
    within i r = order-slot b v.order_rows i r.live

    first : First (meets_at b o) (order_price_at b) o.side 32 x → (i : ℕ) → Meeting b o i → (order_at b i).price ≡ (order_at b x).price → (order_at b x).number ≤ (order_at b i).number
    first f i r e = ⊎_elim
        (λ (l : i < x). absurd (clash (f.first i l (at_meets b o i r)) (rw e (better-alike o.side (order_at b x).price))))
        (λ (l : x ≤ i). ⊎_elim (λ q. rw q (omega arith)) (λ m. let n = v.rising_orders x i m (meets_at_lem b o x f.good).live r.live in omega arith) (eq-or-lt_of_le l))
        (lt-or-le i x)

-- the same in numbers: the lowest offer for a buy, the highest bid for a sell
pub best-offer : {b : State} {o : LegOrder} {x : ℕ} → o.side ≡ 0 → BestOrder b o x → (i : ℕ) → Meeting b o i → (order_at b x).price ≤ (order_at b i).price
unfolding better pick
best-offer e m i r = ltb-false _ _ (rw e at (m.best i r))

pub best-bid : {b : State} {o : LegOrder} {x : ℕ} → o.side ≡ 1 → BestOrder b o x → (i : ℕ) → Meeting b o i → (order_at b i).price ≤ (order_at b x).price
unfolding better pick
best-bid e m i r = ltb-false _ _ (rw e at (m.best i r))

-- where one meets there is a best one
pub best-order-any : (b : State) → length b.orders ≡ 32 → (o : LegOrder) (i : ℕ) → Meeting b o i → best_order b o < 32
best-order-any b n o i r =
    let l : i < 32 = order-slot b n i r.live in
    ⊎_elim (λ e. absurd (clash (at_meets b o i r) (e.none i l))) (λ f. f.slot) (order-found b o)
