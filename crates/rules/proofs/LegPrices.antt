-- The best prices that a move of leg orders leaves as they were: those of every series and side of which it changes no order that stands, and
-- the own side's of an order that is wholly filled as it enters.
use mathlib.Core.Path.{◌≡◌, refl, sym, ◌∙◌, ap}
use mathlib.Core.Bool.{Bool, true, false}
use mathlib.Core.Logic.{⊎_elim}
use mathlib.Core.List.{List, [], ◌∷◌, ◌++◌}
use Prim.Native.Nat.{ℕ, zero, suc, ◌≤◌, ◌<◌, min}
use native.Mathlib.Nat.{sub-zero}
use native.Mathlib.Omega.{arith}
use borrow.Author.Tests.{eqb-true, eq-eqb, not-false, ltb-true}
use lib.ListN.{length, get_or, set, take}
use Rattle.base.specs.Pick.{pick, pick_all, pick-by, pick_true, pick-false}
use Rattle.base.specs.All.{All, all_nil, all_cons, all_replicate}
use Rattle.base.specs.Walks.{slot, walk, walk_same, sum-zero, lt-or-le}
use Rattle.rules.specs.declared.LegOrder.{LegOrder}
use Rattle.rules.specs.declared.State.{State}
use Rattle.rules.specs.State.{no_order, order_at, with_orders}
use Rattle.rules.specs.Moves.{Moved}
use Rattle.rules.specs.Sides.{other, best_price}
use Rattle.rules.specs.Nets.{stands, price_with, price_step, price_of}
use Rattle.rules.specs.Fills.{LegTake, cut_order, cut_leg, leg_quotas, cut_by_legs, leg_trade}
use Rattle.rules.specs.Events.{live_order, keep, behind, best_order, trade_once, trade_all}
use Rattle.rules.proofs.Tables.{all_take, behind-length, behind-slot}
use Rattle.rules.proofs.Shrinks.{set-by, cut_leg-shrinks, trade-shrinks}
use Rattle.rules.proofs.Gives.{other-apart}
use Rattle.rules.proofs.Control.{standing, meets-standing, best-order}
use Rattle.rules.proofs.Settled.{same_or, each_keeps}
use Rattle.rules.proofs.LegAccounts.{held, quota-lot, taken_by, legs-row}
use Rattle.rules.proofs.Bests.{with-no, stands-none}

-- ROWS
-- two that stand alike and at one price
with-same : (x e p : ℕ) (o q : LegOrder) → stands x e q ≡ stands x e o → (stands x e o ≡ true → q.price ≡ o.price) → price_with x e p q ≡ price_with x e p o
unfolding price_with
with-same x e p o q h g =
    ap (λ (t : Bool). pick t (best_price e p q.price) p) h
    ∙ pick-by (λ (z : ℕ). pick (stands x e o) (best_price e p q.price) p ≡ z) (stands x e o)
    (λ t. pick_true _ _ _ t ∙ ap (best_price e p) (g t)) (λ t. pick-false _ _ _ t)

-- tables of which each row counts alike
price-rows : (os ps : List LegOrder) (x e : ℕ) → ((i p : ℕ) → i < 32 → price_with x e p (get_or ps i no_order) ≡ price_with x e p (get_or os i no_order)) → price_of ps x e ≡ price_of os x e
unfolding price_of
price-rows os ps x e h = walk_same (price_step ps x e) (price_step os x e) 0 32 h

-- THE BEST PRICE GOES BY THE ORDERS THAT STAND and their prices
pub price-same : (os ps : List LegOrder) (x e : ℕ) → ((i : ℕ) → i < 32 → stands x e (get_or ps i no_order) ≡ stands x e (get_or os i no_order))
    → ((i : ℕ) → i < 32 → stands x e (get_or os i no_order) ≡ true → (get_or ps i no_order).price ≡ (get_or os i no_order).price) → price_of ps x e ≡ price_of os x e
price-same os ps x e h g = price-rows os ps x e (λ i p l. with-same x e p (get_or os i no_order) (get_or ps i no_order) (h i l) (g i l))

-- CUTS
-- an order that is cut only where it is of another series or side
with-cut : (x e p q : ℕ) (o : LegOrder) → (o.series ≡ x → o.side ≡ e → q ≡ 0) → price_with x e p (cut_order o q) ≡ price_with x e p o
with-cut x e p q o h = by (stands x e o) (stands x e (cut_order o q)) refl refl
  where
    uncut : q ≡ 0 → price_with x e p (cut_order o q) ≡ price_with x e p o
    uncut z = rw (z, sub-zero o.contracts)

    by : (t u : Bool) → stands x e o ≡ t → stands x e (cut_order o q) ≡ u → price_with x e p (cut_order o q) ≡ price_with x e p o
    by true u t c = let s = standing x e o t in uncut (h s.in_series s.on_side)
    by false true t c = let s = standing x e (cut_order o q) c in uncut (h s.in_series s.on_side)
    by false false t c = with-no x e p (cut_order o q) c ∙ sym (with-no x e p o t)

-- one order is cut, of another series or side
pub cut-price : (os : List LegOrder) (j q x e : ℕ) → ¬ ((x ≡ (get_or os j no_order).series) × (e ≡ (get_or os j no_order).side)) → price_of (set os j (cut_order (get_or os j no_order) q)) x e ≡ price_of os x e
cut-price os j q x e n =
    price-rows os (set os j (cut_order (get_or os j no_order) q)) x e
    (λ i p l. set-by (λ (o : LegOrder). price_with x e p o ≡ price_with x e p (get_or os i no_order)) no_order (cut_order (get_or os j no_order) q) os j i refl
    (λ z. rw z (with-cut x e p q (get_or os j no_order) (λ s d. absurd (n (sym s, sym d))))))

-- FILLS BY LEGS
-- an order of that series and side gives nothing to a take of another
quota-none : (os : List LegOrder) (t : LegTake) (j x e : ℕ) → ¬ ((x ≡ t.series) × (e ≡ t.side)) → (get_or os j no_order).series ≡ x → (get_or os j no_order).side ≡ e → slot (leg_quotas os t) j ≡ 0
quota-none os t j x e n s d =
    ⊎_elim
    (λ (l : 0 < slot (leg_quotas os t) j).
    let g = (held t.series t.side t.price (get_or os j no_order) (omega (arith, quota-lot os t j))).standing in
    absurd (n (sym s ∙ g.in_series, sym d ∙ g.on_side)))
    (λ (l : slot (leg_quotas os t) j ≤ 0). omega arith)
    (lt-or-le 0 (slot (leg_quotas os t) j))

-- all its legs: of every series and side that none takes
pub legs-price : (os : List LegOrder) (takes : ℕ → LegTake) (count x e : ℕ) → ((i : ℕ) → i < count → ¬ ((x ≡ (takes i).series) × (e ≡ (takes i).side))) → price_of (cut_by_legs os takes count) x e ≡ price_of os x e
legs-price os takes count x e n =
    price-rows os (cut_by_legs os takes count) x e
    (λ j p l. ap (price_with x e p) (legs-row os takes count j l)
    ∙ with-cut x e p (taken_by os takes count j) (get_or os j no_order)
    (λ s d. sum-zero (λ (i : ℕ). slot (leg_quotas os (takes i)) j) count (λ i m. quota-none os (takes i) j x e (n i m) s d)))

-- LEG AGAINST LEG
-- one cut
cut_leg-price : (b : State) (i q x e : ℕ) → ¬ (x ≡ (order_at b i).series) → price_of (cut_leg b i q).orders x e ≡ price_of b.orders x e
unfolding cut_leg with_orders
cut_leg-price b i q x e n = cut-price b.orders i q x e (λ z. n z.0)

-- both parties are of the series of the first
deal-price : (b : State) (a h x e : ℕ) → ¬ (x ≡ (order_at b a).series) → (order_at b h).series ≡ (order_at b a).series → price_of (leg_trade b a h).state.orders x e ≡ price_of b.orders x e
unfolding leg_trade
deal-price b a h x e n s =
    let q : ℕ = min (order_at b a).contracts (order_at b h).contracts in
    cut_leg-price (cut_leg b a q) h q x e (λ z. n (z ∙ ((cut_leg-shrinks b a q).order h).series ∙ s)) ∙ cut_leg-price b a q x e n

-- the order at slot a keeps its series, and the price is as it was
record Leaves (a x e : ℕ) (b c : State) : Type 0 where
  series : (order_at c a).series ≡ (order_at b a).series
  price : price_of c.orders x e ≡ price_of b.orders x e

-- one trade at most
once-price : (a i : ℕ) (b : State) (x e : ℕ) → ¬ (x ≡ (order_at b a).series) → Leaves a x e b (trade_once a i b).state
unfolding trade_once
once-price a i b x e n =
    let P : Moved → Type 0 = λ (m : Moved). Leaves a x e b m.state in
    let same : Leaves a x e b b = record { series = refl; price = refl } in
    let h : ℕ = best_order b (order_at b a) in
    pick_all P _ same
    (pick-by P _
    (λ l. record {
      series = ((trade-shrinks b a h).order a).series;
      price = deal-price b a h x e n (meets-standing (order_at b a) (order_at b h) (best-order b (order_at b a) (ltb-true _ _ l))).in_series;
    })
    (λ l. same))

-- all its trades: of every other series
pub trade-price : (a : ℕ) (b : State) (x e : ℕ) → ¬ (x ≡ (order_at b a).series) → price_of (trade_all a b).state.orders x e ≡ price_of b.orders x e
unfolding trade_all
trade-price a b x e n =
    (each_keeps (Leaves a x e b) (trade_once a) 32
    (λ i l c h. let k = once-price a i c x e (λ z. n (z ∙ h.series)) in record { series = k.series ∙ h.series; price = k.price ∙ h.price })
    b (record { series = refl; price = refl })).price

-- AN ORDER THAT ENTERS
-- the best price over a list, from p on
unfoldable over : ℕ → ℕ → ℕ → List LegOrder → ℕ
over x e p [] = p
over x e p (o ∷ os) = over x e (price_with x e p o) os

-- a walk with its first slot apart
walk-apart : {A : Type 0} (f : ℕ → A → A) (a : A) (k : ℕ) → walk f a (suc k) ≡ walk (λ (i : ℕ). f (suc i)) (f 0 a) k
unfolding walk
walk-apart f a zero = refl
walk-apart f a (suc k) = ap (f (suc k)) (walk-apart f a k)

module _ (x e : ℕ) where
  -- the walk over the slots is that over the rows
  walk-over : (os : List LegOrder) (k p : ℕ) → length os ≤ k → walk (price_step os x e) p k ≡ over x e p os
  unfolding over walk
  walk-over [] zero p h = refl
  walk-over [] (suc k) p h = with-no x e (walk (price_step [] x e) p k) no_order (stands-none x e) ∙ walk-over [] k p (omega arith)
  walk-over (o ∷ os) zero p h = absurd (omega arith)
  walk-over (o ∷ os) (suc k) p h = walk-apart (price_step (o ∷ os) x e) p k ∙ walk-over os k (price_with x e p o) (omega arith)

  -- a row that stands elsewhere or not at all
  abbrev Elsewhere : LegOrder → Type 0
  Elsewhere o = stands x e o ≡ false

  -- rows of which each is such a one leave the price
  over-elsewhere : (p : ℕ) {os : List LegOrder} → All Elsewhere os → over x e p os ≡ p
  unfolding over
  over-elsewhere p all_nil = refl
  over-elsewhere p (all_cons {a = o} {l = os} h a) = ap (λ (r : ℕ). over x e r os) (with-no x e p o h) ∙ over-elsewhere p a

  -- .. behind others
  over-behind : (n p : ℕ) (os : List LegOrder) {ps : List LegOrder} → length os ≤ n → All Elsewhere ps → over x e p (take n (os ++ ps)) ≡ over x e p os
  unfolding over
  over-behind n p [] h a = over-elsewhere p (all_take a n)
  over-behind zero p (o ∷ os) h a = absurd (omega arith)
  over-behind (suc n) p (o ∷ os) h a = over-behind n (price_with x e p o) os (omega arith) a

  -- a row with no contracts
  stands-not : (o : LegOrder) → o.contracts ≡ 0 → Elsewhere o
  unfolding stands
  stands-not o h = pick_true _ _ _ (eq-eqb _ _ h)

  stands-dead : (o : LegOrder) → live_order o ≡ false → Elsewhere o
  unfolding live_order
  stands-dead o h = stands-not o (eqb-true _ _ (not-false _ h))

  -- the live rows alone
  over-live : (p : ℕ) (os : List LegOrder) → over x e p (keep live_order os) ≡ over x e p os
  unfolding over keep
  over-live p [] = refl
  over-live p (o ∷ os) =
      pick-by (λ (l : List LegOrder). over x e p l ≡ over x e (price_with x e p o) os) (live_order o)
      (λ t. over-live (price_with x e p o) os)
      (λ t. over-live p os ∙ ap (λ (r : ℕ). over x e r os) (sym (with-no x e p o (stands-dead o t))))

  -- of a whole table
  price-over : (os : List LegOrder) → length os ≡ 32 → price_of os x e ≡ over x e 0 os
  unfolding price_of
  price-over os n = walk-over os 32 0 (omega arith)

-- an order of another series or side stands elsewhere
stands-other : (x e : ℕ) (o : LegOrder) → ¬ ((x ≡ o.series) × (e ≡ o.side)) → stands x e o ≡ false
stands-other x e o n = by (stands x e o) refl
  where
    by : (t : Bool) → stands x e o ≡ t → stands x e o ≡ false
    by true t = let s = standing x e o t in absurd (n (sym s.in_series, sym s.on_side))
    by false t = t

-- behind the live ones: where it stands elsewhere or not at all
enter-elsewhere : (o : LegOrder) (os : List LegOrder) (x e : ℕ) → length (keep live_order os) < 32 → length os ≡ 32 → stands x e o ≡ false → price_of (behind live_order no_order o os) x e ≡ price_of os x e
unfolding behind
enter-elsewhere o os x e room rows h =
    price-over x e (behind live_order no_order o os) (behind-length live_order no_order o os)
    ∙ over-behind x e 32 0 (keep live_order os) (omega arith) (all_cons h (all_replicate no_order (stands-none x e) 32))
    ∙ over-live x e 0 os ∙ sym (price-over x e os rows)

-- .. of every other series or side
pub enter-price : (o : LegOrder) (os : List LegOrder) (x e : ℕ) → length (keep live_order os) < 32 → length os ≡ 32 → ¬ ((x ≡ o.series) × (e ≡ o.side)) → price_of (behind live_order no_order o os) x e ≡ price_of os x e
enter-price o os x e room rows n = enter-elsewhere o os x e room rows (stands-other x e o n)

-- AN ORDER THAT IS WHOLLY FILLED as it enters
-- what one cut leaves of a slot, for a side that the order cut is not of
cut_leg-row : (b : State) (i q x e j p : ℕ) → (j ≡ i → ¬ ((order_at b i).side ≡ e)) → price_with x e p (order_at (cut_leg b i q) j) ≡ price_with x e p (order_at b j)
unfolding cut_leg with_orders
cut_leg-row b i q x e j p n =
    set-by (λ (o : LegOrder). price_with x e p o ≡ price_with x e p (order_at b j)) no_order (cut_order (order_at b i) q) b.orders i j refl
    (λ z. rw z (with-cut x e p q (order_at b i) (λ s d. absurd (n z d))))

-- the order at slot a keeps its side, and every other slot counts on that side as it did
record Beside (a : ℕ) (b c : State) : Type 0 where
  side : (order_at c a).side ≡ (order_at b a).side
  rows : (x p j : ℕ) → ¬ (j ≡ a) → price_with x (order_at b a).side p (order_at c j) ≡ price_with x (order_at b a).side p (order_at b j)

-- the other party is of the other side
deal-beside : (b : State) (a h : ℕ) → (order_at b h).side ≡ other (order_at b a).side → Beside a b (leg_trade b a h).state
unfolding leg_trade
deal-beside b a h s =
    let q : ℕ = min (order_at b a).contracts (order_at b h).contracts in
    let e : ℕ = (order_at b a).side in
    record {
      side = ((trade-shrinks b a h).order a).side;
      rows = λ x p j n.
          cut_leg-row (cut_leg b a q) h q x e j p (λ _ d. other-apart e (sym d ∙ ((cut_leg-shrinks b a q).order h).side ∙ s))
          ∙ cut_leg-row b a q x e j p (λ z. absurd (n z));
    }

-- one trade at most
once-beside : (a i : ℕ) (b : State) → Beside a b (trade_once a i b).state
unfolding trade_once
once-beside a i b =
    let P : Moved → Type 0 = λ (m : Moved). Beside a b m.state in
    let same : Beside a b b = record { side = refl; rows = λ x p j n. refl } in
    let h : ℕ = best_order b (order_at b a) in
    pick_all P _ same
    (pick-by P _ (λ l. deal-beside b a h (meets-standing (order_at b a) (order_at b h) (best-order b (order_at b a) (ltb-true _ _ l))).on_side) (λ l. same))

-- all its trades
all-beside : (a : ℕ) (b : State) → Beside a b (trade_all a b).state
unfolding trade_all
all-beside a b =
    each_keeps (Beside a b) (trade_once a) 32
    (λ i l c h. let k = once-beside a i c in record { side = k.side ∙ h.side; rows = λ x p j n. rw h.side at (k.rows x p j n) ∙ h.rows x p j n })
    b (record { side = refl; rows = λ x p j n. refl })

-- a slot that is not the new one's is the same whichever row is new
swapped-row : {A : Type 0} (d x y : A) (r : List A) (n : ℕ) (l : List A) (j : ℕ) → ¬ (j ≡ length l) → get_or (take n (l ++ (x ∷ r))) j d ≡ get_or (take n (l ++ (y ∷ r))) j d
swapped-row d x y r zero l j n = refl
swapped-row d x y r (suc k) [] zero n = absurd (n refl)
swapped-row d x y r (suc k) [] (suc j) n = refl
swapped-row d x y r (suc k) (z ∷ l) zero n = refl
swapped-row d x y r (suc k) (z ∷ l) (suc j) n = swapped-row d x y r k l j (λ e. n (ap suc e))

behind-swapped : (o q : LegOrder) (os : List LegOrder) (j : ℕ) → ¬ (j ≡ length (keep live_order os)) → get_or (behind live_order no_order o os) j no_order ≡ get_or (behind live_order no_order q os) j no_order
unfolding behind
behind-swapped o q os j n = swapped-row no_order o q _ 32 (keep live_order os) j n

-- its own side's price is as it was before it entered
pub filled-price : (o : LegOrder) (os : List LegOrder) (a x : ℕ) (b : State) → length (keep live_order os) < 32 → length os ≡ 32 → a ≡ length (keep live_order os) → b.orders ≡ behind live_order no_order o os
    → (order_at (trade_all a b).state a).contracts ≡ 0 → price_of (trade_all a b).state.orders x o.side ≡ price_of os x o.side
filled-price o os a x b room size at entered z =
    let ps : List LegOrder = behind live_order no_order no_order os in
    let e : ℕ = o.side in
    let own : order_at b a ≡ o = rw (entered, at) (behind-slot live_order no_order o os room) in
    let s : (order_at b a).side ≡ e = ap (λ (p : LegOrder). p.side) own in
    let gone : get_or ps a no_order ≡ no_order = rw at (behind-slot live_order no_order no_order os room) in
    price-rows ps (trade_all a b).state.orders x e
    (λ i p l. same_or _ i a
    (λ q. rw q (with-no x e p (order_at (trade_all a b).state a) (stands-not x e _ z) ∙ sym (rw gone (with-no x e p no_order (stands-none x e)))))
    (λ n. rw s at ((all-beside a b).rows x p i n) ∙ ap (price_with x e p) (ap (λ (l : List LegOrder). get_or l i no_order) entered ∙ behind-swapped o no_order os i (λ q. n (q ∙ sym at)))))
    ∙ enter-elsewhere no_order os x e room size (stands-none x e)
