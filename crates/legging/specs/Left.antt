-- The stored nets after a fill by the legs: leg by leg, the price that it met goes to what is left of it.
use Rattle.std.specs.Prelude.{◌≡◌, refl, Bool, true, false, List, eqb, Option, Some}
use Rattle.std.proofs.Math.Path.{sym}
use Rattle.std.proofs.Common.{◌∙◌, ap, ⊎_elim, add-one, arith}
use Prim.Native.Nat.{ℕ, zero, suc, ◌+◌, ◌≤◌, ◌<◌}
use borrow.Author.Tests.{eqb-true, eqb-false, ltb-true}
use Rattle.std.proofs.Math.ListN.{get_or}
use Rattle.base.specs.Pick.{pick_all, pick-by}
use Rattle.base.specs.All.{All}
use Rattle.base.specs.Walks.{slot, table, stored, all_n, walk, table-slot, stored_at, all-holds, lt-or-le}
use Rattle.rules.specs.declared.Leg.{Leg}
use Rattle.rules.specs.declared.Strategy.{Strategy}
use Rattle.rules.specs.declared.LegOrder.{LegOrder}
use Rattle.rules.specs.declared.LegNets.{LegNets}
use Rattle.rules.specs.declared.Entry.{Entry}
use Rattle.rules.specs.Rows.{no_leg}
use Rattle.rules.specs.Sides.{other, leg_side}
use Rattle.rules.specs.Nets.{price_of, leg_price, price_at, prices, priced_at, known, net_of, nets_of, units_of}
use Rattle.rules.specs.Fills.{takes_at, cut_by_legs}
use Rattle.rules.specs.Valid.{FitOrder}
use Rattle.rules.proofs.BetterNets.{price-most}
use Rattle.rules.proofs.LegPrices.{legs-price}
use Rattle.ranges.specs.Fit.{FitLegs}
use Rattle.nets.specs.declared.LegBests.{LegBests}
use Rattle.nets.specs.Legs.{leg_bests, legs-known}
use Rattle.legging.specs.Legging.{units_by_legs, orders_by_legs}
use Rattle.stored_nets.specs.Stored.{Prices, with_price, all_nets_by, FitNets, Refreshed}
use Rattle.stored_nets.specs.Laws.{nets-by, fit-all-by, with-price-most, with-price-at, with-price-other, all-nets-ext}

-- the side that a complex party of that side meets on a leg
abbrev pub met_on : ℕ → Leg → ℕ
met_on side l = other (leg_side side l)

-- the price of the leg at place i, as it is among these leg orders
abbrev left_step : List LegOrder → ℕ → List Leg → ℕ → Prices → Prices
left_step os side legs i f = with_price f (get_or legs i no_leg).series (met_on side (get_or legs i no_leg)) (price_of os (get_or legs i no_leg).series (met_on side (get_or legs i no_leg)))

-- prices of which those that are met on the first k legs are those of these leg orders
unfoldable pub with_left : Prices → List LegOrder → ℕ → List Leg → ℕ → Prices
with_left f os side legs k = walk (left_step os side legs) f k

-- prices f that these legs were filled at: on each of them the one in ps, which is there
pub record MetAt (f : Prices) (side : ℕ) (legs : List Leg) (count : ℕ) (ps : List ℕ) : Type 0 where
  pub most : (x e : ℕ) → f x e ≤ 99_999
  pub met : (i : ℕ) → i < count → f (get_or legs i no_leg).series (met_on side (get_or legs i no_leg)) ≡ slot ps i
  pub there : (i : ℕ) → i < count → 0 < slot ps i

-- the nets are those of such prices
pub record FilledAt (ns : List LegNets) (ss : List Strategy) (side : ℕ) (legs : List Leg) (count : ℕ) (ps : List ℕ) : Type 0 where
  pub prices : Prices
  pub at : MetAt prices side legs count ps
  pub nets : ns ≡ all_nets_by prices ss

-- the nets with the first k legs done, whichever prices they were of
pub record LegsLeft (ns : List LegNets) (ss : List Strategy) (os : List LegOrder) (side : ℕ) (legs : List Leg) (count : ℕ) (ps : List ℕ) (k : ℕ) (ms : List LegNets) : Type 0 where
  pub by : (f : Prices) → MetAt f side legs count ps → ns ≡ all_nets_by f ss → ms ≡ all_nets_by (with_left f os side legs k) ss

-- laws

pub side-most : (taken : ℕ) {on : ℕ} → on ≡ other taken → on ≤ 1
unfolding other
side-most taken e = rw e (pick_all (λ (x : ℕ). x ≤ 1) _ (omega arith) (omega arith))

pub legs-none : (ns : List LegNets) (ss : List Strategy) (os : List LegOrder) (side : ℕ) (legs : List Leg) (count : ℕ) (ps : List ℕ) → LegsLeft ns ss os side legs count ps 0 ns
unfolding with_left walk
legs-none ns ss os side legs count ps = record { by = λ f m e. e }

left-most : (f : Prices) (os : List LegOrder) (side : ℕ) (legs : List Leg) → All FitOrder os → ((x e : ℕ) → f x e ≤ 99_999) → (k x e : ℕ) → with_left f os side legs k x e ≤ 99_999
unfolding with_left walk
left-most f os side legs a h zero x e = h x e
left-most f os side legs a h (suc k) x e = with-price-most _ _ _ _ (left-most f os side legs a h k) (price-most os a _ _) x e

-- a price that none of the first k legs meets
left_other : (f : Prices) (os : List LegOrder) (side : ℕ) (legs : List Leg) (k x e : ℕ) → ((i : ℕ) → i < k → ¬ ((x ≡ (get_or legs i no_leg).series) × (e ≡ met_on side (get_or legs i no_leg))))
    → with_left f os side legs k x e ≡ f x e
unfolding with_left walk
left_other f os side legs zero x e n = refl
left_other f os side legs (suc k) x e n = with-price-other _ _ _ _ (n k (omega arith)) ∙ left_other f os side legs k x e (λ i h. n i (omega arith))

module _ (t : Strategy) {ns : List LegNets} {ss : List Strategy} {os : List LegOrder} {side : ℕ} {ps : List ℕ} {k : ℕ} {ms : List LegNets} (a : All FitOrder os) (fit : FitLegs t) (g : LegsLeft ns ss os side t.legs t.count ps k ms) where
  -- the nets so far are in range
  pub done-fits : All FitLegs ss → FilledAt ns ss side t.legs t.count ps → All FitNets ms
  done-fits s w = rw (g.by w.prices w.at w.nets) (fit-all-by _ (left-most w.prices os side t.legs a w.at.most k) ss s)

  -- the price in ps is in range
  pub met-most : FilledAt ns ss side t.legs t.count ps → k < t.count → slot ps k ≤ 99_999
  met-most w h = rw (sym (w.at.met k h)) (w.at.most _ _)

  -- one leg more
  pub done_next : k < t.count → {on : ℕ} {next : List LegNets} → on ≡ met_on side (get_or t.legs k no_leg) → Refreshed ms ss os (get_or t.legs k no_leg).series on (slot ps k) next
      → LegsLeft ns ss os side t.legs t.count ps (k + 1) next
  unfolding with_left walk
  done_next h {on} {next} e r = record {
    by = λ f m n.
        let q = rw e at r in
        let l : Leg = get_or t.legs k no_leg in
        let fresh : with_left f os side t.legs k l.series (met_on side l) ≡ slot ps k =
        left_other f os side t.legs k l.series (met_on side l) (λ i j z. omega (arith, z.0, fit.rising i k j h)) ∙ m.met k h in
        rw (add-one k) (q.by (with_left f os side t.legs k) (left-most f os side t.legs a m.most k) (g.by f m n) fresh (λ z. absurd (omega (arith, m.there k h))));
  }

-- what is met on the legs has a price on each
legs-priced : (os : List LegOrder) (side : ℕ) (t : Strategy) {p : LegBests} → Some p ≡ leg_bests os side t → known (prices os side t.legs) t.count ≡ true
unfolding leg_bests
legs-priced os side t {p} =
    pick-by (λ (b : Option LegBests). Some p ≡ b → known (prices os side t.legs) t.count ≡ true) (known (prices os side t.legs) t.count) (λ k _. k)
    (λ _ h. absurd (let z : ◌≡◌ {A = ℕ} 0 1 = cc in omega arith))

known-there : (os : List LegOrder) (side : ℕ) (t : Strategy) → known (prices os side t.legs) t.count ≡ true → t.count ≤ 6 → (i : ℕ) → i < t.count → 0 < price_at os side t.legs i
unfolding known prices
known-there os side t k most i h =
    rw (table-slot (price_at os side t.legs) 0 6 i (omega arith)) at (ltb-true 0 (slot (table (price_at os side t.legs) 6) i) (all-holds (priced_at (table (price_at os side t.legs) 6)) t.count i k h))

-- ALL LEGS: what is left is what the fill leaves
module _ (os : List LegOrder) (side q : ℕ) (t : Strategy) (ps : List ℕ) where
  -- the leg at place i meets that series and side
  abbrev Meets : ℕ → ℕ → ℕ → Type 0
  Meets x e i = (x ≡ (get_or t.legs i no_leg).series) × (e ≡ met_on side (get_or t.legs i no_leg))

  more : (k x e : ℕ) → ((i : ℕ) → suc k ≤ i → i < t.count → ¬ Meets x e i) → ¬ Meets x e k → (i : ℕ) → k ≤ i → i < t.count → ¬ Meets x e i
  more k x e n u i j m = ⊎_elim (λ (z : k < i). n i z m) (λ (z : i ≤ k). let q : i ≡ k = omega arith in rw q u) (lt-or-le k i)

  abbrev left : List LegOrder
  left = cut_by_legs os (takes_at side q t.legs ps) t.count

  -- a price that one of the first k legs meets, or none of the others
  left-all : (k : ℕ) → k ≤ t.count → (x e : ℕ) → ((i : ℕ) → k ≤ i → i < t.count → ¬ Meets x e i) → with_left (price_of os) left side t.legs k x e ≡ price_of left x e
  unfolding with_left walk
  left-all zero h x e n = sym (legs-price os (takes_at side q t.legs ps) t.count x e (λ i l. n i (omega arith) l))
  left-all (suc k) h x e n =
      let l : Leg = get_or t.legs k no_leg in
      let rest : ¬ Meets x e k → with_left (price_of os) left side t.legs (suc k) x e ≡ price_of left x e =
      λ u. with-price-other _ _ _ _ u ∙ left-all k (omega arith) x e (λ i j m. more k x e n u i j m) in
      pick-by (λ (b : Bool). with_left (price_of os) left side t.legs (suc k) x e ≡ price_of left x e) (eqb x l.series) {a = true} {b = false}
      (λ z. pick-by (λ (b : Bool). with_left (price_of os) left side t.legs (suc k) x e ≡ price_of left x e) (eqb e (met_on side l)) {a = true} {b = false}
      (λ y. rw (eqb-true x l.series z, eqb-true e (met_on side l) y) (with-price-at _ _ _ _))
      (λ y. rest (λ p. eqb-false e (met_on side l) y p.1)))
      (λ z. rest (λ p. eqb-false x l.series z p.0))

-- the prices that were met, as the code has found them
pub met_at : (os : List LegOrder) (side : ℕ) (t : Strategy) {p : LegBests} → All FitOrder os → t.count ≤ 6 → Some p ≡ leg_bests os side t → MetAt (price_of os) side t.legs t.count p.prices
unfolding leg_price
met_at os side t {p} a most found =
    let q : p ≡ record { prices = stored 6 (price_at os side t.legs) t.count; units = units_of os side t (prices os side t.legs) 9999; net = net_of t (prices os side t.legs) } = legs-known os side t found in
    let at : (i : ℕ) → i < t.count → slot p.prices i ≡ price_at os side t.legs i =
    λ i h. ap (λ (b : LegBests). slot b.prices i) q ∙ stored_at 6 (price_at os side t.legs) t.count i h in
    record {
      most = price-most os a;
      met = λ i h. sym (at i h);
      there = λ i h. rw (at i h) (known-there os side t (legs-priced os side t found) most i h);
    }

-- after the fill the nets are those of the leg orders left
pub nets-left : (e : Entry) (os : List LegOrder) (t : Strategy) (ss : List Strategy) {p : LegBests} {ns ms : List LegNets} → All FitOrder os → t.count ≤ 6 → Some p ≡ leg_bests os e.side t
    → ns ≡ nets_of os ss → {rows : List LegOrder} → rows ≡ orders_by_legs e os t → LegsLeft ns ss rows e.side t.legs t.count p.prices t.count ms → ms ≡ nets_of rows ss
unfolding orders_by_legs
nets-left e os t ss {p} a most found n {rows} r g =
    let ps : List ℕ = prices os e.side t.legs in
    let q : ℕ = units_by_legs e os t in
    g.by (price_of os) (met_at os e.side t a most found) (n ∙ nets-by os ss)
    ∙ all-nets-ext ss (λ x d. rw r (left-all os e.side q t ps t.count (omega arith) x d (λ i j l. absurd (omega arith)))) ∙ sym (nets-by rows ss)
