-- A net where the price of one leg changes.
use Rattle.std.specs.Prelude.{◌≡◌, Bool, ℕ, zero, suc, ◌+◌, ◌-◌, ◌*◌, ◌≤◌, ◌<◌, eqb}
use Rattle.std.proofs.Math.Path.{refl, sym, ap}
use Rattle.std.proofs.Common.{◌∙◌, arith}
use Rattle.std.proofs.Math.Bool.{true, false}
use Rattle.std.proofs.Math.Logic.{⊎_elim}
use borrow.Author.Tests.{eqb-true, eqb-false, eq-eqb, ne_eqb, lt-ltb, ltb-true}
use Rattle.base.specs.Pick.{pick, pick_all, pick-by, pick_true, pick-false}
use Rattle.base.specs.Walks.{sum_n, slot, table, table-slot, all-every, all-holds, sum_same, sum-le, below, clash, lt-or-le}
use Rattle.rules.specs.declared.Leg.{Leg}
use Rattle.rules.specs.declared.Strategy.{Strategy}
use Rattle.rules.specs.Nets.{priced_at, known, weight, weighed, net_of}
use Rattle.ranges.specs.Fit.{FitLegs, fit-leg}
use Rattle.nets.specs.Nets.{weight-most, net-unknown}
use Rattle.stored_nets.specs.Stored.{net_moved}
use Rattle.stored_nets.specs.Places.{leg_in}

-- two functions that agree at all of k slots but i
pub sum-change : (f g : ℕ → ℕ) (k i : ℕ) → i < k → ((j : ℕ) → j < k → ¬ (j ≡ i) → f j ≡ g j) → sum_n g k + f i ≡ sum_n f k + g i
unfolding sum_n
sum-change f g zero i h e = absurd (omega arith)
sum-change f g (suc k) i h e =
    ⊎_elim
    (λ (q : i ≡ k). rw q (omega (arith, sum_same f g k (λ j l. e j (omega arith) (λ z. omega arith)))))
    (λ (l : i < k). omega (arith, sum-change f g k i l (λ j m. e j (omega arith)), e k (omega arith) (λ z. omega arith)))
    (below h)

-- A NET by the price at each place
module _ (t : Strategy) (fit : FitLegs t) (g : ℕ → ℕ) where
  slot-by : (i : ℕ) → i < t.count → slot (table g 6) i ≡ g i
  slot-by i h = table-slot g 0 6 i (omega (arith, fit.count))

  -- what a leg adds to the buys, or to the sells
  abbrev term : ℕ → ℕ → ℕ
  term w i = weight w (leg_in t i) (g i)

  weighed-by : (w : ℕ) → weighed w t.legs (table g 6) t.count ≡ sum_n (term w) t.count
  unfolding weighed
  weighed-by w = sum_same _ _ t.count (λ i l. ap (weight w (leg_in t i)) (slot-by i l))

  known-each : known (table g 6) t.count ≡ true → (i : ℕ) → i < t.count → 0 < g i
  unfolding known
  known-each k i l = omega (arith, slot-by i l, ltb-true 0 (slot (table g 6) i) (all-holds (priced_at (table g 6)) t.count i k l))

  each-known : ((i : ℕ) → i < t.count → 0 < g i) → known (table g 6) t.count ≡ true
  unfolding known
  each-known h = all-every (priced_at (table g 6)) t.count (λ i l. lt-ltb 0 (slot (table g 6) i) (omega (arith, slot-by i l, h i l)))

  net-by : known (table g 6) t.count ≡ true → net_of t (table g 6) ≡ 10_000_000 + sum_n (term 0) t.count - sum_n (term 1) t.count
  unfolding net_of
  net-by k = pick_true _ _ _ k ∙ rw (weighed-by 0, weighed-by 1)

  sum-few : ((i : ℕ) → g i ≤ 99_999) → (w : ℕ) → sum_n (term w) t.count ≤ 7_199_928
  sum-few few w = omega (arith, sum-le (term w) 1_199_988 (λ i. weight-most w (leg_in t i) (g i) (fit-leg fit.legs i).ratio (few i)) t.count, fit.count)

module _ (t : Strategy) (fit : FitLegs t) (g h : ℕ → ℕ) where
  -- the same prices
  known_kept : ((i : ℕ) → i < t.count → g i ≡ h i) → known (table g 6) t.count ≡ true → known (table h 6) t.count ≡ true
  known_kept same k = each-known t fit h (λ i l. omega (arith, same i l, known-each t fit g k i l))

  sum_kept : ((i : ℕ) → i < t.count → g i ≡ h i) → (w : ℕ) → sum_n (term t fit g w) t.count ≡ sum_n (term t fit h w) t.count
  sum_kept same w = sum_same _ _ t.count (λ i l. ap (weight w (leg_in t i)) (same i l))

-- a net goes by the prices of the legs in use
module _ (t : Strategy) (fit : FitLegs t) (g h : ℕ → ℕ) (same : (i : ℕ) → i < t.count → g i ≡ h i) where
  pub net-kept : net_of t (table g 6) ≡ net_of t (table h 6)
  net-kept = by (known (table g 6) t.count) refl (known (table h 6) t.count) refl
    where
      by : (u : Bool) → known (table g 6) t.count ≡ u → (v : Bool) → known (table h 6) t.count ≡ v → net_of t (table g 6) ≡ net_of t (table h 6)
      by true k true m = net-by t fit g k ∙ rw (sum_kept t fit g h same 0, sum_kept t fit g h same 1) (sym (net-by t fit h m))
      by true k false m = absurd (clash (known_kept t fit g h same k) m)
      by false k true m = absurd (clash (known_kept t fit h g (λ i l. sym (same i l)) m) k)
      by false k false m = sym (net-unknown t (table g 6) k) ∙ net-unknown t (table h 6) m

-- the parts of a leg in both sums
weight-buy : (l : Leg) (x : ℕ) → eqb l.side 0 ≡ true → (weight 0 l x ≡ l.ratio * x) × (weight 1 l x ≡ 0)
unfolding weight pick
weight-buy l x e = (rw e refl, rw e refl)

weight-sell : (l : Leg) (x : ℕ) → eqb l.side 0 ≡ false → (weight 0 l x ≡ 0) × (weight 1 l x ≡ l.ratio * x)
unfolding weight pick
weight-sell l x e = (rw e refl, rw e refl)

-- of a sum of buys b and of sells s the buys, or the sells, go from u to v in one leg
buys-move : (b s c : ℕ) (u v : ℕ) → c + u ≡ b + v → s ≤ 7_199_928 → 10_000_000 + c - s ≡ 10_000_000 + b - s + v - u
buys-move b s c u v e h = omega arith

sells-move : (b s c : ℕ) (u v : ℕ) → c + u ≡ s + v → s ≤ 7_199_928 → c ≤ 7_199_928 → 10_000_000 + b - c ≡ 10_000_000 + b - s + u - v
sells-move b s c u v e h k = omega arith

-- A net where the price at place i, which was there, goes from g i to h i
module _ (t : Strategy) (fit : FitLegs t) (g h : ℕ → ℕ) (few : (j : ℕ) → g j ≤ 99_999) (fewer : (j : ℕ) → h j ≤ 99_999) (i : ℕ) (within : i < t.count) (some : 0 < g i)
    (same : (j : ℕ) → j < t.count → ¬ (j ≡ i) → g j ≡ h j) where
  abbrev l : Leg
  l = leg_in t i

  abbrev was : ℕ → ℕ
  was w = sum_n (term t fit g w) t.count

  abbrev is : ℕ → ℕ
  is w = sum_n (term t fit h w) t.count

  change : (w : ℕ) → is w + weight w l (g i) ≡ was w + weight w l (h i)
  change w = sum-change (term t fit g w) (term t fit h w) t.count i within (λ j m n. ap (weight w (leg_in t j)) (same j m n))

  -- both known
  both-known : 10_000_000 + is 0 - is 1 ≡ pick (eqb l.side 0) (10_000_000 + was 0 - was 1 + l.ratio * h i - l.ratio * g i) (10_000_000 + was 0 - was 1 + l.ratio * g i - l.ratio * h i)
  both-known =
      pick-by (λ (x : ℕ). 10_000_000 + is 0 - is 1 ≡ x) (eqb l.side 0)
      (λ e.
      let a = weight-buy l (g i) e in
      let b = weight-buy l (h i) e in
      let c : is 1 ≡ was 1 = omega (arith, change 1, a.1, b.1) in
      rw c (buys-move (was 0) (was 1) (is 0) (l.ratio * g i) (l.ratio * h i) (omega (arith, change 0, a.0, b.0)) (sum-few t fit g few 1)))
      (λ e.
      let a = weight-sell l (g i) e in
      let b = weight-sell l (h i) e in
      let c : is 0 ≡ was 0 = omega (arith, change 0, a.0, b.0) in
      rw c (sells-move (was 0) (was 1) (is 1) (l.ratio * g i) (l.ratio * h i) (omega (arith, change 1, a.1, b.1)) (sum-few t fit g few 1) (sum-few t fit h fewer 1)))

  -- known after, so known before
  known-was : known (table h 6) t.count ≡ true → known (table g 6) t.count ≡ true
  known-was k =
      each-known t fit g
      (λ j m. pick-by (λ (_ : Bool). 0 < g j) (eqb j i) {a = true} {b = false}
      (λ e. rw (eqb-true j i e) some)
      (λ e. omega (arith, same j m (eqb-false j i e), known-each t fit h k j m)))

  -- known before, and the new price is there
  known_is : known (table g 6) t.count ≡ true → 0 < h i → known (table h 6) t.count ≡ true
  known_is k new =
      each-known t fit h
      (λ j m. pick-by (λ (_ : Bool). 0 < h j) (eqb j i) {a = true} {b = false}
      (λ e. rw (eqb-true j i e) new)
      (λ e. omega (arith, same j m (eqb-false j i e), known-each t fit g k j m)))

  pub net-change : net_of t (table h 6) ≡ net_moved (net_of t (table g 6)) l (g i) (h i)
  unfolding net_moved
  net-change = by (known (table g 6) t.count) refl (known (table h 6) t.count) refl
    where
      by : (u : Bool) → known (table g 6) t.count ≡ u → (v : Bool) → known (table h 6) t.count ≡ v → net_of t (table h 6) ≡ net_moved (net_of t (table g 6)) l (g i) (h i)
      by true k true m =
          let n : net_of t (table g 6) ≡ 10_000_000 + was 0 - was 1 = net-by t fit g k in
          let f : ¬ (net_of t (table g 6) ≡ 0) = λ z. omega (arith, sum-few t fit g few 1) in
          let q : ¬ (h i ≡ 0) = λ z. omega (arith, known-each t fit h m i within) in
          net-by t fit h m ∙ both-known
          ∙ rw (sym n) (sym (pick-false _ _ _ (ne_eqb (net_of t (table g 6)) 0 f) ∙ pick-false _ _ _ (ne_eqb (h i) 0 q)))
      by true k false m =
          let z : h i ≡ 0 = ⊎_elim (λ (y : h i < 1). omega arith) (λ (y : 1 ≤ h i). absurd (clash (known_is k (omega arith)) m)) (lt-or-le (h i) 1) in
          sym (net-unknown t (table h 6) m) ∙ sym (pick_all (λ (x : ℕ). x ≡ 0) _ refl (pick_true _ _ _ (eq-eqb (h i) 0 z)))
      by false k true m = absurd (clash (known-was m) k)
      by false k false m =
          sym (net-unknown t (table h 6) m) ∙ sym (pick_true _ _ _ (eq-eqb (net_of t (table g 6)) 0 (sym (net-unknown t (table g 6) k))))
