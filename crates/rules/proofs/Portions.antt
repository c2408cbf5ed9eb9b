-- The second group beside the specialist (2026-04): all is given out and nobody gets more than his size; its sweep gets what the request says; the
-- rest is shared by the old rule; elsewhere all is.
use mathlib.Core.Path.{◌≡◌, refl, sym, ◌∙◌, ap}
use mathlib.Core.Bool.{Bool, false}
use mathlib.Core.Logic.{⊎_elim}
use mathlib.Core.List.{List}
use Prim.Native.Nat.{ℕ, ◌+◌, ◌-◌, ◌*◌, ◌/◌, ◌≤◌, ◌<◌, min}
use native.Mathlib.Nat.{mul-add, add-mul, mul_comm, mul-le-mul, mul-le-mul_right, le-div_iff_mul-le, le_refl, div-le_of_le-mul}
use native.Mathlib.Omega.{arith}
use borrow.Author.Tests.{eqb-true, eq-eqb, ne_eqb, ltb-true, lt-ltb, le-ltb}
use lib.Dec.{eqb, ltb}
use Rattle.base.specs.Pick.{both, pick_all, pick-by, pick_yes, pick_true, pick-false}
use Rattle.base.specs.Walks.{sum_n, slot, table, table-slot, sum_one, lt-or-le}
use Rattle.rules.specs.Quotas.{GivesOut, portion, share, specialist_portion, rest_at, rest_of, beside_at, beside, share_beside}
use Rattle.rules.proofs.Quotas.{sum-table, table-under, share-under, share-total}
use Rattle.rules.proofs.Laws.{sum-at}

-- THE PORTION
-- what the others hold is enough for what the rounded-down share of one leaves
share-leaves : (r t x : ℕ) → r < t → x ≤ t → r ≤ r * x / t + (t - x)
share-leaves r t x h k =
    ⊎_elim
    (λ (l : r < t - x). omega arith)
    (λ (l : t - x ≤ r).
    let s : ℕ = t - x in
    let u : ℕ = r - s in
    let a : r * x + r * s ≡ r * t = sym (mul-add r x s) ∙ ap (λ (y : ℕ). r * y) (let e : x + s ≡ t = omega arith in e) in
    let b : u * t + s * t ≡ r * t = sym (add-mul u s t) ∙ ap (λ (y : ℕ). y * t) (let e : u + s ≡ r = omega arith in e) in
    let c : r * s ≤ t * s = mul-le-mul (let e : r ≤ t = omega arith in e) (le_refl s) in
    let d : u * t ≤ r * x = omega (arith, a, b, c, mul_comm t s) in
    let q : u ≤ r * x / t = (le-div_iff_mul-le (let e : 0 < t = omega arith in e)).1 d in
    omega arith)
    (lt-or-le r (t - x))

-- "never above its size"
pub portion-size : (p r t x : ℕ) → specialist_portion p r t x ≤ x
unfolding specialist_portion
portion-size p r t x = omega arith

-- what it leaves is no more than the others hold
portion-leaves : (p r t x : ℕ) → r < t → x ≤ t → r - min r (specialist_portion p r t x) ≤ t - x
unfolding specialist_portion portion
portion-leaves p r t x h k = omega (arith, share-leaves r t x h k)

-- a percentage of 100 at most asks for no more than what remains
pub portion-within : (p r t x : ℕ) → p ≤ 100 → 0 < t → x ≤ t → specialist_portion p r t x ≤ r
unfolding specialist_portion portion
portion-within p r t x h some k =
    let a : p * r / 100 ≤ r = div-le_of_le-mul 100 (mul-le-mul_right r h) in
    let b : r * x / t ≤ r = div-le_of_le-mul t (rw (mul_comm r x) (mul-le-mul_right r k)) in
    omega arith

-- THE REST
module _ (k : ℕ) (low : k < 32) where
  rest-own : (xs : List ℕ) → slot (rest_of k xs) k ≡ 0
  unfolding rest_at
  rest-own xs = table-slot (rest_at k xs) 0 32 k low ∙ pick_true _ _ _ (eq-eqb k k refl)

  rest_under : (xs : List ℕ) (i : ℕ) → slot (rest_of k xs) i ≤ slot xs i
  unfolding rest_at
  rest_under xs i = table-under (rest_at k xs) xs (λ j. pick_all (λ (n : ℕ). n ≤ slot xs j) (eqb j k) (omega arith) (omega arith)) i

  rest_sum : (xs : List ℕ) → sum_n (slot (rest_of k xs)) 32 ≡ sum_n (slot xs) 32 - slot xs k
  unfolding rest_at
  rest_sum xs =
      let e : sum_n (slot (rest_of k xs)) 32 ≡ sum_n (rest_at k xs) 32 = sum-table (rest_at k xs) 32 32 (omega arith) in
      let z : rest_at k xs k ≡ 0 = pick_true _ _ _ (eq-eqb k k refl) in
      let s : sum_n (rest_at k xs) 32 + slot xs k ≡ sum_n (slot xs) 32 + rest_at k xs k = sum-at (rest_at k xs) (slot xs) 32 k low (λ j n. pick-false _ _ _ (ne_eqb j k n)) in
      omega arith

  beside-sum : (q : ℕ) (qs : List ℕ) → slot qs k ≡ 0 → sum_n (slot (table (beside_at k q qs) 32)) 32 ≡ sum_n (slot qs) 32 + q
  unfolding beside_at
  beside-sum q qs z =
      let e : sum_n (slot (table (beside_at k q qs) 32)) 32 ≡ sum_n (beside_at k q qs) 32 = sum-table (beside_at k q qs) 32 32 (omega arith) in
      let w : beside_at k q qs k ≡ q = pick_true _ _ _ (eq-eqb k k refl) in
      let s : sum_n (beside_at k q qs) 32 + slot qs k ≡ sum_n (slot qs) 32 + beside_at k q qs k = sum-at (beside_at k q qs) (slot qs) 32 k low (λ j n. pick-false _ _ _ (ne_eqb j k n)) in
      omega arith

  -- q to slot k, and the rest shared
  pub beside-own : (q r : ℕ) (xs : List ℕ) → slot (beside k q r xs) k ≡ q
  unfolding beside beside_at
  beside-own q r xs = table-slot (beside_at k q (share (r - q) (rest_of k xs))) 0 32 k low ∙ pick_true _ _ _ (eq-eqb k k refl)

  pub beside-other : (q r : ℕ) (xs : List ℕ) (i : ℕ) → i < 32 → (i ≡ k → ⊥) → slot (beside k q r xs) i ≡ slot (share (r - q) (rest_of k xs)) i
  unfolding beside beside_at
  beside-other q r xs i l n = table-slot (beside_at k q (share (r - q) (rest_of k xs))) 0 32 i l ∙ pick-false _ _ _ (ne_eqb i k n)

  beside-under : (q r : ℕ) (xs : List ℕ) → q ≤ slot xs k → (i : ℕ) → slot (beside k q r xs) i ≤ slot xs i
  unfolding beside beside_at
  beside-under q r xs h i =
      table-under (beside_at k q (share (r - q) (rest_of k xs))) xs
      (λ j. pick-by (λ (n : ℕ). n ≤ slot xs j) (eqb j k) (λ e. rw (eqb-true j k e) h) (λ _. omega (arith, share-under (r - q) (rest_of k xs) j, rest_under xs j))) i

  beside-total : (q r : ℕ) (xs : List ℕ) → q ≤ r → r - q ≤ sum_n (slot xs) 32 - slot xs k → sum_n (slot (beside k q r xs)) 32 ≡ r
  unfolding beside
  beside-total q r xs h l =
      let ws : List ℕ = rest_of k xs in
      let own : slot (share (r - q) ws) k ≡ 0 = omega (arith, share-under (r - q) ws k, rest-own xs) in
      omega (arith, beside-sum q (share (r - q) ws) own, share-total (r - q) ws, rest_sum xs)

-- THE DIVISION
module _ (k percentage : ℕ) where
  module _ (r : ℕ) (xs : List ℕ) where
    abbrev total : ℕ
    total = sum_n (slot xs) 32

    abbrev part : ℕ
    part = specialist_portion percentage r total (slot xs k)

    -- "must be shared" and "has a sweep there", or the old rule
    by-case : (P : List ℕ → Type 0) → (r < total → k < 32 → P (beside k (min r part) r xs)) → P (share r xs) → P (share_beside k percentage r xs)
    unfolding share_beside
    by-case P f g = pick-by P (both (ltb r total) (ltb k 32)) (λ e. let h = pick_yes (ltb r total) e in f (ltb-true _ _ h.0) (ltb-true _ _ h.1)) (λ _. g)

    -- where the group need not be shared
    pub beside-enough : total ≤ r → share_beside k percentage r xs ≡ share r xs
    unfolding share_beside
    beside-enough h = pick-false _ _ _ (pick-false (ltb r total) _ _ (le-ltb _ _ h))

    -- where no specialist has a sweep
    pub beside_none : 32 ≤ k → share_beside k percentage r xs ≡ share r xs
    unfolding share_beside
    beside_none h = pick-false _ _ _ (pick_all (λ (t : Bool). t ≡ false) (ltb r total) (le-ltb _ _ h) refl)

    module _ (less : r < total) (low : k < 32) (most : percentage ≤ 100) where
      within : min r part ≡ part
      within = omega (arith, portion-within percentage r total (slot xs k) most (omega arith) (sum_one (slot xs) 32 k low))

      shares : share_beside k percentage r xs ≡ beside k part r xs
      unfolding share_beside
      shares = pick_true _ _ _ (pick_true _ _ _ (lt-ltb _ _ less) ∙ lt-ltb _ _ low) ∙ ap (λ (q : ℕ). beside k q r xs) within

      -- "that sweep gets the greater of its rounded-down share and the rounded-down percentage of what remains after customers, never above its size"
      pub beside-portion : slot (share_beside k percentage r xs) k ≡ part
      beside-portion = ap (λ (qs : List ℕ). slot qs k) shares ∙ beside-own k low part r xs

      -- "The rest of the group shares what is left by the old sharing rule"
      pub beside-rest : (i : ℕ) → i < 32 → (i ≡ k → ⊥) → slot (share_beside k percentage r xs) i ≡ slot (share (r - part) (rest_of k xs)) i
      beside-rest i l n = ap (λ (qs : List ℕ). slot qs i) shares ∙ beside-other k low part r xs i l n

  -- all that remains is given out, and nobody gets more than his size
  pub beside-divides : GivesOut (share_beside k percentage)
  beside-divides = record {
    under = λ r xs i. by-case r xs (λ (qs : List ℕ). slot qs i ≤ slot xs i)
        (λ less low. beside-under k low _ r xs (omega (arith, portion-size percentage r (total r xs) (slot xs k))) i)
        (share-under r xs i);
    sum = λ r xs. by-case r xs (λ (qs : List ℕ). sum_n (slot qs) 32 ≡ min r (total r xs))
        (λ less low.
        beside-total k low _ r xs (omega arith) (portion-leaves percentage r (total r xs) (slot xs k) less (sum_one (slot xs) 32 k low)) ∙ omega arith)
        (share-total r xs);
  }
