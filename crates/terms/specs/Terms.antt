-- Laws of a definition's ratios and places.
use Rattle.std.specs.Prelude.{◌≡◌, Bool, true, false, List, ℕ, zero, suc, ◌%◌, ◌≤◌, ◌<◌, ltb, get_or, Option}
use Rattle.std.specs.List.{list_any, position, range_with_len}
use Rattle.std.specs.Option.{is_some}
use Rattle.std.proofs.Common.{refl, sym, ◌∙◌, ap, zero-add, arith, ne_eqb, cond, Some, None}
use Rattle.std.proofs.lemmas.List.FromFn.{get_or-range_with_len, length-range_with_len}
use Rattle.base.specs.Pick.{pick-false, tests}
use Rattle.base.specs.Walks.{walk, any_n, first_n, first-same}
use Rattle.base.specs.Chains.{found, any-slots, position-slots}
use Rattle.base.specs.Gcd.{gcd, gcd-step}
use Rattle.rules.specs.declared.Leg.{Leg}
use Rattle.rules.specs.Strategies.{smallest_step}

-- laws

-- Euclid's step by what the code tests
pub gcd-end : (a b : ℕ) → b ≡ 0 → a ≡ gcd a b
gcd-end a b e = rw (gcd-step a b) (search tests)

pub gcd-next : (a b : ℕ) → ¬ (b ≡ 0) → gcd b (a % b) ≡ gcd a b
gcd-next a b e = sym (gcd-step a b ∙ pick-false _ _ _ (ne_eqb _ _ e))

-- the smallest ratio is at most 12
pub smallest-most : (legs : List Leg) (k : ℕ) → walk (smallest_step legs) 12 k ≤ 12
unfolding walk
smallest-most legs zero = omega arith
smallest-most legs (suc k) = let h = smallest-most legs k in omega arith

-- tests and searches over the first n numbers
any_same : (f g : ℕ → Bool) (k : ℕ) → ((i : ℕ) → i < k → f i ≡ g i) → any_n f k ≡ any_n g k
unfolding any_n
any_same f g zero h = refl
any_same f g (suc k) h = cc (any_same f g k (λ i l. h i (omega arith)), h k (omega arith))

module _ (f : ℕ → Bool) (n : ℕ) where
  pub any-range : list_any f (range_with_len 0 n) ≡ any_n f n
  any-range =
      any-slots 0 f (range_with_len 0 n) ∙ ap (any_n (λ (i : ℕ). f (get_or (range_with_len 0 n) i 0))) (length-range_with_len 0 n)
      ∙ any_same _ _ n (λ i h. ap f (get_or-range_with_len 0 n i 0 h ∙ zero-add i))

  pub position-range : position f (range_with_len 0 n) ≡ found n (first_n f n)
  position-range =
      position-slots 0 f (range_with_len 0 n)
      ∙ ap (λ (k : ℕ). found k (first_n (λ (i : ℕ). f (get_or (range_with_len 0 n) i 0)) k)) (length-range_with_len 0 n)
      ∙ ap (found n) (first-same _ _ n (λ i h. ap f (get_or-range_with_len 0 n i 0 h ∙ zero-add i)))

-- the place that is found, or none
pub found-at : (n k : ℕ) {i : ℕ} → Some i ≡ found n k → (ltb k n ≡ true) × (i ≡ k)
found-at n k {i} h = by (ltb k n) h
  where
    by : (t : Bool) → Some i ≡ cond t (Some k) None → (t ≡ true) × (i ≡ k)
    by true e = (refl, cc)
    by false e = absurd (cc)

pub found-none : (n k : ℕ) → None ≡ found n k → ltb k n ≡ false
found-none n k h = by (ltb k n) h
  where
    by : (t : Bool) → ◌≡◌ {A = Option ℕ} None (cond t (Some k) None) → t ≡ false
    by true e = absurd (cc)
    by false e = refl

-- whether a place is found
pub found-some : (n k : ℕ) → is_some (found n k) ≡ ltb k n
found-some n k = by (ltb k n)
  where
    by : (t : Bool) → is_some (cond t (Some k) None) ≡ t
    by true = refl
    by false = refl
