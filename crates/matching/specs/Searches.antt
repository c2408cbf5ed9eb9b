-- A search for the least of k numbers at which a test holds, part by part of them: those of the first i parts are seen.
use Rattle.std.specs.Prelude.{◌≡◌, refl, Bool, true, false, ◌⊎◌, ℕ, suc, ◌+◌, ◌≤◌, ◌<◌}
use Rattle.std.proofs.Common.{sym, ◌∙◌, inl, inr, ⊎_elim, arith}
use Rattle.base.specs.Walks.{first_n, first-none, first-is, below, lt-or-le}

pub record Searched (f : ℕ → Bool) (part : ℕ → ℕ) (k i best : ℕ) : Type 0 where
  pub most : best ≤ k
  pub holds : best < k → f best ≡ true
  pub seen : (p : ℕ) → p < best → part p < i → f p ≡ false

module _ {f : ℕ → Bool} {part : ℕ → ℕ} {k : ℕ} where
  pub searched-none : Searched f part k 0 k
  searched-none = record { most = omega arith; holds = λ h. absurd (omega arith); seen = λ p l h. absurd (omega arith) }

  -- one part more, in which the test holds at x at most
  module _ {i best : ℕ} (v : Searched f part k i best) (x : ℕ) (only : (p : ℕ) → part p ≡ i → f p ≡ true → p ≡ x) where
    seen_more : (y : ℕ) → y ≤ best → (x < y → f x ≡ false) → (p : ℕ) → p < y → part p < i + 1 → f p ≡ false
    seen_more y m h p l c = by (below (let g : part p < suc i = omega arith in g))
      where
        own : part p ≡ i → (t : Bool) → f p ≡ t → f p ≡ false
        own q true e = let z : p ≡ x = only p q e in rw z (h (rw z at l))
        own q false e = e

        by : (part p ≡ i) ⊎ (part p < i) → f p ≡ false
        by (inl q) = own q (f p) refl
        by (inr q) = v.seen p (omega arith) q

    pub searched-past : (x < best → f x ≡ false) → Searched f part k (i + 1) best
    searched-past h = record { most = v.most; holds = v.holds; seen = seen_more best (omega arith) h }

    pub searched-here : x < best → f x ≡ true → Searched f part k (i + 1) x
    searched-here h e = record { most = omega (arith, v.most); holds = λ _. e; seen = seen_more x (omega arith) (λ l. absurd (omega arith)) }

  pub searched-all : {i best : ℕ} → Searched f part k i best → ((p : ℕ) → part p < i) → best ≡ first_n f k
  searched-all {i} {best} v all =
      ⊎_elim
      (λ (l : best < k). sym (first-is f k best l (v.holds l) (λ p h. v.seen p h (all p))))
      (λ (l : k ≤ best). let e : best ≡ k = omega (arith, v.most) in e ∙ sym (first-none f k (λ p h. v.seen p (omega arith) (all p))))
      (lt-or-le best k)
