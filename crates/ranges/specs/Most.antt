-- Lists of numbers that are all at most c.
use Rattle.std.proofs.Common.{⊎_elim, arith}
use Rattle.std.specs.Prelude.{List, [], ◌∷◌, ◌++◌, ℕ, zero, suc, ◌≤◌, ◌<◌, replicate, drop}
use Rattle.std.proofs.Math.ListN.{get_or-eq_default}
use Rattle.base.specs.Walks.{slot, table, stored, seam, table-slot, length-table, lt-or-le}

pub record AtMost (c : ℕ) (xs : List ℕ) : Type 0 where
  pub at : (i : ℕ) → slot xs i ≤ c

pub table-most : (f : ℕ → ℕ) (c : ℕ) → ((i : ℕ) → f i ≤ c) → (k : ℕ) → AtMost c (table f k)
table-most f c h k = record {
  at = λ i. ⊎_elim
      (λ (l : i < k). rw (table-slot f 0 k i l) (h i))
      (λ (l : k ≤ i). rw (get_or-eq_default (table f k) 0 {n = i} (omega (arith, length-table f k))) (omega arith))
      (lt-or-le i k);
}

zeros : (n i : ℕ) → slot (replicate n 0) i ≤ 0
zeros zero i = omega arith
zeros (suc n) zero = omega arith
zeros (suc n) (suc i) = zeros n i

pub zeros-most : (c n : ℕ) → AtMost c (replicate n 0)
zeros-most c n = record { at = λ i. omega (arith, zeros n i) }

-- a list under another
pub under-most : (c : ℕ) {xs ys : List ℕ} → ((i : ℕ) → slot ys i ≤ slot xs i) → AtMost c xs → AtMost c ys
under-most c h a = record { at = λ i. omega (arith, h i, a.at i) }

append-most : (c : ℕ) (xs ys : List ℕ) → ((i : ℕ) → slot xs i ≤ c) → ((i : ℕ) → slot ys i ≤ c) → (i : ℕ) → slot (xs ++ ys) i ≤ c
append-most c [] ys h g i = g i
append-most c (x ∷ xs) ys h g zero = h 0
append-most c (x ∷ xs) ys h g (suc i) = append-most c xs ys (λ j. h (suc j)) g i

drop-most : (c : ℕ) (xs : List ℕ) → ((i : ℕ) → slot xs i ≤ c) → (k i : ℕ) → slot (drop k xs) i ≤ c
drop-most c xs h zero i = h i
drop-most c [] h (suc k) i = h i
drop-most c (x ∷ xs) h (suc k) i = drop-most c xs (λ j. h (suc j)) k i

-- some slots of n stored
pub stored-most : (n : ℕ) (f : ℕ → ℕ) (c : ℕ) → ((i : ℕ) → f i ≤ c) → (k : ℕ) → AtMost c (stored n f k)
unfolding stored seam
stored-most n f c h k =
    record { at = append-most c (table f k) (drop k (replicate n 0)) (table-most f c h k).at (drop-most c (replicate n 0) (zeros-most c n).at k) }
