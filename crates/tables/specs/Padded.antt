-- A table of n rows: some in front, empty ones behind them.
use Rattle.std.specs.Prelude.{◌≡◌, set, take, replicate}
use Rattle.std.proofs.Math.Path.{refl, sym}
use Rattle.std.proofs.Common.{◌∙◌, ap}
use mathlib.Core.List.{List, [], ◌∷◌, ◌++◌, append-nil}
use Prim.Native.Nat.{ℕ, zero, suc, ◌-◌, ◌≤◌, ◌<◌}
use native.Mathlib.Omega.{arith}
use Rattle.std.proofs.Math.ListN.{length, length-append}
use Rattle.std.proofs.lemmas.List.{set_at}
use Rattle.std.proofs.Math.Seq.{append_snoc}

unfoldable pub pad_to : {A : Type 0} → ℕ → A → List A → List A
pad_to n d xs = xs ++ replicate (n - length xs) d

module _ {A : Type 0} (d : A) where
  take-replicate : (n m : ℕ) → n ≤ m → take n (replicate m d) ≡ replicate n d
  take-replicate zero m h = refl
  take-replicate (suc n) zero h = absurd (omega arith)
  take-replicate (suc n) (suc m) h = ap (λ (l : List A). d ∷ l) (take-replicate n m (omega arith))

  -- the first n of some rows and many empty ones
  pub pad-take : (xs : List A) (n m : ℕ) → length xs ≤ n → n ≤ m → take n (xs ++ replicate m d) ≡ pad_to n d xs
  unfolding pad_to
  pad-take [] n m h l = let e : n - 0 ≡ n = omega arith in rw e (take-replicate n m l)
  pad-take (x ∷ xs) zero m h l = absurd (omega arith)
  pad-take (x ∷ xs) (suc n) m h l =
      let e : suc n - suc (length xs) ≡ n - length xs = omega arith in
      rw e (ap (λ (l : List A). x ∷ l) (pad-take xs n m (omega arith) (omega arith)))

  -- one row more
  pub pad-set : (n : ℕ) (xs : List A) (x : A) → length xs < n → set (pad_to n d xs) (length xs) x ≡ pad_to n d (xs ++ (x ∷ []))
  unfolding pad_to
  pad-set n xs x h =
      let k : ℕ = n - suc (length xs) in
      let e : n - length xs ≡ suc k = omega arith in
      let f : n - length (xs ++ (x ∷ [])) ≡ k = rw length-append (omega arith) in
      rw (e, f) (set_at xs d (replicate k d) x (length xs) refl ∙ sym (append_snoc xs x (replicate k d)))

  pub pad-none : (n : ℕ) → pad_to n d [] ≡ replicate n d
  unfolding pad_to
  pad-none n = let e : n - 0 ≡ n = omega arith in rw e

  -- no place is left
  pub pad-full : (n : ℕ) (xs : List A) → length xs ≡ n → pad_to n d xs ≡ xs
  unfolding pad_to
  pad-full n xs h = let e : n - length xs ≡ 0 = omega arith in rw e (append-nil xs)
