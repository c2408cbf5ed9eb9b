-- The live rows of a table in their order, as a loop over it finds them.
use Rattle.std.specs.Prelude.{◌≡◌, Bool, true, false, cond, count_by, get_or, take, replicate}
use Rattle.std.proofs.Math.Path.{refl, sym, ap}
use Rattle.std.proofs.Common.{◌∙◌, add-one, length-take, take-suc, take_all}
use mathlib.Core.List.{List, [], ◌∷◌, ◌++◌, append-nil}
use Prim.Native.Nat.{ℕ, suc, ◌+◌, ◌≤◌, ◌<◌}
use native.Mathlib.Omega.{arith}
use Rattle.std.proofs.Math.ListN.{length, length-append}
use Rattle.std.proofs.Math.Seq.{take_at, append_snoc}
use Rattle.std.proofs.lemmas.List.Recursion.{is_count_by}
use Rattle.base.specs.Pick.{pick, pick_all, pick-ap, pick_true, pick-false}
use Rattle.rules.specs.Events.{keep, behind}
use Rattle.tables.specs.Padded.{pad_to, pad-take, pad-full}

module _ {A : Type 0} (test : A → Bool) where
  pub keep_append : (xs ys : List A) → keep test (xs ++ ys) ≡ keep test xs ++ keep test ys
  unfolding keep
  keep_append [] ys = refl
  keep_append (x ∷ xs) ys = rw (keep_append xs ys) (sym (pick-ap (λ (zs : List A). zs ++ keep test ys) _ _ _))

  pub keep-length : (xs : List A) → length (keep test xs) ≤ length xs
  unfolding keep
  keep-length [] = omega arith
  keep-length (x ∷ xs) = let h = keep-length xs in pick_all (λ (l : List A). length l ≤ suc (length xs)) _ (omega arith) (omega arith)

  -- how many they are, as `filter` and `count` say it
  pub kept-count : (xs : List A) → count_by test xs ≡ length (keep test xs)
  unfolding keep pick
  kept-count xs = sym (is_count_by (λ (ys : List A). length (keep test ys)) test refl (λ x ys. by (test x) x (keep test ys)) xs)
    where
      by : (t : Bool) (x : A) (ys : List A) → length (pick t (x ∷ ys) ys) ≡ cond t (1 + length ys) (length ys)
      by true x ys = omega arith
      by false x ys = refl

  -- one row more
  module _ (d : A) (xs : List A) (i : ℕ) (h : i < length xs) where
    next : keep test (take (i + 1) xs) ≡ keep test (take i xs) ++ keep test (get_or xs i d ∷ [])
    next = rw (add-one, take-suc xs i d) (keep_append (take i xs) _)

    pub keep-skip : test (get_or xs i d) ≡ false → keep test (take (i + 1) xs) ≡ keep test (take i xs)
    unfolding keep
    keep-skip e = next ∙ rw (pick-false _ _ _ e) (append-nil _)

    pub keep-more : test (get_or xs i d) ≡ true → keep test (take (i + 1) xs) ≡ keep test (take i xs) ++ (get_or xs i d ∷ [])
    unfolding keep
    keep-more e = next ∙ rw (pick_true _ _ _ e)

    pub keep-room : length (keep test (take i xs)) ≤ i
    keep-room = omega (arith, keep-length (take i xs), length-take i xs)

  pub keep_all : (xs : List A) (i : ℕ) → length xs ≤ i → keep test (take i xs) ≡ keep test xs
  keep_all xs i h = rw (take_all i xs h)

  -- a table with one row behind the live ones
  pub behind-is : (d x : A) (xs : List A) → length (keep test xs) < 32 → behind test d x xs ≡ pad_to 32 d (keep test xs ++ (x ∷ []))
  unfolding behind
  behind-is d x xs h =
      ap (take 32) (sym (append_snoc (keep test xs) x (replicate 32 d)))
      ∙ pad-take d (keep test xs ++ (x ∷ [])) 32 32 (rw length-append (omega arith)) (omega arith)

  -- a full table has no place for it
  pub behind-full : (d x : A) (xs : List A) → length (keep test xs) ≡ 32 → behind test d x xs ≡ pad_to 32 d (keep test xs)
  unfolding behind
  behind-full d x xs h = take_at (keep test xs) _ 32 h ∙ sym (pad-full d 32 (keep test xs) h)
