-- The rules of quotas, a slot at a time.
use Rattle.std.specs.Prelude.{◌≡◌, List, ℕ, zero, suc, ◌+◌, ◌-◌, ◌≤◌, ◌<◌, min, eqb, length, sum}
use Rattle.std.specs.List.{fold}
use Rattle.std.proofs.Common.{refl, sym, ◌∙◌, ap, None, Some}
use native.Mathlib.Omega.{arith}
use Rattle.std.proofs.lemmas.Bool.{lt-leb}
use Rattle.base.specs.Pick.{pick-both, pick-false}
use Rattle.base.specs.Walks.{sum_n, slot, table, walk, sum_more}
use Rattle.base.specs.Chains.{unless_zero, fold-walk, sum-by-slots}
use Rattle.rules.specs.declared.Entry.{Entry}
use Rattle.rules.specs.State.{no_entry}
use Rattle.rules.specs.Passes.{limit_with, limit_step, best_opposite}
use Rattle.rules.specs.Quotas.{in_turn_at, portion, portion_at, one_of, holder_at, shared_at, share}
use Rattle.rules.proofs.Quotas.{portions-within, share-all}

-- what is left of r after a slot's turn
pub in_turn-left : (r : ℕ) (xs : List ℕ) (i l : ℕ) → l ≡ r - sum_n (slot xs) i → l - min l (slot xs i) ≡ r - sum_n (slot xs) (i + 1)
in_turn-left r xs i l e = rw (sum_more (slot xs) i) (omega arith)

pub in_turn-is : (r : ℕ) (xs : List ℕ) (i l : ℕ) → l ≡ r - sum_n (slot xs) i → min l (slot xs i) ≡ in_turn_at r xs i
unfolding in_turn_at
in_turn-is r xs i l e = rw e

-- what is left of the n leftover units after a slot's turn
pub one_left : (n : ℕ) (xs : List ℕ) (i l : ℕ) → l ≡ n - sum_n (holder_at xs) i → l - one_of l (slot xs i) ≡ n - sum_n (holder_at xs) (i + 1)
unfolding one_of holder_at
one_left n xs i l e =
    rw (sum_more (holder_at xs) i)
    (pick-both (λ (u h : ℕ). l - u ≡ n - (sum_n (holder_at xs) i + h)) (eqb (slot xs i) 0) (omega (arith, e)) (omega (arith, e)))

pub shared-is : (r t n : ℕ) (xs : List ℕ) (i l : ℕ) → l ≡ n - sum_n (holder_at xs) i → portion r t (slot xs i) + one_of l (slot xs i) ≡ shared_at r t n xs i
unfolding shared_at
shared-is r t n xs i l e = rw e

module _ (r : ℕ) (xs : List ℕ) (t : ℕ) (is : t ≡ sum_n (slot xs) 32) where
  -- the sizes, where they are no more than what remains
  pub share-whole : t ≤ r → xs ≡ share r xs
  share-whole h = sym (share-all r xs (omega arith))

  pub portions-fit : r < t → sum_n (portion_at r t xs) 32 ≤ r
  portions-fit h = rw is (portions-within r xs (omega arith))

  -- else the portions and one unit each
  pub share-parts : (n : ℕ) (qs : List ℕ) → r < t → n ≡ r - sum_n (portion_at r t xs) 32 → qs ≡ table (shared_at r t n xs) 32 → qs ≡ share r xs
  unfolding share
  share-parts n qs h s q = let f : r < sum_n (slot xs) 32 = omega arith in rw (q, s, is) (sym (pick-false _ _ _ (lt-leb _ _ f)))

-- the best opposite limit by a fold over the table
module _ (es : List Entry) (e : Entry) (n : length es ≡ 32) where
  best-by-fold : (x : ℕ) → x ≡ fold (limit_with e) 0 es → x ≡ best_opposite es e
  unfolding best_opposite
  best-by-fold x h = h ∙ fold-walk no_entry (limit_with e) 0 es ∙ ap (walk (limit_step es e) 0) n

  pub limit-none : (x : ℕ) → x ≡ fold (limit_with e) 0 es → x ≡ 0 → None ≡ unless_zero (best_opposite es e)
  limit-none x h z = rw (sym (best-by-fold x h), z) refl

  pub limit-some : (x : ℕ) → x ≡ fold (limit_with e) 0 es → ¬ (x ≡ 0) → Some x ≡ unless_zero (best_opposite es e)
  limit-some x h z = rw (sym (best-by-fold x h)) (kept x z)
    where
      kept : (y : ℕ) → ¬ (y ≡ 0) → Some y ≡ unless_zero y
      kept zero w = absurd (w refl)
      kept (suc y) w = refl

-- the sum of a list of 32
pub sum-slots : (xs : List ℕ) → length xs ≡ 32 → sum xs ≡ sum_n (slot xs) 32
sum-slots xs n = sum-by-slots 0 (λ (x : ℕ). x) xs ∙ ap (sum_n (slot xs)) n
