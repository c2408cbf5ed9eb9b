-- The place of a series among the legs of a strategy: legs stand by rising series, so one leg at most has it.
use Rattle.std.specs.Prelude.{◌≡◌, ◌⊎◌, List, [], ◌∷◌, zero, suc, false, true, eqb, get_or, length, take, Option}
use Rattle.std.specs.List.{find}
use Rattle.std.specs.Option.{option_map}
use Rattle.std.proofs.Math.Path.{sym, refl}
use Rattle.std.proofs.Common.{◌∙◌, arith, cond, None, Some}
use Rattle.std.proofs.Math.Logic.{inl, inr, ⊎_elim}
use Rattle.std.proofs.Math.Bool.{Bool}
use Prim.Native.Nat.{ℕ, ◌≤◌, ◌<◌}
use Rattle.std.proofs.Math.Dec.{eqb-suc-suc}
use borrow.Author.Tests.{eqb-true, eqb-false, eq-eqb, ne_eqb}
use Rattle.base.specs.Pick.{pick, pick-by, pick_true, pick-false}
use Rattle.base.specs.Sets.{has}
use Rattle.base.specs.Walks.{first_n, first_step, first_holds, first-before, first-le, clash, lt-or-le}
use Rattle.rules.specs.declared.Leg.{Leg}
use Rattle.rules.specs.declared.Strategy.{Strategy}
use Rattle.rules.specs.Rows.{no_leg}
use Rattle.rules.specs.Strategies.{in_series, place_of}
use Rattle.ranges.specs.Fit.{FitLegs, fit-leg}
use Rattle.stored_nets.specs.Stored.{leg_of}

-- the leg at place i
abbrev pub leg_in : Strategy → ℕ → Leg
leg_in t i = get_or t.legs i no_leg

-- the leg of series s is that at place i
pub record Found (t : Strategy) (s i : ℕ) : Type 0 where
  pub below : i < t.count
  pub series : (leg_in t i).series ≡ s
  pub leg : leg_of t s ≡ Some (leg_in t i)
  pub others : (j : ℕ) → j < t.count → ¬ (j ≡ i) → ¬ ((leg_in t j).series ≡ s)

-- no leg has it
pub record Missing (t : Strategy) (s : ℕ) : Type 0 where
  pub leg : leg_of t s ≡ None
  pub others : (j : ℕ) → j < t.count → ¬ ((leg_in t j).series ≡ s)

-- the first of the first k elements that pass a test
module _ {A : Type 0} (d : A) (p : A → Bool) where
  abbrev at : List A → ℕ → Bool
  at xs i = p (get_or xs i d)

  abbrev first_at : List A → ℕ → Option A
  first_at xs k = pick (eqb (first_n (at xs) k) k) None (Some (get_or xs (first_n (at xs) k) d))

  next : (t : Bool) (x : A) (xs : List A) (n k : ℕ)
      → cond t (Some x) (pick (eqb n k) None (Some (get_or xs n d))) ≡ pick (eqb (pick t 0 (suc n)) (suc k)) None (Some (get_or (x ∷ xs) (pick t 0 (suc n)) d))
  unfolding pick
  next true x xs n k = rw (ne_eqb 0 (suc k) (λ z. omega arith)) refl
  next false x xs n k = rw (eqb-suc-suc n k) refl

  pub find-taken : (k : ℕ) (xs : List A) → k ≤ length xs → find p (take k xs) ≡ first_at xs k
  unfolding first_n
  find-taken zero xs h = sym (pick_true _ _ _ refl)
  find-taken (suc k) [] h = absurd (omega arith)
  find-taken (suc k) (x ∷ xs) h = rw (first_step (at (x ∷ xs)) k, find-taken k xs (omega arith)) (next (p x) x xs (first_n (at xs) k) k)

map-same : {A : Type 0} (r : Option A) → option_map (λ (x : A). x) r ≡ r
map-same None = refl
map-same (Some x) = refl

-- the leg that a search over the legs in use finds
pub leg-found : (t : Strategy) (s : ℕ) {r : Option Leg} → t.count ≤ length t.legs → option_map (λ (l : Leg). l) r ≡ find (λ (l : Leg). eqb l.series s) (take t.count t.legs) → r ≡ leg_of t s
unfolding leg_of place_of
leg-found t s {r} h e = sym (map-same r) ∙ e ∙ find-taken no_leg (λ (l : Leg). eqb l.series s) t.count t.legs h

-- its range
pub leg-ratio : (t : Strategy) (s : ℕ) {l : Leg} → FitLegs t → Some l ≡ leg_of t s → l.ratio ≤ 12
unfolding leg_of
leg-ratio t s {l} f e = pick-by (λ (x : Option Leg). Some l ≡ x → l.ratio ≤ 12) _ (λ _ z. absurd (cc)) (λ _ z. let q : l ≡ get_or t.legs (place_of t.legs t.count s) no_leg = cc in rw q (fit-leg f.legs _).ratio) e

-- a leg of that series or none
module _ (t : Strategy) (fit : FitLegs t) (s : ℕ) where
  apart : (i j : ℕ) → i < t.count → j < t.count → ¬ (j ≡ i) → (leg_in t i).series ≡ s → ¬ ((leg_in t j).series ≡ s)
  apart i j h k n e g =
      ⊎_elim
      (λ (l : i < j). omega (arith, fit.rising i j l k))
      (λ (l : j ≤ i). omega (arith, fit.rising j i (omega arith) h))
      (lt-or-le i j)

  pub leg-or-none : Found t s (place_of t.legs t.count s) ⊎ Missing t s
  unfolding place_of leg_of
  leg-or-none =
      let f : ℕ → Bool = in_series t.legs s in
      let i : ℕ = first_n f t.count in
      ⊎_elim
      (λ (l : i < t.count).
      let e : (leg_in t i).series ≡ s = eqb-true _ _ (first_holds f t.count l) in
      inl (record {
        below = l;
        series = e;
        leg = pick-false _ _ _ (ne_eqb i t.count (λ z. omega arith));
        others = λ j h n. apart i j l h n e;
      }))
      (λ (l : t.count ≤ i).
      let e : i ≡ t.count = omega (arith, first-le f t.count) in
      inr (record {
        leg = pick_true _ _ _ (eq-eqb i t.count e);
        others = λ j h. eqb-false _ _ (first-before f t.count j (omega arith));
      }))
      (lt-or-le i t.count)

  -- a strategy that does not hold the series has no leg of it
  pub not-held : has t.series s ≡ false → (j : ℕ) → j < t.count → ¬ ((leg_in t j).series ≡ s)
  not-held h j l e = clash (fit.held j l) (rw e h)
