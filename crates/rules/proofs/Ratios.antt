-- A sum over the legs of the strategy that a definition gives is that over the legs of the definition, in lowest terms; so is the ratio of a series.
use mathlib.Core.Path.{◌≡◌, refl, sym, ◌∙◌, ap}
use mathlib.Core.Bool.{Bool, true, false}
use mathlib.Core.Logic.{⊎_elim}
use mathlib.Core.List.{List, [], ◌∷◌, ◌++◌}
use Prim.Native.Nat.{ℕ, zero, suc, ◌+◌, ◌-◌, ◌≤◌, ◌<◌}
use native.Mathlib.Omega.{arith}
use borrow.Author.Tests.{eqb-true, eq-eqb, ltb-true, ltb-false, lt-ltb}
use lib.Dec.{eqb, ltb}
use lib.ListN.{length, get_or, take, replicate}
use Rattle.base.specs.Pick.{pick, pick-by, pick_true, pick-false, pick_yes}
use Rattle.base.specs.Walks.{sum_n, first_n, all-holds, first_holds, first-is, any-holds, any_where, sum-zero, sum_same, sum-rest, sum_first, sum-swap, below, clash}
use Rattle.base.specs.All.{all-at, all_replicate}
use Rattle.events.specs.declared.Strategy.{Strategy as GivenStrategy}
use Rattle.rules.specs.declared.Leg.{Leg}
use Rattle.rules.specs.declared.Strategy.{Strategy}
use Rattle.rules.specs.State.{no_leg, leg_at}
use Rattle.rules.specs.Strategies.{series_of, divisor, divided_at, in_series, place_of, legs_of, by_series, padded, defined, repeats, twice, same_leg, same_leg_at, same_legs}
use Rattle.rules.specs.Given.{legs_given, strategy_given}
use Rattle.rules.specs.Totals.{if_same, ratio_in}
use Rattle.rules.proofs.Tables.{all_take, tally, tally-join}
use Rattle.rules.proofs.Strategies.{Definition, lowest, lowest-at, place_same, rows, length-is, padded-at, rows-le}
use Rattle.rules.proofs.Laws.{ratio_at, ratio_for, pick-none, when-no}

-- SUMS
-- one term at most
sum-only : (f : ℕ → ℕ) (k p : ℕ) → p < k → ((j : ℕ) → j < k → (j ≡ p → ⊥) → f j ≡ 0) → sum_n f k ≡ f p
unfolding sum_n
sum-only f zero p h z = absurd (omega arith)
sum-only f (suc k) p h z =
    ⊎_elim
    (λ (q : p ≡ k). rw q (omega (arith, sum-zero f k (λ j l. z j (omega arith) (λ (e : j ≡ p). omega arith)))))
    (λ (l : p < k). omega (arith, sum-only f k p l (λ j m e. z j (omega arith) e), z k (omega arith) (λ (e : k ≡ p). omega arith)))
    (below h)

-- the term at the first hit, where there is no other
module _ (f : ℕ → Bool) (r : ℕ → ℕ) (k : ℕ) (once : (i j : ℕ) → i < j → j < k → f j ≡ true → f i ≡ false) where
  hit : (i : ℕ) → i < k → (i ≡ first_n f k → ⊥) → f i ≡ false
  hit i l h = go (f i) refl
    where
      go : (t : Bool) → f i ≡ t → f i ≡ false
      go true e = absurd (h (sym (first-is f k i l e (λ j m. once j i m l e))))
      go false e = e

  sum-hit : sum_n (λ (i : ℕ). pick (f i) (r i) 0) k ≡ pick (ltb (first_n f k) k) (r (first_n f k)) 0
  sum-hit =
      pick-by (λ (x : ℕ). sum_n (λ (i : ℕ). pick (f i) (r i) 0) k ≡ x) (ltb (first_n f k) k)
      (λ t.
      let p : first_n f k < k = ltb-true _ _ t in
      sum-only (λ (i : ℕ). pick (f i) (r i) 0) k (first_n f k) p (λ j l z. pick-false _ _ _ (hit j l z)) ∙ pick_true _ _ _ (first_holds f k p))
      (λ t. sum-zero _ k (λ i l. pick-false _ _ _ (hit i l (λ (z : i ≡ first_n f k). omega (arith, ltb-false (first_n f k) k t)))))

-- the sum over the rows of a list
sum_rows : {A : Type 0} (w : A → ℕ) (d : A) (l : List A) → sum_n (λ (i : ℕ). w (get_or l i d)) (length l) ≡ tally w l
unfolding tally sum_n
sum_rows w d [] = refl
sum_rows w d (x ∷ xs) = omega (arith, sum_first (λ (i : ℕ). w (get_or (x ∷ xs) i d)) (length xs), sum_rows w d xs)

-- A SUM OVER THE LEGS of a definition is that over the legs of its strategy, whatever each counts
module _ (legs : List Leg) (count : ℕ) (def : Definition legs count) where
  abbrev low : List Leg
  low = lowest legs count def

  abbrev place : ℕ → ℕ
  place x = place_of legs count x

  abbrev divided : ℕ → Leg
  divided i = divided_at legs (divisor legs count) i

  -- no series is twice
  pub once : (s i j : ℕ) → i < j → j < count → in_series legs s j ≡ true → in_series legs s i ≡ false
  unfolding twice
  once s i j h l e = go (in_series legs s i) refl
    where
      go : (t : Bool) → in_series legs s i ≡ t → in_series legs s i ≡ false
      go false q = q
      go true q =
          let same : series_of legs i ≡ series_of legs j = eqb-true _ _ q ∙ sym (eqb-true _ _ e) in
          let f : ℕ → Bool = in_series legs (series_of legs j) in
          let r : repeats legs j ≡ true = lt-ltb _ _ (any_where f j (any-holds f j i h (eq-eqb _ _ same))) in
          absurd (clash (any-holds (repeats legs) count j l r) def.once)

  module _ (w : Leg → ℕ) where
    -- in one series: that of the leg at its place, which is the only one there
    one-series : (x : ℕ) → tally w (legs_of low count x) ≡ sum_n (λ (i : ℕ). pick (in_series legs x i) (w (divided i)) 0) count
    unfolding tally place_of
    one-series x =
        rw (place_same legs count def x)
        (pick-by (λ (ls : List Leg). tally w ls ≡ pick (ltb (place x) count) (w (divided (place x))) 0) (ltb (place x) count)
        (λ t. let h : place x < count = ltb-true _ _ t in omega (arith, ap w (lowest-at legs count def (place x) h), pick_true (ltb (place x) count) (w (divided (place x))) 0 t))
        (λ t. sym (pick-false _ _ _ t))
        ∙ sym (sum-hit (in_series legs x) (λ (i : ℕ). w (divided i)) count (once x)))

    -- each leg stands in one of the 32 series
    one-leg : (i : ℕ) → i < count → sum_n (λ (x : ℕ). pick (in_series legs x i) (w (divided i)) 0) 32 ≡ w (divided i)
    one-leg i l =
        sum-only (λ (x : ℕ). pick (in_series legs x i) (w (divided i)) 0) 32 (series_of legs i) (def.series i l) (λ x m n. when-no (series_of legs i) x (w (divided i)) (λ z. n (sym z)))
        ∙ pick_true (in_series legs (series_of legs i) i) (w (divided i)) 0 (eq-eqb (series_of legs i) (series_of legs i) refl)

    rows-sum : tally w (rows legs count def) ≡ sum_n (λ (i : ℕ). w (divided i)) count
    unfolding by_series
    rows-sum =
        tally-join w (legs_of low count) 32
        ∙ sum_same _ (λ (x : ℕ). sum_n (λ (i : ℕ). pick (in_series legs x i) (w (divided i)) 0) count) 32 (λ x l. one-series x)
        ∙ sum-swap (λ (x i : ℕ). pick (in_series legs x i) (w (divided i)) 0) 32 count
        ∙ sum_same _ (λ (i : ℕ). w (divided i)) count (λ i l. one-leg i l)

    pub legs-sum : sum_n (λ (i : ℕ). w (leg_at (defined legs count) i)) (defined legs count).count ≡ sum_n (λ (i : ℕ). w (divided i)) count
    unfolding defined
    legs-sum =
        let n : length (rows legs count def) ≡ (defined legs count).count = length-is legs count def in
        sum_same (λ (i : ℕ). w (leg_at (defined legs count) i)) (λ (i : ℕ). w (get_or (rows legs count def) i no_leg)) (defined legs count).count
        (λ i l. ap w (padded-at legs count def i (omega arith)))
        ∙ ap (sum_n (λ (i : ℕ). w (get_or (rows legs count def) i no_leg))) (sym n)
        ∙ sum_rows w no_leg (rows legs count def)
        ∙ rows-sum

-- the ratio of a series
abbrev share : ℕ → Leg → ℕ
share s l = if_same l.series s l.ratio

-- "The ratio is that of the accepted kind 1 event that answered its strategy"
pub given-ratios : (e : GivenStrategy) → Definition (legs_given e) e.count → (s : ℕ) → ratio_for (strategy_given e) s ≡ ratio_in e s
unfolding strategy_given ratio_in ratio_for
given-ratios e d s = legs-sum (legs_given e) e.count d (share s)

-- LEGS PAST THE COUNT are empty
pub record Padded (st : Strategy) : Type 0 where
  pub count : st.count ≤ 6
  pub past : (i : ℕ) → st.count ≤ i → (leg_at st i).ratio ≡ 0

pad-past : {A : Type 0} (d : A) (m n : ℕ) (xs : List A) (i : ℕ) → length xs ≤ i → get_or (take n (xs ++ replicate m d)) i d ≡ d
pad-past {A} d m n [] i h = all-at {P = λ (x : A). x ≡ d} d refl (all_take (all_replicate d refl m) n) i
pad-past {A} d m zero (x ∷ xs) i h = refl
pad-past {A} d m (suc n) (x ∷ xs) zero h = absurd (omega arith)
pad-past {A} d m (suc n) (x ∷ xs) (suc i) h = pad-past d m n xs i (omega arith)

pub given-padded : (e : GivenStrategy) → Definition (legs_given e) e.count → Padded (strategy_given e)
unfolding strategy_given defined padded
given-padded e d =
    let n : length (rows (legs_given e) e.count d) ≡ (defined (legs_given e) e.count).count = length-is (legs_given e) e.count d in
    record {
      count = omega (arith, rows-le (legs_given e) e.count d);
      past = λ i h. ap (λ (l : Leg). l.ratio) (pad-past no_leg 6 6 (rows (legs_given e) e.count d) i (omega arith));
    }

padded-ratio : (st : Strategy) → Padded st → (s : ℕ) → ratio_for st s ≡ sum_n (ratio_at st s) 6
unfolding ratio_for
padded-ratio st p s =
    let q : 6 ≡ 6 - st.count + st.count = omega (arith, p.count) in
    sym (ap (sum_n (ratio_at st s)) q ∙ sum-rest (ratio_at st s) st.count (6 - st.count) (λ i h. ap (λ (x : ℕ). if_same (leg_at st i).series s x) (p.past i h) ∙ pick-none (eqb (leg_at st i).series s)))

-- two with the same legs have the same ratios
leg-same : (s : ℕ) (x y : Leg) → same_leg x y ≡ true → share s x ≡ share s y
unfolding same_leg
leg-same s x y h =
    let p = pick_yes (eqb x.series y.series) h in
    let q = pick_yes (eqb x.side y.side) p.1 in
    let a : x.series ≡ y.series = eqb-true _ _ p.0 in
    let b : x.ratio ≡ y.ratio = eqb-true _ _ q.1 in
    ap (λ (z : ℕ). if_same z s x.ratio) a ∙ ap (λ (z : ℕ). if_same y.series s z) b

pub same-ratios : (st tt : Strategy) → Padded st → Padded tt → same_legs st tt ≡ true → (s : ℕ) → ratio_for st s ≡ ratio_for tt s
unfolding same_legs
same-ratios st tt p q h s =
    padded-ratio st p s
    ∙ sum_same (ratio_at st s) (ratio_at tt s) 6 (λ i l. leg-same s (leg_at st i) (leg_at tt i) (all-holds (same_leg_at st tt) 6 i h l))
    ∙ sym (padded-ratio tt q s)
