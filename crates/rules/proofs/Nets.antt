-- The net of a strategy at any prices by leg: it goes by the legs alone, and it is the sum over the legs of the event that defined the strategy,
-- in cents.
use mathlib.Core.Path.{◌≡◌, refl, sym, ◌∙◌, ap}
use mathlib.Core.Bool.{Bool, true, false}
use mathlib.Core.List.{List}
use mathlib.Core.Logic.{⊎_elim}
use Prim.Native.Nat.{ℕ, zero, suc, ◌+◌, ◌-◌, ◌*◌, ◌≤◌, ◌<◌}
use native.Mathlib.Nat.{mul-le-mul}
use native.Mathlib.Omega.{arith}
use borrow.Author.Tests.{eqb-true, eqb-false, eq-eqb, ne_eqb, lt-ltb, le-ltb, ltb-true, ltb-false}
use lib.Dec.{eqb}
use lib.IntN.{ℤ, pos, neg_ℤ, sub_ℕ, ◌+ℤ◌}
use Rattle.base.specs.Pick.{pick, pick-by, pick_all, pick_true, pick-false, pick_yes}
use Rattle.base.specs.All.{all-at}
use Rattle.base.specs.Walks.{sum_n, slot, table, table-slot, all_n, all-every, all-holds, all-stop, clash, sum_same, sum-zero, sum_one, sum-le, lt-or-le}
use Rattle.events.specs.declared.Strategy.{Strategy as GivenStrategy}
use Rattle.rules.specs.declared.Leg.{Leg}
use Rattle.rules.specs.declared.Strategy.{Strategy}
use Rattle.rules.specs.State.{no_leg, leg_at}
use Rattle.rules.specs.Sides.{other, leg_side}
use Rattle.rules.specs.Nets.{priced_at, known, weight, weight_at, weighed, net_of}
use Rattle.rules.specs.Strategies.{divisor, divided_at, defined, same_leg, same_leg_at, same_legs}
use Rattle.rules.specs.Given.{legs_given}
use Rattle.rules.specs.Records.{cents}
use Rattle.rules.specs.Valid.{FitLeg, FitStrategy}
use Rattle.rules.specs.Sentences.{Any}
use Rattle.rules.specs.Totals.{leg_term, net_over}
use Rattle.rules.proofs.Entering.{fit-no-leg}
use Rattle.rules.proofs.Strategies.{Definition, defined-fit}
use Rattle.rules.proofs.Laws.{side-is}
use Rattle.rules.proofs.Ratios.{Padded, legs-sum}
use Rattle.rules.proofs.Levels.{sub_same, sub-pos, sub-neg, sub-plus, cents-is}

-- the prices that a net takes, by leg
abbrev pub prices_by : (Leg → ℕ) → Strategy → List ℕ
prices_by price s = table (λ (i : ℕ). price (leg_at s i)) 6

-- TWO STRATEGIES WITH THE SAME LEGS have the same nets
pub table_same : {A : Type 0} (f g : ℕ → A) (k : ℕ) → ((i : ℕ) → i < k → f i ≡ g i) → table f k ≡ table g k
unfolding table
table_same f g zero h = refl
table_same f g (suc k) h = rw (table_same f g k (λ i l. h i (omega arith)), h k (omega arith))

same-leg : (l m : Leg) → same_leg l m ≡ true → l ≡ m
unfolding same_leg
same-leg l m h =
    let p = pick_yes (eqb l.series m.series) h in
    let q = pick_yes (eqb l.side m.side) p.1 in
    let a : l.series ≡ m.series = eqb-true _ _ p.0 in
    let b : l.side ≡ m.side = eqb-true _ _ q.0 in
    let c : l.ratio ≡ m.ratio = eqb-true _ _ q.1 in
    ap (λ (x : ℕ). record { series = x; side = l.side; ratio = l.ratio }) a
    ∙ ap (λ (x : ℕ). record { series = m.series; side = x; ratio = l.ratio }) b
    ∙ ap (λ (x : ℕ). record { series = m.series; side = m.side; ratio = x }) c

-- a strategy whose legs are used up to its count, and no further
pub record Filled (s : Strategy) : Type 0 where
  pub padded : Padded s
  pub used : (i : ℕ) → i < s.count → 0 < (leg_at s i).ratio

module _ (s t : Strategy) (p : Filled s) (q : Filled t) (h : same_legs s t ≡ true) where
  leg-at : (i : ℕ) → i < 6 → leg_at s i ≡ leg_at t i
  unfolding same_legs
  leg-at i l = same-leg (leg_at s i) (leg_at t i) (all-holds (same_leg_at s t) 6 i h l)

  same_count : s.count ≡ t.count
  same_count =
      ⊎_elim
      (λ (l : s.count < t.count).
      absurd (omega (arith, q.used s.count l, p.padded.past s.count (omega arith), ap (λ (x : Leg). x.ratio) (leg-at s.count (omega (arith, q.padded.count))))))
      (λ (l : t.count ≤ s.count).
      ⊎_elim
      (λ (m : t.count < s.count).
      absurd (omega (arith, p.used t.count m, q.padded.past t.count (omega arith), ap (λ (x : Leg). x.ratio) (leg-at t.count (omega (arith, p.padded.count))))))
      (λ (m : s.count ≤ t.count). omega arith)
      (lt-or-le t.count s.count))
      (lt-or-le s.count t.count)

  same_at_lem : (ps : List ℕ) → net_of s ps ≡ net_of t ps
  unfolding net_of weighed
  same_at_lem ps =
      let w : (x : ℕ) → sum_n (weight_at x s.legs ps) s.count ≡ sum_n (weight_at x t.legs ps) s.count =
      λ x. sum_same _ _ s.count (λ i l. ap (λ (y : Leg). weight x y (slot ps i)) (leg-at i (omega (arith, p.padded.count)))) in
      rw (w 0, w 1, same_count)

  -- .. at prices that agree on those legs
  pub same-net : (price other : Leg → ℕ) → ((i : ℕ) → i < 6 → price (leg_at s i) ≡ other (leg_at s i)) → net_of s (prices_by price s) ≡ net_of t (prices_by other t)
  same-net price other e =
      let z : prices_by price s ≡ prices_by other t = table_same _ _ 6 (λ i l. e i l ∙ ap other (leg-at i l)) in
      rw z (same_at_lem (prices_by other t))

-- ONE LEG'S PART of a net: added for a buy leg, taken off for a sell leg
part-is : (l : Leg) (price : ℕ) → pick (eqb l.side 0) (pos (l.ratio * price)) (neg_ℤ (pos (l.ratio * price))) ≡ sub_ℕ (weight 0 l price) (weight 1 l price)
unfolding weight pick
part-is l price =
    by (eqb l.side 0)
  where
    by : (t : Bool) → pick t (pos (l.ratio * price)) (neg_ℤ (pos (l.ratio * price))) ≡ sub_ℕ (pick t (l.ratio * price) 0) (pick t 0 (l.ratio * price))
    by true = sub-pos (l.ratio * price)
    by false = sub-neg (l.ratio * price)

-- .. of a ratio and a price in their ranges
weight-few : (l : Leg) (p : ℕ) → l.ratio ≤ 12 → p ≤ 99_999 → weight 1 l p ≤ 1_199_988
unfolding weight
weight-few l p h k =
    let m : l.ratio * p ≤ 12 * 99_999 = mul-le-mul h k in
    let P : ℕ → Type 0 = λ (x : ℕ). x ≤ 1_199_988 in
    pick_all P _ (pick_all P _ (omega (arith, m)) (omega arith)) (pick_all P _ (omega arith) (omega (arith, m)))

-- the sum over the buy legs less that over the sell legs
module _ (e : GivenStrategy) (price : ℕ → ℕ) where
  abbrev legs : List Leg
  legs = legs_given e

  abbrev leg : ℕ → Leg
  leg i = divided_at legs (divisor legs e.count) i

  over-is : (k : ℕ) → net_over e price k ≡ sub_ℕ (sum_n (λ (i : ℕ). weight 0 (leg i) (price i)) k) (sum_n (λ (i : ℕ). weight 1 (leg i) (price i)) k)
  unfolding net_over leg_term sum_n
  over-is zero = sub-pos 0
  over-is (suc k) =
      ap (λ (z : ℤ). z +ℤ leg_term e price k) (over-is k)
      ∙ ap (λ (z : ℤ). sub_ℕ (sum_n (λ (i : ℕ). weight 0 (leg i) (price i)) k) (sum_n (λ (i : ℕ). weight 1 (leg i) (price i)) k) +ℤ z) (part-is (leg k) (price k))
      ∙ sub-plus (sum_n (λ (i : ℕ). weight 0 (leg i) (price i)) k) (sum_n (λ (i : ℕ). weight 1 (leg i) (price i)) k) (weight 0 (leg k) (price k)) (weight 1 (leg k) (price k))

-- which price a leg has in a net: the rule's and the paper's words
pub side_same : (side on : ℕ) (l : Leg) → l.side ≡ on → side ≤ 1 → on ≤ 1 → eqb (leg_side side l) 0 ≡ eqb on side
unfolding leg_side other pick
side_same side on l e h k =
    rw e
    (⊎_elim
    (λ (s : side ≡ 0). ⊎_elim (λ (o : on ≡ 0). rw (s, o)) (λ (o : on ≡ 1). rw (s, o)) (side-is on k))
    (λ (s : side ≡ 1). ⊎_elim (λ (o : on ≡ 0). rw (s, o)) (λ (o : on ≡ 1). rw (s, o)) (side-is on k))
    (side-is side h))

-- a test of all that fails, fails of one
some-fails : (f : ℕ → Bool) (k : ℕ) → all_n f k ≡ false → Any (λ (i : ℕ). f i ≡ false) k
unfolding all_n
some-fails f zero e = absurd (clash refl e)
some-fails f (suc k) e = by (f k) refl (all_n f k) refl (some-fails f k)
  where
    by : (t : Bool) → f k ≡ t → (u : Bool) → all_n f k ≡ u → (all_n f k ≡ false → Any (λ (i : ℕ). f i ≡ false) k) → Any (λ (i : ℕ). f i ≡ false) (suc k)
    by false p u q h = record { at = k; below = omega arith; has = p }
    by true p false q h = let a = h q in record { at = a.at; below = omega (arith, a.below); has = a.has }
    by true p true q h = absurd (clash (rw (q, p) refl) e)

-- THE NET OF A STRATEGY at a price for each leg
module _ (s : Strategy) (fit : FitStrategy s) (price : Leg → ℕ) (most : (i : ℕ) → price (leg_at s i) ≤ 99_999) where
  pub ps-at : (i : ℕ) → i < s.count → slot (prices_by price s) i ≡ price (leg_at s i)
  ps-at i l = table-slot (λ (j : ℕ). price (leg_at s j)) 0 6 i (omega (arith, fit.count))

  -- a sum over its legs
  pub weighed-at : (x : ℕ) → weighed x s.legs (prices_by price s) s.count ≡ sum_n (λ (i : ℕ). weight x (leg_at s i) (price (leg_at s i))) s.count
  unfolding weighed
  weighed-at x = sum_same (weight_at x s.legs (prices_by price s)) (λ (i : ℕ). weight x (leg_at s i) (price (leg_at s i))) s.count (λ i l. ap (weight x (leg_at s i)) (ps-at i l))

  pub weighed-few : weighed 1 s.legs (prices_by price s) s.count ≤ 7_199_928
  weighed-few =
      let few : (i : ℕ) → weight 1 (leg_at s i) (price (leg_at s i)) ≤ 1_199_988 = λ i. weight-few (leg_at s i) (price (leg_at s i)) (all-at no_leg fit-no-leg fit.legs i).ratio (most i) in
      omega (arith, weighed-at 1, sum-le (λ (i : ℕ). weight 1 (leg_at s i) (price (leg_at s i))) 1_199_988 few s.count, fit.count)

  -- it is known where each leg has a price, and then it is not 0
  pub net-some : known (prices_by price s) s.count ≡ true → 0 < net_of s (prices_by price s)
  unfolding net_of
  net-some k =
      let n : net_of s (prices_by price s) ≡ 10_000_000 + weighed 0 s.legs (prices_by price s) s.count - weighed 1 s.legs (prices_by price s) s.count = pick_true _ _ _ k in
      omega (arith, n, weighed-few)

  -- so one that is 0 misses a price
  pub missing_at : net_of s (prices_by price s) ≡ 0 → Any (λ (i : ℕ). price (leg_at s i) ≡ 0) s.count
  unfolding known
  missing_at z = by (known (prices_by price s) s.count) refl
    where
      by : (t : Bool) → known (prices_by price s) s.count ≡ t → Any (λ (i : ℕ). price (leg_at s i) ≡ 0) s.count
      by true k = absurd (omega (arith, z, net-some k))
      by false k =
          let a : Any (λ (i : ℕ). priced_at (prices_by price s) i ≡ false) s.count = some-fails (priced_at (prices_by price s)) s.count k in
          let z : slot (prices_by price s) a.at ≡ 0 = omega (arith, ltb-false 0 (slot (prices_by price s) a.at) a.has) in
          record { at = a.at; below = a.below; has = sym (ps-at a.at a.below) ∙ z }

  pub missing-zero : Any (λ (i : ℕ). price (leg_at s i) ≡ 0) s.count → net_of s (prices_by price s) ≡ 0
  unfolding net_of known
  missing-zero a = pick-false _ _ _ (all-stop (priced_at (prices_by price s)) a.at s.count a.below (rw (ps-at a.at a.below, a.has) (le-ltb 0 0 (omega arith))))

-- THE STRATEGY THAT AN EVENT DEFINED, at a price for each leg, 0 where it is missing; `said` is that of the event's leg at a place
module _ (e : GivenStrategy) (def : Definition (legs_given e) e.count) where
  abbrev st : Strategy
  st = defined (legs_given e) e.count

  abbrev pub given : ℕ → Leg
  given i = divided_at (legs_given e) (divisor (legs_given e) e.count) i

  fit : FitStrategy st
  fit = defined-fit (legs_given e) e.count def

  pub fit-leg : (i : ℕ) → FitLeg (leg_at st i)
  fit-leg i = all-at no_leg fit-no-leg fit.legs i

  module _ (price : Leg → ℕ) (most : (i : ℕ) → price (leg_at st i) ≤ 99_999) (said : ℕ → ℕ) (is : (i : ℕ) → i < e.count → price (given i) ≡ said i) where
    abbrev ps : List ℕ
    ps = prices_by price st

    -- a sum over the strategy's legs is one over the event's
    weighed-said : (x : ℕ) → weighed x st.legs ps st.count ≡ sum_n (λ (i : ℕ). weight x (given i) (said i)) e.count
    weighed-said x =
        weighed-at st fit price most x
        ∙ legs-sum (legs_given e) e.count def (λ (l : Leg). weight x l (price l))
        ∙ sum_same _ _ e.count (λ i l. ap (weight x (given i)) (is i l))

    -- where no price is missing the net is known
    priced : ((i : ℕ) → i < e.count → 0 < said i) → known ps st.count ≡ true
    unfolding known
    priced h =
        let missing : Leg → ℕ = λ (l : Leg). pick (eqb (price l) 0) 1 0 in
        let none : sum_n (λ (i : ℕ). missing (leg_at st i)) st.count ≡ 0 =
        legs-sum (legs_given e) e.count def missing
        ∙ sum-zero _ e.count (λ i l. pick-false (eqb (price (given i)) 0) 1 0 (ne_eqb (price (given i)) 0 (λ (z : price (given i) ≡ 0). omega (arith, z, h i l, is i l)))) in
        all-every (priced_at ps) st.count
        (λ i l.
        let z : missing (leg_at st i) ≡ 0 = omega (arith, none, sum_one (λ (j : ℕ). missing (leg_at st j)) st.count i l) in
        lt-ltb 0 (slot ps i) (rw (ps-at st fit price most i l) (some (price (leg_at st i)) z)))
      where
        some : (p : ℕ) → ◌≡◌ {A = ℕ} (pick (eqb p 0) 1 0) 0 → 0 < p
        some p = pick-by (λ (x : ℕ). x ≡ 0 → 0 < p) (eqb p 0) (λ _ z. absurd (omega arith)) (λ n _. let m = eqb-false p 0 n in omega (arith, m))

    -- and it is the sum that the paper says
    pub record Said : Type 0 where
      pub known : 0 < net_of st ps
      pub net : cents (net_of st ps) ≡ net_over e said e.count

    pub net-said : ((i : ℕ) → i < e.count → 0 < said i) → Said
    unfolding net_of
    net-said h =
        let n : net_of st ps ≡ 10_000_000 + weighed 0 st.legs ps st.count - weighed 1 st.legs ps st.count = pick_true _ _ _ (priced h) in
        record {
          known = net-some st fit price most (priced h);
          net = cents-is (net_of st ps)
              ∙ sub_same (net_of st ps) 10_000_000 (weighed 0 st.legs ps st.count) (weighed 1 st.legs ps st.count) (omega (arith, n, weighed-few st fit price most))
              ∙ (let q : sub_ℕ (weighed 0 st.legs ps st.count) (weighed 1 st.legs ps st.count) ≡ net_over e said e.count = rw (weighed-said 0, weighed-said 1) (sym (over-is e said e.count)) in q);
        }

    -- "unknown if a price is missing": where one is, there is no net
    pub net-missing : (i : ℕ) → i < e.count → said i ≡ 0 → net_of st ps ≡ 0
    unfolding net_of known
    net-missing i l z =
        pick-by (λ (n : ℕ). n ≡ 0) (known ps st.count)
        (λ k.
        let missing : Leg → ℕ = λ (x : Leg). pick (eqb (price x) 0) 1 0 in
        let none : sum_n (λ (j : ℕ). missing (leg_at st j)) st.count ≡ 0 =
        sum-zero _ st.count (λ j m. pick-false (eqb (price (leg_at st j)) 0) 1 0 (ne_eqb (price (leg_at st j)) 0 (λ (y : price (leg_at st j) ≡ 0). omega (arith, y, ps-at st fit price most j m, ltb-true 0 (slot ps j) (all-holds (priced_at ps) st.count j k m))))) in
        let one : missing (given i) ≡ 1 = pick_true (eqb (price (given i)) 0) 1 0 (eq-eqb (price (given i)) 0 (is i l ∙ z)) in
        absurd (omega (arith, none, legs-sum (legs_given e) e.count def missing, one, sum_one (λ (j : ℕ). missing (given j)) e.count i l)))
        (λ _. refl)
