-- The strategy that a definition gives is fit.
use mathlib.Core.Path.{◌≡◌, refl, sym, ◌∙◌, ap}
use mathlib.Core.Bool.{Bool, true, false}
use mathlib.Core.Logic.{⊎_elim}
use mathlib.Core.List.{List, ◌++◌}
use Prim.Native.Nat.{ℕ, zero, suc, ◌+◌, ◌*◌, ◌/◌, ◌^◌, ◌≤◌, ◌<◌}
use native.Mathlib.Nat.{le_refl, one-mul, mul_assoc, div-le_self, le-div_iff_mul-le, le_trans}
use native.Mathlib.Omega.{arith}
use borrow.Author.Tests.{ltb-true, lt-ltb, eqb-true, eq-eqb, ne_eqb}
use lib.Dec.{eqb}
use lib.ListN.{length, get_or, replicate, get_or-append}
use lib.Seq.{get_or-take}
use Rattle.base.specs.Pick.{pick, pick-by, pick_true, pick-false, pick-ap}
use Rattle.base.specs.Walks.{sum_n, walk, join_n, table-slot, first-same, first_holds, any-holds, any_where, length-join, sum_same, sum_mono, sum_one, sum-swap, sum-le, sum-zero, below, clash, lt-or-le}
use Rattle.base.specs.All.{All, all_nil, all_cons, Sorted, sort-nil, sort-cons, all_append, all_map, all_replicate, sorted-append}
use Rattle.base.specs.Sets.{has, size_of}
use Rattle.base.specs.SetLaws.{size-set, set-has, set-lt}
use Rattle.base.specs.Gcd.{Divides, gcd-left, gcd-right, divides-pos, divides-le}
use Rattle.rules.specs.declared.Leg.{Leg}
use Rattle.rules.specs.State.{no_leg}
use Rattle.rules.specs.Strategies.{ratio_of, series_of, divisor_step, divisor, divided_at, lowest_terms, in_series, place_of, present, legs_of, by_series, padded, series_set, defined, repeats, twice}
use Rattle.rules.specs.Valid.{FitLeg, FitStrategy}
use Rattle.rules.proofs.Tables.{all-within, sorted-at, all_take}

-- Divisors.

divides-trans : {a b c : ℕ} → Divides a b → Divides b c → Divides a c
divides-trans {a} {b} {c} u v = record {
  times = v.times * u.times;
  is = mul_assoc v.times u.times a ∙ ap (λ (x : ℕ). v.times * x) u.is ∙ v.is;
}

-- the divisor divides each ratio
pub divisor-divides : (legs : List Leg) (n i : ℕ) → i < n → Divides (walk (divisor_step legs) 0 n) (ratio_of legs i)
unfolding walk
divisor-divides legs zero i h = absurd (omega arith)
divisor-divides legs (suc n) i h =
    ⊎_elim (λ q. rw q (gcd-left _ _))
    (λ l. divides-trans (gcd-right (ratio_of legs n) (walk (divisor_step legs) 0 n)) (divisor-divides legs n i l)) (below h)

-- a number that is not 0, by a divisor
divided-pos : {d r : ℕ} → 0 < r → Divides d r → 0 < r / d
divided-pos {d} {r} h u = (le-div_iff_mul-le (divides-pos u h)).1 (rw one-mul (divides-le u h))

-- Sums of tests.

abbrev one : Bool → ℕ
one t = pick t 1 0

none_is : (x k : ℕ) → k ≤ x → sum_n (λ (s : ℕ). one (eqb x s)) k ≡ 0
none_is x k h = sum-zero _ k (λ i l. pick-false _ _ _ (ne_eqb x i (λ e. omega arith)))

once_is : (x k : ℕ) → sum_n (λ (s : ℕ). one (eqb x s)) k ≤ 1
unfolding sum_n
once_is x zero = omega arith
once_is x (suc k) =
    let f : ℕ → ℕ = λ (s : ℕ). one (eqb x s) in
    pick-by (λ (n : ℕ). sum_n f k + n ≤ 1) (eqb x k)
    (λ e. let q : x ≡ k = eqb-true x k e in omega (arith, none_is x k (omega arith)))
    (λ e. omega (arith, once_is x k))

sum-two : (f : ℕ → ℕ) (k i j : ℕ) → i < j → j < k → f i + f j ≤ sum_n f k
unfolding sum_n
sum-two f zero i j h l = absurd (omega arith)
sum-two f (suc k) i j h l =
    ⊎_elim (λ q. rw q (omega (arith, sum_one f k i (omega arith)))) (λ m. omega (arith, sum-two f k i j h m)) (below l)

-- A definition that is accepted: two to six legs in range, no series twice.
pub record Definition (legs : List Leg) (count : ℕ) : Type 0 where
  pub two : 2 ≤ count
  pub six : count ≤ 6
  pub series : (i : ℕ) → i < count → series_of legs i < 32
  pub side : (i : ℕ) → i < count → (get_or legs i no_leg).side ≤ 1
  pub ratio : (i : ℕ) → i < count → (1 ≤ ratio_of legs i) × (ratio_of legs i ≤ 12)
  pub once : twice legs count ≡ false

abbrev Rising : Leg → Leg → Type 0
Rising x y = x.series < y.series

module _ (legs : List Leg) (count : ℕ) (def : Definition legs count) where
  abbrev pub lowest : List Leg
  lowest = lowest_terms legs count

  pub lowest-at : (i : ℕ) → i < count → get_or lowest i no_leg ≡ divided_at legs (divisor legs count) i
  unfolding lowest_terms
  lowest-at i h = table-slot (divided_at legs (divisor legs count)) no_leg 6 i (omega (arith, def.six))

  pub place_same : (s : ℕ) → place_of lowest count s ≡ place_of legs count s
  unfolding place_of
  place_same s = first-same _ _ count (λ i l. ap (λ (x : Leg). eqb x.series s) (lowest-at i l))

  -- a leg of the strategy
  pub record Found (l : Leg) : Type 0 where
    pub fit : FitLeg l
    pub used : 0 < l.ratio
    pub held : present legs count l.series ≡ true

  -- the legs of series s
  record Here (s : ℕ) (ls : List Leg) : Type 0 where
    pub found : All Found ls
    pub series : All (λ (l : Leg). l.series ≡ s) ls
    pub sorted : Sorted Rising ls

  found_at : (s : ℕ) → s < 32 → present lowest count s ≡ true → (Found (get_or lowest (place_of lowest count s) no_leg)) × ((get_or lowest (place_of lowest count s) no_leg).series ≡ s)
  unfolding place_of divisor
  found_at s h e =
      let j = place_of lowest count s in
      let l : j < count = ltb-true _ _ e in
      let q : get_or lowest j no_leg ≡ divided_at legs (divisor legs count) j = lowest-at j l in
      let k : series_of lowest j ≡ s = eqb-true _ _ (first_holds (in_series lowest s) count l) in
      let r = def.ratio j l in (
        record {
          fit = record { series = rw k h; side = rw q (def.side j l); ratio = rw q (le_trans (div-le_self (ratio_of legs j) (divisor legs count)) r.1) };
          used = rw q (divided-pos r.0 (divisor-divides legs count j l));
          held = rw k (rw (place_same s) at e);
        },
        k,
      )

  here : (s : ℕ) → s < 32 → Here s (legs_of lowest count s)
  here s h =
      pick-by (Here s) (present lowest count s)
      (λ e. let f = found_at s h e in record { found = all_cons f.0 all_nil; series = all_cons f.1 all_nil; sorted = sort-cons all_nil sort-nil })
      (λ e. record { found = all_nil; series = all_nil; sorted = sort-nil })

  -- the legs of the series below k
  pub record Upto (k : ℕ) (ls : List Leg) : Type 0 where
    pub found : All Found ls
    pub series : All (λ (l : Leg). l.series < k) ls
    pub sorted : Sorted Rising ls

  upto : (k : ℕ) → k ≤ 32 → Upto k (join_n (legs_of lowest count) k)
  unfolding join_n
  upto zero h = record { found = all_nil; series = all_nil; sorted = sort-nil }
  upto (suc k) h =
      let u = upto k (omega arith) in
      let v = here k (omega arith) in
      record {
        found = all_append u.found v.found;
        series = all_append (all_map (λ a p. omega arith) u.series) (all_map (λ a p. omega arith) v.series);
        sorted = sorted-append u.sorted v.sorted (all_map (λ a p. all_map (λ c q. omega arith) v.series) u.series);
      }

  -- how many there are
  placed : ℕ → ℕ
  placed s = one (present legs count s)

  size_is : size_of (series_set legs count) ≡ sum_n placed 32
  unfolding series_set placed
  size_is = size-set (present legs count) 32 (le_refl 32)

  pub length-is : length (by_series lowest count) ≡ size_of (series_set legs count)
  unfolding by_series placed
  length-is =
      length-join (legs_of lowest count) 32
      ∙ sum_same (λ (s : ℕ). length (legs_of lowest count s)) placed 32 (λ s l. pick-ap length _ _ _ ∙ rw (place_same s))
      ∙ sym size_is

  -- no more than count
  placed-le : (s : ℕ) → placed s ≤ sum_n (λ (i : ℕ). one (in_series legs s i)) count
  unfolding placed place_of
  placed-le s =
      let f : ℕ → ℕ = λ (i : ℕ). one (in_series legs s i) in
      pick-by (λ (n : ℕ). n ≤ sum_n f count) (present legs count s)
      (λ e.
      let l : place_of legs count s < count = ltb-true _ _ e in
      omega (arith, sum_one f count (place_of legs count s) l, pick_true {A = ℕ} (in_series legs s (place_of legs count s)) 1 0 (first_holds (in_series legs s) count l)))
      (λ e. omega arith)

  size-le : size_of (series_set legs count) ≤ count
  size-le =
      let f : ℕ → ℕ → ℕ = λ (s i : ℕ). one (in_series legs s i) in
      omega (
        arith,
        size_is,
        sum_mono placed (λ (s : ℕ). sum_n (f s) count) 32 (λ s l. placed-le s),
        sum-swap f 32 count,
        sum-le (λ (i : ℕ). sum_n (λ (s : ℕ). f s i) 32) 1 (λ i. once_is (series_of legs i) 32) count,
      )

  -- the first two legs are of two series
  placed-leg : (i : ℕ) → i < count → placed (series_of legs i) ≡ 1
  unfolding placed place_of
  placed-leg i h =
      pick_true _ _ _ (lt-ltb _ _ (any_where (in_series legs (series_of legs i)) count (any-holds _ count i h (eq-eqb (series_of legs i) _ refl))))

  two-series : (series_of legs 0 ≡ series_of legs 1) → ⊥
  unfolding twice
  two-series e =
      let f : ℕ → Bool = in_series legs (series_of legs 1) in
      let r : repeats legs 1 ≡ true = lt-ltb _ _ (any_where f 1 (any-holds f 1 0 (omega arith) (eq-eqb _ _ e))) in
      clash (any-holds (repeats legs) count 1 (omega (arith, def.two)) r) def.once

  two-le : 2 ≤ size_of (series_set legs count)
  two-le =
      let a = series_of legs 0 in
      let b = series_of legs 1 in
      let two = def.two in
      let p : placed a ≡ 1 = placed-leg 0 (omega arith) in
      let q : placed b ≡ 1 = placed-leg 1 (omega arith) in
      ⊎_elim (λ l. omega (arith, size_is, sum-two placed 32 a b l (def.series 1 (omega arith)), p, q))
      (λ l. omega (arith, size_is, sum-two placed 32 b a (omega (arith, two-series)) (def.series 0 (omega arith)), p, q)) (lt-or-le a b)

  -- the rows
  abbrev pub rows : List Leg
  rows = by_series lowest count

  pub rows_are : Upto 32 rows
  unfolding by_series
  rows_are = upto 32 (le_refl 32)

  pub rows-le : length rows ≤ 6
  rows-le = omega (arith, length-is, size-le, def.six)

  pub padded-at : (i : ℕ) → i < length rows → get_or (padded rows) i no_leg ≡ get_or rows i no_leg
  unfolding padded
  padded-at i h = get_or-take 6 (rows ++ replicate 6 no_leg) i no_leg (omega (arith, rows-le)) ∙ get_or-append rows (replicate 6 no_leg) no_leg i h

  padded-all : All FitLeg (padded rows)
  unfolding padded
  padded-all =
      all_take (all_append (all_map (λ a f. f.fit) rows_are.found) (all_replicate no_leg (record { series = omega arith; side = omega arith; ratio = omega arith }) 6)) 6

  row-found : (i : ℕ) → i < size_of (series_set legs count) → Found (get_or (padded rows) i no_leg)
  row-found i h =
      let l : i < length rows = omega (arith, length-is) in
      rw (padded-at i l) (all-within rows_are.found no_leg i l)

  row-rising : (i j : ℕ) → i < j → j < size_of (series_set legs count) → (get_or (padded rows) i no_leg).series < (get_or (padded rows) j no_leg).series
  row-rising i j h m =
      let l : j < length rows = omega (arith, length-is) in
      rw (padded-at i (omega arith), padded-at j l) (sorted-at rows_are.sorted no_leg i j h l)

  row-held : (i : ℕ) → i < size_of (series_set legs count) → has (series_set legs count) (get_or (padded rows) i no_leg).series ≡ true
  unfolding series_set
  row-held i h = let f = row-found i h in set-has (present legs count) 32 _ f.fit.series ∙ f.held

  set_below : series_set legs count < 2 ^ 32
  unfolding series_set
  set_below = set-lt (present legs count) 32

  pub defined-fit : FitStrategy (defined legs count)
  unfolding defined
  defined-fit = record {
    count = omega (arith, size-le, def.six);
    legs = padded-all;
    used = λ i h. (row-found i h).used;
    rising = row-rising;
    held = row-held;
    ones = refl;
    series = set_below;
    starter = omega arith;
    begun = omega arith;
    percentage = omega arith;
  }

  pub defined-two : 2 ≤ (defined legs count).count
  unfolding defined
  defined-two = two-le

  pub defined-starter : (defined legs count).starter ≡ 0
  unfolding defined
  defined-starter = refl

  pub defined-begun : (defined legs count).begun ≡ 0
  unfolding defined
  defined-begun = refl
