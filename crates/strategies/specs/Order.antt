-- Legs by rising series, and the series as a set.
use Rattle.std.specs.Prelude.{◌≡◌, refl, Bool, true, false, ℕ, suc, ◌+◌, ◌^◌, ◌≤◌, ◌<◌, min, set, replicate}
use Rattle.std.proofs.Math.Path.{sym, ap}
use Rattle.std.proofs.Common.{◌∙◌, add-one, arith, length-append}
use Rattle.std.proofs.Math.Logic.{⊎_elim}
use mathlib.Core.List.{List, [], ◌∷◌, ◌++◌, append-nil}
use borrow.Author.Tests.{lt-ltb, le-ltb, ltb-true, ltb-false, ne_eqb, eqb-true, eqb-false}
use Rattle.std.specs.Int.Count.{ones}
use Rattle.std.proofs.Math.Dec.{eqb, ltb}
use Rattle.std.proofs.Math.ListN.{length, get_or, get_or-eq_default}
use Rattle.std.proofs.lemmas.List.{take-append-le}
use Rattle.base.specs.Pick.{pick, pick_all, pick-by, pick_true, pick-false}
use Rattle.base.specs.Walks.{table, first_n, join_n, table-slot, length-table, first-same, sum-le, sum-zero, lt-or-le}
use Rattle.base.specs.Sets.{has, bit_at, set_n}
use Rattle.base.specs.SetLaws.{set-lt, set-has, set_same, has-ext, has-add, add-lt, size-set, size-ones}
use Rattle.rules.specs.declared.Leg.{Leg}
use Rattle.rules.specs.State.{no_leg, no_specialist}
use Rattle.rules.specs.Strategies.{divided_at, divisor, series_of, in_series, place_of, present, legs_of, by_series, padded, series_set, lowest_terms, defined}
use Rattle.tables.specs.Padded.{pad-take, pad-set}

-- the set with a series
unfoldable pub add_series : ℕ → ℕ → ℕ
add_series x s = pick (ltb s 32) (pick (has x s) x (x + 2 ^ s)) x

-- SIX ROWS

-- one leg more, where a row is left
padded-more : (xs : List Leg) (l : Leg) → length xs < 6 → set (padded xs) (length xs) l ≡ padded (xs ++ (l ∷ []))
unfolding padded
padded-more xs l h =
    let f : length (xs ++ (l ∷ [])) ≤ 6 = rw length-append (omega arith) in
    rw (pad-take no_leg xs 6 6 (omega arith) (omega arith), pad-take no_leg (xs ++ (l ∷ [])) 6 6 f (omega arith)) (pad-set no_leg 6 xs l h)

-- .. where none is left
padded-full : (xs ys : List Leg) → 6 ≤ length xs → padded (xs ++ ys) ≡ padded xs
unfolding padded
padded-full xs ys h =
    take-append-le 6 (xs ++ ys) (replicate 6 no_leg) (rw length-append (omega arith)) ∙ take-append-le 6 xs ys h
    ∙ sym (take-append-le 6 xs (replicate 6 no_leg) h)

-- THE LEGS BY SERIES

-- the legs of the first s series stand in front of the rows, which are used so far
pub record Ordering (legs : List Leg) (n s : ℕ) (rows : List Leg) (used : ℕ) : Type 0 where
  pub filled : rows ≡ padded (join_n (legs_of legs n) s)
  pub many : used ≡ min 6 (length (join_n (legs_of legs n) s))

pub order_first : (legs : List Leg) (n : ℕ) → Ordering legs n 0 (replicate 6 no_leg) 0
unfolding join_n padded
order_first legs n = record { filled = refl; many = refl }

module _ (legs : List Leg) (n s : ℕ) {rows : List Leg} {used : ℕ} (g : Ordering legs n s rows used) where
  -- a series with a leg, where a row is left
  pub order_put : present legs n s ≡ true → used < 6 → {l : Leg} → l ≡ get_or legs (place_of legs n s) no_leg → Ordering legs n (s + 1) (set rows used l) (used + 1)
  unfolding join_n
  order_put t h {l} e =
      let xs : List Leg = join_n (legs_of legs n) s in
      let f : legs_of legs n s ≡ l ∷ [] = rw e (pick_true _ _ _ t) in
      let u : used ≡ length xs = omega (arith, g.many) in
      rw (add-one s)
      (record {
        filled = rw (f, g.filled, u) (padded-more xs l (omega arith));
        many = rw (f, length-append) (omega arith);
      })

  -- .. where none is
  pub order_full : present legs n s ≡ true → 6 ≤ used → Ordering legs n (s + 1) rows used
  unfolding join_n
  order_full t h =
      let xs : List Leg = join_n (legs_of legs n) s in
      let l : Leg = get_or legs (place_of legs n s) no_leg in
      let f : legs_of legs n s ≡ l ∷ [] = pick_true _ _ _ t in
      rw (add-one s)
      (record {
        filled = rw f (g.filled ∙ sym (padded-full xs (l ∷ []) (omega (arith, g.many))));
        many = rw (f, length-append) (omega (arith, g.many));
      })

  -- a series without
  pub order_pass : present legs n s ≡ false → Ordering legs n (s + 1) rows used
  unfolding join_n
  order_pass t =
      let f : legs_of legs n s ≡ [] = pick-false _ _ _ t in
      rw (add-one s) (record { filled = rw (f, append-nil) g.filled; many = rw (f, append-nil) g.many })

  -- the set says which series have one
  pub order_skip : {x : ℕ} → x ≡ series_set legs n → s < 32 → has x s ≡ false → Ordering legs n (s + 1) rows used
  unfolding series_set
  order_skip e l t = order_pass (sym (set-has (present legs n) 32 s l) ∙ ap (λ (z : ℕ). has z s) (sym e) ∙ t)

pub order_all : (legs : List Leg) (n s : ℕ) {rows : List Leg} {used : ℕ} → s ≡ 32 → Ordering legs n s rows used → rows ≡ padded (by_series legs n)
unfolding by_series
order_all legs n s e g = rw e at g.filled

-- THE SET

-- a series has one of the first i + 1 legs, where it has one of the first i or that at place i
present-more : (legs : List Leg) (i s : ℕ) → present legs (suc i) s ≡ pick (present legs i s) true (eqb (series_of legs i) s)
unfolding place_of first_n pick
present-more legs i s = go (present legs i s) (in_series legs s i) refl refl
  where
    go : (t u : Bool) → present legs i s ≡ t → in_series legs s i ≡ u → present legs (suc i) s ≡ pick (present legs i s) true (in_series legs s i)
    go true u e f = rw e (lt-ltb (place_of legs i s) (suc i) (omega (arith, ltb-true (place_of legs i s) i e)))
    go false true e f = rw (e, f) (lt-ltb i (suc i) (omega arith))
    go false false e f = rw (e, f) (le-ltb (suc i) (suc i) (omega arith))

-- a test that holds wherever another does
keeps : (h u : Bool) → (u ≡ true → h ≡ true) → h ≡ pick h true u
unfolding pick
keeps true u k = refl
keeps false true k = k refl
keeps false false k = refl

-- a test or another
turned : (u v h : Bool) → u ≡ v → pick u true h ≡ pick h true v
unfolding pick
turned true v true e = refl
turned true v false e = e
turned false v true e = refl
turned false v false e = e

eqb-turn : (i j : ℕ) → eqb i j ≡ eqb j i
eqb-turn i j = go (eqb i j) refl
  where
    go : (t : Bool) → eqb i j ≡ t → eqb i j ≡ eqb j i
    go true e = let q : i ≡ j = eqb-true i j e in rw q refl
    go false e = e ∙ sym (ne_eqb j i (λ q. omega (arith, eqb-false i j e)))

add-has : (x t s : ℕ) → s < 32 → has (add_series x t) s ≡ pick (has x s) true (eqb t s)
unfolding add_series
add-has x t s h =
    let P : ℕ → Type 0 = λ (y : ℕ). has y s ≡ pick (has x s) true (eqb t s) in
    pick-by P (ltb t 32)
    (λ a. pick-by P (has x t) (λ b. keeps _ _ (λ e. let q : t ≡ s = eqb-true t s e in rw (← q) b)) (λ b. has-add x t s b ∙ turned _ _ _ (eqb-turn s t)))
    (λ a. keeps _ _ (λ e. absurd (omega (arith, eqb-true t s e, ltb-false t 32 a))))

add-below32 : (x t : ℕ) → x < 2 ^ 32 → add_series x t < 2 ^ 32
unfolding add_series
add-below32 x t h =
    let P : ℕ → Type 0 = λ (y : ℕ). y < 2 ^ 32 in
    pick-by P (ltb t 32) (λ a. pick-by P (has x t) (λ b. h) (λ b. add-lt x t (ltb-true t 32 a) h b)) (λ a. h)

-- the loop over the legs: the series of the first i
pub set_first : (legs : List Leg) → 0 ≡ set_n (present legs 0) 32
unfolding set_n
set_first legs = sym (sum-zero (bit_at (present legs 0)) 32 (λ s h. pick-false _ _ _ (le-ltb (place_of legs 0 s) 0 (omega arith))))

pub set_next : (legs : List Leg) (i : ℕ) {x y : ℕ} → x ≡ set_n (present legs i) 32 → y ≡ add_series x (series_of legs i) → y ≡ set_n (present legs (i + 1)) 32
set_next legs i {x} e g =
    rw (add-one i, g)
    (has-ext (add_series x (series_of legs i)) (set_n (present legs (suc i)) 32) (add-below32 x (series_of legs i) (rw e (set-lt (present legs i) 32))) (set-lt (present legs (suc i)) 32)
    (λ s h. add-has x (series_of legs i) s h
    ∙ ap (λ (t : Bool). pick t true (eqb (series_of legs i) s)) (ap (λ (z : ℕ). has z s) e ∙ set-has (present legs i) 32 s h)
    ∙ sym (present-more legs i s) ∙ sym (set-has (present legs (suc i)) 32 s h)))

-- THE STRATEGY

module _ (legs : List Leg) (n : ℕ) (six : length legs ≡ 6) where
  -- the series in lowest terms are the same
  series-same : (i : ℕ) → series_of (lowest_terms legs n) i ≡ series_of legs i
  unfolding lowest_terms
  series-same i =
      ⊎_elim (λ h. ap (λ (x : Leg). x.series) (table-slot (divided_at legs (divisor legs n)) no_leg 6 i h))
      (λ h. ap (λ (x : Leg). x.series)
      (get_or-eq_default (table (divided_at legs (divisor legs n)) 6) no_leg (omega (arith, length-table (divided_at legs (divisor legs n)) 6)) ∙ sym (get_or-eq_default legs no_leg (omega arith))))
      (lt-or-le i 6)

  set-lowest : series_set (lowest_terms legs n) n ≡ series_set legs n
  unfolding series_set place_of
  set-lowest =
      set_same _ _ 32
      (λ s h. ap (λ (x : ℕ). ltb x n) (first-same _ _ n (λ i l. ap (λ (x : ℕ). eqb x s) (series-same i))))

  -- the set is that of the legs in lowest terms
  pub set-of-lowest : {low : List Leg} {x : ℕ} → low ≡ lowest_terms legs n → x ≡ series_set legs n → x ≡ series_set low n
  set-of-lowest e g = g ∙ sym (ap (λ (ls : List Leg). series_set ls n) e ∙ set-lowest)

-- the strategy by its parts
pub defined-is : (legs : List Leg) (n : ℕ) {low rows : List Leg} {x : ℕ} → low ≡ lowest_terms legs n → x ≡ series_set legs n → rows ≡ padded (by_series low n)
    → record { legs = rows; count = ones x; series = x; starter = 0; begun = 0; answered = false; specialist = no_specialist } ≡ defined legs n
unfolding defined series_set
defined-is legs n e h g = rw (g, e, h, size-ones (set_n (present legs n) 32) (set-lt (present legs n) 32))

-- a set has at most 32 series
pub ones-few : (legs : List Leg) (n : ℕ) {x : ℕ} → x ≡ series_set legs n → ones x ≤ 32
unfolding series_set
ones-few legs n e =
    rw (e, ← size-ones (set_n (present legs n) 32) (set-lt (present legs n) 32))
    (omega (
      arith,
      size-set (present legs n) 32 (omega arith),
      sum-le (λ (s : ℕ). pick (present legs n s) 1 0) 1 (λ s. pick_all (λ (y : ℕ). y ≤ 1) (present legs n s) (omega arith) (omega arith)) 32,
    ))

-- the rules by what the code tests

-- a series past the 32, one that the set has, and a new one
module _ (x s : ℕ) where
  pub add-past : 32 ≤ s → x ≡ add_series x s
  unfolding add_series
  add-past h = sym (pick-false _ _ _ (le-ltb _ _ h))

  pub add-held : s < 32 → has x s ≡ true → x ≡ add_series x s
  unfolding add_series
  add-held h t = sym (pick_true _ _ _ (lt-ltb _ _ h) ∙ pick_true _ _ _ t)

  pub add-new : s < 32 → has x s ≡ false → {y : ℕ} → y ≡ 2 ^ s → x + y ≡ add_series x s
  unfolding add_series
  add-new h t e = rw e (sym (pick_true _ _ _ (lt-ltb _ _ h) ∙ pick-false _ _ _ t))

  pub add-fits : x < 2 ^ 32 → s < 32 → has x s ≡ false → {y : ℕ} → y ≡ 2 ^ s → x + y < 2 ^ 32
  add-fits f h t e = rw e (add-lt x s h f t)
