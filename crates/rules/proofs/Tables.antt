-- Tables: what holds of all rows, of every two in order and of sums, where the live rows are kept and one more stands behind them.
use mathlib.Core.Path.{◌≡◌, refl, ◌∙◌, ap}
use mathlib.Core.Bool.{Bool, true, false}
use mathlib.Core.Logic.{⊎_elim}
use mathlib.Core.List.Memᴰ
use mathlib.Core.List.{List, [], ◌∷◌, ◌++◌, Memᴰ}
use Prim.Native.Nat.{ℕ, zero, suc, ◌+◌, ◌≤◌, ◌<◌}
use native.Mathlib.Omega.{arith}
use borrow.Author.Tests.{eqb-false}
use lib.Dec.{eqb}
use lib.ListN.{length, get_or, take, replicate, length-append, length-take, get_or-append, get_or-eq_default}
use lib.Seq.{get_or-take, get_or-append_seam}
use Rattle.base.specs.Pick.{pick, pick_all, pick-by}
use Rattle.base.specs.Walks.{sum_n, table, sum-zero, sum_mono, sum_first, clash, lt-or-le, below, join_n}
use Rattle.base.specs.All.{All, all_nil, all_cons, Sorted, sort-nil, sort-cons, all-at, all_append, all_replicate, sorted-append}
use Rattle.rules.specs.Events.{keep, behind}

-- a number that is not 0
pub positive : (n : ℕ) → eqb n 0 ≡ false → 0 < n
positive n e = let z : ¬ (n ≡ 0) = eqb-false n 0 e in omega arith

pub all-within : {A : Type 0} {P : A → Type 0} {l : List A} → All P l → (d : A) (i : ℕ) → i < length l → P (get_or l i d)
all-within all_nil d i h = absurd (omega arith)
all-within (all_cons p a) d zero h = p
all-within (all_cons p a) d (suc i) h = all-within a d i (omega arith)

pub sorted-at : {A : Type 0} {R : A → A → Type 0} {l : List A} → Sorted R l → (d : A) (i j : ℕ) → i < j → j < length l → R (get_or l i d) (get_or l j d)
sorted-at sort-nil d i j h m = absurd (omega arith)
sorted-at (sort-cons p s) d i zero h m = absurd (omega arith)
sorted-at (sort-cons p s) d zero (suc j) h m = all-within p d j (omega arith)
sorted-at (sort-cons p s) d (suc i) (suc j) h m = sorted-at s d i j (omega arith) (omega arith)

pub all_take : {A : Type 0} {P : A → Type 0} {l : List A} → All P l → (n : ℕ) → All P (take n l)
all_take all_nil zero = all_nil
all_take all_nil (suc n) = all_nil
all_take (all_cons p a) zero = all_nil
all_take (all_cons p a) (suc n) = all_cons p (all_take a n)

pub all_of : {A : Type 0} (P : A → Type 0) (d : A) (l : List A) → ((i : ℕ) → P (get_or l i d)) → All P l
all_of P d [] h = all_nil
all_of P d (x ∷ xs) h = all_cons (h 0) (all_of P d xs (λ i. h (suc i)))

pub sorted_of : {A : Type 0} (R : A → A → Type 0) (d : A) (l : List A) → ((i j : ℕ) → i < j → R (get_or l i d) (get_or l j d)) → Sorted R l
sorted_of R d [] h = sort-nil
sorted_of R d (x ∷ xs) h =
    sort-cons (all_of (R x) d xs (λ j. h 0 (suc j) (omega arith))) (sorted_of R d xs (λ i j l. h (suc i) (suc j) (omega arith)))

pub sorted-any : {A : Type 0} {R : A → A → Type 0} (d : A) → ((a : A) → R a d) → {l : List A} → Sorted R l → (i j : ℕ) → i < j → R (get_or l i d) (get_or l j d)
sorted-any d h sort-nil i j l = h d
sorted-any d h (sort-cons p s) i zero l = absurd (omega arith)
sorted-any d h (sort-cons p s) zero (suc j) l = all-at d (h _) p j
sorted-any d h (sort-cons p s) (suc i) (suc j) l = sorted-any d h s i j (omega arith)

pub sorted-take : {A : Type 0} {R : A → A → Type 0} {l : List A} → Sorted R l → (n : ℕ) → Sorted R (take n l)
sorted-take sort-nil zero = sort-nil
sorted-take sort-nil (suc n) = sort-nil
sorted-take (sort-cons p s) zero = sort-nil
sorted-take (sort-cons p s) (suc n) = sort-cons (all_take p n) (sorted-take s n)

-- rows of one kind, where any two of it are in order
pub sorted-replicate : {A : Type 0} {R : A → A → Type 0} (d : A) → R d d → (n : ℕ) → Sorted R (replicate n d)
sorted-replicate d h zero = sort-nil
sorted-replicate d h (suc n) = sort-cons (all_replicate d h n) (sorted-replicate d h n)

-- a live row is one of the table's
pub live-row : {A : Type 0} (quantity : A → ℕ) (none : A) → quantity none ≡ 0 → (l : List A) {n : ℕ} → length l ≡ n → (i : ℕ) → 0 < quantity (get_or l i none) → i < n
live-row quantity none empty l {n} rows i h =
    ⊎_elim (λ m. m)
    (λ m. let z : get_or l i none ≡ none = get_or-eq_default l none {n = i} (omega arith) in absurd (omega (arith, empty, ap quantity z)))
    (lt-or-le i n)

-- the sum of a weight over a list
unfoldable pub tally : {A : Type 0} → (A → ℕ) → List A → ℕ
tally w [] = 0
tally w (x ∷ xs) = w x + tally w xs

-- the sum over the slots is that over the rows
pub sum-tally : {A : Type 0} (w : A → ℕ) (d : A) → w d ≡ 0 → (l : List A) (k : ℕ) → length l ≤ k → sum_n (λ (i : ℕ). w (get_or l i d)) k ≡ tally w l
unfolding tally
sum-tally w d z [] k h = sum-zero _ k (λ i l. z)
sum-tally w d z (x ∷ xs) zero h = absurd (omega arith)
sum-tally w d z (x ∷ xs) (suc k) h = omega (arith, sum_first (λ (i : ℕ). w (get_or (x ∷ xs) i d)) k, sum-tally w d z xs k (omega arith))

pub tally-plus : {A : Type 0} (v w : A → ℕ) (l : List A) → tally (λ (x : A). v x + w x) l ≡ tally v l + tally w l
unfolding tally
tally-plus v w [] = refl
tally-plus v w (x ∷ xs) = omega (arith, tally-plus v w xs)

pub tally-append : {A : Type 0} (w : A → ℕ) (xs ys : List A) → tally w (xs ++ ys) ≡ tally w xs + tally w ys
unfolding tally
tally-append w [] ys = omega arith
tally-append w (x ∷ xs) ys = omega (arith, tally-append w xs ys)

pub tally-join : {A : Type 0} (w : A → ℕ) (f : ℕ → List A) (k : ℕ) → tally w (join_n f k) ≡ sum_n (λ (i : ℕ). tally w (f i)) k
unfolding join_n sum_n tally
tally-join w f zero = refl
tally-join w f (suc k) = rw tally-append (omega (arith, tally-join w f k))

tally-empty : {A : Type 0} (w : A → ℕ) (d : A) → w d ≡ 0 → (n m : ℕ) → tally w (take n (replicate m d)) ≡ 0
unfolding tally
tally-empty w d z zero m = refl
tally-empty w d z (suc n) zero = refl
tally-empty w d z (suc n) (suc m) = omega (arith, tally-empty w d z n m)

tally-row : {A : Type 0} (w : A → ℕ) (d x : A) → w d ≡ 0 → (m : ℕ) (ks : List A) (n : ℕ) → length ks < n → tally w (take n (ks ++ (x ∷ replicate m d))) ≡ tally w ks + w x
unfolding tally
tally-row w d x z m [] zero h = absurd (omega arith)
tally-row w d x z m [] (suc n) h = omega (arith, tally-empty w d z n m)
tally-row w d x z m (y ∷ ys) zero h = absurd (omega arith)
tally-row w d x z m (y ∷ ys) (suc n) h = omega (arith, tally-row w d x z m ys n (omega arith))

-- all rows but the one behind
other_row : {A : Type 0} (P : A → Type 0) (d x : A) → P d → (m : ℕ) {ks : List A} → All P ks → (n j : ℕ) → (j ≡ length ks → ⊥) → P (get_or (take n (ks ++ (x ∷ replicate m d))) j d)
other_row P d x h m all_nil zero j e = h
other_row P d x h m all_nil (suc n) zero e = absurd (e refl)
other_row P d x h m all_nil (suc n) (suc j) e = all-at {P = P} d h (all_take (all_replicate d h m) n) j
other_row P d x h m (all_cons p a) zero j e = h
other_row P d x h m (all_cons p a) (suc n) zero e = p
other_row P d x h m (all_cons p a) (suc n) (suc j) e = other_row P d x h m a n j (λ q. e (ap suc q))

-- members of two lists
pub mem-left : {A : Type 0} {x : A} (xs ys : List A) → Memᴰ x xs → Memᴰ x (xs ++ ys)
mem-left [] ys m = absurd (Memᴰ.not-nil m)
mem-left (y ∷ xs) ys m = ⊎_elim (λ e. Memᴰ.head e) (λ k. Memᴰ.tail (mem-left xs ys k)) (Memᴰ.cases_cons m)

pub mem-right : {A : Type 0} {x : A} (xs ys : List A) → Memᴰ x ys → Memᴰ x (xs ++ ys)
mem-right [] ys m = m
mem-right (y ∷ xs) ys m = Memᴰ.tail (mem-right xs ys m)

-- x stands in a list
pub record Stands {A : Type 0} (d : A) (l : List A) (x : A) : Type 0 where
  pub at : ℕ
  pub slot : at < length l
  pub is : get_or l at d ≡ x

pub stands-more : {A : Type 0} {d : A} {l : List A} {x : A} (y : A) → Stands d l x → Stands d (y ∷ l) x
stands-more y s = record { at = suc s.at; slot = omega (arith, s.slot); is = s.is }

module _ {A : Type 0} (test : A → Bool) (none : A) where
  pub keep_all : {P : A → Type 0} {l : List A} → All P l → All P (keep test l)
  unfolding keep
  keep_all all_nil = all_nil
  keep_all {P} (all_cons {a = a} p x) = pick_all (All P) (test a) (all_cons p (keep_all x)) (keep_all x)

  keep-sorted : {R : A → A → Type 0} {l : List A} → Sorted R l → Sorted R (keep test l)
  unfolding keep
  keep-sorted sort-nil = sort-nil
  keep-sorted {R} (sort-cons {a = a} p s) = pick_all (Sorted R) (test a) (sort-cons (keep_all p) (keep-sorted s)) (keep-sorted s)

  pub keep-tally : (w : A → ℕ) → ((y : A) → test y ≡ false → w y ≡ 0) → (l : List A) → tally w (keep test l) ≡ tally w l
  unfolding keep tally
  keep-tally w z [] = refl
  keep-tally w z (x ∷ xs) =
      pick-by (λ (m : List A). tally w m ≡ w x + tally w xs) (test x)
      (λ e. omega (arith, keep-tally w z xs)) (λ e. omega (arith, keep-tally w z xs, z x e))

  -- as many as a weight of 1 for each says
  pub keep-length : (w : A → ℕ) → ((y : A) → w y ≡ pick (test y) 1 0) → (l : List A) → length (keep test l) ≡ tally w l
  unfolding keep tally pick
  keep-length w h [] = refl
  keep-length w h (x ∷ xs) = go (test x) (h x) (keep-length w h xs)
    where
      go : (t : Bool) → w x ≡ pick t 1 0 → length (keep test xs) ≡ tally w xs → length (pick t (x ∷ keep test xs) (keep test xs)) ≡ w x + tally w xs
      go true e r = omega arith
      go false e r = omega arith

  -- what passes the test is kept
  pub keep-stands : (l : List A) (i : ℕ) → i < length l → test (get_or l i none) ≡ true → Stands none (keep test l) (get_or l i none)
  unfolding keep
  keep-stands [] i h e = absurd (omega arith)
  keep-stands (x ∷ xs) zero h e =
      pick-by (λ (m : List A). Stands none m x) (test x) (λ t. record { at = 0; slot = omega arith; is = refl }) (λ t. absurd (clash e t))
  keep-stands (x ∷ xs) (suc i) h e =
      let s = keep-stands xs i (omega arith) e in
      pick_all (λ (m : List A). Stands none m (get_or xs i none)) (test x) (stands-more x s) s

  module _ (x : A) (l : List A) where
    pub behind-length : length (behind test none x l) ≡ 32
    unfolding behind
    behind-length = simp (length-take, length-append) (omega arith)

    pub behind-all : {P : A → Type 0} → P none → P x → All P l → All P (behind test none x l)
    unfolding behind
    behind-all z p a = all_take (all_append (keep_all a) (all_cons p (all_replicate none z 32))) 32

    pub behind-slot : length (keep test l) < 32 → get_or (behind test none x l) (length (keep test l)) none ≡ x
    unfolding behind
    behind-slot h =
        get_or-take 32 (keep test l ++ (x ∷ replicate 32 none)) (length (keep test l)) none h
        ∙ get_or-append_seam (keep test l) x (replicate 32 none) none

    -- a row that is not the new one
    pub behind-other : (P : A → Type 0) → P none → All P (keep test l) → (j : ℕ) → (j ≡ length (keep test l) → ⊥) → P (get_or (behind test none x l) j none)
    unfolding behind
    behind-other P z a j e = other_row P none x z 32 a 32 j e

    pub behind-sorted : {R : A → A → Type 0} → ((a : A) → R a none) → All (λ (a : A). R a x) (keep test l) → Sorted R l → Sorted R (behind test none x l)
    unfolding behind
    behind-sorted {R} z b s = sorted-take (sorted-append (keep-sorted s) (sort-cons (all_replicate none (z x) 32) (sorted-replicate none (z none) 32)) (ends b)) 32
      where
        ends : {m : List A} → All (λ (a : A). R a x) m → All (λ (a : A). All (R a) (x ∷ replicate 32 none)) m
        ends all_nil = all_nil
        ends (all_cons {a = a} p q) = all_cons (all_cons p (all_replicate none (z a) 32)) (ends q)

    pub behind-tally : (w : A → ℕ) → test none ≡ false → ((y : A) → test y ≡ false → w y ≡ 0) → length (keep test l) < 32 →
        sum_n (λ (i : ℕ). w (get_or (behind test none x l) i none)) 32 ≡ tally w l + w x
    unfolding behind
    behind-tally w t z h =
        sum-tally w none (z none t) (behind test none x l) 32 (omega (arith, behind-length))
        ∙ omega (arith, tally-row w none x (z none t) 32 (keep test l) 32 h, keep-tally w z l)

    -- what was live stands
    pub behind-stands : length (keep test l) < 32 → (i : ℕ) → i < length l → test (get_or l i none) ≡ true → Stands none (behind test none x l) (get_or l i none)
    unfolding behind
    behind-stands h i m e =
        let s = keep-stands l i m e in
        record {
          at = s.at;
          slot = omega (arith, behind-length, s.slot);
          is = get_or-take 32 (keep test l ++ (x ∷ replicate 32 none)) s.at none (omega (arith, s.slot))
              ∙ get_or-append (keep test l) (x ∷ replicate 32 none) none s.at s.slot ∙ s.is;
        }

-- .. where rows have a quantity, and an empty one none: what holds of live rows
module _ {A : Type 0} (test : A → Bool) (none : A) (quantity : A → ℕ) (empty : quantity none ≡ 0) (x : A) (l : List A) where
  abbrev after : ℕ → A
  after i = get_or (behind test none x l) i none

  pub behind-live : (P : A → Type 0) → P x → ((i : ℕ) → 0 < quantity (get_or l i none) → P (get_or l i none)) → (i : ℕ) → 0 < quantity (after i) → P (after i)
  behind-live P p h =
      let Q : A → Type 0 = λ (y : A). 0 < quantity y → P y in
      let z : Q none = λ k. absurd (omega arith) in
      all-at {P = Q} none z (behind-all test none x l {P = Q} z (λ k. p) (all_of Q none l h))

  -- .. of two in order, where it holds of each of the rows and x
  pub behind-ordered : (R : A → A → Type 0) → ((i : ℕ) → 0 < quantity (get_or l i none) → R (get_or l i none) x) →
      ((i j : ℕ) → i < j → 0 < quantity (get_or l i none) → 0 < quantity (get_or l j none) → R (get_or l i none) (get_or l j none)) →
      (i j : ℕ) → i < j → 0 < quantity (after i) → 0 < quantity (after j) → R (after i) (after j)
  behind-ordered R h s =
      let S : A → A → Type 0 = λ (y w : A). 0 < quantity y → 0 < quantity w → R y w in
      let z : (y : A) → S y none = λ y k m. absurd (omega arith) in
      sorted-any {R = S} none z
      (behind-sorted test none x l {R = S} z (keep_all test none (all_of (λ (y : A). S y x) none l (λ i k m. h i k))) (sorted_of S none l s))

-- a table depends on its k values only
pub table_same : {A : Type 0} (f g : ℕ → A) (k : ℕ) → ((i : ℕ) → i < k → f i ≡ g i) → table f k ≡ table g k
unfolding table
table_same f g zero h = refl
table_same f g (suc k) h = rw (table_same f g k (λ i l. h i (omega arith)), h k (omega arith))

-- SUMS
-- no term more, and one term less
pub sum_less : (f g : ℕ → ℕ) (k i : ℕ) → i < k → ((j : ℕ) → f j ≤ g j) → f i < g i → sum_n f k < sum_n g k
unfolding sum_n
sum_less f g zero i h le lt = absurd (omega arith)
sum_less f g (suc k) i h le lt =
    ⊎_elim
    (λ e. let l : f k < g k = rw e at lt in omega (arith, sum_mono f g k (λ j _. le j)))
    (λ l. omega (arith, sum_less f g k i l le lt, le k))
    (below h)

-- where equal sums have terms that are no larger, the terms are equal
pub sum-equal : (f g : ℕ → ℕ) (n i : ℕ) → i < n → ((j : ℕ) → f j ≤ g j) → sum_n f n ≡ sum_n g n → f i ≡ g i
sum-equal f g n i l le e =
    ⊎_elim (λ (h : f i < g i). absurd (omega (arith, sum_less f g n i l le h))) (λ (h : g i ≤ f i). omega (arith, le i)) (lt-or-le (f i) (g i))
