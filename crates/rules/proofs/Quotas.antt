-- What is given out: exactly what remains where the holders have more, each one's whole size where they have not, and to nobody more than its size.
use mathlib.Core.Path.{◌≡◌, refl, ◌∙◌, ap}
use mathlib.Core.Logic.{⊎_elim}
use mathlib.Core.List.{List}
use Prim.Native.Nat.{ℕ, zero, suc, ◌+◌, ◌*◌, ◌-◌, ◌/◌, ◌≤◌, ◌<◌, min}
use native.Mathlib.Nat.{mul-add, add-mul, mul_comm, div-mul-le_self, lt-div-mul-add, div-lt_iff_lt-mul, le_of_mul-le-mul_right, lt_of_mul-lt-mul_right, mul-lt-mul_of_pos_right}
use native.Mathlib.Omega.{arith}
use borrow.Author.Tests.{eqb-true, le-leb, lt-leb, leb-false}
use lib.Dec.{eqb, leb}
use lib.ListN.{get_or-eq_default}
use Rattle.base.specs.Pick.{pick, pick-by, pick-both, pick_true, pick-false}
use Rattle.base.specs.Walks.{sum_n, slot, table, table-slot, length-table, lt-or-le}
use Rattle.rules.specs.Quotas.{Division, GivesOut, in_turn_at, in_turn, portion, portion_at, one_of, holder_at, shared_at, share}
use Rattle.rules.proofs.Tables.{positive, sum-equal}

-- a table of quotas: its sum, and a bound of each
pub sum-table : (f : ℕ → ℕ) (n k : ℕ) → k ≤ n → sum_n (slot (table f n)) k ≡ sum_n f k
unfolding sum_n
sum-table f n zero h = refl
sum-table f n (suc k) h = rw (sum-table f n k (omega arith), table-slot f 0 n k (omega arith))

pub table-under : (f : ℕ → ℕ) (xs : List ℕ) → ((i : ℕ) → f i ≤ slot xs i) → (i : ℕ) → slot (table f 32) i ≤ slot xs i
table-under f xs h i =
    ⊎_elim
    (λ (l : i < 32). rw (table-slot f 0 32 i l) (h i))
    (λ (l : 32 ≤ i). rw (get_or-eq_default (table f 32) 0 {n = i} (omega (arith, length-table f 32))) (omega arith))
    (lt-or-le i 32)

-- BY NUMBER
pub in_turn-under : (r : ℕ) (xs : List ℕ) (i : ℕ) → slot (in_turn r xs) i ≤ slot xs i
unfolding in_turn in_turn_at
in_turn-under r xs i = table-under (in_turn_at r xs) xs (λ j. omega arith) i

in_turn-first : (r : ℕ) (xs : List ℕ) (k : ℕ) → sum_n (in_turn_at r xs) k ≡ min r (sum_n (slot xs) k)
unfolding sum_n in_turn_at
in_turn-first r xs zero = omega arith
in_turn-first r xs (suc k) = let h = in_turn-first r xs k in omega arith

pub in_turn-sum : (r : ℕ) (xs : List ℕ) → sum_n (slot (in_turn r xs)) 32 ≡ min r (sum_n (slot xs) 32)
unfolding in_turn
in_turn-sum r xs = sum-table (in_turn_at r xs) 32 32 (omega arith) ∙ in_turn-first r xs 32

-- SHARED
-- the portions are within what remains
portions-times : (r t : ℕ) (xs : List ℕ) (k : ℕ) → sum_n (portion_at r t xs) k * t ≤ r * sum_n (slot xs) k
unfolding sum_n portion
portions-times r t xs zero = omega arith
portions-times r t xs (suc k) =
    let h = portions-times r t xs k in
    omega (arith, div-mul-le_self (r * slot xs k) t, add-mul (sum_n (portion_at r t xs) k) (r * slot xs k / t) t, mul-add r (sum_n (slot xs) k) (slot xs k))

pub portions-within : (r : ℕ) (xs : List ℕ) → r < sum_n (slot xs) 32 → sum_n (portion_at r (sum_n (slot xs) 32) xs) 32 ≤ r
portions-within r xs h = le_of_mul-le-mul_right {k = sum_n (slot xs) 32} (portions-times r (sum_n (slot xs) 32) xs 32) (omega arith)

-- a holder's portion falls short by less than one unit
short : (r t x : ℕ) → 0 < t → r * x + pick (eqb x 0) 0 1 ≤ (r * x / t + pick (eqb x 0) 0 1) * t
short r t x p =
    pick-by (λ (u : ℕ). r * x + u ≤ (r * x / t + u) * t) (eqb x 0)
    (λ e. let z : r * x ≡ r * 0 = ap (λ (y : ℕ). r * y) (eqb-true x 0 e) in omega arith)
    (λ e. omega (arith, lt-div-mul-add {a = r * x} p, add-mul (r * x / t) 1 t))

regroup : (a p h u t : ℕ) → (a + p + (h + u)) * t ≡ (a + h) * t + (p + u) * t
regroup a p h u t = let e : a + p + (h + u) ≡ (a + h) + (p + u) = omega arith in ap (λ (y : ℕ). y * t) e ∙ add-mul (a + h) (p + u) t

leftover-times : (r t : ℕ) (xs : List ℕ) → 0 < t → (k : ℕ)
    → r * sum_n (slot xs) k + sum_n (holder_at xs) k ≤ (sum_n (portion_at r t xs) k + sum_n (holder_at xs) k) * t
unfolding sum_n portion holder_at
leftover-times r t xs p zero = omega arith
leftover-times r t xs p (suc k) =
    let h = leftover-times r t xs p k in
    omega (arith, mul-add r (sum_n (slot xs) k) (slot xs k), short r t (slot xs k) p, regroup (sum_n (portion_at r t xs) k) (r * slot xs k / t) (sum_n (holder_at xs) k) (pick (eqb (slot xs k) 0) 0 1) t)

-- where something is held there is a holder
some-holder : (xs : List ℕ) (k : ℕ) → 0 < sum_n (slot xs) k → 0 < sum_n (holder_at xs) k
unfolding sum_n holder_at
some-holder xs zero = λ h. absurd (omega arith)
some-holder xs (suc k) =
    pick-by (λ (u : ℕ). 0 < sum_n (slot xs) k + slot xs k → 0 < sum_n (holder_at xs) k + u) (eqb (slot xs k) 0)
    (λ e h. let l : 0 < sum_n (slot xs) k = omega (arith, eqb-true (slot xs k) 0 e) in omega (arith, some-holder xs k l))
    (λ e h. omega arith)

-- what the portions leave is less than one unit for each holder
pub leftover-few : (r : ℕ) (xs : List ℕ) → r < sum_n (slot xs) 32 → r - sum_n (portion_at r (sum_n (slot xs) 32) xs) 32 < sum_n (holder_at xs) 32
leftover-few r xs h =
    let t : ℕ = sum_n (slot xs) 32 in
    let p : 0 < t = omega arith in
    let some : 0 < sum_n (holder_at xs) 32 = some-holder xs 32 p in
    let few : r < sum_n (portion_at r t xs) 32 + sum_n (holder_at xs) 32 = lt_of_mul-lt-mul_right t (omega (arith, leftover-times r t xs p 32)) in
    omega (arith, some)

-- "one unit each by number until none is left": what the holders before k got of the leftover n
one_more : (n h x : ℕ) → min n h + one_of (n - h) x ≡ min n (h + pick (eqb x 0) 0 1)
unfolding one_of
one_more n h x = pick-both (λ (u v : ℕ). min n h + u ≡ min n (h + v)) (eqb x 0) (omega arith) (omega arith)

shared-first : (r t n : ℕ) (xs : List ℕ) (k : ℕ) → sum_n (shared_at r t n xs) k ≡ sum_n (portion_at r t xs) k + min n (sum_n (holder_at xs) k)
unfolding sum_n shared_at holder_at
shared-first r t n xs zero = omega arith
shared-first r t n xs (suc k) = let h = shared-first r t n xs k in omega (arith, one_more n (sum_n (holder_at xs) k) (slot xs k))

-- a holder's quota: its portion is below its size, and it gets one unit more at most
portion-less : (r t x : ℕ) → r < t → 0 < x → r * x / t < x
portion-less r t x h k = let pos : 0 < t = omega arith in (div-lt_iff_lt-mul {k = t} {x = r * x} {y = x} pos).1 (rw (mul_comm x t) (mul-lt-mul_of_pos_right h k))

shared-under : (r t n x : ℕ) → r < t → r * x / t + one_of n x ≤ x
unfolding one_of
shared-under r t n x h =
    pick-by (λ (u : ℕ). r * x / t + u ≤ x) (eqb x 0)
    (λ e. let z : r * x ≡ r * 0 = ap (λ (y : ℕ). r * y) (eqb-true x 0 e) in
    omega (arith, le_of_mul-le-mul_right {m = r * x / t} {n = 0} {k = t} (omega (arith, div-mul-le_self (r * x) t)) (omega arith)))
    (λ e. let some : 0 < x = positive x e in omega (arith, portion-less r t x h some))

pub share-all : (r : ℕ) (xs : List ℕ) → sum_n (slot xs) 32 ≤ r → share r xs ≡ xs
unfolding share
share-all r xs h = pick_true _ _ _ (le-leb (sum_n (slot xs) 32) r h)

pub share-sum : (r : ℕ) (xs : List ℕ) → r < sum_n (slot xs) 32 → sum_n (slot (share r xs)) 32 ≡ r
unfolding share
share-sum r xs h =
    let t : ℕ = sum_n (slot xs) 32 in
    let n : ℕ = r - sum_n (portion_at r t xs) 32 in
    rw (pick-false _ xs (table (shared_at r t n xs) 32) (lt-leb t r h))
    (sum-table (shared_at r t n xs) 32 32 (omega arith) ∙ shared-first r t n xs 32 ∙ omega (arith, portions-within r xs h, leftover-few r xs h))

pub share-total : (r : ℕ) (xs : List ℕ) → sum_n (slot (share r xs)) 32 ≡ min r (sum_n (slot xs) 32)
share-total r xs =
    ⊎_elim
    (λ (l : r < sum_n (slot xs) 32). share-sum r xs l ∙ omega arith)
    (λ (l : sum_n (slot xs) 32 ≤ r). rw (share-all r xs l) (omega arith))
    (lt-or-le r (sum_n (slot xs) 32))

pub share-under : (r : ℕ) (xs : List ℕ) (i : ℕ) → slot (share r xs) i ≤ slot xs i
unfolding share shared_at portion
share-under r xs i =
    let t : ℕ = sum_n (slot xs) 32 in
    pick-by (λ (qs : List ℕ). slot qs i ≤ slot xs i) (leb t r)
    (λ e. omega arith)
    (λ e. table-under _ xs (λ j. shared-under r t _ (slot xs j) (leb-false t r e)) i)

-- where what remains is enough for all, each gets its size
pub divides-all : {divide : Division} → GivesOut divide → (r : ℕ) (xs : List ℕ) → sum_n (slot xs) 32 ≤ r → (i : ℕ) → i < 32 → slot (divide r xs) i ≡ slot xs i
divides-all {divide} d r xs h i l = sum-equal (slot (divide r xs)) (slot xs) 32 i l (d.under r xs) (d.sum r xs ∙ omega arith)

pub in_turn-divides : GivesOut in_turn
in_turn-divides = record { under = in_turn-under; sum = in_turn-sum }

pub share-divides : GivesOut share
share-divides = record { under = share-under; sum = share-total }
