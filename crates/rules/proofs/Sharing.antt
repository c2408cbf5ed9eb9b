-- "The second or third group, when larger than what remains, is shared: remaining × size / group total, rounded down, then one unit each by number until
-- none is left."
use mathlib.Core.Path.{◌≡◌, ◌∙◌, ap}
use mathlib.Core.Logic.{⊎_elim}
use mathlib.Core.List.{List}
use Prim.Native.Nat.{ℕ, ◌+◌, ◌-◌, ◌*◌, ◌/◌, ◌≤◌, ◌<◌}
use native.Mathlib.Nat.{mul_comm, add-mul, mul_right_comm, mul-le-mul_right, one-mul, mul-lt-mul_of_pos_right, div-mul-le_self, lt-div-mul-add, lt_of_mul-lt-mul_right}
use native.Mathlib.Omega.{arith}
use borrow.Author.Tests.{lt-leb}
use lib.Dec.{eqb}
use Rattle.base.specs.Pick.{pick_all, pick-both, pick-false}
use Rattle.base.specs.Walks.{sum_n, slot, table, table-slot, sum-rise, lt-or-le}
use Rattle.rules.specs.Quotas.{portion, portion_at, one_of, holder_at, shared_at, share}
use Rattle.rules.proofs.Quotas.{share-all}

-- the portion of one is below the other's by size
portion-fair : (r t x y : ℕ) → 0 < t → 0 < x → r * x / t * y < (r * y / t + 1) * x
portion-fair r t x y p some =
    let f : ℕ = r * x / t in
    let g : ℕ = r * y / t in
    let a : f * t ≤ r * x = div-mul-le_self (r * x) t in
    let b : r * y < g * t + t = lt-div-mul-add {a = r * y} p in
    let c : f * y * t ≤ r * x * y = rw (mul_right_comm f y t) (mul-le-mul_right y a) in
    let e : (g + 1) * t ≡ g * t + t = add-mul g 1 t ∙ ap (λ (n : ℕ). g * t + n) (one-mul t) in
    let h : r * y * x < (g + 1) * t * x = mul-lt-mul_of_pos_right {m = r * y} {n = (g + 1) * t} {k = x} (omega arith) some in
    let d : r * x * y < (g + 1) * x * t = rw (mul_right_comm r x y, mul_right_comm (g + 1) x t) h in
    lt_of_mul-lt-mul_right t {m = f * y} {n = (g + 1) * x} (omega arith)

-- one unit at most, and none more to a later holder
one-most : (n x : ℕ) → one_of n x ≤ 1
unfolding one_of
one-most n x = pick_all (λ (m : ℕ). m ≤ 1) (eqb x 0) (omega arith) (omega arith)

one_less : (m n x : ℕ) → m ≤ n → one_of m x ≤ one_of n x
unfolding one_of
one_less m n x l = pick-both (λ (u v : ℕ). u ≤ v) (eqb x 0) (omega arith) (omega arith)

module _ (r : ℕ) (xs : List ℕ) where
  abbrev total : ℕ
  total = sum_n (slot xs) 32

  abbrev over : ℕ
  over = r - sum_n (portion_at r total xs) 32

  shared-slot : r < total → (i : ℕ) → i < 32 → slot (share r xs) i ≡ r * slot xs i / total + one_of (over - sum_n (holder_at xs) i) (slot xs i)
  unfolding share shared_at portion
  shared-slot l i h = rw (pick-false _ xs (table (shared_at r total over xs) 32) (lt-leb total r l)) (table-slot (shared_at r total over xs) 0 32 i h)

  -- by size
  pub share-fair : (i j : ℕ) → i < 32 → j < 32 → 0 < slot xs i → 0 < slot xs j → slot (share r xs) i * slot xs j < slot (share r xs) j * slot xs i + slot xs i + slot xs j
  share-fair i j hi hj pi pj =
      let x : ℕ = slot xs i in
      let y : ℕ = slot xs j in
      ⊎_elim
      (λ (l : r < total).
      let f : ℕ = r * x / total in
      let g : ℕ = r * y / total in
      let u : ℕ = one_of (over - sum_n (holder_at xs) i) x in
      let w : ℕ = one_of (over - sum_n (holder_at xs) j) y in
      let near : f * y < (g + 1) * x = portion-fair r total x y (omega arith) pi in
      let a : (g + 1) * x ≡ g * x + x = add-mul g 1 x ∙ ap (λ (n : ℕ). g * x + n) (one-mul x) in
      let b : (f + u) * y ≤ (f + 1) * y = mul-le-mul_right y (omega (arith, one-most (over - sum_n (holder_at xs) i) x)) in
      let c : (f + 1) * y ≡ f * y + y = add-mul f 1 y ∙ ap (λ (n : ℕ). f * y + n) (one-mul y) in
      let d : g * x ≤ (g + w) * x = mul-le-mul_right x (omega arith) in
      rw (shared-slot l i hi, shared-slot l j hj) (omega arith))
      (λ (l : total ≤ r). rw (share-all r xs l) (omega (arith, mul_comm x y)))
      (lt-or-le r total)

  -- then by number
  pub share-earlier : (i j : ℕ) → i < j → j < 32 → slot xs i ≡ slot xs j → slot (share r xs) j ≤ slot (share r xs) i
  share-earlier i j h hj e =
      ⊎_elim
      (λ (l : r < total).
      let q : j ≡ j - i + i = omega arith in
      let rise : sum_n (holder_at xs) i ≤ sum_n (holder_at xs) j = rw q (sum-rise (holder_at xs) i (j - i)) in
      let less = one_less (over - sum_n (holder_at xs) j) (over - sum_n (holder_at xs) i) (slot xs j) (omega arith) in
      rw (shared-slot l i (omega arith), shared-slot l j hj, e) (omega arith))
      (λ (l : total ≤ r). rw (share-all r xs l) (omega arith))
      (lt-or-le r total)
