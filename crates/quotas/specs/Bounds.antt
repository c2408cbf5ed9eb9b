-- Bounds of sizes and quotas.
use Rattle.std.specs.Prelude.{◌≡◌, List, ℕ, ◌*◌, ◌≤◌, ◌<◌, min, get_or, length, sum}
use Rattle.std.proofs.Math.Nat.{div-le_of_le-mul}
use Rattle.std.proofs.Common.{mul-le-mul, mul-le-mul_right, arith}
use Rattle.base.specs.Pick.{pick_all}
use Rattle.base.specs.All.{All}
use Rattle.base.specs.Walks.{sum_n, slot, sum-le}
use Rattle.rules.specs.declared.Entry.{Entry}
use Rattle.rules.specs.State.{no_entry}
use Rattle.rules.specs.Quotas.{portion, portion_at, one_of}
use Rattle.rules.specs.Passes.{holding, size_at, sizes}
use Rattle.rules.specs.Valid.{FitEntry}
use Rattle.ranges.specs.Most.{AtMost, table-most}
use Rattle.ranges.specs.Fit.{fit-entry}
use Rattle.quotas.specs.Laws.{sum-slots}

pub portion-fits : (r x : ℕ) → r ≤ 9999 → x ≤ 9999 → r * x ≤ 99_980_001
portion-fits r x a b = mul-le-mul a b

pub portion-le : (r t x : ℕ) → r ≤ t → portion r t x ≤ x
unfolding portion
portion-le r t x h = div-le_of_le-mul t (mul-le-mul_right x h)

pub portions-le : (r t : ℕ) (xs : List ℕ) → r ≤ t → AtMost 9999 xs → (k : ℕ) → sum_n (portion_at r t xs) k ≤ k * 9999
portions-le r t xs h a k =
    sum-le (portion_at r t xs) 9999 (λ i. let p : portion r t (slot xs i) ≤ slot xs i = portion-le r t (slot xs i) h in omega (arith, a.at i)) k

pub one-le : (n x : ℕ) → one_of n x ≤ min n 1
unfolding one_of
one-le n x = pick_all (λ (y : ℕ). y ≤ min n 1) _ (omega arith) (omega arith)

holding-most : (e : Entry) (level g : ℕ) (f : Entry) → FitEntry f → holding e level g f ≤ 9999
unfolding holding
holding-most e level g f h =
    let P : ℕ → Type 0 = λ (x : ℕ). x ≤ 9999 in
    pick_all P _ (pick_all P _ (pick_all P _ h.units (omega arith)) (omega arith)) (omega arith)

-- what fit entries hold
pub sizes-most : (es : List Entry) (e : Entry) (level g : ℕ) → All FitEntry es → AtMost 9999 (sizes es e level g)
unfolding sizes
sizes-most es e level g a = table-most (size_at es e level g) 9999 (λ i. holding-most e level g (get_or es i no_entry) (fit-entry a i)) 32

-- the sum of a list of 32 within the bound
pub sum-fits : (xs : List ℕ) → length xs ≡ 32 → AtMost 9999 xs → sum xs < 4_294_967_296
sum-fits xs n a = rw (sum-slots xs n) (omega (arith, sum-le (slot xs) 9999 a.at 32))
