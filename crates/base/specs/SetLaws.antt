-- Laws of the sets of Sets: what a set has, what it is when one is added or taken, how many it has, which is its lowest.
use Rattle.std.specs.Prelude.{◌≡◌, refl, Bool, true, false, ℕ, zero, suc, ◌+◌, ◌-◌, ◌*◌, ◌/◌, ◌%◌, ◌^◌, ◌≤◌, ◌<◌, min, eqb}
use Rattle.std.proofs.Common.{sym, ◌∙◌, ap, ⊎_elim, one-mul, add-zero, lt_of_le_of_lt, sub-add_cancel, le_trans, mod-lt, mod-eq_of_lt, div-lt_iff_lt-mul, zero-lt-suc, one-add, add-one, arith, eqb-true, eq-eqb, ne_eqb, pow_pos, pow_mono, pow-add, shr-shr}
use Rattle.std.proofs.Math.Nat.{div-eq_of_lt, add-div_right, add-mul-div_right}
use Rattle.std.proofs.lemmas.Bool.{eqb-false}
use Rattle.std.specs.Int.Bits.{bit_and, and_step}
use Rattle.std.proofs.lemmas.Nat.{and_shr, and_le_l, mod-pow-add}
use Rattle.std.specs.Int.Count.{ones, ones_in, count_trailing_zeros, under, ones_step}
use Rattle.base.specs.Pick.{pick, pick_all, pick-by, pick_true, pick-false}
use Rattle.base.specs.Walks.{sum_n, first_n, clash, below, lt-or-le, sum-zero, sum_same, sum-rest, sum_first, first-same, first_step}
use Rattle.base.specs.Sets.{has, bit_at, set_n, lacks, minus, size_of, lowest_of}

-- the digit of x at s
abbrev digit : ℕ → ℕ → ℕ
digit x s = x / 2 ^ s % 2

-- a digit of 1 is a member
has_one : (x s : ℕ) → digit x s ≡ 1 → has x s ≡ true
unfolding has
has_one x s e = eq-eqb _ _ e

-- a digit of 0 is none
has-none : (x s : ℕ) → digit x s ≡ 0 → has x s ≡ false
unfolding has
has-none x s e = ne_eqb _ _ (λ (q : digit x s ≡ 1). omega arith)

-- the digit of a member
one_has : (x s : ℕ) → has x s ≡ true → digit x s ≡ 1
unfolding has
one_has x s e = eqb-true _ _ e

-- the digit of what is no member
none_has : (x s : ℕ) → has x s ≡ false → digit x s ≡ 0
unfolding has
none_has x s e = let p : ¬ (digit x s ≡ 1) = eqb-false _ _ e in omega (arith, mod-lt (x / 2 ^ s) (zero-lt-suc 1))

-- equal digits, equal members
has-digit : (x y s : ℕ) → digit x s ≡ digit y s → has x s ≡ has y s
unfolding has
has-digit x y s e = rw e

-- a member of x counts 1
one-digit : (x s : ℕ) → pick (has x s) 1 0 ≡ digit x s
one-digit x s = pick-by (λ (n : ℕ). n ≡ digit x s) _ (λ e. sym (one_has x s e)) (λ e. sym (none_has x s e))

-- what is past the digits of x is not in it
pub has-small : (x i : ℕ) → x < 2 ^ i → has x i ≡ false
has-small x i h = has-none x i (rw (div-eq_of_lt h))

pub has-past : (x i : ℕ) → x < 2 ^ 32 → 32 ≤ i → has x i ≡ false
has-past x i h l = has-small x i (le_trans h (pow_mono l))

-- a power above i changes nothing at i
pub has-low : (x s i : ℕ) → i < s → has (x + 2 ^ s) i ≡ has x i
has-low x s i h =
    let q : s ≡ suc (s - suc i) + i = omega arith in
    let e : 2 ^ s ≡ 2 ^ suc (s - suc i) * 2 ^ i = ap (λ (n : ℕ). 2 ^ n) q ∙ pow-add 2 (suc (s - suc i)) i in
    has-digit (x + 2 ^ s) x i (rw (e, add-mul-div_right x (2 ^ suc (s - suc i)) (pow_pos i)) (omega arith))

-- a set of numbers below k is below 2 ^ k
pub set-lt : (f : ℕ → Bool) (k : ℕ) → set_n f k < 2 ^ k
unfolding set_n sum_n
set-lt f zero = omega arith
set-lt f (suc k) =
    let h = set-lt f k in
    pick_all (λ (x : ℕ). set_n f k + x < 2 ^ suc k) (f k) (omega arith) (omega arith)

-- the digit at k of a number below 2 ^ k and 2 ^ k more
top : (x k : ℕ) → x < 2 ^ k → has (x + 2 ^ k) k ≡ true
top x k h = has_one (x + 2 ^ k) k (rw (add-div_right x (pow_pos k), div-eq_of_lt h))

-- a set has those for which f holds
pub set-has : (f : ℕ → Bool) (k i : ℕ) → i < k → has (set_n f k) i ≡ f i
unfolding set_n sum_n
set-has f zero i h = absurd (omega arith)
set-has f (suc k) i h =
    let s = set_n f k in
    pick-by (λ (x : ℕ). has (s + x) i ≡ f i) (f k)
    (λ e. ⊎_elim (λ q. rw q (top s k (set-lt f k) ∙ sym e)) (λ l. has-low s k i l ∙ set-has f k i l) (below h))
    (λ e. rw (add-zero s) (⊎_elim (λ q. rw q (has-small s k (set-lt f k) ∙ sym e)) (λ l. set-has f k i l) (below h)))

-- a set of numbers below k has none from k on
pub set_past : (f : ℕ → Bool) (k i : ℕ) → k ≤ i → has (set_n f k) i ≡ false
set_past f k i h = has-small (set_n f k) i (le_trans (set-lt f k) (pow_mono h))

-- a set depends on the tests of its k numbers only
pub set_same : (f g : ℕ → Bool) (k : ℕ) → ((i : ℕ) → i < k → f i ≡ g i) → set_n f k ≡ set_n g k
unfolding set_n
set_same f g k h = sum_same (bit_at f) (bit_at g) k (λ i l. rw (h i l))

-- the low k digits of x are the set of its members below k
pub set-low : (x k : ℕ) → set_n (has x) k ≡ x % 2 ^ k
unfolding set_n sum_n
set-low x zero = omega arith
set-low x (suc k) =
    let e : x % 2 ^ suc k ≡ digit x k * 2 ^ k + x % 2 ^ k = rw one-add at (mod-pow-add x 1 k) in
    let h : x % 2 ^ k ≡ set_n (has x) k = sym (set-low x k) in
    rw (e, h)
    (pick-by (λ (n : ℕ). set_n (has x) k + n ≡ digit x k * 2 ^ k + set_n (has x) k) (has x k)
    (λ g. rw (one_has x k g) (omega arith))
    (λ g. rw (none_has x k g) (omega arith)))

-- every set is that of its members
pub has-set : (x : ℕ) → x < 2 ^ 32 → set_n (has x) 32 ≡ x
has-set x h = set-low x 32 ∙ mod-eq_of_lt h

-- two sets with the same members are one
pub has-ext : (x y : ℕ) → x < 2 ^ 32 → y < 2 ^ 32 → ((i : ℕ) → i < 32 → has x i ≡ has y i) → x ≡ y
has-ext x y h l e = sym (has-set x h) ∙ set_same (has x) (has y) 32 e ∙ has-set y l

-- what stands above a digit of 0 stays where 1 is put there
above : (x s : ℕ) → has x s ≡ false → (x + 2 ^ s) / 2 ^ suc s ≡ x / 2 ^ suc s
above x s e =
    let z = none_has x s e in
    rw (← add-one s, ← shr-shr (x + 2 ^ s) s 1, ← shr-shr x s 1, add-div_right x (pow_pos s)) (omega arith)

-- a member's power is within the set
pub has-le : (x s : ℕ) → has x s ≡ true → 2 ^ s ≤ x
has-le x s e = let p : ¬ (x < 2 ^ s) = λ l. clash e (has-small x s l) in omega arith

-- a power below i changes nothing at i where its digit was 0
pub has-high : (x s i : ℕ) → s < i → has x s ≡ false → has (x + 2 ^ s) i ≡ has x i
has-high x s i h e =
    let q : i ≡ suc s + (i - suc s) = omega arith in
    let d : (n : ℕ) → n / 2 ^ i ≡ n / 2 ^ suc s / 2 ^ (i - suc s) = λ n. ap (λ (m : ℕ). n / 2 ^ m) q ∙ sym (shr-shr n (suc s) (i - suc s)) in
    has-digit (x + 2 ^ s) x i (rw (d (x + 2 ^ s), d x, above x s e))

-- one more member
pub has-add : (x s i : ℕ) → has x s ≡ false → has (x + 2 ^ s) i ≡ pick (eqb i s) true (has x i)
has-add x s i e =
    pick-by (λ (b : Bool). has (x + 2 ^ s) i ≡ b) (eqb i s)
    (λ g. rw (eqb-true i s g) (has_one (x + 2 ^ s) s (rw (add-div_right x (pow_pos s)) (omega (arith, none_has x s e)))))
    (λ g. ⊎_elim (λ l. has-low x s i l) (λ l. has-high x s i (omega (arith, eqb-false i s g)) e) (lt-or-le i s))

-- the digit that is taken is 0 afterwards
gone : (x s : ℕ) → has (x + 2 ^ s) s ≡ true → has x s ≡ false
gone x s e = has-none x s (omega (arith, rw (add-div_right x (pow_pos s)) at (one_has (x + 2 ^ s) s e)))

-- one member less
pub has_sub : (x s i : ℕ) → has x s ≡ true → has (x - 2 ^ s) i ≡ pick (eqb i s) false (has x i)
has_sub x s i e =
    let y = x - 2 ^ s in
    let q : x ≡ y + 2 ^ s = sym (sub-add_cancel (has-le x s e)) in
    let z : has y s ≡ false = gone y s (rw (← q) e) in
    let a : has x i ≡ pick (eqb i s) true (has y i) = ap (λ (n : ℕ). has n i) q ∙ has-add y s i z in
    pick-by (λ (b : Bool). has y i ≡ b) (eqb i s)
    (λ g. rw (eqb-true i s g) z)
    (λ g. sym (a ∙ pick-false (eqb i s) true (has y i) g))

-- one more member below n leaves the set below 2 ^ n
pub add-below : (x s n : ℕ) → s < n → x < 2 ^ n → has x s ≡ false → x + 2 ^ s < 2 ^ n
add-below x s n h l e =
    let q : n ≡ n - suc s + suc s = omega arith in
    let p : 2 ^ n ≡ 2 ^ (n - suc s) * 2 ^ suc s = ap (λ (m : ℕ). 2 ^ m) q ∙ pow-add 2 (n - suc s) (suc s) in
    rw p ((div-lt_iff_lt-mul (pow_pos (suc s))).0 (rw (above x s e) ((div-lt_iff_lt-mul (pow_pos (suc s))).1 (rw p at l))))

-- one more member below 32
pub add-lt : (x s : ℕ) → s < 32 → x < 2 ^ 32 → has x s ≡ false → x + 2 ^ s < 2 ^ 32
add-lt x s h l e = add-below x s 32 h l e

-- what is in x and not in y
pub has-minus : (x y i : ℕ) → i < 32 → has (minus x y) i ≡ lacks x y i
unfolding minus
has-minus x y i h = set-has (lacks x y) 32 i h

-- the difference is a set
pub minus-lt : (x y : ℕ) → minus x y < 2 ^ 32
unfolding minus
minus-lt x y = set-lt (lacks x y) 32

-- nothing is left of what is within y
pub minus-none : (x y : ℕ) → ((i : ℕ) → i < 32 → has x i ≡ true → has y i ≡ true) → minus x y ≡ 0
unfolding minus set_n
minus-none x y h = sum-zero (bit_at (lacks x y)) 32 (λ i l. pick-false _ _ _ (pick-by (λ (b : Bool). b ≡ false) (has x i) (λ e. pick_true _ _ _ (h i l e)) (λ e. refl)))

-- where nothing is left, x is within y
pub minus-zero : (x y : ℕ) → minus x y ≡ 0 → (i : ℕ) → i < 32 → has x i ≡ true → has y i ≡ true
minus-zero x y z i h e = go (has y i) refl
  where
    go : (t : Bool) → has y i ≡ t → has y i ≡ true
    go true g = g
    go false g =
        let none : has (minus x y) i ≡ false = rw z (has-small 0 i (pow_pos i)) in
        let some : has (minus x y) i ≡ true = has-minus x y i h ∙ pick_true _ _ _ e ∙ pick-false _ _ _ g in
        absurd (clash some none)

-- the lowest digit of a conjunction
and-odd : (a b : ℕ) → bit_and a b % 2 ≡ min (a % 2) (b % 2)
and-odd a b = ap (λ (n : ℕ). n % 2) (and_step a b) ∙ omega arith

-- each digit of a conjunction
digit_and : (x y i : ℕ) → digit (bit_and x y) i ≡ min (digit x i) (digit y i)
digit_and x y i = ap (λ (n : ℕ). n % 2) (and_shr x y i) ∙ and-odd (x / 2 ^ i) (y / 2 ^ i)

-- the bits of both: the members of both
pub has-and : (x y i : ℕ) → has (bit_and x y) i ≡ pick (has x i) (has y i) false
has-and x y i =
    let d = digit_and x y i in
    pick-by (λ (b : Bool). has (bit_and x y) i ≡ b) (has x i)
    (λ e. has-digit (bit_and x y) y i (d ∙ omega (arith, one_has x i e)))
    (λ e. has-none (bit_and x y) i (d ∙ omega (arith, none_has x i e)))

-- a number is in f or in the rest
one_of : (t : Bool) (p : ℕ) → pick t p 0 + pick (pick t false true) p 0 ≡ p
unfolding pick
one_of true p = omega arith
one_of false p = omega arith

-- a set and the set of the others below k make 2 ^ k - 1
pub set-others : (f : ℕ → Bool) (k : ℕ) → set_n f k + set_n (λ (i : ℕ). pick (f i) false true) k + 1 ≡ 2 ^ k
unfolding set_n sum_n
set-others f zero = refl
set-others f (suc k) = omega (arith, set-others f k, one_of (f k) (2 ^ k))

-- what the code computes: x and not y
pub minus-and : (x y : ℕ) → x < 2 ^ 32 → y < 2 ^ 32 → bit_and x (4294967295 - y) ≡ minus x y
minus-and x y h l =
    let no : ℕ → Bool = λ (i : ℕ). pick (has y i) false true in
    let z : 4294967295 - y ≡ set_n no 32 = omega (arith, set-others (has y) 32, has-set y l) in
    rw z
    (has-ext (bit_and x (set_n no 32)) (minus x y) (lt_of_le_of_lt (and_le_l x (set_n no 32)) h) (minus-lt x y)
    (λ i m. has-and x (set_n no 32) i ∙ ap (λ (b : Bool). pick (has x i) b false) (set-has no 32 i m) ∙ sym (has-minus x y i m)))

-- the members past the first are those of the half
pub has-suc : (x s : ℕ) → has x (suc s) ≡ has (x / 2) s
unfolding has
has-suc x s = let e : x / 2 / 2 ^ s ≡ x / 2 ^ suc s = rw one-add at (shr-shr x 1 s) in rw e

-- the ones of k digits are the members below k
ones-sum : (k x : ℕ) → ones_in k x ≡ sum_n (λ (s : ℕ). pick (has x s) 1 0) k
unfolding ones_in sum_n
ones-sum zero x = refl
ones-sum (suc k) x =
    let f : ℕ → ℕ = λ (s : ℕ). pick (has x s) 1 0 in
    let g : ℕ → ℕ = λ (s : ℕ). pick (has (x / 2) s) 1 0 in
    omega (arith, sum_first f k, one-digit x 0, ones-sum k (x / 2), sum_same (λ (s : ℕ). f (suc s)) g k (λ i l. rw (has-suc x i)))

-- how many are in a set: one for each member
pub size-sum : (x : ℕ) → size_of x ≡ sum_n (λ (s : ℕ). pick (has x s) 1 0) 32
unfolding size_of
size-sum x = ones-sum 32 x

-- how many are in the set of those for which f holds
pub size-set : (f : ℕ → Bool) (k : ℕ) → k ≤ 32 → size_of (set_n f k) ≡ sum_n (λ (s : ℕ). pick (f s) 1 0) k
size-set f k h =
    let g : ℕ → ℕ = λ (s : ℕ). pick (has (set_n f k) s) 1 0 in
    let q : 32 ≡ 32 - k + k = omega arith in
    size-sum (set_n f k) ∙ ap (sum_n g) q ∙ sum-rest g k (32 - k) (λ i l. pick-false _ _ _ (set_past f k i l))
    ∙ sum_same g (λ (s : ℕ). pick (f s) 1 0) k (λ i l. rw (set-has f k i l))

-- digits enough for x count all its ones
ones-in : (k x : ℕ) → x < 2 ^ k → ones_in k x ≡ ones x
unfolding ones_in ones
ones-in zero x h = let e : x ≡ 0 = omega arith in rw e
ones-in (suc k) x h = rw (ones_step x, ones-in k (x / 2) (omega arith))

-- the size is the number of ones
pub size-ones : (x : ℕ) → x < 2 ^ 32 → size_of x ≡ ones x
unfolding size_of
size-ones x h = ones-in 32 x h

-- the zeros below the lowest one come before the first member
trailing-first : (k x : ℕ) → count_trailing_zeros k x ≡ first_n (has x) k
unfolding count_trailing_zeros first_n
trailing-first zero x = refl
trailing-first (suc k) x =
    let t = trailing-first k (x / 2) ∙ first-same (has (x / 2)) (λ (i : ℕ). has x (suc i)) k (λ i l. sym (has-suc x i)) in
    rw (first_step (has x) k, ← t)
    (pick-by (λ (n : ℕ). under (x % 2) (count_trailing_zeros k (x / 2)) ≡ n) (has x 0)
    (λ g. let e : x % 2 ≡ 1 = omega (arith, one_has x 0 g) in rw e)
    (λ g. let e : x % 2 ≡ 0 = omega (arith, none_has x 0 g) in rw e))

-- the lowest is the first member
pub lowest-first : (x : ℕ) → x < 2 ^ 32 → lowest_of x ≡ first_n (has x) 32
unfolding lowest_of
lowest-first x h = trailing-first 32 x

-- a one shifted by s
pub shifted : (s : ℕ) → s < 32 → 1 * 2 ^ s % 2 ^ 32 ≡ 2 ^ s
shifted s h =
    let p : 2 ^ suc s ≤ 2 ^ 32 = pow_mono (let l : suc s ≤ 32 = omega arith in l) in
    let q : 0 < 2 ^ s = pow_pos s in
    rw one-mul (mod-eq_of_lt (omega arith))
