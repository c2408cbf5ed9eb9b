-- The greatest common divisor by Euclid's step.
use Rattle.std.specs.Prelude.{◌≡◌, refl, ℕ, zero, suc, ◌+◌, ◌-◌, ◌*◌, ◌/◌, ◌%◌, ◌≤◌, ◌<◌, eqb}
use Rattle.std.proofs.Common.{sym, ◌∙◌, ap, ap₂, zero-lt-suc, mod-lt, one-mul, zero-mul, add-mul, mul_assoc, mul_comm, div-add-mod', arith}
use Rattle.std.proofs.Math.Nat.{mul-sub, mod-eq-sub-div-mul}
use Rattle.std.proofs.Math.Dec.{eqb-suc-zero}
use Rattle.base.specs.Pick.{pick, pick-false}

-- at most n steps: the second number falls at each
unfoldable pub euclid : ℕ → ℕ → ℕ → ℕ
euclid zero a b = a
euclid (suc n) a b = pick (eqb b 0) a (euclid n b (a % b))

-- a second number b falls to 0 in b steps or fewer
unfoldable pub gcd : ℕ → ℕ → ℕ
gcd a b = euclid (suc b) a b

-- n is so many times d
pub record Divides (d n : ℕ) : Type 0 where
  pub times : ℕ
  pub is : times * d ≡ n

-- laws

-- steps more than enough change nothing
pub euclid-enough : (n m a b : ℕ) → b < n → b < m → euclid n a b ≡ euclid m a b
unfolding euclid pick
euclid-enough zero m a b h l = absurd (omega arith)
euclid-enough (suc n) zero a b h l = absurd (omega arith)
euclid-enough (suc n) (suc m) a zero h l = refl
euclid-enough (suc n) (suc m) a (suc b) h l =
    let r = mod-lt a (zero-lt-suc b) in
    ap (pick (eqb (suc b) 0) a) (euclid-enough n m (suc b) (a % suc b) (omega arith) (omega arith))

-- Euclid's step
pub gcd-step : (a b : ℕ) → gcd a b ≡ pick (eqb b 0) a (gcd b (a % b))
unfolding gcd euclid pick
gcd-step a zero = refl
gcd-step a (suc b) =
    ap (pick (eqb (suc b) 0) a) (euclid-enough (suc b) (suc (a % suc b)) (suc b) (a % suc b) (mod-lt a (zero-lt-suc b)) (omega arith))

-- a step that is made
euclid-next : (n a b : ℕ) → euclid (suc n) a (suc b) ≡ euclid n (suc b) (a % suc b)
unfolding euclid
euclid-next n a b = pick-false _ _ _ (eqb-suc-zero b)

-- every number divides itself
pub divides-self : (d : ℕ) → Divides d d
divides-self d = record { times = 1; is = one-mul d }

-- every number divides 0
pub divides-zero : (d : ℕ) → Divides d 0
divides-zero d = record { times = 0; is = zero-mul d }

-- a divisor of two numbers divides a multiple of one and the other
pub divides-sum : {d m n : ℕ} (q : ℕ) → Divides d m → Divides d n → Divides d (q * m + n)
divides-sum {d} {m} {n} q u v = record {
  times = q * u.times + v.times;
  is = add-mul (q * u.times) v.times d ∙ ap₂ (λ (x y : ℕ). x + y) (mul_assoc q u.times d ∙ ap (λ (x : ℕ). q * x) u.is) v.is;
}

-- a divisor of two numbers divides the remainder
pub divides-mod : {d m n : ℕ} → Divides d m → Divides d n → Divides d (m % n)
divides-mod {d} {m} {n} u v = record {
  times = u.times - m / n * v.times;
  is = mul_comm (u.times - m / n * v.times) d ∙ mul-sub d u.times (m / n * v.times)
      ∙ ap₂ (λ (x y : ℕ). x - y) (mul_comm d u.times ∙ u.is) (mul_comm d (m / n * v.times) ∙ mul_assoc (m / n) v.times d ∙ ap (λ (x : ℕ). m / n * x) v.is)
      ∙ sym (mod-eq-sub-div-mul m n);
}

-- a divisor of a number that is not 0 is not above it
pub divides-le : {d n : ℕ} → Divides d n → 0 < n → d ≤ n
divides-le {d} {n} u h = go u.times u.is
  where
    go : (t : ℕ) → t * d ≡ n → d ≤ n
    go zero e = absurd (omega arith)
    go (suc t) e = omega arith

-- a divisor of a number that is not 0 is not 0
pub divides-pos : {d n : ℕ} → Divides d n → 0 < n → 0 < d
divides-pos {d} {n} u h = go d u.is
  where
    go : (c : ℕ) → u.times * c ≡ n → 0 < c
    go zero e = absurd (omega arith)
    go (suc c) e = omega arith

-- with steps enough the result divides both
euclid-divides : (n a b : ℕ) → b < n → Divides (euclid n a b) a × Divides (euclid n a b) b
unfolding euclid pick
euclid-divides zero a b h = absurd (omega arith)
euclid-divides (suc n) a zero h = (divides-self a, divides-zero a)
euclid-divides (suc n) a (suc b) h =
    let r = mod-lt a (zero-lt-suc b) in
    let s = euclid-divides n (suc b) (a % suc b) (omega arith) in
    rw (euclid-next n a b) ((rw (div-add-mod' a (suc b)) at (divides-sum (a / suc b) s.0 s.1)), s.0)

-- and every common divisor divides it
euclid-most : (n d a b : ℕ) → b < n → Divides d a → Divides d b → Divides d (euclid n a b)
unfolding euclid pick
euclid-most zero d a b h u v = absurd (omega arith)
euclid-most (suc n) d a zero h u v = u
euclid-most (suc n) d a (suc b) h u v =
    let r = mod-lt a (zero-lt-suc b) in
    rw (euclid-next n a b) (euclid-most n d (suc b) (a % suc b) (omega arith) v (divides-mod u v))

-- the greatest common divisor divides the first
pub gcd-left : (a b : ℕ) → Divides (gcd a b) a
unfolding gcd
gcd-left a b = (euclid-divides (suc b) a b (omega arith)).0

-- and the second
pub gcd-right : (a b : ℕ) → Divides (gcd a b) b
unfolding gcd
gcd-right a b = (euclid-divides (suc b) a b (omega arith)).1

-- every common divisor divides it
pub gcd-most : (d a b : ℕ) → Divides d a → Divides d b → Divides d (gcd a b)
unfolding gcd
gcd-most d a b u v = euclid-most (suc b) d a b (omega arith) u v
