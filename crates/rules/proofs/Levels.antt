-- Levels and cents: a difference of two numbers, its sums, its multiples and its order.
use mathlib.Core.Path.{◌≡◌, refl, sym, ◌∙◌, ap}
use mathlib.Core.Bool.{Bool, true, false}
use Prim.Native.Nat.{ℕ, zero, suc, ◌+◌, ◌-◌, ◌*◌, ◌≤◌, ◌<◌}
use native.Mathlib.Nat.{mul-add}
use native.Mathlib.Omega.{arith}
use borrow.Author.Tests.{ltb-true, ltb-false, lt-ltb, le-ltb}
use lib.Dec.{ltb, le→leb, lt→ltb}
use lib.IntN.{ℤ, pos, negsuc, neg_ℤ, sub_ℕ, ◌+ℤ◌, ◌-ℤ◌, ◌*ℤ◌}
use lib.Signed.{◌≤ℤ◌, ◌<ℤ◌}
use Rattle.rules.specs.Records.{cents}

-- the difference by which is larger
sub-lt : (a b : ℕ) → a < b → sub_ℕ a b ≡ negsuc (b - suc a)
sub-lt a b h = rw (lt-ltb a b h)

sub-ge : (a b : ℕ) → b ≤ a → sub_ℕ a b ≡ pos (a - b)
sub-ge a b h = rw (le-ltb a b h)

sub_by : (P : ℤ → Type 0) (a b : ℕ) → (a < b → P (negsuc (b - suc a))) → (b ≤ a → P (pos (a - b))) → P (sub_ℕ a b)
sub_by P a b f g = go (ltb a b) refl
  where
    go : (t : Bool) → ltb a b ≡ t → P (sub_ℕ a b)
    go true e = rw (sub-lt a b (ltb-true a b e)) (f (ltb-true a b e))
    go false e = rw (sub-ge a b (ltb-false a b e)) (g (ltb-false a b e))

pub sub_same : (a b c d : ℕ) → a + d ≡ c + b → sub_ℕ a b ≡ sub_ℕ c d
sub_same a b c d e =
    sub_by (λ (z : ℤ). z ≡ sub_ℕ c d) a b
    (λ h. ap negsuc (let q : b - suc a ≡ d - suc c = omega arith in q) ∙ sym (sub-lt c d (omega arith)))
    (λ h. ap pos (let q : a - b ≡ c - d = omega arith in q) ∙ sym (sub-ge c d (omega arith)))

pub sub-pos : (m : ℕ) → pos m ≡ sub_ℕ m 0
sub-pos m = ap pos (let q : m ≡ m - 0 = omega arith in q) ∙ sym (sub-ge m 0 (omega arith))

pub sub-neg : (m : ℕ) → neg_ℤ (pos m) ≡ sub_ℕ 0 m
sub-neg zero = refl
sub-neg (suc m) = ap negsuc (let q : m ≡ suc m - 1 = omega arith in q) ∙ sym (sub-lt 0 (suc m) (omega arith))

pub sub-plus : (a b c d : ℕ) → sub_ℕ a b +ℤ sub_ℕ c d ≡ sub_ℕ (a + c) (b + d)
sub-plus a b c d =
    sub_by (λ (z : ℤ). z +ℤ sub_ℕ c d ≡ sub_ℕ (a + c) (b + d)) a b
    (λ h. sub_by (λ (z : ℤ). negsuc (b - suc a) +ℤ z ≡ sub_ℕ (a + c) (b + d)) c d
    (λ k. ap negsuc (let q : suc (b - suc a + (d - suc c)) ≡ b + d - suc (a + c) = omega arith in q) ∙ sym (sub-lt (a + c) (b + d) (omega arith)))
    (λ k. sub_same (c - d) (suc (b - suc a)) (a + c) (b + d) (omega arith)))
    (λ h. sub_by (λ (z : ℤ). pos (a - b) +ℤ z ≡ sub_ℕ (a + c) (b + d)) c d
    (λ k. sub_same (a - b) (suc (d - suc c)) (a + c) (b + d) (omega arith))
    (λ k. ap pos (let q : a - b + (c - d) ≡ a + c - (b + d) = omega arith in q) ∙ sym (sub-ge (a + c) (b + d) (omega arith))))

pub sub-times : (q a b : ℕ) → pos q *ℤ sub_ℕ a b ≡ sub_ℕ (q * a) (q * b)
sub-times q a b =
    sub_by (λ (z : ℤ). pos q *ℤ z ≡ sub_ℕ (q * a) (q * b)) a b
    (λ h. let e : q * (a + suc (b - suc a)) ≡ q * b = ap (λ (x : ℕ). q * x) (let k : a + suc (b - suc a) ≡ b = omega arith in k) in
    sub-neg (q * suc (b - suc a)) ∙ sub_same 0 (q * suc (b - suc a)) (q * a) (q * b) (omega (arith, e, mul-add q a (suc (b - suc a)))))
    (λ h. let e : q * (b + (a - b)) ≡ q * a = ap (λ (x : ℕ). q * x) (let k : b + (a - b) ≡ a = omega arith in k) in
    sub-pos (q * (a - b)) ∙ sub_same (q * (a - b)) 0 (q * a) (q * b) (omega (arith, e, mul-add q b (a - b))))

pub sub-le : (a c b : ℕ) → a ≤ c → sub_ℕ a b ≤ℤ sub_ℕ c b
sub-le a c b h =
    sub_by (λ (z : ℤ). z ≤ℤ sub_ℕ c b) a b
    (λ k. sub_by (λ (z : ℤ). negsuc (b - suc a) ≤ℤ z) c b
    (λ m. record { le = le→leb (b - suc c) (b - suc a) (omega arith) })
    (λ m. record { le = tt }))
    (λ k. sub_by (λ (z : ℤ). pos (a - b) ≤ℤ z) c b
    (λ m. absurd (omega arith))
    (λ m. record { le = le→leb (a - b) (c - b) (omega arith) }))

pub sub-less : (a c b : ℕ) → a < c → sub_ℕ a b <ℤ sub_ℕ c b
sub-less a c b h =
    sub_by (λ (z : ℤ). z <ℤ sub_ℕ c b) a b
    (λ k. sub_by (λ (z : ℤ). negsuc (b - suc a) <ℤ z) c b
    (λ m. record { lt = lt→ltb (b - suc c) (b - suc a) (omega arith) })
    (λ m. record { lt = tt }))
    (λ k. sub_by (λ (z : ℤ). pos (a - b) <ℤ z) c b
    (λ m. absurd (omega arith))
    (λ m. record { lt = lt→ltb (a - b) (c - b) (omega arith) }))

-- cents are a level less 10,000,000
pub cents-is : (level : ℕ) → cents level ≡ sub_ℕ level 10_000_000
unfolding cents
cents-is level = refl

pub cents-le : (x y : ℕ) → x ≤ y → cents x ≤ℤ cents y
cents-le x y h = rw (cents-is x, cents-is y) (sub-le x y 10_000_000 h)

pub cents-lt : (x y : ℕ) → x < y → cents x <ℤ cents y
cents-lt x y h = rw (cents-is x, cents-is y) (sub-less x y 10_000_000 h)

-- a price's level
pub cents-price : (p : ℕ) → cents (10_000_000 + p) ≡ pos p
cents-price p = cents-is (10_000_000 + p) ∙ sub_same (10_000_000 + p) 10_000_000 p 0 (omega arith) ∙ sym (sub-pos p)

-- a level and so many cents more
pub cents-plus : (x r : ℕ) → cents x +ℤ pos r ≡ cents (x + r)
cents-plus x r =
    ap (λ (z : ℤ). z +ℤ pos r) (cents-is x) ∙ ap (λ (z : ℤ). sub_ℕ x 10_000_000 +ℤ z) (sub-pos r) ∙ sub-plus x 10_000_000 r 0
    ∙ sub_same (x + r) (10_000_000 + 0) (x + r) 10_000_000 (omega arith) ∙ sym (cents-is (x + r))

-- .. or less
pub cents-less : (x r y : ℕ) → x ≤ y + r → (cents x -ℤ pos r) ≤ℤ cents y
cents-less x r y h =
    let left : cents x -ℤ pos r ≡ sub_ℕ x (10_000_000 + r) =
    ap (λ (z : ℤ). z +ℤ neg_ℤ (pos r)) (cents-is x) ∙ ap (λ (z : ℤ). sub_ℕ x 10_000_000 +ℤ z) (sub-neg r) ∙ sub-plus x 10_000_000 0 r
    ∙ sub_same (x + 0) (10_000_000 + r) x (10_000_000 + r) (omega arith) in
    let right : cents y ≡ sub_ℕ (y + r) (10_000_000 + r) = cents-is y ∙ sub_same y 10_000_000 (y + r) (10_000_000 + r) (omega arith) in
    rw (left, right) (sub-le x (y + r) (10_000_000 + r) h)

pub cents-below : (x r y : ℕ) → y + r ≤ x → cents y ≤ℤ (cents x -ℤ pos r)
cents-below x r y h =
    let right : cents x -ℤ pos r ≡ sub_ℕ x (10_000_000 + r) =
    ap (λ (z : ℤ). z +ℤ neg_ℤ (pos r)) (cents-is x) ∙ ap (λ (z : ℤ). sub_ℕ x 10_000_000 +ℤ z) (sub-neg r) ∙ sub-plus x 10_000_000 0 r
    ∙ sub_same (x + 0) (10_000_000 + r) x (10_000_000 + r) (omega arith) in
    let left : cents y ≡ sub_ℕ (y + r) (10_000_000 + r) = cents-is y ∙ sub_same y 10_000_000 (y + r) (10_000_000 + r) (omega arith) in
    rw (left, right) (sub-le (y + r) x (10_000_000 + r) h)
