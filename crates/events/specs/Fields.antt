-- The fields of a frame: how wide each is, the range of its value, and the number that stands in the frame for a value.
use Rattle.std.specs.Prelude.{◌≡◌, ℕ, zero, suc, ◌+◌, ◌-◌, ◌%◌, ◌^◌, ◌<◌, ◌≤◌, Bool, true, false, List, nat_le, nat_lt, slice_index, slice_index_or}
use Rattle.std.proofs.Math.Path.{refl}
use Rattle.std.proofs.Common.{le_refl}
use native.Mathlib.Omega.{arith}
use borrow.Author.Tests.{leb-true, leb-false, ltb-true, ltb-false}
use Rattle.base.specs.Pick.{pick, both, pick_yes}
use Rattle.events.specs.declared.Field.{Field}

-- "widths in bytes in brackets"
abbrev pub width : Field → ℕ
width x = x.0

-- the least value, as in "units (2) 1–9,999"
abbrev pub low : Field → ℕ
low x = x.1

-- and the greatest
abbrev pub high : Field → ℕ
high x = x.2

-- what is added to the number in the frame: 10,000,000 for a limit, whose least value is −9,999,999; else 0
abbrev pub bias : Field → ℕ
bias x = x.3

-- a field that is not there: no bytes, and the value 0
abbrev pub none : Field
none = (0, 0, 0, 0)

-- the number that stands in the frame for a value
unfoldable pub raw_of : Field → ℕ → ℕ
raw_of x v = (v + (2 ^ 32 - bias x)) % 2 ^ 32

-- of a table's fields the first m are there
unfoldable pub present_of : Field → ℕ → ℕ → Field
present_of x m k = pick (nat_lt k m) x none

-- the fields of a frame, by their places
unfoldable pub layout : List Field → ℕ → ℕ → Field
layout fs m k = present_of (slice_index_or fs k none) m k

-- "its whole length (2 bytes), its kind (2 bytes), then the fields": where the field k begins
unfoldable pub offset : (ℕ → Field) → ℕ → ℕ
offset F zero = 4
offset F (suc k) = offset F k + width (F k)

-- "a field outside its range": whether a value is in the range of its field
unfoldable pub holds : Field → ℕ → Bool
holds x v = both (nat_le (low x) v) (nat_le v (high x))

-- whether the first k values are in their ranges
unfoldable pub fit_n : (ℕ → Field) → List ℕ → ℕ → Bool
fit_n F v zero = true
fit_n F v (suc k) = both (holds (F k) (slice_index v k)) (fit_n F v k)

-- no field is wider than four bytes
pub record Narrow (F : ℕ → Field) : Type 0 where
  pub narrow : (k : ℕ) → width (F k) ≤ 4

-- Laws.

module _ (F : ℕ → Field) where
  pub offset-le : (i n : ℕ) → i ≤ n → offset F i ≤ offset F n
  unfolding offset
  offset-le i zero h = let e : i ≡ 0 = omega arith in rw e (le_refl _)
  offset-le i (suc n) h = by (offset-le i n) (nat_le i n) refl
    where
      by : (i ≤ n → offset F i ≤ offset F n) → (t : Bool) → nat_le i n ≡ t → offset F i ≤ offset F (suc n)
      by up true e = omega (arith, up (leb-true i n e))
      by up false e = let z : i ≡ suc n = omega (arith, leb-false i n e) in rw z (le_refl _)

  -- a field ends before the end
  pub offset-room : (i n : ℕ) → i < n → offset F i + width (F i) ≤ offset F n
  unfolding offset
  offset-room i n h = offset-le (suc i) n h

  -- what a fitting row says of each value
  pub fit_at_lem : (v : List ℕ) (n i : ℕ) → i < n → fit_n F v n ≡ true → (low (F i) ≤ slice_index v i) × (slice_index v i ≤ high (F i))
  unfolding fit_n holds
  fit_at_lem v zero i h e = absurd (omega arith)
  fit_at_lem v (suc n) i h e =
      let a = pick_yes (holds (F n) (slice_index v n)) e in
      let b = pick_yes (nat_le (low (F n)) (slice_index v n)) a.0 in
      by (λ l. fit_at_lem v n i l a.1) (leb-true _ _ b.0, leb-true _ _ b.1) (nat_lt i n) refl
    where
      by : (i < n → (low (F i) ≤ slice_index v i) × (slice_index v i ≤ high (F i))) → (low (F n) ≤ slice_index v n) × (slice_index v n ≤ high (F n)) → (t : Bool) → nat_lt i n ≡ t → (low (F i) ≤ slice_index v i) × (slice_index v i ≤ high (F i))
      by below here true t = below (ltb-true i n t)
      by below here false t = let z : i ≡ n = omega (arith, ltb-false i n t) in rw z here
