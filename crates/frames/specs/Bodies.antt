-- The fields of a frame, one after the other from its fifth byte, and the row of their values.
use Rattle.std.specs.Prelude.{◌≡◌, ℕ, zero, suc, ◌+◌, ◌%◌, ◌^◌, ◌<◌, ◌≤◌, Bool, true, false, List, [], ◌++◌, length, replicate, nat_lt, slice_index, slice_set}
use Rattle.std.proofs.Math.Path.{refl}
use Rattle.std.proofs.Common.{◌∙◌, arith, get_or-set_same}
use mathlib.Core.List.{append_assoc}
use borrow.Author.Tests.{ltb-true, ltb-false}
use Rattle.std.proofs.Math.ListN.{length-set, length-append}
use Rattle.std.proofs.lemmas.List.Edits.{sets}
use Rattle.std.proofs.Math.Seq.{get_or-set_other}
use Rattle.events.specs.Fields.{width, bias, raw_of, offset}
use Rattle.frames.specs.Number.{number, bytes, length-bytes, sets-append, number-bytes}
use Rattle.events.specs.declared.Field.{Field}

-- the value of a field whose bytes begin at the place a
unfoldable pub value_at : Field → List ℕ → ℕ → ℕ
value_at x f a = (number (width x) f a + bias x) % 2 ^ 32

-- the bytes of a value
unfoldable pub value_bytes : Field → ℕ → List ℕ
value_bytes x v = bytes (width x) (raw_of x v)

-- "then the fields": the values of the first k fields, in a row of 19
unfoldable pub row_n : (ℕ → Field) → List ℕ → ℕ → List ℕ
row_n F f zero = replicate 19 0
row_n F f (suc k) = slice_set (row_n F f k) k (value_at (F k) f (offset F k))

-- "then the fields": the bytes of the first k values
unfoldable pub body_n : (ℕ → Field) → List ℕ → ℕ → List ℕ
body_n F v zero = []
body_n F v (suc k) = body_n F v k ++ value_bytes (F k) (slice_index v k)

-- Laws.

module _ (F : ℕ → Field) where
  pub length-row : (f : List ℕ) (k : ℕ) → length (row_n F f k) ≡ 19
  unfolding row_n
  length-row f zero = refl
  length-row f (suc k) = simp length-set (length-row f k)

  pub offset-body : (v : List ℕ) (k : ℕ) → offset F k ≡ 4 + length (body_n F v k)
  unfolding offset body_n value_bytes
  offset-body v zero = refl
  offset-body v (suc k) = simp (length-append, length-bytes) (omega (arith, offset-body v k))

  -- one more value is written
  pub body-next : (v sp : List ℕ) (k : ℕ) →
      sets (sets sp 4 (body_n F v k)) (offset F k) (value_bytes (F k) (slice_index v k)) ≡ sets sp 4 (body_n F v (suc k))
  unfolding body_n
  body-next v sp k = rw (offset-body v k) (sets-append sp 4 (body_n F v k) _)

  -- a row holds the values that were read
  pub row-at : (f : List ℕ) (n i : ℕ) → n ≤ 19 → i < n → slice_index (row_n F f n) i ≡ value_at (F i) f (offset F i)
  unfolding row_n
  row-at f zero i s h = absurd (omega arith)
  row-at f (suc n) i s h = by (row-at f n i (omega arith)) (nat_lt i n) refl
    where
      by : (i < n → slice_index (row_n F f n) i ≡ value_at (F i) f (offset F i)) → (t : Bool) → nat_lt i n ≡ t → slice_index (slice_set (row_n F f n) n (value_at (F n) f (offset F n))) i ≡ value_at (F i) f (offset F i)
      by below true t =
          let l : i < n = ltb-true i n t in
          get_or-set_other (row_n F f n) n i _ 0 (λ e. omega arith) ∙ below l
      by below false t =
          let z : i ≡ n = omega (arith, ltb-false i n t) in
          rw z (get_or-set_same (row_n F f n) n _ 0 (omega (arith, length-row f n)))

  -- a number that was written after a head of four bytes is read
  pub body_at : (h v q : List ℕ) (n i : ℕ) → length h ≡ 4 → i < n → raw_of (F i) (slice_index v i) < 256 ^ width (F i) →
      number (width (F i)) (h ++ body_n F v n ++ q) (offset F i) ≡ raw_of (F i) (slice_index v i)
  unfolding body_n value_bytes
  body_at h v q zero i l b r = absurd (omega arith)
  body_at h v q (suc n) i l b r = by (λ s. body_at h v (bytes (width (F n)) (raw_of (F n) (slice_index v n)) ++ q) n i l s r) (nat_lt i n) refl
    where
      by : (i < n → number (width (F i)) (h ++ body_n F v n ++ (bytes (width (F n)) (raw_of (F n) (slice_index v n)) ++ q)) (offset F i) ≡ raw_of (F i) (slice_index v i)) →
          (t : Bool) → nat_lt i n ≡ t →
          number (width (F i)) (h ++ (body_n F v n ++ bytes (width (F n)) (raw_of (F n) (slice_index v n))) ++ q) (offset F i) ≡ raw_of (F i) (slice_index v i)
      by below true t =
          let z : h ++ (body_n F v n ++ bytes (width (F n)) (raw_of (F n) (slice_index v n))) ++ q ≡ h ++ body_n F v n ++ (bytes (width (F n)) (raw_of (F n) (slice_index v n)) ++ q) = simp append_assoc in
          rw z (below (ltb-true i n t))
      by below false t =
          let z : h ++ (body_n F v n ++ bytes (width (F n)) (raw_of (F n) (slice_index v n))) ++ q ≡ h ++ body_n F v n ++ bytes (width (F n)) (raw_of (F n) (slice_index v n)) ++ q = simp append_assoc in
          let s : i ≡ n = omega (arith, ltb-false i n t) in
          let r' : raw_of (F n) (slice_index v n) < 256 ^ width (F n) = rw s at r in
          rw (z, s) (number-bytes (width (F n)) _ (h ++ body_n F v n) q (offset F n) (simp length-append (omega (arith, offset-body v n))) r')
