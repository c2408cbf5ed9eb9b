-- Numbers of some bytes.
use Rattle.std.specs.Prelude.{◌≡◌, ℕ, zero, suc, ◌+◌, ◌-◌, ◌*◌, ◌/◌, ◌%◌, ◌^◌, ◌<◌, ◌≤◌, List, [], ◌∷◌, ◌++◌, length, take, drop, slice_index, slice_index_or, slice_set, refl}
use Rattle.std.proofs.Common.{ap, ◌∙◌, append_assoc, lt_of_lt_of_le, add-zero, add-suc, suc-add, arith, add-one, length-append, drop-cons}
use Rattle.std.proofs.Math.Nat.{pow-succ', pow-le-pow_right, sub-zero}
use Rattle.std.proofs.lemmas.List.Edits.{sets}
use Rattle.std.proofs.lemmas.List.{get_or_at}
use Rattle.std.proofs.Math.Seq.{append_snoc}

-- "little-endian": the number of w bytes at the place a of f
unfoldable pub number : ℕ → List ℕ → ℕ → ℕ
number zero f a = 0
number (suc w) f a = slice_index f a + 256 * number w f (a + 1)

-- "little-endian": the w lowest bytes of n
unfoldable pub bytes : ℕ → ℕ → List ℕ
bytes zero n = []
bytes (suc w) n = n % 256 ∷ bytes w (n / 256)

-- the elements of a list of bytes
pub record Bytes (f : List ℕ) : Type 0 where
  pub small : (i : ℕ) → slice_index f i < 256

-- a loop from the highest byte down: i of w bytes are read, one more, all
pub number-next :
    (f : List ℕ) (a w i : ℕ) {v byte : ℕ} →
    i < w → v ≡ number i f (a + (w - i)) → byte ≡ slice_index f (a + (w - 1 - i)) → v * 256 + byte ≡ number (i + 1) f (a + (w - (i + 1)))
unfolding number
number-next f a w i h p q =
    let e : w - suc i ≡ w - 1 - i = omega arith in
    let s : a + (w - 1 - i) + 1 ≡ a + (w - i) = omega arith in
    rw (p, q, add-one i, e, s) (omega arith)

pub number-all : (f : List ℕ) (a w i : ℕ) {v : ℕ} → i ≤ w → w ≤ i → v ≡ number i f (a + (w - i)) → v ≡ number w f a
number-all f a w i h l p =
    let e : i ≡ w = omega arith in
    let z : a + (w - w) ≡ a = omega arith in
    p ∙ rw (e, z)

pub number_lt : (f : List ℕ) → Bytes f → (w a : ℕ) → number w f a < 256 ^ w
unfolding number
number_lt f b zero a = omega arith
number_lt f b (suc w) a = rw (pow-succ') (omega (arith, number_lt f b w (a + 1), b.small a))

pub number-le : (f : List ℕ) → Bytes f → (w k a : ℕ) → w ≤ k → number w f a < 256 ^ k
number-le f b w k a h = lt_of_lt_of_le (number_lt f b w a) (pow-le-pow_right (omega arith) h)

-- a loop from the lowest byte up
pub put-start : (sp : List ℕ) (a w v : ℕ) → sets sp (a + 0) (bytes (w - 0) v) ≡ sets sp a (bytes w v)
put-start sp a w v = rw (add-zero, sub-zero)

pub put_step :
    (sp : List ℕ) (a w i v : ℕ) →
    i < w → sets (slice_set sp (a + i) (v % 256)) (a + (i + 1)) (bytes (w - (i + 1)) (v / 256)) ≡ sets sp (a + i) (bytes (w - i) v)
unfolding bytes
put_step sp a w i v h =
    let e : w - i ≡ suc (w - (i + 1)) = omega arith in
    let s : a + (i + 1) ≡ suc (a + i) = omega arith in
    rw (e, s)

pub put-end : (sp : List ℕ) (a w i v : ℕ) → w ≤ i → sets sp (a + i) (bytes (w - i) v) ≡ sp
unfolding bytes
put-end sp a w i v h = let e : w - i ≡ 0 = omega arith in rw e

pub length-bytes : (w n : ℕ) → length (bytes w n) ≡ w
unfolding bytes
length-bytes zero n = refl
length-bytes (suc w) n = ap suc (length-bytes w (n / 256))

-- two runs of stores, one after the other
pub sets-append : (l : List ℕ) (a : ℕ) (us vs : List ℕ) → sets (sets l a us) (a + length us) vs ≡ sets l a (us ++ vs)
sets-append l a [] vs = rw add-zero
sets-append l a (u ∷ us) vs = rw (add-suc, ← suc-add) (sets-append (slice_set l a u) (suc a) us vs)

-- the number that was written is read
pub number-bytes : (w n : ℕ) (p q : List ℕ) (a : ℕ) → length p ≡ a → n < 256 ^ w → number w (p ++ bytes w n ++ q) a ≡ n
unfolding number bytes
number-bytes zero n p q a e h = omega arith
number-bytes (suc w) n p q a e h =
    let x : ℕ = n % 256 in
    let t : n < 256 * 256 ^ w = rw pow-succ' at h in
    let g : slice_index_or (p ++ (n % 256 ∷ bytes w (n / 256)) ++ q) a 0 ≡ n % 256 = rw append_assoc (get_or_at p (n % 256) (bytes w (n / 256) ++ q) 0 a e) in
    let i : number w (p ++ (n % 256 ∷ []) ++ bytes w (n / 256) ++ q) (a + 1) ≡ n / 256 =
    number-bytes w (n / 256) (p ++ (n % 256 ∷ [])) q (a + 1) (simp length-append (omega arith)) (omega arith) in
    let j : number w (p ++ (n % 256 ∷ bytes w (n / 256)) ++ q) (a + 1) ≡ n / 256 = rw append_snoc at i in
    omega (arith, g, j)

-- the bytes that were read are written
pub bytes-number : (f : List ℕ) → Bytes f → (w a : ℕ) → a + w ≤ length f → bytes w (number w f a) ≡ take w (drop a f)
unfolding number bytes
bytes-number f b zero a h = refl
bytes-number f b (suc w) a h =
    let l : a < length f = omega arith in
    let e : (slice_index f a + 256 * number w f (a + 1)) % 256 ≡ slice_index_or f a 0 = omega (arith, b.small a) in
    let d : (slice_index f a + 256 * number w f (a + 1)) / 256 ≡ number w f (a + 1) = omega (arith, b.small a) in
    let i : bytes w (number w f (a + 1)) ≡ take w (drop (a + 1) f) = bytes-number f b w (a + 1) (omega arith) in
    rw (e, d, i, add-one, drop-cons f a 0)
