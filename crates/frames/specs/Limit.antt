-- The four bytes of a limit are the signed 32-bit number of its cents, little-endian.
use Rattle.std.specs.Prelude.{◌≡◌, ℕ, suc, ◌+◌, ◌-◌, ◌%◌, ◌^◌, ◌≤◌, Bool, true, false, cond, List, [], pos, negsuc, nat_lt, refl}
use Rattle.std.proofs.Common.{append-nil, arith, ltb-true, ltb-false, to_z}
use Rattle.std.specs.Int.{w32}
use Rattle.std.proofs.Math.Facts.{to_z_pos, to_z-neg}
use Rattle.events.specs.Fields.{raw_of}
use Rattle.events.specs.Table.{limit}
use Rattle.events.specs.Limit.{limit_of}
use Rattle.frames.specs.Number.{number, bytes, Bytes, number-bytes, number_lt}
use Rattle.frames.specs.Bodies.{value_at, value_bytes}

-- the number in the frame of a level is, as a signed one, its limit
signed : (l : ℕ) → l ≤ 19999999 → to_z w32 (raw_of limit l) ≡ limit_of l
unfolding limit_of raw_of
signed l h = by (nat_lt l 10000000) refl
  where
    by : (t : Bool) → nat_lt l 10000000 ≡ t → to_z w32 (raw_of limit l) ≡ cond t (negsuc (10000000 - suc l)) (pos (l - 10000000))
    by true e =
        let z : raw_of limit l ≡ 2 ^ 32 - suc (10000000 - suc l) = omega (arith, ltb-true l 10000000 e) in
        rw z (to_z-neg w32 (10000000 - suc l) (omega arith))
    by false e =
        let z : raw_of limit l ≡ l - 10000000 = omega (arith, ltb-false l 10000000 e) in
        rw z (to_z_pos w32 (omega arith))

-- "limit (4, signed)": what is written for a level
pub limit-raw : (l : ℕ) → l ≤ 19999999 → to_z w32 (number 4 (value_bytes limit l) 0) ≡ limit_of l
unfolding value_bytes raw_of
limit-raw l h =
    let n : number 4 (bytes 4 (raw_of limit l)) 0 ≡ raw_of limit l = rw append-nil at (number-bytes 4 (raw_of limit l) [] [] 0 refl (omega arith)) in
    rw n (signed l h)

-- "limit (4, signed)": the level that is read
pub limit-value : (f : List ℕ) → Bytes f → (a : ℕ) → value_at limit f a ≤ 19999999 → to_z w32 (number 4 f a) ≡ limit_of (value_at limit f a)
unfolding value_at raw_of
limit-value f b a h =
    let z : raw_of limit ((number 4 f a + 10000000) % 2 ^ 32) ≡ number 4 f a = omega (arith, number_lt f b 4 a) in
    rw z at (signed ((number 4 f a + 10000000) % 2 ^ 32) h)
