-- The bytes that were read and not yet taken: those of the block from a place to an end.
use Rattle.std.specs.Prelude.{◌≡◌, refl, List, [], ◌∷◌, ℕ, zero, suc, ◌+◌, ◌-◌, ◌≤◌, length, take, drop}
use Rattle.std.proofs.Common.{sym, ◌∙◌, ap, zero-add, arith, length-drop, take-take, length-take-le, drop-drop}
use Rattle.std.specs.List.{copy_within}
use Rattle.std.proofs.lemmas.List.Edits.{take-paste}
use Rattle.std.proofs.Math.Nat.{sub-zero}
use Rattle.std.proofs.Math.Seq.{take-nil}
use Rattle.streams.specs.declared.Input.{Input}
use Rattle.streams.specs.Added.{Added}

-- how many there are
abbrev pub left : Input → ℕ
left i = i.«end» - i.at

abbrev pub rest_of : Input → List ℕ
rest_of i = take (left i) (drop i.at i.block.now)

-- bytes were added behind those that were there; it is the same block
pub record More (i j : Input) : Type 0 where
  pub grown : left i ≤ left j
  pub kept : take (left i) (rest_of j) ≡ rest_of i
  pub size : length j.block.now ≡ length i.block.now
  pub same : j.block.ghost_name ≡ i.block.ghost_name

-- the first n bytes were taken
pub record Passed (i j : Input) (n : ℕ) : Type 0 where
  pub place : j.at ≡ i.at + n
  pub «end» : j.«end» ≡ i.«end»
  pub block : j.block ≡ i.block

-- laws

pub rest-length : (i : Input) → length (rest_of i) ≡ left i
rest-length i = length-take-le (left i) (drop i.at i.block.now) (omega (arith, length-drop i.at i.block.now, i.order, i.inside))

pub more-none : (i : Input) → More i i
more-none i = record { grown = omega arith; kept = take-take (left i) (left i) (drop i.at i.block.now) (omega arith); size = refl; same = refl }

slid : (i : Input) → take (left i) (copy_within i.block.now i.at i.«end» 0) ≡ take (left i) (drop i.at i.block.now)
slid i =
    let h : left i ≤ length (drop i.at i.block.now) = omega (arith, length-drop i.at i.block.now, i.order, i.inside) in
    ap (λ (n : ℕ). take n (copy_within i.block.now i.at i.«end» 0)) (sym (zero-add (left i)))
    ∙ take-paste i.block.now 0 (drop i.at i.block.now) (left i) (omega arith) h

pub more-slid :
    (i j : Input) {t : List ℕ} → t ≡ copy_within i.block.now i.at i.«end» 0 → length t ≡ length i.block.now → Added t j.block.now (left i) j.«end» →
    j.at ≡ 0 → j.block.ghost_name ≡ i.block.ghost_name → More i j
more-slid i j {t} e l a z g =
    record {
      grown = omega (arith, a.order, z);
      kept =
          rw (z, sub-zero) (take-take (left i) j.«end» j.block.now a.order) ∙ a.kept ∙ ap (take (left i)) e ∙ slid i;
      size = a.same ∙ l;
      same = g;
    }

pub more-then : {i j k : Input} → More i j → More j k → More i k
more-then {i} {j} {k} x y =
    record {
      grown = omega (arith, x.grown, y.grown);
      kept = sym (take-take (left i) (left j) (rest_of k) x.grown) ∙ ap (take (left i)) y.kept ∙ x.kept;
      size = y.size ∙ x.size;
      same = y.same ∙ x.same;
    }

drop-take : (n m : ℕ) (l : List ℕ) → n ≤ m → drop n (take m l) ≡ take (m - n) (drop n l)
drop-take zero m l h = ap (λ (k : ℕ). take k l) (sym (sub-zero m))
drop-take (suc n) zero l h = absurd (omega arith)
drop-take (suc n) (suc m) [] h = sym (take-nil (suc m - suc n))
drop-take (suc n) (suc m) (x ∷ l) h =
    let e : suc m - suc n ≡ m - n = omega arith in
    rw e (drop-take n m l (omega arith))

-- n bytes of the rest are taken
pub rest-after : {i j : Input} {n : ℕ} → Passed i j n → n ≤ left i → rest_of j ≡ drop n (rest_of i)
rest-after {i} {j} {n} p h =
    let e : i.«end» - (i.at + n) ≡ left i - n = omega arith in
    rw (p.place, p.«end», p.block, e) (ap (take (left i - n)) (sym (drop-drop n i.at i.block.now)) ∙ sym (drop-take n (left i) (drop i.at i.block.now) h))
