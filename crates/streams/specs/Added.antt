-- Bytes that were read into a block behind those that were there.
use Rattle.std.specs.Prelude.{◌≡◌, refl, List, ◌++◌, ℕ, ◌+◌, ◌-◌, ◌≤◌, length, take}
use Rattle.std.proofs.Common.{sym, ◌∙◌, ap, arith, take-take, take_at, length-take-le}

-- bytes were added in the block from n to m
pub record Added (s t : List ℕ) (n m : ℕ) : Type 0 where
  pub order : n ≤ m
  pub inside : m ≤ length t
  pub kept : take n t ≡ take n s
  pub same : length t ≡ length s

-- laws

pub added_none : (s : List ℕ) (n : ℕ) → n ≤ length s → Added s s n n
added_none s n h = record { order = omega arith; inside = h; kept = refl; same = refl }

pub added_then : {s t u : List ℕ} {n m k : ℕ} → Added s t n m → Added t u m k → Added s u n k
added_then {s} {t} {u} {n} {m} a b =
    record {
      order = omega (arith, a.order, b.order);
      inside = b.inside;
      kept = sym (take-take n m u a.order) ∙ ap (take n) b.kept ∙ take-take n m t a.order ∙ a.kept;
      same = b.same ∙ a.same;
    }

pub added-part : (s ys : List ℕ) (n k : ℕ) {t : List ℕ} → n ≤ length s → k ≤ length s - n → length t ≡ length s → t ≡ take n s ++ ys → Added s t n (n + k)
added-part s ys n k h l e x =
    record {
      order = omega arith;
      inside = omega arith;
      kept = ap (take n) x ∙ take_at (take n s) ys n (length-take-le n s h);
      same = e;
    }
