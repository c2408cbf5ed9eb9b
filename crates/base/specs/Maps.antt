-- A map over an array, slot by slot.
use Rattle.std.specs.Prelude.{◌≡◌, List, ℕ, zero, suc, ◌+◌, ◌<◌, get_or}
use Rattle.std.specs.Array.{IsMapOf, MapsFrom}
use Rattle.std.proofs.Common.{sym, ◌∙◌, ap, subst, arith, ext_get_or}
use denote.Param.Members.{Mut, Called}
use Rattle.base.specs.Walks.{table, table-slot, length-table}

-- a closure whose calls leave it as it is, and give h of each element
module _ {F A B : Type 0} (g : Mut F (A × Unit {0}) B) (h : A → B) (f : F) (step : (x : A) (y : B) (q : F) → Called g f (x, tt) y q → (y ≡ h x) × (q ≡ f)) (xs : List A) (ys : List B) where
  maps-at : (n i k : ℕ) (d : A) (e : B) → MapsFrom g f xs ys i n → k < n → get_or ys (i + k) e ≡ h (get_or xs (i + k) d)
  maps-at zero i k d e m l = absurd (omega arith)
  maps-at (suc n) i zero d e (q, x, y, a, b, c, m) l =
      let z : i + 0 ≡ i = omega arith in
      rw z (b.1 e ∙ (step x y q c).0 ∙ ap h (sym (a.1 d)))
  maps-at (suc n) i (suc k) d e (q, x, y, a, b, c, m) l =
      let z : i + suc k ≡ i + 1 + k = omega arith in
      let P : F → Type 0 = λ p. MapsFrom g p xs ys (i + 1) n in
      rw z (maps-at n (i + 1) k d e (subst P (step x y q c).1 m) (omega arith))

  pub map-slots : (d : A) (n : ℕ) → IsMapOf g f xs ys n → ys ≡ table (λ (i : ℕ). h (get_or xs i d)) n
  map-slots d n m =
      ext_get_or (h d) ys (table (λ (i : ℕ). h (get_or xs i d)) n) (m.long ∙ sym (length-table (λ (i : ℕ). h (get_or xs i d)) n))
      (λ i l.
      let w : i < n = omega (arith, l, m.long) in
      let z : 0 + i ≡ i = omega arith in
      rw z at (maps-at n 0 i d (h d) m.each w) ∙ sym (table-slot (λ (j : ℕ). h (get_or xs j d)) (h d) n i w))
