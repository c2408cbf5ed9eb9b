-- The rules of a specialist, case by case: quotas of which one slot was stored, the greater of two, the slot of a sweep.
use Rattle.std.specs.Prelude.{◌≡◌, refl, List, ℕ, ◌-◌, ◌*◌, ◌/◌, ◌≤◌, ◌<◌, min, eqb, length, set, Option, position}
use Rattle.std.proofs.Common.{sym, ◌∙◌, ap, None, mul-le-mul, length-set, ext_get_or, get_or-set_same, get_or-set_other}
use native.Mathlib.Omega.{arith}
use borrow.Author.Tests.{eqb-true, eqb-false, eq-eqb, ne_eqb, lt-ltb}
use Rattle.base.specs.Pick.{pick_all, pick-by, pick_true, pick-false}
use Rattle.base.specs.Walks.{sum_n, slot, table, first_n, table-slot, length-table}
use Rattle.base.specs.Chains.{found, position-slots}
use Rattle.rules.specs.declared.Specialist.{Specialist}
use Rattle.rules.specs.declared.Strategy.{Strategy}
use Rattle.rules.specs.declared.Entry.{Entry}
use Rattle.rules.specs.declared.State.{State}
use Rattle.rules.specs.State.{no_entry, strategy_at, with_strategies}
use Rattle.rules.specs.Specialists.{with_specialist, on_specialist}
use Rattle.rules.specs.Quotas.{portion, share, specialist_portion, rest_at, rest_of, beside_at, beside, share_beside}
use Rattle.rules.specs.Passes.{is_sweep_of, sweep_at, specialist_slot}
use Rattle.rules.proofs.Portions.{beside-enough, beside_none}
use Rattle.ranges.specs.Most.{AtMost, table-most}

-- a store at slot k
module _ (xs : List ℕ) (n : length xs ≡ 32) (k : ℕ) (low : k < 32) where
  set-table : (q : ℕ) (f : ℕ → ℕ) → f k ≡ q → ((i : ℕ) → (i ≡ k → ⊥) → f i ≡ slot xs i) → set xs k q ≡ table f 32
  set-table q f own others =
      ext_get_or 0 (set xs k q) (table f 32) (length-set xs k q ∙ n ∙ sym (length-table f 32))
      (λ i l.
      let m : i < 32 = omega (arith, l, length-set xs k q, n) in
      pick-by (λ (z : ℕ). slot (set xs k q) i ≡ slot (table f 32) i) (eqb i k) {a = 0} {b = 0}
      (λ e. let z : i ≡ k = eqb-true i k e in rw z (get_or-set_same xs k q 0 (omega (arith, n)) ∙ sym own ∙ sym (table-slot f 0 32 k low)))
      (λ e. let z : i ≡ k → ⊥ = eqb-false i k e in get_or-set_other xs k i q 0 z ∙ sym (others i z) ∙ sym (table-slot f 0 32 i m)))

  pub rest-is : set xs k 0 ≡ rest_of k xs
  unfolding rest_at
  rest-is = set-table 0 (rest_at k xs) (pick_true _ _ _ (eq-eqb k k refl)) (λ i m. pick-false _ _ _ (ne_eqb i k m))

-- the rest is within the bound of all
pub rest-most : (k : ℕ) (xs : List ℕ) → AtMost 9999 xs → AtMost 9999 (rest_of k xs)
unfolding rest_at
rest-most k xs a = table-most (rest_at k xs) 9999 (λ i. pick_all (λ (n : ℕ). n ≤ 9999) (eqb i k) (omega arith) (a.at i)) 32

-- the quota of slot k beside those of the rest
pub beside-is : (k q r : ℕ) (xs : List ℕ) {ys qs : List ℕ} → k < 32 → ys ≡ rest_of k xs → qs ≡ share (r - q) ys → length qs ≡ 32 → set qs k q ≡ beside k q r xs
unfolding beside beside_at
beside-is k q r xs {ys} {qs} low e f n =
    set-table qs n k low q (beside_at k q qs) (pick_true _ _ _ (eq-eqb k k refl)) (λ i m. pick-false _ _ _ (ne_eqb i k m)) ∙ rw (f, e)

-- the product of a percentage fits
pub percentage-fits : (p r : ℕ) → p ≤ 65_535 → r ≤ 9999 → p * r ≤ 655_284_465
percentage-fits p r a b = mul-le-mul a b

-- the greater of the two
pub by-percentage : (p r t x : ℕ) {a q : ℕ} → a ≡ portion r t x → a < p * r / 100 → q ≡ min x (p * r / 100) → q ≡ specialist_portion p r t x
unfolding specialist_portion
by-percentage p r t x e l h = omega (arith, e, h)

pub by-share : (p r t x : ℕ) {a q : ℕ} → a ≡ portion r t x → p * r / 100 ≤ a → q ≡ min x a → q ≡ specialist_portion p r t x
unfolding specialist_portion
by-share p r t x e l h = omega (arith, e, h)

-- the division, by its cases
pub shares-none : (k p r : ℕ) (xs : List ℕ) {qs : List ℕ} → 32 ≤ k → qs ≡ share r xs → qs ≡ share_beside k p r xs
shares-none k p r xs l e = e ∙ sym (beside_none k p r xs l)

module _ (k p r : ℕ) (xs : List ℕ) {t : ℕ} (is : t ≡ sum_n (slot xs) 32) where
  pub shares-enough : {qs : List ℕ} → t ≤ r → qs ≡ share r xs → qs ≡ share_beside k p r xs
  shares-enough l e = e ∙ sym (beside-enough k p r xs (omega arith))

  pub shares-beside : {x q : ℕ} {qs : List ℕ} → r < t → k < 32 → x ≡ specialist_portion p r t (slot xs k) → q ≡ min r x → qs ≡ beside k q r xs → qs ≡ share_beside k p r xs
  unfolding share_beside
  shares-beside {x} {q} l low e f g =
      let h : r < sum_n (slot xs) 32 = omega arith in
      let same : beside k q r xs ≡ beside k (min r (specialist_portion p r (sum_n (slot xs) 32) (slot xs k))) r xs = rw (f, e, is) in
      g ∙ same ∙ sym (pick_true _ _ _ (pick_true _ _ _ (lt-ltb _ _ h) ∙ lt-ltb _ _ low))

-- the slot, where a specialist is named and where none is
pub slot-named : (member : ℕ) (es : List Entry) (e : Entry) (level : ℕ) {k : Option ℕ} → (member ≡ 0 → ⊥) → length es ≡ 32 → k ≡ position (is_sweep_of member e level) es → k ≡ found 32 (specialist_slot member es e level)
unfolding specialist_slot
slot-named member es e level n l h =
    h ∙ position-slots no_entry (is_sweep_of member e level) es ∙ rw l (ap (found 32) (sym (pick-false _ _ _ (ne_eqb member 0 n))))

pub slot-none : (member : ℕ) (es : List Entry) (e : Entry) (level : ℕ) → member ≡ 0 → None ≡ found 32 (specialist_slot member es e level)
unfolding specialist_slot
slot-none member es e level n = ap (found 32) (sym (pick_true _ _ _ (eq-eqb member 0 n)))

-- .. as the slot itself, in a list of any length
pub named-slot : (member : ℕ) (es : List Entry) (e : Entry) (level : ℕ) {k : ℕ} → (member ≡ 0 → ⊥) → k ≡ first_n (sweep_at member es e level) 32 → k ≡ specialist_slot member es e level
unfolding specialist_slot
named-slot member es e level n h = h ∙ sym (pick-false _ _ _ (ne_eqb member 0 n))

pub no-slot : (member : ℕ) (es : List Entry) (e : Entry) (level : ℕ) → member ≡ 0 → 32 ≡ specialist_slot member es e level
unfolding specialist_slot
no-slot member es e level n = sym (pick_true _ _ _ (eq-eqb member 0 n))

-- a strategy stored with its specialist
pub named-is : (b : State) (k : ℕ) (p : Specialist) {s : Strategy} → s ≡ with_specialist (strategy_at b k) p → with_strategies b (set b.strategies k s) b.defined ≡ on_specialist k p b
unfolding on_specialist
named-is b k p e = rw e
