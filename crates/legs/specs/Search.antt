-- The best opposite leg order, by what the code tests.
use Rattle.std.specs.Prelude.{◌≡◌, refl, Bool, true, false, ℕ, zero, suc, ◌+◌, ◌≤◌, ◌<◌, eqb, nat_lt, cond, Option, option_map}
use Rattle.std.proofs.Common.{sym, ◌∙◌, ap, add-one, arith, None, Some, ltb-true, ltb-false, lt-ltb, eq-eqb, ne_eqb}
use Rattle.std.proofs.lemmas.Bool.{eqb-false}
use Rattle.base.specs.Pick.{pick, both, pick_all, pick-by, pick_true, pick-false}
use Rattle.base.specs.Walks.{walk, walk_first, walk-next}
use Rattle.base.specs.Chains.{found}
use Rattle.rules.specs.declared.LegOrder.{LegOrder}
use Rattle.rules.specs.declared.State.{State}
use Rattle.rules.specs.State.{order_at}
use Rattle.rules.specs.Sides.{better}
use Rattle.rules.specs.Events.{meets_order, ahead_order, best_order_step, best_order}

-- whether p is strictly better than the best order so far, if there is one
abbrev pub better_than : LegOrder → LegOrder → Option LegOrder → Bool
better_than o p None = true
better_than o p (Some q) = better o.side p.price q.price

-- whether p comes before it
unfoldable pub ahead_of : LegOrder → LegOrder → Option LegOrder → Bool
ahead_of o p best = both (meets_order o p) (better_than o p best)

-- .. of which the slot (32: none) and the price are given
unfoldable pub ahead_at : LegOrder → LegOrder → ℕ → ℕ → Bool
ahead_at o p best price = pick (meets_order o p) (pick (eqb best 32) true (better o.side p.price price)) false

-- laws

module _ (o p : LegOrder) (best price : ℕ) where
  pub ahead-not : meets_order o p ≡ false → false ≡ ahead_at o p best price
  unfolding ahead_at
  ahead-not e = sym (pick-false _ _ _ e)

  pub ahead-first : meets_order o p ≡ true → best ≡ 32 → true ≡ ahead_at o p best price
  unfolding ahead_at
  ahead-first e h = sym (pick_true _ _ _ e ∙ pick_true _ _ _ (eq-eqb _ _ h))

  pub ahead-better : meets_order o p ≡ true → ¬ (best ≡ 32) → {t : Bool} → t ≡ better o.side p.price price → t ≡ ahead_at o p best price
  unfolding ahead_at
  ahead-better e h g = g ∙ sym (pick_true _ _ _ e ∙ pick-false _ _ _ (ne_eqb _ _ h))

-- a slot, or 32
pub best-order-le : (b : State) (o : LegOrder) (k : ℕ) → k ≤ 32 → walk (best_order_step b o) 32 k ≤ 32
unfolding walk
best-order-le b o zero h = omega arith
best-order-le b o (suc k) h = pick_all (λ (x : ℕ). x ≤ 32) _ (omega arith) (best-order-le b o k (omega arith))

pub best-order-most : (b : State) (o : LegOrder) → best_order b o ≤ 32
unfolding best_order
best-order-most b o = best-order-le b o 32 (omega arith)

-- the slot of the best of the first i orders, if there is one
abbrev pub leading : State → LegOrder → ℕ → Option ℕ
leading b o i = found 32 (walk (best_order_step b o) 32 i)

pub leading-first : (b : State) (o : LegOrder) → None ≡ leading b o 0
unfolding walk
leading-first b o = refl

-- .. which is a row of the table
pub found-row : (m : ℕ) {k : ℕ} → Some k ≡ found 32 m → k < 32
found-row m = by (nat_lt m 32) refl
  where
    by : (t : Bool) → nat_lt m 32 ≡ t → {k : ℕ} → Some k ≡ cond t (Some m) None → k < 32
    by true e {k} h = let z : k ≡ m = cc in omega (arith, z, ltb-true m 32 e)
    by false e h = cc

module _ (b : State) (o : LegOrder) (i : ℕ) (h : i < 32) where
  abbrev p : LegOrder
  p = order_at b i

  abbrev best : ℕ
  best = walk (best_order_step b o) 32 i

  most : best ≤ 32
  most = best-order-le b o i (omega arith)

  same-ahead : ahead_of o p (option_map (order_at b) (found 32 best)) ≡ ahead_order b o i best
  unfolding ahead_of ahead_order
  same-ahead = ap (λ (t : Bool). both (meets_order o p) t) (by (nat_lt best 32) refl)
    where
      by : (t : Bool) → nat_lt best 32 ≡ t → better_than o p (option_map (order_at b) (cond t (Some best) None)) ≡ pick (eqb best 32) true (better o.side p.price (order_at b best).price)
      by true e = let l : best < 32 = ltb-true best 32 e in sym (pick-false _ _ _ (ne_eqb best 32 (λ z. absurd (omega arith))))
      by false e = let l : 32 ≤ best = ltb-false best 32 e in let z : best ≡ 32 = omega (arith, most) in sym (pick_true _ _ _ (eq-eqb best 32 z))

  pub leading-here : {so_far : Option ℕ} → so_far ≡ leading b o i → ahead_of o p (option_map (order_at b) so_far) ≡ true → Some i ≡ leading b o (i + 1)
  unfolding walk
  leading-here g e =
      let a : ahead_order b o i best ≡ true = sym same-ahead ∙ (rw g at e) in
      rw (add-one, pick_true (ahead_order b o i best) i best a, lt-ltb i 32 h) refl

  pub leading-past : {so_far : Option ℕ} → so_far ≡ leading b o i → ahead_of o p (option_map (order_at b) so_far) ≡ false → so_far ≡ leading b o (i + 1)
  unfolding walk
  leading-past g e =
      let a : ahead_order b o i best ≡ false = sym same-ahead ∙ (rw g at e) in
      g ∙ rw (add-one, pick-false (ahead_order b o i best) i best a) refl

-- the slot of the best of the first i orders, and its price where there is one
pub record Leading (b : State) (o : LegOrder) (i best price : ℕ) : Type 0 where
  pub slot : best ≡ walk (best_order_step b o) 32 i
  pub paid : ¬ (best ≡ 32) → price ≡ (order_at b best).price

pub slot-first : (b : State) (o : LegOrder) → Leading b o 0 32 0
slot-first b o = record { slot = walk_first _ _; paid = λ z. absurd (z refl) }

-- .. at any slot
module _ (b : State) (o : LegOrder) (i : ℕ) {best price : ℕ} (g : Leading b o i best price) where
  same-slot : ahead_at o (order_at b i) best price ≡ ahead_order b o i best
  unfolding ahead_at ahead_order
  same-slot = ap (λ (t : Bool). pick (meets_order o (order_at b i)) t false) (
      pick-by (λ (t : Bool). t ≡ pick (eqb best 32) true (better o.side (order_at b i).price (order_at b best).price)) (eqb best 32)
      (λ e. sym (pick_true _ _ _ e))
      (λ e. rw (g.paid (eqb-false best 32 e)) (sym (pick-false _ _ _ e))))

  pub slot-here : ahead_at o (order_at b i) best price ≡ true → Leading b o (i + 1) i (order_at b i).price
  slot-here e = record {
    slot = walk-next (best_order_step b o) 32 i g.slot (sym (pick_true _ _ _ (sym same-slot ∙ e)));
    paid = λ z. refl;
  }

  pub slot-past : ahead_at o (order_at b i) best price ≡ false → Leading b o (i + 1) best price
  slot-past e = record {
    slot = walk-next (best_order_step b o) 32 i g.slot (sym (pick-false _ _ _ (sym same-slot ∙ e)));
    paid = g.paid;
  }
