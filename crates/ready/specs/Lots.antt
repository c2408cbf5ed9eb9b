-- The table of the walk over the leg orders, the best of every side of every series, and its laws.
use Rattle.std.specs.Prelude.{◌≡◌, Bool, true, false, List, eqb, length, get_or, set, replicate}
use Rattle.std.proofs.Math.Path.{refl, sym, ap, fun_ext}
use Rattle.std.proofs.Common.{◌∙◌, arith, length-set, get_or-set_same, get_or-set_other}
use Prim.Native.Nat.{ℕ, ◌+◌, ◌/◌, ◌%◌, ◌≤◌, ◌<◌}
use borrow.Author.Tests.{eqb-true, eqb-false, eq-eqb, ne_eqb, lt-leb, le-leb}
use Rattle.std.proofs.Math.Seq.{ext_get_or}
use Rattle.base.specs.Pick.{pick-by, pick_true, pick-false, pick_all}
use Rattle.base.specs.All.{All}
use Rattle.base.specs.Walks.{slot, table, walk, length-table, table-slot}
use Rattle.rules.specs.declared.Leg.{Leg}
use Rattle.rules.specs.declared.LegOrder.{LegOrder}
use Rattle.rules.specs.declared.Best.{Best}
use Rattle.rules.specs.State.{no_order}
use Rattle.rules.specs.Sides.{other, leg_side, better}
use Rattle.rules.specs.Nets.{stands, no_best, starts_afresh, best_with, best_after}
use Rattle.rules.specs.Valid.{FitOrder, Priced}
use Rattle.nets.specs.Bests.{with-afresh, with-equal, with-worse, with_none, best-next, best-last, best-fits}
use Rattle.ready.specs.Ready.{place_of, best_table, lot_table, ready_leg}

-- the best at a place after k slots
abbrev best_at : List LegOrder → ℕ → ℕ → Best
best_at os k x = best_after os (x / 2) (x % 2) k

-- the best at every place after k slots
unfoldable pub bests_after : List LegOrder → ℕ → List Best
bests_after os k = table (best_at os k) 64

-- laws

-- ONE ORDER

live-stands : (o : LegOrder) → 0 < o.contracts → stands o.series o.side o ≡ true
unfolding stands
live-stands o h =
    let n : ¬ (o.contracts ≡ 0) = λ e. omega arith in
    pick-false _ _ _ (ne_eqb _ _ n) ∙ pick_true _ _ _ (eq-eqb o.series o.series refl) ∙ eq-eqb o.side o.side refl

none-stands : (s side : ℕ) (o : LegOrder) → o.contracts ≡ 0 → stands s side o ≡ false
unfolding stands
none-stands s side o e = pick_true _ _ _ (eq-eqb _ _ e)

module _ (b : Best) (o : LegOrder) (live : 0 < o.contracts) where
  pub by_first : b.price ≡ 0 → record { price = o.price; contracts = o.contracts } ≡ best_with o.series o.side b o
  unfolding starts_afresh
  by_first e = with-afresh _ _ b o (live-stands o live) (pick_true _ _ _ (eq-eqb _ _ e))

  pub by-better : better o.side b.price o.price ≡ true → record { price = o.price; contracts = o.contracts } ≡ best_with o.series o.side b o
  unfolding starts_afresh
  by-better e = with-afresh _ _ b o (live-stands o live) (pick_all (λ (t : Bool). t ≡ true) _ refl e)

  module _ (some : ¬ (b.price ≡ 0)) (e : better o.side b.price o.price ≡ false) where
    stays : starts_afresh o.side b.price o.price ≡ false
    unfolding starts_afresh
    stays = pick-false _ _ _ (ne_eqb _ _ some) ∙ e

    pub by_equal : o.price ≡ b.price → record { price = b.price; contracts = b.contracts + o.contracts } ≡ best_with o.series o.side b o
    by_equal g = with-equal _ _ b o (live-stands o live) stays g

    pub by-worse : ¬ (o.price ≡ b.price) → b ≡ best_with o.series o.side b o
    by-worse g = with-worse _ _ b o (live-stands o live) stays g

-- an order stands at its own place only
stands-own : (x : ℕ) (o : LegOrder) → ¬ (x ≡ place_of o.series o.side) → stands (x / 2) (x % 2) o ≡ false
unfolding stands
stands-own x o n =
    pick-by (λ (t : Bool). t ≡ false) _ (λ z. refl)
    (λ z. pick-by (λ (t : Bool). t ≡ false) _
    (λ e. by (eqb o.side (x % 2)) refl (eqb-true _ _ e))
    (λ e. refl))
  where
    by : (t : Bool) → eqb o.side (x % 2) ≡ t → o.series ≡ x / 2 → t ≡ false
    by true g e = absurd (n (omega (arith, e, eqb-true o.side (x % 2) g)))
    by false g e = refl

-- THE WALK

module _ (os : List LegOrder) where
  pub bests-first : replicate 64 no_best ≡ bests_after os 0
  unfolding bests_after best_after table walk
  bests-first = refl

  length-bests : (k : ℕ) → length (bests_after os k) ≡ 64
  unfolding bests_after
  length-bests k = length-table (best_at os k) 64

  at-place : (k x : ℕ) → x < 64 → get_or (bests_after os k) x no_best ≡ best_at os k x
  unfolding bests_after
  at-place k x h = table-slot (best_at os k) no_best 64 x h

  -- the best of its own series and side
  own : (i : ℕ) {s side : ℕ} {t : List Best} → t ≡ bests_after os i → s < 32 → side ≤ 1 → get_or t (place_of s side) no_best ≡ best_after os s side i
  own i {s} {side} e h g =
      let a : place_of s side / 2 ≡ s = omega arith in
      let b : place_of s side % 2 ≡ side = omega arith in
      rw e (at-place i (place_of s side) (omega arith) ∙ rw (a, b) refl)

  -- a best that slot i does not change
  kept : (i x : ℕ) → stands (x / 2) (x % 2) (get_or os i no_order) ≡ false → best_at os i x ≡ best_at os (i + 1) x
  kept i x e = best-next os (x / 2) (x % 2) i {b = best_at os i x} {c = best_at os i x} refl (with_none (x / 2) (x % 2) (best_at os i x) (get_or os i no_order) e)

  -- an empty slot changes none
  pub bests-skip : (i : ℕ) {t : List Best} → (get_or os i no_order).contracts ≡ 0 → t ≡ bests_after os i → t ≡ bests_after os (i + 1)
  unfolding bests_after
  bests-skip i z e = e ∙ ap (λ (g : ℕ → Best). table g 64) (fun_ext (λ x. kept i x (none-stands (x / 2) (x % 2) (get_or os i no_order) z)))

  module _ (i : ℕ) {t : List Best} (k : FitOrder (get_or os i no_order)) (e : t ≡ bests_after os i) where
    abbrev o : LegOrder
    o = get_or os i no_order

    abbrev at : ℕ
    at = place_of o.series o.side

    pub own-fits : All FitOrder os → i ≤ 32 → (get_or t at no_best).contracts ≤ 319_968
    own-fits a h = (best-fits os _ _ a h (own i e k.series k.side)).contracts

    -- a live one changes that of its own place
    pub bests-next : {b : Best} → b ≡ best_with o.series o.side (get_or t at no_best) o → set t at b ≡ bests_after os (i + 1)
    bests-next {b} g =
        let c : b ≡ best_after os o.series o.side (i + 1) = best-next os o.series o.side i (own i e k.series k.side) g in
        let q : at < 64 = omega (arith, k.series, k.side) in
        let n : length t ≡ 64 = ap length e ∙ length-bests i in
        ext_get_or no_best (set t at b) (bests_after os (i + 1)) (length-set t at b ∙ n ∙ sym (length-bests (i + 1)))
        (λ x h. let l : x < 64 = omega (arith, length-set t at b) in
        pick-by (λ (r : Bool). get_or (set t at b) x no_best ≡ get_or (bests_after os (i + 1)) x no_best) (eqb x at) {a = true} {b = false}
        (λ z. rw (eqb-true x at z) (get_or-set_same t at b no_best (omega arith) ∙ c ∙ sym (own (i + 1) refl k.series k.side)))
        (λ z. let m : ¬ (x ≡ at) = eqb-false x at z in
        get_or-set_other t at x b no_best m ∙ ap (λ (ys : List Best). get_or ys x no_best) e ∙ at-place i x l ∙ kept i x (stands-own x o m) ∙ sym (at-place (i + 1) x l)))

  pub bests-last : {i : ℕ} {t : List Best} → All Priced os → i ≡ 32 → t ≡ bests_after os i → t ≡ best_table os
  unfolding bests_after best_table
  bests-last {i} p h e =
      e ∙ ap (λ (g : ℕ → Best). table g 64) (fun_ext (λ x. best-last os (x / 2) (x % 2) {i = i} {b = best_at os i x} p h refl))

  -- the contracts of the best at every place
  pub lots-of : table (λ (x : ℕ). (get_or (best_table os) x no_best).contracts) 64 ≡ lot_table os
  unfolding best_table lot_table table
  lots-of = refl

-- ONE LEG

pub other-most : {on : ℕ} (side : ℕ) → on ≡ other side → on ≤ 1
unfolding other
other-most side e = rw e (pick_all (λ (x : ℕ). x ≤ 1) (eqb side 0) (omega arith) (omega arith))

-- by the side that the code reads
module _ (ls : List ℕ) (side : ℕ) (l : Leg) {a on : ℕ} (g : a ≡ leg_side side l) (e : on ≡ other a) where
  pub leg-ready : l.ratio ≤ slot ls (place_of l.series on) → ready_leg ls side l ≡ true
  unfolding ready_leg
  leg-ready h = le-leb _ _ (rw (e, g) at h)

  pub leg-short : slot ls (place_of l.series on) < l.ratio → ready_leg ls side l ≡ false
  unfolding ready_leg
  leg-short h = lt-leb _ _ (rw (e, g) at h)
