-- One leg of a fill, leg order by leg order: what is still to be taken, the records written, the leg orders cut.
use Rattle.std.specs.Prelude.{◌≡◌, List, ℕ, ◌+◌, ◌*◌, ◌-◌, ◌≤◌, ◌<◌, min, length, get_or, set}
use Rattle.std.proofs.Math.Path.{sym, ap}
use Rattle.std.proofs.Common.{◌∙◌, arith}
use Rattle.std.proofs.Math.Nat.{sub-zero}
use Rattle.base.specs.Pick.{pick}
use Rattle.base.specs.Walks.{sum_n, slot, join_n, seam, seam-first, seam-next, seam-here, seam-skip, seam-last, table-slot}
use Rattle.rules.specs.declared.Leg.{Leg}
use Rattle.rules.specs.declared.LegOrder.{LegOrder}
use Rattle.rules.specs.State.{no_order}
use Rattle.rules.specs.Nets.{lots, lot_at}
use Rattle.rules.specs.Quotas.{in_turn, in_turn_at}
use Rattle.rules.specs.Fills.{LegTake, leg_take, leg_quotas, order_row, order_rows, cut_order, cut_at, cut_orders}
use Rattle.records.specs.Space.{Appended, Room, room_row, wrote-nil, wrote-first, wrote-next}
use Rattle.quotas.specs.Laws.{in_turn-is, in_turn-left}
use Rattle.legging.specs.Legging.{OneLeg}
use Rattle.records.specs.declared.Records.{Records}

-- the first i leg orders have given what they give of t: the records r₀ became r₁, of the rows rest are left, and r is to be taken
pub record Taking (r₀ r₁ : Records) (rows rest os : List LegOrder) (t : LegTake) (r i : ℕ) : Type 0 where
  pub most : i ≤ 32
  pub left : r ≡ t.contracts - sum_n (slot (lots os t.series t.side t.price)) i
  pub wrote : Appended r₀ r₁ (join_n (order_rows os (leg_quotas os t) t.price) i)
  pub cut : rest ≡ seam (cut_at rows (leg_quotas os t)) rows i

pub taking-first : (r₀ : Records) (rows os : List LegOrder) (t : LegTake) → Taking r₀ r₀ rows rows os t t.contracts 0
unfolding sum_n
taking-first r rows os t = record { most = omega arith; left = omega arith; wrote = wrote-first r _; cut = sym (seam-first _ rows) }

module _ (os : List LegOrder) (t : LegTake) {i r x k : ℕ} (h : i < 32) (l : r ≡ t.contracts - sum_n (slot (lots os t.series t.side t.price)) i)
    (found : x ≡ lot_at os t.series t.side t.price i) (least : k ≡ min r x) where
  abbrev held : List ℕ
  held = lots os t.series t.side t.price

  least-held : k ≡ min r (slot held i)
  unfolding lots
  least-held = least ∙ ap (min r) (found ∙ sym (table-slot (lot_at os t.series t.side t.price) 0 32 i h))

  -- it is the quota of the order at slot i
  quota-is : k ≡ slot (leg_quotas os t) i
  unfolding leg_quotas in_turn
  quota-is = least-held ∙ in_turn-is t.contracts held i r l ∙ sym (table-slot (in_turn_at t.contracts held) 0 32 i h)

  left_is : r - k ≡ t.contracts - sum_n (slot held) (i + 1)
  left_is = ap (λ (y : ℕ). r - y) least-held ∙ in_turn-left t.contracts held i r l

-- one order more
module _ {r₀ r₁ : Records} {rows rest os : List LegOrder} (t : LegTake) {r i x k : ℕ} (size : length rows ≡ 32) (h : i < 32) (g : Taking r₀ r₁ rows rest os t r i)
    (found : x ≡ lot_at os t.series t.side t.price i) (least : k ≡ min r x) where
  abbrev quota : k ≡ slot (leg_quotas os t) i
  quota = quota-is os t h g.left found least

  -- there is room for its record
  pub taking-room : Room r₀ (join_n (order_rows os (leg_quotas os t) t.price) 32) → Room r₁ (order_row (get_or os i no_order) k t.price)
  taking-room room = rw quota (room_row (order_rows os (leg_quotas os t) t.price) 32 i room h g.wrote)

  -- it gives k
  pub taking-some : {r₂ : Records} {row : LegOrder} → Appended r₁ r₂ (order_row (get_or os i no_order) k t.price) → row ≡ cut_order (get_or rest i no_order) k
      → Taking r₀ r₂ rows (set rest i row) os t (r - k) (i + 1)
  taking-some {row = row} d e = record {
    most = omega arith;
    left = left_is os t h g.left found least;
    wrote = wrote-next (order_rows os (leg_quotas os t) t.price) i g.wrote (rw quota at d);
    cut = ap (λ (o : LegOrder). set rest i o) now ∙ ap (λ (os' : List LegOrder). set os' i (cut_at rows (leg_quotas os t) i)) g.cut ∙ seam-next (cut_at rows (leg_quotas os t)) rows no_order i (omega arith);
  }
    where
      now : row ≡ cut_at rows (leg_quotas os t) i
      now = e ∙ ap (λ (o : LegOrder). cut_order o k) (ap (λ (os' : List LegOrder). get_or os' i no_order) g.cut ∙ seam-here (cut_at rows (leg_quotas os t)) rows no_order i (omega arith))
          ∙ ap (cut_order (get_or rows i no_order)) quota

  -- it gives nothing
  pub taking-none : k ≤ 0 → Taking r₀ r₁ rows rest os t r (i + 1)
  unfolding order_row pick
  taking-none z =
      let none : slot (leg_quotas os t) i ≡ 0 = sym quota ∙ (omega arith) in
      record {
        most = omega arith;
        left = omega (arith, left_is os t h g.left found least);
        wrote = wrote-next (order_rows os (leg_quotas os t) t.price) i g.wrote (rw none (wrote-nil r₁));
        cut = g.cut ∙ seam-skip (cut_at rows (leg_quotas os t)) rows no_order i (omega arith) (rw (none, sub-zero (get_or rows i no_order).contracts));
      }

-- all of them
pub taking-last : {r₀ r₁ : Records} {rows rest os : List LegOrder} (side q price : ℕ) (l : Leg) {r i : ℕ} → length rows ≡ 32 → i ≡ 32
    → Taking r₀ r₁ rows rest os (leg_take side (l.ratio * q) price l) r i → OneLeg r₀ r₁ rows rest os side q price l
unfolding cut_orders
taking-last side q price l {i = i} size e g = let d = rw e at g in record { wrote = d.wrote; left = d.cut ∙ seam-last _ _ 32 (omega arith) }
