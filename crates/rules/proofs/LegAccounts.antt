-- Whole against legs keeps the accounts.
use mathlib.Core.Path.{◌≡◌, refl, sym, ◌∙◌, ap}
use mathlib.Core.Bool.{Bool, true, false}
use mathlib.Core.Logic.{⊎_elim}
use mathlib.Core.List.{List, ◌++◌}
use Prim.Native.Nat.{ℕ, zero, suc, ◌+◌, ◌-◌, ◌*◌, ◌/◌, ◌≤◌, ◌<◌}
use native.Mathlib.Nat.{sub-zero, mul-le-mul_left, mul-div-le, mul-add, add-mul, mul_assoc, mul_comm, zero-mul}
use native.Mathlib.Omega.{arith}
use borrow.Author.Tests.{eqb-true}
use lib.Dec.{eqb}
use lib.ListN.{get_or, get_or-eq_default}
use Rattle.base.specs.Pick.{pick, pick_all, pick-by}
use Rattle.base.specs.Walks.{sum_n, slot, table, walk, join_n, table-slot, length-table, lt-or-le, below, sum-zero, sum_same, sum-add, sum-swap}
use Rattle.rules.specs.declared.Leg.{Leg}
use Rattle.rules.specs.declared.Strategy.{Strategy}
use Rattle.rules.specs.declared.Entry.{Entry}
use Rattle.rules.specs.declared.LegOrder.{LegOrder}
use Rattle.rules.specs.declared.State.{State}
use Rattle.rules.specs.declared.Record.{Record}
use Rattle.rules.specs.State.{no_leg, no_order, entry_at, order_at, strategy_of, leg_at, with_orders}
use Rattle.rules.specs.Moves.{Moved}
use Rattle.rules.specs.Sides.{other, leg_side}
use Rattle.rules.specs.Nets.{stands, lot, lot_at, lots, known, weight, weight_at, weighed, net_of, leg_units, units_step, units_of}
use Rattle.rules.specs.Fills.{whole_record, leg_record, party_records, cut_order, cut, leg_quotas, order_record, order_row, order_rows, cut_at, cut_orders, LegTake, takes_at, order_records_at, cut_by_legs, take_legs, leg_fill}
use Rattle.rules.specs.Totals.{if_same}
use Rattle.rules.proofs.Shrinks.{take_legs-shrinks}
use Rattle.rules.proofs.Quotas.{in_turn-under, in_turn-sum}
use Rattle.rules.proofs.Control.{Standing, standing, meets-self, Legged, prices_for, units_for, legged-mine}
use Rattle.rules.proofs.Tables.{tally, tally-append, tally-join, positive}
use Rattle.rules.proofs.Laws.{Law, of_units, of_contracts, no_entries, no_orders, of_series, of_cash, of_ratio, of_limit, of_party, of_price, own-party, size, come, gone, Good, Steady, Acct, ratio_for, pick-none, when-no, when-same, pick-plus, pick-sub, sum-pick, side-is, leg-side, even}
use Rattle.rules.proofs.Accounts.{cut-units, part_at, party-tally, parts_none, parts-ratio, not-worse}

-- WHAT A LEG ORDER HOLDS for a leg at a price: all its contracts, where it stands in the leg's series on the other side at that price
pub record Held (s side p : ℕ) (o : LegOrder) : Type 0 where
  pub standing : Standing s side o
  pub price : o.price ≡ p

pub held : (s side price : ℕ) (o : LegOrder) → 0 < lot s side price o → Held s side price o
unfolding lot
held s side price o =
    let P : ℕ → Type 0 = λ (x : ℕ). 0 < x → Held s side price o in
    pick-by P (stands s side o)
    (λ t. pick-by P (eqb o.price price)
    (λ e h. record { standing = standing s side o t; price = eqb-true o.price price e })
    (λ e h. absurd (omega arith)))
    (λ t h. absurd (omega arith))

pub lot-le : (s side price : ℕ) (o : LegOrder) → lot s side price o ≤ o.contracts
unfolding lot
lot-le s side price o =
    let P : ℕ → Type 0 = λ (x : ℕ). x ≤ o.contracts in
    pick_all P (stands s side o) (pick_all P (eqb o.price price) (omega arith) (omega arith)) (omega arith)

-- SUMS
-- of terms of which one at most is not 0
sum-once : (f : ℕ → ℕ) (c k : ℕ) → ((i : ℕ) → f i ≤ c) → ((i j : ℕ) → i < j → j < k → 0 < f j → f i ≡ 0) → sum_n f k ≤ c
unfolding sum_n
sum-once f c zero h z = omega arith
sum-once f c (suc k) h z =
    ⊎_elim
    (λ (l : 0 < f k). omega (arith, h k, sum-zero f k (λ i m. z i k m (omega arith) l)))
    (λ (l : f k ≤ 0). omega (arith, sum-once f c k h (λ i j m n. z i j m (omega arith))))
    (lt-or-le 0 (f k))

-- of terms that each weigh their quantity alike
sum-linear : (f g k : ℕ → ℕ) → k 0 ≡ 0 → ((x y : ℕ) → k (x + y) ≡ k x + k y) → ((j : ℕ) → f j ≡ k (g j)) → (m : ℕ) → sum_n f m ≡ k (sum_n g m)
unfolding sum_n
sum-linear f g k z a h zero = sym z
sum-linear f g k z a h (suc m) = rw (a (sum_n g m) (g m)) (omega (arith, sum-linear f g k z a h m, h m))

-- THE QUOTAS of any takes
-- a quota is within its order's lot
pub quota-lot : (os : List LegOrder) (t : LegTake) (j : ℕ) → slot (leg_quotas os t) j ≤ lot t.series t.side t.price (get_or os j no_order)
unfolding leg_quotas lots
quota-lot os t j =
    let f : ℕ → ℕ = lot_at os t.series t.side t.price in
    ⊎_elim
    (λ (l : j < 32). rw (table-slot f 0 32 j l) at (in_turn-under t.contracts (table f 32) j))
    (λ (l : 32 ≤ j). omega (arith, in_turn-under t.contracts (table f 32) j, get_or-eq_default (table f 32) 0 {n = j} (omega (arith, length-table f 32))))
    (lt-or-le j 32)

-- what k takes take of the order at slot j
abbrev pub taken_by : List LegOrder → (ℕ → LegTake) → ℕ → ℕ → ℕ
taken_by os takes k j = sum_n (λ (i : ℕ). slot (leg_quotas os (takes i)) j) k

-- .. and the order after them
pub legs-row : (os : List LegOrder) (takes : ℕ → LegTake) (k j : ℕ) → j < 32 → get_or (cut_by_legs os takes k) j no_order ≡ cut_order (get_or os j no_order) (taken_by os takes k j)
unfolding cut_by_legs walk cut_orders sum_n
legs-row os takes zero j l = rw (sub-zero (get_or os j no_order).contracts)
legs-row os takes (suc k) j l =
    let qs : List ℕ = leg_quotas os (takes k) in
    let n : ℕ = (get_or os j no_order).contracts in
    let e : n - taken_by os takes k j - slot qs j ≡ n - (taken_by os takes k j + slot qs j) = omega arith in
    table-slot (cut_at (cut_by_legs os takes k) qs) no_order 32 j l ∙ ap (λ (o : LegOrder). cut_order o (slot qs j)) (legs-row os takes k j l) ∙ rw e

-- THE QUOTAS of q units, leg by leg and slot by slot
module _ (os : List LegOrder) (side q : ℕ) (legs : List Leg) (ps : List ℕ) where
  abbrev pub quota : ℕ → ℕ → ℕ
  quota i j = slot (leg_quotas os (takes_at side q legs ps i)) j

  abbrev pub leg : ℕ → Leg
  leg i = get_or legs i no_leg

  abbrev pub its : ℕ → ℕ
  its i = other (leg_side side (leg i))

  abbrev pub row : ℕ → LegOrder
  row j = get_or os j no_order

  abbrev pub lost : ℕ → ℕ → ℕ
  lost k j = sum_n (λ (i : ℕ). quota i j) k

  quota-under : (i j : ℕ) → quota i j ≤ lot (leg i).series (its i) (slot ps i) (row j)
  quota-under i j = quota-lot os (takes_at side q legs ps i) j

  quota-held : (i j : ℕ) → 0 < quota i j → Held (leg i).series (its i) (slot ps i) (row j)
  quota-held i j h = held (leg i).series (its i) (slot ps i) (row j) (omega (arith, quota-under i j))

  -- no order loses more than it has, where no series is twice
  lost-le : (k : ℕ) → ((i j : ℕ) → i < j → j < k → (leg i).series < (leg j).series) → (j : ℕ) → lost k j ≤ (row j).contracts
  lost-le k rising j =
      sum-once (λ (i : ℕ). quota i j) (row j).contracts k (λ i. omega (arith, quota-under i j, lot-le (leg i).series (its i) (slot ps i) (row j)))
      (λ i m l n h. none i m l n h)
    where
      none : (i m : ℕ) → i < m → m < k → 0 < quota m j → quota i j ≡ 0
      none i m l n h =
          ⊎_elim
          (λ (z : 0 < quota i j). absurd (omega (arith, rising i m l n, (quota-held i j z).standing.in_series, (quota-held m j h).standing.in_series)))
          (λ (z : quota i j ≤ 0). omega arith)
          (lt-or-le 0 (quota i j))

  -- the orders after the cuts
  cut-row : (k j : ℕ) → j < 32 → get_or (cut_by_legs os (takes_at side q legs ps) k) j no_order ≡ cut_order (row j) (lost k j)
  cut-row k j l = legs-row os (takes_at side q legs ps) k j l

  -- the records of the leg orders
  legs-tally : (w : Record → ℕ) (k : ℕ) → tally w (join_n (order_records_at os (takes_at side q legs ps)) k) ≡ sum_n (λ (i : ℕ). sum_n (λ (j : ℕ). tally w (order_row (row j) (quota i j) (slot ps i))) 32) k
  legs-tally w k =
      tally-join w (order_records_at os (takes_at side q legs ps)) k
      ∙ sum_same _ _ k (λ i l. tally-join w (order_rows os (leg_quotas os (takes_at side q legs ps i)) (slot ps i)) 32)

  -- one record, by whether there is a quota
  row_by : (w : Record → ℕ) (P : ℕ → Type 0) (i j : ℕ) → (quota i j ≡ 0 → P 0) → (0 < quota i j → Held (leg i).series (its i) (slot ps i) (row j) → P (w (order_record (row j) (quota i j) (slot ps i)))) →
      P (tally w (order_row (row j) (quota i j) (slot ps i)))
  unfolding order_row tally
  row_by w P i j z h =
      pick-by (λ (rs : List Record). P (tally w rs)) (eqb (quota i j) 0)
      (λ e. z (eqb-true (quota i j) 0 e))
      (λ e. let some : 0 < quota i j = positive (quota i j) e in
      let one : w (order_record (row j) (quota i j) (slot ps i)) + 0 ≡ w (order_record (row j) (quota i j) (slot ps i)) = omega arith in
      rw one (h some (quota-held i j some)))

  -- records that weigh nothing
  legs-none : (w : Record → ℕ) (k : ℕ) → ((i j : ℕ) → 0 < quota i j → Held (leg i).series (its i) (slot ps i) (row j) → w (order_record (row j) (quota i j) (slot ps i)) ≡ 0) →
      tally w (join_n (order_records_at os (takes_at side q legs ps)) k) ≡ 0
  legs-none w k h =
      legs-tally w k
      ∙ sum-zero _ k (λ i l. sum-zero (λ (j : ℕ). tally w (order_row (row j) (quota i j) (slot ps i))) 32 (λ j m. row_by w (λ (x : ℕ). x ≡ 0) i j (λ z. refl) (λ s d. h i j s d)))

  -- what a leg's records weigh, f of its contracts, where each order that stands for the leg weighs f of its quota
  leg-weight : (w : Record → ℕ) (f : ℕ → ℕ) (i : ℕ) → f 0 ≡ 0 → ((x y : ℕ) → f (x + y) ≡ f x + f y)
      → ((o : LegOrder) (x : ℕ) → Held (leg i).series (its i) (slot ps i) o → w (order_record o x (slot ps i)) ≡ f x)
      → sum_n (λ (j : ℕ). tally w (order_row (row j) (quota i j) (slot ps i))) 32 ≡ f (sum_n (quota i) 32)
  leg-weight w f i z a h =
      sum-linear (λ (j : ℕ). tally w (order_row (row j) (quota i j) (slot ps i))) (quota i) f z a
      (λ j. row_by w (λ (x : ℕ). x ≡ f (quota i j)) i j (λ e. rw e (sym z)) (λ s d. h (row j) (quota i j) d)) 32

  -- the units are there on each leg, so the quotas come to ratio × units
  pub record Ready (k : ℕ) : Type 0 where
    pub there : (i : ℕ) → i < k → (leg i).ratio * q ≤ sum_n (slot (lots os (leg i).series (its i) (slot ps i))) 32

  quotas-sum : (k : ℕ) → Ready k → (i : ℕ) → i < k → sum_n (quota i) 32 ≡ (leg i).ratio * q
  unfolding leg_quotas
  quotas-sum k r i l = omega (arith, r.there i l, in_turn-sum ((leg i).ratio * q) (lots os (leg i).series (its i) (slot ps i)))

  units-leg : (most k i : ℕ) → i < k → walk (units_step os side legs ps) most k ≤ leg_units os side (slot ps i) (leg i)
  unfolding walk
  units-leg most zero i h = absurd (omega arith)
  units-leg most (suc k) i h = ⊎_elim (λ (e : i ≡ k). rw e (omega arith)) (λ (l : i < k). omega (arith, units-leg most k i l)) (below h)

  pub units-ready : (most k : ℕ) → q ≤ walk (units_step os side legs ps) most k → Ready k
  unfolding leg_units
  units-ready most k h = record {
    there = λ i l.
        let t : ℕ = sum_n (slot (lots os (leg i).series (its i) (slot ps i))) 32 in
        let u : q ≤ t / (leg i).ratio = omega (arith, units-leg most k i l) in
        omega (arith, mul-le-mul_left (leg i).ratio u, mul-div-le t (leg i).ratio);
  }

  -- CONTRACTS of a number: what the records say is what the orders lost
  legs-contracts : (n k : ℕ) → tally (gone (of_contracts n)) (join_n (order_records_at os (takes_at side q legs ps)) k) ≡ sum_n (λ (j : ℕ). if_same (row j).number n (lost k j)) 32
  legs-contracts n k =
      let g : ℕ → ℕ → ℕ = λ (i j : ℕ). if_same (row j).number n (quota i j) in
      legs-tally (gone (of_contracts n)) k
      ∙ sum_same _ (λ (i : ℕ). sum_n (g i) 32) k
      (λ i l. sum_same _ (g i) 32 (λ j m. row_by (gone (of_contracts n)) (λ (x : ℕ). x ≡ g i j) i j (λ z. rw z (sym (pick-none (eqb (row j).number n)))) (λ s d. refl)))
      ∙ sum-swap g k 32
      ∙ sum_same _ (λ (j : ℕ). if_same (row j).number n (lost k j)) 32 (λ j m. sum-pick (eqb (row j).number n) (λ (i : ℕ). quota i j) k)

  cut-contracts-legs : (n k : ℕ) → ((j : ℕ) → lost k j ≤ (row j).contracts) →
      sum_n (λ (j : ℕ). if_same (row j).number n (row j).contracts) 32
      ≡ sum_n (λ (j : ℕ). if_same (row j).number n (lost k j)) 32
      + sum_n (λ (j : ℕ). if_same (get_or (cut_by_legs os (takes_at side q legs ps) k) j no_order).number n (get_or (cut_by_legs os (takes_at side q legs ps) k) j no_order).contracts) 32
  cut-contracts-legs n k h =
      let u : ℕ → ℕ = λ (j : ℕ). if_same (row j).number n (lost k j) in
      let v : ℕ → ℕ = λ (j : ℕ). if_same (row j).number n ((row j).contracts - lost k j) in
      let x : ℕ → ℕ = λ (j : ℕ). if_same (get_or (cut_by_legs os (takes_at side q legs ps) k) j no_order).number n (get_or (cut_by_legs os (takes_at side q legs ps) k) j no_order).contracts in
      omega (
        arith,
        sum_same (λ (j : ℕ). if_same (row j).number n (row j).contracts) (λ (j : ℕ). u j + v j) 32 (λ j l. pick-sub (eqb (row j).number n) (row j).contracts (lost k j) (h j)),
        sum-add u v 32,
        sum_same x v 32 (λ j l. ap (λ (o : LegOrder). if_same o.number n o.contracts) (cut-row k j l)),
      )

-- BOUGHT AND SOLD
pick_two : (t u : Bool) (x y : ℕ) → pick t (pick u (x + y) 0) 0 ≡ pick t (pick u x 0) 0 + pick t (pick u y 0) 0
unfolding pick
pick_two true u x y = pick-plus u x y
pick_two false u x y = refl

pick-nil : (t u : Bool) → pick t (pick {A = ℕ} u 0 0) 0 ≡ 0
pick-nil t u = ap (λ (x : ℕ). pick t x 0) (pick-none u) ∙ pick-none t

-- the contracts of leg i, where it is of series x and the leg orders' side is w
abbrev bits : ℕ → Strategy → ℕ → ℕ → ℕ → ℕ → ℕ
bits side s x w i c = if_same (leg_at s i).series x (if_same (other (leg_side side (leg_at s i))) w c)

module _ (os : List LegOrder) (side q : ℕ) (s : Strategy) (ps : List ℕ) (ready : Ready os side q s.legs ps s.count) where
  -- what all legs' records weigh
  legs-weight : (w : Record → ℕ) (f : ℕ → ℕ → ℕ) → ((i : ℕ) → f i 0 ≡ 0) → ((i x y : ℕ) → f i (x + y) ≡ f i x + f i y)
      → ((i : ℕ) (o : LegOrder) (x : ℕ) → Held (leg_at s i).series (other (leg_side side (leg_at s i))) (slot ps i) o → w (order_record o x (slot ps i)) ≡ f i x)
      → tally w (join_n (order_records_at os (takes_at side q s.legs ps)) s.count) ≡ sum_n (λ (i : ℕ). f i ((leg_at s i).ratio * q)) s.count
  legs-weight w f z a h =
      legs-tally os side q s.legs ps w s.count
      ∙ sum_same _ (λ (i : ℕ). f i ((leg_at s i).ratio * q)) s.count
      (λ i l. leg-weight os side q s.legs ps w (f i) i (z i) (a i) (h i) ∙ ap (f i) (quotas-sum os side q s.legs ps s.count ready i l))

  side-weight : (x w : ℕ) (f : Record → ℕ) → ((o : LegOrder) (y p : ℕ) → f (order_record o y p) ≡ if_same o.series x (if_same o.side w y)) →
      tally f (join_n (order_records_at os (takes_at side q s.legs ps)) s.count) ≡ sum_n (λ (i : ℕ). bits side s x w i ((leg_at s i).ratio * q)) s.count
  side-weight x w f h =
      legs-weight f (bits side s x w)
      (λ i. pick-nil (eqb (leg_at s i).series x) (eqb (other (leg_side side (leg_at s i))) w))
      (λ i. pick_two (eqb (leg_at s i).series x) (eqb (other (leg_side side (leg_at s i))) w))
      (λ i o y d. h o y (slot ps i) ∙ rw (d.standing.in_series, d.standing.on_side))

  legs-even : (e : Entry) → e.side ≡ side → ((i : ℕ) → (leg_at s i).side ≤ 1) → (x : ℕ) →
      sum_n (part_at (come (of_series x)) e s q ps) s.count + tally (come (of_series x)) (join_n (order_records_at os (takes_at side q s.legs ps)) s.count)
      ≡ sum_n (part_at (gone (of_series x)) e s q ps) s.count + tally (gone (of_series x)) (join_n (order_records_at os (takes_at side q s.legs ps)) s.count)
  legs-even e k g x =
      rw (side-weight x 0 (come (of_series x)) (λ o y p. refl), side-weight x 1 (gone (of_series x)) (λ o y p. refl))
      (sym (sum-add (part_at (come (of_series x)) e s q ps) (λ (i : ℕ). bits side s x 0 i ((leg_at s i).ratio * q)) s.count)
      ∙ sum_same _ _ s.count (λ i l. one (leg_at s i) (g i))
      ∙ sum-add (part_at (gone (of_series x)) e s q ps) (λ (i : ℕ). bits side s x 1 i ((leg_at s i).ratio * q)) s.count)
    where
      one : (l : Leg) → l.side ≤ 1 →
          if_same l.series x (if_same (leg_side e.side l) 0 (l.ratio * q)) + if_same l.series x (if_same (other (leg_side side l)) 0 (l.ratio * q))
          ≡ if_same l.series x (if_same (leg_side e.side l) 1 (l.ratio * q)) + if_same l.series x (if_same (other (leg_side side l)) 1 (l.ratio * q))
      one l h =
          let c : ℕ = l.ratio * q in
          let t : Bool = eqb l.series x in
          let y : ℕ = leg_side side l in
          rw k
          (sym (pick-plus t (if_same y 0 c) (if_same (other y) 0 c)) ∙ ap (λ (z : ℕ). pick t z 0) (even y c (leg-side side l h)) ∙ pick-plus t (if_same y 1 c) (if_same (other y) 1 c))

-- CASH
-- what x contracts at u come to on side y, beside v on the other
abbrev worth : ℕ → ℕ → ℕ → ℕ → ℕ
worth y u v x = if_same y 0 (x * u) + if_same y 1 (x * v)

worth-none : (y u v : ℕ) → worth y u v 0 ≡ 0
worth-none y u v = rw (zero-mul u, zero-mul v, pick-none (eqb y 0), pick-none (eqb y 1))

worth-plus : (y u v p q : ℕ) → worth y u v (p + q) ≡ worth y u v p + worth y u v q
worth-plus y u v p q =
    rw (add-mul p q u, add-mul p q v) (omega (arith, pick-plus (eqb y 0) (p * u) (q * u), pick-plus (eqb y 1) (p * v) (q * v)))

leg-worth : (r q p : ℕ) → r * q * (10_000_000 + p) ≡ r * q * 10_000_000 + q * (r * p)
leg-worth r q p = mul-add (r * q) 10_000_000 p ∙ ap (λ (x : ℕ). r * q * 10_000_000 + x) (ap (λ (x : ℕ). x * p) (mul_comm r q) ∙ mul_assoc q r p)

-- one leg: what its orders pay and the net's part of the buy legs, what they receive and that of the sell legs, or the reverse for a sell
leg-cash : (side q p : ℕ) (l : Leg) → side ≤ 1 → l.side ≤ 1 →
    worth (other (leg_side side l)) (10_000_000 + p) 10_000_000 (l.ratio * q) + pick (eqb side 0) (q * weight 0 l p) (q * weight 1 l p)
    ≡ worth (other (leg_side side l)) 10_000_000 (10_000_000 + p) (l.ratio * q) + pick (eqb side 0) (q * weight 1 l p) (q * weight 0 l p)
unfolding leg_side other pick weight
leg-cash side q p l h k =
    ⊎_elim
    (λ (e : side ≡ 0). ⊎_elim
    (λ (g : l.side ≡ 0). rw (e, g) (omega (arith, leg-worth l.ratio q p)))
    (λ (g : l.side ≡ 1). rw (e, g) (omega (arith, leg-worth l.ratio q p)))
    (side-is l.side k))
    (λ (e : side ≡ 1). ⊎_elim
    (λ (g : l.side ≡ 0). rw (e, g) (omega (arith, leg-worth l.ratio q p)))
    (λ (g : l.side ≡ 1). rw (e, g) (omega (arith, leg-worth l.ratio q p)))
    (side-is l.side k))
    (side-is side h)

split-worth : (t : Bool) (q a b x y : ℕ) → pick t (q * (a + x)) (q * (b + y)) ≡ pick t (q * a) (q * b) + pick t (q * x) (q * y)
unfolding pick
split-worth true q a b x y = mul-add q a x
split-worth false q a b x y = mul-add q b y

sum-cash : (t : Bool) (q : ℕ) (f g u v : ℕ → ℕ) (k : ℕ) → ((i : ℕ) → i < k → f i + pick t (q * u i) (q * v i) ≡ g i + pick t (q * v i) (q * u i)) →
    sum_n f k + pick t (q * sum_n u k) (q * sum_n v k) ≡ sum_n g k + pick t (q * sum_n v k) (q * sum_n u k)
unfolding sum_n
sum-cash t q f g u v zero h = omega arith
sum-cash t q f g u v (suc k) h =
    omega (
      arith,
      sum-cash t q f g u v k (λ i l. h i (omega arith)),
      h k (omega arith),
      split-worth t q (sum_n u k) (sum_n v k) (u k) (v k),
      split-worth t q (sum_n v k) (sum_n u k) (v k) (u k),
    )

-- the whole fill at the net, beside the leg orders' fills
whole-cash : (side q level x y in₁ out : ℕ) → side ≤ 1 → level + y ≡ 10_000_000 + x → in₁ + pick (eqb side 0) (q * x) (q * y) ≡ out + pick (eqb side 0) (q * y) (q * x) →
    worth side level 10_000_000 q + in₁ ≡ worth side 10_000_000 level q + out
unfolding pick
whole-cash side q level x y in₁ out h e k =
    let net : q * (level + y) ≡ q * (10_000_000 + x) = ap (λ (z : ℕ). q * z) e in
    ⊎_elim
    (λ (g : side ≡ 0). let m = rw g at k in rw g (omega (arith, m, net, mul-add q level y, mul-add q 10_000_000 x)))
    (λ (g : side ≡ 1). let m = rw g at k in rw g (omega (arith, m, net, mul-add q level y, mul-add q 10_000_000 x)))
    (side-is side h)

-- a net that is known is exact
net-exact : (s : Strategy) (ps : List ℕ) → 0 < net_of s ps → net_of s ps + weighed 1 s.legs ps s.count ≡ 10_000_000 + weighed 0 s.legs ps s.count
unfolding net_of
net-exact s ps =
    pick-by (λ (x : ℕ). 0 < x → x + weighed 1 s.legs ps s.count ≡ 10_000_000 + weighed 0 s.legs ps s.count) (known ps s.count)
    (λ e h. omega arith) (λ e h. absurd (omega arith))

module _ (os : List LegOrder) (side q : ℕ) (s : Strategy) (ps : List ℕ) (ready : Ready os side q s.legs ps s.count) (h : side ≤ 1) (g : (i : ℕ) → (leg_at s i).side ≤ 1) where
  cash-weight : (u v : ℕ → ℕ) (w : Record → ℕ) → ((o : LegOrder) (y i : ℕ) → w (order_record o y (slot ps i)) ≡ worth o.side (u i) (v i) y) →
      tally w (join_n (order_records_at os (takes_at side q s.legs ps)) s.count) ≡ sum_n (λ (i : ℕ). worth (other (leg_side side (leg_at s i))) (u i) (v i) ((leg_at s i).ratio * q)) s.count
  cash-weight u v w f =
      legs-weight os side q s ps ready w (λ (i y : ℕ). worth (other (leg_side side (leg_at s i))) (u i) (v i) y)
      (λ i. worth-none (other (leg_side side (leg_at s i))) (u i) (v i)) (λ i. worth-plus (other (leg_side side (leg_at s i))) (u i) (v i))
      (λ i o y d. f o y i ∙ rw d.standing.on_side)

  legs-cash : tally (come of_cash) (join_n (order_records_at os (takes_at side q s.legs ps)) s.count) + pick (eqb side 0) (q * weighed 0 s.legs ps s.count) (q * weighed 1 s.legs ps s.count)
      ≡ tally (gone of_cash) (join_n (order_records_at os (takes_at side q s.legs ps)) s.count) + pick (eqb side 0) (q * weighed 1 s.legs ps s.count) (q * weighed 0 s.legs ps s.count)
  unfolding weighed
  legs-cash =
      let u : ℕ → ℕ = λ (i : ℕ). 10_000_000 + slot ps i in
      let v : ℕ → ℕ = λ (i : ℕ). 10_000_000 in
      omega (
        arith,
        cash-weight u v (come of_cash) (λ o y i. refl),
        cash-weight v u (gone of_cash) (λ o y i. refl),
        sum-cash (eqb side 0) q
            (λ (i : ℕ). worth (other (leg_side side (leg_at s i))) (u i) (v i) ((leg_at s i).ratio * q))
            (λ (i : ℕ). worth (other (leg_side side (leg_at s i))) (v i) (u i) ((leg_at s i).ratio * q))
            (weight_at 0 s.legs ps) (weight_at 1 s.legs ps) s.count
            (λ i l. leg-cash side q (slot ps i) (leg_at s i) h (g i)),
      )

-- WHOLE AGAINST LEGS
module _ (b : State) (a : ℕ) (st : Steady b) (legged : Legged b a) where
  abbrev e : Entry
  e = entry_at b a

  abbrev s : Strategy
  s = strategy_of b e

  abbrev ps : List ℕ
  ps = prices_for b a

  abbrev q : ℕ
  q = units_for b a

  abbrev os : List LegOrder
  os = b.orders

  abbrev theirs : List Record
  theirs = join_n (order_records_at os (takes_at e.side q s.legs ps)) s.count

  abbrev taken : Moved
  taken = record {
    state = with_orders (cut b a q) (cut_by_legs os (takes_at e.side q s.legs ps) s.count);
    records = party_records e s q (net_of s ps) ps ++ theirs;
  }

  all-tally : (w : Record → ℕ) → tally w taken.records ≡ w (whole_record e q (net_of s ps)) + sum_n (part_at w e s q ps) s.count + tally w theirs
  all-tally w = rw (tally-append, party-tally)

  ready : Ready os e.side q s.legs ps s.count
  unfolding units_of
  ready = units-ready os e.side q s.legs ps e.units s.count (omega arith)

  -- records that weigh nothing, a whole fill's apart
  wholly : (w : Record → ℕ) → ((p : ℕ) (l : Leg) → w (leg_record e q p l) ≡ 0) → ((o : LegOrder) (x p : ℕ) → w (order_record o x p) ≡ 0) → tally w taken.records ≡ w (whole_record e q (net_of s ps))
  wholly w z y = omega (arith, all-tally w, parts_none w e s q ps z, legs-none os e.side q s.legs ps w s.count (λ i j h d. y (order_at b j) (quota os e.side q s.legs ps i j) (slot ps i)))

  ones : (w : Record → ℕ) → ((p : ℕ) (l : Leg) → w (leg_record e q p l) ≡ 0) → tally w taken.records ≡ w (whole_record e q (net_of s ps)) + tally w theirs
  ones w z = omega (arith, all-tally w, parts_none w e s q ps z)

  units-same : (n : ℕ) → size (of_units n) taken.state ≡ size (of_units n) (cut b a q)
  unfolding with_orders
  units-same n = refl

  contracts-lost : (n : ℕ) → size (of_contracts n) b ≡ tally (gone (of_contracts n)) theirs + size (of_contracts n) taken.state
  unfolding with_orders
  contracts-lost n =
      omega (
        arith,
        legs-contracts os e.side q s.legs ps n s.count,
        cut-contracts-legs os e.side q s.legs ps n s.count (lost-le os e.side q s.legs ps s.count (st.rising e.strategy)),
      )

  unknown : (n : ℕ) → Good (no_entries n) b → tally (come (no_entries n)) taken.records ≡ 0
  unknown n g =
      let x : if_same e.number n 1 ≡ 0 = when-no e.number n 1 (g.entry a legged.live) in
      omega (
        arith,
        all-tally (come (no_entries n)),
        sum-zero (part_at (come (no_entries n)) e s q ps) s.count (λ i l. x),
        legs-none os e.side q s.legs ps (come (no_entries n)) s.count (λ i j h d. refl),
      )

  unknown-orders : (n : ℕ) → Good (no_orders n) b → tally (come (no_orders n)) theirs ≡ 0
  unknown-orders n g =
      legs-none os e.side q s.legs ps (come (no_orders n)) s.count (λ i j h d. when-no (order_at b j).number n 1 (g.order j d.standing.live))

  not-worse-orders : (n x side price : ℕ) → Good (of_price n x side price) b → tally (come (of_price n x side price)) theirs ≡ 0
  not-worse-orders n x side price g =
      legs-none os e.side q s.legs ps (come (of_price n x side price)) s.count
      (λ i j h d. not-worse (order_at b j).number n side (10_000_000 + price) (10_000_000 + slot ps i)
      (λ k. rw (← d.price, (g.order j d.standing.live k).1) (meets-self side (10_000_000 + price))))

  taken-law : (l : Law) → Good l b → size l b + tally (come l) taken.records ≡ tally (gone l) taken.records + size l taken.state
  taken-law (of_units n) g =
      omega (arith, cut-units b st.entry_rows a q n (legged-mine b a), units-same n, wholly (come (of_units n)) (λ p l. refl) (λ o x p. refl), wholly (gone (of_units n)) (λ p l. refl) (λ o x p. refl))
  taken-law (of_contracts n) g =
      omega (arith, contracts-lost n, wholly (come (of_contracts n)) (λ p l. refl) (λ o x p. refl), ones (gone (of_contracts n)) (λ p l. refl))
  taken-law (no_entries n) g = omega (arith, unknown n g, wholly (gone (no_entries n)) (λ p l. refl) (λ o x p. refl))
  taken-law (no_orders n) g = omega (arith, ones (come (no_orders n)) (λ p l. refl), unknown-orders n g, wholly (gone (no_orders n)) (λ p l. refl) (λ o x p. refl))
  taken-law (of_series x) g =
      omega (arith, all-tally (come (of_series x)), all-tally (gone (of_series x)), legs-even os e.side q s ps ready e refl (st.leg_side e.strategy) x)
  taken-law of_cash g =
      omega (
        arith,
        ones (come of_cash) (λ p l. refl),
        ones (gone of_cash) (λ p l. refl),
        whole-cash e.side q (net_of s ps) (weighed 0 s.legs ps s.count) (weighed 1 s.legs ps s.count) (tally (come of_cash) theirs) (tally (gone of_cash) theirs)
            (st.side a) (net-exact s ps legged.net) (legs-cash os e.side q s ps ready (st.side a) (st.leg_side e.strategy)),
      )
  taken-law (of_ratio n x r) g =
      omega (
        arith,
        all-tally (come (of_ratio n x r)),
        parts-ratio e s q ps n x r,
        legs-none os e.side q s.legs ps (come (of_ratio n x r)) s.count (λ i j h d. refl),
        wholly (gone (of_ratio n x r)) (λ p l. refl) (λ o y p. refl),
        when-same e.number n (ratio_for s x * q) (r * q) (λ k. ap (λ (y : ℕ). y * q) (g.entry a legged.live k)),
      )
  taken-law (of_limit n side limit) g =
      omega (
        arith,
        wholly (come (of_limit n side limit)) (λ p l. refl) (λ o x p. refl),
        wholly (gone (of_limit n side limit)) (λ p l. refl) (λ o x p. refl),
        not-worse e.number n side limit (net_of s ps) (λ k. rw (← (g.entry a legged.live k).0, ← (g.entry a legged.live k).1) legged.meets),
      )
  taken-law (of_party n k side) g =
      omega (
        arith,
        wholly (come (of_party n k side)) (λ p l. refl) (λ o x p. refl),
        wholly (gone (of_party n k side)) (λ p l. refl) (λ o x p. refl),
        own-party e.number n k side e.strategy e.side (g.entry a legged.live),
      )
  taken-law (of_price n x side price) g =
      omega (arith, ones (come (of_price n x side price)) (λ p l. refl), not-worse-orders n x side price g, wholly (gone (of_price n x side price)) (λ p l. refl) (λ o x p. refl))

  pub acct-legs : Acct b (leg_fill a b)
  unfolding leg_fill take_legs
  acct-legs = record { shrinks = take_legs-shrinks b st.order_rows a s ps q; law = taken-law }
