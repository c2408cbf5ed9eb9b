-- A fill by legs: what it writes is paid by the leg orders that it finishes, by the active entry if that is finished, or by the legs,
-- which are ready before it and not after it.
use mathlib.Core.Path.{◌≡◌, refl, sym, ◌∙◌, ap}
use mathlib.Core.Bool.{Bool, false}
use mathlib.Core.Logic.{⊎_elim}
use mathlib.Core.List.{List, ◌++◌}
use Prim.Native.Nat.{ℕ, zero, suc, ◌+◌, ◌-◌, ◌*◌, ◌/◌, ◌%◌, ◌≤◌, ◌<◌, min}
use native.Mathlib.Nat.{div-add-mod, mod-lt, div-eq_of_lt, div-zero, mul-le-mul_left}
use native.Mathlib.Omega.{arith}
use borrow.Author.Tests.{eqb-true, ne_eqb}
use lib.Dec.{eqb}
use lib.ListN.{length, get_or, length-append}
use Rattle.base.specs.Pick.{pick, pick_all, pick-by, pick-both}
use Rattle.base.specs.Walks.{sum_n, slot, walk, join_n, table-slot, lt-or-le, below, length-join, sum_same, sum-add, sum_mono}
use Rattle.rules.specs.declared.Leg.{Leg}
use Rattle.rules.specs.declared.Strategy.{Strategy}
use Rattle.rules.specs.declared.LegOrder.{LegOrder}
use Rattle.rules.specs.declared.State.{State}
use Rattle.rules.specs.declared.Record.{Record}
use Rattle.rules.specs.State.{no_leg, no_order, entry_at, order_at, strategy_of, with_orders}
use Rattle.rules.specs.Moves.{Moved}
use Rattle.rules.specs.Sides.{other, leg_side}
use Rattle.rules.specs.Quotas.{in_turn_at, in_turn}
use Rattle.rules.specs.Nets.{stands, price_with, price_step, price_of, lot, lot_at, lots, leg_price, price_at, prices, net_of, leg_units, units_of}
use Rattle.rules.specs.Fills.{party_records, cut_order, cut, leg_quotas, order_row, order_rows, cut_at, cut_orders, takes_at, order_records_at, cut_by_legs, take_legs, leg_fill}
use Rattle.rules.proofs.Tables.{positive}
use Rattle.rules.proofs.Shrinks.{SameOrder, same-order, order_trans, cut-order}
use Rattle.rules.proofs.Quotas.{in_turn-under, in_turn-sum}
use Rattle.rules.proofs.Control.{Legged, standing, prices_for, units_for}
use Rattle.rules.proofs.Turns.{units-most}
use Rattle.rules.proofs.Load.{alive, alive_order, load, Six, cut-alive, party-length}
use Rattle.rules.proofs.Firsts.{live-slot}

-- WHAT A LEG ORDER HOLDS at a price of a series and side
pub record Held (s : ℕ) (o : LegOrder) (x : ℕ) : Type 0 where
  pub all : x ≡ o.contracts
  pub in_series : o.series ≡ s

lot-held : (s side price : ℕ) (o : LegOrder) → 0 < lot s side price o → Held s o (lot s side price o)
unfolding lot
lot-held s side price o =
    let P : ℕ → Type 0 = λ (x : ℕ). 0 < x → Held s o x in
    pick-by P (stands s side o)
    (λ st. pick-by P (eqb o.price price)
    (λ e h. record { all = refl; in_series = (standing s side o st).in_series })
    (λ e h. absurd (omega arith)))
    (λ st h. absurd (omega arith))

lot-most : (s side price : ℕ) (o : LegOrder) → lot s side price o ≤ o.contracts
unfolding lot
lot-most s side price o =
    let P : ℕ → Type 0 = λ (x : ℕ). x ≤ o.contracts in
    pick_all P _ (pick_all P _ (omega arith) (omega arith)) (omega arith)

-- an order of no contracts holds nothing, whether or not that is tested
lot-plain : (c : ℕ) (t e : Bool) → pick (pick (eqb c 0) false t) (pick e c 0) 0 ≡ pick t (pick e c 0) 0
unfolding pick
lot-plain c t e =
    pick-by (λ (x : Bool). pick x (pick e c 0) 0 ≡ pick t (pick e c 0) 0) (eqb c 0)
    (λ z. let n = eqb-true c 0 z in rw n (pick_all (λ (x : ℕ). 0 ≡ x) t (pick_all (λ (x : ℕ). 0 ≡ x) e refl refl) refl))
    (λ z. refl)

lot-mono : (s side price : ℕ) (o p : LegOrder) → SameOrder o p → lot s side price p ≤ lot s side price o
unfolding lot stands
lot-mono s side price o p h =
    rw (lot-plain p.contracts, h.series, h.side, h.price, lot-plain o.contracts)
    (pick-both (λ (x y : ℕ). x ≤ y) _ (pick-both (λ (x y : ℕ). x ≤ y) _ h.contracts (omega arith)) (omega arith))

-- what is taken of an order is gone from what it holds
lot-less : (s side price x : ℕ) (o p : LegOrder) → SameOrder o p → p.contracts + x ≤ o.contracts → x ≤ lot s side price o → lot s side price p + x ≤ lot s side price o
lot-less s side price x o p h l u =
    ⊎_elim
    (λ (some : 0 < x). let d = lot-held s side price o (omega arith) in omega (arith, d.all, lot-most s side price p))
    (λ (none : x ≤ 0). omega (arith, lot-mono s side price o p h))
    (lt-or-le 0 x)

lots-at : (os : List LegOrder) (s side price j : ℕ) → j < 32 → slot (lots os s side price) j ≡ lot s side price (get_or os j no_order)
unfolding lots
lots-at os s side price j l = table-slot (lot_at os s side price) 0 32 j l

-- a sum's terms
sum-none : (f : ℕ → ℕ) → sum_n f 0 ≡ 0
unfolding sum_n
sum-none f = refl

sum-next : (f : ℕ → ℕ) (k : ℕ) → sum_n f (suc k) ≡ sum_n f k + f k
unfolding sum_n
sum-next f k = refl

-- BY NUMBER AT ONE PRICE: of those touched all but one are finished
-- one more holder: it has c contracts and holds them all or none; s are held before it, r are wanted
touch-full : (c y z : ℕ) → y ≡ 0 → min c 1 + min (c - c) 1 + y ≤ min c 1 + z
touch-full c y z h = omega arith

touch-part : (c q y z : ℕ) → q < c → y ≡ 0 → 1 ≤ z → min q 1 + min (c - q) 1 + y ≤ min c 1 + z
touch-part c q y z h k l = omega arith

touch : (c x s r : ℕ) → (0 < x → x ≡ c) → min (min (r - s) x) 1 + min (c - min (r - s) x) 1 + min (s - r) 1 ≤ min c 1 + min (s + x - r) 1
touch c x s r h =
    ⊎_elim
    (λ (some : 0 < x). let e : x ≡ c = h some in ⊎_elim
    (λ (before : s < r). ⊎_elim
    (λ (l : r - s < x). let m : min (r - s) x ≡ r - s = omega arith in rw m (touch-part c (r - s) (min (s - r) 1) (min (s + x - r) 1) (omega arith) (omega arith) (omega arith)))
    (λ (l : x ≤ r - s). let m : min (r - s) x ≡ c = omega arith in rw m (touch-full c (min (s - r) 1) (min (s + x - r) 1) (omega arith)))
    (lt-or-le (r - s) x))
    (λ (past : r ≤ s). let m : min (r - s) x ≡ 0 = omega arith in rw m (more s x r (min (c - 0) 1) (min c 1) (omega arith)))
    (lt-or-le s r))
    (λ (none : x ≤ 0). let m : min (r - s) x ≡ 0 = omega arith in rw m (more s x r (min (c - 0) 1) (min c 1) (omega arith)))
    (lt-or-le 0 x)
  where
    more : (s x r y z : ℕ) → y ≡ z → min 0 1 + y + min (s - r) 1 ≤ z + min (s + x - r) 1
    more s x r y z h = omega arith

-- A FILL OF q UNITS, leg by leg
module _ (os : List LegOrder) (side q : ℕ) (legs : List Leg) (ps : List ℕ) where
  abbrev rows : ℕ → List LegOrder
  rows k = cut_by_legs os (takes_at side q legs ps) k

  abbrev row : ℕ → ℕ → LegOrder
  row k j = get_or (cut_by_legs os (takes_at side q legs ps) k) j no_order

  -- what the orders hold for leg k, and what is taken of them
  abbrev sizes_of : ℕ → List ℕ
  sizes_of k = lots os (get_or legs k no_leg).series (other (leg_side side (get_or legs k no_leg))) (slot ps k)

  abbrev quota : ℕ → ℕ → ℕ
  quota k j = slot (leg_quotas os (takes_at side q legs ps k)) j

  quota-under : (k j : ℕ) → quota k j ≤ slot (sizes_of k) j
  unfolding leg_quotas
  quota-under k j = in_turn-under ((get_or legs k no_leg).ratio * q) (sizes_of k) j

  size-held : (k j : ℕ) → j < 32 → 0 < slot (sizes_of k) j → Held (get_or legs k no_leg).series (get_or os j no_order) (slot (sizes_of k) j)
  size-held k j l some =
      let s : ℕ = (get_or legs k no_leg).series in
      let d : ℕ = other (leg_side side (get_or legs k no_leg)) in
      rw (lots-at os s d (slot ps k) j l) (lot-held s d (slot ps k) (get_or os j no_order) (rw (lots-at os s d (slot ps k) j l) at some))

  row_next : (k j : ℕ) → j < 32 → row (suc k) j ≡ cut_order (row k j) (quota k j)
  unfolding cut_by_legs walk cut_orders
  row_next k j l = table-slot (cut_at (rows k) (leg_quotas os (takes_at side q legs ps k))) no_order 32 j l

  row_same : (k j : ℕ) → j < 32 → SameOrder (get_or os j no_order) (row k j)
  unfolding cut_by_legs walk
  row_same zero j l = same-order _
  row_same (suc k) j l = order_trans (row_same k j l) (rw (row_next k j l) (cut-order (row k j) (quota k j)))

  -- what no leg before k has taken from is whole
  untouched : (k j : ℕ) → j < 32 → ((m : ℕ) → m < k → quota m j ≡ 0) → (row k j).contracts ≡ (get_or os j no_order).contracts
  unfolding cut_by_legs walk
  untouched zero j l h = refl
  untouched (suc k) j l h = omega (arith, ap (λ (o : LegOrder). o.contracts) (row_next k j l), h k (omega arith), untouched k j l (λ m n. h m (omega arith)))

  -- the legs have different series
  module _ (count : ℕ) (rising : (i j : ℕ) → i < j → j < count → (get_or legs i no_leg).series < (get_or legs j no_leg).series) where
    -- so an order of one leg is none of another's
    other-leg : (k m j : ℕ) → m < k → k < count → j < 32 → 0 < slot (sizes_of k) j → quota m j ≡ 0
    other-leg k m j l c n some =
        ⊎_elim
        (λ (taken : 0 < quota m j).
        let x : (get_or os j no_order).series ≡ (get_or legs k no_leg).series = (size-held k j n some).in_series in
        let y : (get_or os j no_order).series ≡ (get_or legs m no_leg).series = (size-held m j n (omega (arith, quota-under m j))).in_series in
        absurd (omega (arith, rising m k l c)))
        (λ (none : quota m j ≤ 0). omega arith)
        (lt-or-le 0 (quota m j))

    -- as leg k's turn comes, those who hold for it hold all they have
    whole : (k j : ℕ) → k < count → j < 32 → 0 < slot (sizes_of k) j → slot (sizes_of k) j ≡ (row k j).contracts
    whole k j c n some = (size-held k j n some).all ∙ sym (untouched k j n (λ m l. other-leg k m j l c n some))

    -- one leg
    leg-touched : (k : ℕ) → k < count → (n : ℕ) → n ≤ 32
        → sum_n (λ (j : ℕ). min (quota k j) 1) n + sum_n (alive_order (rows (suc k))) n ≤ sum_n (alive_order (rows k)) n + min (sum_n (slot (sizes_of k)) n - (get_or legs k no_leg).ratio * q) 1
    unfolding sum_n leg_quotas in_turn in_turn_at
    leg-touched k c zero l = omega arith
    leg-touched k c (suc n) l =
        let r : ℕ = (get_or legs k no_leg).ratio * q in
        let s : ℕ = sum_n (slot (sizes_of k)) n in
        let x : ℕ = slot (sizes_of k) n in
        let e : quota k n ≡ min (r - s) x = table-slot (in_turn_at r (sizes_of k)) 0 32 n (omega arith) in
        let a : (row (suc k) n).contracts ≡ (row k n).contracts - quota k n = ap (λ (o : LegOrder). o.contracts) (row_next k n (omega arith)) in
        let h : min (quota k n) 1 + min (row (suc k) n).contracts 1 + min (s - r) 1 ≤ min (row k n).contracts 1 + min (s + x - r) 1
        = rw (a, e) (touch (row k n).contracts x s r (whole k n c (omega arith))) in
        join _ _ _ _ _ _ _ _ (leg-touched k c n (omega arith)) h
      where
        join : (t u v w x y z p : ℕ) → t + u ≤ v + p → x + y + p ≤ z + w → t + x + (u + y) ≤ v + z + w
        join t u v w x y z p g h = omega arith

    -- the leg orders' records of one leg: one for each order touched
    row-length : (o : LegOrder) (n price : ℕ) → length (order_row o n price) ≡ min n 1
    unfolding order_row
    row-length o n price =
        pick-by (λ (l : List Record). length l ≡ min n 1) (eqb n 0)
        (λ e. omega (arith, eqb-true n 0 e))
        (λ e. omega (arith, positive n e))

    leg-length : (k : ℕ) → length (order_records_at os (takes_at side q legs ps) k) ≡ sum_n (λ (j : ℕ). min (quota k j) 1) 32
    leg-length k =
        length-join (order_rows os (leg_quotas os (takes_at side q legs ps k)) (slot ps k)) 32
        ∙ sum_same _ (λ (j : ℕ). min (quota k j) 1) 32 (λ j l. row-length (get_or os j no_order) (quota k j) (slot ps k))

    leg-one : (k : ℕ) → k < count → length (order_records_at os (takes_at side q legs ps) k) + sum_n (alive_order (rows (suc k))) 32 ≤ sum_n (alive_order (rows k)) 32 + 1
    leg-one k c = rw (leg-length k) (one _ _ _ (leg-touched k c 32 (omega arith)))
      where
        one : (x y z : ℕ) → x ≤ y + min z 1 → x ≤ y + 1
        one x y z h = omega arith

    -- all legs: each leaves one order touched and not finished at most
    legs-length : (k : ℕ) → k ≤ count → sum_n (λ (i : ℕ). length (order_records_at os (takes_at side q legs ps) i)) k + sum_n (alive_order (rows k)) 32 ≤ k + sum_n (alive_order os) 32
    unfolding cut_by_legs walk
    legs-length zero l = omega (arith, sum-none (λ (i : ℕ). length (order_records_at os (takes_at side q legs ps) i)))
    legs-length (suc k) l =
        let f : ℕ → ℕ = λ (i : ℕ). length (order_records_at os (takes_at side q legs ps) i) in
        let h = legs-length k (omega arith) in
        let g = leg-one k (omega arith) in
        omega (arith, h, g, sum-next f k)

    -- what each leg takes of an order is gone
    taken : (k m j : ℕ) → m < k → k ≤ count → j < 32 → (row k j).contracts + quota m j ≤ (get_or os j no_order).contracts
    taken zero m j l c n = absurd (omega arith)
    taken (suc k) m j l c n =
        let a : (row (suc k) j).contracts ≡ (row k j).contracts - quota k j = ap (λ (o : LegOrder). o.contracts) (row_next k j n) in
        let s : (row k j).contracts ≤ (get_or os j no_order).contracts = (row_same k j n).contracts in
        ⊎_elim
        (λ (e : m ≡ k). rw e (⊎_elim
        (λ (some : 0 < quota k j). omega (arith, quota-under k j, whole k j (omega arith) n (omega (arith, quota-under k j))))
        (λ (none : quota k j ≤ 0). omega arith)
        (lt-or-le 0 (quota k j))))
        (λ (b : m < k). omega (arith, taken k m j b (omega arith) n))
        (below l)

    -- what is left at leg m's price, after all legs
    left_at : (m : ℕ) → m < count
        → sum_n (slot (lots (rows count) (get_or legs m no_leg).series (other (leg_side side (get_or legs m no_leg))) (slot ps m))) 32 + min ((get_or legs m no_leg).ratio * q) (sum_n (slot (sizes_of m)) 32) ≤ sum_n (slot (sizes_of m)) 32
    left_at m c =
        let s : ℕ = (get_or legs m no_leg).series in
        let d : ℕ = other (leg_side side (get_or legs m no_leg)) in
        let p : ℕ = slot ps m in
        let after : ℕ → ℕ = slot (lots (rows count) s d p) in
        let each : (j : ℕ) → j < 32 → after j + quota m j ≤ slot (sizes_of m) j
        = λ j l. rw (lots-at (rows count) s d p j l, lots-at os s d p j l)
        (lot-less s d p (quota m j) (get_or os j no_order) (row count j) (row_same count j l) (taken count m j c (omega arith) l) (rw (lots-at os s d p j l) at (quota-under m j))) in
        let total : sum_n (quota m) 32 ≡ min ((get_or legs m no_leg).ratio * q) (sum_n (slot (sizes_of m)) 32) = unfold leg_quotas in in_turn-sum ((get_or legs m no_leg).ratio * q) (sizes_of m) in
        rw (← total) (omega (arith, sum-add after (quota m) 32, sum_mono (λ (j : ℕ). after j + quota m j) (slot (sizes_of m)) 32 each))

-- WHERE NO LEG ORDER IS FINISHED the best prices stand
walk_same : (f g : ℕ → ℕ → ℕ) (a k : ℕ) → ((i : ℕ) → i < k → (x : ℕ) → f i x ≡ g i x) → walk f a k ≡ walk g a k
unfolding walk
walk_same f g a zero h = refl
walk_same f g a (suc k) h = h k (omega arith) (walk f a k) ∙ ap (g k) (walk_same f g a k (λ i l. h i (omega arith)))

-- an order is as live as it was
same_live : (c d : ℕ) → d ≤ c → min c 1 ≤ min d 1 → eqb d 0 ≡ eqb c 0
same_live zero d l h = let e : d ≡ 0 = omega arith in rw e
same_live (suc c) d l h = ne_eqb d 0 (λ z. omega arith) ∙ sym (ne_eqb (suc c) 0 (λ z. omega arith))

-- terms that are no larger, with a sum that is no smaller, are as large
sum-tight : (f g : ℕ → ℕ) (k : ℕ) → ((j : ℕ) → j < k → f j ≤ g j) → sum_n g k ≤ sum_n f k → (i : ℕ) → i < k → g i ≤ f i
unfolding sum_n
sum-tight f g zero h e i l = absurd (omega arith)
sum-tight f g (suc k) h e i l =
    let lower : (j : ℕ) → j < k → f j ≤ g j = λ j m. h j (omega arith) in
    let last : f k ≤ g k = h k (omega arith) in
    let most : sum_n f k ≤ sum_n g k = sum_mono f g k lower in
    ⊎_elim (λ (q : i ≡ k). rw q (omega arith)) (λ (m : i < k). sum-tight f g k lower (omega arith) i m) (below l)

module _ (os rs : List LegOrder) (same : (j : ℕ) → j < 32 → SameOrder (get_or os j no_order) (get_or rs j no_order)) (all : sum_n (alive_order os) 32 ≤ sum_n (alive_order rs) 32) where
  still-live : (j : ℕ) → j < 32 → eqb (get_or rs j no_order).contracts 0 ≡ eqb (get_or os j no_order).contracts 0
  still-live j l =
      let less : (i : ℕ) → i < 32 → alive_order rs i ≤ alive_order os i = λ i m. (let h = (same i m).contracts in omega arith) in
      same_live _ _ (same j l).contracts (sum-tight (alive_order rs) (alive_order os) 32 less all j l)

  same-price : (s side : ℕ) → price_of rs s side ≡ price_of os s side
  unfolding price_of price_with stands
  same-price s side =
      walk_same (price_step rs s side) (price_step os s side) 0 32
      (λ j l x. rw (still-live j l, (same j l).series, (same j l).side, (same j l).price))

  same-prices : (side : ℕ) (legs : List Leg) (i : ℕ) → i < 6 → slot (prices rs side legs) i ≡ slot (prices os side legs) i
  unfolding prices leg_price
  same-prices side legs i l =
      table-slot (price_at rs side legs) 0 6 i l ∙ same-price (get_or legs i no_leg).series (other (leg_side side (get_or legs i no_leg))) ∙ sym (table-slot (price_at os side legs) 0 6 i l)

-- THE LEG THAT GAVE THE LEAST has less than its ratio left
no-unit : (d e r u : ℕ) → e + min (r * u) d ≤ d → d / r ≤ u → e / r ≡ 0
no-unit d e zero u h k = div-zero e
no-unit d e (suc r) u h k =
    let x = div-add-mod d (suc r) in
    let y = mod-lt d {m = suc r} (omega arith) in
    let z = mul-le-mul_left (suc r) k in
    div-eq_of_lt (below-ratio e d (suc r * u) (suc r * (d / suc r)) (d % suc r) (suc r) h x y z (omega arith))
  where
    below-ratio : (e d m x y r : ℕ) → e + min m d ≤ d → x + y ≡ d → y < r → x ≤ m → 0 < r → e < r
    below-ratio e d m x y r h g l k p = omega arith

-- some unit of one leg is missing after the fill, where the units were fewer than asked
none-ready : (f g : ℕ → ℕ) (u most one k : ℕ) → ((i : ℕ) → i < k → f i ≤ u → g i ≡ 0) → walk (λ (i n : ℕ). min (f i) n) most k ≤ u → u < most → walk (λ (i n : ℕ). min (g i) n) one k ≡ 0
unfolding walk
none-ready f g u most one zero h l m = absurd (omega arith)
none-ready f g u most one (suc k) h l m =
    ⊎_elim
    (λ (more : u < f k). let z = none-ready f g u most one k (λ i n. h i (omega arith)) (omega arith) m in omega (arith, z))
    (λ (least : f k ≤ u). let z = h k (omega arith) least in omega (arith, z))
    (lt-or-le u (f k))

-- THE ACCOUNT OF A FILL: r records, of them t of leg orders; n legs; entries and leg orders live before and after; whether ready after
settle : (r t n a a₁ l l₁ f : ℕ) → r ≡ suc n + t → n ≤ 6 → t + l₁ ≤ n + l → l₁ ≤ l → a₁ ≤ a → f ≤ 1 → (l ≤ l₁ → a ≤ a₁ → f ≡ 0)
    → r + (14 * a₁ + 14 * l₁) + 13 * f ≤ 14 * a + 14 * l + 13
settle r t n a a₁ l l₁ f e six h fewer k one u =
    ⊎_elim (λ (less : l₁ < l). omega arith)
    (λ (same : l ≤ l₁). ⊎_elim (λ (less : a₁ < a). omega arith) (λ (all : a ≤ a₁). let z = u same all in omega (arith, z)) (lt-or-le a₁ a))
    (lt-or-le l₁ l)

-- 1 where the legs of a strategy are ready for a side, else 0
abbrev pub ready_for : List LegOrder → ℕ → Strategy → ℕ
ready_for os side s = units_of os side s (prices os side s.legs) 1

-- what is live, and 13 where the legs are ready
pub record Spends (side : ℕ) (s : Strategy) (b : State) (m : Moved) : Type 0 where
  pub spent : length m.records + load m.state + 13 * ready_for m.state.orders side s ≤ load b + 13 * ready_for b.orders side s

module _ (b : State) (six : Six b) (a : ℕ) (l : Legged b a) where
  abbrev s : Strategy
  s = strategy_of b (entry_at b a)

  abbrev after : List LegOrder
  after = cut_by_legs b.orders (takes_at (entry_at b a).side (units_for b a) (strategy_of b (entry_at b a)).legs (prices_for b a)) (strategy_of b (entry_at b a)).count

  abbrev told : List Record
  told = join_n (order_records_at b.orders (takes_at (entry_at b a).side (units_for b a) s.legs (prices_for b a))) s.count

  after_same : (j : ℕ) → j < 32 → SameOrder (order_at b j) (get_or after j no_order)
  after_same j n = row_same b.orders (entry_at b a).side (units_for b a) s.legs (prices_for b a) s.count j n

  after_fewer : sum_n (alive_order after) 32 ≤ sum_n (alive_order b.orders) 32
  after_fewer = sum_mono (alive_order after) (alive_order b.orders) 32 (λ j n. let h = (after_same j n).contracts in omega arith)

  told-length : length told + sum_n (alive_order after) 32 ≤ s.count + sum_n (alive_order b.orders) 32
  told-length =
      rw length-join
      (legs-length b.orders (entry_at b a).side (units_for b a) s.legs (prices_for b a) s.count (six.rising (entry_at b a).strategy) s.count (omega arith))

  -- the active entry
  active-alive : sum_n (alive (cut b a (units_for b a)).entries) 32 + 1 ≡ sum_n (alive b.entries) 32 + min ((entry_at b a).units - units_for b a) 1
  active-alive =
      let live = l.live in
      let one : min (entry_at b a).units 1 ≡ 1 = omega arith in
      rw one at (cut-alive b a (units_for b a) (live-slot b six.entries a live))

  -- where nobody is finished the legs are not ready any more
  not-ready : sum_n (alive_order b.orders) 32 ≤ sum_n (alive_order after) 32 → sum_n (alive b.entries) 32 ≤ sum_n (alive (cut b a (units_for b a)).entries) 32 → ready_for after (entry_at b a).side s ≡ 0
  unfolding units_of leg_units
  not-ready all more =
      let ps : List ℕ = prices_for b a in
      let u : ℕ = units_for b a in
      let side : ℕ = (entry_at b a).side in
      let part : units_for b a < (entry_at b a).units = omega (arith, active-alive) in
      none-ready (λ (i : ℕ). leg_units b.orders side (slot ps i) (get_or s.legs i no_leg)) (λ (i : ℕ). leg_units after side (slot (prices after side s.legs) i) (get_or s.legs i no_leg))
      u (entry_at b a).units 1 s.count
      (λ i c least.
      rw (same-prices b.orders after after_same all side s.legs i (omega (arith, six.count (entry_at b a).strategy)))
      (no-unit _ _ (get_or s.legs i no_leg).ratio u
      (left_at b.orders side u s.legs ps s.count (six.rising (entry_at b a).strategy) i c) least))
      (omega arith) part

  pub legs-spends : Spends (entry_at b a).side s b (leg_fill a b)
  unfolding leg_fill take_legs with_orders
  legs-spends =
      let ps : List ℕ = prices_for b a in
      let u : ℕ = units_for b a in
      let ready : ready_for b.orders (entry_at b a).side s ≡ 1 = omega (arith, l.ready, units-most b.orders (entry_at b a).side s ps 1) in
      let fewer : sum_n (alive (cut b a u).entries) 32 ≤ sum_n (alive b.entries) 32 = omega (arith, active-alive) in
      let long : length (party_records (entry_at b a) s u (net_of s ps) ps ++ told) ≡ suc s.count + length told = length-append (party_records (entry_at b a) s u (net_of s ps) ps) told ∙ ap (λ (n : ℕ). n + length told) (party-length (entry_at b a) s u (net_of s ps) ps) in
      record {
        spent = rw ready
            (settle _ (length told) s.count (sum_n (alive b.entries) 32) (sum_n (alive (cut b a u).entries) 32) (sum_n (alive_order b.orders) 32) (sum_n (alive_order after) 32) (ready_for after (entry_at b a).side s)
            long (six.count (entry_at b a).strategy) told-length after_fewer fewer (units-most after (entry_at b a).side s (prices after (entry_at b a).side s.legs) 1) not-ready);
      }
