-- The laws of the totals, all of one form: what a law measures of the state, and what came by the records, is what went by the records and
-- what it measures afterwards. Each has what it asks of the state.
use mathlib.Core.Path.{◌≡◌, refl, sym, ◌∙◌, ap}
use mathlib.Core.Bool.{Bool, true, false}
use mathlib.Core.Logic.{◌⊎◌, inl, inr, ⊎_elim}
use Prim.Native.Nat.{ℕ, zero, suc, ◌+◌, ◌-◌, ◌*◌, ◌≤◌, ◌<◌}
use native.Mathlib.Nat.{add-mul}
use native.Mathlib.Omega.{arith}
use borrow.Author.Tests.{eqb-true, eq-eqb, ne_eqb}
use lib.Dec.{eqb}
use lib.ListN.{length}
use Rattle.base.specs.Pick.{pick, both, pick_all, pick-by, pick_true, pick-false}
use Rattle.base.specs.Walks.{sum_n, below, sum-zero, sum_same}
use Rattle.rules.specs.declared.Leg.{Leg}
use Rattle.rules.specs.declared.Strategy.{Strategy}
use Rattle.rules.specs.declared.Entry.{Entry}
use Rattle.rules.specs.declared.LegOrder.{LegOrder}
use Rattle.rules.specs.declared.State.{State}
use Rattle.rules.specs.declared.Record.{Record}
use Rattle.rules.specs.declared.Kind.{Kind}
use Rattle.rules.specs.declared.Kind.TheVariants.{WholeFill, LegFill, LegOrderFill, Cancelled, LegOrderCancelled, AuctionBegun, AuctionEnded}
use Rattle.rules.specs.State.{entry_at, order_at, strategy_at, leg_at}
use Rattle.rules.specs.Moves.{Moved, still, and_then}
use Rattle.rules.specs.Sides.{other, leg_side, meets}
use Rattle.rules.specs.Lookups.{units_of_number, contracts_of_number}
use Rattle.rules.specs.Totals.{if_same}
use Rattle.rules.proofs.Tables.{tally, tally-append}
use Rattle.rules.proofs.Shrinks.{Shrinks, SameEntry, SameOrder, shrinks-refl, shrinks-trans}

-- what counts of each kind: a whole fill, a leg fill, a leg order's fill, a cancel, a leg order's cancel; nothing of an auction
abbrev pub by_kind : Kind → (whole leg order_fill cancel order_cancel : ℕ) → ℕ
by_kind WholeFill w l f c d = w
by_kind LegFill w l f c d = l
by_kind LegOrderFill w l f c d = f
by_kind Cancelled w l f c d = c
by_kind LegOrderCancelled w l f c d = d
by_kind AuctionBegun w l f c d = 0
by_kind AuctionEnded w l f c d = 0

-- whole fills
abbrev pub on_whole : Kind → ℕ → ℕ
on_whole k q = by_kind k q 0 0 0 0

-- what takes units of an entry
abbrev pub on_units : Kind → ℕ → ℕ
on_units k q = by_kind k q 0 0 q 0

-- all that tells of an entry, but for auctions
abbrev pub on_complex : Kind → ℕ → ℕ
on_complex k q = by_kind k q q 0 q 0

-- all that tells of a leg order
abbrev pub on_leg_order : Kind → ℕ → ℕ
on_leg_order k q = by_kind k 0 0 q 0 q

-- a complex party's leg fills
abbrev pub on_part : Kind → ℕ → ℕ
on_part k q = by_kind k 0 q 0 0 0

-- a leg order's fills
abbrev pub on_traded : Kind → ℕ → ℕ
on_traded k q = by_kind k 0 0 q 0 0

-- leg fills of both
abbrev pub on_legs : Kind → ℕ → ℕ
on_legs k q = by_kind k 0 q q 0 0

-- "A fill is a record 1, or a leg order's record 2"
abbrev pub on_fill : Kind → ℕ → ℕ
on_fill k q = by_kind k q 0 q 0 0

-- the ratio of a series in a strategy, 0 where it has no leg there
abbrev pub ratio_at : Strategy → ℕ → ℕ → ℕ
ratio_at st s i = if_same (leg_at st i).series s (leg_at st i).ratio

unfoldable pub ratio_for : Strategy → ℕ → ℕ
ratio_for st s = sum_n (ratio_at st s) st.count

-- the units of a number, the contracts of a number, no record of an entry or of a leg order of a number, a series bought and sold, cash,
-- the leg fills of a number in a series, the limit of a number, the strategy and side of a number, the series, side and price of a number
pub data Law : Type 0 where
  of_units : ℕ → Law
  of_contracts : ℕ → Law
  no_entries : ℕ → Law
  no_orders : ℕ → Law
  of_series : ℕ → Law
  of_cash : Law
  of_ratio : (n s x : ℕ) → Law
  of_limit : (n side limit : ℕ) → Law
  of_party : (n strategy side : ℕ) → Law
  of_price : (n series side price : ℕ) → Law

-- what a law measures: by its number where it is of units or of contracts, nothing else
abbrev pub measure : Law → (units contracts : ℕ → ℕ) → ℕ
measure (of_units n) u c = u n
measure (of_contracts n) u c = c n
measure (no_entries n) u c = 0
measure (no_orders n) u c = 0
measure (of_series s) u c = 0
measure of_cash u c = 0
measure (of_ratio n s x) u c = 0
measure (of_limit n side limit) u c = 0
measure (of_party n k side) u c = 0
measure (of_price n s side price) u c = 0

-- what holds of the quantities of every number, and of nothing, holds of what a law measures
pub measure-by : (R : ℕ → ℕ → ℕ → Type 0) → R 0 0 0 → (l : Law) {u v w c d e : ℕ → ℕ} → ((n : ℕ) → R (u n) (v n) (w n)) → ((n : ℕ) → R (c n) (d n) (e n)) →
    R (measure l u c) (measure l v d) (measure l w e)
measure-by R z (of_units n) h k = h n
measure-by R z (of_contracts n) h k = k n
measure-by R z (no_entries n) h k = z
measure-by R z (no_orders n) h k = z
measure-by R z (of_series s) h k = z
measure-by R z of_cash h k = z
measure-by R z (of_ratio n s x) h k = z
measure-by R z (of_limit n side limit) h k = z
measure-by R z (of_party n x side) h k = z
measure-by R z (of_price n s side price) h k = z

abbrev pub size : Law → State → ℕ
size l b = measure l (λ (n : ℕ). sum_n (units_of_number b n) 32) (λ (n : ℕ). sum_n (contracts_of_number b n) 32)

abbrev pub come : Law → Record → ℕ
come (of_units n) r = 0
come (of_contracts n) r = 0
come (no_entries n) r = on_complex r.kind (if_same r.number n 1)
come (no_orders n) r = on_leg_order r.kind (if_same r.number n 1)
come (of_series s) r = on_legs r.kind (if_same r.place s (if_same r.side 0 r.quantity))
come of_cash r = on_fill r.kind (if_same r.side 0 (r.quantity * r.level) + if_same r.side 1 (r.quantity * 10_000_000))
come (of_ratio n s x) r = on_part r.kind (if_same r.number n (if_same r.place s r.quantity))
come (of_limit n side limit) r = on_whole r.kind (if_same r.number n (pick (meets side limit r.level) 0 1))
come (of_party n k side) r = on_whole r.kind (if_same r.number n (pick (both (eqb r.place k) (eqb r.side side)) 0 1))
come (of_price n s side price) r = on_traded r.kind (if_same r.number n (pick (meets side (10_000_000 + price) r.level) 0 1))

abbrev pub gone : Law → Record → ℕ
gone (of_units n) r = on_units r.kind (if_same r.number n r.quantity)
gone (of_contracts n) r = on_leg_order r.kind (if_same r.number n r.quantity)
gone (no_entries n) r = 0
gone (no_orders n) r = 0
gone (of_series s) r = on_legs r.kind (if_same r.place s (if_same r.side 1 r.quantity))
gone of_cash r = on_fill r.kind (if_same r.side 0 (r.quantity * 10_000_000) + if_same r.side 1 (r.quantity * r.level))
gone (of_ratio n s x) r = on_whole r.kind (if_same r.number n (x * r.quantity))
gone (of_limit n side limit) r = 0
gone (of_party n k side) r = 0
gone (of_price n s side price) r = 0

-- what a law asks of an entry and of a leg order that live
abbrev pub FitsEntry : Law → State → Entry → Type 0
FitsEntry (of_units n) b e = Unit {0}
FitsEntry (of_contracts n) b e = Unit {0}
FitsEntry (no_entries n) b e = e.number ≡ n → ⊥
FitsEntry (no_orders n) b e = Unit {0}
FitsEntry (of_series s) b e = Unit {0}
FitsEntry of_cash b e = Unit {0}
FitsEntry (of_ratio n s x) b e = e.number ≡ n → ratio_for (strategy_at b e.strategy) s ≡ x
FitsEntry (of_limit n side limit) b e = e.number ≡ n → (e.side ≡ side) × (e.level ≡ limit)
FitsEntry (of_party n k side) b e = e.number ≡ n → (e.strategy ≡ k) × (e.side ≡ side)
FitsEntry (of_price n s side price) b e = Unit {0}

abbrev pub FitsOrder : Law → LegOrder → Type 0
FitsOrder (of_units n) o = Unit {0}
FitsOrder (of_contracts n) o = Unit {0}
FitsOrder (no_entries n) o = Unit {0}
FitsOrder (no_orders n) o = o.number ≡ n → ⊥
FitsOrder (of_series s) o = Unit {0}
FitsOrder of_cash o = Unit {0}
FitsOrder (of_ratio n s x) o = Unit {0}
FitsOrder (of_limit n side limit) o = Unit {0}
FitsOrder (of_party n k side) o = Unit {0}
FitsOrder (of_price n s side price) o = o.number ≡ n → (o.side ≡ side) × (o.price ≡ price) × (o.series ≡ s)

pub record Good (l : Law) (b : State) : Type 0 where
  pub entry : (i : ℕ) → 0 < (entry_at b i).units → FitsEntry l b (entry_at b i)
  pub order : (i : ℕ) → 0 < (order_at b i).contracts → FitsOrder l (order_at b i)

-- What every law asks of the state, and every move keeps.
pub record Steady (b : State) : Type 0 where
  pub entry_rows : length b.entries ≡ 32
  pub order_rows : length b.orders ≡ 32
  pub side : (i : ℕ) → (entry_at b i).side ≤ 1
  pub order_side : (i : ℕ) → (order_at b i).side ≤ 1
  pub leg_side : (k i : ℕ) → (leg_at (strategy_at b k) i).side ≤ 1
  pub rising : (k i j : ℕ) → i < j → j < (strategy_at b k).count → (leg_at (strategy_at b k) i).series < (leg_at (strategy_at b k) j).series

-- A move keeps the accounts.
pub record Acct (b : State) (m : Moved) : Type 0 where
  pub shrinks : Shrinks b m.state
  pub law : (l : Law) → Good l b → size l b + tally (come l) m.records ≡ tally (gone l) m.records + size l m.state

-- THROUGH A MOVE
pub steady-shrinks : {b c : State} → Shrinks b c → Steady b → Steady c
steady-shrinks h s = record {
  entry_rows = h.entry_rows ∙ s.entry_rows;
  order_rows = h.order_rows ∙ s.order_rows;
  side = λ i. rw (h.entry i).side (s.side i);
  order_side = λ i. rw (h.order i).side (s.order_side i);
  leg_side = λ k i. rw (h.strategy k).legs (s.leg_side k i);
  rising = λ k i j l m. rw (h.strategy k).legs (s.rising k i j l (rw (h.strategy k).count at m));
}

pub ratio-same : (s t : Strategy) → t.legs ≡ s.legs → t.count ≡ s.count → (x : ℕ) → ratio_for t x ≡ ratio_for s x
unfolding ratio_for
ratio-same s t l c x = rw (l, c)

fits-same : (l : Law) {b c : State} → Shrinks b c → {e f : Entry} → SameEntry e f → FitsEntry l b e → FitsEntry l c f
fits-same (of_units n) h k g = tt
fits-same (of_contracts n) h k g = tt
fits-same (no_entries n) h k g = λ e. g (sym k.number ∙ e)
fits-same (no_orders n) h k g = tt
fits-same (of_series s) h k g = tt
fits-same of_cash h k g = tt
fits-same (of_ratio n s x) {b} {c} h {e} {f} k g = λ i.
    ap (λ (j : ℕ). ratio_for (strategy_at c j) s) k.strategy
    ∙ ratio-same (strategy_at b e.strategy) (strategy_at c e.strategy) (h.strategy e.strategy).legs (h.strategy e.strategy).count s
    ∙ g (sym k.number ∙ i)
fits-same (of_limit n side limit) h k g = λ i. let r = g (sym k.number ∙ i) in (k.side ∙ r.0, k.level ∙ r.1)
fits-same (of_party n x side) h k g = λ i. let r = g (sym k.number ∙ i) in (k.strategy ∙ r.0, k.side ∙ r.1)
fits-same (of_price n s side price) h k g = tt

fits-same-order : (l : Law) {o p : LegOrder} → SameOrder o p → FitsOrder l o → FitsOrder l p
fits-same-order (of_units n) k g = tt
fits-same-order (of_contracts n) k g = tt
fits-same-order (no_entries n) k g = tt
fits-same-order (no_orders n) k g = λ e. g (sym k.number ∙ e)
fits-same-order (of_series s) k g = tt
fits-same-order of_cash k g = tt
fits-same-order (of_ratio n s x) k g = tt
fits-same-order (of_limit n side limit) k g = tt
fits-same-order (of_party n x side) k g = tt
fits-same-order (of_price n s side price) k g = λ i. let r = g (sym k.number ∙ i) in (k.side ∙ r.0, k.price ∙ r.1, k.series ∙ r.2)

pub good-shrinks : (l : Law) {b c : State} → Shrinks b c → Good l b → Good l c
good-shrinks l h g = record {
  entry = λ i alive. fits-same l h (h.entry i) (g.entry i (omega (arith, (h.entry i).units)));
  order = λ i alive. fits-same-order l (h.order i) (g.order i (omega (arith, (h.order i).contracts)));
}

pub acct-nothing : (b : State) → Acct b (still b)
unfolding tally
acct-nothing b = record { shrinks = shrinks-refl b; law = λ l g. omega arith }

pub acct-both : (b : State) (m : Moved) (f : State → Moved) → Acct b m → Acct m.state (f m.state) → Acct b (and_then m f)
unfolding and_then
acct-both b m f h k = record {
  shrinks = shrinks-trans h.shrinks k.shrinks;
  law = λ l g. simp tally-append (omega (arith, h.law l g, k.law l (good-shrinks l h.shrinks g)));
}

-- CHOICES OF A QUANTITY OR NOTHING
pub pick-none : (t : Bool) → pick {A = ℕ} t 0 0 ≡ 0
pick-none t = pick_all (λ (x : ℕ). x ≡ 0) t refl refl

pub when-no : (x y q : ℕ) → (x ≡ y → ⊥) → if_same x y q ≡ 0
when-no x y q h = pick-false _ _ _ (ne_eqb x y h)

pub when-yes : (x y q : ℕ) → x ≡ y → if_same x y q ≡ q
when-yes x y q h = pick_true _ _ _ (eq-eqb x y h)

-- equal where the test holds
pub when-same : (x y p q : ℕ) → (x ≡ y → p ≡ q) → if_same x y p ≡ if_same x y q
when-same x y p q h =
    pick-by (λ (r : ℕ). r ≡ if_same x y q) (eqb x y)
    (λ e. h (eqb-true x y e) ∙ sym (pick_true _ _ _ e)) (λ e. sym (pick-false _ _ _ e))

pub pick-plus : (t : Bool) (p q : ℕ) → pick t (p + q) 0 ≡ pick t p 0 + pick t q 0
unfolding pick
pick-plus true p q = refl
pick-plus false p q = refl

pub pick-sub : (t : Bool) (u q : ℕ) → q ≤ u → pick t u 0 ≡ pick t q 0 + pick t (u - q) 0
unfolding pick
pick-sub true u q h = omega arith
pick-sub false u q h = omega arith

pub pick-times : (t : Bool) (p q : ℕ) → pick t (p * q) 0 ≡ pick t p 0 * q
unfolding pick
pick-times true p q = refl
pick-times false p q = omega arith

-- SUMS
pub sum-pick : (t : Bool) (f : ℕ → ℕ) (k : ℕ) → sum_n (λ (i : ℕ). pick t (f i) 0) k ≡ pick t (sum_n f k) 0
unfolding pick
sum-pick true f k = refl
sum-pick false f k = sum-zero (λ (i : ℕ). 0) k (λ i l. refl)

pub sum-times : (f : ℕ → ℕ) (q k : ℕ) → sum_n (λ (i : ℕ). f i * q) k ≡ sum_n f k * q
unfolding sum_n
sum-times f q zero = omega arith
sum-times f q (suc k) = rw (add-mul (sum_n f k) (f k) q) (omega (arith, sum-times f q k))

-- one term differs
pub sum-at : (f g : ℕ → ℕ) (k i : ℕ) → i < k → ((j : ℕ) → (j ≡ i → ⊥) → f j ≡ g j) → sum_n f k + g i ≡ sum_n g k + f i
unfolding sum_n
sum-at f g zero i h e = absurd (omega arith)
sum-at f g (suc k) i h e =
    ⊎_elim
    (λ (q : i ≡ k). let s : sum_n f k ≡ sum_n g k = sum_same f g k (λ j l. e j (λ z. omega arith)) in rw q (omega arith))
    (λ (l : i < k). omega (arith, sum-at f g k i l e, e k (λ z. omega arith)))
    (below h)

-- SIDES
pub side-is : (x : ℕ) → x ≤ 1 → (x ≡ 0) ⊎ (x ≡ 1)
side-is zero h = inl refl
side-is (suc x) h = inr (omega arith)

pub other-buy : other 0 ≡ 1
unfolding other pick
other-buy = refl

pub other-sell : other 1 ≡ 0
unfolding other pick
other-sell = refl

pub other-side : (x : ℕ) → other x ≤ 1
unfolding other
other-side x = pick_all (λ (y : ℕ). y ≤ 1) (eqb x 0) (omega arith) (omega arith)

pub leg-side : (x : ℕ) (l : Leg) → l.side ≤ 1 → leg_side x l ≤ 1
unfolding leg_side
leg-side x l h = pick_all (λ (y : ℕ). y ≤ 1) (eqb x 0) h (other-side l.side)

pub other-other : (x : ℕ) → x ≤ 1 → other (other x) ≡ x
other-other x h = ⊎_elim (λ (e : x ≡ 0). rw (e, other-buy, other-sell)) (λ (e : x ≡ 1). rw (e, other-sell, other-buy)) (side-is x h)

-- the other party takes the other side of each leg
pub leg-other : (x : ℕ) (l : Leg) → x ≤ 1 → l.side ≤ 1 → leg_side (other x) l ≡ other (leg_side x l)
unfolding leg_side pick
leg-other x l h k = ⊎_elim (λ (e : x ≡ 0). rw (e, other-buy)) (λ (e : x ≡ 1). rw (e, other-sell) (sym (other-other l.side k))) (side-is x h)

-- what is bought on a side is sold on the other
pub even : (x c : ℕ) → x ≤ 1 → if_same x 0 c + if_same (other x) 0 c ≡ if_same x 1 c + if_same (other x) 1 c
unfolding pick
even x c h = ⊎_elim (λ (e : x ≡ 0). rw (e, other-buy) (omega arith)) (λ (e : x ≡ 1). rw (e, other-sell) (omega arith)) (side-is x h)

-- what is paid on a side is received on the other
pub even-cash : (x u v : ℕ) → x ≤ 1 → if_same x 0 u + if_same x 1 v + (if_same (other x) 0 u + if_same (other x) 1 v) ≡ if_same x 0 v + if_same x 1 u + (if_same (other x) 0 v + if_same (other x) 1 u)
unfolding pick
even-cash x u v h = ⊎_elim (λ (e : x ≡ 0). rw (e, other-buy) (omega arith)) (λ (e : x ≡ 1). rw (e, other-sell) (omega arith)) (side-is x h)

-- a whole fill of a number that shows its strategy and side
pub own-party : (m n k side place on : ℕ) → (m ≡ n → (place ≡ k) × (on ≡ side)) → if_same m n (pick (both (eqb place k) (eqb on side)) 0 1) ≡ 0
own-party m n k side place on h =
    pick-by (λ (x : ℕ). x ≡ 0) (eqb m n)
    (λ e. let p = h (eqb-true m n e) in pick_true _ _ _ (pick_true _ _ _ (eq-eqb place k p.0) ∙ eq-eqb on side p.1))
    (λ _. refl)
