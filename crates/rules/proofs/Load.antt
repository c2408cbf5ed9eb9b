-- What is live pays for the records: 14 for each live entry and leg order, spent when it is finished.
use mathlib.Core.Path.{◌≡◌, refl, ◌∙◌, ap}
use mathlib.Core.Bool.{Bool, true, false}
use mathlib.Core.Logic.{◌⊎◌, inl, inr, ⊎_elim}
use mathlib.Core.List.{List, ◌++◌, [], ◌∷◌}
use Prim.Native.Nat.{ℕ, zero, suc, ◌+◌, ◌-◌, ◌*◌, ◌≤◌, ◌<◌, min}
use native.Mathlib.Omega.{arith}
use lib.Dec.{eqb}
use lib.ListN.{length, get_or, length-append}
use Rattle.base.specs.Pick.{pick, pick_all, pick-by}
use Rattle.base.specs.Walks.{sum_n, lt-or-le, length-join, sum-le}
use Rattle.rules.specs.declared.Strategy.{Strategy}
use Rattle.rules.specs.declared.Entry.{Entry}
use Rattle.rules.specs.declared.LegOrder.{LegOrder}
use Rattle.rules.specs.declared.State.{State}
use Rattle.rules.specs.declared.Record.{Record}
use Rattle.rules.specs.State.{no_entry, no_order, entry_at, order_at, strategy_at, strategy_of, leg_at, with_entries, with_orders, with_strategies}
use Rattle.rules.specs.Moves.{Moved, still, and_then}
use Rattle.rules.specs.Fills.{leg_record_at, party_records, cut, cut_leg, no_prices, whole_fill, leg_trade, cancel_entry, cancel_order}
use Rattle.rules.specs.Auctions.{put_auction, begin, close, answer}
use Rattle.rules.proofs.Tables.{positive}
use Rattle.rules.proofs.Shrinks.{Shrinks, shrinks-refl, shrinks-trans, cut-shrinks, cut_leg-shrinks, whole-shrinks, trade-shrinks, begin-shrinks, close-shrinks, answer-shrinks}
use Rattle.rules.proofs.Gives.{cut_at, cut-other, cut_leg-at, cut_leg-other}
use Rattle.rules.proofs.Control.{Proper, proper-apart, Trading, trading-apart, meets-standing}
use Rattle.rules.proofs.Laws.{sum-at}
use Rattle.rules.proofs.Firsts.{live-slot, order-slot}

-- one for each row that is live
abbrev pub alive : List Entry → ℕ → ℕ
alive es i = min (get_or es i no_entry).units 1

abbrev pub alive_order : List LegOrder → ℕ → ℕ
alive_order os i = min (get_or os i no_order).contracts 1

abbrev pub load : State → ℕ
load b = 14 * sum_n (alive b.entries) 32 + 14 * sum_n (alive_order b.orders) 32

-- A move writes no more than what it finishes pays for, and c besides.
pub record Pays (c : ℕ) (b : State) (m : Moved) : Type 0 where
  pub shrinks : Shrinks b m.state
  pub paid : length m.records + load m.state ≤ load b + c

-- What the bound needs of a state: tables of 32 rows, and strategies of six legs or fewer, by rising series.
pub record Six (b : State) : Type 0 where
  pub entries : length b.entries ≡ 32
  pub orders : length b.orders ≡ 32
  pub count : (k : ℕ) → (strategy_at b k).count ≤ 6
  pub rising : (k i j : ℕ) → i < j → j < (strategy_at b k).count → (leg_at (strategy_at b k) i).series < (leg_at (strategy_at b k) j).series

pub six-shrinks : {b c : State} → Shrinks b c → Six b → Six c
six-shrinks h s = record {
  entries = h.entry_rows ∙ s.entries;
  orders = h.order_rows ∙ s.orders;
  count = λ k. rw (h.strategy k).count (s.count k);
  rising = λ k. rw ((h.strategy k).legs, (h.strategy k).count) (s.rising k);
}

pub pays-nothing : (c : ℕ) (b : State) → Pays c b (still b)
pays-nothing c b = record { shrinks = shrinks-refl b; paid = omega arith }

pub pays-more : {c d : ℕ} {b : State} {m : Moved} → c ≤ d → Pays c b m → Pays d b m
pays-more h p = record { shrinks = p.shrinks; paid = omega arith }

pub pays-both : {c d : ℕ} {b : State} {m : Moved} (f : State → Moved) → Pays c b m → Pays d m.state (f m.state) → Pays (c + d) b (and_then m f)
unfolding and_then
pays-both f h r = record { shrinks = shrinks-trans h.shrinks r.shrinks; paid = simp length-append (omega arith) }

pub pays-then : {c d : ℕ} {b : State} {m : Moved} {f : State → Moved} → Pays c b m → ((b₁ : State) → Shrinks b b₁ → Pays d b₁ (f b₁)) → Pays (c + d) b (and_then m f)
pays-then {m = m} {f} h k = pays-both f h (k m.state h.shrinks)

pub if-pays : {c : ℕ} {b : State} {x y : Moved} (t : Bool) → (t ≡ true → Pays c b x) → (t ≡ false → Pays c b y) → Pays c b (pick t x y)
if-pays {c} {b} t h k = pick-by (Pays c b) t h k

-- SUMS
-- a sum of ones
pub sum_ones : (f : ℕ → ℕ) (k : ℕ) → ((i : ℕ) → f i ≡ 1) → sum_n f k ≡ k
unfolding sum_n
sum_ones f zero h = refl
sum_ones f (suc k) h = omega (arith, sum_ones f k h, h k)

-- no more than the rows
pub few-entries : (es : List Entry) → sum_n (alive es) 32 ≤ 32
few-entries es = omega (arith, sum-le (alive es) 1 (λ i. omega arith) 32)

pub few-orders : (os : List LegOrder) → sum_n (alive_order os) 32 ≤ 32
few-orders os = omega (arith, sum-le (alive_order os) 1 (λ i. omega arith) 32)

-- CUTS
pub cut-alive : (b : State) (i q : ℕ) → i < 32 → sum_n (alive (cut b i q).entries) 32 + min (entry_at b i).units 1 ≡ sum_n (alive b.entries) 32 + min ((entry_at b i).units - q) 1
cut-alive b i q l =
    sum-at (alive (cut b i q).entries) (alive b.entries) 32 i l (λ j n. ap (λ (e : Entry). min e.units 1) (cut-other b i q j n))
    ∙ ap (λ (e : Entry). sum_n (alive b.entries) 32 + min e.units 1) (cut_at b i q)

pub cut-orders : (b : State) (i q : ℕ) → (cut b i q).orders ≡ b.orders
unfolding cut with_entries
cut-orders b i q = refl

cut_leg-alive : (b : State) (i q : ℕ) → i < 32 → sum_n (alive_order (cut_leg b i q).orders) 32 + min (order_at b i).contracts 1 ≡ sum_n (alive_order b.orders) 32 + min ((order_at b i).contracts - q) 1
cut_leg-alive b i q l =
    sum-at (alive_order (cut_leg b i q).orders) (alive_order b.orders) 32 i l (λ j n. ap (λ (o : LegOrder). min o.contracts 1) (cut_leg-other b i q j n))
    ∙ ap (λ (o : LegOrder). sum_n (alive_order b.orders) 32 + min o.contracts 1) (cut_leg-at b i q)

cut_leg-entries : (b : State) (i q : ℕ) → (cut_leg b i q).entries ≡ b.entries
unfolding cut_leg with_orders
cut_leg-entries b i q = refl

-- WHOLE AGAINST WHOLE
-- a party's records: its whole fill, and one a leg
pub party-length : (e : Entry) (s : Strategy) (q level : ℕ) (ps : List ℕ) → length (party_records e s q level ps) ≡ suc s.count
unfolding party_records
party-length e s q level ps =
    rw (length-append, length-join)
    (omega (arith, sum_ones (λ (i : ℕ). length (leg_record_at e s.legs q ps i)) s.count (λ i. refl)))

module _ (b : State) (six : Six b) (a h level q : ℕ) (p : Proper b a h level q) where
  -- what is live after the two cuts
  both-alive : sum_n (alive (cut (cut b a q) h q).entries) 32 + 2 ≡ sum_n (alive b.entries) 32 + min ((entry_at b a).units - q) 1 + min ((entry_at b h).units - q) 1
  both-alive =
      let some = p.some in
      let mine = p.mine in
      let its = p.its in
      let x = cut-alive b a q (live-slot b six.entries a (omega arith)) in
      let y = rw (cut-other b a q h (proper-apart p)) at (cut-alive (cut b a q) h q (live-slot b six.entries h (omega arith))) in
      let u : min (entry_at b a).units 1 ≡ 1 = omega arith in
      let v : min (entry_at b h).units 1 ≡ 1 = omega arith in
      omega (arith, rw u at x, rw v at y)

  both-length : length (party_records (entry_at b a) (strategy_of b (entry_at b a)) q level no_prices ++ party_records (entry_at b h) (strategy_of b (entry_at b a)) q level no_prices) ≤ 14
  both-length =
      let s : Strategy = strategy_of b (entry_at b a) in
      rw length-append
      (omega (arith, party-length (entry_at b a) s q level no_prices, party-length (entry_at b h) s q level no_prices, six.count (entry_at b a).strategy))

  -- a fill is 14 records or fewer, and is paid where it finishes one of the two
  whole_by : (c : ℕ) → 14 + 14 * (min ((entry_at b a).units - q) 1 + min ((entry_at b h).units - q) 1) ≤ 28 + c → Pays c b (whole_fill b a h level q)
  unfolding whole_fill
  whole_by c few = record {
    shrinks = unfold whole_fill in whole-shrinks b a h level q;
    paid = pick-by (λ (m : Moved). length m.records + load m.state ≤ load b + c) (eqb q 0)
        (λ e. omega arith)
        (λ e. omega (arith, both-alive, both-length, ap (λ (os : List LegOrder). sum_n (alive_order os) 32) (cut-orders (cut b a q) h q ∙ cut-orders b a q)));
  }

  pub whole-most : Pays 14 b (whole_fill b a h level q)
  whole-most = whole_by 14 (omega arith)

  pub whole-ends : min (entry_at b a).units (entry_at b h).units ≤ q → Pays 0 b (whole_fill b a h level q)
  whole-ends e = whole_by 0 (omega arith)

-- LEG AGAINST LEG: one of the two is finished
is_one : (n : ℕ) → 0 < n → min n 1 ≡ 1
is_one n h = omega arith

not_more : (n q x y : ℕ) → 0 < n → y + min n 1 ≡ x + min (n - q) 1 → y ≤ x
not_more n q x y s h = let e = rw (is_one n s) at h in omega arith

one_less : (n q x y : ℕ) → 0 < n → n ≤ q → y + min n 1 ≡ x + min (n - q) 1 → suc y ≤ x
one_less n q x y s l h = let e = rw (is_one n s) at h in omega arith

one-gone : (c p q x y z : ℕ) → 0 < c → 0 < p → q ≡ min c p → y + min c 1 ≡ x + min (c - q) 1 → z + min p 1 ≡ y + min (p - q) 1 → suc z ≤ x
one-gone c p q x y z s t m g h =
    let k = not_more c q x y s g in
    let l = not_more p q y z t h in
    ⊎_elim
    (λ (n : c ≤ q). let r = one_less c q x y s n g in omega (arith, r, l))
    (λ (n : p ≤ q). let r = one_less p q y z t n h in omega (arith, r, k))
    (least c p q m)
  where
    least : (c p q : ℕ) → q ≡ min c p → (c ≤ q) ⊎ (p ≤ q)
    least c p q m = ⊎_elim (λ (l : c < p). inl (omega arith)) (λ (l : p ≤ c). inr (omega arith)) (lt-or-le c p)

pub trade-pays : (b : State) → Six b → (a h : ℕ) → Trading b a h → Pays 0 b (leg_trade b a h)
unfolding leg_trade
trade-pays b six a h t =
    let q : ℕ = min (order_at b a).contracts (order_at b h).contracts in
    let its : 0 < (order_at b h).contracts = (meets-standing (order_at b a) (order_at b h) t.meets).live in
    let x = cut_leg-alive b a q (order-slot b six.orders a t.live) in
    let y = rw (cut_leg-other b a q h (trading-apart t)) at (cut_leg-alive (cut_leg b a q) h q t.slot) in
    let gone = one-gone (order_at b a).contracts (order_at b h).contracts q (sum_n (alive_order b.orders) 32) (sum_n (alive_order (cut_leg b a q).orders) 32) (sum_n (alive_order (cut_leg (cut_leg b a q) h q).orders) 32) t.live its refl x y in
    let same = ap (λ (es : List Entry). sum_n (alive es) 32) (cut_leg-entries (cut_leg b a q) h q ∙ cut_leg-entries b a q) in
    record { shrinks = unfold leg_trade in trade-shrinks b a h; paid = by-gone (sum_n (alive b.entries) 32) (sum_n (alive (cut_leg (cut_leg b a q) h q).entries) 32) _ _ same gone }
  where
    by-gone : (x y z w : ℕ) → y ≡ x → suc z ≤ w → 2 + (14 * y + 14 * z) ≤ 14 * x + 14 * w + 0
    by-gone x y z w h k = omega arith

-- CANCELS
-- a record is paid where a live row is finished
finish-pays : (b c : State) (r : Record) (n : ℕ) → Shrinks b c → 0 < n →
    sum_n (alive c.entries) 32 + sum_n (alive_order c.orders) 32 + min n 1 ≡ sum_n (alive b.entries) 32 + sum_n (alive_order b.orders) 32 + min (n - n) 1 → Pays 0 b (record { state = c; records = r ∷ [] })
finish-pays b c r n h some gone = record { shrinks = h; paid = omega (arith, gone) }

pub cancel-pays : (b : State) → Six b → (i : ℕ) → Pays 0 b (cancel_entry i b)
unfolding cancel_entry
cancel-pays b six i =
    if-pays _ (λ e. pays-nothing 0 b)
    (λ e. let some : 0 < (entry_at b i).units = positive _ e in
    finish-pays b _ _ (entry_at b i).units (cut-shrinks b i _) some (rw (cut-orders b i (entry_at b i).units) (omega (arith, cut-alive b i (entry_at b i).units (live-slot b six.entries i some)))))

pub cancel_order-pays : (b : State) → Six b → (i : ℕ) → Pays 0 b (cancel_order i b)
unfolding cancel_order
cancel_order-pays b six i =
    if-pays _ (λ e. pays-nothing 0 b)
    (λ e. let some : 0 < (order_at b i).contracts = positive _ e in
    finish-pays b _ _ (order_at b i).contracts (cut_leg-shrinks b i _) some (rw (cut_leg-entries b i (order_at b i).contracts) (omega (arith, cut_leg-alive b i (order_at b i).contracts (order-slot b six.orders i some)))))

-- AUCTIONS: a record 4 or 5, and the tables stay
put-load : (b : State) (k n t : ℕ) (a : Bool) → load (put_auction b k n t a) ≡ load b
unfolding put_auction with_strategies
put-load b k n t a = refl

pub begin-pays : (b : State) (i : ℕ) → Pays 1 b (begin i b)
unfolding begin
begin-pays b i = record { shrinks = unfold begin in begin-shrinks b i; paid = omega (arith, put-load b (entry_at b i).strategy (entry_at b i).number b.clock false) }

pub close-pays : (b : State) (k : ℕ) → Pays 1 b (close k b)
unfolding close
close-pays b k = record { shrinks = unfold close in close-shrinks b k; paid = omega (arith, put-load b k 0 0 false) }

pub answer-pays : (b : State) (k side : ℕ) → Pays 0 b (still (answer k side b))
unfolding answer
answer-pays b k side = record {
  shrinks = unfold answer in answer-shrinks b k side;
  paid = pick_all (λ (c : State). 0 + load c ≤ load b + 0) _ (omega (arith, put-load b k (strategy_at b k).starter (strategy_at b k).begun true)) (omega arith);
}
