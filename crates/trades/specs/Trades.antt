-- Laws of the trade of a leg order.
use Rattle.std.specs.Prelude.{◌≡◌, Bool, true, false, List, [], ◌∷◌, ℕ, ◌+◌, ◌-◌, ◌≤◌, ◌<◌, min, eqb, ltb, get_or, set}
use Rattle.std.proofs.Math.Path.{refl, ap}
use Rattle.std.proofs.Common.{sym, ◌∙◌, ⊎_elim, arith, eq-eqb, ne_eqb, lt-ltb, le-ltb, length-set}
use Rattle.std.proofs.Math.ListN.{length, get_or-eq_default}
use Rattle.base.specs.Pick.{pick, pick_all, pick_true, pick-false, tests}
use Rattle.base.specs.Walks.{lt-or-le}
use Rattle.rules.specs.declared.LegOrder.{LegOrder}
use Rattle.rules.specs.declared.Record.{Record}
use Rattle.rules.specs.declared.State.{State}
use Rattle.rules.specs.State.{no_order, order_at, with_orders, Netted}
use Rattle.rules.specs.Moves.{still, each}
use Rattle.rules.specs.Fills.{order_record, order_row, cut_order, cut_leg, leg_trade}
use Rattle.rules.specs.Events.{ahead_order, best_order, trade_once, trade_all}
use Rattle.rules.proofs.Turns.{idle}
use Rattle.records.specs.Space.{Appended, Room}
use Rattle.records.specs.Done.{RoomIn, DoneIn, room_of, done-of, in-done, slots-none, slots-move, slots-room}
use Rattle.tables.specs.Only.{only_orders}
use Rattle.legs.specs.Search.{best-order-most}
use Rattle.records.specs.declared.Records.{Records}

-- the records of a trade of q contracts at the resting price
abbrev pub trade_records : LegOrder → LegOrder → ℕ → List Record
trade_records o p q = order_record o q p.price ∷ (order_record p q p.price ∷ [])

-- the slot that the order at slot a trades with next: 32 where it has nothing left or none meets it
unfoldable pub next_trade : ℕ → State → ℕ
next_trade a b = pick (eqb (order_at b a).contracts 0) 32 (best_order b (order_at b a))

-- the leg orders after a trade of the one at slot a with the one at slot h
unfoldable pub traded_rows : List LegOrder → ℕ → ℕ → ℕ → List LegOrder
traded_rows os a h q =
    let first : List LegOrder = set os a (cut_order (get_or os a no_order) q) in
    set first h (cut_order (get_or first h no_order) q)

-- a book with these leg orders, whose stored nets are theirs
pub record HasOrders (os : List LegOrder) (b : State) : Type 0 where
  pub orders : b.orders ≡ os
  pub nets : Netted b

-- a book with other leg orders
abbrev pub put_orders : List LegOrder → State → State
put_orders os b = with_orders b os

-- laws

-- it hangs on the leg orders alone
pub next-only : (a : ℕ) (b : State) → next_trade a (only_orders b.orders) ≡ next_trade a b
unfolding next_trade best_order ahead_order
next-only a b = refl

-- a fill of leg orders: none of 0 contracts
pub row-none : (o : LegOrder) (q price : ℕ) → q ≡ 0 → order_row o q price ≡ []
unfolding order_row
row-none o q price e = search tests

pub row-some : (o : LegOrder) (q price : ℕ) → (q ≡ 0 → ⊥) → order_row o q price ≡ order_record o q price ∷ []
unfolding order_row
row-some o q price e = search tests

-- past the table stands no order
order-past : (b : State) (i : ℕ) → length b.orders ≡ 32 → 32 ≤ i → (order_at b i).contracts ≡ 0
order-past b i n h = ap (λ (o : LegOrder). o.contracts) (get_or-eq_default b.orders no_order {n = i} (omega arith))

-- ALL TRADES
pub next-none : (a : ℕ) (b : State) → (order_at b a).contracts ≡ 0 → 32 ≡ next_trade a b
unfolding next_trade
next-none a b e = sym (pick_true _ _ _ (eq-eqb _ _ e))

pub next_past : (a : ℕ) (b : State) → length b.orders ≡ 32 → 32 ≤ a → 32 ≡ next_trade a b
next_past a b n h = next-none a b (order-past b a n h)

pub next-some : (a : ℕ) (b : State) {h : ℕ} → ¬ ((order_at b a).contracts ≡ 0) → h ≡ best_order b (order_at b a) → h ≡ next_trade a b
unfolding next_trade
next-some a b e g = g ∙ sym (pick-false _ _ _ (ne_eqb _ _ e))

pub next-most : (a : ℕ) (b : State) → next_trade a b ≤ 32
unfolding next_trade
next-most a b = pick_all (λ (x : ℕ). x ≤ 32) _ (omega arith) (best-order-most b (order_at b a))

-- an order that trades stands in the table
pub next-within : (a : ℕ) (b : State) {h : ℕ} → length b.orders ≡ 32 → h ≡ next_trade a b → ¬ (h ≡ 32) → a < 32
next-within a b n e z = ⊎_elim (λ l. l) (λ l. absurd (z (e ∙ sym (next_past a b n l)))) (lt-or-le a 32)

pub once-trades : (a i : ℕ) (b : State) → next_trade a b < 32 → trade_once a i b ≡ leg_trade b a (next_trade a b)
unfolding next_trade trade_once pick
once-trades a i b = go (eqb (order_at b a).contracts 0)
  where
    go : (t : Bool) → pick t 32 (best_order b (order_at b a)) < 32
        → pick t (still b) (pick (ltb (best_order b (order_at b a)) 32) (leg_trade b a (best_order b (order_at b a))) (still b)) ≡ leg_trade b a (pick t 32 (best_order b (order_at b a)))
    go true l = absurd (omega arith)
    go false l = pick_true _ _ _ (lt-ltb _ 32 l)

pub once-still : (a i : ℕ) (b : State) → 32 ≤ next_trade a b → trade_once a i b ≡ still b
unfolding next_trade trade_once pick
once-still a i b = go (eqb (order_at b a).contracts 0)
  where
    go : (t : Bool) → 32 ≤ pick t 32 (best_order b (order_at b a))
        → pick t (still b) (pick (ltb (best_order b (order_at b a)) 32) (leg_trade b a (best_order b (order_at b a))) (still b)) ≡ still b
    go true l = refl
    go false l = pick-false _ _ _ (le-ltb _ 32 l)

-- from the first turn on that does not trade nothing moves
pub trades-stop : (a i : ℕ) (b c : State) {h : ℕ} → i ≤ 32 → c ≡ (each (trade_once a) i b).state → h ≡ next_trade a c → h ≡ 32 → trade_all a b ≡ each (trade_once a) i b
unfolding trade_all
trades-stop a i b c l e g z =
    let q : 32 ≡ 32 - i + i = omega arith in
    let s : 32 ≤ next_trade a (each (trade_once a) i b).state = rw (← e) (omega (arith, g, z)) in
    ap (λ (k : ℕ). each (trade_once a) k b) q ∙ idle (trade_once a) b i (λ j. once-still a j (each (trade_once a) i b).state s) (32 - i)

-- where none meets the order nothing moves
pub trades-none : (a : ℕ) (b : State) {h : ℕ} → h ≡ next_trade a (only_orders b.orders) → 32 ≤ h → trade_all a b ≡ still b
unfolding each
trades-none a b {h} e l =
    let g : h ≡ next_trade a b = e ∙ next-only a b in
    trades-stop a 0 b b (omega arith) refl g (omega (arith, g, next-most a b))

-- a turn that trades
pub trade-turn : (a i : ℕ) (c : State) {h : ℕ} → h ≡ next_trade a c → ¬ (h ≡ 32) → trade_once a i c ≡ leg_trade c a h
trade-turn a i c e z = once-trades a i c (let l : next_trade a c < 32 = omega (arith, e, z, next-most a c) in l) ∙ ap (leg_trade c a) (sym e)

traded-length : (os : List LegOrder) (a h q : ℕ) → length (traded_rows os a h q) ≡ length os
unfolding traded_rows
traded-length os a h q =
    let first : List LegOrder = set os a (cut_order (get_or os a no_order) q) in
    length-set first h (cut_order (get_or first h no_order) q) ∙ length-set os a (cut_order (get_or os a no_order) q)

-- THE LOOP, which has made i turns
pub record Trading (os : List LegOrder) (a : ℕ) (r₀ r₁ : Records) (rows : List LegOrder) (i : ℕ) : Type 0 where
  pub most : i ≤ 32
  pub size : length rows ≡ 32
  pub done : DoneIn (HasOrders os) (each (trade_once a) i) r₀ r₁ (put_orders rows)

-- a book as it was
pub put_same : (os : List LegOrder) (b : State) → HasOrders os b → put_orders os b ≡ b
unfolding with_orders
put_same os b h = rw (sym h.orders, ← h.nets.are)

pub trading-none : (os : List LegOrder) (a : ℕ) (r₀ : Records) → length os ≡ 32 → Trading os a r₀ r₀ os 0
trading-none os a r l = record { most = omega arith; size = l; done = slots-none _ (put_same os) }

module _ {os : List LegOrder} {a : ℕ} {r₀ r₁ : Records} {rows : List LegOrder} {i : ℕ} (g : Trading os a r₀ r₁ rows i) where
  -- the slot that the rows give is that of the book
  next-put : {h : ℕ} → h ≡ next_trade a (only_orders rows) → (b : State) → h ≡ next_trade a (put_orders rows b)
  unfolding with_orders
  next-put e b = e ∙ next-only a (with_orders b rows)

  -- both slots are in the table
  pub trading-slots : {h : ℕ} → h ≡ next_trade a (only_orders rows) → ¬ (h ≡ 32) → (a < 32) × (h < 32)
  trading-slots {h} e z = (next-within a (only_orders rows) g.size e z, let l : h < 32 = omega (arith, e, z, next-most a (only_orders rows)) in l)

  turn-put : {h : ℕ} → h ≡ next_trade a (only_orders rows) → ¬ (h ≡ 32) → (b : State) → trade_once a i (put_orders rows b) ≡ leg_trade (put_orders rows b) a h
  turn-put e z b = trade-turn a i (put_orders rows b) (next-put e b) z

  pub trading-room : {h : ℕ} → RoomIn (HasOrders os) (trade_all a) r₀ → i < 32 → h ≡ next_trade a (only_orders rows) → ¬ (h ≡ 32)
      → Room r₁ (trade_records (get_or rows a no_order) (get_or rows h no_order) (min (get_or rows a no_order).contracts (get_or rows h no_order).contracts))
  unfolding trade_all leg_trade with_orders
  trading-room r l e z = room_of (turn-put e z r.book) (slots-room (trade_once a) g.done 32 r l)

  pub trading-moves : {h : ℕ} → i < 32 → h ≡ next_trade a (only_orders rows) → ¬ (h ≡ 32) → {r₂ : Records} {q : ℕ} {left : List LegOrder}
      → q ≡ min (get_or rows a no_order).contracts (get_or rows h no_order).contracts → Appended r₁ r₂ (trade_records (get_or rows a no_order) (get_or rows h no_order) q)
      → left ≡ traded_rows rows a h q → Trading os a r₀ r₂ left (i + 1)
  unfolding leg_trade cut_leg with_orders traded_rows
  trading-moves l e z {q = q} f w t = record {
    most = omega arith;
    size = ap length t ∙ traded-length rows a _ q ∙ g.size;
    done = slots-move (trade_once a) g.done (λ b h. done-of (turn-put e z b) (record { wrote = rw f at w; state = rw (t, f) refl }));
  }

  pub trading-stops : {h : ℕ} → h ≡ next_trade a (only_orders rows) → h ≡ 32 → DoneIn (HasOrders os) (trade_all a) r₀ r₁ (put_orders rows)
  trading-stops e z = in-done (λ b h. trades-stop a i b (put_orders rows b) g.most (g.done.done b h).state (next-put e b) z) g.done

  pub trading-all : 32 ≤ i → DoneIn (HasOrders os) (trade_all a) r₀ r₁ (put_orders rows)
  unfolding trade_all
  trading-all l = let e : i ≡ 32 = omega (arith, g.most) in rw e at g.done
