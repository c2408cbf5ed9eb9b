-- What no move of an event changes, and what it may only lessen: rows keep all but their quantity, and no quantity rises.
use mathlib.Core.Path.{◌≡◌, refl, sym, ◌∙◌, ap}
use mathlib.Core.Bool.{Bool}
use mathlib.Core.Logic.{⊎_elim}
use mathlib.Core.List.{List, [], ◌∷◌}
use Prim.Native.Nat.{ℕ, zero, suc, ◌≤◌, ◌<◌}
use native.Mathlib.Omega.{arith}
use lib.ListN.{length, get_or, set, length-set, get_or-eq_default}
use Rattle.base.specs.Pick.{pick_all}
use Rattle.base.specs.Walks.{slot, walk, table-slot, length-table, lt-or-le}
use Rattle.rules.specs.declared.Leg.{Leg}
use Rattle.rules.specs.declared.Specialist.{Specialist}
use Rattle.rules.specs.declared.Strategy.{Strategy}
use Rattle.rules.specs.declared.Entry.{Entry}
use Rattle.rules.specs.declared.LegOrder.{LegOrder}
use Rattle.rules.specs.declared.State.{State}
use Rattle.rules.specs.State.{no_entry, no_order, no_strategy, entry_at, order_at, strategy_at, with_entries, with_orders, with_strategies, Netted}
use Rattle.rules.specs.Moves.{Moved, and_then}
pub use Rattle.rules.specs.Shrinks.{SameEntry, SameOrder, SameStrategy, Shrinks}
use Rattle.rules.specs.Fills.{cut_entry, cut_order, cut, cut_leg, cut_at, cut_orders, takes_at, cut_by_legs, whole_fill, take_legs, leg_fill, leg_trade, cancel_entry, cancel_order, leg_quotas}
use Rattle.rules.specs.Specialists.{with_specialist, on_specialist}
use Rattle.rules.specs.Auctions.{with_auction, put_auction, begin, close, answer}
use Rattle.rules.proofs.NetTables.{nets-kept}

pub same-entry : (e : Entry) → SameEntry e e
same-entry e = record { number = refl; member = refl; strategy = refl; side = refl; class = refl; life = refl; level = refl; units = omega arith }

pub same-order : (o : LegOrder) → SameOrder o o
same-order o = record { number = refl; member = refl; series = refl; side = refl; price = refl; contracts = omega arith }

pub same-strategy : (s : Strategy) → SameStrategy s s
same-strategy s = record { legs = refl; count = refl; series = refl }

pub entry-trans : {e f g : Entry} → SameEntry e f → SameEntry f g → SameEntry e g
entry-trans h k = record {
  number = k.number ∙ h.number;
  member = k.member ∙ h.member;
  strategy = k.strategy ∙ h.strategy;
  side = k.side ∙ h.side;
  class = k.class ∙ h.class;
  life = k.life ∙ h.life;
  level = k.level ∙ h.level;
  units = omega (arith, h.units, k.units);
}

pub order_trans : {o p q : LegOrder} → SameOrder o p → SameOrder p q → SameOrder o q
order_trans h k = record {
  number = k.number ∙ h.number;
  member = k.member ∙ h.member;
  series = k.series ∙ h.series;
  side = k.side ∙ h.side;
  price = k.price ∙ h.price;
  contracts = omega (arith, h.contracts, k.contracts);
}

pub strategy-trans : {s t u : Strategy} → SameStrategy s t → SameStrategy t u → SameStrategy s u
strategy-trans h k = record { legs = k.legs ∙ h.legs; count = k.count ∙ h.count; series = k.series ∙ h.series }

pub shrinks-trans : {b c d : State} → Shrinks b c → Shrinks c d → Shrinks b d
shrinks-trans h k = record {
  entry = λ i. entry-trans (h.entry i) (k.entry i);
  order = λ i. order_trans (h.order i) (k.order i);
  strategy = λ i. strategy-trans (h.strategy i) (k.strategy i);
  entry_rows = k.entry_rows ∙ h.entry_rows;
  order_rows = k.order_rows ∙ h.order_rows;
  strategy_rows = k.strategy_rows ∙ h.strategy_rows;
  defined = k.defined ∙ h.defined;
  opened = k.opened ∙ h.opened;
  clock = k.clock ∙ h.clock;
  timer = k.timer ∙ h.timer;
  last = k.last ∙ h.last;
  national = k.national ∙ h.national;
  range = k.range ∙ h.range;
  nets = λ n. k.nets (h.nets n);
}

-- what holds of a slot after a store
pub set-by : {A : Type 0} (P : A → Type 0) (d x : A) (l : List A) (i j : ℕ) → P (get_or l j d) → (j ≡ i → P x) → P (get_or (set l i x) j d)
set-by P d x [] i j p q = p
set-by P d x (y ∷ l) zero zero p q = q refl
set-by P d x (y ∷ l) zero (suc j) p q = p
set-by P d x (y ∷ l) (suc i) zero p q = p
set-by P d x (y ∷ l) (suc i) (suc j) p q = set-by P d x l i j p (λ e. q (ap suc e))

-- a row changed in its place; past the end an empty row stays as it is
pub set_own : {A : Type 0} (f : A → A) (d : A) → f d ≡ d → (l : List A) (i : ℕ) → get_or (set l i (f (get_or l i d))) i d ≡ f (get_or l i d)
set_own f d e [] i = sym e
set_own f d e (y ∷ l) zero = refl
set_own f d e (y ∷ l) (suc i) = set_own f d e l i

-- a table of which one row was changed, to one that is the same but for what R allows
set_same : {A : Type 0} (R : A → A → Type 0) → ((x : A) → R x x) → (d : A) (f : A → A) → ((x : A) → R x (f x)) → (l : List A) (i j : ℕ) → R (get_or l j d) (get_or (set l i (f (get_or l i d))) j d)
set_same R own d f changed l i j = set-by (R (get_or l j d)) d _ l i j (own _) (λ e. rw e (changed _))

-- a state of which the tables and the nets alone have changed
tables-shrink : {b c : State} →
    ((i : ℕ) → SameEntry (entry_at b i) (entry_at c i)) → ((i : ℕ) → SameOrder (order_at b i) (order_at c i)) → ((k : ℕ) → SameStrategy (strategy_at b k) (strategy_at c k)) →
    length c.entries ≡ length b.entries → length c.orders ≡ length b.orders → length c.strategies ≡ length b.strategies →
    c.defined ≡ b.defined → c.opened ≡ b.opened → c.clock ≡ b.clock → c.timer ≡ b.timer → c.last ≡ b.last → c.national ≡ b.national → c.range ≡ b.range →
    (Netted b → Netted c) → Shrinks b c
tables-shrink f g h l m n d o k t z q r w = record {
  entry = f;
  order = g;
  strategy = h;
  entry_rows = l;
  order_rows = m;
  strategy_rows = n;
  defined = d;
  opened = o;
  clock = k;
  timer = t;
  last = z;
  national = q;
  range = r;
  nets = w;
}

-- an entry that has lost nothing is as it was
pub entry-same : (e f : Entry) → SameEntry e f → e.units ≤ f.units → f ≡ e
entry-same e f s h =
    let u : f.units ≡ e.units = omega (arith, s.units) in
    rows s.number s.member s.strategy s.side s.class s.life u s.level
  where
    rows : {n m k d c l u v n₁ m₁ k₁ d₁ c₁ l₁ u₁ v₁ : ℕ} → n ≡ n₁ → m ≡ m₁ → k ≡ k₁ → d ≡ d₁ → c ≡ c₁ → l ≡ l₁ → u ≡ u₁ → v ≡ v₁ →
        ◌≡◌ {A = Entry} (record { number = n; member = m; strategy = k; side = d; class = c; life = l; units = u; level = v })
        (record { number = n₁; member = m₁; strategy = k₁; side = d₁; class = c₁; life = l₁; units = u₁; level = v₁ })
    rows a b c d e f g h = rw (a, b, c, d, e, f, g, h)

pub shrinks-refl : (b : State) → Shrinks b b
shrinks-refl b = tables-shrink (λ i. same-entry _) (λ i. same-order _) (λ k. same-strategy _) refl refl refl refl refl refl refl refl refl refl (λ n. n)

pub entries-shrink : (b : State) (es : List Entry) → ((i : ℕ) → SameEntry (entry_at b i) (get_or es i no_entry)) → length es ≡ length b.entries → Shrinks b (with_entries b es)
unfolding with_entries
entries-shrink b es h n =
    tables-shrink h (λ i. same-order _) (λ k. same-strategy _) n refl refl refl refl refl refl refl refl refl (λ w. record { are = w.are })

pub orders-shrink : (b : State) (os : List LegOrder) → ((i : ℕ) → SameOrder (order_at b i) (get_or os i no_order)) → length os ≡ length b.orders → Shrinks b (with_orders b os)
unfolding with_orders
orders-shrink b os h n =
    tables-shrink (λ i. same-entry _) h (λ k. same-strategy _) refl n refl refl refl refl refl refl refl refl (λ w. record { are = refl })

pub strategies-shrink : (b : State) (ss : List Strategy) → ((k : ℕ) → SameStrategy (strategy_at b k) (get_or ss k no_strategy)) → length ss ≡ length b.strategies → Shrinks b (with_strategies b ss b.defined)
unfolding with_strategies
strategies-shrink b ss h n =
    tables-shrink (λ i. same-entry _) (λ i. same-order _) h refl refl n refl refl refl refl refl refl refl (λ w. record { are = w.are ∙ nets-kept b.orders b.strategies ss h })

-- cuts
pub cut-entry : (e : Entry) (q : ℕ) → SameEntry e (cut_entry e q)
cut-entry e q = record { number = refl; member = refl; strategy = refl; side = refl; class = refl; life = refl; level = refl; units = omega arith }

pub cut-order : (o : LegOrder) (q : ℕ) → SameOrder o (cut_order o q)
cut-order o q = record { number = refl; member = refl; series = refl; side = refl; price = refl; contracts = omega arith }

pub cut-shrinks : (b : State) (i q : ℕ) → Shrinks b (cut b i q)
unfolding cut
cut-shrinks b i q = entries-shrink b _ (set_same SameEntry same-entry no_entry (λ (e : Entry). cut_entry e q) (λ e. cut-entry e q) b.entries i) (length-set b.entries i _)

pub cut_leg-shrinks : (b : State) (i q : ℕ) → Shrinks b (cut_leg b i q)
unfolding cut_leg
cut_leg-shrinks b i q = orders-shrink b _ (set_same SameOrder same-order no_order (λ (o : LegOrder). cut_order o q) (λ o. cut-order o q) b.orders i) (length-set b.orders i _)

pub auction-shrinks : (b : State) (k n t : ℕ) (a : Bool) → Shrinks b (put_auction b k n t a)
unfolding put_auction
auction-shrinks b k n t a =
    strategies-shrink b _ (set_same SameStrategy same-strategy no_strategy (λ (s : Strategy). with_auction s n t a) (λ s. record { legs = refl; count = refl; series = refl }) b.strategies k)
    (length-set b.strategies k _)

pub specialist-shrinks : (k : ℕ) (p : Specialist) (b : State) → Shrinks b (on_specialist k p b)
unfolding on_specialist
specialist-shrinks k p b =
    strategies-shrink b _ (set_same SameStrategy same-strategy no_strategy (λ (s : Strategy). with_specialist s p) (λ s. record { legs = refl; count = refl; series = refl }) b.strategies k)
    (length-set b.strategies k _)

-- the table of leg orders is 32 rows, and a cut of it makes a table of 32
cut_orders-same : (os : List LegOrder) (qs : List ℕ) → length os ≡ 32 → (i : ℕ) → SameOrder (get_or os i no_order) (get_or (cut_orders os qs) i no_order)
unfolding cut_orders
cut_orders-same os qs n i =
    ⊎_elim
    (λ (l : i < 32). rw (table-slot (cut_at os qs) no_order 32 i l) (cut-order (get_or os i no_order) (slot qs i)))
    (λ (l : 32 ≤ i). rw (get_or-eq_default os no_order {n = i} (omega arith), get_or-eq_default (cut_orders os qs) no_order {n = i} (omega (arith, length-table (cut_at os qs) 32))) (same-order no_order))
    (lt-or-le i 32)

cut_orders-rows : (os : List LegOrder) (qs : List ℕ) → length (cut_orders os qs) ≡ 32
unfolding cut_orders
cut_orders-rows os qs = length-table (cut_at os qs) 32

module _ (os : List LegOrder) (n : length os ≡ 32) (side q : ℕ) (legs : List Leg) (ps : List ℕ) where
  cut_by_legs-rows : (count : ℕ) → length (cut_by_legs os (takes_at side q legs ps) count) ≡ 32
  unfolding cut_by_legs walk
  cut_by_legs-rows zero = n
  cut_by_legs-rows (suc k) = cut_orders-rows (cut_by_legs os (takes_at side q legs ps) k) (leg_quotas os (takes_at side q legs ps k))

  cut_by_legs-same : (count : ℕ) (i : ℕ) → SameOrder (get_or os i no_order) (get_or (cut_by_legs os (takes_at side q legs ps) count) i no_order)
  unfolding cut_by_legs walk
  cut_by_legs-same zero i = same-order _
  cut_by_legs-same (suc k) i =
      order_trans (cut_by_legs-same k i) (cut_orders-same (cut_by_legs os (takes_at side q legs ps) k) (leg_quotas os (takes_at side q legs ps k)) (cut_by_legs-rows k) i)

-- the moves
pub whole-shrinks : (b : State) (a h level q : ℕ) → Shrinks b (whole_fill b a h level q).state
unfolding whole_fill
whole-shrinks b a h level q =
    pick_all (λ (m : Moved). Shrinks b m.state) _ (shrinks-refl b) (shrinks-trans (cut-shrinks b a q) (cut-shrinks (cut b a q) h q))

pub take_legs-shrinks : (b : State) → length b.orders ≡ 32 → (a : ℕ) (s : Strategy) (ps : List ℕ) (q : ℕ) → Shrinks b (take_legs b a s ps q).state
unfolding take_legs cut with_entries
take_legs-shrinks b n a s ps q =
    shrinks-trans (cut-shrinks b a q)
    (orders-shrink (cut b a q) _ (cut_by_legs-same b.orders n (entry_at b a).side q s.legs ps s.count)
    (cut_by_legs-rows b.orders n (entry_at b a).side q s.legs ps s.count ∙ sym n))

pub legs-shrinks : (b : State) → length b.orders ≡ 32 → (a : ℕ) → Shrinks b (leg_fill a b).state
unfolding leg_fill
legs-shrinks b n a = take_legs-shrinks b n a _ _ _

pub trade-shrinks : (b : State) (a h : ℕ) → Shrinks b (leg_trade b a h).state
unfolding leg_trade
trade-shrinks b a h = shrinks-trans (cut_leg-shrinks b a _) (cut_leg-shrinks _ h _)

pub cancel-shrinks : (b : State) (i : ℕ) → Shrinks b (cancel_entry i b).state
unfolding cancel_entry
cancel-shrinks b i = pick_all (λ (m : Moved). Shrinks b m.state) _ (shrinks-refl b) (cut-shrinks b i _)

pub cancel_order-shrinks : (b : State) (i : ℕ) → Shrinks b (cancel_order i b).state
unfolding cancel_order
cancel_order-shrinks b i = pick_all (λ (m : Moved). Shrinks b m.state) _ (shrinks-refl b) (cut_leg-shrinks b i _)

pub begin-shrinks : (b : State) (i : ℕ) → Shrinks b (begin i b).state
unfolding begin
begin-shrinks b i = auction-shrinks b _ _ _ _

pub close-shrinks : (b : State) (k : ℕ) → Shrinks b (close k b).state
unfolding close
close-shrinks b k = auction-shrinks b k _ _ _

pub answer-shrinks : (b : State) (k side : ℕ) → Shrinks b (answer k side b)
unfolding answer
answer-shrinks b k side = pick_all (Shrinks b) _ (auction-shrinks b k _ _ _) (shrinks-refl b)

pub then-shrinks : (b : State) (x : Moved) (f : State → Moved) → Shrinks b x.state → Shrinks x.state (f x.state).state → Shrinks b (and_then x f).state
unfolding and_then
then-shrinks b x f h k = shrinks-trans h k
