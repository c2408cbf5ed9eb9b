-- "Day end: records 5 by strategy, 3 by number, then a fresh book with the new timer."
use mathlib.Core.Path.{◌≡◌, refl, sym, ◌∙◌, ap}
use mathlib.Core.Bool.{Bool, true, false}
use mathlib.Core.Logic.{◌⊎◌, inl, inr, ⊎_elim}
use mathlib.Core.List.{List, [], ◌∷◌, ◌++◌, append-nil, Memᴰ}
use Prim.Native.Nat.{ℕ, zero, suc, ◌≤◌, ◌<◌}
use native.Mathlib.Omega.{arith}
use borrow.Author.Tests.{eqb-true, eqb-false, not-true, not-false}
use lib.Dec.{eqb}
use lib.ListN.{get_or}
use Rattle.base.specs.Pick.{pick-by}
use Rattle.base.specs.All.{All, all_nil, all_cons, all_append, all_map, Sorted, sort-nil, sort-cons, sorted-append}
use Rattle.base.specs.Walks.{below}
use Rattle.events.specs.declared.DayEnd.{DayEnd}
use Rattle.events.specs.declared.Event.TheVariants as E
use Rattle.rules.specs.declared.Entry.{Entry}
use Rattle.rules.specs.declared.LegOrder.{LegOrder}
use Rattle.rules.specs.declared.State.{State}
use Rattle.rules.specs.declared.Record.{Record}
use Rattle.rules.specs.State.{no_entry, no_order, entry_at, order_at, strategy_at, with_strategies}
use Rattle.rules.specs.Moves.{Moved, and_then, each}
use Rattle.rules.specs.Records.{kind_number}
use Rattle.rules.specs.Fills.{cancel_entry, cancel_order}
use Rattle.rules.specs.Auctions.{running, put_auction, close}
use Rattle.rules.specs.Events.{cancel_number, close_running, lowest_live, cancel_lowest, restart, on_day_end}
use Rattle.rules.specs.Step.{accept}
use Rattle.rules.specs.Valid.{Sound}
use Rattle.rules.specs.Sentences.{AcceptedEvent, Runs, IsKind, auction_ended, cancelled_record, cancelled_leg_record, DayEndSentence}
use Rattle.rules.proofs.Tables.{positive, mem-left, mem-right}
use Rattle.rules.proofs.Shrinks.{Shrinks, shrinks-refl, shrinks-trans, auction-shrinks, close-shrinks, cancel-shrinks, cancel_order-shrinks}
use Rattle.rules.proofs.Entering.{sound-auctions, sound-shrinks, auctions-same}
use Rattle.rules.proofs.Settled.{same_or, cancel-other, cancel-dead}
use Rattle.rules.proofs.Arrivals.{put_other, put-auctions}
use Rattle.rules.proofs.DayEnd.{Named, an-entry, an-order, left, lowest-named, cancel-stops, lowest-first, number-shrinks, Finished, day-ends}
use Rattle.rules.proofs.Cancels.{same-slot, same-order-slot, number-entry, number-order, number-strategies, cancel-orders, cancel_order-other, cancel_order-dead, cancel_order-entries}
use Rattle.rules.proofs.Endings.{running-low}
use Rattle.rules.proofs.Clocks.{runs}

-- RECORDS 5, of the first n strategies
record Closed (b : State) (n : ℕ) (rs : List Record) (c : State) : Type 0 where
  shrinks : Shrinks b c
  sound : Sound c
  ahead : (j : ℕ) → n ≤ j → strategy_at c j ≡ strategy_at b j
  entries : c.entries ≡ b.entries
  orders : c.orders ≡ b.orders
  each-one : (k : ℕ) → k < n → Runs b k → Memᴰ (auction_ended b k) rs
  only : All (λ (r : Record). Runs b r.place × (r ≡ auction_ended b r.place)) rs
  low : All (λ (r : Record). r.place < n) rs
  order : Sorted (λ (r s : Record). r.place < s.place) rs

close-sound : (k : ℕ) (b : State) → Sound b → Sound (close k b).state
unfolding close
close-sound k b v = sound-shrinks (auction-shrinks b k 0 0 false) (put-auctions b k 0 0 false (omega arith) (omega arith) (λ _. refl) (sound-auctions b v)) v

module _ (b : State) (n : ℕ) (rs : List Record) (c : State) (p : Closed b n rs c) where
  closed-not : (strategy_at b n).starter ≡ 0 → Closed b (suc n) (rs ++ []) c
  closed-not z = rw (append-nil rs) (record {
    shrinks = p.shrinks;
    sound = p.sound;
    ahead = λ j l. p.ahead j (omega arith);
    entries = p.entries;
    orders = p.orders;
    each-one = λ k l r. ⊎_elim (λ (q : k ≡ n). absurd (omega (arith, ap (λ (x : ℕ). (strategy_at b x).starter) q))) (λ (m : k < n). p.each-one k m r) (below l);
    only = p.only;
    low = all_map (λ r h. omega arith) p.low;
    order = p.order;
  })

  closed-one : Runs b n → Closed b (suc n) (rs ++ (auction_ended b n ∷ [])) (close n c).state
  unfolding close put_auction with_strategies
  closed-one r = record {
    shrinks = shrinks-trans p.shrinks (close-shrinks c n);
    sound = close-sound n c p.sound;
    ahead = λ j l. put_other c n 0 0 false j (λ q. omega arith) ∙ p.ahead j (omega arith);
    entries = p.entries;
    orders = p.orders;
    each-one = λ k l q. ⊎_elim (λ (e : k ≡ n). rw e (mem-right rs (auction_ended b n ∷ []) (Memᴰ.head refl))) (λ (m : k < n). mem-left rs (auction_ended b n ∷ []) (p.each-one k m q)) (below l);
    only = all_append p.only (all_cons (r, refl) all_nil);
    low = all_append (all_map (λ r h. omega arith) p.low) (all_cons (omega arith) all_nil);
    order = sorted-append p.order (sort-cons all_nil sort-nil) (all_map (λ r h. all_cons h all_nil) p.low);
  }

  closed-next : Closed b (suc n) (rs ++ (close_running n c).records) (close_running n c).state
  unfolding close_running close
  closed-next =
      let e : strategy_at c n ≡ strategy_at b n = p.ahead n (omega arith) in
      pick-by (λ (m : Moved). Closed b (suc n) (rs ++ m.records) m.state) (running c n)
      (λ r. rw (line e) (closed-one (positive _ (not-true _ (rw e at r)))))
      (λ r. closed-not (eqb-true _ _ (not-false _ (rw e at r))))
    where
      line : strategy_at c n ≡ strategy_at b n → (close n c).records ≡ auction_ended b n ∷ []
      line e = rw e

closed-each : (b : State) → Sound b → (n : ℕ) → Closed b n (each close_running n b).records (each close_running n b).state
unfolding each and_then
closed-each b v zero = record {
  shrinks = shrinks-refl b;
  sound = v;
  ahead = λ j l. refl;
  entries = refl;
  orders = refl;
  each-one = λ k l. absurd (omega arith);
  only = all_nil;
  low = all_nil;
  order = sort-nil;
}
closed-each b v (suc n) = closed-next b n _ _ (closed-each b v n)

-- RECORDS 3
named-less : {b c : State} {m : ℕ} → Shrinks b c → Named c m → Named b m
named-less s (an-entry i h l e) = an-entry i h (omega (arith, (s.entry i).units)) (sym (s.entry i).number ∙ e)
named-less s (an-order i h l e) = an-order i h (omega (arith, (s.order i).contracts)) (sym (s.order i).number ∙ e)

-- a row that is left, or has its record
abbrev Entry3 : State → List Record → State → ℕ → Type 0
Entry3 b rs c i = (entry_at c i ≡ entry_at b i) ⊎ (((entry_at c i).units ≡ 0) × Memᴰ (cancelled_record (entry_at b i)) rs)

abbrev Order3 : State → List Record → State → ℕ → Type 0
Order3 b rs c i = (order_at c i ≡ order_at b i) ⊎ (((order_at c i).contracts ≡ 0) × Memᴰ (cancelled_leg_record (order_at b i)) rs)

record Emptying (b : State) (rs : List Record) (c : State) : Type 0 where
  shrinks : Shrinks b c
  sound : Sound c
  entry : (i : ℕ) → Entry3 b rs c i
  order : (i : ℕ) → Order3 b rs c i
  only : All (IsKind 3) rs
  low : (m : ℕ) → Named c m → All (λ (r : Record). r.number < m) rs
  sorted : Sorted (λ (r s : Record). r.number < s.number) rs

-- the lowest number of all is cancelled: r is its record, and d the state after
module _ (b : State) (rs : List Record) (c : State) (p : Emptying b rs c) (n : ℕ) (named : Named c n) (lowest : (m : ℕ) → Named c m → n ≤ m)
    (d : State) (r : Record) (number : r.number ≡ n) (three : IsKind 3 r) (less : Shrinks c d) (sound : Sound d) (gone : Named d n → ⊥) where
  above : (m : ℕ) → Named d m → n < m
  above m q =
      let w : Named c m = named-less less q in
      same_or (n < m) m n (λ e. absurd (gone (rw e at q))) (λ e. strict n m (lowest m w) e)
    where
      strict : (n m : ℕ) → n ≤ m → (m ≡ n → ⊥) → n < m
      strict n m l e = omega arith

  emptied : ((i : ℕ) → Entry3 b (rs ++ (r ∷ [])) d i) → ((i : ℕ) → Order3 b (rs ++ (r ∷ [])) d i) → Emptying b (rs ++ (r ∷ [])) d
  emptied e o = record {
    shrinks = shrinks-trans p.shrinks less;
    sound = sound;
    entry = e;
    order = o;
    only = all_append p.only (all_cons three all_nil);
    low = λ m q. all_append (p.low m (named-less less q)) (all_cons (rw number (above m q)) all_nil);
    sorted = sorted-append p.sorted (sort-cons all_nil sort-nil) (all_map (λ x h. all_cons (rw number h) all_nil) (p.low n named));
  }

number-sound : (n : ℕ) (c : State) → Sound c → Sound (cancel_number n c).state
number-sound n c v = sound-shrinks (number-shrinks n c) (auctions-same (number-strategies n c) (number-shrinks n c).defined (sound-auctions c v)) v

-- the records of one cancel
entry-line : (c : State) (j : ℕ) → 0 < (entry_at c j).units → (cancel_entry j c).records ≡ cancelled_record (entry_at c j) ∷ []
unfolding cancel_entry
entry-line c j l =
    pick-by (λ (m : Moved). m.records ≡ cancelled_record (entry_at c j) ∷ []) (eqb (entry_at c j).units 0) (λ z. absurd (omega (arith, eqb-true (entry_at c j).units 0 z))) (λ _. refl)

order-line : (c : State) (j : ℕ) → 0 < (order_at c j).contracts → (cancel_order j c).records ≡ cancelled_leg_record (order_at c j) ∷ []
unfolding cancel_order
order-line c j l =
    pick-by (λ (m : Moved). m.records ≡ cancelled_leg_record (order_at c j) ∷ []) (eqb (order_at c j).contracts 0) (λ z. absurd (omega (arith, eqb-true (order_at c j).contracts 0 z))) (λ _. refl)

module _ (b : State) (rs : List Record) (c : State) (p : Emptying b rs c) (n : ℕ) (lowest : (m : ℕ) → Named c m → n ≤ m) where
  after-entry : (j : ℕ) → j < 32 → 0 < (entry_at c j).units → (entry_at c j).number ≡ n → Emptying b (rs ++ (cancel_number n c).records) (cancel_number n c).state
  unfolding kind_number
  after-entry j low l e =
      let x : Moved = cancel_entry j c in
      let is : cancel_number n c ≡ x = number-entry c p.sound n j low e l in
      let d : State = x.state in
      let same : entry_at c j ≡ entry_at b j = ⊎_elim (λ q. q) (λ q. absurd (omega (arith, q.0))) (p.entry j) in
      let r : Record = cancelled_record (entry_at b j) in
      let line : x.records ≡ r ∷ [] = entry-line c j l ∙ ap (λ (y : Entry). cancelled_record y ∷ []) same in
      let gone : Named d n → ⊥ = none j e l in
      rw (is, line) (emptied b rs c p n (an-entry j low l e) lowest d r (ap (λ (y : Entry). y.number) (sym same) ∙ e) refl (rw is at (number-shrinks n c)) (rw is at (number-sound n c p.sound)) gone
      (λ i. same_or (Entry3 b (rs ++ (r ∷ [])) d i) i j
      (λ q. inr (rw q (cancel-dead c j), rw q (mem-right rs (r ∷ []) (Memᴰ.head refl))))
      (λ q. ⊎_elim (λ s. inl (cancel-other c j i q ∙ s)) (λ s. inr (ap (λ (y : Entry). y.units) (cancel-other c j i q) ∙ s.0, mem-left rs (r ∷ []) s.1)) (p.entry i)))
      (λ i. ⊎_elim (λ s. inl (row i ∙ s)) (λ s. inr (ap (λ (y : LegOrder). y.contracts) (row i) ∙ s.0, mem-left rs (r ∷ []) s.1)) (p.order i)))
    where
      row : (i : ℕ) → order_at (cancel_entry j c).state i ≡ order_at c i
      row i = ap (λ (os : List LegOrder). get_or os i no_order) (cancel-orders c j)

      none : (j : ℕ) → (entry_at c j).number ≡ n → 0 < (entry_at c j).units → Named (cancel_entry j c).state n → ⊥
      none j e l (an-entry i h m q) =
          let s = (cancel-shrinks c j).entry i in
          let z : i ≡ j = same-slot p.sound i j (omega (arith, s.units)) l (sym s.number ∙ q ∙ sym e) in
          omega (arith, cancel-dead c j, ap (λ (k : ℕ). (entry_at (cancel_entry j c).state k).units) z)
      none j e l (an-order i h m q) =
          let s = (cancel-shrinks c j).order i in
          p.sound.apart j i l (omega (arith, s.contracts)) (e ∙ sym q ∙ s.number)

  after-order : (j : ℕ) → j < 32 → 0 < (order_at c j).contracts → (order_at c j).number ≡ n → Emptying b (rs ++ (cancel_number n c).records) (cancel_number n c).state
  unfolding kind_number
  after-order j low l e =
      let x : Moved = cancel_order j c in
      let is : cancel_number n c ≡ x = number-order c p.sound n j low e l in
      let d : State = x.state in
      let same : order_at c j ≡ order_at b j = ⊎_elim (λ q. q) (λ q. absurd (omega (arith, q.0))) (p.order j) in
      let r : Record = cancelled_leg_record (order_at b j) in
      let line : x.records ≡ r ∷ [] = order-line c j l ∙ ap (λ (y : LegOrder). cancelled_leg_record y ∷ []) same in
      let gone : Named d n → ⊥ = none j e l in
      rw (is, line) (emptied b rs c p n (an-order j low l e) lowest d r (ap (λ (y : LegOrder). y.number) (sym same) ∙ e) refl (rw is at (number-shrinks n c)) (rw is at (number-sound n c p.sound)) gone
      (λ i. ⊎_elim (λ s. inl (row i ∙ s)) (λ s. inr (ap (λ (y : Entry). y.units) (row i) ∙ s.0, mem-left rs (r ∷ []) s.1)) (p.entry i))
      (λ i. same_or (Order3 b (rs ++ (r ∷ [])) d i) i j
      (λ q. inr (rw q (cancel_order-dead c j), rw q (mem-right rs (r ∷ []) (Memᴰ.head refl))))
      (λ q. ⊎_elim (λ s. inl (cancel_order-other c j i q ∙ s)) (λ s. inr (ap (λ (y : LegOrder). y.contracts) (cancel_order-other c j i q) ∙ s.0, mem-left rs (r ∷ []) s.1)) (p.order i))))
    where
      row : (i : ℕ) → entry_at (cancel_order j c).state i ≡ entry_at c i
      row i = ap (λ (es : List Entry). get_or es i no_entry) (cancel_order-entries c j)

      none : (j : ℕ) → (order_at c j).number ≡ n → 0 < (order_at c j).contracts → Named (cancel_order j c).state n → ⊥
      none j e l (an-order i h m q) =
          let s = (cancel_order-shrinks c j).order i in
          let z : i ≡ j = same-order-slot p.sound i j (omega (arith, s.contracts)) l (sym s.number ∙ q ∙ sym e) in
          omega (arith, cancel_order-dead c j, ap (λ (k : ℕ). (order_at (cancel_order j c).state k).contracts) z)
      none j e l (an-entry i h m q) =
          let s = (cancel_order-shrinks c j).entry i in
          p.sound.apart i j (omega (arith, s.units)) l (sym s.number ∙ q ∙ sym e)

  after-named : Named c n → Emptying b (rs ++ (cancel_number n c).records) (cancel_number n c).state
  after-named (an-entry j low l e) = after-entry j low l e
  after-named (an-order j low l e) = after-order j low l e

lowest-next : (b : State) (rs : List Record) (c : State) → Emptying b rs c → (i : ℕ) → Emptying b (rs ++ (cancel_lowest i c).records) (cancel_lowest i c).state
unfolding cancel_lowest
lowest-next b rs c p i = by (eqb (left c) 0) refl
  where
    by : (t : Bool) → eqb (left c) 0 ≡ t → Emptying b (rs ++ (cancel_number (lowest_live c) c).records) (cancel_number (lowest_live c) c).state
    by true e = rw (cancel-stops (lowest_live c) c (eqb-true _ _ e), append-nil rs) p
    by false e = after-named b rs c p (lowest_live c) (λ m q. (lowest-first p.sound m q).1) (lowest-named c (eqb-false _ _ e))

emptying-each : (b : State) → Sound b → (n : ℕ) → Emptying b (each cancel_lowest n b).records (each cancel_lowest n b).state
unfolding each and_then
emptying-each b v zero = record { shrinks = shrinks-refl b; sound = v; entry = λ i. inl refl; order = λ i. inl refl; only = all_nil; low = λ m q. all_nil; sorted = sort-nil }
emptying-each b v (suc n) = lowest-next b _ _ (emptying-each b v n) n

-- THE SENTENCE
pub day-end-sentence : (b : State) (e : DayEnd) → AcceptedEvent b (E.DayEnd e) → DayEndSentence b e.timer (accept b (E.DayEnd e))
unfolding accept on_day_end and_then restart
day-end-sentence b e a =
    let v : Sound b = a.valid.sound in
    let c : State = (each close_running 16 b).state in
    let p : Closed b 16 (each close_running 16 b).records c = closed-each b v 16 in
    let q : Emptying c (each cancel_lowest 64 c).records (each cancel_lowest 64 c).state = emptying-each c p.sound 64 in
    let f : (i : ℕ) → Finished (each cancel_lowest 64 c).state i = day-ends c p.sound.entry_rows p.sound.order_rows in
    record {
      fives = (each close_running 16 b).records;
      threes = (each cancel_lowest 64 c).records;
      records = rw (append-nil (each cancel_lowest 64 c).records);
      five_each = λ k r. p.each-one k (running-low b v k (runs b k r)) r;
      five_only = p.only;
      five_order = p.order;
      three_entries = λ i l. ⊎_elim
          (λ s. absurd (omega (arith, (f i).entry, ap (λ (y : Entry). y.units) (s ∙ entry i p)))) (λ s. rw (entry i p) at s.1) (q.entry i);
      three_orders = λ i l. ⊎_elim
          (λ s. absurd (omega (arith, (f i).order, ap (λ (y : LegOrder). y.contracts) (s ∙ order i p)))) (λ s. rw (order i p) at s.1) (q.order i);
      three_only = q.only;
      three_order = q.sorted;
      anew = refl;
    }
  where
    entry : (i : ℕ) → Closed b 16 (each close_running 16 b).records (each close_running 16 b).state → entry_at (each close_running 16 b).state i ≡ entry_at b i
    entry i p = ap (λ (es : List Entry). get_or es i no_entry) p.entries

    order : (i : ℕ) → Closed b 16 (each close_running 16 b).records (each close_running 16 b).state → order_at (each close_running 16 b).state i ≡ order_at b i
    order i p = ap (λ (os : List LegOrder). get_or os i no_order) p.orders
