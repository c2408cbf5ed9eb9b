-- "Cancel: one record 3 for what is live."
use mathlib.Core.Path.{◌≡◌, refl, sym, ◌∙◌}
use mathlib.Core.Bool.{Bool, true, false, not}
use mathlib.Core.Logic.{◌⊎◌, inl, inr, ⊎_elim}
use mathlib.Core.List.{[], ◌∷◌}
use Prim.Native.Nat.{ℕ, zero, suc, ◌≤◌, ◌<◌}
use native.Mathlib.Nat.{eq-or-lt_of_le}
use native.Mathlib.Omega.{arith}
use borrow.Author.Tests.{eqb-true, eqb-false, eq-eqb, not-true, not-false}
use lib.Dec.{eqb}
use Rattle.base.specs.Pick.{pick, pick_all, pick-by, pick_true, pick-false, pick_yes, pick_no}
use Rattle.base.specs.Walks.{below, lt-or-le, any_n, any_where, first_holds}
use Rattle.events.specs.declared.Cancel.{Cancel}
use Rattle.events.specs.declared.Event.TheVariants as E
use Rattle.rules.specs.declared.State.{State}
use Rattle.rules.specs.declared.Kind.TheVariants.{Cancelled, LegOrderCancelled}
use Rattle.rules.specs.State.{entry_at, order_at, with_entries, with_orders}
use Rattle.rules.specs.Moves.{Moved, still, and_then, each}
use Rattle.rules.specs.Fills.{cut, cut_leg, cancel_entry, cancel_order}
use Rattle.rules.specs.Events.{live, live_order, cancel_entry_of, cancel_order_of, cancel_number}
use Rattle.rules.specs.Refusals.{is_order_of, is_leg_order_of, order_at_is, leg_order_at_is, not_found, started_by, is_starter, causes}
use Rattle.rules.specs.Step.{accept}
use Rattle.rules.specs.Valid.{Sound}
use Rattle.rules.specs.Sentences.{AcceptedEvent, OrderCancelled, LegOrderEnded, CancelSentence}
use Rattle.rules.proofs.Tables.{positive}
use Rattle.rules.proofs.Turns.{then-still}
use Rattle.rules.proofs.DayEnd.{each-still}
use Rattle.rules.proofs.Entering.{live_pos}
use Rattle.rules.proofs.Settled.{each_keeps, cancel-other, cancel-dead}
use Rattle.rules.proofs.Gives.{cut_leg-at, cut_leg-other}
use Rattle.rules.proofs.Arrivals.{any_false}
use Rattle.rules.proofs.Validity.{clear}

-- A move at each slot of which one alone moves anything.
pub each-one : (f : ℕ → State → Moved) (b : State) (i n : ℕ) → i < n → ((j : ℕ) → (j ≡ i → ⊥) → f j b ≡ still b) → ((j : ℕ) → (j ≡ i → ⊥) → f j (f i b).state ≡ still (f i b).state) → each f n b ≡ f i b
unfolding each and_then
each-one f b i zero h before behind = absurd (omega arith)
each-one f b i (suc n) h before behind =
    ⊎_elim
    (λ (e : i ≡ n). rw (each-still f b n (λ j l. before j (λ q. omega arith)), e))
    (λ (l : i < n). rw (each-one f b i n l before behind) (then-still (f i b) (f n) (behind n (λ q. omega arith))))
    (below h)

-- a cancel by number of a slot with another number, or with nothing, moves nothing
idle-entry : (n i : ℕ) (b : State) → (0 < (entry_at b i).units → (entry_at b i).number ≡ n → ⊥) → cancel_entry_of n i b ≡ still b
unfolding cancel_entry_of cancel_entry
idle-entry n i b h =
    let P : Moved → Type 0 = λ (m : Moved). m ≡ still b in
    pick-by P _ (λ e. pick-by P _ (λ _. refl) (λ u. absurd (h (positive (entry_at b i).units u) (eqb-true _ _ e)))) (λ _. refl)

idle-order : (n i : ℕ) (b : State) → (0 < (order_at b i).contracts → (order_at b i).number ≡ n → ⊥) → cancel_order_of n i b ≡ still b
unfolding cancel_order_of cancel_order
idle-order n i b h =
    let P : Moved → Type 0 = λ (m : Moved). m ≡ still b in
    pick-by P _ (λ e. pick-by P _ (λ _. refl) (λ u. absurd (h (positive (order_at b i).contracts u) (eqb-true _ _ e)))) (λ _. refl)

-- ONE ROW HAS A NUMBER
-- rising numbers differ
differs : (number quantity : ℕ → ℕ) → ((i j : ℕ) → i < j → 0 < quantity i → 0 < quantity j → number i < number j) → (i j : ℕ) → 0 < quantity i → 0 < quantity j → number i ≡ number j → i ≡ j
differs number quantity rising i j p q e =
    ⊎_elim (λ (l : i < j). absurd (omega (arith, rising i j l p q)))
    (λ (l : j ≤ i). ⊎_elim (λ z. sym z) (λ (m : j < i). absurd (omega (arith, rising j i m q p))) (eq-or-lt_of_le l))
    (lt-or-le i j)

pub same-slot : {b : State} → Sound b → (i j : ℕ) → 0 < (entry_at b i).units → 0 < (entry_at b j).units → (entry_at b i).number ≡ (entry_at b j).number → i ≡ j
same-slot {b} s = differs (λ (i : ℕ). (entry_at b i).number) (λ (i : ℕ). (entry_at b i).units) s.rising

pub same-order-slot : {b : State} → Sound b → (i j : ℕ) → 0 < (order_at b i).contracts → 0 < (order_at b j).contracts → (order_at b i).number ≡ (order_at b j).number → i ≡ j
same-order-slot {b} s = differs (λ (i : ℕ). (order_at b i).number) (λ (i : ℕ). (order_at b i).contracts) s.rising_orders

-- A CANCEL OF AN ENTRY
pub cancel-orders : (b : State) (i : ℕ) → (cancel_entry i b).state.orders ≡ b.orders
unfolding cancel_entry cut with_entries
cancel-orders b i = pick_all (λ (m : Moved). m.state.orders ≡ b.orders) _ refl refl

cancel-tables : (b : State) (i : ℕ) → (cancel_entry i b).state.strategies ≡ b.strategies
unfolding cancel_entry cut with_entries
cancel-tables b i = pick_all (λ (m : Moved). m.state.strategies ≡ b.strategies) _ refl refl

module _ (b : State) (s : Sound b) (n i : ℕ) (low : i < 32) (number : (entry_at b i).number ≡ n) (some : 0 < (entry_at b i).units) where
  entry-alone : (j : ℕ) → 0 < (entry_at b j).units → (entry_at b j).number ≡ n → j ≡ i
  entry-alone j l e = same-slot s j i l some (e ∙ sym number)

  abbrev ended : Moved
  ended = cancel_entry i b

  entry-is : cancel_entry_of n i b ≡ ended
  unfolding cancel_entry_of
  entry-is = pick_true _ _ _ (eq-eqb _ _ number)

  pub number-entry : cancel_number n b ≡ ended
  unfolding cancel_number
  number-entry =
      rw (
        each-one (cancel_entry_of n) b i 32 low (λ j q. idle-entry n j b (λ l e. q (entry-alone j l e)))
            (λ j q. rw entry-is (idle-entry n j ended.state (rw (cancel-other b i j q) (λ l e. q (entry-alone j l e))))),
        entry-is,
      )
      (then-still ended (each (cancel_order_of n) 32)
      (each-still (cancel_order_of n) ended.state 32 (λ j _. idle-order n j ended.state (rw (cancel-orders b i) (λ l e. s.apart i j some l (number ∙ sym e))))))

  ended-records : ended.records ≡ record { kind = Cancelled; number = n; place = 0; side = (entry_at b i).side; quantity = (entry_at b i).units; level = 10_000_000 } ∷ []
  unfolding cancel_entry
  ended-records =
      pick-by (λ (m : Moved). m.records ≡ record { kind = Cancelled; number = n; place = 0; side = (entry_at b i).side; quantity = (entry_at b i).units; level = 10_000_000 } ∷ []) (eqb (entry_at b i).units 0)
      (λ z. absurd (omega (arith, eqb-true (entry_at b i).units 0 z))) (λ _. rw number)

-- A CANCEL OF A LEG ORDER
pub cancel_order-entries : (b : State) (i : ℕ) → (cancel_order i b).state.entries ≡ b.entries
unfolding cancel_order cut_leg with_orders
cancel_order-entries b i = pick_all (λ (m : Moved). m.state.entries ≡ b.entries) _ refl refl

cancel_order-tables : (b : State) (i : ℕ) → (cancel_order i b).state.strategies ≡ b.strategies
unfolding cancel_order cut_leg with_orders
cancel_order-tables b i = pick_all (λ (m : Moved). m.state.strategies ≡ b.strategies) _ refl refl

pub cancel_order-other : (b : State) (i j : ℕ) → (j ≡ i → ⊥) → order_at (cancel_order i b).state j ≡ order_at b j
unfolding cancel_order
cancel_order-other b i j q = pick_all (λ (m : Moved). order_at m.state j ≡ order_at b j) _ refl (cut_leg-other b i _ j q)

pub cancel_order-dead : (b : State) (i : ℕ) → (order_at (cancel_order i b).state i).contracts ≡ 0
unfolding cancel_order
cancel_order-dead b i =
    pick-by (λ (m : Moved). (order_at m.state i).contracts ≡ 0) (eqb (order_at b i).contracts 0) (λ e. eqb-true _ _ e) (λ _. rw (cut_leg-at b i (order_at b i).contracts) (omega arith))

module _ (b : State) (s : Sound b) (n i : ℕ) (low : i < 32) (number : (order_at b i).number ≡ n) (some : 0 < (order_at b i).contracts) where
  order-alone : (j : ℕ) → 0 < (order_at b j).contracts → (order_at b j).number ≡ n → j ≡ i
  order-alone j l e = same-order-slot s j i l some (e ∙ sym number)

  abbrev ended_order : Moved
  ended_order = cancel_order i b

  order_is : cancel_order_of n i b ≡ ended_order
  unfolding cancel_order_of
  order_is = pick_true _ _ _ (eq-eqb _ _ number)

  pub number-order : cancel_number n b ≡ ended_order
  unfolding cancel_number and_then
  number-order =
      rw (
        each-still (cancel_entry_of n) b 32 (λ j _. idle-entry n j b (λ l e. s.apart j i l some (e ∙ sym number))),
        each-one (cancel_order_of n) b i 32 low (λ j q. idle-order n j b (λ l e. q (order-alone j l e)))
            (λ j q. rw order_is (idle-order n j ended_order.state (rw (cancel_order-other b i j q) (λ l e. q (order-alone j l e))))),
        order_is,
      )

  ended_order-records : ended_order.records ≡ record { kind = LegOrderCancelled; number = n; place = 0; side = (order_at b i).side; quantity = (order_at b i).contracts; level = 10_000_000 } ∷ []
  unfolding cancel_order
  ended_order-records =
      pick-by (λ (m : Moved). m.records ≡ record { kind = LegOrderCancelled; number = n; place = 0; side = (order_at b i).side; quantity = (order_at b i).contracts; level = 10_000_000 } ∷ []) (eqb (order_at b i).contracts 0)
      (λ z. absurd (omega (arith, eqb-true (order_at b i).contracts 0 z))) (λ _. rw number)

-- WHAT IS FOUND: an order of the member, or a leg order of his
pub record Found (b : State) (m n i : ℕ) : Type 0 where
  pub slot : i < 32
  pub member : (entry_at b i).member ≡ m
  pub number : (entry_at b i).number ≡ n
  pub no_sweep : (entry_at b i).life ≡ 4 → ⊥
  pub live : 0 < (entry_at b i).units

pub record FoundOrder (b : State) (m n i : ℕ) : Type 0 where
  pub slot : i < 32
  pub member : (order_at b i).member ≡ m
  pub number : (order_at b i).number ≡ n
  pub live : 0 < (order_at b i).contracts

found-entry : (b : State) (m n i : ℕ) → i < 32 → order_at_is b m n i ≡ true → Found b m n i
unfolding is_order_of
found-entry b m n i l h =
    let p = pick_yes (live (entry_at b i)) h in
    let q = pick_no (eqb (entry_at b i).life 4) p.1 in
    let r = pick_yes (eqb (entry_at b i).member m) q.1 in
    record { slot = l; member = eqb-true _ _ r.0; number = eqb-true _ _ r.1; no_sweep = eqb-false _ _ q.0; live = live_pos (entry_at b i) p.0 }

found-order : (b : State) (m n i : ℕ) → i < 32 → leg_order_at_is b m n i ≡ true → FoundOrder b m n i
unfolding is_leg_order_of live_order
found-order b m n i l h =
    let p = pick_yes (not (eqb (order_at b i).contracts 0)) h in
    let r = pick_yes (eqb (order_at b i).member m) p.1 in
    record { slot = l; member = eqb-true _ _ r.0; number = eqb-true _ _ r.1; live = positive _ (not-true _ p.0) }

cancel-entry : (b : State) → Sound b → (m n i : ℕ) → Found b m n i → OrderCancelled b m n (cancel_number n b)
cancel-entry b s m n i f =
    rw (number-entry b s n i f.slot f.number f.live) (record {
      at = i;
      member = f.member;
      number = f.number;
      no_sweep = f.no_sweep;
      live = f.live;
      ended = cancel-dead b i;
      records = ended-records b s n i f.slot f.number f.live;
      others = cancel-other b i;
      orders = cancel-orders b i;
    })

cancel-order : (b : State) → Sound b → (m n i : ℕ) → FoundOrder b m n i → LegOrderEnded b m n (cancel_number n b)
cancel-order b s m n i f =
    rw (number-order b s n i f.slot f.number f.live) (record {
      at = i;
      member = f.member;
      number = f.number;
      live = f.live;
      ended = cancel_order-dead b i;
      records = ended_order-records b s n i f.slot f.number f.live;
      others = cancel_order-other b i;
      entries = cancel_order-entries b i;
    })

-- one of the two tables has it
found : (b : State) → Sound b → (m n : ℕ) → not_found b m n ≡ false → OrderCancelled b m n (cancel_number n b) ⊎ LegOrderEnded b m n (cancel_number n b)
unfolding not_found
found b s m n = by (any_n (order_at_is b m n) 32) refl
  where
    by : (t : Bool) → any_n (order_at_is b m n) 32 ≡ t → pick t false (not (any_n (leg_order_at_is b m n) 32)) ≡ false → OrderCancelled b m n (cancel_number n b) ⊎ LegOrderEnded b m n (cancel_number n b)
    by true e h = inl (let l = any_where (order_at_is b m n) 32 e in cancel-entry b s m n _ (found-entry b m n _ l (first_holds (order_at_is b m n) 32 l)))
    by false e h =
        inr (let l = any_where (leg_order_at_is b m n) 32 (not-false _ (sym (pick-false false false _ refl) ∙ h)) in
        cancel-order b s m n _ (found-order b m n _ l (first_holds (leg_order_at_is b m n) 32 l)))

pub number-strategies : (n : ℕ) (b : State) → (cancel_number n b).state.strategies ≡ b.strategies
unfolding cancel_number and_then cancel_entry_of cancel_order_of
number-strategies n b =
    let P : State → Type 0 = λ (c : State). c.strategies ≡ b.strategies in
    each_keeps P (cancel_order_of n) 32 (λ i _ c h. pick_all (λ (m : Moved). P m.state) _ (cancel_order-tables c i ∙ h) h) _
    (each_keeps P (cancel_entry_of n) 32 (λ i _ c h. pick_all (λ (m : Moved). P m.state) _ (cancel-tables c i ∙ h) h) b refl)

-- THE SENTENCE
pub cancel-sentence : (b : State) (e : Cancel) → AcceptedEvent b (E.Cancel e) → CancelSentence b e.member e.number (accept b (E.Cancel e))
unfolding accept causes is_starter
cancel-sentence b e a =
    let s : Sound b = a.valid.sound in
    let x = clear 7 (not_found b e.member e.number) _ (omega arith) a.clear in
    let y = clear 8 (is_starter b e.number) _ (omega arith) x.1 in
    record {
      one = found b s e.member e.number x.0;
      no_starter = λ k q. ⊎_elim
          (λ (l : k < 16). eqb-false _ _ (any_false (started_by b e.number) 16 k y.0 l) q)
          (λ (l : 16 ≤ k). omega (arith, (s.undefined k (omega (arith, s.defined))).2, a.fit))
          (lt-or-le k 16);
      strategies = number-strategies e.number b;
    }
