-- Day end forgets nothing: every live row is cancelled, the lowest number first.
use mathlib.Core.Path.{◌≡◌, refl, ap, ◌∙◌}
use mathlib.Core.Bool.{Bool, true, false, not}
use mathlib.Core.Logic.{◌⊎◌, inl, inr, ⊎_elim}
use Prim.Native.Nat.{ℕ, zero, suc, ◌+◌, ◌≤◌, ◌<◌}
use native.Mathlib.Omega.{arith}
use borrow.Author.Tests.{eqb-true, eqb-false, eq-eqb, ne_eqb, not-true, not-false}
use lib.Dec.{eqb}
use lib.ListN.{length}
use Rattle.base.specs.Pick.{pick, pick_true, pick-by, pick_all}
use Rattle.base.specs.Walks.{walk, clash, below, lt-or-le}
use Rattle.rules.specs.declared.State.{State}
use Rattle.rules.specs.State.{entry_at, order_at}
use Rattle.rules.specs.Moves.{Moved, still, and_then, each}
use Rattle.rules.specs.Fills.{cancel_entry, cancel_order}
use Rattle.rules.specs.Events.{live, live_order, cancel_entry_of, cancel_order_of, cancel_number, close_running, lower_number, lower_entry, lower_order, lowest_live, cancel_lowest}
use Rattle.rules.specs.Valid.{Sound}
use Rattle.rules.proofs.Tables.{positive}
use Rattle.rules.proofs.Shrinks.{Shrinks, shrinks-refl, cancel-shrinks, cancel_order-shrinks, close-shrinks, then-shrinks}
use Rattle.rules.proofs.Turns.{each-ends}
use Rattle.rules.proofs.Firsts.{live-slot, order-slot}
use Rattle.rules.proofs.Ends.{cut-takes}
use Rattle.rules.proofs.Finishes.{entries, orders, entries-most, orders-most, entries-fewer, orders-fewer, entries-no-more, orders-no-more, cut_leg-takes, each-shrinks, lives-none, none-lives}

-- CANCELS by number: every row of that number is finished
cancel-empties : (i : ℕ) (b : State) → (entry_at (cancel_entry i b).state i).units ≡ 0
unfolding cancel_entry
cancel-empties i b =
    pick-by (λ (m : Moved). (entry_at m.state i).units ≡ 0) (eqb (entry_at b i).units 0) (λ e. eqb-true _ _ e) (λ _. omega (arith, cut-takes b i (entry_at b i).units))

cancel_order-empties : (i : ℕ) (b : State) → (order_at (cancel_order i b).state i).contracts ≡ 0
unfolding cancel_order
cancel_order-empties i b =
    pick-by (λ (m : Moved). (order_at m.state i).contracts ≡ 0) (eqb (order_at b i).contracts 0) (λ e. eqb-true _ _ e) (λ _. omega (arith, cut_leg-takes b i (order_at b i).contracts))

-- moves slot by slot, of which that of slot i finishes a row of number n: it is finished from then on
each-finishes : (f : ℕ → State → Moved) → ((i : ℕ) (c : State) → Shrinks c (f i c).state) → (number quantity : State → ℕ) → ((b c : State) → Shrinks b c → number c ≡ number b) → ((b c : State) → Shrinks b c → quantity c ≤ quantity b) →
    (n i : ℕ) → ((c : State) → number c ≡ n → quantity (f i c).state ≡ 0) → (b : State) → number b ≡ n → (k : ℕ) → i < k → quantity (each f k b).state ≡ 0
unfolding each and_then
each-finishes f sh number quantity same less n i empties b e zero l = absurd (omega arith)
each-finishes f sh number quantity same less n i empties b e (suc k) l =
    let c : State = (each f k b).state in
    ⊎_elim
    (λ (q : i ≡ k). rw (← q) (empties (each f i b).state (same b _ (each-shrinks f sh i b) ∙ e)))
    (λ m. omega (arith, each-finishes f sh number quantity same less n i empties b e k m, less c (f k c).state (sh k c))) (below l)

module _ (n : ℕ) where
  of-shrinks : (i : ℕ) (b : State) → Shrinks b (cancel_entry_of n i b).state
  unfolding cancel_entry_of
  of-shrinks i b = pick_all (λ (m : Moved). Shrinks b m.state) _ (cancel-shrinks b i) (shrinks-refl b)

  order_of-shrinks : (i : ℕ) (b : State) → Shrinks b (cancel_order_of n i b).state
  unfolding cancel_order_of
  order_of-shrinks i b = pick_all (λ (m : Moved). Shrinks b m.state) _ (cancel_order-shrinks b i) (shrinks-refl b)

  of-empties : (i : ℕ) (b : State) → (entry_at b i).number ≡ n → (entry_at (cancel_entry_of n i b).state i).units ≡ 0
  unfolding cancel_entry_of
  of-empties i b e = rw (pick_true _ (cancel_entry i b) (still b) (eq-eqb _ _ e)) (cancel-empties i b)

  order_of-empties : (i : ℕ) (b : State) → (order_at b i).number ≡ n → (order_at (cancel_order_of n i b).state i).contracts ≡ 0
  unfolding cancel_order_of
  order_of-empties i b e = rw (pick_true _ (cancel_order i b) (still b) (eq-eqb _ _ e)) (cancel_order-empties i b)

  gone : (b : State) (i : ℕ) → (entry_at b i).number ≡ n → (k : ℕ) → i < k → (entry_at (each (cancel_entry_of n) k b).state i).units ≡ 0
  gone b i =
      each-finishes (cancel_entry_of n) of-shrinks (λ (c : State). (entry_at c i).number) (λ (c : State). (entry_at c i).units)
      (λ b c h. (h.entry i).number) (λ b c h. (h.entry i).units) n i (of-empties i) b

  order_gone : (b : State) (i : ℕ) → (order_at b i).number ≡ n → (k : ℕ) → i < k → (order_at (each (cancel_order_of n) k b).state i).contracts ≡ 0
  order_gone b i =
      each-finishes (cancel_order_of n) order_of-shrinks (λ (c : State). (order_at c i).number) (λ (c : State). (order_at c i).contracts)
      (λ b c h. (h.order i).number) (λ b c h. (h.order i).contracts) n i (order_of-empties i) b

  pub number-shrinks : (b : State) → Shrinks b (cancel_number n b).state
  unfolding cancel_number
  number-shrinks b = then-shrinks b (each (cancel_entry_of n) 32 b) (each (cancel_order_of n) 32) (each-shrinks (cancel_entry_of n) of-shrinks 32 b) (each-shrinks (cancel_order_of n) order_of-shrinks 32 _)

-- how many rows are live in both tables
pub left : State → ℕ
left b = entries b + orders b

-- a live row has that number
pub data Named (b : State) (n : ℕ) : Type 0 where
  an-entry : (i : ℕ) → i < 32 → 0 < (entry_at b i).units → (entry_at b i).number ≡ n → Named b n
  an-order : (i : ℕ) → i < 32 → 0 < (order_at b i).contracts → (order_at b i).number ≡ n → Named b n

number-falls : (n : ℕ) (b : State) → Named b n → left (cancel_number n b).state < left b
unfolding left cancel_number and_then
number-falls n b (an-entry i s l e) =
    let c : State = (each (cancel_entry_of n) 32 b).state in
    let f = entries-fewer (number-shrinks n b) i s l (omega (arith, gone n b i e 32 s, ((each-shrinks (cancel_order_of n) (order_of-shrinks n) 32 c).entry i).units)) in
    omega (arith, orders-no-more (number-shrinks n b))
number-falls n b (an-order i s l e) =
    let c : State = (each (cancel_entry_of n) 32 b).state in
    let f = orders-fewer (number-shrinks n b) i s l (order_gone n c i (((each-shrinks (cancel_entry_of n) (of-shrinks n) 32 b).order i).number ∙ e) 32 s) in
    omega (arith, entries-no-more (number-shrinks n b))

-- THE LOWEST NUMBER THAT IS LIVE
lower-is : (n m : ℕ) → (lower_number n m ≡ m) ⊎ ((lower_number n m ≡ n) × (n ≡ 0 → ⊥))
unfolding lower_number
lower-is n m =
    let P : ℕ → Type 0 = λ (x : ℕ). (x ≡ m) ⊎ ((x ≡ n) × (n ≡ 0 → ⊥)) in
    pick-by P (eqb n 0) (λ _. inl refl) (λ z. let some : ¬ (n ≡ 0) = eqb-false n 0 z in
    pick_all P _ (inr (refl, some)) (⊎_elim (λ (l : m < n). inl (omega arith)) (λ (l : n ≤ m). inr (omega arith, some)) (lt-or-le m n)))

lower-low : (n m : ℕ) → 0 < m → (0 < lower_number n m) × (lower_number n m ≤ m) × (0 < n → lower_number n m ≤ n)
unfolding lower_number
lower-low n m p =
    let P : ℕ → Type 0 = λ (x : ℕ). (0 < x) × (x ≤ m) × (0 < n → x ≤ n) in
    pick-by P (eqb n 0) (λ z. (p, omega arith, λ h. absurd (omega (arith, eqb-true n 0 z))))
    (λ z. let some : 0 < n = positive n z in
    pick-by P (eqb m 0) (λ y. absurd (omega (arith, eqb-true m 0 y))) (λ y. (omega arith, omega arith, λ h. omega arith)))

module _ (ok : ℕ → Bool) (num : ℕ → ℕ) where
  abbrev lows : ℕ → ℕ → ℕ
  lows i n = pick (ok i) (lower_number n (num i)) n

  -- what the walk finds is a number that was there, or there is none
  module _ (Known : ℕ → Type 0) (Before : Type 0) (known : (i : ℕ) → i < 32 → ok i ≡ true → Known (num i)) (start : ℕ) (begun : Known start ⊎ ((start ≡ 0) × Before)) where
    low-known : (k : ℕ) → k ≤ 32 → Known (walk lows start k) ⊎ ((walk lows start k ≡ 0) × Before × ((i : ℕ) → i < k → ok i ≡ false))
    unfolding walk
    low-known zero h = ⊎_elim inl (λ z. inr (z.0, z.1, λ i l. absurd (omega arith))) begun
    low-known (suc k) h =
        let w : ℕ = walk lows start k in
        let ih = low-known k (omega arith) in
        let P : ℕ → Type 0 = λ (x : ℕ). Known x ⊎ ((x ≡ 0) × Before × ((i : ℕ) → i < suc k → ok i ≡ false)) in
        pick-by P (ok k)
        (λ o. inl (⊎_elim (λ q. rw q (known k (omega arith) o)) (λ q. rw q.0 (⊎_elim (λ a. a) (λ z. absurd (q.1 z.0)) ih)) (lower-is w (num k))))
        (λ o. ⊎_elim inl (λ z. inr (z.0, z.1, λ i l. ⊎_elim (λ e. ap ok e ∙ o) (z.2 i) (below l))) ih)

  -- and none is lower
  module _ (given : (i : ℕ) → ok i ≡ true → 0 < num i) (start : ℕ) where
    low-least : (k : ℕ) → ((i : ℕ) → i < k → ok i ≡ true → (0 < walk lows start k) × (walk lows start k ≤ num i)) × (0 < start → (0 < walk lows start k) × (walk lows start k ≤ start))
    unfolding walk
    low-least zero = ((λ i l. absurd (omega arith)), λ h. (h, omega arith))
    low-least (suc k) =
        let w : ℕ = walk lows start k in
        let ih = low-least k in
        let P : ℕ → Type 0 = λ (x : ℕ). ((i : ℕ) → i < suc k → ok i ≡ true → (0 < x) × (x ≤ num i)) × (0 < start → (0 < x) × (x ≤ start)) in
        pick-by P (ok k)
        (λ o. let n = lower-low w (num k) (given k o) in (
          (λ i l g. ⊎_elim (λ e. rw e (n.0, n.1)) (λ m. let r = ih.0 i m g in (n.0, omega (arith, n.2 r.0))) (below l)),
          (λ h. let r = ih.1 h in (n.0, omega (arith, n.2 r.0))),
        ))
        (λ o. ((λ i l g. ⊎_elim (λ e. absurd (clash g (ap ok e ∙ o))) (λ m. ih.0 i m g) (below l)), ih.1))

-- nothing is live
some-units : (u : ℕ) → not (eqb u 0) ≡ true → 0 < u
some-units u e = positive u (not-true _ e)

no-units : (u : ℕ) → not (eqb u 0) ≡ false → u ≡ 0
no-units u e = eqb-true u 0 (not-false _ e)

abbrev live_at : State → ℕ → Bool
live_at b i = live (entry_at b i)

abbrev live_order_at : State → ℕ → Bool
live_order_at b i = live_order (order_at b i)

abbrev number_at : State → ℕ → ℕ
number_at b i = (entry_at b i).number

abbrev order_number_at : State → ℕ → ℕ
order_number_at b i = (order_at b i).number

-- the lowest number is that of a live row, where any is live
pub lowest-named : (b : State) → (left b ≡ 0 → ⊥) → Named b (lowest_live b)
unfolding left entries orders live live_order lowest_live
lowest-named b some = ⊎_elim (λ n. n) (λ z. absurd (some (none z.1 z.2)))
    (low-known (live_order_at b) (order_number_at b) (Named b) ((i : ℕ) → i < 32 → live_at b i ≡ false)
    (λ i l o. an-order i l (some-units _ o) refl) (walk (lower_entry b) 0 32)
    (⊎_elim inl (λ z. inr (z.0, z.2))
    (low-known (live_at b) (number_at b) (Named b) (Unit {0}) (λ i l o. an-entry i l (some-units _ o) refl) 0 (inr (refl, tt)) 32 (omega arith)))
    32 (omega arith))
  where
    none : ((i : ℕ) → i < 32 → live_at b i ≡ false) → ((i : ℕ) → i < 32 → live_order_at b i ≡ false) → entries b + orders b ≡ 0
    none p q = omega (arith, lives-none (λ (i : ℕ). (entry_at b i).units) (λ i l. no-units _ (p i l)), lives-none (λ (i : ℕ). (order_at b i).contracts) (λ i l. no-units _ (q i l)))

-- THE CANCELS END where nothing is live
empty-entry : (b : State) → left b ≡ 0 → (i : ℕ) → i < 32 → (entry_at b i).units ≡ 0
unfolding left entries
empty-entry b e = none-lives (λ (i : ℕ). (entry_at b i).units) (omega arith)

empty-order : (b : State) → left b ≡ 0 → (i : ℕ) → i < 32 → (order_at b i).contracts ≡ 0
unfolding left orders
empty-order b e = none-lives (λ (i : ℕ). (order_at b i).contracts) (omega arith)

pub each-still : (f : ℕ → State → Moved) (b : State) (k : ℕ) → ((i : ℕ) → i < k → f i b ≡ still b) → each f k b ≡ still b
unfolding each and_then
each-still f b zero h = refl
each-still f b (suc k) h = rw (each-still f b k (λ i l. h i (omega arith)), h k (omega arith))

pub cancel-stops : (n : ℕ) (b : State) → left b ≡ 0 → cancel_number n b ≡ still b
unfolding cancel_number cancel_entry_of cancel_order_of cancel_entry cancel_order and_then
cancel-stops n b e =
    let P : Moved → Type 0 = λ (m : Moved). m ≡ still b in
    rw (
      each-still (cancel_entry_of n) b 32 (λ i l. pick_all P _ (pick_true _ _ _ (eq-eqb _ _ (empty-entry b e i l))) refl),
      each-still (cancel_order_of n) b 32 (λ i l. pick_all P _ (pick_true _ _ _ (eq-eqb _ _ (empty-order b e i l))) refl),
    )

left-most : (b : State) → left b ≤ 64
unfolding left
left-most b = omega (arith, entries-most b, orders-most b)

cleared : (b : State) → left (each cancel_lowest 64 b).state ≡ 0
unfolding cancel_lowest
cleared b =
    eqb-true _ _ (each-ends cancel_lowest (λ (c : State). eqb (left c) 0) left
    (λ i c e. cancel-stops (lowest_live c) c (eqb-true _ _ e)) (λ i c e. number-falls (lowest_live c) c (lowest-named c (eqb-false _ _ e))) 64 b (left-most b))

pub lowest-shrinks : (i : ℕ) (b : State) → Shrinks b (cancel_lowest i b).state
unfolding cancel_lowest
lowest-shrinks i b = number-shrinks (lowest_live b) b

-- live rows have a number
pub record Numbered (b : State) : Type 0 where
  pub entries : (i : ℕ) → 0 < (entry_at b i).units → 1 ≤ (entry_at b i).number
  pub orders : (i : ℕ) → 0 < (order_at b i).contracts → 1 ≤ (order_at b i).number

pub numbered-sound : {b : State} → Sound b → Numbered b
numbered-sound s = record { entries = λ i l. (s.live i l).given.0; orders = λ i l. (s.live_order i l).given.0 }

pub numbered-shrinks : {b c : State} → Shrinks b c → Numbered b → Numbered c
numbered-shrinks {b} {c} s n = record { entries = entry; orders = order }
  where
    entry : (i : ℕ) → 0 < (entry_at c i).units → 1 ≤ (entry_at c i).number
    entry i l = let e = s.entry i in omega (arith, e.number, n.entries i (omega (arith, e.units)))

    order : (i : ℕ) → 0 < (order_at c i).contracts → 1 ≤ (order_at c i).number
    order i l = let o = s.order i in omega (arith, o.number, n.orders i (omega (arith, o.contracts)))

unnamed : {b : State} → Numbered b → Named b 0 → ⊥
unnamed n (an-entry i h l q) = omega (arith, n.entries i l)
unnamed n (an-order i h l q) = omega (arith, n.orders i l)

-- where the lowest live number is 0 nothing is live, and its cancel finds nothing
pub lowest-none : {b : State} → Numbered b → lowest_live b ≡ 0 → (i : ℕ) → cancel_lowest i b ≡ still b
unfolding cancel_lowest
lowest-none {b} n e i =
    cancel-stops (lowest_live b) b
    (⊎_elim (λ (l : 0 < left b). absurd (unnamed n (rw e at (lowest-named b (λ z. omega arith))))) (λ (l : left b ≤ 0). omega arith) (lt-or-le 0 (left b)))

-- a row of which nothing is live
pub record Finished (c : State) (i : ℕ) : Type 0 where
  pub entry : (entry_at c i).units ≡ 0
  pub order : (order_at c i).contracts ≡ 0

finished : (c : State) → length c.entries ≡ 32 → length c.orders ≡ 32 → left c ≡ 0 → (i : ℕ) → Finished c i
finished c n m e i = record {
  entry = ⊎_elim (λ (l : 0 < (entry_at c i).units). empty-entry c e i (live-slot c n i l)) (λ (l : (entry_at c i).units ≤ 0). omega arith) (lt-or-le 0 (entry_at c i).units);
  order = ⊎_elim (λ (l : 0 < (order_at c i).contracts). empty-order c e i (order-slot c m i l)) (λ (l : (order_at c i).contracts ≤ 0). omega arith) (lt-or-le 0 (order_at c i).contracts);
}

-- NOTHING LIVE IS FORGOTTEN: after 64 cancels of the lowest number no row is live
pub day-ends : (b : State) → length b.entries ≡ 32 → length b.orders ≡ 32 → (i : ℕ) → Finished (each cancel_lowest 64 b).state i
day-ends b n m =
    let s : Shrinks b (each cancel_lowest 64 b).state = each-shrinks cancel_lowest lowest-shrinks 64 b in
    finished _ (s.entry_rows ∙ n) (s.order_rows ∙ m) (cleared b)

-- the same within the event, as the auctions that run are closed first
pub running-shrinks : (k : ℕ) (b : State) → Shrinks b (close_running k b).state
unfolding close_running
running-shrinks k b = pick_all (λ (m : Moved). Shrinks b m.state) _ (close-shrinks b k) (shrinks-refl b)

pub day-end-clears : {b : State} → Sound b → (i : ℕ) → Finished (each cancel_lowest 64 (each close_running 16 b).state).state i
day-end-clears {b} v =
    let s : Shrinks b (each close_running 16 b).state = each-shrinks close_running running-shrinks 16 b in
    day-ends _ (s.entry_rows ∙ v.entry_rows) (s.order_rows ∙ v.order_rows)

-- "3 by number": each cancel is of the lowest number that is live
module _ {b : State} (v : Sound b) where
  is_live : (u : ℕ) → 0 < u → not (eqb u 0) ≡ true
  is_live u l = ap not (ne_eqb u 0 (λ e. omega arith))

  least : (n : ℕ) → Named b n → walk (lower_order b) (walk (lower_entry b) 0 32) 32 ≤ n
  unfolding live live_order
  least n (an-entry i h l q) =
      let x = (low-least (live_at b) (number_at b) (λ j o. (v.live j (some-units _ o)).given.0) 0 32).0 i h (is_live _ l) in
      let y = (low-least (live_order_at b) (order_number_at b) (λ j o. (v.live_order j (some-units _ o)).given.0) (walk (lower_entry b) 0 32) 32).1 x.0 in
      omega arith
  least n (an-order i h l q) =
      let y = (low-least (live_order_at b) (order_number_at b) (λ j o. (v.live_order j (some-units _ o)).given.0) (walk (lower_entry b) 0 32) 32).0 i h (is_live _ l) in
      omega arith

  some : (n : ℕ) → Named b n → left b ≡ 0 → ⊥
  some n (an-entry i h l q) e = omega (arith, empty-entry b e i h)
  some n (an-order i h l q) e = omega (arith, empty-order b e i h)

  pub lowest-first : (n : ℕ) → Named b n → Named b (lowest_live b) × (lowest_live b ≤ n)
  unfolding lowest_live
  lowest-first n r = (lowest-named b (some n r), least n r)
