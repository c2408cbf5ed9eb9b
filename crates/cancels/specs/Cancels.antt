-- The cancel of a number by the slot that the code finds: a number is live once.
use Rattle.std.specs.Prelude.{◌≡◌, refl, Bool, false, not, List, [], ◌∷◌, ℕ, ◌≤◌, ◌<◌, nat_lt, eqb, length, get_or, set, Option, unwrap_or, position}
use Rattle.std.specs.List.{position_or_len}
use Rattle.std.proofs.Common.{sym, ◌∙◌, ap, arith, eqb-true, ltb-false, Some, None}
use Rattle.std.proofs.Math.Bool.{true}
use Rattle.std.proofs.lemmas.Bool.{cond_both, eqb-false, not-true}
use Rattle.std.proofs.lemmas.Option.{none-some}
use Rattle.std.proofs.lemmas.List.Sums.{fails_before_first}
use Rattle.std.proofs.lemmas.List.Quantifiers.{position-Some}
use Rattle.base.specs.Pick.{pick, pick_yes, tests}
use Rattle.base.specs.All.{All}
use Rattle.base.specs.Walks.{clash, first_n, first_holds, first-before}
use Rattle.base.specs.Chains.{unless_zero}
use Rattle.nets.specs.Bests.{unless-zero-or}
use Rattle.rules.specs.Sizes.{table_rows}
use Rattle.rules.specs.declared.LegOrder.{LegOrder}
use Rattle.rules.specs.declared.LegNets.{LegNets}
use Rattle.rules.specs.declared.State.{State}
use Rattle.rules.specs.declared.Entry.{Entry}
use Rattle.rules.specs.State.{no_entry, no_order, entry_at, order_at, with_orders}
use Rattle.rules.specs.Moves.{Moved, still, and_then}
use Rattle.rules.specs.Nets.{price_of, nets_of}
use Rattle.rules.specs.Fills.{cut_order, cut_leg, cancel_leg_record, cancel_entry, cancel_order}
use Rattle.rules.specs.Events.{cancel_entry_of, cancel_order_of, cancel_number}
use Rattle.rules.specs.Valid.{FitOrder, Priced, Sound}
use Rattle.rules.proofs.DayEnd.{each-still}
use Rattle.rules.proofs.Cancels.{number-entry, number-order}
use Rattle.rules.proofs.Shrinks.{cut_leg-shrinks}
use Rattle.rules.proofs.BetterNets.{price-most}
use Rattle.rules.proofs.LegPrices.{cut-price}
use Rattle.ranges.specs.Fit.{FitLegs, fit-order, fit-sound, fit-shrinks}
use Rattle.stored_nets.specs.Stored.{FitNets, Refreshed}
use Rattle.stored_nets.specs.Laws.{fit-nets, refreshed-one}
use Rattle.fills.specs.Fills.{cancelled, cancel-live}

-- a row of number x has something live, and is the one sought
abbrev pub has_live : ℕ → ℕ → ℕ → Bool
has_live x quantity n = pick (eqb x n) (not (eqb quantity 0)) false

-- an entry is that row
abbrev pub entry_has : ℕ → Entry → Bool
entry_has n e = has_live e.number e.units n

-- the same of a leg order
abbrev pub order_has : ℕ → LegOrder → Bool
order_has n o = has_live o.number o.contracts n

-- the slot of the live entry of a number, 32 where there is none
unfoldable pub entry_slot : ℕ → State → ℕ
entry_slot n b = first_n (λ (i : ℕ). entry_has n (entry_at b i)) table_rows

-- the same of the leg orders
unfoldable pub order_slot : ℕ → State → ℕ
order_slot n b = first_n (λ (i : ℕ). order_has n (order_at b i)) table_rows

-- a cancel of a live leg order
unfoldable pub cancelled_order : ℕ → State → Moved
cancelled_order i b = record { state = cut_leg b i (order_at b i).contracts; records = cancel_leg_record (order_at b i) ∷ [] }

-- laws

-- what the test of a row says
has-live : (x q n : ℕ) → has_live x q n ≡ true → (x ≡ n) × ¬ (q ≡ 0)
has-live x q n h = let p = pick_yes (eqb x n) h in (eqb-true x n p.0, eqb-false q 0 (not-true _ p.1))

-- a row that has nothing live is not moved, whatever its number
idle-row : {A : Type 0} (t u : Bool) (x y : A) → pick t (not u) false ≡ false → pick t (pick u x y) x ≡ x
unfolding pick
idle-row true true x y h = refl
idle-row true false x y h = absurd (clash refl h)
idle-row false u x y h = refl

-- where no row is found, the test fails at each
none-found : {A : Type 0} (d : A) (p : A → Bool) (xs : List A) → position p xs ≡ None → (k : ℕ) → k < length xs → p (get_or xs k d) ≡ false
none-found d p xs =
    let i : ℕ = position_or_len p xs in
    cond_both (nat_lt i (length xs)) (Some i) None (λ o. o ≡ None → (k : ℕ) → k < length xs → p (get_or xs k d) ≡ false)
    (λ l e. absurd (none-some i (sym e)))
    (λ l e k h. fails_before_first p xs k d (omega (arith, ltb-false i (length xs) l)))

module _ (n : ℕ) (b : State) where
  entry-idle : (i : ℕ) → entry_has n (entry_at b i) ≡ false → cancel_entry_of n i b ≡ still b
  unfolding cancel_entry_of cancel_entry
  entry-idle i h = idle-row (eqb (entry_at b i).number n) (eqb (entry_at b i).units 0) _ _ h

  order-idle : (i : ℕ) → order_has n (order_at b i) ≡ false → cancel_order_of n i b ≡ still b
  unfolding cancel_order_of cancel_order
  order-idle i h = idle-row (eqb (order_at b i).number n) (eqb (order_at b i).contracts 0) _ _ h

  order-live : (i : ℕ) → ¬ ((order_at b i).contracts ≡ 0) → cancel_order i b ≡ cancelled_order i b
  unfolding cancel_order cancelled_order
  order-live i e = search tests

  -- an entry is found
  pub number-at-entry : {r : Option ℕ} {i : ℕ} → Sound b → r ≡ position (entry_has n) b.entries → r ≡ Some i → cancel_number n b ≡ cancel_entry i b
  number-at-entry {i = i} s e f =
      let h = position-Some (entry_has n) b.entries i no_entry (sym e ∙ f) in
      let p = has-live _ _ n h.1 in
      number-entry b s n i (omega (arith, h.0, s.entry_rows)) p.0 (omega (arith, p.1))

  -- a leg order is found
  pub number-at-order : {r : Option ℕ} {i : ℕ} → Sound b → r ≡ position (order_has n) b.orders → r ≡ Some i → cancel_number n b ≡ cancelled_order i b
  number-at-order {i = i} s e f =
      let h = position-Some (order_has n) b.orders i no_order (sym e ∙ f) in
      let p = has-live _ _ n h.1 in
      number-order b s n i (omega (arith, h.0, s.order_rows)) p.0 (omega (arith, p.1)) ∙ order-live i p.1

  -- .. an entry by its slot
  pub number-at-entry-slot : {i : ℕ} → Sound b → i ≡ entry_slot n b → i < 32 → cancel_number n b ≡ cancelled i b
  unfolding entry_slot
  number-at-entry-slot {i} s e l =
      let h : entry_has n (entry_at b i) ≡ true = rw e (first_holds (λ (k : ℕ). entry_has n (entry_at b k)) 32 (rw e at l)) in
      let p = has-live _ _ n h in
      number-entry b s n i l p.0 (omega (arith, p.1)) ∙ cancel-live i b p.1

  -- .. a leg order by its slot
  pub number-at-order-slot : {i : ℕ} → Sound b → i ≡ order_slot n b → i < 32 → cancel_number n b ≡ cancelled_order i b
  unfolding order_slot
  number-at-order-slot {i} s e l =
      let h : order_has n (order_at b i) ≡ true = rw e (first_holds (λ (k : ℕ). order_has n (order_at b k)) 32 (rw e at l)) in
      let p = has-live _ _ n h in
      number-order b s n i l p.0 (omega (arith, p.1)) ∙ order-live i p.1

  -- nothing is live of the number
  pub number-not : {r q : Option ℕ} → Sound b → r ≡ position (entry_has n) b.entries → r ≡ None → q ≡ position (order_has n) b.orders → q ≡ None → cancel_number n b ≡ still b
  unfolding cancel_number and_then
  number-not s e f g h =
      rw (
        each-still (cancel_entry_of n) b 32 (λ k l. entry-idle k (none-found no_entry (entry_has n) b.entries (sym e ∙ f) k (omega (arith, l, s.entry_rows)))),
        each-still (cancel_order_of n) b 32 (λ k l. order-idle k (none-found no_order (order_has n) b.orders (sym g ∙ h) k (omega (arith, l, s.order_rows)))),
      )

  -- .. by the slots, in any book
  pub number-nowhere : {i j : ℕ} → i ≡ entry_slot n b → 32 ≤ i → j ≡ order_slot n b → 32 ≤ j → cancel_number n b ≡ still b
  unfolding entry_slot order_slot cancel_number and_then
  number-nowhere e l f m =
      rw (
        each-still (cancel_entry_of n) b 32 (λ k h. entry-idle k (first-before (λ (i : ℕ). entry_has n (entry_at b i)) 32 k (omega (arith, e)))),
        each-still (cancel_order_of n) b 32 (λ k h. order-idle k (first-before (λ (i : ℕ). order_has n (order_at b i)) 32 k (omega (arith, f)))),
      )

-- the nets after q contracts were taken from the leg order at slot j: what `refreshed` asks for, and that it gives those of the rule
module _ (b : State) (s : Sound b) (j q : ℕ) {o : LegOrder} {p : Option ℕ} (e : o ≡ cut_order (order_at b j) q) (f : p ≡ unless_zero (price_of b.orders (order_at b j).series (order_at b j).side)) where
  price-was : unwrap_or p 0 ≡ price_of b.orders (order_at b j).series (order_at b j).side
  price-was = ap (λ x. unwrap_or x 0) f ∙ unless-zero-or _

  pub cut-asks : All FitLegs b.strategies × All FitOrder (set b.orders j o) × All Priced (set b.orders j o) × All FitNets b.nets × ((order_at b j).side ≤ 1) × (unwrap_or p 0 ≤ 99_999)
  unfolding cut_leg with_orders
  cut-asks =
      let g = fit-sound s in
      let h = fit-shrinks (cut_leg-shrinks b j q) g in
      rw (e, price-was) (g.strategies, h.orders, h.priced, rw g.nets.are (fit-nets g.orders g.strategies), (fit-order g.orders j).side, price-most b.orders g.orders _ _)

  pub cut-nets : {ns : List LegNets} → Refreshed b.nets b.strategies (set b.orders j o) (order_at b j).series (order_at b j).side (unwrap_or p 0) ns
      → ns ≡ nets_of (set b.orders j (cut_order (order_at b j) q)) b.strategies
  cut-nets r =
      refreshed-one b.orders (set b.orders j (cut_order (order_at b j) q)) b.strategies (order_at b j).series (order_at b j).side s.orders s.nets.are price-was
      (λ x d n. cut-price b.orders j q x d n) (rw e at r)
