-- Passes, matches and cancels of one strategy touch no entry of another, and no strategy's row.
use mathlib.Core.Path.{◌≡◌, refl, sym, ◌∙◌, ap}
use mathlib.Core.Bool.{Bool, true}
use mathlib.Core.Logic.{⊎_elim}
use mathlib.Core.List.{List}
use Prim.Native.Nat.{ℕ, zero, suc, ◌≤◌, ◌<◌}
use native.Mathlib.Omega.{arith}
use borrow.Author.Tests.{eqb-true, ltb-true}
use lib.Dec.{eqb, ltb}
use lib.ListN.{length, get_or, get_or-eq_default}
use Rattle.base.specs.Pick.{pick-by, pick_all, pick_yes, pick_no}
use Rattle.base.specs.Walks.{slot, walk, table-slot, first_holds, lt-or-le}
use Rattle.rules.specs.declared.Entry.{Entry}
use Rattle.rules.specs.declared.State.{State}
use Rattle.rules.specs.declared.Allocation.{Allocation}
use Rattle.rules.specs.declared.Allocation.TheVariants.{LegsOnly, Shared, ForStarter, Numbered}
use Rattle.rules.specs.declared.Turn.{Turn}
use Rattle.rules.specs.declared.Turn.TheVariants.{Stop, ByLegs, AtLimit}
use Rattle.rules.specs.State.{no_entry, entry_at, strategy_at, with_entries, with_orders}
use Rattle.rules.specs.Moves.{Moved, and_then, each}
use Rattle.rules.specs.Quotas.{Division, GivesOut, in_turn, share}
use Rattle.rules.specs.Fills.{cut, cut_leg, whole_fill, take_legs, leg_fill, leg_trade, cancel_entry, cancel_order}
use Rattle.rules.specs.Passes.{opposes, holding, size_at, sizes, give_at, give, give_group, give_shared, give_for_starter, meet_limit, turn_of, take_turn, turn, pass}
use Rattle.rules.specs.Auctions.{live_in, is_number, starter_slot, lapses, cancel_lapsed, starter_pass, later, later_pass, day_order, leg_pass, ahead, best_step, best_slot, crossed, match_once, match_all}
use Rattle.rules.specs.Events.{trade_once, trade_all, cancel_order_of}
use Rattle.rules.proofs.Tables.{positive}
use Rattle.rules.proofs.Gives.{specialist-divides}
use Rattle.rules.proofs.Quotas.{in_turn-divides, share-divides}
use Rattle.rules.proofs.Shrinks.{Shrinks, shrinks-refl, shrinks-trans, set-by, cut-shrinks, cut_leg-shrinks, legs-shrinks, trade-shrinks}

pub record Only (k : ℕ) (b c : State) : Type 0 where
  pub shrinks : Shrinks b c
  pub others : (i : ℕ) → ((entry_at b i).strategy ≡ k → ⊥) → (entry_at c i).units ≡ (entry_at b i).units
  pub strategies : c.strategies ≡ b.strategies

pub only-refl : (k : ℕ) (b : State) → Only k b b
only-refl k b = record { shrinks = shrinks-refl b; others = λ i n. refl; strategies = refl }

pub only-trans : {k : ℕ} {b c d : State} → Only k b c → Only k c d → Only k b d
only-trans h j = record {
  shrinks = shrinks-trans h.shrinks j.shrinks;
  others = λ i n. j.others i (λ e. n (sym (h.shrinks.entry i).strategy ∙ e)) ∙ h.others i n;
  strategies = j.strategies ∙ h.strategies;
}

pub only_then : {k : ℕ} {b : State} (m : Moved) (f : State → Moved) → Only k b m.state → Only k m.state (f m.state).state → Only k b (and_then m f).state
unfolding and_then
only_then m f h j = only-trans h j

-- a move at each of n slots, each from a state that earlier ones have lessened
pub only-each : {k : ℕ} (f : ℕ → State → Moved) (b : State) (n : ℕ) → ((i : ℕ) → i < n → (c : State) → Shrinks b c → Only k c (f i c).state) → Only k b (each f n b).state
unfolding each
only-each f b zero h = only-refl _ b
only-each f b (suc n) h =
    let r = only-each f b n (λ i l. h i (omega arith)) in
    only_then (each f n b) (f n) r (h n (omega arith) _ r.shrinks)

-- Fills.

module _ (k : ℕ) where
  pub cut-only : (b : State) (i q : ℕ) → (entry_at b i).strategy ≡ k → Only k b (cut b i q)
  unfolding cut with_entries
  cut-only b i q e = record {
    shrinks = cut-shrinks b i q;
    others = λ j n. set-by (λ (y : Entry). y.units ≡ (entry_at b j).units) no_entry _ b.entries i j refl (λ q. absurd (n (rw q e)));
    strategies = refl;
  }

  pub whole-only : (b : State) (a h level q : ℕ) → (entry_at b a).strategy ≡ k → (0 < q → (entry_at b h).strategy ≡ k) → Only k b (whole_fill b a h level q).state
  unfolding whole_fill
  whole-only b a h level q e f =
      pick-by (λ (m : Moved). Only k b m.state) (eqb q 0)
      (λ _. only-refl k b)
      (λ z.
      only-trans (cut-only b a q e) (cut-only (cut b a q) h q (((cut-shrinks b a q).entry h).strategy ∙ f (positive q z))))

  pub legs-only : (b : State) (a : ℕ) → length b.orders ≡ 32 → (entry_at b a).strategy ≡ k → Only k b (leg_fill a b).state
  unfolding leg_fill take_legs with_orders
  legs-only b a n e = record {
    shrinks = legs-shrinks b n a;
    others = (cut-only b a _ e).others;
    strategies = (cut-only b a _ e).strategies;
  }

  -- a size above 0 is of an entry that opposes, so of the strategy
  size-some : (es : List Entry) (e : Entry) (level g i : ℕ) → i < 32 → 0 < slot (sizes es e level g) i → (get_or es i no_entry).strategy ≡ e.strategy
  unfolding sizes holding opposes
  size-some es e level g i h l =
      pick-by (λ (n : ℕ). 0 < n → (get_or es i no_entry).strategy ≡ e.strategy) _
      (λ t _. eqb-true _ _ (pick_yes _ (pick_no _ t).1).0)
      (λ t z. absurd (omega arith))
      (rw (table-slot (size_at es e level g) 0 32 i h) at l)

  give-only : (b : State) (a level : ℕ) (qs : List ℕ) → (entry_at b a).strategy ≡ k → ((i : ℕ) → i < 32 → 0 < slot qs i → (entry_at b i).strategy ≡ k) → Only k b (give a level qs b).state
  unfolding give
  give-only b a level qs e f =
      only-each (give_at a level qs) b 32
      (λ i l c s. whole-only c a i level (slot qs i) ((s.entry a).strategy ∙ e) (λ p. (s.entry i).strategy ∙ f i l p))

  give_group-only : {divide : Division} → GivesOut divide → (a level g : ℕ) (b : State) → (entry_at b a).strategy ≡ k → Only k b (give_group divide a level g b).state
  unfolding give_group
  give_group-only d a level g b e =
      let xs : List ℕ = sizes b.entries (entry_at b a) level g in
      give-only b a level _ e (λ i l p. size-some b.entries (entry_at b a) level g i l (omega (arith, d.under (entry_at b a).units xs i)) ∙ e)

  give_shared-only : {second : Division} → GivesOut second → (a level : ℕ) (b : State) → (entry_at b a).strategy ≡ k → Only k b (give_shared second a level b).state
  unfolding give_shared
  give_shared-only {second} d a level b e =
      let c : State = (give_group in_turn a level 0 b).state in
      let x = give_group-only in_turn-divides a level 0 b e in
      let f : (entry_at c a).strategy ≡ k = (x.shrinks.entry a).strategy ∙ e in
      let y = give_group-only d a level 1 c f in
      only_then (give_group in_turn a level 0 b) _ x
      (only_then (give_group second a level 1 c) (give_group share a level 2) y
      (give_group-only share-divides a level 2 _ ((y.shrinks.entry a).strategy ∙ f)))

  meet_limit-only : (way : Allocation) (a level : ℕ) (b : State) → (entry_at b a).strategy ≡ k → Only k b (meet_limit way a level b).state
  unfolding meet_limit give_for_starter
  meet_limit-only LegsOnly a level b e = only-refl k b
  meet_limit-only Shared a level b e = give_shared-only share-divides a level b e
  meet_limit-only ForStarter a level b e = give_shared-only (specialist-divides a level b) a level b e
  meet_limit-only Numbered a level b e = give_group-only in_turn-divides a level 3 b e

  take-only : (way : Allocation) (a : ℕ) (t : Turn) (b : State) → length b.orders ≡ 32 → (entry_at b a).strategy ≡ k → Only k b (take_turn way a t b).state
  unfolding take_turn
  take-only way a Stop b n e = only-refl k b
  take-only way a ByLegs b n e = legs-only b a n e
  take-only way a (AtLimit level) b n e = meet_limit-only way a level b e

  pub turns-only : (way : Allocation) (legs : Bool) (a : ℕ) (b : State) → length b.orders ≡ 32 → (entry_at b a).strategy ≡ k → (n : ℕ) → Only k b (each (turn way legs a) n b).state
  turns-only way legs a b m e n =
      only-each (turn way legs a) b n (λ i _ c s. take-only way a (turn_of way legs a c) c (s.order_rows ∙ m) ((s.entry a).strategy ∙ e))

  pub pass-only : (way : Allocation) (legs : Bool) (a : ℕ) (b : State) → length b.orders ≡ 32 → (entry_at b a).strategy ≡ k → Only k b (pass way legs a b).state
  unfolding pass
  pass-only way legs a b n e = turns-only way legs a b n e _

  -- Cancels.

  pub cancel-only : (i : ℕ) (b : State) → (entry_at b i).strategy ≡ k → Only k b (cancel_entry i b).state
  unfolding cancel_entry
  cancel-only i b e = pick_all (λ (m : Moved). Only k b m.state) _ (only-refl k b) (cut-only b i _ e)

  pub live-in : (e : Entry) → live_in k e ≡ true → (0 < e.units) × (e.strategy ≡ k)
  unfolding live_in
  live-in e h =
      let p = pick_no (eqb e.units 0) h in
      (positive _ p.0, eqb-true _ _ p.1)

  pub lapsed-only : (i : ℕ) (b : State) → Only k b (cancel_lapsed k i b).state
  unfolding cancel_lapsed lapses
  lapsed-only i b =
      pick-by (λ (m : Moved). Only k b m.state) _
      (λ t. cancel-only i b (live-in (entry_at b i) (pick_yes _ t).0).1)
      (λ _. only-refl k b)

  -- The passes of an auction's end.

  -- the starter's slot, where there is one, holds a live entry of the strategy
  pub starter-in : (b : State) → starter_slot b k < 32 → live_in k (entry_at b (starter_slot b k)) ≡ true
  unfolding starter_slot
  starter-in b h = (pick_yes _ (first_holds (is_number b k (strategy_at b k).starter) 32 h)).0

  -- an active entry with no units does nothing
  pass-none : (way : Allocation) (legs : Bool) (a : ℕ) (b : State) → (entry_at b a).units ≡ 0 → Only k b (pass way legs a b).state
  unfolding pass each
  pass-none way legs a b e = rw e (only-refl k b)

  pub starter_pass-only : (b : State) → length b.entries ≡ 32 → length b.orders ≡ 32 → Only k b (starter_pass k b).state
  unfolding starter_pass
  starter_pass-only b m n =
      ⊎_elim
      (λ (l : starter_slot b k < 32). pass-only ForStarter _ (starter_slot b k) b n (live-in _ (starter-in b l)).1)
      (λ (l : 32 ≤ starter_slot b k). pass-none ForStarter _ (starter_slot b k) b (ap (λ (e : Entry). e.units) (get_or-eq_default b.entries no_entry {n = starter_slot b k} (omega arith))))
      (lt-or-le (starter_slot b k) 32)

  pub later_pass-only : (n i : ℕ) (b : State) → length b.orders ≡ 32 → Only k b (later_pass k n i b).state
  unfolding later_pass later
  later_pass-only n i b m =
      pick-by (λ (x : Moved). Only k b x.state) _
      (λ t. pass-only Numbered _ i b m (live-in (entry_at b i) (pick_yes _ t).0).1)
      (λ _. only-refl k b)

  -- The passes by legs.

  pub leg_pass-only : (i : ℕ) (b : State) → length b.orders ≡ 32 → Only k b (leg_pass k i b).state
  unfolding leg_pass day_order
  leg_pass-only i b m =
      pick-by (λ (x : Moved). Only k b x.state) _
      (λ t. pass-only LegsOnly true i b m (live-in (entry_at b i) (pick_yes _ t).0).1)
      (λ _. only-refl k b)

  pub leg_passes-only : (b : State) → length b.orders ≡ 32 → Only k b (each (leg_pass k) 32 b).state
  leg_passes-only b m = only-each (leg_pass k) b 32 (λ i _ c s. leg_pass-only i c (s.order_rows ∙ m))

  -- The matches.

  best-in : (b : State) (side n : ℕ) → walk (best_step b k side) 32 n < 32 → live_in k (entry_at b (walk (best_step b k side) 32 n)) ≡ true
  unfolding walk ahead
  best-in b side zero = λ h. absurd (omega arith)
  best-in b side (suc n) =
      let P : ℕ → Type 0 = λ (x : ℕ). x < 32 → live_in k (entry_at b x) ≡ true in
      pick-by P _ (λ t _. (pick_yes _ t).0) (λ t h. best-in b side n h)

  best-strategy : (b : State) (side : ℕ) → best_slot b k side < 32 → (entry_at b (best_slot b k side)).strategy ≡ k
  unfolding best_slot
  best-strategy b side h = (live-in _ (best-in b side 32 h)).1

  pub match_once-only : (i : ℕ) (b : State) → Only k b (match_once k i b).state
  unfolding match_once crossed
  match_once-only i b =
      let x : ℕ = best_slot b k 0 in
      let y : ℕ = best_slot b k 1 in
      pick-by (λ (m : Moved). Only k b m.state) _
      (λ t.
      let p = pick_yes (ltb x 32) (pick_yes _ t).0 in
      let u : (entry_at b x).strategy ≡ k = best-strategy b 0 (ltb-true _ _ p.0) in
      let v : (entry_at b y).strategy ≡ k = best-strategy b 1 (ltb-true _ _ (pick_yes (ltb y 32) p.1).0) in
      let P : ℕ → Type 0 = λ (z : ℕ). (entry_at b z).strategy ≡ k in
      whole-only b _ _ _ _ (pick_all P _ u v) (λ _. pick_all P _ v u))
      (λ _. only-refl k b)

  pub match_all-only : (b : State) → Only k b (match_all k b).state
  unfolding match_all
  match_all-only b = only-each (match_once k) b 32 (λ i _ c _. match_once-only i c)

  -- Trades and cancels of leg orders touch no entry.

  trade-only : (b : State) (a h : ℕ) → Only k b (leg_trade b a h).state
  unfolding leg_trade cut_leg with_orders
  trade-only b a h = record { shrinks = trade-shrinks b a h; others = λ i n. refl; strategies = refl }

  pub trade_once-only : (a i : ℕ) (b : State) → Only k b (trade_once a i b).state
  unfolding trade_once
  trade_once-only a i b =
      let P : Moved → Type 0 = λ (m : Moved). Only k b m.state in
      pick_all P _ (only-refl k b) (pick_all P _ (trade-only b a _) (only-refl k b))

  pub trade_all-only : (a : ℕ) (b : State) → Only k b (trade_all a b).state
  unfolding trade_all
  trade_all-only a b = only-each (trade_once a) b 32 (λ i _ c _. trade_once-only a i c)

  cancel_order-only : (i : ℕ) (b : State) → Only k b (cancel_order i b).state
  unfolding cancel_order cut_leg with_orders
  cancel_order-only i b =
      pick_all (λ (m : Moved). Only k b m.state) _ (only-refl k b) (record { shrinks = cut_leg-shrinks b i _; others = λ i n. refl; strategies = refl })

  pub cancel_orders-only : (n : ℕ) (b : State) → Only k b (each (cancel_order_of n) 32 b).state
  unfolding cancel_order_of
  cancel_orders-only n b =
      only-each (cancel_order_of n) b 32 (λ i _ c _. pick_all (λ (m : Moved). Only k c m.state) _ (cancel_order-only i c) (only-refl k c))
