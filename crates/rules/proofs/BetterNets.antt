-- A limit against the leg net of its own side: what the test says of the net, where it is known and where it is not.
use mathlib.Core.Path.{◌≡◌, refl, sym, ◌∙◌, ap}
use mathlib.Core.Bool.{Bool, true, false}
use mathlib.Core.Logic.{◌⊎◌, inl, inr, ⊎_elim}
use mathlib.Core.List.{List}
use Prim.Native.Nat.{ℕ, zero, suc, ◌≤◌}
use native.Mathlib.Omega.{arith}
use borrow.Author.Tests.{eqb-true, eq-eqb, ne_eqb, ltb-true, ltb-false, lt-ltb, le-ltb}
use lib.Dec.{eqb}
use lib.ListN.{get_or}
use Rattle.base.specs.Pick.{pick, pick-by, pick_all, pick_true}
use Rattle.base.specs.All.{All, all-at}
use Rattle.base.specs.Walks.{walk, clash}
use Rattle.rules.specs.declared.Leg.{Leg}
use Rattle.rules.specs.declared.Strategy.{Strategy}
use Rattle.rules.specs.declared.LegOrder.{LegOrder}
use Rattle.rules.specs.declared.State.{State}
use Rattle.rules.specs.State.{no_leg, no_order, order_at, strategy_at, leg_at, leg_net, offer_net, bid_net, own_net}
use Rattle.rules.specs.Sides.{other, leg_side, better, best_price}
use Rattle.rules.specs.Nets.{stands, price_with, price_step, price_of, leg_price, prices, net_of, betters}
use Rattle.rules.specs.Valid.{FitStrategy, FitOrder, Sound}
use Rattle.rules.specs.Sentences.{Any, BetterThanNet, above-bid, below-offer, NoBetterThanNet, not-above-bid, not-below-offer, NetUnknown}
use Rattle.rules.proofs.Tables.{positive, live-row}
use Rattle.rules.proofs.Control.{standing}
use Rattle.rules.proofs.Entering.{fit_at_lem, fit-no-leg, fit-no-order}
use Rattle.rules.proofs.Bests.{priced-sound, price-best, price-none}
use Rattle.rules.proofs.Nets.{prices_by, table_same, missing_at, missing-zero}
use Rattle.rules.proofs.Laws.{side-is, leg-side, leg-other, other-other}

-- THE TEST
module _ (b : State) (side k level : ℕ) where
  abbrev net : ℕ
  net = own_net b side k

  -- a known net that is bettered
  better-some : side ≤ 1 → eqb net 0 ≡ false → better (other side) level net ≡ true → BetterThanNet b side k level
  unfolding better other pick
  better-some two n h =
      ⊎_elim
      (λ (s : side ≡ 0). above-bid s (rw s at (positive (own_net b side k) n)) (ltb-true _ _ (rw s at h)))
      (λ (s : side ≡ 1). below-offer s (rw s at (positive (own_net b side k) n)) (ltb-true _ _ (rw s at h)))
      (side-is side two)

  -- what is better: the net is unknown and that is the answer, or it is bettered
  pub better-why : side ≤ 1 → (unknown : Bool) → betters unknown side level net ≡ true → ((net ≡ 0) × (unknown ≡ true)) ⊎ BetterThanNet b side k level
  unfolding betters
  better-why two unknown =
      pick-by (λ (t : Bool). t ≡ true → ((net ≡ 0) × (unknown ≡ true)) ⊎ BetterThanNet b side k level) (eqb net 0)
      (λ z h. inl (eqb-true _ _ z, h))
      (λ n h. inr (better-some two n h))

  pub better-known : side ≤ 1 → betters false side level net ≡ true → BetterThanNet b side k level
  better-known two h = ⊎_elim (λ z. absurd (clash z.1 refl)) (λ w. w) (better-why two false h)

  -- one that is better is so whatever is answered of an unknown net
  pub better-yes : (unknown : Bool) → BetterThanNet b side k level → betters unknown side level net ≡ true
  unfolding betters better other pick
  better-yes unknown (above-bid s some h) = rw (s, ne_eqb (bid_net b k) 0 (λ z. omega arith)) (lt-ltb _ _ h)
  better-yes unknown (below-offer s some h) = rw (s, ne_eqb (offer_net b k) 0 (λ z. omega arith)) (lt-ltb _ _ h)

  -- what is not: the net is known and it is no better
  no-better : side ≤ 1 → eqb net 0 ≡ false → better (other side) level net ≡ false → NoBetterThanNet b side k level
  unfolding better other pick
  no-better two n h =
      ⊎_elim
      (λ (s : side ≡ 0). not-above-bid s (rw s at (positive (own_net b side k) n)) (ltb-false _ _ (rw s at h)))
      (λ (s : side ≡ 1). not-below-offer s (rw s at (positive (own_net b side k) n)) (ltb-false _ _ (rw s at h)))
      (side-is side two)

  pub better-not : side ≤ 1 → betters true side level net ≡ false → NoBetterThanNet b side k level
  unfolding betters
  better-not two =
      pick-by (λ (t : Bool). t ≡ false → NoBetterThanNet b side k level) (eqb net 0)
      (λ _ h. absurd (clash refl h))
      (λ n h. no-better two n h)

  pub better-no : NoBetterThanNet b side k level → betters true side level net ≡ false
  unfolding betters better other pick
  better-no (not-above-bid s some h) = rw (s, ne_eqb (bid_net b k) 0 (λ z. omega arith)) (le-ltb _ _ h)
  better-no (not-below-offer s some h) = rw (s, ne_eqb (offer_net b k) 0 (λ z. omega arith)) (le-ltb _ _ h)

-- WHERE THE NET IS UNKNOWN
pub price-most : (os : List LegOrder) → All FitOrder os → (s side : ℕ) → price_of os s side ≤ 99_999
unfolding price_of walk price_with best_price
price-most os a s side = most 32
  where
    most : (n : ℕ) → walk (price_step os s side) 0 n ≤ 99_999
    most zero = omega arith
    most (suc n) =
        let P : ℕ → Type 0 = λ (x : ℕ). x ≤ 99_999 in
        let old : P (walk (price_step os s side) 0 n) = most n in
        let new : P (get_or os n no_order).price = (all-at no_order fit-no-order a n).price in
        pick_all P _ (pick_all P _ new (pick_all P _ new old)) old

module _ (b : State) (s : Sound b) (side k : ℕ) (two : side ≤ 1) where
  abbrev st : Strategy
  st = strategy_at b k

  -- the side of a leg that the own net takes
  abbrev price : Leg → ℕ
  price l = price_of b.orders l.series (leg_side side l)

  own-price : (l : Leg) → l.side ≤ 1 → leg_price b.orders (other side) l ≡ price l
  unfolding leg_price
  own-price l h = ap (price_of b.orders l.series) (ap other (leg-other side l two h) ∙ other-other (leg_side side l) (leg-side side l h))

  fit : FitStrategy st
  fit = fit_at_lem b s k

  pub own-net : own_net b side k ≡ net_of st (prices_by price st)
  unfolding leg_net prices
  own-net = ap (net_of st) (table_same _ _ 6 (λ i l. own-price (leg_at st i) (all-at no_leg fit-no-leg fit.legs i).side))

  most : (i : ℕ) → price (leg_at st i) ≤ 99_999
  most i = price-most b.orders s.orders _ _

  pub unknown-why : own_net b side k ≡ 0 → NetUnknown b side k
  unknown-why z =
      let a : Any (λ (i : ℕ). price (leg_at st i) ≡ 0) st.count = missing_at st fit price most (sym own-net ∙ z) in
      record { at = a.at; below = a.below; has = λ j. none-stands (leg_at st a.at) a.has j }
    where
      none-stands : (l : Leg) → price l ≡ 0 → (j : ℕ) → stands l.series (leg_side side l) (order_at b j) ≡ false
      none-stands l e j = by (stands l.series (leg_side side l) (order_at b j)) refl
        where
          by : (t : Bool) → stands l.series (leg_side side l) (order_at b j) ≡ t → stands l.series (leg_side side l) (order_at b j) ≡ false
          by true t = absurd (omega (arith, e, (price-best b.orders l.series (leg_side side l) (priced-sound s) j (live-row (λ (o : LegOrder). o.contracts) no_order refl b.orders s.order_rows j (standing l.series (leg_side side l) (order_at b j) t).live) t).0))
          by false t = t

  pub unknown-zero : NetUnknown b side k → own_net b side k ≡ 0
  unknown-zero a = own-net ∙ missing-zero st fit price most (record { at = a.at; below = a.below; has = price-none b.orders _ _ a.has })

-- a sweep of some units, by the test of the rules and by the sentence, both ways
module _ (b : State) (side k level : ℕ) (s : Sound b) (two : side ≤ 1) where
  pub bettered : betters true side level (own_net b side k) ≡ true → NetUnknown b side k ⊎ BetterThanNet b side k level
  bettered h = ⊎_elim (λ z. inl (unknown-why b s side k two z.0)) inr (better-why b side k level two true h)

  pub betters-it : NetUnknown b side k ⊎ BetterThanNet b side k level → betters true side level (own_net b side k) ≡ true
  unfolding betters
  betters-it (inl u) = pick_true _ _ _ (eq-eqb _ _ (unknown-zero b s side k two u))
  betters-it (inr w) = better-yes b side k level true w
