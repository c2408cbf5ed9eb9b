-- The stored nets after one best price changed: those that take it are moved, or found anew, and the others stay.
use Rattle.std.specs.Prelude.{◌≡◌, Bool, true, false, eqb, length, set}
use Rattle.std.proofs.Math.Path.{refl, sym, ap}
use Rattle.std.proofs.Common.{◌∙◌, eqb-true, ne_eqb, None, Some}
use Rattle.std.specs.Option.{option_map_or}
use Rattle.std.proofs.Math.Logic.{⊎_elim}
use mathlib.Core.List.{List}
use Prim.Native.Nat.{ℕ, ◌+◌, ◌≤◌, ◌<◌}
use native.Mathlib.Omega.{arith}
use Rattle.std.proofs.lemmas.Bool.{eqb-false}
use Rattle.std.proofs.Math.ListN.{get_or}
use Rattle.base.specs.Pick.{pick, pick-by, pick_true, pick-false}
use Rattle.base.specs.All.{All}
use Rattle.base.specs.Sets.{has}
use Rattle.base.specs.Walks.{table, seam, seam-first, seam-next, seam-skip, seam-last}
use Rattle.rules.specs.declared.Leg.{Leg}
use Rattle.rules.specs.declared.Strategy.{Strategy}
use Rattle.rules.specs.declared.LegOrder.{LegOrder}
use Rattle.rules.specs.declared.LegNets.{LegNets}
use Rattle.rules.specs.Rows.{no_strategy, no_nets}
use Rattle.rules.specs.Sides.{other, leg_side}
use Rattle.rules.specs.Nets.{price_of, leg_price, prices, net_of}
use Rattle.rules.specs.Strategies.{place_of}
use Rattle.rules.specs.Valid.{FitOrder}
use Rattle.rules.proofs.Laws.{side-is, other-other, other-buy, other-sell}
use Rattle.rules.proofs.Nets.{table_same}
use Rattle.rules.proofs.BetterNets.{price-most}
use Rattle.ranges.specs.Fit.{FitLegs, fit-leg, fit-legs}
use Rattle.stored_nets.specs.Stored.{Prices, with_price, leg_prices, nets_by, all_nets_by, leg_of, by_leg, net_moved, nets_moved, moved_at, all_moved, nets_anew, anew_at, all_anew, nets_after, after_at, Refreshed}
use Rattle.stored_nets.specs.Laws.{with-price-at, with-price-other, with-price-is, with-price-most, all-nets-ext, all-nets-at}
use Rattle.stored_nets.specs.Places.{leg_in, Found, Missing, leg-or-none, not-held}
use Rattle.stored_nets.specs.Moves.{net-kept, net-change}

-- the price that a party of that side meets on the leg at place j
abbrev placed : Prices → ℕ → Strategy → ℕ → ℕ
placed f side t j = f (leg_in t j).series (other (leg_side side (leg_in t j)))

-- the bid net takes a leg's price on the leg's own side, the offer net on the other
bid-side : (l : Leg) → l.side ≤ 1 → other (leg_side 1 l) ≡ l.side
unfolding leg_side pick
bid-side l h = other-other l.side h

offer-side : (l : Leg) → other (leg_side 0 l) ≡ other l.side
unfolding leg_side pick
offer-side l = refl

-- of two sides, one is the other's other
other-not : (x d : ℕ) → x ≤ 1 → d ≤ 1 → ¬ (x ≡ d) → other x ≡ d
other-not x d h k n =
    ⊎_elim
    (λ (e : x ≡ 0). rw (e, other-buy) (omega arith))
    (λ (e : x ≡ 1). rw (e, other-sell) (omega arith))
    (side-is x h)

not-other : (x : ℕ) → x ≤ 1 → ¬ (other x ≡ x)
not-other x h e =
    ⊎_elim
    (λ (z : x ≡ 0). omega (arith, rw (z, other-buy) at e))
    (λ (z : x ≡ 1). omega (arith, rw (z, other-sell) at e))
    (side-is x h)

-- prices that are those of the leg orders
prices-are : (os : List LegOrder) (f : Prices) → ((x e : ℕ) → f x e ≡ price_of os x e) → (side : ℕ) (legs : List Leg) → leg_prices f side legs ≡ prices os side legs
unfolding leg_prices prices leg_price
prices-are os f e side legs = table_same _ _ 6 (λ i _. e _ _)

-- ONE STRATEGY where the price of series s on side d becomes q

module _ (t : Strategy) (fit : FitLegs t) (f : Prices) (s d q : ℕ) where
  abbrev new : Prices
  new = with_price f s d q

  -- the net by prices goes by those of the legs in use
  same-net : (g h : Prices) (side : ℕ) → ((j : ℕ) → j < t.count → placed g side t j ≡ placed h side t j) → net_of t (leg_prices g side t.legs) ≡ net_of t (leg_prices h side t.legs)
  unfolding leg_prices
  same-net g h side e = net-kept t fit (placed g side t) (placed h side t) e

  nets-same : (g h : Prices) → ((side j : ℕ) → j < t.count → placed g side t j ≡ placed h side t j) → nets_by g t ≡ nets_by h t
  unfolding nets_by
  nets-same g h e =
      ap (λ (b : ℕ). pick (eqb t.count 0) no_nets (record { bid = b; offer = net_of t (leg_prices g 0 t.legs) })) (same-net g h 1 (e 1))
      ∙ ap (λ (a : ℕ). pick (eqb t.count 0) no_nets (record { bid = net_of t (leg_prices h 1 t.legs); offer = a })) (same-net g h 0 (e 0))

  -- no leg of the series: both nets stay
  pub nets-stay : ((j : ℕ) → j < t.count → ¬ ((leg_in t j).series ≡ s)) → nets_by f t ≡ nets_by new t
  nets-stay n = nets-same f new (λ side j l. sym (with-price-other f s d q (λ z. n j l z.0)))

  nets-some : (g : Prices) → 0 < t.count → nets_by g t ≡ record { bid = net_of t (leg_prices g 1 t.legs); offer = net_of t (leg_prices g 0 t.legs) }
  unfolding nets_by
  nets-some g h = pick-false _ _ _ (ne_eqb t.count 0 (λ z. omega arith))

  module _ (i : ℕ) (at : Found t s i) where
    -- a net that takes another side of the leg stays
    net-stays : (side : ℕ) → ¬ (other (leg_side side (leg_in t i)) ≡ d) → net_of t (leg_prices f side t.legs) ≡ net_of t (leg_prices new side t.legs)
    net-stays side n =
        same-net f new side
        (λ j l. pick-by (λ (_ : Bool). placed f side t j ≡ placed new side t j) (eqb j i) {a = true} {b = false}
        (λ e. rw (eqb-true j i e) (sym (with-price-other f s d q (λ z. n z.1))))
        (λ e. sym (with-price-other f s d q (λ z. at.others j l (eqb-false j i e) z.0))))

    -- the one that takes it moves
    net-moves : (few : (x e : ℕ) → f x e ≤ 99_999) → q ≤ 99_999 → 0 < f s d → (side : ℕ) → other (leg_side side (leg_in t i)) ≡ d
        → net_of t (leg_prices new side t.legs) ≡ net_moved (net_of t (leg_prices f side t.legs)) (leg_in t i) (f s d) q
    unfolding leg_prices
    net-moves few h some side e =
        let old : placed f side t i ≡ f s d = rw (at.series, e) refl in
        let now : placed new side t i ≡ q = rw (at.series, e) (with-price-at f s d q) in
        net-change t fit (placed f side t) (placed new side t) (λ j. few _ _) (λ j. with-price-most f s d q few h _ _) i at.below (rw old some)
        (λ j l n. sym (with-price-other f s d q (λ z. at.others j l n z.0)))
        ∙ ap (λ (x : ℕ). net_moved (net_of t (table (placed f side t) 6)) (leg_in t i) x (placed new side t i)) old
        ∙ ap (λ (x : ℕ). net_moved (net_of t (table (placed f side t) 6)) (leg_in t i) (f s d) x) now

    abbrev l : Leg
    l = leg_in t i

    -- which of the two takes it, and what becomes of both; b and a are the new bid and offer net
    module _ (two : d ≤ 1) (b a : ℕ) (takes : other (leg_side 1 l) ≡ d → net_of t (leg_prices new 1 t.legs) ≡ b) (gives : other (leg_side 0 l) ≡ d → net_of t (leg_prices new 0 t.legs) ≡ a) where
      pub nets-become : nets_by new t ≡ pick (eqb l.side d) (record { bid = b; offer = (nets_by f t).offer }) (record { bid = (nets_by f t).bid; offer = a })
      nets-become =
          let c : 0 < t.count = omega (arith, at.below) in
          let side : l.side ≤ 1 = (fit-leg fit.legs i).side in
          nets-some new c
          ∙ sym (rw (nets-some f c)
          (pick-by (λ (n : LegNets). n ≡ record { bid = net_of t (leg_prices new 1 t.legs); offer = net_of t (leg_prices new 0 t.legs) }) (eqb l.side d)
          (λ z.
          let e : l.side ≡ d = eqb-true l.side d z in
          let n : ¬ (other (leg_side 0 l) ≡ d) = λ y. not-other l.side side (sym (offer-side l) ∙ y ∙ sym e) in
          rw (takes (bid-side l side ∙ e), net-stays 0 n))
          (λ z.
          let e : ¬ (l.side ≡ d) = eqb-false l.side d z in
          let n : ¬ (other (leg_side 1 l) ≡ d) = λ y. e (sym (bid-side l side) ∙ y) in
          rw (gives (offer-side l ∙ other-not l.side d side two e), net-stays 1 n))))

  -- the price was there
  pub nets-moves : (few : (x e : ℕ) → f x e ≤ 99_999) → q ≤ 99_999 → d ≤ 1 → {p : ℕ} → f s d ≡ p → 0 < p → nets_by new t ≡ option_map_or (λ (l : Leg). nets_moved (nets_by f t) l d p q) (leg_of t s) (nets_by f t)
  unfolding nets_moved
  nets-moves few h two {p} e some =
      ⊎_elim
      (λ (at : Found t s (place_of t.legs t.count s)).
      rw (at.leg, sym e)
      (let i : ℕ = place_of t.legs t.count s in
      let o : 0 < f s d = omega arith in
      nets-become i at two _ _
      (λ z. net-moves i at few h o 1 z ∙ rw (nets-some f (omega (arith, at.below))) refl)
      (λ z. net-moves i at few h o 0 z ∙ rw (nets-some f (omega (arith, at.below))) refl)))
      (λ (m : Missing t s). rw m.leg (sym (nets-stay m.others)))
      (leg-or-none t fit s)

  -- the prices are now those of the leg orders
  pub nets-anew : (os : List LegOrder) → d ≤ 1 → ((x e : ℕ) → new x e ≡ price_of os x e) → nets_by new t ≡ option_map_or (λ (l : Leg). nets_anew (nets_by f t) t l d os) (leg_of t s) (nets_by f t)
  unfolding nets_anew
  nets-anew os two e =
      let by : (side : ℕ) → net_of t (leg_prices new side t.legs) ≡ net_of t (prices os side t.legs) = λ side. ap (net_of t) (prices-are os new e side t.legs) in
      ⊎_elim
      (λ (at : Found t s (place_of t.legs t.count s)). rw at.leg (nets-become (place_of t.legs t.count s) at two _ _ (λ _. by 1) (λ _. by 0)))
      (λ (m : Missing t s). rw m.leg (sym (nets-stay m.others)))
      (leg-or-none t fit s)

-- ALL 16

module _ (ns : List LegNets) (ss : List Strategy) (os : List LegOrder) (s d p : ℕ) where
  -- the price is what it was
  pub refreshed-same : price_of os s d ≡ p → Refreshed ns ss os s d p ns
  refreshed-same h = record {
    by = λ f few e g _.
        e ∙ all-nets-ext ss (λ x y. sym (with-price-is f s d (price_of os s d) (λ (v : ℕ). v ≡ f x y) x y (λ a b. h ∙ sym g ∙ rw (a, b) refl) (λ _. refl)));
  }

  module _ (fit : All FitLegs ss) (two : d ≤ 1) {ms : List LegNets} where
    -- there was none
    pub refreshed-anew : p ≡ 0 → ms ≡ all_anew ns ss os s d → Refreshed ns ss os s d p ms
    unfolding all_anew all_nets_by
    refreshed-anew z m = record {
      by = λ f few e g o.
          m ∙ table_same (anew_at ns ss os s d) (λ (k : ℕ). nets_by (with_price f s d (price_of os s d)) (get_or ss k no_strategy)) 16
          (λ k l.
          let t : Strategy = get_or ss k no_strategy in
          let n : get_or ns k no_nets ≡ nets_by f t = ap (λ (xs : List LegNets). get_or xs k no_nets) e ∙ all-nets-at f ss k l in
          rw n
          (pick-by (λ (x : LegNets). x ≡ nets_by (with_price f s d (price_of os s d)) t) (has t.series s)
          (λ _. sym (nets-anew t (fit-legs fit k) f s d (price_of os s d) os two (o z)))
          (λ h. nets-stay t (fit-legs fit k) f s d (price_of os s d) (not-held t (fit-legs fit k) s h))));
    }

    -- there was one
    pub refreshed-moved : All FitOrder os → ¬ (p ≡ 0) → {q : ℕ} → q ≡ price_of os s d → ms ≡ all_moved ns ss s d p q → Refreshed ns ss os s d p ms
    unfolding all_moved all_nets_by
    refreshed-moved a z {q} w m = record {
      by = λ f few e g o.
          rw (sym w)
          (m ∙ table_same (moved_at ns ss s d p q) (λ (k : ℕ). nets_by (with_price f s d q) (get_or ss k no_strategy)) 16
          (λ k l.
          let t : Strategy = get_or ss k no_strategy in
          let n : get_or ns k no_nets ≡ nets_by f t = ap (λ (xs : List LegNets). get_or xs k no_nets) e ∙ all-nets-at f ss k l in
          let h : q ≤ 99_999 = rw w (price-most os a s d) in
          rw n
          (pick-by (λ (x : LegNets). x ≡ nets_by (with_price f s d q) t) (has t.series s)
          (λ _. sym (nets-moves t (fit-legs fit k) f s d q few h two g (omega arith)))
          (λ y. nets-stay t (fit-legs fit k) f s d q (not-held t (fit-legs fit k) s y)))));
    }

-- .. or there was none
pub all-after-none : (ns : List LegNets) (ss : List Strategy) (os : List LegOrder) (s d p q : ℕ) → p ≡ 0 → table (after_at ns ss os s d p q) 16 ≡ all_anew ns ss os s d
unfolding all_anew nets_after pick
all-after-none ns ss os s d p q e = rw e refl

pub all-after-some : (ns : List LegNets) (ss : List Strategy) (os : List LegOrder) (s d p q : ℕ) → ¬ (p ≡ 0) → table (after_at ns ss os s d p q) 16 ≡ all_moved ns ss s d p q
unfolding all_moved nets_after pick table
all-after-some ns ss os s d p q n = let e : eqb p 0 ≡ false = ne_eqb p 0 n in rw e refl

-- THE LOOPS: the first i slots are stored

module _ (f : ℕ → LegNets) (ns : List LegNets) where
  pub step-first : ns ≡ seam f ns 0
  step-first = sym (seam-first f ns)

  pub step_set : {i : ℕ} {x : LegNets} {ms : List LegNets} → length ns ≡ 16 → i < 16 → x ≡ f i → ms ≡ seam f ns i → set ms i x ≡ seam f ns (i + 1)
  step_set {i} n h e g = rw (e, g) (seam-next f ns no_nets i (omega arith))

  pub step_skip : {i : ℕ} {ms : List LegNets} → length ns ≡ 16 → i < 16 → f i ≡ get_or ns i no_nets → ms ≡ seam f ns i → ms ≡ seam f ns (i + 1)
  step_skip {i} n h e g = g ∙ seam-skip f ns no_nets i (omega arith) e

  pub step-last : {i : ℕ} {ms : List LegNets} → length ns ≡ 16 → i ≡ 16 → ms ≡ seam f ns i → ms ≡ table f 16
  step-last n h g = rw (g, h) (seam-last f ns 16 (omega arith))

-- one strategy, by what the code tests
module _ (t : Strategy) (s : ℕ) (n : LegNets) (f : Leg → LegNets) where
  pub held-found : {l : Leg} → has t.series s ≡ true → Some l ≡ leg_of t s → f l ≡ by_leg t s n f
  held-found h e = rw (sym e) (sym (pick_true _ _ _ h))

  pub held-missing : has t.series s ≡ true → None ≡ leg_of t s → by_leg t s n f ≡ n
  held-missing h e = rw (sym e) (pick_true _ _ _ h)
