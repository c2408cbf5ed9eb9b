-- Laws of stored nets: prices with one changed, nets by prices against those of the leg orders, their ranges, and the net that a party meets.
use Rattle.std.specs.Prelude.{◌≡◌, refl, false, List, ℕ, ◌≤◌, ◌<◌, eqb, get_or}
use Rattle.std.proofs.Common.{sym, ◌∙◌, ap, arith}
use Rattle.std.proofs.Math.Logic.{⊎_elim}
use borrow.Author.Tests.{eqb-true, eq-eqb, ne_eqb}
use Rattle.std.proofs.Math.ListN.{get_or-eq_default}
use Rattle.base.specs.Pick.{pick, both, pick_all, pick-by, pick_true, pick-false, pick_yes}
use Rattle.base.specs.All.{All, all-at}
use Rattle.base.specs.Walks.{length-table, table-slot, lt-or-le, clash}
use Rattle.rules.specs.declared.Leg.{Leg}
use Rattle.rules.specs.declared.Strategy.{Strategy}
use Rattle.rules.specs.declared.LegOrder.{LegOrder}
use Rattle.rules.specs.declared.LegNets.{LegNets}
use Rattle.rules.specs.Rows.{no_leg, no_strategy, no_nets}
use Rattle.rules.specs.Sides.{other, leg_side}
use Rattle.rules.specs.Nets.{price_of, leg_price, prices, net_of, nets_in, nets_of}
use Rattle.rules.specs.Valid.{FitOrder}
use Rattle.rules.proofs.Laws.{side-is}
use Rattle.rules.proofs.Tables.{all_of}
use Rattle.rules.proofs.Nets.{table_same}
use Rattle.rules.proofs.NetTables.{nets-at}
use Rattle.rules.proofs.BetterNets.{price-most}
use Rattle.ranges.specs.Most.{AtMost, table-most}
use Rattle.ranges.specs.Fit.{FitLegs, fit-legs}
use Rattle.nets.specs.Nets.{net-most}
use Rattle.stored_nets.specs.Stored.{Prices, with_price, leg_prices, nets_by, all_nets_by, FitNets, net_for, Refreshed}

-- ONE PRICE CHANGED

module _ (f : Prices) (s d q : ℕ) where
  pub with-price-at : with_price f s d q s d ≡ q
  unfolding with_price
  with-price-at = pick_true _ _ _ (pick_true _ _ _ (eq-eqb s s refl) ∙ eq-eqb d d refl)

  pub with-price-other : {x e : ℕ} → ¬ ((x ≡ s) × (e ≡ d)) → with_price f s d q x e ≡ f x e
  unfolding with_price
  with-price-other {x} {e} n =
      pick-by (λ (v : ℕ). v ≡ f x e) (both (eqb x s) (eqb e d))
      (λ t. let y = pick_yes (eqb x s) t in absurd (n (eqb-true x s y.0, eqb-true e d y.1)))
      (λ _. refl)

  -- what holds of q there and of f elsewhere
  pub with-price-is : (P : ℕ → Type 0) (x e : ℕ) → (x ≡ s → e ≡ d → P q) → (¬ ((x ≡ s) × (e ≡ d)) → P (f x e)) → P (with_price f s d q x e)
  unfolding with_price
  with-price-is P x e here there =
      pick-by P (both (eqb x s) (eqb e d))
      (λ t. let y = pick_yes (eqb x s) t in here (eqb-true x s y.0) (eqb-true e d y.1))
      (λ t. there (λ z. clash (pick_true _ _ _ (eq-eqb x s z.0) ∙ eq-eqb e d z.1) t))

  pub with-price-most : ((x e : ℕ) → f x e ≤ 99_999) → q ≤ 99_999 → (x e : ℕ) → with_price f s d q x e ≤ 99_999
  unfolding with_price
  with-price-most few h x e = pick_all (λ (v : ℕ). v ≤ 99_999) _ h (few x e)

-- NETS BY PRICES

-- they go by the prices' values
pub all-nets-ext : {f g : Prices} (ss : List Strategy) → ((x e : ℕ) → f x e ≡ g x e) → all_nets_by f ss ≡ all_nets_by g ss
unfolding all_nets_by nets_by leg_prices
all-nets-ext {f} {g} ss h =
    table_same _ _ 16
    (λ k _.
    let t : Strategy = get_or ss k no_strategy in
    let ps : (side : ℕ) → leg_prices f side t.legs ≡ leg_prices g side t.legs = λ side. table_same _ _ 6 (λ i _. h _ _) in
    ap (λ (b : List ℕ). pick (eqb t.count 0) no_nets (record { bid = net_of t b; offer = net_of t (leg_prices f 0 t.legs) })) (ps 1)
    ∙ ap (λ (a : List ℕ). pick (eqb t.count 0) no_nets (record { bid = net_of t (leg_prices g 1 t.legs); offer = net_of t a })) (ps 0))

-- those of the leg orders are those at their best prices
pub nets-by : (os : List LegOrder) (ss : List Strategy) → nets_of os ss ≡ all_nets_by (price_of os) ss
unfolding nets_of all_nets_by nets_in nets_by prices leg_price leg_prices
nets-by os ss = refl

pub all-nets-at : (f : Prices) (ss : List Strategy) (k : ℕ) → k < 16 → get_or (all_nets_by f ss) k no_nets ≡ nets_by f (get_or ss k no_strategy)
unfolding all_nets_by
all-nets-at f ss k h = table-slot (λ (i : ℕ). nets_by f (get_or ss i no_strategy)) no_nets 16 k h

-- THEIR RANGES

no-nets : FitNets no_nets
no-nets = record { bid = omega arith; offer = omega arith }

pub fit_at_lem : {ns : List LegNets} → All FitNets ns → (k : ℕ) → FitNets (get_or ns k no_nets)
fit_at_lem a k = all-at no_nets no-nets a k

module _ (f : Prices) (few : (x e : ℕ) → f x e ≤ 99_999) where
  pub leg-prices-most : (side : ℕ) (legs : List Leg) → AtMost 99_999 (leg_prices f side legs)
  unfolding leg_prices
  leg-prices-most side legs = table-most (λ (i : ℕ). f (get_or legs i no_leg).series (other (leg_side side (get_or legs i no_leg)))) 99_999 (λ i. few _ _) 6

  net-within : (t : Strategy) → FitLegs t → (side : ℕ) → net_of t (leg_prices f side t.legs) ≤ 20_000_000
  net-within t h side = omega (arith, net-most t (leg_prices f side t.legs) h (leg-prices-most side t.legs))

  fit-by : (t : Strategy) → FitLegs t → FitNets (nets_by f t)
  unfolding nets_by
  fit-by t h = pick_all FitNets _ no-nets (record { bid = net-within t h 1; offer = net-within t h 0 })

  pub fit-all-by : (ss : List Strategy) → All FitLegs ss → All FitNets (all_nets_by f ss)
  unfolding all_nets_by
  fit-all-by ss a =
      all_of FitNets no_nets (all_nets_by f ss)
      (λ k. ⊎_elim
      (λ (l : k < 16). rw (all-nets-at f ss k l) (fit-by (get_or ss k no_strategy) (fit-legs a k)))
      (λ (l : 16 ≤ k). rw (get_or-eq_default (all_nets_by f ss) no_nets {n = k} (omega (arith, length-table (λ (i : ℕ). nets_by f (get_or ss i no_strategy)) 16))) no-nets)
      (lt-or-le k 16))

pub fit-nets : {os : List LegOrder} {ss : List Strategy} → All FitOrder os → All FitLegs ss → All FitNets (nets_of os ss)
fit-nets {os} {ss} a b = rw (nets-by os ss) (fit-all-by (price_of os) (price-most os a) ss b)

-- THE NET THAT A PARTY MEETS

pub net-for : (os : List LegOrder) (t : Strategy) (side : ℕ) → side ≤ 1 → 0 < t.count → net_for (nets_in os t) side ≡ net_of t (prices os side t.legs)
unfolding net_for nets_in
net-for os t side two some =
    let n : eqb t.count 0 ≡ false = ne_eqb t.count 0 (λ z. omega arith) in
    let e : nets_in os t ≡ record { bid = net_of t (prices os 1 t.legs); offer = net_of t (prices os 0 t.legs) } = pick-false _ _ _ n in
    ap (λ (x : LegNets). net_for x side) e
    ∙ ⊎_elim
    (λ (z : side ≡ 0). rw z (pick_true _ _ _ refl))
    (λ (z : side ≡ 1). rw z (pick-false _ _ _ refl))
    (side-is side two)

pub net-stored : (ns : List LegNets) (os : List LegOrder) (ss : List Strategy) (k side : ℕ) → k < 16 → side ≤ 1 → 0 < (get_or ss k no_strategy).count → ns ≡ nets_of os ss
    → net_for (get_or ns k no_nets) side ≡ net_of (get_or ss k no_strategy) (prices os side (get_or ss k no_strategy).legs)
net-stored ns os ss k side h two some e =
    ap (λ (xs : List LegNets). net_for (get_or xs k no_nets) side) e
    ∙ ap (λ (x : LegNets). net_for x side) (nets-at os ss k h)
    ∙ net-for os (get_or ss k no_strategy) side two some

-- AFTER A CHANGE OF THE LEG ORDERS that changed no best price but that of series s on side d

pub refreshed-one : (os₀ os : List LegOrder) (ss : List Strategy) (s d : ℕ) {p : ℕ} {ns ms : List LegNets} → All FitOrder os₀ → ns ≡ nets_of os₀ ss → p ≡ price_of os₀ s d
    → ((x e : ℕ) → ¬ ((x ≡ s) × (e ≡ d)) → price_of os x e ≡ price_of os₀ x e) → Refreshed ns ss os s d p ms → ms ≡ nets_of os ss
refreshed-one os₀ os ss s d a n p same r =
    let f : Prices = price_of os₀ in
    let q : ℕ = price_of os s d in
    let here : (x e : ℕ) → with_price f s d q x e ≡ price_of os x e =
    λ x e. with-price-is f s d q (λ (v : ℕ). v ≡ price_of os x e) x e (λ y z. rw (y, z) refl) (λ z. sym (same x e z)) in
    r.by f (price-most os₀ a) (n ∙ nets-by os₀ ss) (sym p) (λ _. here) ∙ all-nets-ext ss here ∙ sym (nets-by os ss)
