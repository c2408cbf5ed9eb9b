-- What a complex party meets on the legs of a strategy: the best of each leg, their sums, the units that they give.
use Rattle.std.specs.Prelude.{◌≡◌, false, eqb, get_or, Option, unwrap_or}
use Rattle.std.specs.Option.{option_map_or}
use Rattle.std.proofs.Math.Path.{refl, sym, ap}
use Rattle.std.proofs.Common.{◌∙◌, ⊎_elim, add-one, arith, eq-eqb, ne_eqb, lt-ltb, le-ltb, None, Some}
use Rattle.std.proofs.Math.Bool.{true}
use mathlib.Core.List.{List}
use Prim.Native.Nat.{ℕ, zero, suc, ◌+◌, ◌*◌, ◌-◌, ◌/◌, ◌≤◌, ◌<◌, min}
use Rattle.base.specs.Pick.{pick, pick_all, pick-by, pick_true, pick-false}
use Rattle.base.specs.All.{All}
use Rattle.base.specs.Walks.{sum_n, slot, table, stored, walk, all_more, all_none, all-stop, table-slot, lt-or-le}
use Rattle.rules.specs.declared.Leg.{Leg}
use Rattle.rules.specs.declared.Strategy.{Strategy}
use Rattle.rules.specs.declared.LegOrder.{LegOrder}
use Rattle.rules.specs.declared.Best.{Best}
use Rattle.rules.specs.State.{no_leg}
use Rattle.rules.specs.Sides.{other, leg_side}
use Rattle.rules.specs.Nets.{best_of, leg_price, price_at, prices, priced_at, known, weight, weighed, net_of, leg_units, units_step, units_of}
use Rattle.rules.specs.Valid.{FitLeg}
use Rattle.ranges.specs.Fit.{fit-leg}
use Rattle.nets.specs.declared.LegBests.{LegBests}
use Rattle.nets.specs.declared.LegSums.{LegSums}
use Rattle.nets.specs.Nets.{weight-most, net-unknown, net-known}
use Rattle.nets.specs.Bests.{FitBest}

-- THE LEGS, of which the one at place i meets best f i

abbrev pub prices_by : (ℕ → Best) → List ℕ
prices_by f = table (λ (i : ℕ). (f i).price) 6

-- the sums with one leg more
unfoldable pub sums_with : LegSums → Leg → Best → LegSums
sums_with n l b = record { buys = n.buys + weight 0 l b.price; sells = n.sells + weight 1 l b.price; units = min (b.contracts / l.ratio) n.units }

abbrev pub no_sums : LegSums
no_sums = record { buys = 0; sells = 0; units = 9999 }

abbrev pub sums_step : (ℕ → Best) → List Leg → ℕ → LegSums → LegSums
sums_step f legs i n = sums_with n (get_or legs i no_leg) (f i)

-- those of the first k legs
unfoldable pub sums_of : (ℕ → Best) → List Leg → ℕ → LegSums
sums_of f legs k = walk (sums_step f legs) no_sums k

-- BY THE LEG ORDERS

-- the best that a complex party of that side meets on the leg at place i
abbrev pub leg_best : List LegOrder → ℕ → List Leg → ℕ → Best
leg_best os side legs i = best_of os (get_or legs i no_leg).series (other (leg_side side (get_or legs i no_leg)))

-- what it meets on all of them, by the rules: the prices of the legs in use, the units, at most 9,999, and the net; nothing where a price is missing
unfoldable pub leg_bests : List LegOrder → ℕ → Strategy → Option LegBests
leg_bests os side s =
    let ps : List ℕ = prices os side s.legs in
    pick (known ps s.count) (Some (record { prices = stored 6 (price_at os side s.legs) s.count; units = units_of os side s ps 9999; net = net_of s ps })) None

-- its net where the legs give one unit
unfoldable pub net_where : Option LegBests → Option ℕ
net_where None = None
net_where (Some b) = pick (eqb b.units 0) None (Some b.net)

-- .. by the rules
unfoldable pub net_ready : List LegOrder → ℕ → Strategy → ℕ
net_ready os side s = pick (eqb (units_of os side s (prices os side s.legs) 1) 0) 0 (net_of s (prices os side s.legs))

-- laws

-- UNITS THAT ARE AT MOST m OR n

units-least : (os : List LegOrder) (side : ℕ) (legs : List Leg) (ps : List ℕ) (m n k : ℕ) → m ≤ n → walk (units_step os side legs ps) m k ≡ min (walk (units_step os side legs ps) n k) m
unfolding walk
units-least os side legs ps m n zero h = omega arith
units-least os side legs ps m n (suc k) h =
    let e : walk (units_step os side legs ps) m k ≡ min (walk (units_step os side legs ps) n k) m = units-least os side legs ps m n k h in
    omega arith

pub units-cut : (os : List LegOrder) (side : ℕ) (s : Strategy) (ps : List ℕ) (m : ℕ) → m ≤ 9999 → units_of os side s ps m ≡ min (units_of os side s ps 9999) m
unfolding units_of
units-cut os side s ps m h = units-least os side s.legs ps m 9999 s.count h

-- the legs are ready where they give some of 9,999
same-zero : (u v : ℕ) → v ≡ min u 1 → eqb u 0 ≡ eqb v 0
same-zero u v e =
    ⊎_elim
    (λ (h : u < 1). eq-eqb u 0 (omega arith) ∙ sym (eq-eqb v 0 (omega arith)))
    (λ (h : 1 ≤ u). ne_eqb u 0 (λ z. omega arith) ∙ sym (ne_eqb v 0 (λ z. omega arith)))
    (lt-or-le u 1)

ready-some : (os : List LegOrder) (side : ℕ) (s : Strategy) (ps : List ℕ) → eqb (units_of os side s ps 9999) 0 ≡ eqb (units_of os side s ps 1) 0
ready-some os side s ps = same-zero _ _ (units-cut os side s ps 1 (omega arith))

-- THE SUMS

module _ (f : ℕ → Best) (legs : List Leg) where
  price-by : (i : ℕ) → i < 6 → slot (prices_by f) i ≡ (f i).price
  price-by i h = table-slot (λ (j : ℕ). (f j).price) 0 6 i h

  buys-by : (k : ℕ) → k ≤ 6 → (sums_of f legs k).buys ≡ weighed 0 legs (prices_by f) k
  unfolding sums_of walk sums_with weighed sum_n
  buys-by zero h = refl
  buys-by (suc k) h = let e = buys-by k (omega arith) in rw (price-by k (omega arith)) (ap (λ (n : ℕ). n + weight 0 (get_or legs k no_leg) (f k).price) e)

  sells-by : (k : ℕ) → k ≤ 6 → (sums_of f legs k).sells ≡ weighed 1 legs (prices_by f) k
  unfolding sums_of walk sums_with weighed sum_n
  sells-by zero h = refl
  sells-by (suc k) h = let e = sells-by k (omega arith) in rw (price-by k (omega arith)) (ap (λ (n : ℕ). n + weight 1 (get_or legs k no_leg) (f k).price) e)

-- the legs walked so far: their sums, and each has a price
pub record Netting (f : ℕ → Best) (legs : List Leg) (k : ℕ) (n : LegSums) : Type 0 where
  pub sums : n ≡ sums_of f legs k
  pub priced : known (prices_by f) k ≡ true

pub netting-first : (f : ℕ → Best) (legs : List Leg) → Netting f legs 0 no_sums
unfolding sums_of walk known
netting-first f legs = record { sums = refl; priced = all_none _ }

pub netting-next : (f : ℕ → Best) (legs : List Leg) {i : ℕ} {n m : LegSums} {b : Best} → i < 6 → Netting f legs i n → b ≡ f i → ¬ (b.price ≡ 0) → m ≡ sums_with n (get_or legs i no_leg) b → Netting f legs (i + 1) m
unfolding sums_of walk known
netting-next f legs {i} {n} {m} {b} h g e z w =
    let q : slot (prices_by f) i ≡ b.price = price-by f legs i h ∙ ap (λ (x : Best). x.price) (sym e) in
    record {
      sums = rw (add-one i) (w ∙ rw (e, g.sums) refl);
      priced = all_more (priced_at (prices_by f)) i g.priced (rw q (lt-ltb 0 b.price (omega arith)));
    }

-- their ranges
pub record FitSums (k : ℕ) (n : LegSums) : Type 0 where
  pub buys : n.buys ≤ k * 1_199_988
  pub sells : n.sells ≤ k * 1_199_988

sums-within : (f : ℕ → Best) (legs : List Leg) → All FitLeg legs → ((i : ℕ) → FitBest (f i)) → (k : ℕ) → FitSums k (sums_of f legs k)
unfolding sums_of walk sums_with
sums-within f legs a b zero = record { buys = omega arith; sells = omega arith }
sums-within f legs a b (suc k) =
    let g = sums-within f legs a b k in
    let l : Leg = get_or legs k no_leg in
    let w : (v : ℕ) → weight v l (f k).price ≤ 1_199_988 = λ v. weight-most v l (f k).price (fit-leg a k).ratio (b k).price in
    record { buys = omega (arith, g.buys, w 0); sells = omega (arith, g.sells, w 1) }

pub sums-fit : (f : ℕ → Best) (legs : List Leg) → All FitLeg legs → ((i : ℕ) → FitBest (f i)) → (k : ℕ) {n : LegSums} → n ≡ sums_of f legs k → FitSums k n
sums-fit f legs a b k e = rw e (sums-within f legs a b k)

-- THE NET OF THE LEGS

module _ (f : ℕ → Best) (s : Strategy) (most : s.count ≤ 6) where
  pub net-found : {n : LegSums} → Netting f s.legs s.count n → 10_000_000 + n.buys - n.sells ≡ net_of s (prices_by f)
  net-found {n} g = net-known s (prices_by f) g.priced (ap (λ (x : LegSums). x.buys) g.sums ∙ buys-by f s.legs s.count most) (ap (λ (x : LegSums). x.sells) g.sums ∙ sells-by f s.legs s.count most)

  -- a leg without a price
  pub known-not : {i : ℕ} {b : Best} → i < s.count → b ≡ f i → b.price ≡ 0 → known (prices_by f) s.count ≡ false
  unfolding known
  known-not {i} h e z =
      let q : slot (prices_by f) i ≡ 0 = price-by f s.legs i (omega arith) ∙ ap (λ (x : Best). x.price) (sym e) ∙ z in
      all-stop (priced_at (prices_by f)) i s.count h (rw q (le-ltb 0 0 (omega arith)))

-- BY THE LEG ORDERS

-- the best that is met on a leg, by the sides that the code computed
pub leg-met : (os : List LegOrder) (side : ℕ) (legs : List Leg) (i : ℕ) {taken on : ℕ} → taken ≡ leg_side side (get_or legs i no_leg) → on ≡ other taken → best_of os (get_or legs i no_leg).series on ≡ leg_best os side legs i
leg-met os side legs i t o = rw (o, t) refl

pub leg-price : (os : List LegOrder) (side : ℕ) (legs : List Leg) (i : ℕ) {b : Best} → b ≡ leg_best os side legs i → b.price ≡ price_at os side legs i
unfolding leg_price best_of
leg-price os side legs i e = ap (λ (x : Best). x.price) e

module _ (os : List LegOrder) (side : ℕ) where
  prices-are : (legs : List Leg) → prices_by (leg_best os side legs) ≡ prices os side legs
  unfolding prices leg_price best_of
  prices-are legs = refl

  units-at : (l : Leg) → leg_units os side (best_of os l.series (other (leg_side side l))).price l ≡ (best_of os l.series (other (leg_side side l))).contracts / l.ratio
  unfolding leg_units best_of
  units-at l = refl

  units-are : (legs : List Leg) (k : ℕ) → k ≤ 6 → (sums_of (leg_best os side legs) legs k).units ≡ walk (units_step os side legs (prices os side legs)) 9999 k
  unfolding sums_of walk sums_with
  units-are legs zero h = refl
  units-are legs (suc k) h =
      let q : slot (prices os side legs) k ≡ (leg_best os side legs k).price = ap (λ (ps : List ℕ). slot ps k) (sym (prices-are legs)) ∙ price-by (leg_best os side legs) legs k (omega arith) in
      rw (units-are legs k (omega arith), q, units-at (get_or legs k no_leg)) refl

  module _ (s : Strategy) (most : s.count ≤ 6) where
    abbrev ps : List ℕ
    ps = prices os side s.legs

    -- all legs in use have been walked
    pub legs-found : {qs : List ℕ} {n : LegSums} → qs ≡ stored 6 (price_at os side s.legs) s.count → Netting (leg_best os side s.legs) s.legs s.count n
        → Some (record { prices = qs; units = n.units; net = 10_000_000 + n.buys - n.sells }) ≡ leg_bests os side s
    unfolding leg_bests units_of
    legs-found {qs} {n} e g =
        let k : known ps s.count ≡ true = rw (sym (prices-are s.legs)) g.priced in
        let u : n.units ≡ walk (units_step os side s.legs ps) 9999 s.count = ap (λ (x : LegSums). x.units) g.sums ∙ units-are s.legs s.count most in
        let v : 10_000_000 + n.buys - n.sells ≡ net_of s ps = net-found (leg_best os side s.legs) s most g ∙ ap (net_of s) (prices-are s.legs) in
        rw (e, u, v) (sym (pick_true _ _ _ k))

    pub legs-missing : {i : ℕ} {b : Best} → i < s.count → b ≡ leg_best os side s.legs i → b.price ≡ 0 → None ≡ leg_bests os side s
    unfolding leg_bests
    legs-missing h e z = sym (pick-false _ _ _ (rw (sym (prices-are s.legs)) (known-not (leg_best os side s.legs) s most h e z)))

  pub net-where : (s : Strategy) → unwrap_or (net_where (leg_bests os side s)) 0 ≡ net_ready os side s
  unfolding net_where leg_bests net_ready
  net-where s =
      let ps : List ℕ = prices os side s.legs in
      pick-by (λ (b : Option LegBests). unwrap_or (net_where b) 0 ≡ net_ready os side s) (known ps s.count)
      (λ k. pick-by (λ (n : Option ℕ). unwrap_or n 0 ≡ net_ready os side s) (eqb (units_of os side s ps 9999) 0)
      (λ e. sym (pick_true _ _ _ (sym (ready-some os side s ps) ∙ e)))
      (λ e. sym (pick-false _ _ _ (sym (ready-some os side s ps) ∙ e))))
      (λ k. sym (pick_all (λ (r : ℕ). r ≡ 0) _ refl (sym (net-unknown s ps k))))

  -- the net alone, known where each leg has a price
  pub net-is : (s : Strategy) → option_map_or (λ (b : LegBests). b.net) (leg_bests os side s) 0 ≡ net_of s (prices os side s.legs)
  unfolding leg_bests
  net-is s =
      let ps : List ℕ = prices os side s.legs in
      pick-by (λ (b : Option LegBests). option_map_or (λ (x : LegBests). x.net) b 0 ≡ net_of s ps) (known ps s.count) (λ k. refl) (λ k. net-unknown s ps k)

  -- what is met on the legs, where each has a price
  pub legs-known : (s : Strategy) {p : LegBests} → Some p ≡ leg_bests os side s
      → p ≡ record { prices = stored 6 (price_at os side s.legs) s.count; units = units_of os side s (prices os side s.legs) 9999; net = net_of s (prices os side s.legs) }
  unfolding leg_bests
  legs-known s {p} e =
      let ps : List ℕ = prices os side s.legs in
      pick-by (λ (b : Option LegBests). Some p ≡ b → p ≡ record { prices = stored 6 (price_at os side s.legs) s.count; units = units_of os side s ps 9999; net = net_of s ps }) (known ps s.count)
      (λ k h. cc) (λ k h. cc) e
