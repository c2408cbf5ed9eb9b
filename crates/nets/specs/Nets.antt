-- Ranges of prices and nets, and the rules by what the code tests.
use Rattle.std.specs.Prelude.{◌≡◌, List, ℕ, ◌+◌, ◌*◌, ◌-◌, ◌≤◌, ◌<◌, zero, suc, eqb, ltb, get_or, take, length, Option}
use Rattle.std.specs.List.{list_all}
use Rattle.std.specs.Option.{option_map_or}
use Rattle.std.proofs.Math.Path.{refl}
use Rattle.std.proofs.Common.{sym, ◌∙◌, ap, mul-le-mul, arith, eqb-true}
use Rattle.std.proofs.lemmas.Bool.{eqb-false}
use Rattle.std.proofs.lemmas.List.{length-take-le, get_or-take}
use Rattle.std.proofs.Math.Bool.{Bool, true, false, not}
use borrow.Author.Tests.{eq-eqb, ne_eqb}
use Rattle.base.specs.Pick.{pick, pick_all, pick-by, pick_true, pick-false, tests}
use Rattle.base.specs.All.{All}
use Rattle.base.specs.Walks.{all_n, slot, sum-le}
use Rattle.base.specs.Chains.{unless_zero, all-slots}
use Rattle.rules.specs.declared.Leg.{Leg}
use Rattle.rules.specs.declared.Strategy.{Strategy}
use Rattle.rules.specs.declared.LegOrder.{LegOrder}
use Rattle.rules.specs.State.{no_leg}
use Rattle.rules.specs.Sides.{other, leg_side, better}
use Rattle.rules.specs.Nets.{stands, lot, leg_price, price_at, prices, known, weight, weight_at, weighed, net_of, betters}
use Rattle.rules.specs.Valid.{FitLeg, FitOrder}
use Rattle.rules.proofs.BetterNets.{price-most}
use Rattle.ranges.specs.Most.{AtMost, table-most}
use Rattle.ranges.specs.Fit.{FitLegs, fit-leg}

-- whether a limit of a side betters the leg net of its own side, none where that net is unknown
unfoldable pub betters_net : Bool → ℕ → ℕ → Option ℕ → Bool
betters_net unknown side level net = option_map_or (λ (n : ℕ). better (other side) level n) net unknown

-- .. by the rule, where an unknown net is 0
pub betters-net : (unknown : Bool) (side level net : ℕ) → betters_net unknown side level (unless_zero net) ≡ betters unknown side level net
unfolding betters_net betters
betters-net unknown side level zero = sym (pick_true _ _ _ refl)
betters-net unknown side level (suc n) = sym (pick-false _ _ _ (ne_eqb (suc n) 0 (λ z. omega arith)))

-- whether an order stands in a series and side, by what the code tests: its series first, which differs most often
module _ (s side : ℕ) (o : LegOrder) where
  pub stands-other-series : ¬ (o.series ≡ s) → false ≡ stands s side o
  unfolding stands
  stands-other-series n = pick_all (λ (t : Bool). false ≡ t) _ refl (sym (pick-false _ _ _ (ne_eqb _ _ n)))

  pub stands-other-side : ¬ (o.side ≡ side) → false ≡ stands s side o
  unfolding stands
  stands-other-side n = let P : Bool → Type 0 = λ (t : Bool). false ≡ t in pick_all P _ refl (pick_all P _ (sym (ne_eqb _ _ n)) refl)

  pub stands-there : o.series ≡ s → o.side ≡ side → not (eqb o.contracts 0) ≡ stands s side o
  unfolding stands pick
  stands-there e g = rw (eq-eqb _ _ e, eq-eqb _ _ g) (by (eqb o.contracts 0))
    where
      by : (t : Bool) → not t ≡ pick t false true
      by true = refl
      by false = refl

-- two tests that agree at the first k slots
pub all_same : (f g : ℕ → Bool) (k : ℕ) → ((i : ℕ) → i < k → f i ≡ g i) → all_n f k ≡ all_n g k
unfolding all_n
all_same f g zero h = refl
all_same f g (suc k) h = cc (all_same f g k (λ i l. h i (omega arith)), h k (omega arith))

-- a test of each of the first k slots of a list
pub all-taken : {A : Type 0} (d : A) (p : A → Bool) (k : ℕ) (xs : List A) → k ≤ length xs → list_all p (take k xs) ≡ all_n (λ (i : ℕ). p (get_or xs i d)) k
all-taken {A} d p k xs h =
    all-slots d p (take k xs)
    ∙ ap (all_n (λ (i : ℕ). p (get_or (take k xs) i d))) (length-take-le k xs h)
    ∙ all_same _ _ k (λ i l. ap p (get_or-take k xs i d l))

pub known-taken : (ps : List ℕ) (k : ℕ) → k ≤ length ps → list_all (λ (p : ℕ). ltb 0 p) (take k ps) ≡ known ps k
unfolding known
known-taken ps k h = all-taken 0 (λ (p : ℕ). ltb 0 p) k ps h

-- the weight of a leg by its side
module _ (side : ℕ) (l : Leg) (price : ℕ) where
  pub weight-own : l.side ≡ side → l.ratio * price ≡ weight side l price
  unfolding weight
  weight-own e = rw (sym e) (by (eqb l.side 0))
    where
      by : (t : Bool) → l.ratio * price ≡ pick t (pick t (l.ratio * price) 0) (pick t 0 (l.ratio * price))
      by true = sym (pick_true _ _ _ refl ∙ pick_true _ _ _ refl)
      by false = sym (pick-false _ _ _ refl ∙ pick-false _ _ _ refl)

  pub weight-other : l.side ≤ 1 → side ≤ 1 → ¬ (l.side ≡ side) → 0 ≡ weight side l price
  unfolding weight
  weight-other h k n =
      pick-by (λ (x : ℕ). 0 ≡ x) _
      (λ e. sym (pick-false _ _ _ (ne_eqb side 0 (λ z. n (eqb-true _ _ e ∙ sym z)))))
      (λ e. let z : ¬ (l.side ≡ 0) = eqb-false _ _ e in sym (pick_true _ _ _ (eq-eqb side 0 (omega arith))))

pub weight-fits : (r x : ℕ) → r ≤ 12 → x ≤ 99_999 → r * x ≤ 1_199_988
weight-fits r x a b = mul-le-mul a b

pub weight-most : (w : ℕ) (l : Leg) (x : ℕ) → l.ratio ≤ 12 → x ≤ 99_999 → weight w l x ≤ 1_199_988
unfolding weight
weight-most w l x a b =
    let P : ℕ → Type 0 = λ (y : ℕ). y ≤ 1_199_988 in
    let f : P (l.ratio * x) = weight-fits l.ratio x a b in
    pick_all P _ (pick_all P _ f (omega arith)) (pick_all P _ (omega arith) f)

pub weighed-most : (w : ℕ) (legs : List Leg) (ps : List ℕ) → All FitLeg legs → AtMost 99_999 ps → (k : ℕ) → weighed w legs ps k ≤ k * 1_199_988
unfolding weighed
weighed-most w legs ps a m k = sum-le (weight_at w legs ps) 1_199_988 (λ i. weight-most w (get_or legs i no_leg) (slot ps i) (fit-leg a i).ratio (m.at i)) k

-- a net is between -7,199,928 and 7,199,928 cents
pub net-most : (s : Strategy) (ps : List ℕ) → FitLegs s → AtMost 99_999 ps → net_of s ps ≤ 17_199_928
unfolding net_of
net-most s ps f m =
    pick_all (λ (y : ℕ). y ≤ 17_199_928) _ (omega (arith, weighed-most 0 s.legs ps f.legs m s.count, f.count)) (omega arith)

pub lot-most : (s side price : ℕ) (o : LegOrder) → FitOrder o → lot s side price o ≤ 9999
unfolding lot
lot-most s side price o f = let P : ℕ → Type 0 = λ (y : ℕ). y ≤ 9999 in pick_all P _ (pick_all P _ f.contracts (omega arith)) (omega arith)

pub prices-most : (os : List LegOrder) (side : ℕ) (legs : List Leg) → All FitOrder os → AtMost 99_999 (prices os side legs)
unfolding prices leg_price
prices-most os side legs a = table-most (price_at os side legs) 99_999 (λ i. price-most os a (get_or legs i no_leg).series (other (leg_side side (get_or legs i no_leg)))) 6

-- the net by what the code tests
module _ (s : Strategy) (ps : List ℕ) where
  pub net-unknown : known ps s.count ≡ false → 0 ≡ net_of s ps
  unfolding net_of
  net-unknown k = search tests

  pub net-known : known ps s.count ≡ true → {buys sells : ℕ} → buys ≡ weighed 0 s.legs ps s.count → sells ≡ weighed 1 s.legs ps s.count
      → 10_000_000 + buys - sells ≡ net_of s ps
  unfolding net_of
  net-known k p q = rw (p, q) (search tests)
