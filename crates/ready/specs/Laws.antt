-- The legs of a strategy are ready by the contracts at the best prices exactly where the rules give a unit of them.
use Rattle.std.specs.Prelude.{◌≡◌, Bool, false, ◌&&◌, List, eqb, leb, unwrap_or}
use Rattle.std.proofs.Math.Path.{refl, sym}
use Rattle.std.proofs.Common.{◌∙◌, arith, leb-true, leb-false}
use Rattle.std.proofs.Math.Bool.{true}
use Prim.Native.Nat.{ℕ, zero, suc, ◌+◌, ◌*◌, ◌/◌, ◌%◌, ◌≤◌, ◌<◌, min}
use Rattle.std.proofs.Math.Nat.{div-eq_of_lt, lt-mul-div-succ}
use Rattle.base.specs.Pick.{pick, pick-by, pick_true}
use Rattle.base.specs.Walks.{all_n, slot, walk, table-slot}
use Rattle.rules.specs.declared.Leg.{Leg}
use Rattle.rules.specs.declared.Strategy.{Strategy}
use Rattle.rules.specs.declared.LegOrder.{LegOrder}
use Rattle.rules.specs.State.{leg_at}
use Rattle.rules.specs.Sides.{other, leg_side}
use Rattle.rules.specs.Nets.{best_of, leg_price, price_at, prices, net_of, leg_units, units_step, units_of}
use Rattle.rules.proofs.Laws.{other-side}
use Rattle.ranges.specs.Fit.{FitLegs, fit-leg}
use Rattle.nets.specs.Legs.{leg_bests, net_where, net_ready, net-where}
use Rattle.ready.specs.Ready.{place_of, lot_table, ready_leg, ready_by}

-- CONTRACTS AND RATIOS

-- contracts give a unit where there are as many as the ratio
unit-of : (c r : ℕ) → 0 < r → min (c / r) 1 ≡ pick (leb r c) 1 0
unit-of c zero h = absurd (omega arith)
unit-of c (suc r) h =
    pick-by (λ (x : ℕ). min (c / suc r) 1 ≡ x) (leb (suc r) c)
    (λ e. some (c / suc r) (leb-true _ _ e) (lt-mul-div-succ c h))
    (λ e. let z : c / suc r ≡ 0 = div-eq_of_lt (leb-false _ _ e) in omega arith)
  where
    some : (q : ℕ) → suc r ≤ c → c < suc r * (q + 1) → min q 1 ≡ 1
    some zero l m = absurd (omega arith)
    some (suc q) l m = omega arith

-- the least with one leg more
least-next : (a b : Bool) (x : ℕ) → min x 1 ≡ pick b 1 0 → min x (pick a 1 0) ≡ pick (a && b) 1 0
unfolding pick
least-next true b x e = e
least-next false b x e = omega arith

-- the net where there is a unit
net-turned : (a : Bool) (n : ℕ) → pick (eqb (pick a 1 0) 0) 0 n ≡ pick a n 0
unfolding pick
net-turned true n = refl
net-turned false n = refl

-- THE TABLE

-- what stands at the place of a side of a series
pub lot-slot : (os : List LegOrder) (s side : ℕ) → s < 32 → side ≤ 1 → slot (lot_table os) (place_of s side) ≡ (best_of os s side).contracts
unfolding lot_table
lot-slot os s side h l =
    let a : (s * 2 + side) / 2 ≡ s = omega arith in
    let b : (s * 2 + side) % 2 ≡ side = omega arith in
    table-slot (λ (j : ℕ). (best_of os (j / 2) (j % 2)).contracts) 0 64 (s * 2 + side) (omega arith) ∙ rw (a, b) refl

-- THE LEGS

module _ (os : List LegOrder) (side : ℕ) where
  -- the units of a leg at the rules' price
  units-at : (l : Leg) → leg_units os side (leg_price os side l) l ≡ (best_of os l.series (other (leg_side side l))).contracts / l.ratio
  unfolding leg_units leg_price best_of
  units-at l = refl

  price-slot : (t : Strategy) (i : ℕ) → i < 6 → slot (prices os side t.legs) i ≡ leg_price os side (leg_at t i)
  unfolding prices
  price-slot t i h = table-slot (price_at os side t.legs) 0 6 i h

  -- a leg that is ready gives a unit, another none
  leg-unit : (l : Leg) → l.series < 32 → 0 < l.ratio → min (leg_units os side (leg_price os side l) l) 1 ≡ pick (ready_leg (lot_table os) side l) 1 0
  unfolding ready_leg
  leg-unit l h r =
      rw (units-at l, lot-slot os l.series (other (leg_side side l)) h (other-side (leg_side side l)))
      (unit-of (best_of os l.series (other (leg_side side l))).contracts l.ratio r)

  -- the leg at place i is ready
  abbrev ready_at : Strategy → ℕ → Bool
  ready_at t i = ready_leg (lot_table os) side (leg_at t i)

  -- the first k legs give one where each is
  legs-unit : (t : Strategy) → FitLegs t → (k : ℕ) → k ≤ t.count → walk (units_step os side t.legs (prices os side t.legs)) 1 k ≡ pick (all_n (ready_at t) k) 1 0
  unfolding walk all_n
  legs-unit t f zero h = sym (pick_true true 1 0 refl)
  legs-unit t f (suc k) h =
      rw (legs-unit t f k (omega arith), price-slot t k (omega (arith, f.count)))
      (least-next (all_n (ready_at t) k) (ready_at t k) _ (leg-unit (leg_at t k) (fit-leg f.legs k).series (f.used k (omega arith))))

  ready-unit : (t : Strategy) → FitLegs t → units_of os side t (prices os side t.legs) 1 ≡ pick (ready_by (lot_table os) side t) 1 0
  unfolding units_of ready_by
  ready-unit t f = legs-unit t f t.count (omega arith)

-- the net at which the legs give a unit, by the contracts at the best prices
pub ready-net : (os : List LegOrder) (side : ℕ) (t : Strategy) → FitLegs t
    → unwrap_or (net_where (leg_bests os side t)) 0 ≡ pick (ready_by (lot_table os) side t) (net_of t (prices os side t.legs)) 0
unfolding net_ready
ready-net os side t f = net-where os side t ∙ rw (ready-unit os side t f) (net-turned _ _)
