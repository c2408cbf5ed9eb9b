-- The comparison with held strategies: the loops' invariants.
use Rattle.std.specs.Prelude.{◌≡◌, refl, Bool, true, false, List, ℕ, ◌+◌, ◌≤◌, ◌<◌, ◌&&◌, eqb, length, get_or, set}
use Rattle.std.proofs.Math.Path.{sym, ap}
use Rattle.std.proofs.Common.{◌∙◌}
use Rattle.std.proofs.Math.Seq.{set_out}
use Rattle.base.specs.Pick.{pick}
use Rattle.base.specs.Walks.{all_n, all-stop, Passed, passed-next}
use Rattle.rules.specs.declared.Leg.{Leg}
use Rattle.rules.specs.declared.Strategy.{Strategy}
use Rattle.rules.specs.declared.LegNets.{LegNets}
use Rattle.rules.specs.declared.State.{State}
use Rattle.rules.specs.State.{no_leg, strategy_at, with_strategies, with_nets}
use Rattle.rules.specs.Nets.{nets_in}
use Rattle.rules.specs.Strategies.{same_leg, same_at, same_legs, added}

-- two legs are equal, as the derived test has it
abbrev pub leg_eq : Leg → Leg → Bool
leg_eq x y = eqb x.series y.series && (eqb x.side y.side && eqb x.ratio y.ratio)

pub leg-same : (x y : Leg) → leg_eq x y ≡ same_leg x y
unfolding same_leg pick
leg-same x y = by (eqb x.series y.series) (eqb x.side y.side) (eqb x.ratio y.ratio)
  where
    by : (t u v : Bool) → (t && (u && v)) ≡ pick t (pick u v false) false
    by true true v = refl
    by true false v = refl
    by false u v = refl

-- legs that agree at a place
abbrev pub agree_at : List Leg → List Leg → ℕ → Bool
agree_at xs ys i = same_leg (get_or xs i no_leg) (get_or ys i no_leg)

-- the strategy at k has the legs where all six agree, and has not where one differs
module _ (b : State) (s : Strategy) (k : ℕ) where
  pub held-here : all_n (agree_at (strategy_at b k).legs s.legs) 6 ≡ true → same_at b s k ≡ true
  unfolding same_legs
  held-here t = t

  pub held-not : (i : ℕ) → i < 6 → agree_at (strategy_at b k).legs s.legs i ≡ false → Passed (same_at b s) k → Passed (same_at b s) (k + 1)
  unfolding same_legs
  held-not i h t g = passed-next (same_at b s) k g (all-stop (agree_at (strategy_at b k).legs s.legs) i 6 h t)

-- the state with one strategy more, by whether a slot is left
module _ (s : Strategy) (b : State) where
  pub add-slot : {n : LegNets} {c : State} → n ≡ nets_in b.orders s
      → c ≡ with_nets (with_strategies b (set b.strategies b.defined s) (b.defined + 1)) (set b.nets b.defined n) → c ≡ added s b
  unfolding added
  add-slot f e = e ∙ ap (λ (m : LegNets). with_nets (with_strategies b (set b.strategies b.defined s) (b.defined + 1)) (set b.nets b.defined m)) f

  pub add_none : {c : State} → length b.strategies ≤ b.defined → length b.nets ≤ b.defined → c ≡ with_strategies b b.strategies (b.defined + 1) → c ≡ added s b
  unfolding added with_nets with_strategies
  add_none h g e = e ∙ sym (rw (set_out b.strategies b.defined s h, set_out b.nets b.defined (nets_in b.orders s) g))
