-- The legs of a definition: their ranges, the strategy that they give, and whether they are ill-formed.
use Rattle.std.specs.Prelude.{◌≡◌, Bool, true, false, List, [], ◌∷◌}
use Rattle.std.proofs.Math.Path.{sym}
use Rattle.base.specs.Pick.{pick_true, pick-false}
use Rattle.base.specs.All.{All, all_cons}
use Rattle.events.specs.declared.Strategy.{Strategy as GivenStrategy}
use Rattle.rules.specs.declared.Leg.{Leg}
use Rattle.rules.specs.declared.Strategy.{Strategy}
use Rattle.rules.specs.Strategies.{defined, twice, over_threefold}
use Rattle.rules.specs.Given.{legs_given, strategy_given}
use Rattle.rules.specs.Refusals.{ill_formed}
use Rattle.rules.specs.Valid.{FitLeg}

-- the ranges of the six legs
module _ {a b c d e f : Leg} where
  pub fit-legs : All FitLeg (a ∷ (b ∷ (c ∷ (d ∷ (e ∷ (f ∷ [])))))) → FitLeg a × FitLeg b × FitLeg c × FitLeg d × FitLeg e × FitLeg f
  fit-legs (all_cons p (all_cons q (all_cons r (all_cons s (all_cons t (all_cons u x)))))) = (p, q, r, s, t, u)

-- a definition by the legs that the code has made
pub strategy-is : (e : GivenStrategy) {legs : List Leg} {s : Strategy} → legs ≡ legs_given e → s ≡ defined legs e.count → s ≡ strategy_given e
unfolding strategy_given
strategy-is e p q = rw (q, p)

module _ (e : GivenStrategy) {legs : List Leg} (p : legs ≡ legs_given e) where
  pub ill-twice : twice legs e.count ≡ true → true ≡ ill_formed e
  unfolding ill_formed
  ill-twice h = sym (pick_true _ _ _ (rw p at h))

  pub ill-ratios : {r : Bool} → twice legs e.count ≡ false → r ≡ over_threefold legs e.count → r ≡ ill_formed e
  unfolding ill_formed
  ill-ratios h q = rw (q, p) (sym (pick-false _ _ _ (rw p at h)))
