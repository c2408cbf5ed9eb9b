-- A turn of a pass within the range: it does what the order chose or stops, and all its fills have one level, so that one test a turn is the test
-- of each fill (2026-01).
use mathlib.Core.Path.{◌≡◌, refl, ◌∙◌, ap}
use mathlib.Core.Bool.{Bool, true}
use mathlib.Core.Logic.{◌⊎◌, inl, inr}
use mathlib.Core.List.{List}
use Prim.Native.Nat.{ℕ, ◌<◌}
use native.Mathlib.Omega.{arith}
use lib.Dec.{eqb}
use lib.ListN.{get_or}
use Rattle.base.specs.All.{All, all_nil, all_cons, all_append}
use Rattle.base.specs.Pick.{pick_all, pick-by}
use Rattle.base.specs.Walks.{slot, all_join, clash}
use Rattle.rules.specs.declared.Strategy.{Strategy}
use Rattle.rules.specs.declared.Entry.{Entry}
use Rattle.rules.specs.declared.LegOrder.{LegOrder}
use Rattle.rules.specs.declared.Bounds.{Bounds}
use Rattle.rules.specs.declared.State.{State}
use Rattle.rules.specs.declared.Allocation.{Allocation}
use Rattle.rules.specs.declared.Allocation.TheVariants.{Shared, ForStarter, Numbered}
use Rattle.rules.specs.declared.Turn.{Turn}
use Rattle.rules.specs.declared.Turn.TheVariants.{Stop, ByLegs, AtLimit}
use Rattle.rules.specs.State.{no_order, entry_at, strategy_of}
use Rattle.rules.specs.Records.{kind_number}
use Rattle.rules.specs.Nets.{prices, net_of, units_of}
use Rattle.rules.specs.National.{bounds_at, may_take, may_meet}
use Rattle.rules.specs.Fills.{order_row, order_rows, order_records_at, takes_at, take_legs, leg_fill, leg_quotas}
use Rattle.rules.specs.Passes.{best_opposite, ready, ready_net, opposite, legs_first, turn_at, allowed, choice, turn_of, take_turn, turn}
use Rattle.rules.specs.Sentences.{AtThatLimit, BarredTurn, at-legs, at-limit, fill_level, AllowedSentence}
use Rattle.rules.proofs.Control.{first-net}
use Rattle.rules.proofs.Choices.{party-at, limit-price, apart, level_of}

-- THE CHOICE AND THE TURN
module _ (w : Bounds) (side net : ℕ) where
  same-or-barred : (t : Turn) → (allowed w side net t ≡ t) ⊎ ((allowed w side net t ≡ Stop) × BarredTurn w side net t)
  unfolding allowed
  same-or-barred Stop = inl refl
  same-or-barred ByLegs =
      pick-by (λ (u : Turn). (u ≡ ByLegs) ⊎ ((u ≡ Stop) × BarredTurn w side net ByLegs)) (may_take w side net) (λ _. inl refl) (λ f. inr (refl, at-legs refl f))
  same-or-barred (AtLimit x) =
      pick-by (λ (u : Turn). (u ≡ AtLimit x) ⊎ ((u ≡ Stop) × BarredTurn w side net (AtLimit x))) (may_meet w x) (λ _. inl refl) (λ f. inr (refl, at-limit x refl f))

  stop-free : BarredTurn w side net Stop → ⊥
  stop-free (at-legs e f) = let z : ◌≡◌ {A = ℕ} 0 1 = apart e in omega arith
  stop-free (at-limit x e f) = let z : ◌≡◌ {A = ℕ} 0 2 = apart e in omega arith

  legs-free : may_take w side net ≡ true → BarredTurn w side net ByLegs → ⊥
  legs-free t (at-legs e f) = clash t f
  legs-free t (at-limit x e f) = let z : ◌≡◌ {A = ℕ} 1 2 = apart e in omega arith

  limit-free : (x : ℕ) → may_meet w x ≡ true → BarredTurn w side net (AtLimit x) → ⊥
  limit-free x t (at-legs e f) = let z : ◌≡◌ {A = ℕ} 2 1 = apart e in omega arith
  limit-free x t (at-limit y e f) = clash t (ap (may_meet w) (ap level_of e) ∙ f)

  not-barred : (t : Turn) → BarredTurn w side net (allowed w side net t) → ⊥
  unfolding allowed
  not-barred Stop = stop-free
  not-barred ByLegs = pick-by (λ (u : Turn). BarredTurn w side net u → ⊥) (may_take w side net) legs-free (λ _. stop-free)
  not-barred (AtLimit x) = pick-by (λ (u : Turn). BarredTurn w side net u → ⊥) (may_meet w x) (limit-free x) (λ _. stop-free)

-- ONE LEVEL
ready-is : (legs : Bool) (a : ℕ) (b : State) → 0 < ready_net legs a b → ready_net legs a b ≡ net_of (strategy_of b (entry_at b a)) (prices b.orders (entry_at b a).side (strategy_of b (entry_at b a)).legs)
unfolding ready_net
ready-is legs a b =
    let P : ℕ → Type 0 = λ (n : ℕ). 0 < n → n ≡ net_of (strategy_of b (entry_at b a)) (prices b.orders (entry_at b a).side (strategy_of b (entry_at b a)).legs) in
    pick-by P legs (λ _. pick-by P (ready a b) (λ _ h. refl) (λ _ h. absurd (omega arith))) (λ _ h. absurd (omega arith))

row-at : (level : ℕ) (o : LegOrder) (q price : ℕ) → All (AtThatLimit level) (order_row o q price)
unfolding order_row kind_number
row-at level o q price = pick_all (All (AtThatLimit level)) (eqb q 0) all_nil (all_cons (λ k. absurd (omega arith)) all_nil)

legs-at : (a : ℕ) (b : State) → All (AtThatLimit (net_of (strategy_of b (entry_at b a)) (prices b.orders (entry_at b a).side (strategy_of b (entry_at b a)).legs))) (leg_fill a b).records
unfolding leg_fill take_legs
legs-at a b =
    let e : Entry = entry_at b a in
    let s : Strategy = strategy_of b e in
    let ps : List ℕ = prices b.orders e.side s.legs in
    let q : ℕ = units_of b.orders e.side s ps e.units in
    all_append (party-at e s q (net_of s ps) ps)
    (all_join (order_records_at b.orders (takes_at e.side q s.legs ps)) s.count
    (λ i _. all_join (order_rows b.orders (leg_quotas b.orders (takes_at e.side q s.legs ps i)) (slot ps i)) 32
    (λ j _. row-at (net_of s ps) (get_or b.orders j no_order) _ _)))

turn_level : (way : Allocation) (legs : Bool) (a i : ℕ) (b : State) → All (AtThatLimit (fill_level (turn_of way legs a b) (ready_net legs a b))) (turn way legs a i b).records
unfolding turn_of turn_at allowed take_turn
turn_level way legs a i b =
    let e : Entry = entry_at b a in
    let x : ℕ = opposite way a b in
    let net : ℕ = ready_net legs a b in
    let Q : Turn → Type 0 = λ (t : Turn). All (AtThatLimit (fill_level t net)) (take_turn way a t b).records in
    let P : Turn → Type 0 = λ (t : Turn). Q (allowed (bounds_at b e.strategy) e.side net t) in
    let stop : Q Stop = all_nil in
    pick_all P _ stop
    (pick-by P (legs_first e.side net x)
    (λ f. pick_all P _ (pick_all Q _ (rw (ready-is legs a b (first-net e.side net x f)) (legs-at a b)) stop) stop)
    (λ _. pick_all P _ stop (pick_all P _ (pick_all Q _ (limit-price way a x b) stop) stop)))

-- THE SENTENCE, of every turn in every state
pub turn-allowed : (way : Allocation) (legs : Bool) (a i : ℕ) (b : State) →
    AllowedSentence (bounds_at b (entry_at b a).strategy) (entry_at b a).side (ready_net legs a b) (choice way legs a b) (turn_of way legs a b) (turn way legs a i b)
unfolding turn_of
turn-allowed way legs a i b = record { same = same-or-barred _ _ _ (choice way legs a b); free = not-barred _ _ _ (choice way legs a b); level = turn_level way legs a i b }

-- .. and the choice of a shared pass, an auction's starter's or another's, or of a numbered one is between the best opposite limit, whatever the range, and the legs
pub shared-allowed : (legs : Bool) (a i : ℕ) (b : State) →
    AllowedSentence (bounds_at b (entry_at b a).strategy) (entry_at b a).side (ready_net legs a b) (turn_at (entry_at b a) (best_opposite b.entries (entry_at b a)) (ready_net legs a b)) (turn_of Shared legs a b) (turn Shared legs a i b)
unfolding opposite
shared-allowed legs a i b = turn-allowed Shared legs a i b

pub starter-allowed : (legs : Bool) (a i : ℕ) (b : State) →
    AllowedSentence (bounds_at b (entry_at b a).strategy) (entry_at b a).side (ready_net legs a b) (turn_at (entry_at b a) (best_opposite b.entries (entry_at b a)) (ready_net legs a b)) (turn_of ForStarter legs a b) (turn ForStarter legs a i b)
unfolding opposite
starter-allowed legs a i b = turn-allowed ForStarter legs a i b

pub numbered-allowed : (legs : Bool) (a i : ℕ) (b : State) →
    AllowedSentence (bounds_at b (entry_at b a).strategy) (entry_at b a).side (ready_net legs a b) (turn_at (entry_at b a) (best_opposite b.entries (entry_at b a)) (ready_net legs a b)) (turn_of Numbered legs a b) (turn Numbered legs a i b)
unfolding opposite
numbered-allowed legs a i b = turn-allowed Numbered legs a i b
