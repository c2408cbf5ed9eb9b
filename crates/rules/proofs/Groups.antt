-- "In a shared pass one limit's holders go in groups: customers by number; then sweeps and market makers; then broker-dealers." "In a numbered
-- pass they go by number alone."
use mathlib.Core.Path.{◌≡◌, refl, sym, ◌∙◌, ap}
use mathlib.Core.Bool.{Bool, true, false}
use mathlib.Core.Logic.{◌⊎◌, inl, inr, ⊎_elim}
use mathlib.Core.List.{List}
use Prim.Native.Nat.{ℕ, zero, suc, ◌+◌, ◌-◌, ◌*◌, ◌≤◌, ◌<◌, min}
use native.Mathlib.Omega.{arith}
use borrow.Author.Tests.{eqb-true, eq-eqb, ne_eqb}
use lib.Dec.{eqb, ltb}
use lib.ListN.{length, get_or}
use Rattle.base.specs.Pick.{pick, pick_all, pick-by, pick_true, pick-false}
use Rattle.base.specs.Walks.{sum_n, slot, walk, sum_one, table-slot, lt-or-le, below, clash}
use Rattle.rules.specs.declared.Entry.{Entry}
use Rattle.rules.specs.declared.State.{State}
use Rattle.rules.specs.declared.Allocation.{Allocation}
use Rattle.rules.specs.declared.Allocation.TheVariants.{Shared, ForStarter, Numbered}
use Rattle.rules.specs.declared.Turn.{Turn}
use Rattle.rules.specs.declared.Turn.TheVariants.{Stop, ByLegs, AtLimit}
use Rattle.rules.specs.State.{no_entry, entry_at, with_orders}
use Rattle.rules.specs.Moves.{and_then, each}
use Rattle.rules.specs.Sides.{other, meets, better, best_price}
use Rattle.rules.specs.Quotas.{Division, GivesOut, in_turn_at, in_turn, share}
use Rattle.rules.specs.Fills.{take_legs, leg_fill}
use Rattle.rules.specs.National.{bounds_at}
use Rattle.rules.specs.Passes.{opposes, limit_with, limit_step, best_opposite, group_of, within, holding, sizes, give_group, give_shared, give_for_starter, meet_limit, ready_net, opposite, turn_at, allowed, turn_of, take_turn, turn, pass}
use Rattle.rules.specs.Valid.{Sound}
use Rattle.rules.specs.Sentences.{Customer, SweepOrMaker, Dealer, Beside, BetterLimit, AheadShared, better-limit, customer-before-maker, customer-before-dealer, maker-before-dealer, customers-by-number, AheadNumbered, NonePassed, got, SharedFairly}
use Rattle.rules.proofs.Shrinks.{SameEntry, Shrinks, shrinks-refl, shrinks-trans}
use Rattle.rules.proofs.Sharing.{share-fair, share-earlier}
use Rattle.rules.proofs.Quotas.{in_turn-divides, share-divides}
use Rattle.rules.proofs.Gives.{specialist-divides, Lawful, lawful-shrinks, cut-other, opposed, opposed-apart, other-apart, holder, sizes-at, Quoted, group-quoted, Given}
use Rattle.rules.proofs.Firsts.{live-slot, by_number_lem, better-turn, better-past, better-alike}
use Rattle.rules.proofs.Tables.{positive, table_same, sum-equal}
use Rattle.rules.proofs.Settled.{same_or}
use Rattle.rules.proofs.Control.{sum-part, opposes-is, turn-kept, each-kept, shrinks-kept, group-given, group-left}

-- two entries at one limit, of one strategy and side
record Together (e f : Entry) : Type 0 where
  strategy : f.strategy ≡ e.strategy
  side : f.side ≡ e.side
  limit : f.level ≡ e.level

together : {e f : Entry} → Beside e f → f.level ≡ e.level → Together e f
together t l = record { strategy = t.strategy; side = t.side; limit = l }

-- WHO IS IN WHICH GROUP
customer-group : (e : Entry) → Customer e → group_of e ≡ 0
unfolding group_of
customer-group e (c, s) =
    pick-false _ _ _ (ne_eqb e.life 4 s) ∙ pick-false _ _ _ (ne_eqb e.class 3 (λ z. omega arith)) ∙ pick_true _ _ _ (eq-eqb e.class 1 c)

pub maker-group : (e : Entry) → SweepOrMaker e → group_of e ≡ 1
unfolding group_of
maker-group e h =
    let P : ℕ → Type 0 = λ (g : ℕ). g ≡ 1 in
    ⊎_elim (λ s. pick_true _ _ _ (eq-eqb e.life 4 s)) (λ c. pick_all P _ refl (pick_true _ _ _ (eq-eqb e.class 3 c))) h

dealer-group : (e : Entry) → Dealer e → group_of e ≡ 2
unfolding group_of
dealer-group e (c, s) =
    pick-false _ _ _ (ne_eqb e.life 4 s) ∙ pick-false _ _ _ (ne_eqb e.class 3 (λ z. omega arith)) ∙ pick-false _ _ _ (ne_eqb e.class 1 (λ z. omega arith))

-- ONE GROUP'S FILLS
-- an entry holds all its units against one that it opposes, in its group
pub holds-all : (e f : Entry) (level g : ℕ) → opposes e f ≡ true → f.level ≡ level → within g f ≡ true → holding e level g f ≡ f.units
unfolding holding
holds-all e f level g o l w = pick_true _ _ _ o ∙ pick_true _ _ _ (eq-eqb _ _ l) ∙ pick_true _ _ _ w

-- what one holds in a group is of the group
record Met (b : State) (a level g j : ℕ) : Type 0 where
  opposed : opposes (entry_at b a) (entry_at b j) ≡ true
  limit : (entry_at b j).level ≡ level
  group : within g (entry_at b j) ≡ true
  active : 0 < (entry_at b a).units

pub holding-in : (e f : Entry) (level g : ℕ) → 0 < holding e level g f → within g f ≡ true
unfolding holding
holding-in e f level g =
    let P : ℕ → Type 0 = λ (x : ℕ). 0 < x → within g f ≡ true in
    let none : P 0 = λ h. absurd (omega arith) in
    pick_all P _ (pick_all P _ (pick-by P (within g f) (λ w _. w) (λ _. none)) none) none

module _ {divide : Division} (d : GivesOut divide) (a level g : ℕ) (b : State) (rows : length b.entries ≡ 32) (m : Lawful b a level) where
  abbrev held : List ℕ
  held = sizes b.entries (entry_at b a) level g

  abbrev quoted : List ℕ
  quoted = divide (entry_at b a).units held

  abbrev c : State
  c = (give_group divide a level g b).state

  q : Quoted b a level g quoted
  q = group-quoted d b a level g m

  v : Given b a quoted 32 c
  v = group-given d a level g b m

  -- one that has traded is of the group, at the limit
  met : (j : ℕ) → (j ≡ a → ⊥) → (entry_at c j).units < (entry_at b j).units → Met b a level g j
  met j n l =
      let low : j < 32 = live-slot b rows j (omega arith) in
      let e : (entry_at c j).units ≡ (entry_at b j).units - slot quoted j = ap (λ (x : Entry). x.units) (v.done j low n) in
      let h : 0 < holding (entry_at b a) level g (entry_at b j) = omega (arith, q.within j low) in
      let p = holder (entry_at b a) level g (entry_at b j) h in
      record {
        opposed = p.opposed;
        limit = p.limit;
        group = holding-in (entry_at b a) (entry_at b j) level g h;
        active = omega (arith, sum_one (slot quoted) 32 j low, q.sum);
      }

  -- where the active one has units left, the group has none
  emptied : (i : ℕ) → 0 < (entry_at c a).units → opposes (entry_at b a) (entry_at b i) ≡ true → (entry_at b i).level ≡ level → within g (entry_at b i) ≡ true → (entry_at c i).units ≡ 0
  emptied i left o l w =
      let low : i < 32 = live-slot b rows i (opposed (entry_at b a) (entry_at b i) o).live in
      let u : (entry_at c a).units ≡ (entry_at b a).units - sum_n (slot quoted) 32 = ap (λ (x : Entry). x.units) v.active in
      let s : sum_n (slot quoted) 32 ≡ min (entry_at b a).units (sum_n (slot held) 32) = d.sum (entry_at b a).units held in
      let same : slot quoted i ≡ slot held i = sum-equal (slot quoted) (slot held) 32 i low (λ j. d.under (entry_at b a).units held j) (omega arith) in
      let size : slot held i ≡ (entry_at b i).units = sizes-at b.entries (entry_at b a) level g i low ∙ holds-all (entry_at b a) (entry_at b i) level g o l w in
      let e : (entry_at c i).units ≡ (entry_at b i).units - slot quoted i = ap (λ (x : Entry). x.units) (v.done i low (opposed-apart b a i o)) in
      omega arith

-- what the fills of group g make of b: c
record Step (b : State) (a level g : ℕ) (c : State) : Type 0 where
  shrinks : Shrinks b c
  met : (j : ℕ) → (j ≡ a → ⊥) → (entry_at c j).units < (entry_at b j).units → Met b a level g j
  emptied : (i : ℕ) → 0 < (entry_at c a).units → opposes (entry_at b a) (entry_at b i) ≡ true → (entry_at b i).level ≡ level → within g (entry_at b i) ≡ true → (entry_at c i).units ≡ 0

group-step : {divide : Division} → GivesOut divide → (a level g : ℕ) (b : State) → length b.entries ≡ 32 → Lawful b a level → Step b a level g (give_group divide a level g b).state
group-step d a level g b rows m = record { shrinks = (group-given d a level g b m).shrinks; met = met d a level g b rows m; emptied = emptied d a level g b rows m }

module _ (a level g : ℕ) (b : State) (rows : length b.entries ≡ 32) (m : Lawful b a level) where
  -- by number: where one has traded, those of the group in the slots before it have nothing left
  in_order : (i j : ℕ) → i < j → (j ≡ a → ⊥) → opposes (entry_at b a) (entry_at b i) ≡ true → (entry_at b i).level ≡ level → within g (entry_at b i) ≡ true →
      (entry_at (give_group in_turn a level g b).state j).units < (entry_at b j).units → (entry_at (give_group in_turn a level g b).state i).units ≡ 0
  unfolding in_turn in_turn_at
  in_order i j h n o l w fell =
      let c : State = (give_group in_turn a level g b).state in
      let v = group-given in_turn-divides a level g b m in
      let r : ℕ = (entry_at b a).units in
      let xs : List ℕ = sizes b.entries (entry_at b a) level g in
      let low : j < 32 = live-slot b rows j (omega arith) in
      let ej : (entry_at c j).units ≡ (entry_at b j).units - slot (in_turn r xs) j = ap (λ (x : Entry). x.units) (v.done j low n) in
      let ei : (entry_at c i).units ≡ (entry_at b i).units - slot (in_turn r xs) i = ap (λ (x : Entry). x.units) (v.done i (omega arith) (opposed-apart b a i o)) in
      let qj : slot (in_turn r xs) j ≡ min (r - sum_n (slot xs) j) (slot xs j) = table-slot (in_turn_at r xs) 0 32 j low in
      let qi : slot (in_turn r xs) i ≡ min (r - sum_n (slot xs) i) (slot xs i) = table-slot (in_turn_at r xs) 0 32 i (omega arith) in
      let size : slot xs i ≡ (entry_at b i).units = sizes-at b.entries (entry_at b a) level g i (omega arith) ∙ holds-all (entry_at b a) (entry_at b i) level g o l w in
      let part = sum-part (slot xs) j i h in
      omega arith

-- GROUPS AFTER ONE ANOTHER
pub group-in : (e : Entry) (g : ℕ) → g < 3 → group_of e ≡ g → within g e ≡ true
unfolding within
group-in e g h q = pick-false _ _ _ (ne_eqb g 3 (λ z. omega arith)) ∙ eq-eqb _ _ q

pub in_group : (e : Entry) (g : ℕ) → g < 3 → within g e ≡ true → group_of e ≡ g
unfolding within
in_group e g h w = eqb-true _ _ (sym (pick-false _ _ _ (ne_eqb g 3 (λ z. omega arith))) ∙ w)

pub group-same : {e f : Entry} → SameEntry e f → group_of f ≡ group_of e
unfolding group_of
group-same h = rw (h.life, h.class)

-- who stands beside a holder opposes the active one too, if it lives
also-opposes : {x z : State} (a i j : ℕ) → Shrinks x z → opposes (entry_at z a) (entry_at z j) ≡ true → Together (entry_at x i) (entry_at x j) → 0 < (entry_at x i).units → opposes (entry_at x a) (entry_at x i) ≡ true
also-opposes {x} {z} a i j s o t l =
    let p = opposed (entry_at z a) (entry_at z j) o in
    opposes-is (entry_at x a) (entry_at x i) l
    (sym t.strategy ∙ sym (s.entry j).strategy ∙ p.strategy ∙ (s.entry a).strategy)
    (sym t.side ∙ sym (s.entry j).side ∙ p.side ∙ ap other (s.entry a).side)

-- a group that had its turn before a holder that was met has nothing left there
cleared : {x y z : State} (a level g i j : ℕ) → Step x a level g y → Shrinks y z → 0 < (entry_at z a).units → opposes (entry_at z a) (entry_at z j) ≡ true → (entry_at z j).level ≡ level →
    Together (entry_at x i) (entry_at x j) → within g (entry_at x i) ≡ true → (entry_at z i).units ≡ 0
cleared {x} {y} {z} a level g i j s h left o l t w =
    let k : Shrinks x z = shrinks-trans s.shrinks h in
    ⊎_elim
    (λ (p : 0 < (entry_at x i).units).
    let e : (entry_at y i).units ≡ 0 = s.emptied i (omega (arith, (h.entry a).units)) (also-opposes a i j k o t p) (sym t.limit ∙ sym (k.entry j).level ∙ l) w in
    omega (arith, (h.entry i).units))
    (λ (p : (entry_at x i).units ≤ 0). omega (arith, (k.entry i).units))
    (lt-or-le 0 (entry_at x i).units)

beside_same : {b c : State} → Shrinks b c → (i j : ℕ) → Together (entry_at b i) (entry_at b j) → Together (entry_at c i) (entry_at c j)
beside_same s i j t = record {
  strategy = (s.entry j).strategy ∙ t.strategy ∙ sym (s.entry i).strategy;
  side = (s.entry j).side ∙ t.side ∙ sym (s.entry i).side;
  limit = (s.entry j).level ∙ t.limit ∙ sym (s.entry i).level;
}

module _ {second : Division} (d : GivesOut second) (a level : ℕ) (b : State) (rows : length b.entries ≡ 32) (m : Lawful b a level) where
  abbrev one : State
  one = (give_group in_turn a level 0 b).state

  abbrev two : State
  two = (give_group second a level 1 one).state

  abbrev three : State
  three = (give_group share a level 2 two).state

  step-one : Step b a level 0 one
  step-one = group-step in_turn-divides a level 0 b rows m

  step-two : Step one a level 1 two
  step-two = group-step d a level 1 one (step-one.shrinks.entry_rows ∙ rows) (lawful-shrinks step-one.shrinks m)

  from-two : Shrinks b two
  from-two = shrinks-trans step-one.shrinks step-two.shrinks

  step-three : Step two a level 2 three
  step-three = group-step share-divides a level 2 two (from-two.entry_rows ∙ rows) (lawful-shrinks from-two m)

  shared-shrinks : Shrinks b three
  shared-shrinks = shrinks-trans from-two step-three.shrinks

  module _ (i j : ℕ) (n : j ≡ a → ⊥) (t : Together (entry_at b i) (entry_at b j)) where
    -- in which turn one fell is its group
    first_group : (entry_at one j).units < (entry_at b j).units → group_of (entry_at b j) ≡ 0
    first_group l = in_group (entry_at b j) 0 (omega arith) (step-one.met j n l).group

    second_group_lem : (entry_at two j).units < (entry_at one j).units → group_of (entry_at b j) ≡ 1
    second_group_lem l = sym (group-same (step-one.shrinks.entry j)) ∙ in_group (entry_at one j) 1 (omega arith) (step-two.met j n l).group

    third_group : (entry_at three j).units < (entry_at two j).units → group_of (entry_at b j) ≡ 2
    third_group l = sym (group-same (from-two.entry j)) ∙ in_group (entry_at two j) 2 (omega arith) (step-three.met j n l).group

    zero-since : (c : State) → Shrinks c three → (entry_at c i).units ≡ 0 → (entry_at three i).units ≡ 0
    zero-since c s e = omega (arith, (s.entry i).units)

    -- those of an earlier group have nothing left
    earlier : group_of (entry_at b i) < group_of (entry_at b j) → (entry_at three j).units < (entry_at b j).units → (entry_at three i).units ≡ 0
    earlier g fell = ⊎_elim
        (λ (l : (entry_at one j).units < (entry_at b j).units). absurd (omega (arith, first_group l)))
        (λ (k : (entry_at b j).units ≤ (entry_at one j).units). ⊎_elim
        (λ (l : (entry_at two j).units < (entry_at one j).units).
        let p = step-two.met j n l in
        zero-since one (shrinks-trans step-two.shrinks step-three.shrinks)
        (cleared a level 0 i j step-one (shrinks-refl one) p.active p.opposed p.limit t (group-in (entry_at b i) 0 (omega arith) (omega (arith, second_group_lem l)))))
        (λ (h : (entry_at one j).units ≤ (entry_at two j).units).
        let l : (entry_at three j).units < (entry_at two j).units = omega arith in
        let p = step-three.met j n l in
        zero-since two step-three.shrinks
        (⊎_elim
        (λ (z : group_of (entry_at b i) < 1).
        cleared a level 0 i j step-one step-two.shrinks p.active p.opposed p.limit t (group-in (entry_at b i) 0 (omega arith) (omega arith)))
        (λ (z : 1 ≤ group_of (entry_at b i)).
        cleared a level 1 i j step-two (shrinks-refl two) p.active p.opposed p.limit (beside_same step-one.shrinks i j t)
        (group-in (entry_at one i) 1 (omega arith) (group-same (step-one.shrinks.entry i) ∙ omega (arith, third_group l))))
        (lt-or-le (group_of (entry_at b i)) 1)))
        (lt-or-le (entry_at two j).units (entry_at one j).units))
        (lt-or-le (entry_at one j).units (entry_at b j).units)

    -- and of customers those with a smaller number
    smaller : group_of (entry_at b i) ≡ 0 → group_of (entry_at b j) ≡ 0 → (0 < (entry_at b i).units → 0 < (entry_at b j).units → i < j) → (entry_at three j).units < (entry_at b j).units → (entry_at three i).units ≡ 0
    smaller gi gj order fell = ⊎_elim
        (λ (l : (entry_at one j).units < (entry_at b j).units). ⊎_elim
        (λ (p : 0 < (entry_at b i).units).
        let q = step-one.met j n l in
        zero-since one (shrinks-trans step-two.shrinks step-three.shrinks)
        (in_order a level 0 b rows m i j (order p (omega arith)) n (also-opposes a i j (shrinks-refl b) q.opposed t p) (sym t.limit ∙ q.limit) (group-in (entry_at b i) 0 (omega arith) gi) l))
        (λ (p : (entry_at b i).units ≤ 0). omega (arith, (shared-shrinks.entry i).units))
        (lt-or-le 0 (entry_at b i).units))
        (λ (k : (entry_at b j).units ≤ (entry_at one j).units). ⊎_elim
        (λ (l : (entry_at two j).units < (entry_at one j).units). absurd (omega (arith, second_group_lem l)))
        (λ (h : (entry_at one j).units ≤ (entry_at two j).units).
        let l : (entry_at three j).units < (entry_at two j).units = omega arith in
        absurd (omega (arith, third_group l)))
        (lt-or-le (entry_at two j).units (entry_at one j).units))
        (lt-or-le (entry_at one j).units (entry_at b j).units)

-- AT THE BEST LIMIT
-- by number is by slot
abbrev Rising : State → Type 0
Rising b = (i j : ℕ) → 0 < (entry_at b i).units → 0 < (entry_at b j).units → (entry_at b i).number < (entry_at b j).number → i < j

rising-less : {b c : State} → Shrinks b c → Rising b → Rising c
rising-less s r i j p q h = r i j (omega (arith, (s.entry i).units)) (omega (arith, (s.entry j).units)) (omega (arith, (s.entry i).number, (s.entry j).number))

-- a live entry has a limit
abbrev Limits : State → Type 0
Limits b = (i : ℕ) → 0 < (entry_at b i).units → 1 ≤ (entry_at b i).level

limits-less : {b c : State} → Shrinks b c → Limits b → Limits c
limits-less s l i p = omega (arith, (s.entry i).level, l i (omega (arith, (s.entry i).units)))

-- the side of the other sees prices the other way
pub better-other : (s x y : ℕ) → better (other s) x y ≡ better s y x
unfolding better other pick
better-other s x y = by (eqb s 0)
  where
    by : (t : Bool) → pick (eqb (pick t 1 0) 0) (ltb x y) (ltb y x) ≡ pick t (ltb y x) (ltb x y)
    by true = refl
    by false = refl

better-trans : (s x y z : ℕ) → better s x y ≡ true → better s y z ≡ true → better s x z ≡ true
better-trans s x y z p q = better-past s x y z p (better-turn s y z q)

better-onward : (s x y z : ℕ) → better s x y ≡ true → better s x z ≡ false → better s y z ≡ false
better-onward s x y z w f = by (better s y z) refl
  where
    by : (t : Bool) → better s y z ≡ t → better s y z ≡ false
    by true g = absurd (clash (better-trans s x y z w g) f)
    by false g = g

-- the best opposite limit is one, and no opposing entry has a better one
module _ (es : List Entry) (e : Entry) (limits : (i : ℕ) → opposes e (get_or es i no_entry) ≡ true → 0 < (get_or es i no_entry).level) where
  abbrev theirs : ℕ
  theirs = other e.side

  abbrev level_at : ℕ → ℕ
  level_at i = (get_or es i no_entry).level

  abbrev upto : ℕ → ℕ
  upto k = walk (limit_step es e) 0 k

  record Best (x y w : ℕ) : Type 0 where
    some : 0 < w
    new : better theirs w y ≡ false
    old : (z : ℕ) → 0 < x → better theirs x z ≡ false → better theirs w z ≡ false

  best-two : (x y : ℕ) → 0 < y → Best x y (best_price theirs x y)
  unfolding best_price
  best-two x y h =
      pick-by (Best x y) (eqb x 0)
      (λ q. record { some = h; new = better-alike theirs y; old = λ z p _. absurd (omega (arith, eqb-true x 0 q)) })
      (λ q. pick-by (Best x y) (better theirs x y)
      (λ w. record { some = h; new = better-alike theirs y; old = λ z _ f. better-onward theirs x y z w f })
      (λ w. record { some = positive x q; new = w; old = λ z _ f. f }))

  best-upto : (k i : ℕ) → i < k → opposes e (get_or es i no_entry) ≡ true → (0 < upto k) × (better theirs (upto k) (level_at i) ≡ false)
  unfolding walk limit_with
  best-upto zero i l o = absurd (omega arith)
  best-upto (suc k) i l o =
      pick-by (λ (w : ℕ). (0 < w) × (better theirs w (level_at i) ≡ false)) (opposes e (get_or es k no_entry))
      (λ ok. let z = best-two (upto k) (level_at k) (limits k ok) in
      ⊎_elim (λ (q : i ≡ k). (z.some, rw q z.new)) (λ (m : i < k). let h = best-upto k i m o in (z.some, z.old (level_at i) h.0 h.1)) (below l))
      (λ no. ⊎_elim (λ (q : i ≡ k). absurd (clash o (rw q no))) (λ (m : i < k). best-upto k i m o) (below l))

  pub best-opposite : (i : ℕ) → i < 32 → opposes e (get_or es i no_entry) ≡ true → (0 < best_opposite es e) × (better theirs (best_opposite es e) (level_at i) ≡ false)
  unfolding best_opposite
  best-opposite i l o = best-upto 32 i l o

-- what a pass needs of a state
record Ready (b : State) : Type 0 where
  rows : length b.entries ≡ 32
  rising : Rising b
  limits : Limits b

ready-less : {b c : State} → Shrinks b c → Ready b → Ready c
ready-less s r = record { rows = s.entry_rows ∙ r.rows; rising = rising-less s r.rising; limits = limits-less s r.limits }

-- at the best opposite limit no entry with a better one is met
best-met : (a : ℕ) (b : State) → Ready b → (i j : ℕ) → Beside (entry_at b i) (entry_at b j) → BetterLimit (entry_at b i) (entry_at b j) → opposes (entry_at b a) (entry_at b j) ≡ true →
    (entry_at b j).level ≡ best_opposite b.entries (entry_at b a) → (entry_at b i).units ≡ 0
best-met a b r i j t h o l =
    let e : Entry = entry_at b a in
    let p = opposed e (entry_at b j) o in
    ⊎_elim
    (λ (u : 0 < (entry_at b i).units).
    let oi : opposes e (entry_at b i) ≡ true = opposes-is e (entry_at b i) u (sym t.strategy ∙ p.strategy) (sym t.side ∙ p.side) in
    let z = best-opposite b.entries e (λ k ok. r.limits k (opposed e (entry_at b k) ok).live) i (live-slot b r.rows i u) oi in
    let side : (entry_at b i).side ≡ other e.side = sym t.side ∙ p.side in
    let w : better (other e.side) (entry_at b j).level (entry_at b i).level ≡ false = rw l z.1 in
    let g : better (entry_at b i).side (entry_at b j).level (entry_at b i).level ≡ true = sym (better-other (entry_at b i).side (entry_at b i).level (entry_at b j).level) ∙ h in
    absurd (clash (rw side at g) w))
    (λ (u : (entry_at b i).units ≤ 0). omega arith)
    (lt-or-le 0 (entry_at b i).units)

module _ {second : Division} (d : GivesOut second) (a : ℕ) (b : State) (r : Ready b) (m : Lawful b a (best_opposite b.entries (entry_at b a))) where
  abbrev level : ℕ
  level = best_opposite b.entries (entry_at b a)

  shared-better : (i j : ℕ) → (j ≡ a → ⊥) → Beside (entry_at b i) (entry_at b j) → BetterLimit (entry_at b i) (entry_at b j) → (entry_at (three d a level b r.rows m) j).units < (entry_at b j).units → (entry_at b i).units ≡ 0
  shared-better i j n t h fell =
      let c1 = one d a level b r.rows m in
      let c2 = two d a level b r.rows m in
      let s1 = step-one d a level b r.rows m in
      let s2 = step-two d a level b r.rows m in
      let s12 = from-two d a level b r.rows m in
      ⊎_elim
      (λ (l : (entry_at c1 j).units < (entry_at b j).units). let p = s1.met j n l in best-met a b r i j t h p.opposed p.limit)
      (λ (k : (entry_at b j).units ≤ (entry_at c1 j).units). ⊎_elim
      (λ (l : (entry_at c2 j).units < (entry_at c1 j).units). let p = s2.met j n l in best-met a b r i j t h (was s1.shrinks p.opposed) (sym (s1.shrinks.entry j).level ∙ p.limit))
      (λ (l : (entry_at c1 j).units ≤ (entry_at c2 j).units).
      let p = (step-three d a level b r.rows m).met j n (omega arith) in
      best-met a b r i j t h (was s12 p.opposed) (sym (s12.entry j).level ∙ p.limit))
      (lt-or-le (entry_at c2 j).units (entry_at c1 j).units))
      (lt-or-le (entry_at c1 j).units (entry_at b j).units)
    where
      was : {c : State} → Shrinks b c → opposes (entry_at c a) (entry_at c j) ≡ true → opposes (entry_at b a) (entry_at b j) ≡ true
      was s o =
          let p = opposed _ _ o in
          opposes-is (entry_at b a) (entry_at b j) (omega (arith, p.live, (s.entry j).units)) (sym (s.entry j).strategy ∙ p.strategy ∙ (s.entry a).strategy)
          (sym (s.entry j).side ∙ p.side ∙ ap other (s.entry a).side)

  shared-none : NonePassed AheadShared a b (give_shared second a level b).state
  unfolding give_shared and_then
  shared-none i j n t (better-limit h) fell = omega (arith, shared-better i j n t h fell, ((shared-shrinks d a level b r.rows m).entry i).units)
  shared-none i j n t (customer-before-maker l c s) fell = earlier d a level b r.rows m i j n (together t l) (omega (arith, customer-group (entry_at b i) c, maker-group (entry_at b j) s)) fell
  shared-none i j n t (customer-before-dealer l c s) fell = earlier d a level b r.rows m i j n (together t l) (omega (arith, customer-group (entry_at b i) c, dealer-group (entry_at b j) s)) fell
  shared-none i j n t (maker-before-dealer l c s) fell = earlier d a level b r.rows m i j n (together t l) (omega (arith, maker-group (entry_at b i) c, dealer-group (entry_at b j) s)) fell
  shared-none i j n t (customers-by-number l c s h) fell =
      smaller d a level b r.rows m i j n (together t l) (customer-group (entry_at b i) c) (customer-group (entry_at b j) s) (λ p q. r.rising i j p q h) fell

module _ (a : ℕ) (b : State) (r : Ready b) (m : Lawful b a (best_opposite b.entries (entry_at b a))) where
  abbrev best : ℕ
  best = best_opposite b.entries (entry_at b a)

  numbered-none : NonePassed AheadNumbered a b (give_group in_turn a best 3 b).state
  unfolding within
  numbered-none i j n t w fell =
      let s : Step b a best 3 (give_group in_turn a best 3 b).state = group-step in_turn-divides a best 3 b r.rows m in
      let q = s.met j n fell in
      ⊎_elim
      (λ h. omega (arith, best-met a b r i j t h q.opposed q.limit, (s.shrinks.entry i).units))
      (λ h. ⊎_elim
      (λ (p : 0 < (entry_at b i).units).
      let g : Together (entry_at b i) (entry_at b j) = together t h.0 in
      in_order a best 3 b r.rows m i j (r.rising i j p (omega arith) h.1) n (also-opposes a i j (shrinks-refl b) q.opposed g p) (sym h.0 ∙ q.limit) (pick_true _ _ _ refl) fell)
      (λ (p : (entry_at b i).units ≤ 0). omega (arith, (s.shrinks.entry i).units))
      (lt-or-le 0 (entry_at b i).units))
      w

-- A FILL BY LEGS is of the active entry alone
pub legs-others : (a : ℕ) (b : State) (j : ℕ) → (j ≡ a → ⊥) → entry_at (leg_fill a b).state j ≡ entry_at b j
unfolding leg_fill take_legs with_orders
legs-others a b j n = cut-other b a _ j n

-- PASSES
abbrev pub Static : (Entry → Entry → Type 0) → Type 0
Static A = (e e' f f' : Entry) → SameEntry e e' → SameEntry f f' → A e f → A e' f'

same-customer : {x y : Entry} → SameEntry x y → Customer x → Customer y
same-customer q (c, s) = (q.class ∙ c, λ z. s (sym q.life ∙ z))

same-maker : {x y : Entry} → SameEntry x y → SweepOrMaker x → SweepOrMaker y
same-maker q = ⊎_elim (λ s. inl (q.life ∙ s)) (λ c. inr (q.class ∙ c))

same-dealer : {x y : Entry} → SameEntry x y → Dealer x → Dealer y
same-dealer q (c, s) = (q.class ∙ c, λ z. s (sym q.life ∙ z))

better-static : Static BetterLimit
better-static e e' f f' h k b = rw (h.side, h.level, k.level) b

level-static : {e e' f f' : Entry} → SameEntry e e' → SameEntry f f' → f.level ≡ e.level → f'.level ≡ e'.level
level-static h k l = k.level ∙ l ∙ sym h.level

pub shared-static : Static AheadShared
shared-static e e' f f' h k (better-limit b) = better-limit (better-static e e' f f' h k b)
shared-static e e' f f' h k (customer-before-maker l c s) = customer-before-maker (level-static h k l) (same-customer h c) (same-maker k s)
shared-static e e' f f' h k (customer-before-dealer l c s) = customer-before-dealer (level-static h k l) (same-customer h c) (same-dealer k s)
shared-static e e' f f' h k (maker-before-dealer l c s) = maker-before-dealer (level-static h k l) (same-maker h c) (same-dealer k s)
shared-static e e' f f' h k (customers-by-number l c s n) = customers-by-number (level-static h k l) (same-customer h c) (same-customer k s) (omega (arith, h.number, k.number))

pub numbered-static : Static AheadNumbered
numbered-static e e' f f' h k = ⊎_elim (λ b. inl (better-static e e' f f' h k b)) (λ l. inr (level-static h k l.0, omega (arith, h.number, k.number, l.1)))

beside-less : {b c : State} → Shrinks b c → (i j : ℕ) → Beside (entry_at b i) (entry_at b j) → Beside (entry_at c i) (entry_at c j)
beside-less s i j t = record {
  strategy = (s.entry j).strategy ∙ t.strategy ∙ sym (s.entry i).strategy;
  side = (s.entry j).side ∙ t.side ∙ sym (s.entry i).side;
}

-- a turn at a limit is at the best opposite one, which meets the active one's
abbrev AtBest : Allocation → State → ℕ → Turn → Type 0
AtBest way b a Stop = Unit {0}
AtBest way b a ByLegs = Unit {0}
AtBest way b a (AtLimit x) = (x ≡ opposite way a b) × Lawful b a x

turn-best : (way : Allocation) (legs : Bool) (a : ℕ) (b : State) → AtBest way b a (turn_of way legs a b)
unfolding turn_of turn_at allowed
turn-best way legs a b =
    let e : Entry = entry_at b a in
    let x : ℕ = opposite way a b in
    let Q : Turn → Type 0 = AtBest way b a in
    let P : Turn → Type 0 = λ (t : Turn). Q (allowed (bounds_at b e.strategy) e.side (ready_net legs a b) t) in
    pick_all P _ tt (pick_all P _ (pick_all P _ (pick_all Q _ tt tt) tt) (pick_all P _ tt
    (pick-by P (meets e.side e.level x) (λ m. pick-by Q _ (λ g. (refl, record { limit = m; range = g })) (λ _. tt)) (λ _. tt))))

module _ (A : Entry → Entry → Type 0) (static : Static A) (a : ℕ) where
  pub none-refl : (b : State) → NonePassed A a b b
  none-refl b i j n t h fell = absurd (omega arith)

  -- a move that changes no entry but the active one
  pub none-alone : (b c : State) → ((j : ℕ) → (j ≡ a → ⊥) → entry_at c j ≡ entry_at b j) → NonePassed A a b c
  none-alone b c same i j n t h fell = absurd (omega (arith, ap (λ (x : Entry). x.units) (same j n)))

  pub none-trans : {b c d : State} → Shrinks b c → Shrinks c d → NonePassed A a b c → NonePassed A a c d → NonePassed A a b d
  none-trans {b} {c} {d} s r x y i j n t h fell = ⊎_elim
      (λ (l : (entry_at c j).units < (entry_at b j).units). omega (arith, x i j n t h l, (r.entry i).units))
      (λ (l : (entry_at b j).units ≤ (entry_at c j).units).
      y i j n (beside-less s i j t) (static (entry_at b i) (entry_at c i) (entry_at b j) (entry_at c j) (s.entry i) (s.entry j) h) (omega arith))
      (lt-or-le (entry_at c j).units (entry_at b j).units)

  module _ (way : Allocation) (at-best : (b : State) → Ready b → Lawful b a (opposite way a b) → NonePassed A a b (meet_limit way a (opposite way a b) b).state) where
    take_none : (t : Turn) (b : State) → Ready b → AtBest way b a t → NonePassed A a b (take_turn way a t b).state
    unfolding take_turn
    take_none Stop b r f = none-refl b
    take_none ByLegs b r f = none-alone b (leg_fill a b).state (legs-others a b)
    take_none (AtLimit x) b r f = rw f.0 (at-best b r (rw f.0 at f.1))

    module _ (legs : Bool) (b : State) (orders : length b.orders ≡ 32) (r : Ready b) where
      turns-shrink : (n : ℕ) → Shrinks b (each (turn way legs a) n b).state
      turns-shrink n = each-kept shrinks-kept (turn way legs a) (turn-kept shrinks-kept way legs a) n b orders

      turns-none : (n : ℕ) → NonePassed A a b (each (turn way legs a) n b).state
      unfolding each and_then
      turns-none zero = none-refl b
      turns-none (suc n) =
          let c : State = (each (turn way legs a) n b).state in
          let s : Shrinks b c = turns-shrink n in
          none-trans s (turn-kept shrinks-kept way legs a n c (s.order_rows ∙ orders)) (turns-none n)
          (take_none (turn_of way legs a c) c (ready-less s r) (turn-best way legs a c))

sound-ready : {b : State} → Sound b → Ready b
sound-ready v = record { rows = v.entry_rows; rising = by_number_lem v; limits = λ i l. (v.live i l).level }

-- nobody is passed by in a shared pass, an auction's starter's or another's, nor in a numbered one
pub shared-pass : (legs : Bool) (a : ℕ) (b : State) → Sound b → NonePassed AheadShared a b (pass Shared legs a b).state
unfolding pass meet_limit give_for_starter opposite
shared-pass legs a b v = turns-none AheadShared shared-static a Shared (λ c. shared-none share-divides a c) legs b v.order_rows (sound-ready v) (entry_at b a).units

pub starter-pass : (legs : Bool) (a : ℕ) (b : State) → Sound b → NonePassed AheadShared a b (pass ForStarter legs a b).state
unfolding pass meet_limit give_for_starter opposite
starter-pass legs a b v = turns-none AheadShared shared-static a ForStarter (λ c. shared-none (specialist-divides a _ c) a c) legs b v.order_rows (sound-ready v) (entry_at b a).units

pub numbered-pass : (legs : Bool) (a : ℕ) (b : State) → Sound b → NonePassed AheadNumbered a b (pass Numbered legs a b).state
unfolding pass meet_limit give_for_starter opposite
numbered-pass legs a b v = turns-none AheadNumbered numbered-static a Numbered (λ c. numbered-none a c) legs b v.order_rows (sound-ready v) (entry_at b a).units

-- SHARING within the second and the third group
together-turn : {e f : Entry} → Together e f → Together f e
together-turn t = record { strategy = sym t.strategy; side = sym t.side; limit = sym t.limit }

module _ {divide : Division} (d : GivesOut divide) (a level g : ℕ) (b : State) (rows : length b.entries ≡ 32) (m : Lawful b a level) where
  abbrev after : State
  after = (give_group divide a level g b).state

  abbrev sized : List ℕ
  sized = sizes b.entries (entry_at b a) level g

  abbrev given_out : List ℕ
  given_out = divide (entry_at b a).units sized

  size-slot : (i : ℕ) → i < 32 → slot sized i ≡ holding (entry_at b a) level g (entry_at b i)
  size-slot i l = sizes-at b.entries (entry_at b a) level g i l

  size-most : (i : ℕ) → i < 32 → slot sized i ≤ (entry_at b i).units
  size-most i l = ⊎_elim
      (λ (p : 0 < slot sized i). let h = holder (entry_at b a) level g (entry_at b i) (omega (arith, size-slot i l)) in omega (arith, size-slot i l, h.units))
      (λ (p : slot sized i ≤ 0). omega arith)
      (lt-or-le 0 (slot sized i))

  -- what a holder got is its quota
  group-got : (i : ℕ) → i < 32 → (i ≡ a → ⊥) → got b after i ≡ slot given_out i
  group-got i l n =
      let v = group-given d a level g b m in
      let e : (entry_at after i).units ≡ (entry_at b i).units - slot given_out i = ap (λ (x : Entry). x.units) (v.done i l n) in
      omega (arith, d.under (entry_at b a).units sized i, size-most i l)

  -- who stands beside a holder of the group holds all its units too
  beside-size : (i j : ℕ) → i < 32 → j < 32 → Together (entry_at b i) (entry_at b j) → within g (entry_at b j) ≡ true → 0 < (entry_at b j).units → 0 < slot sized i → slot sized j ≡ (entry_at b j).units
  beside-size i j hi hj t w l p =
      let h = holder (entry_at b a) level g (entry_at b i) (omega (arith, size-slot i hi)) in
      size-slot j hj ∙ holds-all (entry_at b a) (entry_at b j) level g (also-opposes a j i (shrinks-refl b) h.opposed (together-turn t) l) (t.limit ∙ h.limit) w

  module _ (i j : ℕ) (ni : i ≡ a → ⊥) (nj : j ≡ a → ⊥) (t : Together (entry_at b i) (entry_at b j)) (wi : within g (entry_at b i) ≡ true) (wj : within g (entry_at b j) ≡ true)
      (li : 0 < (entry_at b i).units) (lj : 0 < (entry_at b j).units) where
    si : i < 32
    si = live-slot b rows i li

    sj : j < 32
    sj = live-slot b rows j lj

    -- both hold all their units, or neither anything
    both_hold : ((slot sized i ≡ (entry_at b i).units) × (slot sized j ≡ (entry_at b j).units)) ⊎ ((slot sized i ≡ 0) × (slot sized j ≡ 0))
    both_hold = ⊎_elim
        (λ (p : 0 < slot sized i). let e = beside-size i j si sj t wj lj p in inl (beside-size j i sj si (together-turn t) wi li (omega arith), e))
        (λ (p : slot sized i ≤ 0). ⊎_elim
        (λ (q : 0 < slot sized j). absurd (omega (arith, beside-size j i sj si (together-turn t) wi li q)))
        (λ (q : slot sized j ≤ 0). inr (omega arith, omega arith))
        (lt-or-le 0 (slot sized j)))
        (lt-or-le 0 (slot sized i))

    none-got : (k : ℕ) → k < 32 → (k ≡ a → ⊥) → slot sized k ≡ 0 → got b after k ≡ 0
    none-got k l n z = omega (arith, group-got k l n, d.under (entry_at b a).units sized k)

-- a group that is shared
module _ (a level g : ℕ) (b : State) (rows : length b.entries ≡ 32) (m : Lawful b a level) (i j : ℕ) (ni : i ≡ a → ⊥) (nj : j ≡ a → ⊥) (t : Together (entry_at b i) (entry_at b j))
    (wi : within g (entry_at b i) ≡ true) (wj : within g (entry_at b j) ≡ true) (li : 0 < (entry_at b i).units) (lj : 0 < (entry_at b j).units) where
  abbrev shared : State
  shared = (give_group share a level g b).state

  abbrev sizes_held : List ℕ
  sizes_held = sizes b.entries (entry_at b a) level g

  hi : i < 32
  hi = live-slot b rows i li

  hj : j < 32
  hj = live-slot b rows j lj

  group-fair : got b shared i * (entry_at b j).units < got b shared j * (entry_at b i).units + (entry_at b i).units + (entry_at b j).units
  group-fair = ⊎_elim
      (λ e. rw (group-got share-divides a level g b rows m i hi ni, group-got share-divides a level g b rows m j hj nj, sym e.0, sym e.1) (share-fair (entry_at b a).units sizes_held i j hi hj (omega (arith, e.0)) (omega (arith, e.1))))
      (λ e. rw (none-got share-divides a level g b rows m i j ni nj t wi wj li lj i hi ni e.0, none-got share-divides a level g b rows m i j ni nj t wi wj li lj j hj nj e.1) (omega arith))
      (both_hold share-divides a level g b rows m i j ni nj t wi wj li lj)

  group-earlier : i < j → (entry_at b i).units ≡ (entry_at b j).units → got b shared j ≤ got b shared i
  group-earlier l q = ⊎_elim
      (λ e. rw (group-got share-divides a level g b rows m i hi ni, group-got share-divides a level g b rows m j hj nj) (share-earlier (entry_at b a).units sizes_held i j l hj (e.0 ∙ q ∙ sym e.1)))
      (λ e. omega (arith, none-got share-divides a level g b rows m i j ni nj t wi wj li lj j hj nj e.1))
      (both_hold share-divides a level g b rows m i j ni nj t wi wj li lj)

-- what one holds: nothing against itself, nothing out of the second group, and the same where neither has changed
pub holding-own : (e : Entry) (level g : ℕ) → holding e level g e ≡ 0
unfolding holding
holding-own e _ g = pick-by (λ (x : ℕ). x ≡ 0) (opposes e e) (λ o. absurd (other-apart e.side (opposed e e o).side)) (λ _. refl)

holding-out : (e : Entry) (level : ℕ) (f : Entry) → (group_of f ≡ 1 → ⊥) → holding e level 1 f ≡ 0
unfolding holding within
holding-out e _ f n =
    let P : ℕ → Type 0 = λ (x : ℕ). x ≡ 0 in
    pick_all P _ (pick_all P _ (pick-false _ _ _ (pick-false _ _ _ refl ∙ ne_eqb _ _ n)) refl) refl

holding-same : {e e₁ f f₁ : Entry} → SameEntry e e₁ → SameEntry f f₁ → (level g : ℕ) → f₁.units ≡ f.units → holding e₁ level g f₁ ≡ holding e level g f
unfolding holding opposes within group_of
holding-same h k level g u = rw (h.strategy, h.side, k.strategy, k.side, k.level, k.life, k.class, u)

-- a group's fills leave the others
step-leaves : {x y : State} (a level g j : ℕ) → g < 3 → Step x a level g y → (j ≡ a → ⊥) → (group_of (entry_at x j) ≡ g → ⊥) → (entry_at y j).units ≡ (entry_at x j).units
step-leaves {x} {y} a level g j low s n d = ⊎_elim
    (λ (l : (entry_at y j).units < (entry_at x j).units). absurd (d (in_group (entry_at x j) g low (s.met j n l).group)))
    (λ (l : (entry_at x j).units ≤ (entry_at y j).units). omega (arith, (s.shrinks.entry j).units))
    (lt-or-le (entry_at y j).units (entry_at x j).units)

module _ {second : Division} (d : GivesOut second) (a level : ℕ) (b : State) (rows : length b.entries ≡ 32) (m : Lawful b a level) where
  abbrev c1 : State
  c1 = one d a level b rows m

  abbrev c2 : State
  c2 = two d a level b rows m

  abbrev c3 : State
  c3 = three d a level b rows m

  s1 : Step b a level 0 c1
  s1 = step-one d a level b rows m

  s2 : Step c1 a level 1 c2
  s2 = step-two d a level b rows m

  s3 : Step c2 a level 2 c3
  s3 = step-three d a level b rows m

  s12 : Shrinks b c2
  s12 = from-two d a level b rows m

  m1 : Lawful c1 a level
  m1 = lawful-shrinks s1.shrinks m

  m2 : Lawful c2 a level
  m2 = lawful-shrinks s12 m

  module _ (j : ℕ) (n : j ≡ a → ⊥) where
    group-one : group_of (entry_at b j) ≡ 1 → ((entry_at c1 j).units ≡ (entry_at b j).units) × ((entry_at c3 j).units ≡ (entry_at c2 j).units)
    group-one g = (
      step-leaves a level 0 j (omega arith) s1 n (λ z. omega arith),
      step-leaves a level 2 j (omega arith) s3 n (λ z. omega (arith, group-same (s12.entry j))),
    )

    group-two : group_of (entry_at b j) ≡ 2 → (entry_at c2 j).units ≡ (entry_at b j).units
    group-two g =
        let x = step-leaves a level 0 j (omega arith) s1 n (λ z. omega arith) in
        let y = step-leaves a level 1 j (omega arith) s2 n (λ z. omega (arith, group-same (s1.shrinks.entry j))) in
        omega arith

  -- as the second group comes, its sizes are those from before the customers' fills
  second-size : (i : ℕ) → holding (entry_at c1 a) level 1 (entry_at c1 i) ≡ holding (entry_at b a) level 1 (entry_at b i)
  second-size i =
      let s = s1.shrinks in
      let P : Type 0 = holding (entry_at c1 a) level 1 (entry_at c1 i) ≡ holding (entry_at b a) level 1 (entry_at b i) in
      same_or P i a
      (λ e. rw e (holding-own (entry_at c1 a) level 1 ∙ sym (holding-own (entry_at b a) level 1)))
      (λ n. same_or P (group_of (entry_at b i)) 1
      (λ g. holding-same (s.entry a) (s.entry i) level 1 (group-one i n g).0)
      (λ g.
      holding-out (entry_at c1 a) level (entry_at c1 i) (λ z. g (sym (group-same (s.entry i)) ∙ z)) ∙ sym (holding-out (entry_at b a) level (entry_at b i) g)))

  pub second-sizes : sizes c1.entries (entry_at c1 a) level 1 ≡ sizes b.entries (entry_at b a) level 1
  unfolding sizes
  second-sizes = table_same _ _ 32 (λ i _. second-size i)

  -- and what is left of the active entry is what remains after customers
  pub second-left : (entry_at c1 a).units ≡ (entry_at b a).units - sum_n (slot (sizes b.entries (entry_at b a) level 0)) 32
  second-left = group-left in_turn-divides a level 0 b m

  -- what one of the second group got in all is its quota there
  pub second-got : (i : ℕ) → i < 32 → (i ≡ a → ⊥) → group_of (entry_at b i) ≡ 1 →
      got b c3 i ≡ slot (second ((entry_at b a).units - sum_n (slot (sizes b.entries (entry_at b a) level 0)) 32) (sizes b.entries (entry_at b a) level 1)) i
  second-got i l n g =
      let u = group-one i n g in
      let q : got c1 c2 i ≡ slot (second (entry_at c1 a).units (sizes c1.entries (entry_at c1 a) level 1)) i = group-got d a level 1 c1 (s1.shrinks.entry_rows ∙ rows) m1 i l n in
      let e : got b c3 i ≡ got c1 c2 i = rw (u.0, u.1) in
      e ∙ q ∙ rw (second-left, second-sizes)

  in_one : (k : ℕ) → group_of (entry_at b k) ≡ 1 → within 1 (entry_at c1 k) ≡ true
  in_one k g = group-in (entry_at c1 k) 1 (omega arith) (group-same (s1.shrinks.entry k) ∙ g)

  in_two : (k : ℕ) → group_of (entry_at b k) ≡ 2 → within 2 (entry_at c2 k) ≡ true
  in_two k g = group-in (entry_at c2 k) 2 (omega arith) (group-same (s12.entry k) ∙ g)

  -- the third group
  module _ (i j : ℕ) (ni : i ≡ a → ⊥) (nj : j ≡ a → ⊥) (t : Together (entry_at b i) (entry_at b j)) (li : 0 < (entry_at b i).units) (lj : 0 < (entry_at b j).units)
      (gi : group_of (entry_at b i) ≡ 2) (gj : group_of (entry_at b j) ≡ 2) where
    fair-two : got b c3 i * (entry_at b j).units < got b c3 j * (entry_at b i).units + (entry_at b i).units + (entry_at b j).units
    fair-two =
        let ui = group-two i ni gi in
        let uj = group-two j nj gj in
        rw (sym ui, sym uj)
        (group-fair a level 2 c2 (s12.entry_rows ∙ rows) m2 i j ni nj (beside_same s12 i j t) (in_two i gi) (in_two j gj) (omega arith) (omega arith))

    earlier-two : i < j → (entry_at b i).units ≡ (entry_at b j).units → got b c3 j ≤ got b c3 i
    earlier-two l q =
        let ui = group-two i ni gi in
        let uj = group-two j nj gj in
        let h = group-earlier a level 2 c2 (s12.entry_rows ∙ rows) m2 i j ni nj (beside_same s12 i j t) (in_two i gi) (in_two j gj) (omega arith) (omega arith) l (omega arith) in
        omega (arith, ui, uj)

-- the second group, where it is shared
module _ (a level : ℕ) (b : State) (rows : length b.entries ≡ 32) (m : Lawful b a level) (i j : ℕ) (ni : i ≡ a → ⊥) (nj : j ≡ a → ⊥) (t : Together (entry_at b i) (entry_at b j))
    (li : 0 < (entry_at b i).units) (lj : 0 < (entry_at b j).units) (gi : group_of (entry_at b i) ≡ 1) (gj : group_of (entry_at b j) ≡ 1) where
  abbrev before : State
  before = c1 share-divides a level b rows m

  abbrev end : State
  end = c3 share-divides a level b rows m

  customers : Step b a level 0 before
  customers = s1 share-divides a level b rows m

  ui : ((entry_at before i).units ≡ (entry_at b i).units) × ((entry_at end i).units ≡ (entry_at (c2 share-divides a level b rows m) i).units)
  ui = group-one share-divides a level b rows m i ni gi

  uj : ((entry_at before j).units ≡ (entry_at b j).units) × ((entry_at end j).units ≡ (entry_at (c2 share-divides a level b rows m) j).units)
  uj = group-one share-divides a level b rows m j nj gj

  fair-one : got b end i * (entry_at b j).units < got b end j * (entry_at b i).units + (entry_at b i).units + (entry_at b j).units
  fair-one =
      rw (sym ui.0, sym uj.0, ui.1, uj.1)
      (group-fair a level 1 before (customers.shrinks.entry_rows ∙ rows) (m1 share-divides a level b rows m) i j ni nj (beside_same customers.shrinks i j t)
      (in_one share-divides a level b rows m i gi) (in_one share-divides a level b rows m j gj) (omega (arith, ui.0)) (omega (arith, uj.0)))

  earlier-one : i < j → (entry_at b i).units ≡ (entry_at b j).units → got b end j ≤ got b end i
  earlier-one l q =
      let h =
      group-earlier a level 1 before (customers.shrinks.entry_rows ∙ rows) (m1 share-divides a level b rows m) i j ni nj (beside_same customers.shrinks i j t)
      (in_one share-divides a level b rows m i gi) (in_one share-divides a level b rows m j gj) (omega (arith, ui.0)) (omega (arith, uj.0)) l (omega (arith, ui.0, uj.0)) in
      omega (arith, ui.0, uj.0, ui.1, uj.1)

-- at one limit the second and the third group are shared
pub shared-fairly : (a level : ℕ) (b : State) → Sound b → Lawful b a level → SharedFairly a b (meet_limit Shared a level b).state
unfolding meet_limit give_shared and_then
shared-fairly a level b v m = record {
  by_size = λ i j ni nj t l g li lj. ⊎_elim
      (λ h. fair-one a level b v.entry_rows m i j ni nj (together t l) li lj (maker-group (entry_at b i) h.0) (maker-group (entry_at b j) h.1))
      (λ h. fair-two share-divides a level b v.entry_rows m i j ni nj (together t l) li lj (dealer-group (entry_at b i) h.0) (dealer-group (entry_at b j) h.1))
      g;
  by_number = λ i j ni nj t l g li q n.
      let lj : 0 < (entry_at b j).units = omega arith in
      let o : i < j = by_number_lem v i j li lj n in
      ⊎_elim
      (λ h. earlier-one a level b v.entry_rows m i j ni nj (together t l) li lj (maker-group (entry_at b i) h.0) (maker-group (entry_at b j) h.1) o q)
      (λ h. earlier-two share-divides a level b v.entry_rows m i j ni nj (together t l) li lj (dealer-group (entry_at b i) h.0) (dealer-group (entry_at b j) h.1) o q)
      g;
}
