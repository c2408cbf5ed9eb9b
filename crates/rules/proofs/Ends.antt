-- What the paper repeats is repeated to its end: "while units of it remain", "while they meet", all that is live at day end.
use mathlib.Core.Path.{◌≡◌, refl, sym, ap, ◌∙◌}
use mathlib.Core.Bool.{Bool, true, false}
use mathlib.Core.List.{List}
use mathlib.Core.Logic.{◌⊎◌, inl, inr, ⊎_elim}
use Prim.Native.Nat.{ℕ, zero, suc, ◌-◌, ◌≤◌, ◌<◌, min}
use native.Mathlib.Omega.{arith}
use borrow.Author.Tests.{eqb-true, eqb-false, eq-eqb, ltb-false, leb-false, lt-leb, not-true}
use lib.Dec.{eqb, ltb, leb}
use Rattle.base.specs.Pick.{pick, pick_true, pick-false, pick-by, pick_all, pick_no}
use Rattle.base.specs.Walks.{sum_n, slot, table-slot, sum_one, clash, lt-or-le}
use Rattle.rules.specs.declared.Strategy.{Strategy}
use Rattle.rules.specs.declared.Entry.{Entry}
use Rattle.rules.specs.declared.State.{State}
use Rattle.rules.specs.declared.Allocation.{Allocation}
use Rattle.rules.specs.declared.Allocation.TheVariants.{LegsOnly, Shared, ForStarter, Numbered}
use Rattle.rules.specs.declared.Bounds.{Bounds}
use Rattle.rules.specs.declared.Turn.{Turn}
use Rattle.rules.specs.declared.Turn.TheVariants.{Stop, ByLegs, AtLimit}
use Rattle.rules.specs.State.{entry_at, strategy_of, with_orders}
use Rattle.rules.specs.Moves.{Moved, and_then, each}
use Rattle.rules.specs.Sides.{meets, better}
use Rattle.rules.specs.Nets.{prices, units_of}
use Rattle.rules.specs.Fills.{cut, whole_fill, take_legs, leg_fill}
use Rattle.rules.specs.National.{bounds_at}
use Rattle.rules.specs.Sentences.{BarredTurn, at-legs, at-limit, Barred}
use Rattle.rules.specs.Quotas.{Division, GivesOut, in_turn, share}
use Rattle.rules.specs.Passes.{opposes, group_of, within, holding, size_at, sizes, give_at, give, give_group, give_shared, give_for_starter, meet_limit, ready, ready_net, opposite, legs_first, turn_at, allowed, turn_of, take_turn, turn, pass}
use Rattle.rules.proofs.Tables.{positive}
use Rattle.rules.proofs.Shrinks.{cut-shrinks}
use Rattle.rules.proofs.Turns.{each-ends, units-some, Holder, opposite-holder}
use Rattle.rules.proofs.Quotas.{in_turn-divides, share-divides}
use Rattle.rules.proofs.Gives.{specialist-divides, whole-none, cut_at}
use Rattle.rules.proofs.Firsts.{better-turn}

-- CUTS
pub cut-takes : (b : State) (i q : ℕ) → (entry_at (cut b i q) i).units ≤ (entry_at b i).units - q
cut-takes b i q = rw (cut_at b i q) (omega arith)

-- FILLS of an entry by others: each takes its quota, and none takes nothing
pub whole_takes : (b : State) (a h level q : ℕ) → (entry_at (whole_fill b a h level q).state a).units ≤ (entry_at b a).units - q
unfolding whole_fill
whole_takes b a h level q =
    pick-by (λ (m : Moved). (entry_at m.state a).units ≤ (entry_at b a).units - q) (eqb q 0)
    (λ e. omega (arith, eqb-true q 0 e))
    (λ _. omega (arith, cut-takes b a q, ((cut-shrinks (cut b a q) h q).entry a).units))

module _ (a level : ℕ) (qs : List ℕ) (b : State) where
  gives : (k : ℕ) → (entry_at (each (give_at a level qs) k b).state a).units ≤ (entry_at b a).units - sum_n (slot qs) k
  unfolding each and_then sum_n
  gives zero = omega arith
  gives (suc k) = let h = gives k in omega (arith, whole_takes (each (give_at a level qs) k b).state a k level (slot qs k))

  gives_none : (k : ℕ) → sum_n (slot qs) k ≡ 0 → (each (give_at a level qs) k b).state ≡ b
  unfolding each and_then sum_n
  gives_none zero h = refl
  gives_none (suc k) h = ap (λ (c : State). (give_at a level qs k c).state) (gives_none k (omega arith)) ∙ ap (λ (m : Moved). m.state) (whole-none b a k level (slot qs k) (omega arith))

-- A GROUP of the holders of a limit, and what it holds in all
abbrev total : State → ℕ → ℕ → ℕ → ℕ
total b a level g = sum_n (slot (sizes b.entries (entry_at b a) level g)) 32

abbrev units_at : ℕ → State → ℕ
units_at a b = (entry_at b a).units

module _ {divide : Division} (d : GivesOut divide) (a level g : ℕ) (b : State) where
  abbrev quoted : List ℕ
  quoted = divide (units_at a b) (sizes b.entries (entry_at b a) level g)

  group-takes : units_at a (give_group divide a level g b).state ≤ units_at a b - min (units_at a b) (total b a level g)
  unfolding give_group give
  group-takes = omega (arith, gives a level quoted b 32, d.sum (units_at a b) (sizes b.entries (entry_at b a) level g))

  group-none : total b a level g ≡ 0 → (give_group divide a level g b).state ≡ b
  unfolding give_group give
  group-none e = gives_none a level quoted b 32 (omega (arith, d.sum (units_at a b) (sizes b.entries (entry_at b a) level g)))

-- the holder's group holds some
group-of : (f : Entry) → (group_of f ≡ 0) ⊎ ((group_of f ≡ 1) ⊎ (group_of f ≡ 2))
unfolding group_of
group-of f =
    let P : ℕ → Type 0 = λ (g : ℕ). (g ≡ 0) ⊎ ((g ≡ 1) ⊎ (g ≡ 2)) in
    pick_all P _ (inr (inl refl)) (pick_all P _ (inr (inl refl)) (pick_all P _ (inl refl) (inr (inr refl))))

module _ (a x : ℕ) (b : State) (some : 0 < units_at a b) (h : Holder b.entries (entry_at b a) x 32) where
  holder : Entry
  holder = entry_at b h.at

  holds : (g : ℕ) → within g holder ≡ true → 0 < total b a x g
  unfolding sizes holding opposes holder
  holds g w =
      let f : ℕ → ℕ = size_at b.entries (entry_at b a) x g in
      let u : 0 < holder.units = positive _ (pick_no (eqb holder.units 0) h.opposed).0 in
      let e : slot (sizes b.entries (entry_at b a) x g) h.at ≡ holder.units =
      table-slot f 0 32 h.at h.slot ∙ pick_true _ _ _ h.opposed ∙ pick_true _ _ _ (eq-eqb _ _ h.level) ∙ pick_true _ _ _ w in
      omega (arith, sum_one (slot (sizes b.entries (entry_at b a) x g)) 32 h.at h.slot)

  -- it falls where its group has its turn, and where another's gave nothing
  abbrev Falls : State → Type 0
  Falls c = units_at a c < units_at a b

  abbrev Stays : State → Type 0
  Stays c = Falls c ⊎ (c ≡ b)

  group-stays : {divide : Division} → GivesOut divide → (g : ℕ) → Stays (give_group divide a x g b).state
  group-stays d g = ⊎_elim (λ (l : 0 < total b a x g). inl (omega (arith, group-takes d a x g b))) (λ (l : total b a x g ≤ 0). inr (group-none d a x g b (omega arith))) (lt-or-le 0 (total b a x g))

  group-next : {divide : Division} → GivesOut divide → (g : ℕ) (c : State) → Stays c → Stays (give_group divide a x g c).state
  group-next d g c s = ⊎_elim (λ l. inl (omega (arith, group-takes d a x g c))) (λ e. rw e (group-stays d g)) s

  group-falls : {divide : Division} → GivesOut divide → (g : ℕ) → within g holder ≡ true → Falls (give_group divide a x g b).state
  group-falls d g w = omega (arith, group-takes d a x g b, holds g w)

  group-on : {divide : Division} → GivesOut divide → (g : ℕ) (c : State) → Stays c → within g holder ≡ true → Falls (give_group divide a x g c).state
  group-on d g c s w = ⊎_elim (λ l. omega (arith, group-takes d a x g c)) (λ e. rw e (group-falls d g w)) s

  numbered-falls : Falls (give_group in_turn a x 3 b).state
  unfolding within
  numbered-falls = group-falls in_turn-divides 3 (pick_true _ _ _ refl)

  module _ {divide : Division} (d : GivesOut divide) where
    abbrev one : State
    one = (give_group in_turn a x 0 b).state

    abbrev two : State
    two = (give_group divide a x 1 one).state

    first : group_of holder ≡ 0 → Falls (give_group share a x 2 two).state
    unfolding within
    first e = omega (arith, group-falls in_turn-divides 0 (pick-false _ _ _ refl ∙ eq-eqb _ _ e), group-takes d a x 1 one, group-takes share-divides a x 2 two)

    second : group_of holder ≡ 1 → Falls (give_group share a x 2 two).state
    unfolding within
    second e = omega (arith, group-on d 1 one (group-stays in_turn-divides 0) (pick-false _ _ _ refl ∙ eq-eqb _ _ e), group-takes share-divides a x 2 two)

    third : group_of holder ≡ 2 → Falls (give_group share a x 2 two).state
    unfolding within
    third e = group-on share-divides 2 two (group-next d 1 one (group-stays in_turn-divides 0)) (pick-false _ _ _ refl ∙ eq-eqb _ _ e)

    shared-falls : Falls (give_shared divide a x b).state
    unfolding give_shared and_then
    shared-falls = ⊎_elim first (⊎_elim second third) (group-of holder)

-- A TURN at the opposite limit, and one by the legs
limit-falls : (way : Allocation) (a : ℕ) (b : State) → 0 < units_at a b → (opposite way a b ≡ 0 → ⊥) → units_at a (meet_limit way a (opposite way a b) b).state < units_at a b
unfolding opposite meet_limit give_for_starter
limit-falls LegsOnly a b some x = absurd (x refl)
limit-falls Shared a b some x = shared-falls a _ b some (opposite-holder b.entries (entry_at b a) x) share-divides
limit-falls ForStarter a b some x = shared-falls a _ b some (opposite-holder b.entries (entry_at b a) x) (specialist-divides a _ b)
limit-falls Numbered a b some x = numbered-falls a _ b some (opposite-holder b.entries (entry_at b a) x)

is-ready : (legs : Bool) (a : ℕ) (b : State) → (ready_net legs a b ≡ 0 → ⊥) → ready a b ≡ true
unfolding ready_net
is-ready legs a b =
    let P : ℕ → Type 0 = λ (n : ℕ). (n ≡ 0 → ⊥) → ready a b ≡ true in
    pick_all P legs (pick-by P (ready a b) (λ e _. e) (λ _ n. absurd (n refl))) (λ n. absurd (n refl))

legs-fall : (a : ℕ) (b : State) → 0 < units_at a b → ready a b ≡ true → units_at a (leg_fill a b).state < units_at a b
unfolding leg_fill take_legs with_orders ready
legs-fall a b some e =
    let s : Strategy = strategy_of b (entry_at b a) in
    let side : ℕ = (entry_at b a).side in
    let ps : List ℕ = prices b.orders side s.legs in
    let one : 0 < units_of b.orders side s ps 1 = positive _ (not-true _ e) in
    omega (arith, cut-takes b a (units_of b.orders side s ps (units_at a b)), units-some b.orders side s ps (units_at a b) some one)

-- A TURN THAT DOES NOT STOP FILLS AT LEAST ONE UNIT
pub turn-fills : (way : Allocation) (legs : Bool) (a i : ℕ) (b : State) → (turn_of way legs a b ≡ Stop → ⊥) → (entry_at (turn way legs a i b).state a).units < (entry_at b a).units
unfolding turn_of turn_at legs_first take_turn allowed
turn-fills way legs a i b =
    let e : Entry = entry_at b a in
    let Q : Turn → Type 0 = λ (t : Turn). (t ≡ Stop → ⊥) → units_at a (take_turn way a t b).state < units_at a b in
    let P : Turn → Type 0 = λ (t : Turn). Q (allowed (bounds_at b e.strategy) e.side (ready_net legs a b) t) in
    let stop : Q Stop = λ go. absurd (go refl) in
    pick-by P _ (λ _. stop) (λ u.
    pick-by P _
    (λ f. pick_all P _ (pick_all Q _ (λ _. legs-fall a b (positive (units_at a b) u) (is-ready legs a b (eqb-false _ _ (pick_no (eqb (ready_net legs a b) 0) f).0))) stop) stop)
    (λ _. pick-by P _ (λ _. stop) (λ x. pick_all P _ (pick_all Q _ (λ _. limit-falls way a b (positive (units_at a b) u) (eqb-false _ _ x)) stop) stop)))

-- A PASS ENDS ONLY WHERE A TURN STOPS
stopped : Turn → Bool
stopped Stop = true
stopped ByLegs = false
stopped (AtLimit x) = false

is_stop : (t : Turn) → stopped t ≡ true → t ≡ Stop
unfolding stopped
is_stop Stop e = refl
is_stop ByLegs e = absurd (clash e refl)
is_stop (AtLimit x) e = absurd (clash e refl)

no_stop : (t : Turn) → stopped t ≡ false → t ≡ Stop → ⊥
unfolding stopped
no_stop t e s = clash (ap stopped s) e

pub pass-ends : (way : Allocation) (legs : Bool) (a : ℕ) (b : State) → turn_of way legs a (pass way legs a b).state ≡ Stop
unfolding pass take_turn
pass-ends way legs a b =
    is_stop _ (each-ends (turn way legs a) (λ (c : State). stopped (turn_of way legs a c)) (units_at a)
    (λ i c e. ap (λ (t : Turn). take_turn way a t c) (is_stop _ e)) (λ i c e. turn-fills way legs a i c (no_stop _ e)) (units_at a b) b (omega arith))

-- "Stop when neither meets its limit": neither the best opposite limit nor the ready leg net, where there are such
pub record Neither (e : Entry) (x net : ℕ) : Type 0 where
  pub limit : (x ≡ 0) ⊎ (meets e.side e.level x ≡ false)
  pub legs : (net ≡ 0) ⊎ (meets e.side e.level net ≡ false)

pub no-better-fails : (side limit x y : ℕ) → better side x y ≡ false → meets side limit y ≡ false → meets side limit x ≡ false
unfolding better meets pick
no-better-fails side limit x y = by (eqb side 0)
  where
    by : (t : Bool) → pick t (ltb x y) (ltb y x) ≡ false → pick t (leb y limit) (leb limit y) ≡ false → pick t (leb x limit) (leb limit x) ≡ false
    by true e f = lt-leb x limit (omega (arith, ltb-false x y e, leb-false y limit f))
    by false e f = lt-leb limit x (omega (arith, ltb-false y x e, leb-false limit y f))

worse-fails : (side limit x y : ℕ) → better side x y ≡ true → meets side limit x ≡ false → meets side limit y ≡ false
worse-fails side limit x y e = no-better-fails side limit y x (better-turn side x y e)

module _ (e : Entry) (x net : ℕ) where
  -- what the choice of the legs says of the price that was not chosen
  chosen-legs : legs_first e.side net x ≡ true → meets e.side e.level net ≡ false → Neither e x net
  unfolding legs_first
  chosen-legs f m = record { legs = inr m; limit = by (eqb x 0) refl (pick_no (eqb net 0) f).1 }
    where
      by : (t : Bool) → eqb x 0 ≡ t → pick t true (better e.side net x) ≡ true → (x ≡ 0) ⊎ (meets e.side e.level x ≡ false)
      by true z g = inl (eqb-true x 0 z)
      by false z g = inr (worse-fails e.side e.level net x (sym (pick-false false true (better e.side net x) refl) ∙ g) m)

  chosen-limit : legs_first e.side net x ≡ false → (eqb x 0 ≡ false → meets e.side e.level x ≡ false) → Neither e x net
  unfolding legs_first pick
  chosen-limit f m = by (eqb net 0) (eqb x 0) refl refl f
    where
      by : (s t : Bool) → eqb net 0 ≡ s → eqb x 0 ≡ t → pick s false (pick t true (better e.side net x)) ≡ false → Neither e x net
      by true true n z g = record { limit = inl (eqb-true x 0 z); legs = inl (eqb-true net 0 n) }
      by true false n z g = record { limit = inr (m z); legs = inl (eqb-true net 0 n) }
      by false true n z g = absurd (clash refl g)
      by false false n z g = record { limit = inr (m z); legs = inr (no-better-fails e.side e.level net x g (m z)) }

  -- a turn stops exactly where no units are left, or neither price meets the limit
  pub stop-why : turn_at e x net ≡ Stop → (e.units ≡ 0) ⊎ Neither e x net
  unfolding turn_at
  stop-why =
      let P : Turn → Type 0 = λ (t : Turn). t ≡ Stop → (e.units ≡ 0) ⊎ Neither e x net in
      pick-by P _ (λ u _. inl (eqb-true _ _ u)) (λ _.
      pick-by P _
      (λ f. pick-by P _ (λ _ s. absurd (legs-go s)) (λ m _. inr (chosen-legs f m)))
      (λ f. pick-by P _ (λ z _. inr (chosen-limit f (λ n. absurd (clash z n)))) (λ _. pick-by P _ (λ _ s. absurd (limit-goes s)) (λ m _. inr (chosen-limit f (λ _. m))))))
    where
      legs-go : ByLegs ≡ Stop → ⊥
      legs-go s = let z : ◌≡◌ {A = ℕ} 0 1 = cc in omega arith

      limit-goes : AtLimit x ≡ Stop → ⊥
      limit-goes s = let z : ◌≡◌ {A = ℕ} 0 1 = cc in omega arith

  pub stop-when : (e.units ≡ 0) ⊎ Neither e x net → turn_at e x net ≡ Stop
  unfolding turn_at legs_first
  stop-when w =
      let P : Turn → Type 0 = λ (t : Turn). t ≡ Stop in
      pick-by P _ (λ _. refl) (λ u.
      pick-by P _
      (λ f. pick-by P _ (λ m. absurd (meets-no (neither u).legs (pick_no (eqb net 0) f).0 m)) (λ _. refl))
      (λ _. pick-by P _ (λ _. refl) (λ z. pick-by P _ (λ m. absurd (meets-no (neither u).limit z m)) (λ _. refl))))
    where
      neither : eqb e.units 0 ≡ false → Neither e x net
      neither u = ⊎_elim (λ z. absurd (eqb-false _ _ u z)) (λ n. n) w

      meets-no : {p : ℕ} → (p ≡ 0) ⊎ (meets e.side e.level p ≡ false) → eqb p 0 ≡ false → meets e.side e.level p ≡ true → ⊥
      meets-no {p} o z m = ⊎_elim (λ q. eqb-false p 0 z q) (λ f. clash m f) o

-- where a turn within the range stops, so did the choice, or the range stopped it
pub stop-barred : (w : Bounds) (side net : ℕ) (t : Turn) → allowed w side net t ≡ Stop → (t ≡ Stop) ⊎ BarredTurn w side net t
unfolding allowed
stop-barred w side net Stop = λ e. inl refl
stop-barred w side net ByLegs =
    pick-by (λ (u : Turn). u ≡ Stop → (ByLegs ≡ Stop) ⊎ BarredTurn w side net ByLegs) _ (λ _ e. inl e) (λ f _. inr (at-legs refl f))
stop-barred w side net (AtLimit x) =
    pick-by (λ (u : Turn). u ≡ Stop → (AtLimit x ≡ Stop) ⊎ BarredTurn w side net (AtLimit x)) _ (λ _ e. inl e) (λ f _. inr (at-limit x refl f))

-- WHY A PASS ENDS: "while units of it remain", "neither meets its limit", or the fill that it came to is barred
abbrev pub Ended : Allocation → Bool → ℕ → State → Type 0
Ended way legs a c = ((entry_at c a).units ≡ 0) ⊎ (Neither (entry_at c a) (opposite way a c) (ready_net legs a c) ⊎ Barred c a (opposite way a c) legs)

pub pass-why : (way : Allocation) (legs : Bool) (a : ℕ) (b : State) → Ended way legs a (pass way legs a b).state
unfolding turn_of
pass-why way legs a b = ⊎_elim (λ s. ⊎_elim (λ z. inl z) (λ n. inr (inl n)) (stop-why _ _ _ s)) (λ s. inr (inr s)) (stop-barred _ _ _ _ (pass-ends way legs a b))
