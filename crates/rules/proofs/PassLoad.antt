-- A pass writes what it finishes pays for, 13 besides, and where it is shared 14 for each live entry of its strategy.
use mathlib.Core.Path.{◌≡◌, refl, ◌∙◌, ap}
use mathlib.Core.Bool.{Bool}
use mathlib.Core.Logic.{◌⊎◌, inl, inr, ⊎_elim}
use mathlib.Core.List.{List}
use Prim.Native.Nat.{ℕ, zero, suc, ◌+◌, ◌-◌, ◌*◌, ◌≤◌, ◌<◌, min}
use native.Mathlib.Omega.{arith}
use borrow.Author.Tests.{eq-eqb, ne_eqb}
use lib.Dec.{eqb}
use lib.ListN.{length, length-append}
use Rattle.base.specs.Pick.{pick, pick_all, pick-both, pick_true, pick-false}
use Rattle.base.specs.Walks.{sum_n, slot, table-slot, lt-or-le, sum-zero, sum_mono}
use Rattle.rules.specs.declared.Strategy.{Strategy}
use Rattle.rules.specs.declared.Entry.{Entry}
use Rattle.rules.specs.declared.LegOrder.{LegOrder}
use Rattle.rules.specs.declared.State.{State}
use Rattle.rules.specs.declared.Allocation.{Allocation}
use Rattle.rules.specs.declared.Allocation.TheVariants.{LegsOnly, Shared, ForStarter, Numbered}
use Rattle.rules.specs.declared.Turn.{Turn}
use Rattle.rules.specs.declared.Turn.TheVariants.{Stop, ByLegs, AtLimit}
use Rattle.rules.specs.State.{entry_at, strategy_of}
use Rattle.rules.specs.Moves.{Moved, still, and_then, each}
use Rattle.rules.specs.Nets.{prices, units_of}
use Rattle.rules.specs.Quotas.{Division, GivesOut, in_turn_at, in_turn}
use Rattle.rules.specs.Fills.{leg_fill}
use Rattle.rules.specs.Passes.{holding, sizes, give_at, give, give_group, give_shared, give_for_starter, meet_limit, turn_of, take_turn, turn, pass}
use Rattle.rules.proofs.Shrinks.{SameEntry, SameStrategy, Shrinks, shrinks-refl, shrinks-trans, legs-shrinks}
use Rattle.rules.proofs.Quotas.{sum-table, divides-all, in_turn-divides, share-divides}
use Rattle.rules.proofs.Gives.{specialist-divides, Lawful, lawful-shrinks, whole-none, opposed, Quoted, quoted-holder, group-quoted, sizes-at, Given, given-each}
use Rattle.rules.proofs.Control.{given-proper, group-given, group-left, Legged, Fits, turn-fits}
use Rattle.rules.proofs.Turns.{units-most}
use Rattle.rules.proofs.Load.{load, Pays, Six, six-shrinks, pays-nothing, pays-more, pays-both, whole-most, whole-ends}
use Rattle.rules.proofs.LegLoad.{ready_for, Spends, legs-spends}

-- the live entries of a strategy
abbrev pub held : ℕ → Entry → ℕ
held k e = pick (eqb e.strategy k) (min e.units 1) 0

abbrev pub held_at : State → ℕ → ℕ → ℕ
held_at b k i = held k (entry_at b i)

pub held-less : (k : ℕ) (e f : Entry) → SameEntry e f → held k f ≤ held k e
held-less k e f h =
    let u = h.units in
    rw h.strategy (pick-both (λ (x y : ℕ). x ≤ y) (eqb e.strategy k) (omega arith) (omega arith))

pub held-shrinks : (k : ℕ) {b c : State} → Shrinks b c → sum_n (held_at c k) 32 ≤ sum_n (held_at b k) 32
held-shrinks k {b} {c} h = sum_mono (held_at c k) (held_at b k) 32 (λ i l. held-less k (entry_at b i) (entry_at c i) (h.entry i))

pub held_one : (k : ℕ) (e : Entry) → 0 < e.units → e.strategy ≡ k → 1 ≤ held k e
held_one k e some s = rw (pick_true (eqb e.strategy k) (min e.units 1) 0 (eq-eqb e.strategy k s)) (omega arith)

-- FILLS AT ONE LIMIT by quotas
module _ (b : State) (six : Six b) (a level g : ℕ) (qs : List ℕ) (h : Quoted b a level g qs) where
  give-pays : (fee : ℕ → ℕ) → ((k : ℕ) → k < 32 → (c : State) → Given b a qs k c → Pays (fee k) c (give_at a level qs k c)) → (n : ℕ) → n ≤ 32 → Pays (sum_n fee n) b (each (give_at a level qs) n b)
  unfolding sum_n each
  give-pays fee f zero l = pays-nothing 0 b
  give-pays fee f (suc n) l = pays-both (give_at a level qs n) (give-pays fee f n (omega arith)) (f n (omega arith) _ (given-each b a level g qs h n (omega arith)))

  -- 14 for each quota at most
  give_at-most : (k : ℕ) → k < 32 → (c : State) → Given b a qs k c → Pays (14 * min (slot qs k) 1) c (give_at a level qs k c)
  give_at-most k l c v =
      ⊎_elim
      (λ (some : 0 < slot qs k). pays-more (omega arith) (whole-most c (six-shrinks v.shrinks six) a k level (slot qs k) (given-proper b a level g qs h k l some c v)))
      (λ (none : slot qs k ≤ 0). rw (whole-none c a k level (slot qs k) (omega arith)) (pays-nothing _ c))
      (lt-or-le 0 (slot qs k))

  pub give-most : Pays (sum_n (λ (k : ℕ). 14 * min (slot qs k) 1) 32) b (give a level qs b)
  unfolding give
  give-most = give-pays (λ (k : ℕ). 14 * min (slot qs k) 1) give_at-most 32 (omega arith)

  -- nothing where each quota takes all of its holder, or all that is left of the active entry
  give_at-ends : (k : ℕ) → k < 32 → (0 < slot qs k → ((entry_at b k).units ≤ slot qs k) ⊎ ((entry_at b a).units ≤ sum_n (slot qs) k + slot qs k)) → (c : State) → Given b a qs k c → Pays 0 c (give_at a level qs k c)
  give_at-ends k l ends c v =
      ⊎_elim
      (λ (some : 0 < slot qs k).
      let p = given-proper b a level g qs h k l some c v in
      let left : (entry_at c a).units ≡ (entry_at b a).units - sum_n (slot qs) k = ap (λ (x : Entry). x.units) v.active in
      let its : (entry_at c k).units ≤ (entry_at b k).units = (v.shrinks.entry k).units in
      whole-ends c (six-shrinks v.shrinks six) a k level (slot qs k) p (⊎_elim (λ e. omega arith) (λ e. omega arith) (ends some)))
      (λ (none : slot qs k ≤ 0). rw (whole-none c a k level (slot qs k) (omega arith)) (pays-nothing 0 c))
      (lt-or-le 0 (slot qs k))

  pub give-ends : ((k : ℕ) → k < 32 → 0 < slot qs k → ((entry_at b k).units ≤ slot qs k) ⊎ ((entry_at b a).units ≤ sum_n (slot qs) k + slot qs k)) → Pays 0 b (give a level qs b)
  unfolding give
  give-ends ends =
      pays-more (omega (arith, sum-zero (λ (k : ℕ). 0) 32 (λ i l. refl)))
      (give-pays (λ (k : ℕ). 0) (λ k l c v. give_at-ends k l (ends k l) c v) 32 (omega arith))

-- a holder holds all its units
holding-all : (e : Entry) (level g : ℕ) (f : Entry) → 0 < holding e level g f → f.units ≤ holding e level g f
unfolding holding
holding-all e level g f =
    let P : ℕ → Type 0 = λ (x : ℕ). 0 < x → f.units ≤ x in
    pick_all P _ (pick_all P _ (pick_all P _ (λ h. omega arith) (λ h. absurd (omega arith))) (λ h. absurd (omega arith))) (λ h. absurd (omega arith))

-- BY NUMBER
in_turn-before : (r : ℕ) (xs : List ℕ) (k : ℕ) → sum_n (in_turn_at r xs) k ≡ min r (sum_n (slot xs) k)
unfolding sum_n in_turn_at
in_turn-before r xs zero = omega arith
in_turn-before r xs (suc k) = let h = in_turn-before r xs k in omega arith

in_turn-ends : (r : ℕ) (xs : List ℕ) (k : ℕ) → k < 32 → 0 < slot (in_turn r xs) k → (slot xs k ≤ slot (in_turn r xs) k) ⊎ (r ≤ sum_n (slot (in_turn r xs)) k + slot (in_turn r xs) k)
unfolding in_turn in_turn_at
in_turn-ends r xs k l =
    rw (table-slot (in_turn_at r xs) 0 32 k l, sum-table (in_turn_at r xs) 32 k (omega arith) ∙ in_turn-before r xs k)
    (λ some. ⊎_elim (λ (m : r - sum_n (slot xs) k < slot xs k). inr (omega arith)) (λ (m : slot xs k ≤ r - sum_n (slot xs) k). inl (omega arith)) (lt-or-le (r - sum_n (slot xs) k) (slot xs k)))

pub in_turn-pays : (a level g : ℕ) (b : State) → Six b → Lawful b a level → Pays 0 b (give_group in_turn a level g b)
unfolding give_group
in_turn-pays a level g b six m =
    let r : ℕ = (entry_at b a).units in
    let xs : List ℕ = sizes b.entries (entry_at b a) level g in
    let h = group-quoted in_turn-divides b a level g m in
    give-ends b six a level g (in_turn r xs) h
    (λ k l some. ⊎_elim
    (λ (e : slot xs k ≤ slot (in_turn r xs) k).
    let full : slot xs k ≡ holding (entry_at b a) level g (entry_at b k) = sizes-at b.entries (entry_at b a) level g k l in
    inl (omega (arith, holding-all (entry_at b a) level g (entry_at b k) (omega (arith, h.within k l)))))
    (λ e. inr e)
    (in_turn-ends r xs k l some))

-- SHARED
-- what a pass of each way needs besides: where it is shared, 14 for each live entry of the strategy
abbrev pub EnoughShared : ℕ → ℕ → State → Type 0
EnoughShared a M b = 14 * sum_n (held_at b (entry_at b a).strategy) 32 ≤ M

abbrev pub Enough : Allocation → ℕ → ℕ → State → Type 0
Enough LegsOnly a M b = Unit {0}
Enough Shared a M b = EnoughShared a M b
Enough ForStarter a M b = EnoughShared a M b
Enough Numbered a M b = Unit {0}

shared-shrinks : (a M : ℕ) {b c : State} → Shrinks b c → EnoughShared a M b → EnoughShared a M c
shared-shrinks a M {b} {c} h e = rw (h.entry a).strategy (omega (arith, held-shrinks (entry_at b a).strategy h))

enough-shrinks : (way : Allocation) (a M : ℕ) {b c : State} → Shrinks b c → Enough way a M b → Enough way a M c
enough-shrinks LegsOnly a M h e = tt
enough-shrinks Numbered a M h e = tt
enough-shrinks Shared a M h e = shared-shrinks a M h e
enough-shrinks ForStarter a M h e = shared-shrinks a M h e

-- the quotas are for live entries of the strategy, and no more than the units
quota-held : (b : State) (a level g : ℕ) (qs : List ℕ) → Quoted b a level g qs → (k : ℕ) → k < 32 → 14 * min (slot qs k) 1 ≤ 14 * held_at b (entry_at b a).strategy k
quota-held b a level g qs h k l =
    ⊎_elim
    (λ (some : 0 < slot qs k).
    let o = opposed (entry_at b a) (entry_at b k) (quoted-holder b a level g qs h k l some).opposed in
    let one = held_one (entry_at b a).strategy (entry_at b k) o.live o.strategy in
    least (slot qs k) _ one)
    (λ (none : slot qs k ≤ 0). omega arith)
    (lt-or-le 0 (slot qs k))
  where
    least : (q x : ℕ) → 1 ≤ x → 14 * min q 1 ≤ 14 * x
    least q x h = omega arith

-- a multiple of a sum
pub sum-times : (c : ℕ) (f : ℕ → ℕ) (k : ℕ) → sum_n (λ (i : ℕ). c * f i) k ≡ c * sum_n f k
unfolding sum_n
sum-times c f zero = omega arith
sum-times c f (suc k) = omega (arith, sum-times c f k)

-- Within a pass: what is live, 13 where the legs are ready, and M while the active entry is live.
abbrev going : ℕ → ℕ → State → ℕ
going a M b = pick (eqb (entry_at b a).units 0) 0 M

pub record Turned (side : ℕ) (s : Strategy) (a M : ℕ) (b : State) (m : Moved) : Type 0 where
  pub shrinks : Shrinks b m.state
  pub spent : length m.records + load m.state + 13 * ready_for m.state.orders side s + going a M m.state ≤ load b + 13 * ready_for b.orders side s + going a M b

going-none : (u M : ℕ) → u ≡ 0 → pick (eqb u 0) 0 M ≡ 0
going-none u M z = pick_true _ _ _ (eq-eqb u 0 z)

going-some : (u M : ℕ) → 0 < u → pick (eqb u 0) 0 M ≡ M
going-some u M s = pick-false _ _ _ (ne_eqb u 0 (λ z. omega arith))

going-most : (u M : ℕ) → pick (eqb u 0) 0 M ≤ M
going-most u M = pick_all (λ (x : ℕ). x ≤ M) _ (omega arith) (omega arith)

going_less : (u v M : ℕ) → v ≤ u → pick (eqb v 0) 0 M ≤ pick (eqb u 0) 0 M
going_less u v M l =
    ⊎_elim
    (λ (s : 0 < v). omega (arith, going-most v M, going-some u M (omega arith)))
    (λ (z : v ≤ 0). omega (arith, going-none v M (omega arith)))
    (lt-or-le 0 v)

module _ (side : ℕ) (s : Strategy) (a M : ℕ) where
  turned-nothing : (b : State) → Turned side s a M b (still b)
  turned-nothing b = record { shrinks = shrinks-refl b; spent = omega arith }

  turned_then : {b : State} {m : Moved} {f : State → Moved} → Turned side s a M b m → ((c : State) → Shrinks b c → Turned side s a M c (f c)) → Turned side s a M b (and_then m f)
  unfolding and_then
  turned_then {b} {m} {f} h k =
      let r : Turned side s a M m.state (f m.state) = k m.state h.shrinks in
      record { shrinks = shrinks-trans h.shrinks r.shrinks; spent = simp length-append (omega arith) }

  -- what finishes enough, and leaves the leg orders
  turned-pays : {b : State} {m : Moved} → Pays 0 b m → m.state.orders ≡ b.orders → Turned side s a M b m
  turned-pays {b} {m} p o = record {
    shrinks = p.shrinks;
    spent = omega (arith, ap (λ (os : List LegOrder). ready_for os side s) o, going_less (entry_at b a).units (entry_at m.state a).units M (p.shrinks.entry a).units);
  }

  -- what ends the active entry may cost M
  turned-ends : {b : State} {m : Moved} (c : ℕ) → Pays c b m → m.state.orders ≡ b.orders → (entry_at m.state a).units ≡ 0 → c ≤ going a M b → Turned side s a M b m
  turned-ends {b} {m} c p o z l = record {
    shrinks = p.shrinks;
    spent = omega (arith, ap (λ (os : List LegOrder). ready_for os side s) o, going-none (entry_at m.state a).units M z);
  }

  in_turn-turned : (level g : ℕ) (b : State) → Six b → Lawful b a level → Turned side s a M b (give_group in_turn a level g b)
  in_turn-turned level g b six m = turned-pays (in_turn-pays a level g b six m) (group-given in_turn-divides a level g b m).orders

  -- a group that holds more than remains: what remains is given out, so the active entry ends
  less-turned : {divide : Division} → GivesOut divide → (level g : ℕ) (b : State) → Six b → (m : Lawful b a level) → EnoughShared a M b
      → (entry_at b a).units < sum_n (slot (sizes b.entries (entry_at b a) level g)) 32 → Turned side s a M b (give_group divide a level g b)
  unfolding give_group
  less-turned {divide} d level g b six m enough less =
      turned-ends (sum_n fee 32) (give-most b six a level g qs quoted)
      (unfold give_group in (group-given d a level g b m).orders)
      (unfold give_group in omega (arith, group-left d a level g b m))
      (⊎_elim
      (λ (live : 0 < r). omega (arith, enough, going-some r M live, sum-times 14 (held_at b (entry_at b a).strategy) 32, sum_mono fee (λ (i : ℕ). 14 * held_at b (entry_at b a).strategy i) 32 (quota-held b a level g qs quoted)))
      (λ (none : r ≤ 0). omega (arith, quoted.sum, sum-times 14 (slot qs) 32, sum_mono fee (λ (i : ℕ). 14 * slot qs i) 32 (λ i l. omega arith)))
      (lt-or-le 0 r))
    where
      r : ℕ
      r = (entry_at b a).units

      qs : List ℕ
      qs = divide (entry_at b a).units (sizes b.entries (entry_at b a) level g)

      quoted : Quoted b a level g qs
      quoted = group-quoted d b a level g m

      fee : ℕ → ℕ
      fee k = 14 * min (slot qs k) 1

  -- one that does not: each of its holders ends
  all-turned : {divide : Division} → GivesOut divide → (level g : ℕ) (b : State) → Six b → (m : Lawful b a level)
      → sum_n (slot (sizes b.entries (entry_at b a) level g)) 32 ≤ (entry_at b a).units → Turned side s a M b (give_group divide a level g b)
  unfolding give_group
  all-turned d level g b six m all =
      turned-pays
      (give-ends b six a level g _ (group-quoted d b a level g m)
      (λ k l. rw (divides-all d (entry_at b a).units (sizes b.entries (entry_at b a) level g) all k l, sizes-at b.entries (entry_at b a) level g k l)
      (λ some. inl (holding-all (entry_at b a) level g (entry_at b k) some))))
      (unfold give_group in (group-given d a level g b m).orders)

  group-turned : {divide : Division} → GivesOut divide → (level g : ℕ) (b : State) → Six b → Lawful b a level → EnoughShared a M b → Turned side s a M b (give_group divide a level g b)
  group-turned d level g b six m enough =
      ⊎_elim (λ less. less-turned d level g b six m enough less) (λ all. all-turned d level g b six m all)
      (lt-or-le (entry_at b a).units (sum_n (slot (sizes b.entries (entry_at b a) level g)) 32))

  shared-turned : {second : Division} → GivesOut second → (level : ℕ) (b : State) → Six b → Lawful b a level → EnoughShared a M b → Turned side s a M b (give_shared second a level b)
  unfolding give_shared
  shared-turned d level b six m e =
      turned_then (in_turn-turned level 0 b six m)
      (λ x h. turned_then (group-turned d level 1 x (six-shrinks h six) (lawful-shrinks h m) (shared-shrinks a M h e))
      (λ y k. let h₂ : Shrinks b y = shrinks-trans h k in group-turned share-divides level 2 y (six-shrinks h₂ six) (lawful-shrinks h₂ m) (shared-shrinks a M h₂ e)))

  limit-turned : (way : Allocation) (level : ℕ) (b : State) → Six b → Lawful b a level → Enough way a M b → Turned side s a M b (meet_limit way a level b)
  unfolding meet_limit give_for_starter
  limit-turned LegsOnly level b six m e = turned-nothing b
  limit-turned Shared level b six m e = shared-turned share-divides level b six m e
  limit-turned ForStarter level b six m e = shared-turned (specialist-divides a level b) level b six m e
  limit-turned Numbered level b six m e = in_turn-turned level 3 b six m

-- PASSES
-- a strategy's legs are as ready whatever its auction
ready-same : (os : List LegOrder) (side : ℕ) (s t : Strategy) → SameStrategy s t → ready_for os side t ≡ ready_for os side s
unfolding units_of
ready-same os side s t h = rw (h.legs, h.count)

-- a pass of slot a from state b₀
module _ (b₀ : State) (six : Six b₀) (way : Allocation) (a M : ℕ) (enough : Enough way a M b₀) where
  abbrev sd : ℕ
  sd = (entry_at b₀ a).side

  abbrev st : Strategy
  st = strategy_of b₀ (entry_at b₀ a)

  legs-turned : (b : State) → Shrinks b₀ b → Legged b a → Turned sd st a M b (leg_fill a b)
  legs-turned b h l =
      let n : Six b = six-shrinks h six in
      let k : Shrinks b (leg_fill a b).state = legs-shrinks b n.orders a in
      let same : SameStrategy st (strategy_of b (entry_at b a)) = rw (h.entry a).strategy (h.strategy (entry_at b₀ a).strategy) in
      let p : Spends sd (strategy_of b (entry_at b a)) b (leg_fill a b) = rw (h.entry a).side at (legs-spends b n a l) in
      record {
        shrinks = k;
        spent = omega (
          arith,
          p.spent,
          ready-same b.orders sd st (strategy_of b (entry_at b a)) same,
          ready-same (leg_fill a b).state.orders sd st (strategy_of b (entry_at b a)) same,
          going_less (entry_at b a).units (entry_at (leg_fill a b).state a).units M (k.entry a).units,
        );
      }

  take-turned : (t : Turn) (b : State) → Shrinks b₀ b → Fits b a t → Turned sd st a M b (take_turn way a t b)
  unfolding take_turn
  take-turned Stop b h f = turned-nothing sd st a M b
  take-turned ByLegs b h f = legs-turned b h f
  take-turned (AtLimit level) b h f = limit-turned sd st a M way level b (six-shrinks h six) f.lawful (enough-shrinks way a M h enough)

  turns-turned : (legs : Bool) (n : ℕ) → Turned sd st a M b₀ (each (turn way legs a) n b₀)
  unfolding each
  turns-turned legs zero = turned-nothing sd st a M b₀
  turns-turned legs (suc n) = turned_then sd st a M (turns-turned legs n) (λ c h. take-turned (turn_of way legs a c) c h (turn-fits way legs a c))

  pub pass-pays : (legs : Bool) → Pays (13 + M) b₀ (pass way legs a b₀)
  unfolding pass
  pass-pays legs =
      let t = turns-turned legs (entry_at b₀ a).units in
      record { shrinks = t.shrinks; paid = omega (arith, t.spent, units-most b₀.orders sd st (prices b₀.orders sd st.legs) 1, going-most (entry_at b₀ a).units M) }

-- a pass of what is not live is none
pub pass-none : (way : Allocation) (legs : Bool) (a : ℕ) (b : State) → (entry_at b a).units ≡ 0 → pass way legs a b ≡ still b
unfolding pass each
pass-none way legs a b z = rw z
