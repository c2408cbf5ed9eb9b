-- The passes by legs only as one walk over places, 32 to a strategy, and the search for the next place at which one would do something but for its
-- bounds.
use Rattle.std.specs.Prelude.{◌≡◌, Bool, true, false, not, List, leb, get_or}
use Rattle.std.proofs.Math.Path.{refl, sym, ap}
use Rattle.std.proofs.Common.{◌∙◌, append_assoc, zero-add, suc-add, leb-true, le-leb}
use Rattle.std.proofs.Math.Logic.{⊎_elim}
use Prim.Native.Nat.{ℕ, zero, suc, ◌+◌, ◌*◌, ◌-◌, ◌/◌, ◌%◌, ◌≤◌, ◌<◌}
use native.Mathlib.Omega.{arith}
use Rattle.std.proofs.lemmas.Bool.{lt-leb, not-false}
use Rattle.std.proofs.Math.ListN.{length}
use Rattle.base.specs.All.{All}
use Rattle.base.specs.Pick.{pick, both, pick_true, pick-false, pick_all, pick-by, pick_yes}
use Rattle.base.specs.Walks.{first_n, first-le, first_holds, first-before, lt-or-le}
use Rattle.rules.specs.declared.Strategy.{Strategy}
use Rattle.rules.specs.declared.Entry.{Entry}
use Rattle.rules.specs.declared.LegOrder.{LegOrder}
use Rattle.rules.specs.declared.LegNets.{LegNets}
use Rattle.rules.specs.declared.Turn.{Turn}
use Rattle.rules.specs.declared.State.{State}
use Rattle.rules.specs.declared.Allocation.TheVariants.{LegsOnly}
use Rattle.rules.specs.State.{no_strategy, no_entry, no_nets, entry_at, strategy_at}
use Rattle.rules.specs.Nets.{nets_of}
use Rattle.rules.specs.Valid.{FitEntry, FitOrder, Priced}
use Rattle.rules.specs.Moves.{Moved, still, and_then, each}
use Rattle.rules.specs.Passes.{turn_at, pass}
use Rattle.rules.specs.Auctions.{day_order, leg_pass, leg_passes_in, leg_passes}
use Rattle.rules.proofs.Control.{each-kept, pass_kept, leg_pass-kept, leg_passes_in-kept, shrinks-kept}
use Rattle.rules.proofs.Shrinks.{Shrinks, shrinks-refl}
use Rattle.rules.proofs.Only.{Only, only-each, leg_pass-only, live-in}
use Rattle.rules.proofs.Turns.{then-still}
use Rattle.records.specs.Space.{Room}
use Rattle.records.specs.Done.{Done, done-of, room_of, Visited, visit-none, visit-moves, visit-room, visit-all}
use Rattle.ranges.specs.Fit.{Fit, FitLegs, fit-entry, fit-done}
use Rattle.nets.specs.Legs.{net_ready}
use Rattle.stored_nets.specs.Stored.{net_for}
use Rattle.stored_nets.specs.Laws.{net-stored}
use Rattle.nets.specs.Bests.{unless-zero-or}
use Rattle.passes.specs.Passes.{stops_at, ready_level, legs_met, legs-still, legs-turn}
use Rattle.matching.specs.Searches.{Searched, searched-past, searched-here, searched-all}
use Rattle.matching.specs.Matching.{passes_legs, legs-not, legs-yes, in-yes, in-not}
use Rattle.records.specs.declared.Records.{Records}

-- whether strategy t gets passes by legs only, and the pass of its entry e would do something but for its bounds
unfoldable pub acts_in : Entry → Strategy → List LegOrder → ℕ → ℕ → Bool
acts_in e t os opened s = both (passes_legs t s opened) (not (stops_at (turn_at e 0 (net_ready os e.side t))))

-- .. by the nets n of the strategy
unfoldable pub acts_on : Entry → Strategy → LegNets → List LegOrder → ℕ → ℕ → Bool
acts_on e t n os opened s = both (passes_legs t s opened) (not (stops_at (turn_at e 0 (ready_level (legs_met e 0 (net_for n e.side) os t)))))

-- the live ones of these entries are of strategies with legs
pub record LiveLegs (ss : List Strategy) (es : List Entry) : Type 0 where
  pub live : (i : ℕ) → 0 < (get_or es i no_entry).units → 0 < (get_or ss (get_or es i no_entry).strategy no_strategy).count

-- whether place p, which is slot p % 32 of strategy p / 32, holds a day order of that strategy whose pass would do something
-- but for its bounds
unfoldable pub acts : List Strategy → List Entry → List LegOrder → ℕ → ℕ → ℕ → Bool
acts ss es os opened s p =
    let e : Entry = get_or es (p % 32) no_entry in
    both (day_order (p / 32) e) (acts_in e (get_or ss (p / 32) no_strategy) os opened s)

-- .. and comes not before place n
abbrev pub acts_from : List Strategy → List Entry → List LegOrder → ℕ → ℕ → ℕ → ℕ → Bool
acts_from ss es os opened s n p = both (leb n p) (acts ss es os opened s p)

-- the first such place, 512 where there is none
unfoldable pub next_pass : List Strategy → List Entry → List LegOrder → ℕ → ℕ → ℕ → ℕ
next_pass ss es os opened s n = first_n (acts_from ss es os opened s n) 512

-- both of a state
abbrev pub acts_at : State → ℕ → ℕ → Bool
acts_at b s p = acts b.strategies b.entries b.orders b.opened s p

abbrev pub next_at : State → ℕ → ℕ → ℕ
next_at b s n = next_pass b.strategies b.entries b.orders b.opened s n

-- the passes of a series: that at place p
unfoldable pub place_pass : ℕ → ℕ → State → Moved
place_pass s p b = pick (passes_legs (strategy_at b (p / 32)) s b.opened) (leg_pass (p / 32) (p % 32) b) (still b)

-- laws

-- a level that may be missing, as the rules write it
pub ruleset levels = (unless-zero-or)

-- with a second test that fails not both hold
no_second : (t : Bool) {u : Bool} → u ≡ false → both t u ≡ false
no_second t e = pick_all (λ (x : Bool). x ≡ false) t e refl

-- a state that fits gives what the search asks
pub search-asks : {b : State} → Fit b
    → All FitLegs b.strategies × All FitEntry b.entries × All FitOrder b.orders × All Priced b.orders × LiveLegs b.strategies b.entries × (b.nets ≡ nets_of b.orders b.strategies)
search-asks f = (f.strategies, f.entries, f.orders, f.priced, record { live = f.live }, f.nets.are)

-- the stored nets tell what the leg orders do
pub acts-on : (ss : List Strategy) (es : List Entry) (os : List LegOrder) (opened s : ℕ) {ns : List LegNets} (i : ℕ) {r : Bool} → All FitEntry es → LiveLegs ss es → ns ≡ nets_of os ss
    → day_order (get_or es i no_entry).strategy (get_or es i no_entry) ≡ true
    → r ≡ acts_on (get_or es i no_entry) (get_or ss (get_or es i no_entry).strategy no_strategy) (get_or ns (get_or es i no_entry).strategy no_nets) os opened s
    → r ≡ acts_in (get_or es i no_entry) (get_or ss (get_or es i no_entry).strategy no_strategy) os opened s
unfolding acts_on acts_in day_order
acts-on ss es os opened s {ns} i a v n d h =
    let e : Entry = get_or es i no_entry in
    let t : Strategy = get_or ss e.strategy no_strategy in
    let f : FitEntry e = fit-entry a i in
    let l : 0 < e.units = (live-in e.strategy e (pick_yes _ d).0).0 in
    h ∙ ap (λ (x : Turn). both (passes_legs t s opened) (not (stops_at x))) (legs-turn e os t (net-stored ns os ss e.strategy e.side f.strategy f.side (v.live i l) n))

-- a place by its strategy and slot
place-strategy : (k i : ℕ) → i < 32 → (k * 32 + i) / 32 ≡ k
place-strategy k i h = omega arith

place-slot : (k i : ℕ) → i < 32 → (k * 32 + i) % 32 ≡ i
place-slot k i h = omega arith

module _ (ss : List Strategy) (es : List Entry) (os : List LegOrder) (opened s : ℕ) where
  acts-at : (k i : ℕ) → i < 32 → acts ss es os opened s (k * 32 + i) ≡ both (day_order k (get_or es i no_entry)) (acts_in (get_or es i no_entry) (get_or ss k no_strategy) os opened s)
  unfolding acts
  acts-at k i h = rw (place-strategy k i h, place-slot k i h)

  -- one of a slot acts at the place of its own strategy only
  acts-own : (n i p : ℕ) → p % 32 ≡ i → acts_from ss es os opened s n p ≡ true → p ≡ (get_or es i no_entry).strategy * 32 + i
  unfolding acts day_order
  acts-own n i p c t =
      let d = (pick_yes _ (pick_yes _ (pick_yes _ t).1).0).0 in
      let q : (get_or es (p % 32) no_entry).strategy ≡ p / 32 = (live-in (p / 32) (get_or es (p % 32) no_entry) d).1 in
      let g : (get_or es i no_entry).strategy ≡ p / 32 = rw c at q in
      omega arith

-- the search of the next pass, which has looked at the entries of the first i slots
abbrev pub Looked : List Strategy → List Entry → List LegOrder → ℕ → ℕ → ℕ → ℕ → ℕ → Type 0
Looked ss es os opened s n i best = Searched (acts_from ss es os opened s n) (λ (p : ℕ). p % 32) 512 i best

-- one entry more
module _ (ss : List Strategy) (es : List Entry) (os : List LegOrder) (opened s n : ℕ) {i best k : ℕ}
    (v : Looked ss es os opened s n i best) (h : i < 32) (own : k ≡ (get_or es i no_entry).strategy) where
  past : (k * 32 + i < best → acts_from ss es os opened s n (k * 32 + i) ≡ false) → Looked ss es os opened s n (i + 1) best
  past g = searched-past v (k * 32 + i) (λ p c t. rw own (acts-own ss es os opened s n i p c t)) g

  pub look-not : day_order k (get_or es i no_entry) ≡ false → Looked ss es os opened s n (i + 1) best
  look-not d = past (λ _. no_second _ (acts-at ss es os opened s k i h ∙ pick-false _ _ _ d))

  pub look-before : k * 32 + i < n → Looked ss es os opened s n (i + 1) best
  look-before l = past (λ _. pick-false _ _ _ (lt-leb _ _ l))

  pub look-above : best ≤ k * 32 + i → Looked ss es os opened s n (i + 1) best
  look-above l = past (λ m. absurd (omega arith))

  pub look-idle : acts_in (get_or es i no_entry) (get_or ss k no_strategy) os opened s ≡ false → Looked ss es os opened s n (i + 1) best
  look-idle a = past (λ _. no_second _ (acts-at ss es os opened s k i h ∙ no_second _ a))

  pub look-here : day_order k (get_or es i no_entry) ≡ true → n ≤ k * 32 + i → k * 32 + i < best → acts_in (get_or es i no_entry) (get_or ss k no_strategy) os opened s ≡ true
      → Looked ss es os opened s n (i + 1) (k * 32 + i)
  look-here d f l a =
      searched-here v (k * 32 + i) (λ p c t. rw own (acts-own ss es os opened s n i p c t)) l
      (pick_true _ _ _ (le-leb _ _ f) ∙ acts-at ss es os opened s k i h ∙ pick_true _ _ _ d ∙ a)

-- all of them
pub look-all : (ss : List Strategy) (es : List Entry) (os : List LegOrder) (opened s n : ℕ) {i best : ℕ} → Looked ss es os opened s n i best → 32 ≤ i → best ≡ next_pass ss es os opened s n
unfolding next_pass
look-all ss es os opened s n v h = searched-all v (λ p. omega arith)

-- what the search says of the places
module _ (b : State) (s n : ℕ) {at : ℕ} (e : at ≡ next_at b s n) where
  abbrev from : ℕ → Bool
  from = acts_from b.strategies b.entries b.orders b.opened s n

  pub next-most : at ≤ 512
  unfolding next_pass
  next-most = rw e (first-le from 512)

  next-acts : at < 512 → acts_at b s at ≡ true
  unfolding next_pass
  next-acts h = rw e (pick_yes _ (first_holds from 512 (rw e at h))).1

  next-from : n ≤ 512 → n ≤ at
  unfolding next_pass
  next-from h =
      ⊎_elim
      (λ (l : at < 512). rw e (leb-true _ _ (pick_yes _ (first_holds from 512 (rw e at l))).0))
      (λ (l : 512 ≤ at). omega arith)
      (lt-or-le at 512)

  next-skips : (p : ℕ) → n ≤ p → p < at → acts_at b s p ≡ false
  unfolding next_pass
  next-skips p l m = sym (pick_true _ _ _ (le-leb _ _ l)) ∙ first-before from 512 p (rw e at m)

-- MOVES in a row
then-assoc : (x : Moved) (f g : State → Moved) → and_then (and_then x f) g ≡ and_then x (λ (b : State). and_then (f b) g)
unfolding and_then
then-assoc x f g = rw append_assoc

then_same : (x : Moved) (f g : State → Moved) → f x.state ≡ g x.state → and_then x f ≡ and_then x g
unfolding and_then
then_same x f g e = rw e

-- the first n slots, and j behind them
each-add : (f : ℕ → State → Moved) (n j : ℕ) (b : State) → each f (j + n) b ≡ and_then (each f n b) (each (λ (i : ℕ). f (n + i)) j)
unfolding each
each-add f n zero b = rw zero-add (sym (then-still (each f n b) (each (λ (i : ℕ). f (n + i)) 0) refl))
each-add f n (suc j) b =
    let q : j + n ≡ n + j = omega arith in
    rw (suc-add, each-add f n j b, q) (then-assoc (each f n b) (each (λ (i : ℕ). f (n + i)) j) (f (n + j)))

-- two rules that move the same at each slot
each_same : (f g : ℕ → State → Moved) (b : State) (n : ℕ) → ((i : ℕ) → i < n → f i (each f i b).state ≡ g i (each f i b).state) → each f n b ≡ each g n b
unfolding each
each_same f g b zero h = refl
each_same f g b (suc n) h =
    then_same (each f n b) (f n) (g n) (h n (omega arith)) ∙ ap (λ (x : Moved). and_then x (g n)) (each_same f g b n (λ i l. h i (omega arith)))

-- slots at which nothing moves
each-skips : (f : ℕ → State → Moved) (b : State) (i j : ℕ) → ((p : ℕ) → i ≤ p → p < j + i → f p (each f i b).state ≡ still (each f i b).state) → each f (j + i) b ≡ each f i b
unfolding each
each-skips f b i zero h = rw zero-add
each-skips f b i (suc j) h =
    ap (λ (n : ℕ). each f n b) (suc-add j i)
    ∙ ap (λ (x : Moved). and_then x (f (j + i))) (each-skips f b i j (λ p l m. h p l (omega arith)))
    ∙ then-still (each f i b) (f (j + i)) (h (j + i) (omega arith) (omega arith))

visit-skips : {f : ℕ → State → Moved} {k i j : ℕ} {b₀ b : State} {r₀ r₁ : Records} → Visited f k b₀ r₀ r₁ b i → i ≤ j → j ≤ k
    → ((p : ℕ) → i ≤ p → p < j → f p b ≡ still b) → Visited f k b₀ r₀ r₁ b j
visit-skips {f} {k} {i} {j} {b₀} v h g s =
    let q : j ≡ j - i + i = omega arith in
    let e : each f j b₀ ≡ each f i b₀ = ap (λ (x : ℕ). each f x b₀) q ∙ each-skips f b₀ i (j - i) (λ p l m. rw (← v.done.state) (s p l (omega arith))) in
    record { most = g; done = done-of e v.done }

-- THE PASSES of a strategy, and of all, as the walk over places
module _ (s : ℕ) where
  place-yes : (k i : ℕ) (b : State) → i < 32 → passes_legs (strategy_at b k) s b.opened ≡ true → place_pass s (k * 32 + i) b ≡ leg_pass k i b
  unfolding place_pass
  place-yes k i b h e = rw (place-strategy k i h, place-slot k i h) (pick_true _ _ _ e)

  place-not : (k i : ℕ) (b : State) → i < 32 → passes_legs (strategy_at b k) s b.opened ≡ false → place_pass s (k * 32 + i) b ≡ still b
  unfolding place_pass
  place-not k i b h e = rw (place-strategy k i h) (pick-false _ _ _ e)

  in-places : (k : ℕ) (b : State) → length b.orders ≡ 32 → leg_passes_in s k b ≡ each (λ (i : ℕ). place_pass s (k * 32 + i)) 32 b
  unfolding each
  in-places k b rows = by (passes_legs (strategy_at b k) s b.opened) refl
    where
      -- the passes so far leave the strategies and the open series
      kept : (i : ℕ) → Only k b (each (leg_pass k) i b).state
      kept i = only-each (leg_pass k) b i (λ j _ c h. leg_pass-only k j c (h.order_rows ∙ rows))

      by : (t : Bool) → passes_legs (strategy_at b k) s b.opened ≡ t → leg_passes_in s k b ≡ each (λ (i : ℕ). place_pass s (k * 32 + i)) 32 b
      by true e =
          in-yes s k b e
          ∙ each_same (leg_pass k) (λ (i : ℕ). place_pass s (k * 32 + i)) b 32
          (λ i l. sym (place-yes k i (each (leg_pass k) i b).state l (rw ((kept i).strategies, (kept i).shrinks.opened) e)))
      by false e = in-not s k b e ∙ sym (each-skips (λ (i : ℕ). place_pass s (k * 32 + i)) b 0 32 (λ p _ l. place-not k p b (omega arith) e))

  upto : (b : State) → length b.orders ≡ 32 → (k : ℕ) → each (leg_passes_in s) k b ≡ each (place_pass s) (k * 32) b
  unfolding each
  upto b rows zero = refl
  upto b rows (suc k) =
      let c : State = (each (leg_passes_in s) k b).state in
      let n : length c.orders ≡ 32 = (each-kept shrinks-kept (leg_passes_in s) (leg_passes_in-kept shrinks-kept s) k b rows).order_rows ∙ rows in
      let q : suc k * 32 ≡ 32 + k * 32 = omega arith in
      then_same (each (leg_passes_in s) k b) (leg_passes_in s k) (each (λ (i : ℕ). place_pass s (k * 32 + i)) 32) (in-places k c n)
      ∙ ap (λ (x : Moved). and_then x (each (λ (i : ℕ). place_pass s (k * 32 + i)) 32)) (upto b rows k)
      ∙ sym (each-add (place_pass s) (k * 32) 32 b)
      ∙ ap (λ (j : ℕ). each (place_pass s) j b) (sym q)

  passes-places : {b : State} → Fit b → leg_passes s b ≡ each (place_pass s) 512 b
  unfolding leg_passes
  passes-places {b} f = upto b f.order_rows 16

  -- a place that acts, and one that does not
  place-moves : (p : ℕ) (b : State) → acts_at b s p ≡ true → place_pass s p b ≡ pass LegsOnly true (p % 32) b
  unfolding place_pass acts acts_in
  place-moves p b a =
      let t = pick_yes _ a in
      pick_true _ _ _ (pick_yes _ t.1).0 ∙ legs-yes (p / 32) (p % 32) b t.0

  place-stays : (p : ℕ) (b : State) → acts_at b s p ≡ false → place_pass s p b ≡ still b
  unfolding place_pass acts acts_in day_order
  place-stays p b a = pick-by (λ (x : Moved). x ≡ still b) _ (λ passing. day (day_order (p / 32) (entry_at b (p % 32))) refl passing) (λ _. refl)
    where
      e : Entry
      e = entry_at b (p % 32)

      day : (t : Bool) → day_order (p / 32) e ≡ t → passes_legs (strategy_at b (p / 32)) s b.opened ≡ true → leg_pass (p / 32) (p % 32) b ≡ still b
      day false d passing = legs-not (p / 32) (p % 32) b d
      day true d passing =
          let own : e.strategy ≡ p / 32 = (live-in (p / 32) e (pick_yes _ d).0).1 in
          let idle : not (stops_at (turn_at e 0 (net_ready b.orders e.side (strategy_at b (p / 32))))) ≡ false = sym (pick_true _ _ _ d ∙ pick_true _ _ _ passing) ∙ a in
          legs-yes (p / 32) (p % 32) b d ∙ legs-still (p % 32) b (net_ready b.orders e.side (strategy_at b (p / 32))) (rw own refl) (not-false _ idle)

-- THE LOOP: the places before one are visited, and that one acts
pub record PassedTo (s : ℕ) (b₀ : State) (r₀ r₁ : Records) (b : State) (at : ℕ) : Type 0 where
  pub visited : Visited (place_pass s) 512 b₀ r₀ r₁ b at
  pub next : at < 512 → acts_at b s at ≡ true

-- the next that acts, after the first i places
passing-from : {s : ℕ} {b₀ b : State} {r₀ r₁ : Records} {i at : ℕ} → Visited (place_pass s) 512 b₀ r₀ r₁ b i
    → at ≡ next_at b s i → PassedTo s b₀ r₀ r₁ b at
passing-from {s} {b = b} {i = i} {at = at} v e = record {
  visited = visit-skips v (next-from b s i e v.most) (next-most b s i e) (λ p l h. place-stays s p b (next-skips b s i e p l h));
  next = next-acts b s i e;
}

pub passing-first : {s : ℕ} {b : State} {at : ℕ} (r₀ : Records) → at ≡ next_at b s 0 → PassedTo s b r₀ r₀ b at
passing-first {s} {b} r e = passing-from (visit-none (place_pass s) 512 b r) e

module _ {s : ℕ} {b₀ b : State} {r₀ r₁ : Records} {at : ℕ} (f : Fit b₀) (v : PassedTo s b₀ r₀ r₁ b at) where
  -- the ranges in the loop
  pub passing-fit : Fit b
  unfolding place_pass
  passing-fit =
      fit-done v.visited.done
      (each-kept shrinks-kept (place_pass s) (λ p c rows. pick_all (λ (x : Moved). Shrinks c x.state) _ (leg_pass-kept shrinks-kept _ _ c rows) (shrinks-refl c)) at b₀ f.order_rows) f

  -- .. and after the pass
  pub passing-fits : {r₂ : Records} {c : State} → Done r₁ r₂ c (pass LegsOnly true (at % 32) b) → Fit c
  passing-fits d = fit-done d (pass_kept shrinks-kept LegsOnly true (at % 32) b passing-fit.order_rows) passing-fit

  pub passing-room : at < 512 → Room r₀ (leg_passes s b₀).records → Room r₁ (pass LegsOnly true (at % 32) b).records
  passing-room h r = visit-room v.visited h (place-moves s at b (v.next h)) (room_of (passes-places s f) r)

  pub passing-next : at < 512 → {r₂ : Records} {x : ℕ} {c : State} → Done r₁ r₂ c (pass LegsOnly true (at % 32) b)
      → x ≡ next_at c s (at + 1) → PassedTo s b₀ r₀ r₂ c x
  passing-next h d e = passing-from (visit-moves v.visited h (place-moves s at b (v.next h)) d) e

  pub passing-less : at < 512 → {r₂ : Records} {x : ℕ} {c : State} → Done r₁ r₂ c (pass LegsOnly true (at % 32) b) → x ≡ next_at c s (at + 1) → 512 - x < 512 - at
  passing-less h {c = c} d e = omega (arith, next-from c s (at + 1) e (omega arith))

  pub passing-all : 512 ≤ at → Done r₀ r₁ b (leg_passes s b₀)
  passing-all h = done-of (passes-places s f) (visit-all v.visited h)

-- where no place acts nothing moves
pub passes_none_lem : (s : ℕ) (b : State) {at : ℕ} → Fit b → at ≡ next_at b s 0 → at ≡ 512 → leg_passes s b ≡ still b
unfolding each
passes_none_lem s b f e h =
    passes-places s f ∙ each-skips (place_pass s) b 0 512 (λ p _ l. place-stays s p b (next-skips b s 0 e p (omega arith) (omega arith)))
