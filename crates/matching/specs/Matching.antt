-- The rules of the match and of the passes by legs only, by what the code tests, and the ranges that they keep.
use Rattle.std.specs.Prelude.{◌≡◌, Bool, not, List, Option, ℕ, ◌+◌, ◌-◌, ◌≤◌, ◌<◌, min, eqb, leb, length, get_or}
use Rattle.std.proofs.Math.Path.{refl}
use Rattle.std.proofs.Common.{sym, ◌∙◌, ap, arith, None, Some}
use Rattle.std.proofs.Math.Bool.{true, false}
use borrow.Author.Tests.{ltb-true, lt-ltb, le-ltb}
use Rattle.std.proofs.Math.Dec.{ltb}
use Rattle.std.proofs.Math.ListN.{get_or-eq_default}
use Rattle.base.specs.Pick.{pick, both, pick_true, pick-false, pick_yes, pick-pair, tests}
use Rattle.base.specs.Walks.{walk}
use Rattle.base.specs.Sets.{has, minus}
use Rattle.rules.specs.declared.Strategy.{Strategy}
use Rattle.rules.specs.declared.Entry.{Entry}
use Rattle.rules.specs.declared.Bounds.{Bounds}
use Rattle.rules.specs.declared.State.{State}
use Rattle.rules.specs.declared.Allocation.TheVariants.{LegsOnly}
use Rattle.rules.specs.State.{no_entry, entry_at, strategy_at}
use Rattle.rules.specs.Moves.{Moved, still, each}
use Rattle.rules.specs.Sides.{other, better}
use Rattle.rules.specs.Strategies.{shut_set}
use Rattle.rules.specs.National.{bounds_at, may_meet}
use Rattle.rules.specs.Fills.{whole_fill}
use Rattle.rules.specs.Passes.{pass}
use Rattle.rules.specs.Auctions.{live_in, day_order, leg_pass, leg_passes_in, ahead, best_slot, crossed, may_match, match_once, match_all, match_in}
use Rattle.rules.proofs.Control.{each-kept, match_once-kept, match_in-kept, shrinks-kept}
use Rattle.rules.proofs.Shrinks.{Shrinks}
use Rattle.rules.proofs.Gives.{bounds-same}
use Rattle.rules.proofs.Turns.{idle}
use Rattle.records.specs.Done.{Done}
use Rattle.ranges.specs.Fit.{Fit, fit-done}
use Rattle.records.specs.declared.Records.{Records}

-- whether a strategy holds series s and is all open
unfoldable pub open_with : Strategy → ℕ → ℕ → Bool
open_with t s opened = both (has t.series s) (eqb (minus t.series opened) 0)

-- .. and has no auction
unfoldable pub passes_legs : Strategy → ℕ → ℕ → Bool
passes_legs t s opened = both (open_with t s opened) (eqb t.starter 0)

-- whether an entry goes before the best so far of a side, which is at that slot and level
unfoldable pub ahead_of : ℕ → ℕ → Entry → ℕ → ℕ → Bool
ahead_of k side e best level = pick (live_in k e) (pick (eqb e.side side) (pick (eqb best 32) true (better (other side) e.level level)) false) false

-- one slot more: the best so far, or this one
abbrev pub best_next : List Entry → ℕ → ℕ → ℕ → ℕ → ℕ
best_next es k side i best = pick (ahead_of k side (get_or es i no_entry) best (get_or es best no_entry).level) i best

-- the best slot by the entries
unfoldable pub best_entry : List Entry → ℕ → ℕ → ℕ
best_entry es k side = walk (best_next es k side) 32 32

-- the same of the entry that is the best so far, if there is one
unfoldable pub goes_ahead : ℕ → ℕ → Entry → Option Entry → Bool
goes_ahead k side e None = pick (live_in k e) (eqb e.side side) false
goes_ahead k side e (Some f) = pick (live_in k e) (pick (eqb e.side side) (better (other side) e.level f.level) false) false

-- whether a buy and a sell meet, and both may fill at the lower number's limit
unfoldable pub may_match_of : Bounds → Entry → Entry → Bool
may_match_of w e f = pick (leb f.level e.level) (may_meet w (pick (ltb e.number f.number) e.level f.level)) false

-- whether two entries meet
unfoldable pub meet : List Entry → ℕ → ℕ → Bool
meet es x y = pick (ltb x 32) (pick (ltb y 32) (leb (get_or es y no_entry).level (get_or es x no_entry).level) false) false

-- whether they do, and both may fill at the lower number's limit
unfoldable pub may_match_in : Bounds → List Entry → ℕ → ℕ → Bool
may_match_in w es x y = both (meet es x y) (may_meet w (get_or es (pick (ltb (get_or es x no_entry).number (get_or es y no_entry).number) x y) no_entry).level)

-- two entries that meet
unfoldable pub matched : State → ℕ → ℕ → Moved
matched b x y =
    let a : ℕ = pick (ltb (entry_at b x).number (entry_at b y).number) x y in
    let h : ℕ = pick (ltb (entry_at b x).number (entry_at b y).number) y x in
    whole_fill b a h (entry_at b a).level (min (entry_at b a).units (entry_at b h).units)

-- laws

-- three tests, the last one turned, and the choice by them
all_three : (t u v : Bool) (x y : Moved) → pick (pick t u false) v false ≡ true → pick t (pick u (pick (not v) x y) x) x ≡ y
unfolding pick
all_three true true true x y e = refl
all_three true true false x y e = absurd (let z : ◌≡◌ {A = ℕ} 0 1 = cc in omega arith)
all_three true false v x y e = absurd (let z : ◌≡◌ {A = ℕ} 0 1 = cc in omega arith)
all_three false u v x y e = absurd (let z : ◌≡◌ {A = ℕ} 0 1 = cc in omega arith)

not_three : (t u v : Bool) (x y : Moved) → pick (pick t u false) v false ≡ false → pick t (pick u (pick (not v) x y) x) x ≡ x
unfolding pick
not_three true true true x y e = absurd (let z : ◌≡◌ {A = ℕ} 0 1 = cc in omega arith)
not_three true true false x y e = refl
not_three true false v x y e = refl
not_three false u v x y e = refl

module _ (k i : ℕ) (b : State) where
  pub legs-not : day_order k (entry_at b i) ≡ false → leg_pass k i b ≡ still b
  unfolding leg_pass
  legs-not e = search tests

  pub legs-yes : day_order k (entry_at b i) ≡ true → leg_pass k i b ≡ pass LegsOnly true i b
  unfolding leg_pass
  legs-yes e = search tests

module _ (s k : ℕ) (b : State) where
  pub in-yes : passes_legs (strategy_at b k) s b.opened ≡ true → leg_passes_in s k b ≡ each (leg_pass k) 32 b
  unfolding passes_legs open_with leg_passes_in shut_set
  in-yes e = all_three _ _ _ _ _ e

  pub in-not : passes_legs (strategy_at b k) s b.opened ≡ false → leg_passes_in s k b ≡ still b
  unfolding passes_legs open_with leg_passes_in shut_set
  in-not e = not_three _ _ _ _ _ e

  pub match-yes : open_with (strategy_at b k) s b.opened ≡ true → match_in s k b ≡ match_all k b
  unfolding open_with match_in shut_set
  match-yes e = pick-pair _ _ _ _ ∙ pick_true _ _ _ e

  pub match-not : open_with (strategy_at b k) s b.opened ≡ false → match_in s k b ≡ still b
  unfolding open_with match_in shut_set
  match-not e = pick-pair _ _ _ _ ∙ pick-false _ _ _ e

-- the level of the best so far: none yet, or an entry's
pub level-none : (es : List Entry) → length es ≡ 32 → 0 ≡ (get_or es 32 no_entry).level
level-none es n = rw (get_or-eq_default es no_entry {n = 32} (omega arith))

module _ (es : List Entry) (k side i best : ℕ) {level : ℕ} (l : level ≡ (get_or es best no_entry).level) where
  pub best-yes : ahead_of k side (get_or es i no_entry) best level ≡ true → i ≡ best_next es k side i best
  best-yes e = let t : ahead_of k side (get_or es i no_entry) best (get_or es best no_entry).level ≡ true = rw l at e in search tests

  pub best-not : ahead_of k side (get_or es i no_entry) best level ≡ false → best ≡ best_next es k side i best
  best-not e = let t : ahead_of k side (get_or es i no_entry) best (get_or es best no_entry).level ≡ false = rw l at e in search tests

pub meet-slots : (es : List Entry) (x y : ℕ) → meet es x y ≡ true → (x < 32) × (y < 32)
unfolding meet
meet-slots es x y e = let p = pick_yes _ e in (ltb-true _ _ p.0, ltb-true _ _ (pick_yes _ p.1).0)

module _ (w : Bounds) (es : List Entry) (x y : ℕ) where
  pub may-slots : may_match_in w es x y ≡ true → (x < 32) × (y < 32)
  unfolding may_match_in
  may-slots e = meet-slots es x y (pick_yes _ e).0

  pub may-apart : meet es x y ≡ false → false ≡ may_match_in w es x y
  unfolding may_match_in
  may-apart e = search tests

  pub may-buy : meet es x y ≡ true → (get_or es x no_entry).number < (get_or es y no_entry).number → may_meet w (get_or es x no_entry).level ≡ may_match_in w es x y
  unfolding may_match_in pick
  may-buy e h = rw (e, lt-ltb _ _ h) refl

  pub may-sell : meet es x y ≡ true → (get_or es y no_entry).number ≤ (get_or es x no_entry).number → may_meet w (get_or es y no_entry).level ≡ may_match_in w es x y
  unfolding may_match_in pick
  may-sell e h = rw (e, le-ltb _ _ h) refl

best-is : (b : State) (k side : ℕ) → best_entry b.entries k side ≡ best_slot b k side
unfolding best_entry best_slot ahead_of ahead
best-is b k side = refl

-- one match by the slots that the code has found
module _ (k i : ℕ) (b : State) {w : Bounds} {x y : ℕ} (h : w ≡ bounds_at b k) (p : x ≡ best_entry b.entries k 0) (q : y ≡ best_entry b.entries k 1) where
  may-is : may_match_in w b.entries x y ≡ may_match b k (best_slot b k 0) (best_slot b k 1)
  unfolding may_match_in meet crossed
  may-is = rw (h, p, q, best-is b k 0, best-is b k 1)

  pub match_none : may_match_in w b.entries x y ≡ false → match_once k i b ≡ still b
  unfolding match_once
  match_none e = pick-false _ _ _ (sym may-is ∙ e)

  pub match-some : may_match_in w b.entries x y ≡ true → match_once k i b ≡ matched b x y
  unfolding match_once matched
  match-some e = pick_true _ _ _ (sym may-is ∙ e) ∙ rw (p, q, best-is b k 0, best-is b k 1)

module _ (b : State) (x y : ℕ) where
  pub match-buy : (entry_at b x).number < (entry_at b y).number → {u : ℕ} → u ≡ min (entry_at b x).units (entry_at b y).units → matched b x y ≡ whole_fill b x y (entry_at b x).level u
  unfolding matched pick
  match-buy h z = let t : ltb (entry_at b x).number (entry_at b y).number ≡ true = lt-ltb _ _ h in rw (t, z)

  pub match-sell : (entry_at b y).number ≤ (entry_at b x).number → {u : ℕ} → u ≡ min (entry_at b y).units (entry_at b x).units → matched b x y ≡ whole_fill b y x (entry_at b y).level u
  unfolding matched pick
  match-sell h z = let t : ltb (entry_at b x).number (entry_at b y).number ≡ false = le-ltb _ _ h in rw (t, z)

-- a match is the same at every turn
match-turn : (k i j : ℕ) (b : State) → match_once k i b ≡ match_once k j b
unfolding match_once
match-turn k i j b = refl

-- from a turn that matches nothing on nothing is matched
pub match-stops : (k i : ℕ) (b c : State) → i ≤ 32 → c ≡ (each (match_once k) i b).state → match_once k i c ≡ still c → each (match_once k) 32 b ≡ each (match_once k) i b
match-stops k i b c h e s =
    let g : match_once k i (each (match_once k) i b).state ≡ still (each (match_once k) i b).state = rw e at s in
    let q : ◌≡◌ {A = ℕ} 32 (32 - i + i) = omega arith in
    ap (λ (j : ℕ). each (match_once k) j b) q ∙ idle (match_once k) b i (λ j. match-turn k j i (each (match_once k) i b).state ∙ g) (32 - i)

-- the ranges after the matches of some strategies
pub fit-series : (s i : ℕ) (b : State) {c : State} {r₀ r₁ : Records} → Fit b → Done r₀ r₁ c (each (match_in s) i b) → Fit c
fit-series s i b f d = fit-done d (each-kept shrinks-kept (match_in s) (match_in-kept shrinks-kept s) i b f.order_rows) f

-- .. and of one
pub fit-matches : (k i : ℕ) (b : State) {c : State} {r₀ r₁ : Records} → Fit b → Done r₀ r₁ c (each (match_once k) i b) → Fit c
fit-matches k i b f d = fit-done d (each-kept shrinks-kept (match_once k) (match_once-kept shrinks-kept k) i b f.order_rows) f

-- .. which leave its bounds
pub same-bounds : (k i : ℕ) (b : State) {c : State} {w : Bounds} {r₀ r₁ : Records} → Fit b → w ≡ bounds_at b k → Done r₀ r₁ c (each (match_once k) i b) → w ≡ bounds_at c k
same-bounds k i b {c} f e d =
    let h : Shrinks b c = rw d.state (each-kept shrinks-kept (match_once k) (match_once-kept shrinks-kept k) i b f.order_rows) in
    e ∙ sym (bounds-same h k)
