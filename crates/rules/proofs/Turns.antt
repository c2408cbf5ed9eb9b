-- What is repeated up to a bound is never cut short by it.
use mathlib.Core.Path.{◌≡◌, refl, sym, ap, ◌∙◌}
use mathlib.Core.Bool.{Bool, true, false}
use mathlib.Core.List.{List, append-nil}
use mathlib.Core.Logic.{◌⊎◌, inl, inr, ⊎_elim}
use Prim.Native.Nat.{ℕ, zero, suc, ◌+◌, ◌≤◌, ◌<◌}
use native.Mathlib.Nat.{zero-add, suc-add}
use native.Mathlib.Omega.{arith}
use borrow.Author.Tests.{eqb-false}
use lib.Dec.{eqb}
use lib.ListN.{get_or}
use Rattle.base.specs.Pick.{pick, pick-by}
use Rattle.base.specs.Walks.{walk}
use Rattle.rules.specs.declared.Strategy.{Strategy}
use Rattle.rules.specs.declared.Entry.{Entry}
use Rattle.rules.specs.declared.LegOrder.{LegOrder}
use Rattle.rules.specs.declared.State.{State}
use Rattle.rules.specs.State.{no_entry}
use Rattle.rules.specs.Moves.{Moved, still, and_then, each}
use Rattle.rules.specs.Sides.{other, better, best_price}
use Rattle.rules.specs.Nets.{units_step, units_of}
use Rattle.rules.specs.Passes.{opposes, limit_with, limit_step, best_opposite}

-- a move after which nothing moves is that move
pub then-still : (x : Moved) (f : State → Moved) → f x.state ≡ still x.state → and_then x f ≡ x
unfolding and_then
then-still x f e = rw (e, append-nil)

-- where nothing moves at any later slot
pub idle : (f : ℕ → State → Moved) (b : State) (i : ℕ) → ((j : ℕ) → f j (each f i b).state ≡ still (each f i b).state) → (d : ℕ) → each f (d + i) b ≡ each f i b
unfolding each
idle f b i h zero = ap (λ (k : ℕ). each f k b) (zero-add i)
idle f b i h (suc d) =
    ap (λ (k : ℕ). each f k b) (suc-add d i) ∙ ap (λ (x : Moved). and_then x (f (d + i))) (idle f b i h d) ∙ then-still (each f i b) (f (d + i)) (h (d + i))

-- A turn repeated: it stops, and then moves nothing, or it lowers a number that is left.
module _ (turn : ℕ → State → Moved) (stops : State → Bool) (left : State → ℕ)
    (stopped : (i : ℕ) (b : State) → stops b ≡ true → turn i b ≡ still b)
    (falls : (i : ℕ) (b : State) → stops b ≡ false → left (turn i b).state < left b) where
  -- after n turns it has stopped, or n at least are gone
  progress : (n : ℕ) (b : State) → (stops (each turn n b).state ≡ true) ⊎ (left (each turn n b).state + n ≤ left b)
  unfolding each and_then
  progress zero b = inr (omega arith)
  progress (suc n) b = ⊎_elim here there (progress n b)
    where
      here : stops (each turn n b).state ≡ true → (stops (and_then (each turn n b) (turn n)).state ≡ true) ⊎ (left (and_then (each turn n b) (turn n)).state + suc n ≤ left b)
      here e = inl (rw (stopped n (each turn n b).state e) e)

      there : left (each turn n b).state + n ≤ left b → (stops (and_then (each turn n b) (turn n)).state ≡ true) ⊎ (left (and_then (each turn n b) (turn n)).state + suc n ≤ left b)
      there h = by (stops (each turn n b).state) refl
        where
          by : (t : Bool) → stops (each turn n b).state ≡ t → (stops (and_then (each turn n b) (turn n)).state ≡ true) ⊎ (left (and_then (each turn n b) (turn n)).state + suc n ≤ left b)
          by true e = here e
          by false e = inr (omega (arith, falls n (each turn n b).state e))

  -- as many turns as are left are enough
  pub each-ends : (n : ℕ) (b : State) → left b ≤ n → stops (each turn n b).state ≡ true
  each-ends n b h = ⊎_elim (λ e. e) (λ l. by (stops (each turn n b).state) refl l) (progress n b)
    where
      by : (t : Bool) → stops (each turn n b).state ≡ t → left (each turn n b).state + n ≤ left b → t ≡ true
      by true e l = refl
      by false e l = absurd (omega (arith, falls n (each turn n b).state e))

-- the units that the legs give are some where one is there and some are wanted
pub units-some : (os : List LegOrder) (side : ℕ) (s : Strategy) (ps : List ℕ) (most : ℕ) → 0 < most → 0 < units_of os side s ps 1 → 0 < units_of os side s ps most
unfolding units_of walk
units-some os side s ps most p = go s.count
  where
    go : (k : ℕ) → 0 < walk (units_step os side s.legs ps) 1 k → 0 < walk (units_step os side s.legs ps) most k
    go zero h = p
    go (suc k) h = let r = go k (omega arith) in omega arith

pub units-most : (os : List LegOrder) (side : ℕ) (s : Strategy) (ps : List ℕ) (most : ℕ) → units_of os side s ps most ≤ most
unfolding units_of walk
units-most os side s ps most = go s.count
  where
    go : (k : ℕ) → walk (units_step os side s.legs ps) most k ≤ most
    go zero = omega arith
    go (suc k) = let r = go k in omega arith

-- the best opposite limit is that of a live opposite entry
pub record Holder (es : List Entry) (e : Entry) (x k : ℕ) : Type 0 where
  pub at : ℕ
  pub slot : at < k
  pub opposed : opposes e (get_or es at no_entry) ≡ true
  pub level : (get_or es at no_entry).level ≡ x

-- one more entry looked at: the best is the old one or its own
best-is : (side p q : ℕ) → (best_price side p q ≡ q) ⊎ ((best_price side p q ≡ p) × (p ≡ 0 → ⊥))
unfolding best_price
best-is side p q =
    let P : ℕ → Type 0 = λ (x : ℕ). (x ≡ q) ⊎ ((x ≡ p) × (p ≡ 0 → ⊥)) in
    pick-by P (eqb p 0) (λ _. inl refl) (λ t. pick-by P (better side p q) (λ _. inl refl) (λ _. inr (refl, eqb-false p 0 t)))

later : {es : List Entry} {e : Entry} {x k : ℕ} → Holder es e x k → Holder es e x (suc k)
later h = record { at = h.at; slot = omega (arith, h.slot); opposed = h.opposed; level = h.level }

best-some : (es : List Entry) (e : Entry) (k : ℕ) → (walk (limit_step es e) 0 k ≡ 0 → ⊥) → Holder es e (walk (limit_step es e) 0 k) k
unfolding walk limit_with
best-some es e zero h = absurd (h refl)
best-some es e (suc k) h =
    more (walk (limit_step es e) 0 k) (best-some es e k) h
  where
    more : (x : ℕ) → ((x ≡ 0 → ⊥) → Holder es e x k)
        → (pick (opposes e (get_or es k no_entry)) (best_price (other e.side) x (get_or es k no_entry).level) x ≡ 0 → ⊥)
        → Holder es e (pick (opposes e (get_or es k no_entry)) (best_price (other e.side) x (get_or es k no_entry).level) x) (suc k)
    more x ih =
        let P : ℕ → Type 0 = λ (y : ℕ). (y ≡ 0 → ⊥) → Holder es e y (suc k) in
        pick-by P (opposes e (get_or es k no_entry))
        (λ o some.
        ⊎_elim (λ q. record { at = k; slot = omega arith; opposed = o; level = sym q })
        (λ q. rw q.0 (later (ih q.1))) (best-is (other e.side) x (get_or es k no_entry).level))
        (λ _ some. later (ih some))

pub opposite-holder : (es : List Entry) (e : Entry) → (best_opposite es e ≡ 0 → ⊥) → Holder es e (best_opposite es e) 32
unfolding best_opposite
opposite-holder es e h = best-some es e 32 h
