-- The rules of the day's end by what the code tests, and what they keep.
use Rattle.std.specs.Prelude.{◌≡◌, Bool, true, false, not, List, [], ◌∷◌, ◌++◌, eqb, length, get_or, map, Option}
use Rattle.std.specs.List.{fold, filter, reduce}
use Rattle.std.proofs.Math.Path.{refl, ap}
use Rattle.std.proofs.Common.{sym, ◌∙◌, arith, eq-eqb, cond, None, Some}
use Rattle.std.proofs.lemmas.Bool.{cond_both, eqb-false, not-true}
use Rattle.std.proofs.lemmas.Option.{none-some, same_Some}
use Rattle.std.proofs.lemmas.List.Sums.{fold-append}
use Prim.Native.Nat.{ℕ, zero, suc, ◌+◌, ◌-◌, ◌≤◌, ◌<◌, min}
use Rattle.base.specs.Walks.{walk}
use Rattle.base.specs.Chains.{unless_zero, fold-walk}
use Rattle.base.specs.All.{All, all_nil, all_cons, all_append}
use Rattle.rules.specs.declared.Entry.{Entry}
use Rattle.rules.specs.declared.LegOrder.{LegOrder}
use Rattle.rules.specs.declared.State.{State}
use Rattle.rules.specs.State.{no_entry, no_order, fresh}
use Rattle.rules.specs.Moves.{Moved, still, each}
use Rattle.rules.specs.Auctions.{running, close}
use Rattle.rules.specs.Events.{live, live_order, cancel_number, close_running, lower_number, lowest_live, cancel_lowest, restart, on_day_end}
use Rattle.rules.specs.Valid.{Sound}
use Rattle.rules.proofs.Shrinks.{auction-shrinks}
use Rattle.rules.proofs.DayEnd.{number-shrinks, numbered-sound, lowest-none}
use Rattle.rules.proofs.Entering.{sound-auctions, sound-shrinks, auctions-same}
use Rattle.rules.proofs.Settled.{each_keeps}
use Rattle.rules.proofs.Arrivals.{put-auctions}
use Rattle.rules.proofs.Cancels.{number-strategies}
use Rattle.records.specs.Done.{Done, Visited, done-still, done-of, done-then}
use Rattle.rules.proofs.Turns.{idle}
use Rattle.base.specs.Pick.{pick, pick_true, pick-false, pick_all, tests}
use Rattle.records.specs.declared.Records.{Records}

-- the numbers that are live: those of entries, then those of leg orders
abbrev pub live_numbers : State → List ℕ
live_numbers b = map (λ (e : Entry). e.number) (filter (λ e. not (eqb e.units 0)) b.entries) ++ map (λ (o : LegOrder). o.number) (filter (λ o. not (eqb o.contracts 0)) b.orders)

-- laws

lower-zero : (m : ℕ) → lower_number 0 m ≡ m
unfolding lower_number
lower-zero m = pick_true _ _ _ (eq-eqb 0 0 refl)

lower-min : (n m : ℕ) → 0 < n → 0 < m → lower_number n m ≡ min n m
unfolding lower_number
lower-min n m h l =
    let p : ¬ (n ≡ 0) = omega arith in
    let q : ¬ (m ≡ 0) = omega arith in
    search tests

pub lower-first : (n m : ℕ) → ¬ (n ≡ 0) → n ≤ m → n ≡ lower_number n m
lower-first n m p h = omega (arith, lower-min n m (omega arith) (omega arith))

pub lower-second : (n m : ℕ) → ¬ (n ≡ 0) → ¬ (m ≡ 0) → m < n → m ≡ lower_number n m
lower-second n m p q h = omega (arith, lower-min n m (omega arith) (omega arith))

-- the rows that pass a test, and their numbers
module _ {A : Type 0} (d : A) (p : A → Bool) (f : A → ℕ) where
  lower-kept : (n : ℕ) (xs : List A) → fold (λ m x. pick (p x) (lower_number m (f x)) m) n xs ≡ fold lower_number n (map f (filter p xs))
  unfolding pick
  lower-kept n [] = refl
  lower-kept n (x ∷ xs) = by (p x) (λ m. lower-kept m xs)
    where
      by : (t : Bool) → ((m : ℕ) → fold (λ k y. pick (p y) (lower_number k (f y)) k) m xs ≡ fold lower_number m (map f (filter p xs)))
          → fold (λ m y. pick (p y) (lower_number m (f y)) m) (pick t (lower_number n (f x)) n) xs ≡ fold lower_number n (map f (cond t (x ∷ filter p xs) (filter p xs)))
      by true h = h (lower_number n (f x))
      by false h = h n

  lower-walk : (n : ℕ) (xs : List A) → length xs ≡ 32 → walk (λ i m. pick (p (get_or xs i d)) (lower_number m (f (get_or xs i d))) m) n 32 ≡ fold lower_number n (map f (filter p xs))
  lower-walk n xs l = rw (sym l) (sym (fold-walk d (λ m x. pick (p x) (lower_number m (f x)) m) n xs) ∙ lower-kept n xs)

  given-kept : (xs : List A) → ((i : ℕ) → p (get_or xs i d) ≡ true → 0 < f (get_or xs i d)) → All (λ n. 0 < n) (map f (filter p xs))
  given-kept [] h = all_nil
  given-kept (x ∷ xs) h =
      let rest = given-kept xs (λ i. h (suc i)) in
      cond_both (p x) (x ∷ filter p xs) (filter p xs) (λ l. All (λ n. 0 < n) (map f l)) (λ e. all_cons (h 0 e) rest) (λ e. rest)

-- the lower of some numbers that are given is the least
lower-least : (n : ℕ) (ns : List ℕ) → 0 < n → All (λ m. 0 < m) ns → (fold lower_number n ns ≡ fold min n ns) × (0 < fold min n ns)
lower-least n [] h all_nil = (refl, h)
lower-least n (m ∷ ns) h (all_cons p a) = rw (lower-min n m h p) (lower-least (min n m) ns (omega arith) a)

unless-some : (n : ℕ) → 0 < n → Some n ≡ unless_zero n
unless-some zero h = absurd (omega arith)
unless-some (suc n) h = refl

least-given : (ns : List ℕ) → All (λ n. 0 < n) ns → reduce min ns ≡ unless_zero (fold lower_number 0 ns)
least-given [] all_nil = refl
least-given (n ∷ ns) (all_cons p a) =
    let q = lower-least n ns p a in
    rw (lower-zero n, q.0) (unless-some (fold min n ns) q.1)

-- what the code finds is the rule's lowest number
module _ (b : State) (s : Sound b) where
  some-units : (u : ℕ) → not (eqb u 0) ≡ true → 0 < u
  some-units u e = let z = eqb-false u 0 (not-true _ e) in omega arith

  lowest-fold : lowest_live b ≡ fold lower_number 0 (live_numbers b)
  unfolding lowest_live live live_order
  lowest-fold =
      rw (lower-walk no_entry (λ e. not (eqb e.units 0)) (λ e. e.number) 0 b.entries s.entry_rows, fold-append)
      (lower-walk no_order (λ o. not (eqb o.contracts 0)) (λ o. o.number) _ b.orders s.order_rows)

  lowest-found : {r : Option ℕ} → r ≡ reduce min (live_numbers b) → r ≡ unless_zero (lowest_live b)
  lowest-found e =
      let given = all_append
      (given-kept no_entry (λ e. not (eqb e.units 0)) (λ e. e.number) b.entries (λ i l. (s.live i (some-units _ l)).given.0))
      (given-kept no_order (λ o. not (eqb o.contracts 0)) (λ o. o.number) b.orders (λ i l. (s.live_order i (some-units _ l)).given.0)) in
      e ∙ least-given _ given ∙ ap unless_zero (sym lowest-fold)

  -- a number is live, or none
  pub low-is : (i : ℕ) {r : Option ℕ} {n : ℕ} → r ≡ reduce min (live_numbers b) → r ≡ Some n → cancel_lowest i b ≡ cancel_number n b
  unfolding cancel_lowest
  low-is i e f = ap (λ n. cancel_number n b) (by (lowest_live b) (sym (lowest-found e) ∙ f))
    where
      by : (m : ℕ) {n : ℕ} → unless_zero m ≡ Some n → m ≡ n
      by zero e = absurd (none-some _ e)
      by (suc m) e = same_Some _ _ e

  pub low-none : {r : Option ℕ} → r ≡ reduce min (live_numbers b) → r ≡ None → (i : ℕ) → cancel_lowest i b ≡ still b
  low-none e f = lowest-none (numbered-sound s) (by (lowest_live b) (sym (lowest-found e) ∙ f))
    where
      by : (m : ℕ) → unless_zero m ≡ None → m ≡ 0
      by zero e = refl
      by (suc m) e = absurd (none-some _ (sym e))

-- .. by the rule's own number, in any book
pub lowest-cancels : (i : ℕ) (b : State) {n : ℕ} → n ≡ lowest_live b → cancel_lowest i b ≡ cancel_number n b
unfolding cancel_lowest
lowest-cancels i b p = rw p

-- after a turn that finds nothing live no turn cancels
pub lowest-stops : (i : ℕ) (b₀ : State) {r₀ r₁ : Records} {b : State} → i < 64 → Done r₀ r₁ b (each cancel_lowest i b₀) → ((j : ℕ) → cancel_lowest j b ≡ still b)
    → Done r₀ r₁ b (each cancel_lowest 64 b₀)
lowest-stops i b₀ h d q =
    let u : 64 ≡ 64 - i + i = omega arith in
    done-of (ap (λ (j : ℕ). each cancel_lowest j b₀) u ∙ idle cancel_lowest b₀ i (rw d.state at q) (64 - i)) d

-- the auction of strategy k, by whether it runs
module _ (k : ℕ) (b : State) where
  pub close-not : running b k ≡ false → close_running k b ≡ still b
  unfolding close_running
  close-not e = pick-false _ _ _ e

  pub close-yes : running b k ≡ true → close_running k b ≡ close k b
  unfolding close_running
  close-yes e = pick_true _ _ _ e

-- a fresh book writes nothing
restarted : (timer : ℕ) {f : State} → f ≡ fresh timer → (r₀ : Records) (b : State) → Done r₀ r₀ f (restart timer b)
unfolding restart
restarted timer e r b = rw e (done-still r (fresh timer))

-- the day's end by its three parts
pub day-end : (timer : ℕ) (b : State) {c d f : State} {r₀ r₁ r₂ : Records} → Done r₀ r₁ c (each close_running 16 b) → Done r₁ r₂ d (each cancel_lowest 64 c) → f ≡ fresh timer
    → Done r₀ r₂ f (on_day_end timer b)
unfolding on_day_end
day-end timer b {d = d} {r₂ = r₂} x y e = done-then _ _ x (done-then _ _ y (restarted timer e r₂ d))

-- cancels and closed auctions leave a sound state
pub lowest-sound : (i : ℕ) (b : State) → Sound b → Sound (cancel_lowest i b).state
unfolding cancel_lowest
lowest-sound i b s =
    let n : ℕ = lowest_live b in
    sound-shrinks (number-shrinks n b) (auctions-same (number-strategies n b) (number-shrinks n b).defined (sound-auctions b s)) s

pub running-sound : (k : ℕ) (b : State) → Sound b → Sound (close_running k b).state
unfolding close_running close
running-sound k b s =
    pick_all (λ (m : Moved). Sound m.state) _
    (sound-shrinks (auction-shrinks b k 0 0 false) (put-auctions b k 0 0 false (omega arith) (omega arith) (λ _. refl) (sound-auctions b s)) s) s

pub sound-each : (f : ℕ → State → Moved) → ((i : ℕ) (b : State) → Sound b → Sound (f i b).state) → (i : ℕ) (b : State) {c : State} {r₀ r₁ : Records}
    → Sound b → Done r₀ r₁ c (each f i b) → Sound c
sound-each f h i b s d = rw d.state (each_keeps Sound f i (λ j _ c. h j c) b s)

-- the turns that have cancelled so far
pub lowered-sound : {i : ℕ} {b c : State} {r₀ r₁ : Records} → Sound b → Visited cancel_lowest 64 b r₀ r₁ c i → Sound c
lowered-sound s v = sound-each cancel_lowest lowest-sound _ _ s v.done
