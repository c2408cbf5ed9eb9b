-- What each rule pays, and so how many records each event writes at most.
use mathlib.Core.Path.{◌≡◌, refl, ap}
use mathlib.Core.Bool.{Bool, true, false, not}
use mathlib.Core.Logic.{⊎_elim}
use mathlib.Core.List.{List}
use Prim.Native.Nat.{ℕ, zero, suc, ◌+◌, ◌-◌, ◌*◌, ◌^◌, ◌≤◌, ◌<◌, min}
use native.Mathlib.Omega.{arith}
use borrow.Author.Tests.{eqb-true, ne_eqb, ltb-true}
use lib.Dec.{eqb}
use lib.ListN.{length, length-append, length-take, length-replicate, get_or-eq_default}
use Rattle.base.specs.Pick.{pick, pick_all, pick-by, pick_yes, pick_no, pick-false}
use Rattle.base.specs.Walks.{sum_n, first_n, lt-or-le, first_holds, sum-zero, sum_mono, sum-swap}
use Rattle.rules.specs.declared.Entry.{Entry}
use Rattle.rules.specs.declared.LegOrder.{LegOrder}
use Rattle.rules.specs.declared.State.{State}
use Rattle.rules.specs.declared.Allocation.TheVariants.{LegsOnly, Shared, ForStarter, Numbered}
use Rattle.rules.specs.State.{no_entry, no_order, entry_at, order_at, strategy_at, with_entries, with_orders, with_opened, with_clock, with_last}
use Rattle.rules.specs.Moves.{Moved, and_then, each}
use Rattle.rules.specs.Fills.{whole_fill, cancel_entry}
use Rattle.rules.specs.National.{bounds_at, may_meet}
use Rattle.rules.specs.Auctions.{live_in, is_number, starter_slot, cancel_lapsed, end_unfilled, starter_pass, later, later_pass, end_auction, end_due, end_holding, day_order, leg_pass, leg_passes_in, leg_passes, best_slot, match_once, match_all, match_in}
use Rattle.rules.specs.Events.{live, live_order, behind, enter, enter_order, rest_or_cancel, waits, trades, arrive, on_order, old_sweep, enter_sweep, on_sweep, best_order, trade_once, trade_all, if_rests, on_leg_order, cancel_entry_of, cancel_order_of, cancel_number, on_clock, shut, reopen, on_series, close_running, lowest_live, cancel_lowest, restart, on_day_end}
use Rattle.rules.proofs.Tables.{positive}
use Rattle.rules.proofs.Shrinks.{Shrinks, shrinks-refl, shrinks-trans}
use Rattle.rules.proofs.Control.{Crossed, crossed-best, buy-proper, sell-proper, best-order}
use Rattle.rules.proofs.Load.{alive, Pays, Six, six-shrinks, pays-nothing, pays-more, pays-then, if-pays, sum_ones, few-entries, few-orders, whole-ends, trade-pays, cancel-pays, cancel_order-pays, begin-pays, close-pays, answer-pays}
use Rattle.rules.proofs.PassLoad.{held_at, held-less, held-shrinks, held_one, sum-times, pass-pays, pass-none}

-- SUMS OF FEES
-- an entry is of one strategy
once : (s u n : ℕ) → sum_n (λ (k : ℕ). pick (eqb s k) u 0) n ≤ u
unfolding sum_n
once s u zero = omega arith
once s u (suc n) =
    let f : ℕ → ℕ = λ (k : ℕ). pick (eqb s k) u 0 in
    pick-by (λ (x : ℕ). sum_n f n + x ≤ u) (eqb s n)
    (λ e. let p = eqb-true s n e in omega (arith, sum-zero f n (λ i l. pick-no-hit i (λ z. omega arith))))
    (λ e. omega (arith, once s u n))
  where
    pick-no-hit : (i : ℕ) → ¬ (s ≡ i) → pick (eqb s i) u 0 ≡ 0
    pick-no-hit i ne = pick-false _ _ _ (ne_eqb s i ne)

by-strategy : (b : State) (n : ℕ) → sum_n (λ (k : ℕ). sum_n (held_at b k) 32) n ≤ sum_n (alive b.entries) 32
by-strategy b n =
    omega (
      arith,
      sum-swap (held_at b) n 32,
      sum_mono (λ (i : ℕ). sum_n (λ (k : ℕ). held_at b k i) n) (alive b.entries) 32 (λ i l. once (entry_at b i).strategy (min (entry_at b i).units 1) n),
    )

-- no more of one strategy than of all
held_all : (b : State) (k : ℕ) → sum_n (held_at b k) 32 ≤ sum_n (alive b.entries) 32
held_all b k = sum_mono (held_at b k) (alive b.entries) 32 (λ i l. pick_all (λ (x : ℕ). x ≤ alive b.entries i) _ (omega arith) (omega arith))

auctions : (f : ℕ → ℕ) (n : ℕ) → sum_n (λ (k : ℕ). 27 * f k + 14) n ≡ 27 * sum_n f n + 14 * n
unfolding sum_n
auctions f zero = refl
auctions f (suc n) = omega (arith, auctions f n)

-- A MOVE AT EACH SLOT, each from a state that shrank from b₀, where the fees are read
each-pays : (b₀ : State) (f : ℕ → State → Moved) (c : ℕ → ℕ) → ((i : ℕ) (b : State) → Shrinks b₀ b → Pays (c i) b (f i b)) → (k : ℕ) (b : State) → Shrinks b₀ b → Pays (sum_n c k) b (each f k b)
unfolding each sum_n
each-pays b₀ f c h zero b s = pays-nothing 0 b
each-pays b₀ f c h (suc k) b s = pays-then (each-pays b₀ f c h k b s) (λ d l. h k d (shrinks-trans s l))

each_free : (f : ℕ → State → Moved) → ((i : ℕ) (b : State) → Six b → Pays 0 b (f i b)) → (k : ℕ) (b : State) → Six b → Pays 0 b (each f k b)
unfolding each
each_free f h zero b six = pays-nothing 0 b
each_free f h (suc k) b six = pays-then (each_free f h k b six) (λ d l. h k d (six-shrinks l six))

-- one record a slot
each-one : (f : ℕ → State → Moved) → ((i : ℕ) (b : State) → Six b → Pays 1 b (f i b)) → (k : ℕ) (b : State) → Six b → Pays k b (each f k b)
each-one f h k b six =
    pays-more (omega (arith, sum_ones (λ (i : ℕ). 1) k (λ i. refl)))
    (each-pays b f (λ (i : ℕ). 1) (λ i c s. h i c (six-shrinks s six)) k b (shrinks-refl b))

-- PASSES
record LiveIn (k : ℕ) (e : Entry) : Type 0 where
  units : 0 < e.units
  strategy : e.strategy ≡ k

live-in : (k : ℕ) (e : Entry) → live_in k e ≡ true → LiveIn k e
unfolding live_in
live-in k e h =
    let p = pick_no (eqb e.units 0) h in
    record { units = positive e.units p.0; strategy = eqb-true e.strategy k p.1 }

module _ (b₀ : State) (six : Six b₀) where
  -- the entry that gets a pass counts in its strategy
  own : (k i : ℕ) (b : State) → Shrinks b₀ b → LiveIn k (entry_at b i) → 13 + 0 ≤ 13 * held_at b₀ k i
  own k i b h l = let n = held_one k (entry_at b i) l.units l.strategy in omega (arith, n, held-less k (entry_at b₀ i) (entry_at b i) (h.entry i))

  leg_pass-pays : (k i : ℕ) (b : State) → Shrinks b₀ b → Pays (13 * held_at b₀ k i) b (leg_pass k i b)
  unfolding leg_pass day_order
  leg_pass-pays k i b h =
      if-pays _
      (λ t. pays-more (own k i b h (live-in k (entry_at b i) (pick_yes (live_in k (entry_at b i)) t).0)) (pass-pays b (six-shrinks h six) LegsOnly i 0 tt true))
      (λ t. pays-nothing _ b)

  later_pass-pays : (k n i : ℕ) (b : State) → Shrinks b₀ b → Pays (13 * held_at b₀ k i) b (later_pass k n i b)
  unfolding later_pass later
  later_pass-pays k n i b h =
      if-pays _
      (λ t. pays-more (own k i b h (live-in k (entry_at b i) (pick_yes (live_in k (entry_at b i)) t).0)) (pass-pays b (six-shrinks h six) Numbered i 0 tt (not (eqb (entry_at b i).life 4))))
      (λ t. pays-nothing _ b)

  each-slot : (k : ℕ) (f : ℕ → State → Moved) → ((i : ℕ) (b : State) → Shrinks b₀ b → Pays (13 * held_at b₀ k i) b (f i b)) → (b : State) → Shrinks b₀ b → Pays (13 * sum_n (held_at b₀ k) 32) b (each f 32 b)
  each-slot k f p b h = pays-more (omega (arith, sum-times 13 (held_at b₀ k) 32)) (each-pays b₀ f (λ (i : ℕ). 13 * held_at b₀ k i) p 32 b h)

  leg_passes_in-pays : (s k : ℕ) (b : State) → Shrinks b₀ b → Pays (13 * sum_n (held_at b₀ k) 32) b (leg_passes_in s k b)
  unfolding leg_passes_in
  leg_passes_in-pays s k b h =
      if-pays _
      (λ _. if-pays _ (λ _. if-pays _ (λ _. pays-nothing _ b) (λ _. each-slot k (leg_pass k) (leg_pass-pays k) b h)) (λ _. pays-nothing _ b))
      (λ _. pays-nothing _ b)

  pub leg_passes-pays : (s : ℕ) (b : State) → Shrinks b₀ b → Pays (13 * sum_n (alive b₀.entries) 32) b (leg_passes s b)
  unfolding leg_passes
  leg_passes-pays s b h =
      let f : ℕ → ℕ = λ (k : ℕ). sum_n (held_at b₀ k) 32 in
      pays-more (omega (arith, sum-times 13 f 16, by-strategy b₀ 16)) (each-pays b₀ (leg_passes_in s) (λ (k : ℕ). 13 * f k) (leg_passes_in-pays s) 16 b h)

  -- the starter's
  starter_pass-pays : (k : ℕ) (b : State) → Shrinks b₀ b → Pays (13 + 14 * sum_n (held_at b₀ k) 32) b (starter_pass k b)
  unfolding starter_pass starter_slot
  starter_pass-pays k b h =
      let n : ℕ = (strategy_at b k).starter in
      let a : ℕ = first_n (is_number b k n) 32 in
      let m : Six b = six-shrinks h six in
      ⊎_elim
      (λ (l : a < 32).
      let e : LiveIn k (entry_at b a) = live-in k (entry_at b a) (pick_yes (live_in k (entry_at b a)) (first_holds (is_number b k n) 32 l)).0 in
      pass-pays b m ForStarter a (14 * sum_n (held_at b₀ k) 32) (rw e.strategy (omega (arith, held-shrinks k h))) _)
      (λ (l : 32 ≤ a).
      let e : entry_at b a ≡ no_entry = get_or-eq_default b.entries no_entry {n = a} (omega (arith, m.entries)) in
      rw (pass-none ForStarter (not (strategy_at b k).answered) a b (ap (λ (x : Entry). x.units) e)) (pays-nothing _ b))
      (lt-or-le a 32)

-- AUCTIONS
cancel_lapsed-pays : (k i : ℕ) (b : State) → Six b → Pays 0 b (cancel_lapsed k i b)
unfolding cancel_lapsed
cancel_lapsed-pays k i b six = if-pays _ (λ _. cancel-pays b six i) (λ _. pays-nothing 0 b)

end_unfilled-pays : (k : ℕ) (b : State) → Six b → Pays 1 b (end_unfilled k b)
unfolding end_unfilled
end_unfilled-pays k b six = pays-then (each_free (cancel_lapsed k) (cancel_lapsed-pays k) 32 b six) (λ c _. close-pays c k)

end_auction-pays : (b₀ : State) → Six b₀ → (k : ℕ) (b : State) → Shrinks b₀ b → Pays (27 * sum_n (held_at b₀ k) 32 + 14) b (end_auction k b)
unfolding end_auction
end_auction-pays b₀ six k b h =
    pays-more (omega arith)
    (pays-then (starter_pass-pays b₀ six k b h)
    (λ c l. pays-then (each-slot b₀ six k (later_pass k (strategy_at b k).starter) (later_pass-pays b₀ six k (strategy_at b k).starter) c (shrinks-trans h l))
    (λ d m. end_unfilled-pays k d (six-shrinks (shrinks-trans h (shrinks-trans l m)) six))))

end_due-pays : (b₀ : State) → Six b₀ → (k : ℕ) (b : State) → Shrinks b₀ b → Pays (27 * sum_n (held_at b₀ k) 32 + 14) b (end_due k b)
unfolding end_due
end_due-pays b₀ six k b h = if-pays _ (λ _. end_auction-pays b₀ six k b h) (λ _. pays-nothing _ b)

end_holding-pays : (s k : ℕ) (b : State) → Six b → Pays 1 b (end_holding s k b)
unfolding end_holding
end_holding-pays s k b six = if-pays _ (λ _. if-pays _ (λ _. end_unfilled-pays k b six) (λ _. pays-nothing 1 b)) (λ _. pays-nothing 1 b)

-- THE MATCH OF THE RESTING ORDERS: each ends one of the two
match_by-pays : (k : ℕ) (b : State) → Six b → (x y : ℕ) → Crossed b k x y → (t : Bool) → may_meet (bounds_at b k) (entry_at b (pick t x y)).level ≡ true
    → Pays 0 b (whole_fill b (pick t x y) (pick t y x) (entry_at b (pick t x y)).level (min (entry_at b (pick t x y)).units (entry_at b (pick t y x)).units))
unfolding pick
match_by-pays k b six x y c true g = whole-ends b six x y _ _ (buy-proper b k x y c g) (omega arith)
match_by-pays k b six x y c false g = whole-ends b six y x _ _ (sell-proper b k x y c g) (omega arith)

match_once-pays : (k i : ℕ) (b : State) → Six b → Pays 0 b (match_once k i b)
unfolding match_once
match_once-pays k i b six = if-pays _ (λ e. let m = pick_yes _ e in match_by-pays k b six (best_slot b k 0) (best_slot b k 1) (crossed-best b k m.0) _ m.1) (λ _. pays-nothing 0 b)

match_in-pays : (s k : ℕ) (b : State) → Six b → Pays 0 b (match_in s k b)
unfolding match_in match_all
match_in-pays s k b six = if-pays _ (λ _. if-pays _ (λ _. each_free (match_once k) (match_once-pays k) 32 b six) (λ _. pays-nothing 0 b)) (λ _. pays-nothing 0 b)

-- LEG ORDERS
trade_once-pays : (a i : ℕ) (b : State) → Six b → Pays 0 b (trade_once a i b)
unfolding trade_once
trade_once-pays a i b six =
    if-pays _ (λ _. pays-nothing 0 b)
    (λ e. if-pays _
    (λ l. let h : best_order b (order_at b a) < 32 = ltb-true _ _ l in
    trade-pays b six a (best_order b (order_at b a))
    (record { slot = h; meets = best-order b (order_at b a) h; live = positive _ e }))
    (λ _. pays-nothing 0 b))

if_rests-pays : (b₀ : State) → Six b₀ → (s a : ℕ) (b : State) → Shrinks b₀ b → Pays (13 * sum_n (alive b₀.entries) 32) b (if_rests s a b)
unfolding if_rests
if_rests-pays b₀ six s a b h = if-pays _ (λ _. pays-nothing _ b) (λ _. leg_passes-pays b₀ six s b h)

-- COMPLEX ORDERS
rest_or_cancel-pays : (i : ℕ) (b : State) → Six b → Pays 0 b (rest_or_cancel i b)
unfolding rest_or_cancel
rest_or_cancel-pays i b six = if-pays _ (λ _. pays-nothing 0 b) (λ _. cancel-pays b six i)

waits-pays : (i : ℕ) (b : State) → Six b → Pays 0 b (waits i b)
unfolding waits
waits-pays i b six = if-pays _ (λ _. cancel-pays b six i) (λ _. answer-pays b (entry_at b i).strategy (entry_at b i).side)

trades-pays : (i : ℕ) (b : State) → Six b → Pays (13 + 14 * sum_n (alive b.entries) 32) b (trades i b)
unfolding trades
trades-pays i b six =
    pays-more (omega arith)
    (pays-then (pass-pays b six Shared i (14 * sum_n (alive b.entries) 32) (omega (arith, held_all b (entry_at b i).strategy)) true)
    (λ c h. rest_or_cancel-pays i c (six-shrinks h six)))

arrive-pays : (i : ℕ) (b : State) → Six b → Pays (13 + 14 * sum_n (alive b.entries) 32) b (arrive i b)
unfolding arrive
arrive-pays i b six =
    if-pays _
    (λ _. if-pays _ (λ _. pays-more (omega arith) (waits-pays i b six))
    (λ _. if-pays _ (λ _. pays-more (omega arith) (begin-pays b i)) (λ _. trades-pays i b six)))
    (λ _. pays-more (omega arith) (rest_or_cancel-pays i b six))

-- CANCELS
cancel_entry_of-pays : (n i : ℕ) (b : State) → Six b → Pays 0 b (cancel_entry_of n i b)
unfolding cancel_entry_of
cancel_entry_of-pays n i b six = if-pays _ (λ _. cancel-pays b six i) (λ _. pays-nothing 0 b)

cancel_order_of-pays : (n i : ℕ) (b : State) → Six b → Pays 0 b (cancel_order_of n i b)
unfolding cancel_order_of
cancel_order_of-pays n i b six = if-pays _ (λ _. cancel_order-pays b six i) (λ _. pays-nothing 0 b)

pub cancel_number-pays : (n : ℕ) (b : State) → Six b → Pays 0 b (cancel_number n b)
unfolding cancel_number
cancel_number-pays n b six =
    pays-then (each_free (cancel_entry_of n) (cancel_entry_of-pays n) 32 b six)
    (λ c h. each_free (cancel_order_of n) (cancel_order_of-pays n) 32 c (six-shrinks h six))

close_running-pays : (k : ℕ) (b : State) → Pays 1 b (close_running k b)
unfolding close_running
close_running-pays k b = if-pays _ (λ _. close-pays b k) (λ _. pays-nothing 1 b)

cancel_lowest-pays : (i : ℕ) (b : State) → Six b → Pays 0 b (cancel_lowest i b)
unfolding cancel_lowest
cancel_lowest-pays i b six = cancel_number-pays (lowest_live b) b six

-- EVENTS
-- the state with what an event sets or enters
six-clock : (b : State) (t : ℕ) → Six b → Six (with_clock b t)
unfolding with_clock
six-clock b t s = record { entries = s.entries; orders = s.orders; count = s.count; rising = s.rising }

six-opened : (b : State) (o : ℕ) → Six b → Six (with_opened b o)
unfolding with_opened
six-opened b o s = record { entries = s.entries; orders = s.orders; count = s.count; rising = s.rising }

behind-length : {A : Type 0} (t : A → Bool) (d x : A) (xs : List A) → length (behind t d x xs) ≡ 32
unfolding behind
behind-length t d x xs =
    rw (length-take, length-append)
    (let n = length-replicate 32 d in omega arith)

six-enter : (e : Entry) (b : State) → Six b → Six (enter e b)
unfolding enter with_last with_entries
six-enter e b s = record { entries = behind-length live no_entry e b.entries; orders = s.orders; count = s.count; rising = s.rising }

six-enter_order : (o : LegOrder) (b : State) → Six b → Six (enter_order o b)
unfolding enter_order with_last with_orders
six-enter_order o b s = record { entries = s.entries; orders = behind-length live_order no_order o b.orders; count = s.count; rising = s.rising }

-- what was paid bounds what was written
pays-few : (c n : ℕ) {b : State} {m : Moved} → 896 + c ≤ n → Pays c b m → length m.records ≤ n
pays-few c n {b} h p = omega (arith, p.paid, few-entries b.entries, few-orders b.orders)

pub order-few : (e : Entry) (b : State) → Six b → length (on_order e b).records ≤ 1357
unfolding on_order
order-few e b six = pays-few _ 1357 (omega (arith, few-entries (enter e b).entries)) (arrive-pays _ (enter e b) (six-enter e b six))

cancel-one : (i : ℕ) (b : State) → length (cancel_entry i b).records ≤ 1
unfolding cancel_entry
cancel-one i b = pick_all (λ (m : Moved). length m.records ≤ 1) _ (omega arith) (omega arith)

sweep-none : (e : Entry) (b : State) → length (enter_sweep e b).records ≡ 0
unfolding enter_sweep
sweep-none e b = pick_all (λ (m : Moved). length m.records ≡ 0) _ refl refl

pub sweep-few : (e : Entry) (b : State) → length (on_sweep e b).records ≤ 1
unfolding on_sweep and_then
sweep-few e b = simp length-append (omega (arith, cancel-one (old_sweep b e) b, sweep-none e (cancel_entry (old_sweep b e) b).state))

pub leg-few : (o : LegOrder) (b : State) → Six b → length (on_leg_order o b).records ≤ 1312
unfolding on_leg_order trade_all
leg-few o b six =
    let b₀ : State = enter_order o b in
    let n : Six b₀ = six-enter_order o b six in
    pays-few _ 1312 (omega (arith, few-entries b₀.entries))
    (pays-then (each_free (trade_once _) (trade_once-pays _) 32 b₀ n) (λ c h. if_rests-pays b₀ n o.series _ c h))

pub cancel-few : (n : ℕ) (b : State) → Six b → length (cancel_number n b).records ≤ 896
cancel-few n b six = pays-few 0 896 (omega arith) (cancel_number-pays n b six)

pub clock-few : (t : ℕ) (b : State) → Six b → length (on_clock t b).records ≤ 1984
unfolding on_clock
clock-few t b six =
    let b₀ : State = with_clock b t in
    let f : ℕ → ℕ = λ (k : ℕ). sum_n (held_at b₀ k) 32 in
    pays-few _ 1984 (omega (arith, auctions f 16, by-strategy b₀ 16, few-entries b₀.entries))
    (each-pays b₀ end_due (λ (k : ℕ). 27 * f k + 14) (end_due-pays b₀ (six-clock b t six)) 16 b₀ (shrinks-refl b₀))

pub shut-few : (s : ℕ) (b : State) → Six b → length (shut s b).records ≤ 912
unfolding shut
shut-few s b six = pays-few 16 912 (omega arith) (each-one (end_holding s) (end_holding-pays s) 16 _ (six-opened b (b.opened - 2 ^ s) six))

pub reopen-few : (s : ℕ) (b : State) → Six b → length (reopen s b).records ≤ 1312
unfolding reopen
reopen-few s b six =
    let b₀ : State = with_opened b (b.opened + 2 ^ s) in
    let n : Six b₀ = six-opened b (b.opened + 2 ^ s) six in
    pays-few _ 1312 (omega (arith, few-entries b₀.entries))
    (pays-then (each_free (match_in s) (match_in-pays s) 16 b₀ n) (λ c h. leg_passes-pays b₀ n s c h))

pub series-few : (s state : ℕ) (b : State) → Six b → length (on_series s state b).records ≤ 1312
unfolding on_series
series-few s state b six =
    let P : Moved → Type 0 = λ (m : Moved). length m.records ≤ 1312 in
    pick_all P _ (pick_all P _ (omega (arith, shut-few s b six)) (omega arith)) (pick_all P _ (omega arith) (reopen-few s b six))

-- records 5 for at most 16 auctions, and a record 3 for each that is live
pub day_end-few : (timer : ℕ) (b : State) → Six b → length (on_day_end timer b).records ≤ 912
unfolding on_day_end restart and_then
day_end-few timer b six =
    let m : Moved = each close_running 16 b in
    let p : Pays 16 b m = each-one close_running (λ k c _. close_running-pays k c) 16 b six in
    let q : Pays 0 m.state (each cancel_lowest 64 m.state) = each_free cancel_lowest cancel_lowest-pays 64 m.state (six-shrinks p.shrinks six) in
    simp length-append (omega (arith, p.paid, q.paid, few-entries b.entries, few-orders b.orders))
