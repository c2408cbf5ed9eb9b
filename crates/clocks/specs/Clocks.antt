-- The rules of the clock by what the code tests, and the ranges that they keep.
use Rattle.std.specs.Prelude.{◌≡◌, true, false, ℕ, ◌+◌, ◌≤◌, ◌<◌, leb}
use Rattle.std.proofs.Common.{arith}
use Rattle.rules.specs.declared.State.{State}
use Rattle.rules.specs.State.{strategy_at, with_clock}
use Rattle.rules.specs.Moves.{Moved, still, each}
use Rattle.rules.specs.Auctions.{running, end_auction, due, end_due}
use Rattle.rules.proofs.Control.{each-kept, end_due-kept}
use Rattle.records.specs.Done.{Done, Visited}
use Rattle.ranges.specs.Fit.{Fit}
use Rattle.auctions.specs.Ranged.{Ranged, ranged-kept, ranged-done}
use Rattle.base.specs.Pick.{pick, pick_true, pick-false}
use Rattle.records.specs.declared.Records.{Records}

module _ (k : ℕ) (b : State) where
  pub due-not : pick (running b k) (leb ((strategy_at b k).begun + b.timer) b.clock) false ≡ false → end_due k b ≡ still b
  unfolding end_due due
  due-not e = pick-false _ _ _ e

  pub due-yes : pick (running b k) (leb ((strategy_at b k).begun + b.timer) b.clock) false ≡ true → end_due k b ≡ end_auction k b
  unfolding end_due due
  due-yes e = pick_true _ _ _ e

-- the time at which an auction is due
pub due-fits : (k : ℕ) (b : State) → Ranged b → (strategy_at b k).begun + b.timer < 4294967296
due-fits k b r = omega (arith, (r.auction k).begun, r.timer)

-- THE RANGES

ranged-each : (f : ℕ → State → Moved) → ((i : ℕ) (b : State) → Ranged b → Ranged (f i b).state) → (i : ℕ) (b : State) {c : State} {r₀ r₁ : Records}
    → Ranged b → Done r₀ r₁ c (each f i b) → Ranged c
ranged-each f h i b r d = ranged-done d (each-kept ranged-kept f h i b) r

clock-fit : (b : State) (t : ℕ) → Fit b → Fit (with_clock b t)
unfolding with_clock
clock-fit b t f = record { strategies = f.strategies; entries = f.entries; orders = f.orders; priced = f.priced; strategy_rows = f.strategy_rows; entry_rows = f.entry_rows; order_rows = f.order_rows; quotes = f.quotes; quote_rows = f.quote_rows; range = f.range; nets = record { are = f.nets.are }; live = f.live }

clock-ranged : (b : State) (t : ℕ) → t ≤ 86_400_000 → Ranged b → Ranged (with_clock b t)
unfolding with_clock
clock-ranged b t h r = record { fit = clock-fit b t r.fit; auction = r.auction; clock = h; timer = r.timer }

-- .. while the loop over the auctions runs
pub ranged-visited : (b : State) (t : ℕ) {c : State} {i : ℕ} {r₀ r₁ : Records} → t ≤ 86_400_000 → Ranged b → Visited end_due 16 (with_clock b t) r₀ r₁ c i → Ranged c
ranged-visited b t h r v = ranged-each end_due (end_due-kept ranged-kept) _ _ (clock-ranged b t h r) v.done
