-- The rules of a series that shuts or opens by what the code tests, and the ranges that they keep.
use Rattle.std.specs.Prelude.{◌≡◌, true, false, ℕ, ◌+◌, ◌-◌, ◌^◌}
use Rattle.std.proofs.Common.{◌∙◌}
use Rattle.base.specs.Sets.{has}
use Rattle.rules.specs.declared.State.{State}
use Rattle.rules.specs.State.{with_opened}
use Rattle.rules.specs.Moves.{still, and_then, each}
use Rattle.rules.specs.Strategies.{holds}
use Rattle.rules.specs.Auctions.{running, end_unfilled, end_holding, leg_passes, match_in}
use Rattle.rules.specs.Events.{shut, reopen, on_series}
use Rattle.ranges.specs.Fit.{Fit}
use Rattle.auctions.specs.Ranged.{Ranged}
use Rattle.base.specs.Pick.{pick, pick_true, pick-false, pick-pair, tests}

module _ (s k : ℕ) (b : State) where
  pub holding-not : pick (running b k) (holds b s k) false ≡ false → end_holding s k b ≡ still b
  unfolding end_holding
  holding-not e = pick-pair _ _ _ _ ∙ pick-false _ _ _ e

  pub holding-yes : pick (running b k) (holds b s k) false ≡ true → end_holding s k b ≡ end_unfilled k b
  unfolding end_holding
  holding-yes e = pick-pair _ _ _ _ ∙ pick_true _ _ _ e

module _ (s state : ℕ) (b : State) where
  pub series-shuts : has b.opened s ≡ true → state ≡ 0 → on_series s state b ≡ shut s b
  unfolding on_series
  series-shuts h e = search tests

  pub series-stays : has b.opened s ≡ true → ¬ (state ≡ 0) → on_series s state b ≡ still b
  unfolding on_series
  series-stays h e = search tests

  pub series-stays-shut : has b.opened s ≡ false → state ≡ 0 → on_series s state b ≡ still b
  unfolding on_series
  series-stays-shut h e = search tests

  pub series-opens : has b.opened s ≡ false → ¬ (state ≡ 0) → on_series s state b ≡ reopen s b
  unfolding on_series
  series-opens h e = search tests

pub shut-is : (s : ℕ) (b : State) {x y : ℕ} → y ≡ 2 ^ s → x ≡ b.opened - y → shut s b ≡ each (end_holding s) 16 (with_opened b x)
unfolding shut
shut-is s b p q = rw (q, p)

pub reopen-is : (s : ℕ) (b : State) {x : ℕ} → x ≡ b.opened + 2 ^ s → reopen s b ≡ and_then (each (match_in s) 16 (with_opened b x)) (leg_passes s)
unfolding reopen
reopen-is s b p = rw p

-- THE RANGES

pub opened-fit : (b : State) (x : ℕ) → Fit b → Fit (with_opened b x)
unfolding with_opened
opened-fit b x f = record { strategies = f.strategies; entries = f.entries; orders = f.orders; priced = f.priced; strategy_rows = f.strategy_rows; entry_rows = f.entry_rows; order_rows = f.order_rows; quotes = f.quotes; quote_rows = f.quote_rows; range = f.range; nets = record { are = f.nets.are }; live = f.live }

pub opened-ranged : (b : State) (x : ℕ) → Ranged b → Ranged (with_opened b x)
unfolding with_opened
opened-ranged b x r = record { fit = opened-fit b x r.fit; auction = r.auction; clock = r.clock; timer = r.timer }
