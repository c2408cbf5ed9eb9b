-- The ranges of running auctions, beside those of the rows. Every move keeps both.
use Rattle.std.specs.Prelude.{Bool, ℕ, ◌≤◌}
use Rattle.std.proofs.Common.{arith}
use Rattle.base.specs.Pick.{pick_all}
use Rattle.base.specs.All.{all-at, all_map}
use Rattle.rules.specs.declared.Strategy.{Strategy}
use Rattle.rules.specs.declared.State.{State}
use Rattle.rules.specs.State.{no_strategy, strategy_at, with_entries, with_orders, with_strategies}
use Rattle.rules.specs.Moves.{Moved, and_then}
use Rattle.rules.specs.Fills.{cut, cut_leg, whole_fill, take_legs, leg_fill, leg_trade, cancel_entry, cancel_order}
use Rattle.rules.specs.Valid.{Sound}
use Rattle.rules.specs.Auctions.{with_auction, put_auction, begin, close, answer}
use Rattle.rules.proofs.Shrinks.{Shrinks, set-by, whole-shrinks, legs-shrinks, trade-shrinks, cancel-shrinks, cancel_order-shrinks, begin-shrinks, close-shrinks, answer-shrinks}
use Rattle.rules.proofs.Control.{Kept}
use Rattle.records.specs.Done.{Done}
use Rattle.ranges.specs.Fit.{Fit, fit-entry, fit-sound, fit-shrinks}
use Rattle.records.specs.declared.Records.{Records}

-- an auction: the number of its starter, and the clock at its start
pub record FitAuction (s : Strategy) : Type 0 where
  pub starter : s.starter ≤ 100_000
  pub begun : s.begun ≤ 86_400_000

pub record Ranged (b : State) : Type 0 where
  pub fit : Fit b
  pub auction : (k : ℕ) → FitAuction (strategy_at b k)
  pub clock : b.clock ≤ 86_400_000
  pub timer : b.timer ≤ 5000

-- the auctions after a move
abbrev Auctions : State → Type 0
Auctions b = (k : ℕ) → FitAuction (strategy_at b k)

ranged : {b c : State} → Shrinks b c → Auctions c → Ranged b → Ranged c
ranged s a r = record { fit = fit-shrinks s r.fit; auction = a; clock = omega (arith, s.clock, r.clock); timer = omega (arith, s.timer, r.timer) }

whole-auctions : (b : State) (a h level q : ℕ) → Auctions b → Auctions (whole_fill b a h level q).state
unfolding whole_fill cut with_entries
whole-auctions b a h level q u = pick_all (λ (m : Moved). Auctions m.state) _ u u

legs-auctions : (b : State) (a : ℕ) → Auctions b → Auctions (leg_fill a b).state
unfolding leg_fill take_legs cut with_entries with_orders
legs-auctions b a u = u

trade-auctions : (b : State) (a h : ℕ) → Auctions b → Auctions (leg_trade b a h).state
unfolding leg_trade cut_leg with_orders
trade-auctions b a h u = u

cancel-auctions : (b : State) (i : ℕ) → Auctions b → Auctions (cancel_entry i b).state
unfolding cancel_entry cut with_entries
cancel-auctions b i u = pick_all (λ (m : Moved). Auctions m.state) _ u u

cancel_order-auctions : (b : State) (i : ℕ) → Auctions b → Auctions (cancel_order i b).state
unfolding cancel_order cut_leg with_orders
cancel_order-auctions b i u = pick_all (λ (m : Moved). Auctions m.state) _ u u

put-auctions : (b : State) (k n t : ℕ) (a : Bool) → n ≤ 100_000 → t ≤ 86_400_000 → Auctions b → Auctions (put_auction b k n t a)
unfolding put_auction with_strategies
put-auctions b k n t a x y u j = set-by FitAuction no_strategy (with_auction (strategy_at b k) n t a) b.strategies k j (u j) (λ _. record { starter = x; begun = y })

begin-auctions : (b : State) (i : ℕ) → Ranged b → Auctions (begin i b).state
unfolding begin
begin-auctions b i r = put-auctions b _ _ _ _ (fit-entry r.fit.entries i).number r.clock r.auction

close-auctions : (b : State) (k : ℕ) → Ranged b → Auctions (close k b).state
unfolding close
close-auctions b k r = put-auctions b k 0 0 _ (omega arith) (omega arith) r.auction

answer-auctions : (b : State) (k side : ℕ) → Ranged b → Auctions (answer k side b)
unfolding answer
answer-auctions b k side r = pick_all Auctions _ (put-auctions b k _ _ _ (r.auction k).starter (r.auction k).begun r.auction) r.auction

pub ranged-kept : Kept (λ (b : State) (m : Moved). Ranged b → Ranged m.state)
unfolding and_then
ranged-kept = record {
  nothing = λ b r. r;
  both = λ b x f h k r. k (h r);
  whole = λ b a h level q p r. ranged (whole-shrinks b a h level q) (whole-auctions b a h level q r.auction) r;
  legs = λ b a l r. ranged (legs-shrinks b r.fit.order_rows a) (legs-auctions b a r.auction) r;
  trade = λ b a h t r. ranged (trade-shrinks b a h) (trade-auctions b a h r.auction) r;
  cancel = λ b i r. ranged (cancel-shrinks b i) (cancel-auctions b i r.auction) r;
  cancel_order = λ b i r. ranged (cancel_order-shrinks b i) (cancel_order-auctions b i r.auction) r;
  begins = λ b i r. ranged (begin-shrinks b i) (begin-auctions b i r) r;
  closes = λ b k r. ranged (close-shrinks b k) (close-auctions b k r) r;
  answers = λ b k side r. ranged (answer-shrinks b k side) (answer-auctions b k side r) r;
}

no-auction : FitAuction no_strategy
no-auction = record { starter = omega arith; begun = omega arith }

-- a sound state
pub ranged-sound : {b : State} → Sound b → Ranged b
ranged-sound s = record {
  fit = fit-sound s;
  auction = λ k. all-at {P = FitAuction} no_strategy no-auction (all_map (λ t f. record { starter = f.starter; begun = f.begun }) s.strategies) k;
  clock = s.clock;
  timer = s.timer.1;
}

-- the state that a function left
pub ranged-done : {r₀ r₁ : Records} {b c : State} {x : Moved} → Done r₀ r₁ c x → (Ranged b → Ranged x.state) → Ranged b → Ranged c
ranged-done d k r = rw d.state (k r)
