-- A sweep against the leg net of its side, from the log alone (2026-03): that net is the sum, in cents, of the best prices that the list left, over
-- the legs of the event that defined the strategy; and where a price is missing there is none.
use Rattle.std.specs.Prelude.{Ok}
use mathlib.Core.Path.{◌≡◌, refl, sym, ◌∙◌, ap}
use mathlib.Core.Bool.{true}
use mathlib.Core.Logic.{⊎_elim}
use mathlib.Core.List.{List}
use Prim.Native.Nat.{ℕ, zero, suc, ◌≤◌, ◌<◌}
use native.Mathlib.Omega.{arith}
use lib.Dec.{eqb}
use lib.ListN.{get_or}
use Rattle.base.specs.Pick.{pick, pick-by}
use Rattle.base.specs.All.{all-at}
use Rattle.events.specs.declared.Event.TheVariants as E
use Rattle.events.specs.declared.Strategy.{Strategy as GivenStrategy}
use Rattle.events.specs.declared.Sweep.{Sweep as GivenSweep}
use Rattle.frames.specs.Frames.{read_of}
use Rattle.rules.specs.declared.Leg.{Leg}
use Rattle.rules.specs.declared.State.{State}
use Rattle.rules.specs.State.{no_leg, no_strategy, fresh, strategy_at, leg_at, own_net}
use Rattle.rules.specs.Sides.{other, leg_side}
use Rattle.rules.specs.Nets.{price_of, net_of, betters}
use Rattle.rules.specs.Given.{legs_given, strategy_given}
use Rattle.rules.specs.Step.{Outcome, value_of, refused}
use Rattle.rules.specs.Records.{cents}
use Rattle.rules.specs.Valid.{FitStrategy, Valid}
use Rattle.rules.specs.Sentences.{BetterThanNet, above-bid, below-offer, NoBetterThanNet, not-above-bid, not-below-offer, SweepMay}
use Rattle.rules.specs.Fits.{FitSweepGiven}
use Rattle.rules.specs.Totals.{Sent, Logged, outcome, after, run, net_over, OneDay, BestSaid, Bettered, NotBettered}
use Rattle.rules.proofs.Entering.{fit-past}
use Rattle.rules.proofs.Strategies.{defined-fit}
use Rattle.rules.proofs.Laws.{leg-side}
use Rattle.rules.proofs.Ratios.{Padded, given-padded}
use Rattle.rules.proofs.Levels.{cents-le, cents-lt}
use Rattle.rules.proofs.Lists.{done, Went, refused_as, accepted_as, went, after-valid, event-same, event-fits}
use Rattle.rules.proofs.Tables.{positive}
use Rattle.rules.proofs.Causes.{sweep-may}
use Rattle.rules.proofs.Origins.{HasLegs}
use Rattle.rules.proofs.Nets.{prices_by, same-net, given, net-said, net-missing}
use Rattle.rules.proofs.BetterNets.{own-net, price-most, better-why, betters-it}
use Rattle.rules.proofs.LegBooks.{best-said, said-best}

-- a sweep that came in: its strategy is defined, and its limit betters the net of its side
pub record Arrived (b : State) (s : GivenSweep) : Type 0 where
  pub defined : s.strategy < b.defined
  pub betters : betters true s.side s.level (own_net b s.side s.strategy) ≡ true

-- an accepted one whose value is not 0
pub arrived : (b : State) → Valid b → (x : Sent) (s : GivenSweep) → read_of x.frame ≡ Ok (E.Sweep s) → (outcome b x).answer ≡ 0 → ((outcome b x).value ≡ 0 → ⊥) → Arrived b s
unfolding refused value_of
arrived b v x s p a some = go (went b x)
  where
    go : Went b x → Arrived b s
    go (refused_as n k e) = absurd (k (ap (λ (y : Outcome). y.answer) (sym e) ∙ a))
    go (accepted_as e q c r) =
        let z : e ≡ E.Sweep s = event-same (sym q ∙ p) in
        let f : FitSweepGiven s = event-fits x (E.Sweep s) p in
        let m : SweepMay b s = sweep-may b v s f (rw z at c) in
        let units : 0 < s.units = pick-by (λ (n : ℕ). (n ≡ 0 → ⊥) → 0 < s.units) (eqb s.units 0) (λ _ h. absurd (h refl)) (λ t _. positive s.units t) (λ w. some (ap (λ (y : Outcome). y.value) (r ∙ ap (done b) z) ∙ w)) in
        record { defined = m.defined; betters = betters-it b s.side s.strategy s.level v.sound f.side (m.betters units) }

-- strategy k, which has the legs of event e, after a list of a day
module _ (timer : ℕ) (v : Valid (fresh timer)) (xs : List Sent) (day : OneDay (run (fresh timer) xs)) (k : ℕ) (e : GivenStrategy)
    (h : HasLegs (strategy_at (after (fresh timer) xs) k) e) (padded : Padded (strategy_at (after (fresh timer) xs) k)) where
  abbrev log : List Logged
  log = run (fresh timer) xs

  abbrev b : State
  b = after (fresh timer) xs

  abbrev leg : ℕ → Leg
  leg i = get_or (legs_given e) i no_leg

  -- the price of a leg that the own net of an entry of a side takes
  abbrev price : ℕ → Leg → ℕ
  price side l = price_of b.orders l.series (leg_side side l)

  module _ (side : ℕ) (two : side ≤ 1) where
    net-given : own_net b side k ≡ net_of (strategy_given e) (prices_by (price side) (strategy_given e))
    unfolding strategy_given
    net-given =
        let u = (after-valid (fresh timer) xs v).sound in
        let fit : FitStrategy (strategy_at b k) = all-at no_strategy fit-past u.strategies k in
        own-net b u side k two
        ∙ same-net (strategy_at b k) (strategy_given e) (record { padded = padded; used = fit.used }) (record { padded = given-padded e h.definition; used = (defined-fit (legs_given e) e.count h.definition).used }) h.same
        (price side) (price side) (λ i l. refl)

    most : (i : ℕ) → price side (leg_at (strategy_given e) i) ≤ 99_999
    most i = price-most b.orders (after-valid (fresh timer) xs v).sound.orders _ _

    given-price : (i : ℕ) → price side (given e h.definition i) ≡ price side (leg i)
    unfolding leg_side
    given-price i = refl

    abbrev Prices : (ℕ → ℕ) → Type 0
    Prices prices = (i : ℕ) → i < e.count → BestSaid log (leg i).series (leg_side side (leg i)) (prices i)

    -- where the log says them all, the net is known and is their sum
    own-said : (prices : ℕ → ℕ) → Prices prices → (0 < own_net b side k) × (cents (own_net b side k) ≡ net_over e prices e.count)
    unfolding strategy_given
    own-said prices p =
        let best : (i : ℕ) → i < e.count → (0 < prices i) × (price side (leg i) ≡ prices i) = λ i l. best-said timer v xs day (leg i).series (leg_side side (leg i)) (prices i) (leg-side side (leg i) (h.definition.side i l)) (p i l) in
        let s = net-said e h.definition (price side) most prices (λ i l. given-price i ∙ (best i l).1) (λ i l. (best i l).0) in
        (rw net-given s.known, rw net-given s.net)

    -- where the net is known, the log says them all
    own-prices : 0 < own_net b side k → Prices (λ (i : ℕ). price side (leg i))
    unfolding strategy_given
    own-prices some i l = said-best timer v xs day (leg i).series (leg_side side (leg i)) (by (price side (leg i)) refl)
      where
        by : (p : ℕ) → price side (leg i) ≡ p → 0 < p
        by zero z = absurd (omega (arith, some, net-given, net-missing e h.definition (price side) most (λ (j : ℕ). price side (leg j)) (λ j m. given-price j) i l z))
        by (suc p) z = omega arith

  buys : (l : Leg) → leg_side 0 l ≡ l.side
  unfolding leg_side pick
  buys l = refl

  sells : (l : Leg) → leg_side 1 l ≡ other l.side
  unfolding leg_side pick
  sells l = refl

  -- A SWEEP THAT BETTERS THE BOOK'S NET betters the net that the log says
  higher : (level : ℕ) → betters true 0 level (own_net b 0 k) ≡ true → 0 < own_net b 0 k → own_net b 0 k < level
  unfolding other pick
  higher level t some = ⊎_elim (λ z. absurd (omega (arith, z.0))) by (better-why b 0 k level (omega arith) true t)
    where
      by : BetterThanNet b 0 k level → own_net b 0 k < level
      by (above-bid q m g) = g
      by (below-offer q m g) = absurd (omega arith)

  lower : (level : ℕ) → betters true 1 level (own_net b 1 k) ≡ true → 0 < own_net b 1 k → level < own_net b 1 k
  unfolding other pick
  lower level t some = ⊎_elim (λ z. absurd (omega (arith, z.0))) by (better-why b 1 k level (omega arith) true t)
    where
      by : BetterThanNet b 1 k level → level < own_net b 1 k
      by (above-bid q m g) = absurd (omega arith)
      by (below-offer q m g) = g

  pub bettered-said : (s : GivenSweep) → betters true s.side s.level (own_net b s.side k) ≡ true → Bettered log e s
  bettered-said s t = record {
    buy = λ z prices p.
        let n = own-said 0 (omega arith) prices (λ i l. rw (buys (leg i)) (p i l)) in
        rw (← n.1) (cents-lt _ _ (higher s.level (rw z at t) n.0));
    sell = λ z prices p.
        let n = own-said 1 (omega arith) prices (λ i l. rw (sells (leg i)) (p i l)) in
        rw (← n.1) (cents-lt _ _ (lower s.level (rw z at t) n.0));
  }

  -- .. and one that does not, does not
  pub not-said : (s : GivenSweep) → NoBetterThanNet b s.side k s.level → NotBettered log e s
  unfolding other leg_side pick
  not-said s (not-above-bid z some g) =
      let p = own-prices 0 (omega arith) some in
      let n = own-said 0 (omega arith) (λ (i : ℕ). price 0 (leg i)) p in
      record {
        price = λ (i : ℕ). price 0 (leg i);
        buy = λ _. (λ i l. rw (buys (leg i)) at (p i l), rw (← n.1) (cents-le _ _ g));
        sell = λ y. absurd (omega arith);
      }
  not-said s (not-below-offer z some g) =
      let p = own-prices 1 (omega arith) some in
      let n = own-said 1 (omega arith) (λ (i : ℕ). price 1 (leg i)) p in
      record {
        price = λ (i : ℕ). price 1 (leg i);
        buy = λ y. absurd (omega arith);
        sell = λ _. (λ i l. rw (sells (leg i)) at (p i l), rw (← n.1) (cents-le _ _ g));
      }
