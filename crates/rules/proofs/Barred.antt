-- What is barred is outside the range (2026-01): after every list of a day that goes on, a fill that a party may not take is a cent or more beyond the
-- national net and the range that the list said, and no price of that net is missing.
use mathlib.Core.Path.{◌≡◌, refl, sym, ap, subst}
use mathlib.Core.Bool.{true, false, not}
use mathlib.Core.Logic.{◌⊎◌, inl, inr, ⊎_elim}
use mathlib.Core.List.{List, [], append-nil}
use Prim.Native.Nat.{ℕ, zero, suc, ◌+◌, ◌≤◌, ◌<◌}
use native.Mathlib.Omega.{arith}
use borrow.Author.Tests.{eq-eqb, ne_eqb}
use lib.Dec.{eqb}
use Rattle.base.specs.Walks.{clash}
use Rattle.events.specs.declared.Strategy.{Strategy as GivenStrategy}
use Rattle.rules.specs.declared.Bounds.{Bounds}
use Rattle.rules.specs.declared.State.{State}
use Rattle.rules.specs.State.{fresh, strategy_at}
use Rattle.rules.specs.National.{national_net, bounds_of, bounds_at, may_buy, may_sell, may_take, may_meet}
use Rattle.rules.specs.Given.{strategy_given}
use Rattle.rules.specs.Valid.{Valid}
use Rattle.rules.specs.Totals.{Sent, Logged, after, run, Answered, OneDay, range_said, price_said, NetSaid, AboveRange, BelowRange}
use Rattle.rules.proofs.Levels.{cents-le, cents-plus, cents-below}
use Rattle.rules.proofs.Numbers.{Open}
use Rattle.rules.proofs.Origins.{HasLegs, settled-legs, lean-after, lean-fresh}
use Rattle.rules.proofs.Known.{quotes_said, quotes-most, bounds-known}
use Rattle.rules.proofs.NetsSaid.{net-said, net-missing}
use Rattle.rules.proofs.Nationals.{bound-sentence}

ends : (b : State) → OneDay (run b [])
unfolding run
ends b = tt

-- strategy k, which event e of the list defined
module _ (timer : ℕ) (v : Valid (fresh timer)) (ys : List Sent) (o : Open (fresh timer) ys) (k : ℕ) (e : GivenStrategy) (a : Answered e k (run (fresh timer) ys)) (d : k < (after (fresh timer) ys).defined) where
  abbrev log : List Logged
  log = run (fresh timer) ys

  abbrev w : Bounds
  w = bounds_at (after (fresh timer) ys) k

  abbrev net : ℕ → ℕ
  net side = national_net (quotes_said log) side (strategy_given e)

  h : HasLegs (strategy_at (after (fresh timer) ys) k) e
  h = settled-legs (fresh timer) ys [] e k v o (ends (after (fresh timer) ys)) (subst (λ (xs : List Sent). Answered e k (run (fresh timer) xs)) (sym (append-nil ys)) a) d

  bounds : w ≡ bounds_of (quotes_said log) (range_said 9999 log) (strategy_given e)
  bounds = bounds-known timer ys v k e h ((lean-after (fresh timer) ys v (lean-fresh timer) o).padded k d)

  -- a net that bounds has all its prices
  all_said : (side : ℕ) → side ≤ 1 → 0 < net side → NetSaid log e side
  all_said side two some i l = by (price_said log e side i) refl
    where
      by : (p : ℕ) → price_said log e side i ≡ p → 0 < p
      by zero z = absurd (omega (arith, some, net-missing log e h.definition side two (quotes-most timer ys v) i l z))
      by (suc p) z = omega arith

  pub buy-barred : (level : ℕ) → may_buy w level ≡ false → AboveRange log e level
  unfolding bounds_of
  buy-barred level f =
      let b = bound-sentence (bounds_of (quotes_said log) (range_said 9999 log) (strategy_given e)) true false level in
      let p = b.above (rw bounds at f) in
      let said : NetSaid log e 0 = all_said 0 (omega arith) p.0 in
      let n = net-said log e h.definition 0 (omega arith) (quotes-most timer ys v) said in
      record {
        said = said;
        above = rw (← n.net, cents-plus (net 0) (range_said 9999 log + 1)) (cents-le (net 0 + (range_said 9999 log + 1)) level (omega (arith, p.1)));
      }

  pub sell-barred : (level : ℕ) → may_sell w level ≡ false → BelowRange log e level
  unfolding bounds_of
  sell-barred level f =
      let b = bound-sentence (bounds_of (quotes_said log) (range_said 9999 log) (strategy_given e)) true false level in
      let p = b.below (rw bounds at f) in
      let said : NetSaid log e 1 = all_said 1 (omega arith) p.0 in
      let n = net-said log e h.definition 1 (omega arith) (quotes-most timer ys v) said in
      record { said = said; below = rw (← n.net) (cents-below (net 1) (range_said 9999 log + 1) level (omega (arith, p.1))) }

  -- BY THE LEGS: its one complex party may not
  pub take-barred : (side level : ℕ) → may_take w side level ≡ false → (side ≡ 0 → AboveRange log e level) × (side ≡ 1 → BelowRange log e level)
  take-barred side level f =
      let why = (bound-sentence w (eqb side 0) (not (eqb side 0)) level).either f in (
        λ s. buy-barred level (⊎_elim (λ p. p.1) (λ p. absurd (clash p.0 (ap not (eq-eqb side 0 s)))) why),
        λ s. sell-barred level (⊎_elim (λ p. absurd (clash p.0 (ne_eqb side 0 (λ z. omega arith)))) (λ p. p.1) why),
      )

  -- WHOLE AGAINST WHOLE: the one that buys may not, or the one that sells
  pub meet-barred : (level : ℕ) → may_meet w level ≡ false → AboveRange log e level ⊎ BelowRange log e level
  meet-barred level f = ⊎_elim (λ p. inl (buy-barred level p.1)) (λ p. inr (sell-barred level p.1)) ((bound-sentence w true true level).either f)
