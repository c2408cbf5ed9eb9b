-- "Complex order: if a series is shut, day rests and others are cancelled. If an auction runs, do-not-auction is cancelled and others wait.
-- Otherwise class 1 or 2 with life 0 or 1 starts an auction if .. Else a shared pass; then day rests, others are cancelled."
use mathlib.Core.Path.{◌≡◌, refl, sym, ◌∙◌, ap}
use mathlib.Core.Bool.{Bool, true, false}
use mathlib.Core.Logic.{◌⊎◌, inl, inr, ⊎_elim}
use mathlib.Core.List.{[], ◌∷◌, append-nil}
use Prim.Native.Nat.{ℕ, ◌≤◌, ◌<◌}
use native.Mathlib.Omega.{arith}
use borrow.Author.Tests.{eqb-true, eqb-false, eq-eqb, ne_eqb}
use lib.Dec.{eqb}
use lib.ListN.{length}
use Rattle.base.specs.Pick.{pick, pick_all, pick-by, pick_true, pick-false, pick_yes}
use Rattle.base.specs.Walks.{lt-or-le}
use Rattle.events.specs.declared.Order.{Order as GivenOrder}
use Rattle.events.specs.declared.Event.TheVariants as E
use Rattle.rules.specs.declared.Strategy.{Strategy}
use Rattle.rules.specs.declared.Entry.{Entry}
use Rattle.rules.specs.declared.State.{State}
use Rattle.rules.specs.declared.Kind.TheVariants.{Cancelled}
use Rattle.rules.specs.declared.Allocation.TheVariants.{Shared}
use Rattle.rules.specs.State.{entry_at, strategy_at, with_strategies}
use Rattle.rules.specs.Moves.{Moved, still, and_then}
use Rattle.rules.specs.Fills.{cancel_entry}
use Rattle.rules.specs.Passes.{opposite, pass}
use Rattle.rules.specs.Auctions.{put_auction, begin, answer}
use Rattle.rules.specs.Events.{enter, free_slot, rest_or_cancel, may_start, starts, waits, trades, arrive, on_order}
use Rattle.rules.specs.Given.{order_given}
use Rattle.rules.specs.Step.{accept}
use Rattle.rules.specs.Valid.{Sound}
use Rattle.rules.specs.Sentences.{AcceptedEvent, Runs, Open, MeetsNone, LegsMeetNone, BarredHere, AheadShared, CancelsIt, StartsOne, Begins, PassesIt, OrderSentence}
use Rattle.rules.proofs.Shrinks.{Shrinks, shrinks-refl, cancel-shrinks}
use Rattle.rules.proofs.Entering.{fit-entry-at}
use Rattle.rules.proofs.Settled.{cancel-other, cancel-dead, cancel-strategies, only-sound}
use Rattle.rules.proofs.Only.{Only, pass-only}
use Rattle.rules.proofs.Arrivals.{put-at, put_entries_lem, answer-entries, may-class, may-life, Arrived, enter-arrived}
use Rattle.rules.proofs.Ends.{pass-why}
use Rattle.rules.proofs.Validity.{order-clear}
use Rattle.rules.proofs.Cancels.{cancel-orders}
use Rattle.rules.proofs.Groups.{shared-static, none-alone, none-trans, shared-pass}
use Rattle.rules.proofs.Clocks.{runs, runs-not}
use Rattle.rules.proofs.Sweeps.{answers_at}
use Rattle.rules.proofs.LegOrders.{open-all, all-open}
use Rattle.rules.proofs.BetterNets.{better-yes, better-known}
use Rattle.rules.proofs.PassEnds.{meets-none, turn-within, shared-had}

-- a test that is not true
not_so : {t : Bool} → (t ≡ true → ⊥) → t ≡ false
not_so {t} h = by t refl
  where
    by : (u : Bool) → t ≡ u → t ≡ false
    by true e = absurd (h e)
    by false e = e

-- WHO STARTS AN AUCTION
may-start : (e : Entry) → (e.class ≡ 1) ⊎ (e.class ≡ 2) → e.life ≤ 1 → may_start e ≡ true
unfolding may_start
may-start e c l =
    pick_true _ _ _ (⊎_elim (λ z. pick_true _ _ _ (eq-eqb _ _ z)) (λ z. pick-by (λ (t : Bool). t ≡ true) _ (λ _. refl) (λ _. eq-eqb _ _ z)) c)
    ∙ pick-by (λ (t : Bool). t ≡ true) _ (λ _. refl) (λ q. let z : ¬ (e.life ≡ 0) = eqb-false _ _ q in eq-eqb e.life 1 (omega arith))

starts_by_lem : (b : State) (e : Entry) → StartsOne b e → starts b e ≡ true
unfolding starts
starts_by_lem b e s = pick_true _ _ _ (may-start e s.class s.life) ∙ better-yes b e.side e.strategy e.level false s.limit

class-two : (c : ℕ) → (1 ≤ c) × (c ≤ 2) → (c ≡ 1) ⊎ (c ≡ 2)
class-two c (l, m) = ⊎_elim (λ (h : c < 2). inl (omega arith)) (λ (h : 2 ≤ c). inr (omega arith)) (lt-or-le c 2)

starts-why : (b : State) (e : Entry) → e.side ≤ 1 → starts b e ≡ true → StartsOne b e
unfolding starts
starts-why b e one h =
    let p = pick_yes (may_start e) h in
    record {
      class = class-two e.class (may-class e p.0);
      life = may-life e p.0;
      limit = better-known b e.side e.strategy e.level one p.1;
    }

-- THE PARTS
module _ (b : State) (a : ℕ) (some : 0 < (entry_at b a).units) where
  cancels-it : CancelsIt b a (cancel_entry a b)
  unfolding cancel_entry
  cancels-it = record { records = lines; ended = cancel-dead b a; others = cancel-other b a; strategies = cancel-strategies b a; orders = cancel-orders b a }
    where
      lines : (cancel_entry a b).records ≡ record { kind = Cancelled; number = (entry_at b a).number; place = 0; side = (entry_at b a).side; quantity = (entry_at b a).units; level = 10_000_000 } ∷ []
      lines =
          pick-by (λ (m : Moved). m.records ≡ record { kind = Cancelled; number = (entry_at b a).number; place = 0; side = (entry_at b a).side; quantity = (entry_at b a).units; level = 10_000_000 } ∷ [])
          (eqb (entry_at b a).units 0) (λ z. absurd (omega (arith, eqb-true (entry_at b a).units 0 z))) (λ _. refl)

rest-day : (b : State) (a : ℕ) → (entry_at b a).life ≡ 0 → rest_or_cancel a b ≡ still b
unfolding rest_or_cancel
rest-day b a e = pick_true _ _ _ (eq-eqb _ _ e)

rest-other : (b : State) (a : ℕ) → ((entry_at b a).life ≡ 0 → ⊥) → rest_or_cancel a b ≡ cancel_entry a b
unfolding rest_or_cancel
rest-other b a h = pick-false _ _ _ (ne_eqb _ _ h)

pub rest-alone : (b : State) (a j : ℕ) → (j ≡ a → ⊥) → entry_at (rest_or_cancel a b).state j ≡ entry_at b j
unfolding rest_or_cancel
rest-alone b a j n = pick_all (λ (m : Moved). entry_at m.state j ≡ entry_at b j) _ refl (cancel-other b a j n)

rest-strategies : (b : State) (a : ℕ) → (rest_or_cancel a b).state.strategies ≡ b.strategies
unfolding rest_or_cancel
rest-strategies b a = pick_all (λ (m : Moved). m.state.strategies ≡ b.strategies) _ refl (cancel-strategies b a)

rest-shrinks : (b : State) (a : ℕ) → Shrinks b (rest_or_cancel a b).state
unfolding rest_or_cancel
rest-shrinks b a = pick_all (λ (m : Moved). Shrinks b m.state) _ (shrinks-refl b) (cancel-shrinks b a)

answer-orders : (b : State) (k side : ℕ) → (answer k side b).orders ≡ b.orders
unfolding answer put_auction with_strategies
answer-orders b k side = pick_all (λ (c : State). c.orders ≡ b.orders) _ refl refl

waits-other : (b : State) (a : ℕ) → ((entry_at b a).life ≡ 3 → ⊥) → waits a b ≡ still (answer (entry_at b a).strategy (entry_at b a).side b)
unfolding waits
waits-other b a h = pick-false _ _ _ (ne_eqb _ _ h)

waits-never : (b : State) (a : ℕ) → (entry_at b a).life ≡ 3 → waits a b ≡ cancel_entry a b
unfolding waits
waits-never b a e = pick_true _ _ _ (eq-eqb _ _ e)

begins-it : (b : State) (a : ℕ) → (entry_at b a).strategy < length b.strategies → Begins b a (begin a b)
unfolding begin put_auction with_strategies
begins-it b a l =
    let k : ℕ = (entry_at b a).strategy in
    let e = put-at b k (entry_at b a).number b.clock false l in
    record {
      records = refl;
      entries = put_entries_lem b k (entry_at b a).number b.clock false;
      orders = put-orders b k (entry_at b a).number b.clock false;
      starter = ap (λ (t : Strategy). t.starter) e;
      begun = ap (λ (t : Strategy). t.begun) e;
      answered = ap (λ (t : Strategy). t.answered) e;
    }
  where
    put-orders : (b : State) (k n t : ℕ) (x : Bool) → (put_auction b k n t x).orders ≡ b.orders
    put-orders b k n t x = refl

-- what a pass leaves: no opposite limit meets its own, or the fill that it came to is barred
module _ (b : State) (v : Sound b) (a : ℕ) where
  abbrev c : State
  c = (pass Shared true a b).state

  passed : Only (entry_at b a).strategy b c
  passed = pass-only (entry_at b a).strategy Shared true a b v.order_rows refl

  sound-c : Sound c
  sound-c = only-sound passed v

  rests-apart : 0 < (entry_at c a).units → (MeetsNone c a × LegsMeetNone c a) ⊎ BarredHere c a true
  unfolding opposite
  rests-apart left = ⊎_elim (λ u. absurd (omega arith)) (λ r. ⊎_elim (λ n. inl (meets-none a c sound-c n.limit, n.legs)) inr r) (pass-why Shared true a b)

  passes-it : PassesIt b a (trades a b)
  unfolding trades and_then
  passes-it =
      let same : (entry_at c a).life ≡ (entry_at b a).life = (passed.shrinks.entry a).life in
      let day : (entry_at b a).life ≡ 0 → rest_or_cancel a c ≡ still c = λ e. rest-day c a (same ∙ e) in
      record {
        passes_none = none-trans AheadShared shared-static a passed.shrinks (rest-shrinks c a) (shared-pass true a b v)
            (none-alone AheadShared shared-static a c (rest_or_cancel a c).state (rest-alone c a));
        strategies = rest-strategies c a ∙ passed.strategies;
        cancelled = λ h. rw (rest-other c a (λ q. h (sym same ∙ q))) (cancel-dead c a);
        had = turn-within (shrinks-refl b) (shared-had true a b v) (rest-shrinks c a);
        stays = λ e. rw (day e, append-nil (pass Shared true a b).records);
        rests = λ e. rw (day e) rests-apart;
      }

-- THE SENTENCE, of an order that has arrived
module _ (b : State) (a : ℕ) (x : Arrived b a) where
  abbrev mine : ℕ
  mine = (entry_at b a).strategy

  is-shut : (Open b mine → ⊥) → arrive a b ≡ rest_or_cancel a b
  unfolding arrive
  is-shut h = pick-false _ _ _ (not_so (λ e. h (open-all b mine e)))

  is-waiting : Runs b mine → arrive a b ≡ waits a b
  unfolding arrive
  is-waiting r = pick_true _ _ _ (x.legs mine (runs b mine r)) ∙ pick_true _ _ _ (runs b mine r)

  is_free : Open b mine → (strategy_at b mine).starter ≡ 0 → arrive a b ≡ pick (starts b (entry_at b a)) (begin a b) (trades a b)
  unfolding arrive
  is_free o z = pick_true _ _ _ (all-open b mine o) ∙ pick-false _ _ _ (runs-not b mine z)

  arrive-sentence : OrderSentence b a (arrive a b)
  arrive-sentence = record {
    shut_rests = λ h e. is-shut h ∙ rest-day b a e;
    shut_cancels = λ h e. rw (is-shut h ∙ rest-other b a e) (cancels-it b a x.live);
    auction_cancels = λ r e. rw (is-waiting r ∙ waits-never b a e) (cancels-it b a x.live);
    auction_waits = λ r e. rw (is-waiting r ∙ waits-other b a e) (refl, answer-entries b mine (entry_at b a).side, answer-orders b mine (entry_at b a).side);
    answers = λ r e. rw (is-waiting r ∙ waits-other b a e) (answers_at b x.sound mine (entry_at b a).side (fit-entry-at b x.sound a).side (fit-entry-at b x.sound a).strategy);
    begins = λ o z s. rw (is_free o z ∙ pick_true _ _ _ (starts_by_lem b (entry_at b a) s)) (begins-it b a (omega (arith, x.sound.strategy_rows, x.sound.defined, (x.sound.live a x.live).strategy)));
    passes = λ o z s. rw (is_free o z ∙ pick-false _ _ _ (not_so (λ q. s (starts-why b (entry_at b a) (fit-entry-at b x.sound a).side q)))) (passes-it b x.sound a);
  }

-- THE SENTENCE
pub order-sentence : (b : State) (e : GivenOrder) → AcceptedEvent b (E.Order e) → OrderSentence (enter (order_given b e) b) (free_slot b) (accept b (E.Order e))
unfolding accept on_order
order-sentence b e a =
    arrive-sentence (enter (order_given b e) b) (free_slot b) (enter-arrived b (order_given b e) a.valid (order-clear b e a.valid.sound a.fit a.clear))
