-- The specialist of each strategy is the one that the list of events named last (2026-04): for every list, any number of days.
use Rattle.std.specs.Prelude.{Result, Ok}
use mathlib.Core.Path.{◌≡◌, refl, sym, ◌∙◌, ap}
use mathlib.Core.Bool.{Bool, true, false}
use mathlib.Core.List.{List, [], ◌∷◌}
use Prim.Native.Nat.{ℕ, ◌≤◌, ◌<◌}
use native.Mathlib.Omega.{arith}
use borrow.Author.Tests.{eqb-true, eqb-false, ne_eqb, leb-false}
use lib.Dec.{eqb}
use lib.ListN.{get_or, replicate, set}
use lib.Seq.{get_or-set_same, get_or-set_other}
use Rattle.base.specs.Pick.{pick, pick_all, pick-by, pick_true, pick-false}
use Rattle.base.specs.All.{all-at, all_replicate}
use Rattle.events.specs.declared.Refusal.{Refusal}
use Rattle.events.specs.declared.Event.{Event}
use Rattle.events.specs.declared.Event.TheVariants as E
use Rattle.events.specs.declared.Strategy.{Strategy as GivenStrategy}
use Rattle.frames.specs.Frames.{read_of}
use Rattle.rules.specs.declared.Specialist.{Specialist}
use Rattle.rules.specs.declared.Strategy.{Strategy}
use Rattle.rules.specs.declared.Entry.{Entry}
use Rattle.rules.specs.declared.LegOrder.{LegOrder}
use Rattle.rules.specs.declared.State.{State}
use Rattle.rules.specs.Sizes.{strategy_slots}
use Rattle.rules.specs.State.{no_strategy, no_specialist, free_strategy, strategy_at, fresh, with_entries, with_orders, with_strategies, with_opened, with_clock, with_last, with_national, with_range, with_nets}
use Rattle.rules.specs.Moves.{Moved, and_then}
use Rattle.rules.specs.Strategies.{defined, held, added, define}
use Rattle.rules.specs.Specialists.{with_specialist, on_specialist}
use Rattle.rules.specs.National.{on_national, on_range}
use Rattle.rules.specs.Fills.{cut, cut_leg, whole_fill, take_legs, leg_fill, leg_trade, cancel_entry, cancel_order}
use Rattle.rules.specs.Auctions.{put_auction, begin, close, answer}
use Rattle.rules.specs.Events.{live, enter, enter_order, on_order, old_sweep, enter_sweep, on_sweep, on_leg_order, on_clock, on_series, restart, on_day_end}
use Rattle.rules.specs.Given.{strategy_given, order_given, sweep_given, leg_order_given, specialist_given}
use Rattle.rules.specs.Step.{Outcome, accept, refused}
use Rattle.rules.specs.Refusals.{first_cause, causes, undefined}
use Rattle.rules.specs.Fits.{FitEvent}
use Rattle.rules.specs.Valid.{Valid}
use Rattle.rules.specs.Totals.{Sent, outcome, after, run, specialist_after, named_last}
use Rattle.rules.proofs.Gives.{whole-strategies}
use Rattle.rules.proofs.Control.{Kept, on_order-kept, on_leg_order-kept, cancel_number-kept, on_clock-kept, shut-kept, reopen-kept}
use Rattle.rules.proofs.Shrinks.{set-by}
use Rattle.rules.proofs.Validity.{clear}
use Rattle.rules.proofs.Numbers.{Plain, accept-kin}
use Rattle.rules.proofs.Lists.{Went, refused_as, accepted_as, went, event-fits, next, next-valid}

-- every strategy has the specialist that it had
abbrev Named : State → State → Type 0
Named b c = (k : ℕ) → (strategy_at c k).specialist ≡ (strategy_at b k).specialist

named-same : (b c : State) → c.strategies ≡ b.strategies → Named b c
named-same b c e k = ap (λ (ss : List Strategy). (get_or ss k no_strategy).specialist) e

-- the auction of a strategy changed
named_put : (b : State) (k n t : ℕ) (a : Bool) → Named b (put_auction b k n t a)
unfolding put_auction with_strategies
named_put b k n t a j = set-by (λ (s : Strategy). s.specialist ≡ (strategy_at b j).specialist) no_strategy _ b.strategies k j refl (λ e. rw e)

-- NO MOVE OF AN EVENT changes one
named-kept : Kept (λ (b : State) (m : Moved). Named b m.state)
unfolding and_then leg_fill take_legs leg_trade cancel_entry cancel_order cut cut_leg with_entries with_orders begin close answer
named-kept = record {
  nothing = λ b k. refl;
  both = λ b x f h g k. g k ∙ h k;
  whole = λ b a h level q p. named-same b (whole_fill b a h level q).state (whole-strategies b a h level q);
  legs = λ b a l k. refl;
  trade = λ b a h t k. refl;
  cancel = λ b i. pick_all (λ (m : Moved). Named b m.state) _ (λ k. refl) (λ k. refl);
  cancel_order = λ b i. pick_all (λ (m : Moved). Named b m.state) _ (λ k. refl) (λ k. refl);
  begins = λ b i. named_put b _ _ _ _;
  closes = λ b k. named_put b k _ _ _;
  answers = λ b k side. pick_all (Named b) _ (named_put b k _ _ _) (λ j. refl);
}

-- THE EVENTS that name none
module _ (b : State) where
  named-order : (e : Entry) → Named b (on_order e b).state
  unfolding enter with_last with_entries
  named-order e = on_order-kept named-kept e b

  named-entered : (a : State) (e : Entry) → Named b a → Named b (answer e.strategy e.side (enter e a))
  unfolding enter with_last with_entries
  named-entered a e h k = named-kept.answers (enter e a) e.strategy e.side k ∙ h k

  named-sweep : (e : Entry) → Named b (on_sweep e b).state
  unfolding on_sweep enter_sweep and_then
  named-sweep e =
      let h : Named b (cancel_entry (old_sweep b e) b).state = named-kept.cancel b (old_sweep b e) in
      pick_all (λ (m : Moved). Named b m.state) (live e) (named-entered (cancel_entry (old_sweep b e) b).state e h) h

  named-leg-order : (o : LegOrder) → Named b (on_leg_order o b).state
  unfolding enter_order with_last with_orders
  named-leg-order o = on_leg_order-kept named-kept o b

  named-clock : (t : ℕ) → Named b (on_clock t b).state
  unfolding with_clock
  named-clock t = on_clock-kept named-kept t b

  named-series : (s state : ℕ) → Named b (on_series s state b).state
  unfolding on_series with_opened
  named-series s state =
      let P : Moved → Type 0 = λ (m : Moved). Named b m.state in
      pick_all P _ (pick_all P _ (shut-kept named-kept s b) (λ k. refl)) (pick_all P _ (λ k. refl) (reopen-kept named-kept s b))

-- a strategy that is not defined has none
abbrev Unnamed : State → Type 0
Unnamed b = (k : ℕ) → b.defined ≤ k → (strategy_at b k).specialist ≡ no_specialist

-- a definition adds one that has none
given-none : (e : GivenStrategy) → (strategy_given e).specialist ≡ no_specialist
unfolding strategy_given defined
given-none e = refl

named-define : (b : State) (e : GivenStrategy) → Unnamed b → Named b (define (strategy_given e) b)
unfolding define added with_strategies with_nets
named-define b e u =
    pick_all (Named b) (held b (strategy_given e)) (λ k. refl)
    (λ k. set-by (λ (s : Strategy). s.specialist ≡ (strategy_at b k).specialist) no_strategy (strategy_given e) b.strategies b.defined k refl (λ z. given-none e ∙ sym (u k (omega arith))))

free-none : (k : ℕ) → (get_or (replicate strategy_slots free_strategy) k no_strategy).specialist ≡ no_specialist
free-none k = all-at {P = λ (s : Strategy). s.specialist ≡ no_specialist} no_strategy refl (all_replicate {P = λ (s : Strategy). s.specialist ≡ no_specialist} free_strategy refl strategy_slots) k

fresh-none : (timer k : ℕ) → (strategy_at (fresh timer) k).specialist ≡ no_specialist
unfolding fresh
fresh-none timer k = free-none k

-- ONE ACCEPTED EVENT
record Learns (b : State) (x : Result Event Refusal) (c : State) : Type 0 where
  specialist : (k : ℕ) → (strategy_at c k).specialist ≡ specialist_after x k (strategy_at b k).specialist
  unnamed : Unnamed c

-- one that names none and defines none
learns_nothing : (b : State) (e : Event) → Valid b → Unnamed b → Plain e → ((k : ℕ) (s : Specialist) → specialist_after (Ok e) k s ≡ s) → Named b (accept b e).state → Learns b (Ok e) (accept b e).state
learns_nothing b e v u p same h = record {
  specialist = λ k. h k ∙ sym (same k _);
  unnamed = λ k l. h k ∙ u k (omega (arith, (accept-kin b e v.sound.order_rows p).defined));
}

define-more : (b : State) (t : Strategy) → b.defined ≤ (define t b).defined
unfolding define added with_strategies with_nets
define-more b t = pick_all (λ (c : State). b.defined ≤ c.defined) (held b t) (omega arith) (omega arith)

learns : (b : State) (e : Event) → Valid b → Unnamed b → FitEvent e → first_cause (causes b e) ≡ 0 → Learns b (Ok e) (accept b e).state
unfolding accept specialist_after on_national with_national on_range with_range on_day_end restart and_then fresh causes undefined on_specialist with_strategies specialist_given
learns b (E.Strategy e) v u f c = record {
  specialist = named-define b e u;
  unnamed = λ k l. named-define b e u k ∙ u k (omega (arith, define-more b (strategy_given e)));
}
learns b (E.Order e) v u f c = learns_nothing b (E.Order e) v u tt (λ k s. refl) (named-order b (order_given b e))
learns b (E.Sweep e) v u f c = learns_nothing b (E.Sweep e) v u tt (λ k s. refl) (named-sweep b (sweep_given b e))
learns b (E.LegOrder e) v u f c = learns_nothing b (E.LegOrder e) v u tt (λ k s. refl) (named-leg-order b (leg_order_given b e))
learns b (E.Cancel e) v u f c = learns_nothing b (E.Cancel e) v u tt (λ k s. refl) (cancel_number-kept named-kept e.number b)
learns b (E.Series e) v u f c = learns_nothing b (E.Series e) v u tt (λ k s. refl) (named-series b e.series e.state)
learns b (E.Clock e) v u f c = learns_nothing b (E.Clock e) v u tt (λ k s. refl) (named-clock b e.time)
learns b (E.DayEnd e) v u f c = record { specialist = λ k. free-none k; unnamed = λ k l. free-none k }
learns b (E.National e) v u f c = record { specialist = λ k. refl; unnamed = u }
learns b (E.Range e) v u f c = record { specialist = λ k. refl; unnamed = u }
learns b (E.Specialist e) v u f c =
    let p : Specialist = specialist_given e in
    let low : e.strategy < b.defined = leb-false _ _ (clear 4 (undefined b e.strategy) _ (omega arith) c).0 in
    record {
      specialist = λ k. pick-by (λ (s : Specialist). (get_or (set b.strategies e.strategy (with_specialist (strategy_at b e.strategy) p)) k no_strategy).specialist ≡ s) (eqb e.strategy k)
          (λ q. rw (← (eqb-true e.strategy k q)) (ap (λ (s : Strategy). s.specialist) (get_or-set_same b.strategies e.strategy _ no_strategy (omega (arith, f.2, v.sound.strategy_rows)))))
          (λ q. ap (λ (s : Strategy). s.specialist) (get_or-set_other b.strategies e.strategy k _ no_strategy (λ z. eqb-false e.strategy k q (sym z))));
      unnamed = λ k l. ap (λ (s : Strategy). s.specialist) (get_or-set_other b.strategies e.strategy k _ no_strategy (λ (z : k ≡ e.strategy). omega arith)) ∙ u k l;
    }

-- ONE EVENT of any bytes: what it said if it was accepted, else nothing
record Heard (b : State) (x : Sent) : Type 0 where
  specialist : (k : ℕ) → (strategy_at (next b x) k).specialist ≡ pick (eqb (outcome b x).answer 0) (specialist_after (read_of x.frame) k (strategy_at b k).specialist) (strategy_at b k).specialist
  unnamed : Unnamed (next b x)

heard : (b : State) (x : Sent) → Valid b → Unnamed b → Heard b x
unfolding refused
heard b x v u = go (went b x)
  where
    go : Went b x → Heard b x
    go (refused_as n h e) =
        let f : eqb (outcome b x).answer 0 ≡ false = ap (λ (o : Outcome). eqb o.answer 0) e ∙ ne_eqb n 0 h in
        let c : next b x ≡ b = ap (λ (o : Outcome). o.moved.state) e in
        record { specialist = λ k. ap (λ (d : State). (strategy_at d k).specialist) c ∙ sym (pick-false _ _ _ f); unnamed = rw c u }
    go (accepted_as e p c q) =
        let t : eqb (outcome b x).answer 0 ≡ true = ap (λ (o : Outcome). eqb o.answer 0) q in
        let d : next b x ≡ (accept b e).state = ap (λ (o : Outcome). o.moved.state) q in
        let l : Learns b (Ok e) (accept b e).state = learns b e v u (event-fits x e p) c in
        record {
          specialist = λ k. ap (λ (y : State). (strategy_at y k).specialist) d ∙ l.specialist k ∙ ap (λ (r : Result Event Refusal). specialist_after r k (strategy_at b k).specialist) (sym p) ∙ sym (pick_true _ _ _ t);
          unnamed = rw d l.unnamed;
        }

-- A LIST
known-specialist : (b : State) (xs : List Sent) → Valid b → Unnamed b → (k : ℕ) → (strategy_at (after b xs) k).specialist ≡ named_last (strategy_at b k).specialist (run b xs) k
unfolding after run named_last
known-specialist b [] v u k = refl
known-specialist b (x ∷ xs) v u k =
    let h : Heard b x = heard b x v u in
    known-specialist (next b x) xs (next-valid b x v) h.unnamed k ∙ ap (λ (s : Specialist). named_last s (run (next b x) xs) k) (h.specialist k)

-- FROM A FRESH BOOK ON: the specialist of a strategy is the one that the list named last
pub specialist-known : (timer : ℕ) (xs : List Sent) → Valid (fresh timer) → (k : ℕ) → (strategy_at (after (fresh timer) xs) k).specialist ≡ named_last (record { member = 0; percentage = 0 }) (run (fresh timer) xs) k
specialist-known timer xs v k =
    known-specialist (fresh timer) xs v (λ j l. fresh-none timer j) k ∙ ap (λ (s : Specialist). named_last s (run (fresh timer) xs) k) (fresh-none timer k)
