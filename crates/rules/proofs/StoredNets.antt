-- THE STORED NETS (2026-05) are those of the leg orders: after each move of every rule, after what enters or is defined, and after every list of
-- events.
use mathlib.Core.Path.{◌≡◌, refl, ◌∙◌, ap}
use mathlib.Core.Bool.{false}
use mathlib.Core.Logic.{⊎_elim}
use mathlib.Core.List.{List}
use Prim.Native.Nat.{ℕ, suc, ◌+◌, ◌≤◌, ◌<◌}
use native.Mathlib.Omega.{arith}
use borrow.Author.Tests.{ne_eqb, ltb-true, leb-false}
use lib.ListN.{get_or, length-set, length-replicate}
use lib.Seq.{get_or-set_same, get_or-set_other}
use Rattle.base.specs.Pick.{pick-by, pick-false}
use Rattle.base.specs.Walks.{first-le, below}
use Rattle.events.specs.declared.Event.TheVariants as E
use Rattle.events.specs.declared.Strategy.{Strategy as GivenStrategy}
use Rattle.rules.specs.Sizes.{strategy_slots, table_rows}
use Rattle.rules.specs.declared.Strategy.{Strategy}
use Rattle.rules.specs.declared.LegOrder.{LegOrder}
use Rattle.rules.specs.declared.LegNets.{LegNets}
use Rattle.rules.specs.declared.State.{State}
use Rattle.rules.specs.State.{no_order, no_strategy, free_strategy, no_nets, fresh, strategy_at, with_orders, with_strategies, with_nets, with_last, leg_net, bid_net, offer_net, nets_stored}
use Rattle.rules.specs.Nets.{nets_in}
use Rattle.rules.specs.Moves.{Moved, and_then, each}
use Rattle.rules.specs.Strategies.{same_at, number_of, held, added, define}
use Rattle.rules.specs.Events.{live_order, enter_order, free_order_slot, trade_once, trade_all, on_leg_order, cancel_number, close_running, cancel_lowest, restart, on_day_end}
use Rattle.rules.specs.Given.{strategy_given}
use Rattle.rules.specs.Refusals.{ill_formed, strategies_full, causes}
use Rattle.rules.specs.Step.{value_of, accept}
use Rattle.rules.specs.Valid.{Sound, Valid}
use Rattle.rules.specs.Sentences.{AcceptedEvent, NetsTrue, NetsKept}
use Rattle.rules.specs.Totals.{Sent, after}
use Rattle.rules.proofs.Tables.{behind-length}
use Rattle.rules.proofs.Strategies.{defined-two}
use Rattle.rules.proofs.NetTables.{nets-at, fresh-nets}
use Rattle.rules.proofs.Shrinks.{Shrinks}
use Rattle.rules.proofs.Control.{Kept, shrinks-kept, each-kept, trade_once-kept, trade_all-kept, on_leg_order-kept, cancel_number-kept, close_running-kept, cancel_lowest-kept}
use Rattle.rules.proofs.Entering.{netted-added}
use Rattle.rules.proofs.Validity.{valid-fresh, clear, then-no, given-definition}
use Rattle.rules.proofs.Lists.{after-valid}

-- what is kept says what is stored
pub kept-true : {b : State} → NetsKept b → NetsTrue b
unfolding nets_in leg_net
kept-true {b} n = record {
  held = λ k h.
      let l = n.legs k h in
      ap (λ (ns : List LegNets). get_or ns k no_nets) n.stored.are ∙ nets-at b.orders b.strategies k (omega (arith, n.defined))
      ∙ pick-false _ _ _ (ne_eqb (strategy_at b k).count 0 (λ e. omega arith));
}

pub kept-sound : {b : State} → Sound b → NetsKept b
kept-sound s = record { stored = s.nets; strategy_rows = s.strategy_rows; order_rows = s.order_rows; defined = s.defined; legs = λ k h. omega (arith, s.legs k h) }

-- a move that lessens at most
kept-shrinks : {b c : State} → Shrinks b c → NetsKept b → NetsKept c
kept-shrinks h n = record {
  stored = h.nets n.stored;
  strategy_rows = h.strategy_rows ∙ n.strategy_rows;
  order_rows = h.order_rows ∙ n.order_rows;
  defined = omega (arith, h.defined, n.defined);
  legs = λ k l. omega (arith, (h.strategy k).count, n.legs k (omega (arith, h.defined)));
}

-- "Each event that touches a leg order keeps them true after each fill, cancels .. included": what every rule is made of keeps them, fills by legs,
-- trades of leg orders and cancels among them, and so does every rule
pub nets-each-move : Kept (λ (b : State) (m : Moved). NetsKept b → NetsKept m.state)
nets-each-move =
    let k = shrinks-kept in
    record {
      nothing = λ b n. n;
      both = λ b x f h g n. after_both x f (g (h n));
      whole = λ b a h level q p n. kept-shrinks (k.whole b a h level q p n.order_rows) n;
      legs = λ b a l n. kept-shrinks (k.legs b a l n.order_rows) n;
      trade = λ b a h t n. kept-shrinks (k.trade b a h t n.order_rows) n;
      cancel = λ b i n. kept-shrinks (k.cancel b i n.order_rows) n;
      cancel_order = λ b i n. kept-shrinks (k.cancel_order b i n.order_rows) n;
      begins = λ b i n. kept-shrinks (k.begins b i n.order_rows) n;
      closes = λ b i n. kept-shrinks (k.closes b i n.order_rows) n;
      answers = λ b i side n. kept-shrinks (k.answers b i side n.order_rows) n;
    }
  where
    after_both : (x : Moved) (f : State → Moved) → NetsKept (f x.state).state → NetsKept (and_then x f).state
    after_both x f n = unfold and_then in n

-- "Defining a strategy sets them": of a strategy that has legs, where a slot is free
nets-added : (b : State) (t : Strategy) → b.defined < strategy_slots → 0 < t.count → NetsKept b → NetsKept (added t b)
unfolding added with_strategies with_nets
nets-added b t room some n = record {
  stored = netted-added b t room n.strategy_rows n.stored;
  strategy_rows = length-set b.strategies b.defined t ∙ n.strategy_rows;
  order_rows = n.order_rows;
  defined = omega arith;
  legs = λ k h. ⊎_elim
      (λ q. rw (q, get_or-set_same b.strategies b.defined t no_strategy (omega (arith, n.strategy_rows))) some)
      (λ l. rw (get_or-set_other b.strategies b.defined k t no_strategy (λ q. omega arith)) (n.legs k l))
      (below (later k b.defined h));
}
  where
    later : (k n : ℕ) → k < n + 1 → k < suc n
    later k n h = omega arith

-- .. by the rule, which leaves the state as it was where an equal one is held
pub nets-defined : (b : State) (t : Strategy) → (held b t ≡ false → b.defined < strategy_slots) → 0 < t.count → NetsKept b → NetsKept (define t b)
unfolding define
nets-defined b t room some n = pick-by NetsKept (held b t) (λ _. n) (λ e. nets-added b t (room e) some n)

-- the number that it answers is that of a strategy held
number-defined : (b : State) (t : Strategy) → number_of b t < (define t b).defined
unfolding define added with_strategies with_nets number_of
number-defined b t = pick-by (λ (c : State). number_of b t < c.defined) (held b t) (λ e. ltb-true _ _ e) (λ e. omega (arith, first-le (same_at b t) b.defined))

-- .. so the nets that are stored under the number that an accepted definition answers are those of the leg books
pub nets-answered : (b : State) (e : GivenStrategy) → AcceptedEvent b (E.Strategy e)
    → nets_stored (accept b (E.Strategy e)).state (value_of b (E.Strategy e))
    ≡ record { bid = bid_net (accept b (E.Strategy e)).state (value_of b (E.Strategy e)); offer = offer_net (accept b (E.Strategy e)).state (value_of b (E.Strategy e)) }
unfolding accept value_of causes strategy_given strategies_full
nets-answered b e a =
    let x = clear 5 (ill_formed e) _ (omega arith) a.clear in
    let y = clear 12 (strategies_full b e) _ (omega arith) x.1 in
    let t : Strategy = strategy_given e in
    let two : 2 ≤ t.count = defined-two _ _ (given-definition e a.fit x.0) in
    let room : held b t ≡ false → b.defined < strategy_slots = λ h. leb-false _ _ (then-no (held b t) y.0 h) in
    (kept-true (nets-defined b t room (omega arith) (kept-sound a.valid.sound))).held (number_of b t) (number-defined b t)

-- a leg order that enters
pub nets-entered : (o : LegOrder) (b : State) → NetsKept b → NetsKept (enter_order o b)
unfolding enter_order with_last with_orders
nets-entered o b n = record {
  stored = record { are = refl };
  strategy_rows = n.strategy_rows;
  order_rows = behind-length live_order no_order o b.orders;
  defined = n.defined;
  legs = n.legs;
}

-- "after each fill": after each of its trades, after all of them, and after the passes by legs only that follow
module _ (o : LegOrder) (b : State) (n : NetsKept b) where
  pub nets-each-trade : (k : ℕ) → NetsKept (each (trade_once (free_order_slot b)) k (enter_order o b)).state
  nets-each-trade k = each-kept nets-each-move (trade_once _) (trade_once-kept nets-each-move _) k (enter_order o b) (nets-entered o b n)

  pub nets-traded : NetsKept (trade_all (free_order_slot b) (enter_order o b)).state
  nets-traded = trade_all-kept nets-each-move _ (enter_order o b) (nets-entered o b n)

  pub nets-leg-order : NetsKept (on_leg_order o b).state
  nets-leg-order = on_leg_order-kept nets-each-move o b (nets-entered o b n)

-- "cancels .. included": of whatever has the number
pub nets-cancelled : (number : ℕ) (b : State) → NetsKept b → NetsKept (cancel_number number b).state
nets-cancelled number b = cancel_number-kept nets-each-move number b

-- a fresh book, which holds no strategy
pub nets-fresh : (timer : ℕ) → NetsKept (fresh timer)
unfolding fresh
nets-fresh timer = record {
  stored = record { are = fresh-nets };
  strategy_rows = length-replicate strategy_slots free_strategy;
  order_rows = length-replicate table_rows no_order;
  defined = omega arith;
  legs = λ k h. absurd (omega arith);
}

-- "day end included": after each auction that it ends, after each of its cancels, and in the fresh book
module _ (b : State) (n : NetsKept b) where
  pub nets-day-closes : (k : ℕ) → NetsKept (each close_running k b).state
  nets-day-closes k = each-kept nets-each-move close_running (close_running-kept nets-each-move) k b n

  pub nets-day-cancels : (k : ℕ) → NetsKept (each cancel_lowest k (each close_running strategy_slots b).state).state
  nets-day-cancels k = each-kept nets-each-move cancel_lowest (cancel_lowest-kept nets-each-move) k _ (nets-day-closes strategy_slots)

pub nets-day-end : (timer : ℕ) (b : State) → NetsKept (on_day_end timer b).state
unfolding on_day_end restart and_then
nets-day-end timer b = nets-fresh timer

-- between events
pub valid-nets : {b : State} → Valid b → NetsTrue b
valid-nets v = kept-true (kept-sound v.sound)

-- "After every list of events from a fresh book the stored nets of each strategy held are those of the leg books"
pub stored-nets : (timer : ℕ) → 1 ≤ timer → timer ≤ 5000 → (xs : List Sent) → NetsTrue (after (fresh timer) xs)
stored-nets timer low high xs = valid-nets (after-valid (fresh timer) xs (valid-fresh timer low high))
