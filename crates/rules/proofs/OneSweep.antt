-- No two sweeps of one member, strategy, side and limit are ever live: so of a fresh book, and of every state that accepted events lead to.
use mathlib.Core.Path.{◌≡◌, refl, sym, ◌∙◌, ap}
use mathlib.Core.Logic.{⊎_elim}
use Prim.Native.Nat.{ℕ, ◌+◌, ◌-◌, ◌^◌, ◌≤◌, ◌<◌}
use native.Mathlib.Omega.{arith}
use lib.ListN.{length}
use Rattle.base.specs.Pick.{pick_all}
use Rattle.base.specs.Walks.{lt-or-le}
use Rattle.events.specs.declared.Event.{Event}
use Rattle.events.specs.declared.Event.TheVariants as E
use Rattle.events.specs.declared.Order.{Order as GivenOrder}
use Rattle.events.specs.declared.Sweep.{Sweep as GivenSweep}
use Rattle.rules.specs.declared.Strategy.{Strategy}
use Rattle.rules.specs.declared.Entry.{Entry}
use Rattle.rules.specs.declared.LegOrder.{LegOrder}
use Rattle.rules.specs.declared.State.{State}
use Rattle.rules.specs.State.{no_entry, no_order, fresh, entry_at, with_entries, with_orders, with_strategies, with_opened, with_clock, with_last, with_national, with_range, with_nets}
use Rattle.rules.specs.Moves.{Moved, and_then}
use Rattle.rules.specs.Strategies.{added, define}
use Rattle.rules.specs.Events.{live, live_order, enter, enter_order, on_sweep, on_series, restart, on_day_end}
use Rattle.rules.specs.National.{on_national, on_range}
use Rattle.rules.specs.Given.{strategy_given, order_given, sweep_given, leg_order_given, specialist_given, quote_given}
use Rattle.rules.specs.Step.{accept}
use Rattle.rules.specs.Valid.{Valid}
use Rattle.rules.specs.Sentences.{AcceptedEvent, SweepOf, Alike, OneSweep}
use Rattle.rules.proofs.Tables.{behind-length, behind-ordered}
use Rattle.rules.proofs.Shrinks.{Shrinks, specialist-shrinks, cancel-shrinks, answer-shrinks}
use Rattle.rules.proofs.Entering.{fresh-dead, Entering}
use Rattle.rules.proofs.Control.{shrinks-kept, on_order-kept, on_leg_order-kept, cancel_number-kept, on_clock-kept, shut-kept, reopen-kept}
use Rattle.rules.proofs.Arrivals.{swept-valid, swept-entering}
use Rattle.rules.proofs.Entering.{pos-live}
use Rattle.rules.proofs.Validity.{sweep-clear}
use Rattle.rules.proofs.Sweeps.{new, gone, d, none_left, withdraws, sweeps}

-- through moves that lessen
pub one_less : {b c : State} → Shrinks b c → OneSweep b → OneSweep c
one_less s o i j l p q a =
    let x = s.entry i in
    let y = s.entry j in
    o i j l (omega (arith, x.units)) (omega (arith, y.units)) (record {
      sweep = sym x.life ∙ a.sweep;
      life = sym y.life ∙ a.life;
      member = sym y.member ∙ a.member ∙ x.member;
      strategy = sym y.strategy ∙ a.strategy ∙ x.strategy;
      side = sym y.side ∙ a.side ∙ x.side;
      limit = sym y.level ∙ a.limit ∙ x.level;
    })

-- where one enters that is like none
one-enters : (b : State) (e : Entry) → OneSweep b → ((i : ℕ) → 0 < (entry_at b i).units → Alike (entry_at b i) e → ⊥) → OneSweep (enter e b)
unfolding enter with_last with_entries
one-enters b e o h = behind-ordered live no_entry (λ (y : Entry). y.units) refl e b.entries (λ (y z : Entry). Alike y z → ⊥) h o

-- where the entries are the same
one_same : (b c : State) → c.entries ≡ b.entries → OneSweep b → OneSweep c
one_same b c e o = rw e o

enter-rows : (e : Entry) (b : State) → length b.orders ≡ 32 → length (enter e b).orders ≡ 32
unfolding enter with_last with_entries
enter-rows e b m = m

define-entries : (s : Strategy) (b : State) → (define s b).entries ≡ b.entries
unfolding define added with_strategies with_nets
define-entries s b = pick_all (λ (c : State). c.entries ≡ b.entries) _ refl refl

order-one : (b : State) (e : GivenOrder) → e.life ≤ 3 → OneSweep b → OneSweep (enter (order_given b e) b)
unfolding order_given
order-one b e l o = one-enters b _ o (λ i _ a. omega (arith, a.life))

leg_order-entries : (o : LegOrder) (b : State) → (enter_order o b).entries ≡ b.entries
unfolding enter_order with_last with_orders
leg_order-entries o b = refl

leg_order-rows : (o : LegOrder) (b : State) → length (enter_order o b).orders ≡ 32
unfolding enter_order with_last with_orders
leg_order-rows o b = behind-length live_order no_order o b.orders

-- a sweep, once the old one is gone
of-alike : (b : State) (e : GivenSweep) (f : Entry) → 0 < f.units → Alike f (sweep_given b e) → SweepOf e f
unfolding sweep_given
of-alike b e f l a = record { live = l; life = a.sweep; member = sym a.member; strategy = sym a.strategy; side = sym a.side; limit = sym a.limit }

series-one : (s state : ℕ) (b : State) → length b.orders ≡ 32 → OneSweep b → OneSweep (on_series s state b).state
unfolding on_series with_opened
series-one s state b m o =
    let P : Moved → Type 0 = λ (x : Moved). OneSweep x.state in
    pick_all P _
    (pick_all P _ (one_less (shut-kept shrinks-kept s b m) (one_same b (with_opened b (b.opened - 2 ^ s)) refl o)) o)
    (pick_all P _ o (one_less (reopen-kept shrinks-kept s b m) (one_same b (with_opened b (b.opened + 2 ^ s)) refl o)))

pub one-sweep-fresh : (timer : ℕ) → OneSweep (fresh timer)
one-sweep-fresh timer i j l p = absurd (omega (arith, fresh-dead timer i))

pub one-sweep-kept : (b : State) (e : Event) → AcceptedEvent b e → OneSweep b → OneSweep (accept b e).state
unfolding accept on_day_end and_then restart with_clock sweep_given on_national with_national on_range with_range
one-sweep-kept b (E.Strategy e) a o = one_same b (define (strategy_given e) b) (define-entries (strategy_given e) b) o
one-sweep-kept b (E.Order e) a o =
    one_less (on_order-kept shrinks-kept (order_given b e) b (enter-rows (order_given b e) b a.valid.sound.order_rows)) (order-one b e a.fit.life o)
one-sweep-kept b (E.Sweep e) a o =
    let v : Valid b = a.valid in
    let x = sweep-clear b e a.fit a.clear in
    let w : Valid (gone b e v) = swept-valid b (new b e) v refl in
    let g : OneSweep (gone b e v) = one_less (cancel-shrinks b _) o in
    ⊎_elim
    (λ (l : 0 < e.units).
    let r : Entering (gone b e v) (new b e) = swept-entering b (new b e) v refl (pos-live (new b e) l) (x.1 l) in
    one_same (d b e v a.fit.strategy r w) (on_sweep (new b e) b).state (ap (λ (c : State). c.entries) (sweeps b e v a.fit.strategy r w l))
    (one_less (answer-shrinks (enter (new b e) (gone b e v)) e.strategy e.side) (one-enters (gone b e v) (new b e) g (λ i l q. none_left b e v o i (of-alike b e _ l q)))))
    (λ (l : e.units ≤ 0). one_same (gone b e v) (on_sweep (new b e) b).state (ap (λ (c : State). c.entries) (withdraws b e v (omega arith))) g)
    (lt-or-le 0 e.units)
one-sweep-kept b (E.LegOrder e) a o =
    one_less (on_leg_order-kept shrinks-kept (leg_order_given b e) b (leg_order-rows (leg_order_given b e) b)) (one_same b (enter_order (leg_order_given b e) b) (leg_order-entries (leg_order_given b e) b) o)
one-sweep-kept b (E.Cancel e) a o = one_less (cancel_number-kept shrinks-kept e.number b a.valid.sound.order_rows) o
one-sweep-kept b (E.Series e) a o = series-one e.series e.state b a.valid.sound.order_rows o
one-sweep-kept b (E.Clock e) a o = one_less (on_clock-kept shrinks-kept e.time b a.valid.sound.order_rows) (one_same b (with_clock b e.time) refl o)
one-sweep-kept b (E.DayEnd e) a o = one-sweep-fresh e.timer
one-sweep-kept b (E.National e) a o = one_same b (on_national e.series (quote_given e) b) refl o
one-sweep-kept b (E.Range e) a o = one_same b (on_range e.range b) refl o
one-sweep-kept b (E.Specialist e) a o = one_less (specialist-shrinks e.strategy (specialist_given e) b) o
