-- Sweeps must better the leg market (2026-03): an accepted sweep of some units is better than the leg net of its side or that net is unknown, and
-- refusal 15 is given exactly where a sweep is not, and nothing that is checked before applies; sweeps that are in stay when the legs move.
use Rattle.std.specs.Prelude.{Result, Ok, Err}
use mathlib.Core.Path.{◌≡◌, refl, sym, ◌∙◌, ap, subst}
use mathlib.Core.Bool.{Bool, true, false, not}
use mathlib.Core.Logic.{◌⊎◌, inl, ⊎_elim}
use mathlib.Core.List.{List, [], ◌∷◌}
use Prim.Native.Nat.{ℕ, ◌≤◌, ◌<◌}
use native.Mathlib.Omega.{arith}
use borrow.Author.Tests.{ne_eqb, lt-leb, leb-false, le-ltb, ltb-false, not-true, not-false}
use lib.Dec.{eqb, ltb}
use lib.ListN.{get_or}
use Rattle.base.specs.Pick.{pick, pick_true, pick-false, pick_no, pick_all, pick-by}
use Rattle.base.specs.Walks.{clash, lt-or-le}
use Rattle.events.specs.Refusals.{refusal_number}
use Rattle.events.specs.declared.Refusal.{Refusal}
use Rattle.events.specs.declared.Event.{Event}
use Rattle.events.specs.declared.Event.TheVariants as E
use Rattle.events.specs.declared.Sweep.{Sweep as GivenSweep}
use Rattle.events.specs.declared.LegOrder.{LegOrder as GivenLegOrder}
use Rattle.events.specs.declared.Cancel.{Cancel as GivenCancel}
use Rattle.frames.specs.Frames.{read_of}
use Rattle.rules.specs.declared.Entry.{Entry}
use Rattle.rules.specs.declared.LegOrder.{LegOrder}
use Rattle.rules.specs.declared.State.{State}
use Rattle.rules.specs.State.{no_entry, no_order, entry_at, with_orders, with_last}
use Rattle.rules.specs.Auctions.{running, put_auction, begin, answer}
use Rattle.rules.specs.Events.{live_order, enter_order, free_order_slot, trade_all, on_leg_order, enter, free_slot, starts, waits, trades, arrive, on_order}
use Rattle.rules.specs.Given.{leg_order_given, order_given}
use Rattle.rules.specs.Refusals.{Cause, ◌if◌, first_cause, applies, undefined, removes_none, betters_nothing, no_room, sweep_numbers_out, causes, read_causes, table_of, refusal}
use Rattle.rules.specs.Step.{accept, step}
use Rattle.rules.specs.Valid.{Valid}
use Rattle.rules.specs.Sentences.{AcceptedEvent, BetterThanNet, NoBetterThanNet, NetUnknown, BettersNothing, Any}
use Rattle.rules.proofs.Refusals.{reads, refusals-exact, answer-is}
use Rattle.rules.proofs.Lists.{event-fits}
use Rattle.rules.proofs.BetterNets.{better-not, better-no, betters-it}
use Rattle.rules.proofs.Tables.{positive, behind-length}
use Rattle.rules.proofs.Shrinks.{Shrinks, entry-same}
use Rattle.rules.proofs.Control.{shrinks-kept, on_leg_order-kept}
use Rattle.rules.proofs.LegOrders.{leg-order-sentence}
use Rattle.rules.proofs.Cancels.{cancel-sentence}
use Rattle.rules.proofs.Validity.{clear, order-clear}
use Rattle.rules.proofs.Clocks.{runs}
use Rattle.events.specs.declared.Order.{Order as GivenOrder}
use Rattle.rules.specs.declared.Allocation.TheVariants.{Shared}
use Rattle.rules.specs.Moves.{Moved, and_then}
use Rattle.rules.specs.Strategies.{all_open}
use Rattle.rules.specs.Passes.{pass}
use Rattle.rules.proofs.Only.{Only, pass-only}
use Rattle.rules.proofs.Settled.{cancel-other}
use Rattle.rules.proofs.Entering.{Entering, sound-enter, enter-slot, enter-stands}
use Rattle.rules.proofs.Arrivals.{put_entries_lem, answer-entries, Arrived, enter-arrived}
use Rattle.rules.proofs.Orders.{rest-alone}
use Rattle.rules.proofs.Causes.{runs_of, sweep-may}

-- AN ACCEPTED SWEEP: "From now on a sweep of 1 unit or more has to be above the bid net when it buys, below the offer net when it sells. Where that
-- net is unknown, every price betters it."
pub sweep-bettered : (b : State) → Valid b → (frame : List ℕ) (space : ℕ) (e : GivenSweep) → read_of frame ≡ Ok (E.Sweep e) → (step b frame space).answer ≡ 0 → 0 < e.units →
    NetUnknown b e.side e.strategy ⊎ BetterThanNet b e.side e.strategy e.level
unfolding refusal table_of read_causes
sweep-bettered b v frame space e p a some =
    let z : refusal b (Ok (E.Sweep e)) space ≡ 0 = ap (λ (r : Result Event Refusal). refusal b r space) (sym p) ∙ sym (answer-is b frame space) ∙ a in
    let c : first_cause (causes b (E.Sweep e)) ≡ 0 = (clear 1 (ltb space 15_360) _ (omega arith) z).1 in
    (sweep-may b v e (event-fits (record { frame = frame; space = space }) (E.Sweep e) p) c).betters some

-- REFUSAL 15: "A sweep that betters nothing is refused with 15, checked between 10 and 11."
-- the events that can have that cause
record IsSweep (e : Event) : Type 0 where
  sweep : GivenSweep
  is : e ≡ E.Sweep sweep

only-sweeps : (b : State) (e : Event) (space : ℕ) → applies (table_of b (Ok e) space) 15 ≡ true → IsSweep e
unfolding table_of read_causes causes applies pick
only-sweeps b (E.Strategy e) space h = absurd (clash h refl)
only-sweeps b (E.Order e) space h = absurd (clash h refl)
only-sweeps b (E.Sweep e) space h = record { sweep = e; is = refl }
only-sweeps b (E.LegOrder e) space h = absurd (clash h refl)
only-sweeps b (E.Cancel e) space h = absurd (clash h refl)
only-sweeps b (E.Series e) space h = absurd (clash h refl)
only-sweeps b (E.Clock e) space h = absurd (clash h refl)
only-sweeps b (E.DayEnd e) space h = absurd (clash h refl)
only-sweeps b (E.National e) space h = absurd (clash h refl)
only-sweeps b (E.Range e) space h = absurd (clash h refl)
only-sweeps b (E.Specialist e) space h = absurd (clash h refl)

not-read : (b : State) (r : Refusal) (space : ℕ) → refusal_number r ≤ 3 → applies (table_of b (Err r) space) 15 ≡ true → ⊥
unfolding table_of read_causes applies pick
not-read b r space l h = clash h (pick-false (eqb (refusal_number r) 15) _ _ (ne_eqb (refusal_number r) 15 (λ z. omega arith)))

-- a cause that is checked before and does not apply, and the one that does
passed : (n m : ℕ) (c : Bool) (cs : List Cause) → (n ≡ m → ⊥) → first_cause ((n if c) ∷ cs) ≡ m → (c ≡ false) × (first_cause cs ≡ m)
unfolding first_cause pick
passed n m true cs h e = absurd (h e)
passed n m false cs h e = (refl, e)

applied : (n : ℕ) (c : Bool) (cs : List Cause) → (first_cause cs ≡ n → ⊥) → first_cause ((n if c) ∷ cs) ≡ n → c ≡ true
unfolding first_cause pick
applied n true cs h e = refl
applied n false cs h e = absurd (h e)

no-cause : first_cause [] ≡ 0
unfolding first_cause
no-cause = refl

module _ (b : State) (frame : List ℕ) (space : ℕ) where
  of-sweep : (e : GivenSweep) → read_of frame ≡ Ok (E.Sweep e) → refusal b (Ok (E.Sweep e)) space ≡ 15 → BettersNothing b frame space
  unfolding refusal table_of read_causes causes undefined betters_nothing
  of-sweep e p a =
      let s = passed 1 15 (ltb space 15_360) _ (λ z. omega arith) a in
      let x = passed 4 15 (undefined b e.strategy) _ (λ z. omega arith) s.1 in
      let y = passed 9 15 (not (running b e.strategy)) _ (λ z. omega arith) x.1 in
      let z = passed 10 15 (removes_none b e) _ (λ z. omega arith) y.1 in
      let n = pick_no (eqb e.units 0) (applied 15 (betters_nothing b e) _ later z.1) in
      record {
        sweep = e;
        reading = p;
        room = ltb-false _ _ s.0;
        defined = leb-false _ _ x.0;
        auction = runs_of b e.strategy (not-false _ y.0);
        units = positive _ n.0;
        nothing = better-not b e.side e.strategy e.level (event-fits (record { frame = frame; space = space }) (E.Sweep e) p).side (not-true _ n.1);
      }
    where
      later : first_cause ((12 if no_room b e) ∷ ((13 if sweep_numbers_out b e) ∷ [])) ≡ 15 → ⊥
      later f = let r = passed 12 15 (no_room b e) _ (λ z. omega arith) f in let q = passed 13 15 (sweep_numbers_out b e) [] (λ z. omega arith) r.1 in omega (arith, q.1, no-cause)

  -- where it is given
  pub fifteen-why : (step b frame space).answer ≡ 15 → BettersNothing b frame space
  fifteen-why a = by (read_of frame) refl (rw a at ((refusals-exact b frame space).some (λ z. omega arith)))
    where
      by : (r : Result Event Refusal) → read_of frame ≡ r → applies (table_of b (read_of frame) space) 15 ≡ true → BettersNothing b frame space
      by (Err r) p h = absurd (not-read b r space ((reads frame).number r p).1 (rw p at h))
      by (Ok e) p h =
          let i : IsSweep e = only-sweeps b e space (rw p at h) in
          let q : read_of frame ≡ Ok (E.Sweep i.sweep) = p ∙ ap Ok i.is in
          of-sweep i.sweep q (ap (λ (r : Result Event Refusal). refusal b r space) (sym q) ∙ sym (answer-is b frame space) ∙ a)

  -- and there it is
  pub fifteen-given : BettersNothing b frame space → (step b frame space).answer ≡ 15
  unfolding refusal table_of read_causes causes first_cause undefined removes_none betters_nothing
  fifteen-given x =
      let e : GivenSweep = x.sweep in
      let some : eqb e.units 0 ≡ false = ne_eqb e.units 0 (λ z. omega (arith, x.units)) in
      let nothing : betters_nothing b e ≡ true = pick-false _ _ _ some ∙ ap not (better-no b e.side e.strategy e.level x.nothing) in
      answer-is b frame space
      ∙ ap (λ (r : Result Event Refusal). refusal b r space) x.reading
      ∙ pick-false _ _ _ (le-ltb _ _ x.room)
      ∙ pick-false _ _ _ (lt-leb _ _ x.defined)
      ∙ pick-false _ _ _ (ap not (runs b e.strategy x.auction))
      ∙ pick-false _ _ _ (pick-false _ _ _ some)
      ∙ pick_true _ _ _ nothing

-- "Where that net is unknown, every price betters it.": no sweep is refused 15 there
pub unknown-lets-in : (b : State) → Valid b → (frame : List ℕ) (space : ℕ) (e : GivenSweep) → read_of frame ≡ Ok (E.Sweep e) → NetUnknown b e.side e.strategy → (step b frame space).answer ≡ 15 → ⊥
unknown-lets-in b v frame space e p u a =
    let t : BettersNothing b frame space = fifteen-why b frame space a in
    let q : t.sweep ≡ e = sweep-same (sym t.reading ∙ p) in
    clash (betters-it b e.side e.strategy e.level v.sound (event-fits (record { frame = frame; space = space }) (E.Sweep e) p).side (inl u))
    (better-no b e.side e.strategy e.level (subst (λ (s : GivenSweep). NoBetterThanNet b s.side s.strategy s.level) q t.nothing))
  where
    sweep-same : {s t : GivenSweep} → ◌≡◌ {A = Result Event Refusal} (Ok (E.Sweep s)) (Ok (E.Sweep t)) → s ≡ t
    sweep-same h = cc

-- SWEEPS ALREADY IN "are not looked at again when the legs move": a leg order, whatever it trades, and a cancel leave every sweep as it was
pub legs-leave-sweeps : (b : State) (e : GivenLegOrder) → AcceptedEvent b (E.LegOrder e) → (i : ℕ) → (entry_at b i).life ≡ 4 → entry_at (accept b (E.LegOrder e)).state i ≡ entry_at b i
unfolding accept enter_order with_last with_orders
legs-leave-sweeps b e x i sweep =
    let o : LegOrder = leg_order_given b e in
    let s = leg-order-sentence b e x in
    let h : Shrinks (enter_order o b) (on_leg_order o b).state = on_leg_order-kept shrinks-kept o b (behind-length live_order no_order o b.orders) in
    let t : entry_at (trade_all (free_order_slot b) (enter_order o b)).state i ≡ entry_at b i = ap (λ (es : List Entry). get_or es i no_entry) s.entries in
    entry-same (entry_at b i) (entry_at (on_leg_order o b).state i) (h.entry i)
    (⊎_elim
    (λ (l : (entry_at (on_leg_order o b).state i).units < (entry_at b i).units).
    absurd (let g = s.no_others i (rw t l) in omega (arith, g.day, sweep, ap (λ (f : Entry). f.life) t)))
    (λ l. l)
    (lt-or-le (entry_at (on_leg_order o b).state i).units (entry_at b i).units))

pub cancels-leave-sweeps : (b : State) (e : GivenCancel) → AcceptedEvent b (E.Cancel e) → (i : ℕ) → (entry_at b i).life ≡ 4 → entry_at (accept b (E.Cancel e)).state i ≡ entry_at b i
cancels-leave-sweeps b e x i sweep =
    ⊎_elim
    (λ c. c.others i (λ z. c.no_sweep (ap (λ (j : ℕ). (entry_at b j).life) (sym z) ∙ sweep)))
    (λ c. ap (λ (es : List Entry). get_or es i no_entry) c.entries)
    (cancel-sentence b e x).one

-- .. and so does a complex order, which may take leg orders in its pass
module _ (b : State) (a : ℕ) (x : Arrived b a) (j : ℕ) (other : j ≡ a → ⊥) (alive : 0 < (entry_at b j).units) (sweep : (entry_at b j).life ≡ 4) where
  abbrev mine : ℕ
  mine = (entry_at b a).strategy

  -- a strategy without an auction has no sweep, and a pass touches its own strategy alone
  pass-leaves : running b mine ≡ false → entry_at (pass Shared true a b).state j ≡ entry_at b j
  pass-leaves r =
      let o : Only mine b (pass Shared true a b).state = pass-only mine Shared true a b x.sound.order_rows refl in
      let apart : (entry_at b j).strategy ≡ mine → ⊥ = λ z. omega (arith, (x.near mine).day r j other alive z, sweep) in
      entry-same (entry_at b j) (entry_at (pass Shared true a b).state j) (o.shrinks.entry j) (omega (arith, o.others j apart))

  arrive-leaves : entry_at (arrive a b).state j ≡ entry_at b j
  unfolding arrive waits begin trades and_then
  arrive-leaves =
      let P : Moved → Type 0 = λ (m : Moved). entry_at m.state j ≡ entry_at b j in
      let same : (c : State) → c.entries ≡ b.entries → entry_at c j ≡ entry_at b j = λ c e. ap (λ (es : List Entry). get_or es j no_entry) e in
      pick_all P (all_open b mine)
      (pick-by P (running b mine)
      (λ r. pick_all P _ (cancel-other b a j other) (same (answer mine (entry_at b a).side b) (answer-entries b mine (entry_at b a).side)))
      (λ r. pick_all P (starts b (entry_at b a))
      (same (put_auction b mine (entry_at b a).number b.clock false) (put_entries_lem b mine (entry_at b a).number b.clock false))
      (rest-alone (pass Shared true a b).state a j other ∙ pass-leaves r)))
      (rest-alone b a j other)

order-life : (b : State) (e : GivenOrder) → (order_given b e).life ≡ e.life
unfolding order_given
order-life b e = refl

pub orders-leave-sweeps : (b : State) (e : GivenOrder) → AcceptedEvent b (E.Order e) → (i : ℕ) → i < 32 → 0 < (entry_at b i).units → (entry_at b i).life ≡ 4 →
    Any (λ (j : ℕ). entry_at (accept b (E.Order e)).state j ≡ entry_at b i) 32
unfolding accept on_order
orders-leave-sweeps b e x i h alive sweep =
    let o : Entry = order_given b e in
    let n : Entering b o = order-clear b e x.valid.sound x.fit x.clear in
    let c : State = enter o b in
    let s = enter-stands b o x.valid.sound n i h alive in
    let other : s.at ≡ free_slot b → ⊥ = λ z.
    omega (arith, ap (λ (f : Entry). f.life) (sym s.is ∙ ap (entry_at c) z ∙ enter-slot b o x.valid.sound n), order-life b e, sweep, x.fit.life) in
    record {
      at = s.at;
      below = omega (arith, s.slot, (sound-enter b o x.valid.sound n).entry_rows);
      has = arrive-leaves c (free_slot b) (enter-arrived b o x.valid n) s.at other (rw s.is alive) (rw s.is sweep) ∙ s.is;
    }
