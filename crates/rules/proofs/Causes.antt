-- When an event is accepted: the causes of refusals 4 to 15 in another form, both ways.
use Rattle.std.specs.Prelude.{Result, Ok}
use mathlib.Core.Path.{◌≡◌, refl, sym, ◌∙◌, ap}
use mathlib.Core.Bool.{Bool, true, false, not}
use mathlib.Core.Logic.{◌⊎◌, inl, inr, ⊎_elim}
use mathlib.Core.List.{List}
use Prim.Native.Nat.{ℕ, ◌<◌, ◌≤◌}
use native.Mathlib.Omega.{arith}
use borrow.Author.Tests.{eqb-true, eqb-false, eq-eqb, ne_eqb, lt-leb, leb-false, le-ltb, lt-ltb, ltb-true, ltb-false, not-true, not-false, le-leb, leb-true}
use lib.Dec.{eqb, ltb, leb}
use Rattle.base.specs.Pick.{pick, pick_true, pick-false, pick-by}
use Rattle.base.specs.Walks.{sum_n}
use Rattle.events.specs.declared.Refusal.{Refusal}
use Rattle.events.specs.declared.Event.TheVariants as E
use Rattle.events.specs.declared.Order.{Order as GivenOrder}
use Rattle.events.specs.declared.Sweep.{Sweep as GivenSweep}
use Rattle.events.specs.declared.LegOrder.{LegOrder as GivenLegOrder}
use Rattle.events.specs.declared.Clock.{Clock as GivenClock}
use Rattle.events.specs.declared.National.{National as GivenNational}
use Rattle.events.specs.declared.Range.{Range as GivenRange}
use Rattle.events.specs.declared.Specialist.{Specialist as GivenSpecialist}
use Rattle.rules.specs.declared.State.{State}
use Rattle.rules.specs.State.{entry_at, strategy_at}
use Rattle.rules.specs.Auctions.{running}
use Rattle.rules.specs.Events.{old_sweep}
use Rattle.rules.specs.Given.{sweep_given}
use Rattle.rules.specs.Refusals.{first_cause, causes, is_sweep_at, undefined, unanswerable, not_open, replaces, removes_none, orders_full, sweeps_full, leg_orders_full, no_room, numbers_out, sweep_numbers_out, bid_above_offer, betters_nothing, refusal, table_of, read_causes}
use Rattle.rules.specs.Valid.{Valid}
use Rattle.rules.specs.Fits.{FitSweepGiven}
use Rattle.rules.specs.Sentences.{Runs, Any, SweepOf, OrderMay, SweepMay, LegOrderMay, ClockMay, SpecialistMay, NationalMay}
use Rattle.rules.specs.Sizes.{record_space}
use Rattle.rules.specs.Step.{step}
use Rattle.rules.proofs.Validity.{clear, then-no}
use Rattle.rules.proofs.Clocks.{runs}
use Rattle.rules.proofs.BetterNets.{bettered, betters-it}
use Rattle.rules.proofs.Sweeps.{old-low, old-is}
use Rattle.rules.proofs.Refusals.{answer-is}
use Rattle.frames.specs.Frames.{read_of}
use Rattle.events.specs.declared.Event.{Event}

pub runs_of : (b : State) (k : ℕ) → running b k ≡ true → Runs b k
runs_of b k r = let n = eqb-false (strategy_at b k).starter 0 (not-true _ r) in omega (arith, n)

-- A COMPLEX ORDER
module _ (b : State) (e : GivenOrder) where
  pub order-may : first_cause (causes b (E.Order e)) ≡ 0 → OrderMay b e
  unfolding causes undefined unanswerable orders_full numbers_out
  order-may c =
      let x = clear 4 (undefined b e.strategy) _ (omega arith) c in
      let y = clear 9 (unanswerable b e.life e.strategy) _ (omega arith) x.1 in
      let z = clear 12 (orders_full b) _ (omega arith) y.1 in
      let w = clear 13 (numbers_out b) _ (omega arith) z.1 in
      record {
        defined = leb-false _ _ x.0;
        response = λ l. runs_of b e.strategy (not-false _ (sym (pick_true _ _ _ (eq-eqb _ _ l)) ∙ y.0));
        slot = leb-false _ _ z.0;
        number = leb-false _ _ w.0;
      }

  pub order-accepted : OrderMay b e → first_cause (causes b (E.Order e)) ≡ 0
  unfolding causes first_cause undefined unanswerable orders_full numbers_out
  order-accepted m =
      let answered : unanswerable b e.life e.strategy ≡ false =
      pick-by (λ (t : Bool). t ≡ false) (eqb e.life 2) (λ t. ap not (runs b e.strategy (m.response (eqb-true _ _ t)))) (λ t. refl) in
      pick-false _ _ _ (lt-leb _ _ m.defined) ∙ pick-false _ _ _ answered ∙ pick-false _ _ _ (lt-leb _ _ m.slot) ∙ pick-false _ _ _ (lt-leb _ _ m.number)

-- A LEG ORDER
module _ (b : State) (e : GivenLegOrder) where
  pub leg-order-may : first_cause (causes b (E.LegOrder e)) ≡ 0 → LegOrderMay b e
  unfolding causes leg_orders_full numbers_out
  leg-order-may c =
      let x = clear 6 (not_open b e.series) _ (omega arith) c in
      let y = clear 12 (leg_orders_full b) _ (omega arith) x.1 in
      let z = clear 13 (numbers_out b) _ (omega arith) y.1 in
      record { is_open = not-false _ x.0; slot = leb-false _ _ y.0; number = leb-false _ _ z.0 }

  pub leg-order-accepted : LegOrderMay b e → first_cause (causes b (E.LegOrder e)) ≡ 0
  unfolding causes first_cause leg_orders_full numbers_out
  leg-order-accepted m = pick-false _ _ _ (ap not m.is_open) ∙ pick-false _ _ _ (lt-leb _ _ m.slot) ∙ pick-false _ _ _ (lt-leb _ _ m.number)

-- A CLOCK
module _ (b : State) (e : GivenClock) where
  pub clock-may : first_cause (causes b (E.Clock e)) ≡ 0 → ClockMay b e.time
  unfolding causes
  clock-may c = ltb-false _ _ (clear 11 (ltb e.time b.clock) _ (omega arith) c).0

  pub clock-accepted : ClockMay b e.time → first_cause (causes b (E.Clock e)) ≡ 0
  unfolding causes first_cause
  clock-accepted m = pick-false _ _ _ (le-ltb _ _ m)

-- A SPECIALIST
module _ (b : State) (e : GivenSpecialist) where
  pub specialist-may : first_cause (causes b (E.Specialist e)) ≡ 0 → SpecialistMay b e
  unfolding causes undefined
  specialist-may c = leb-false _ _ (clear 4 (undefined b e.strategy) _ (omega arith) c).0

  pub specialist-accepted : SpecialistMay b e → first_cause (causes b (E.Specialist e)) ≡ 0
  unfolding causes first_cause undefined
  specialist-accepted m = pick-false _ _ _ (lt-leb _ _ m)

  -- of every frame that names one: "an undefined strategy gets 4", and no other does
  module _ (frame : List ℕ) (space : ℕ) (p : read_of frame ≡ Ok (E.Specialist e)) where
    pub undefined-gets-four : record_space ≤ space → b.defined ≤ e.strategy → (step b frame space).answer ≡ 4
    unfolding refusal table_of read_causes causes first_cause undefined
    undefined-gets-four room u = answer-is b frame space ∙ ap (λ (r : Result Event Refusal). refusal b r space) p ∙ pick-false _ _ _ (le-ltb _ _ room) ∙ pick_true _ _ _ (le-leb _ _ u)

    pub four-is-undefined : (step b frame space).answer ≡ 4 → b.defined ≤ e.strategy
    unfolding refusal table_of read_causes causes first_cause undefined
    four-is-undefined a =
        let z : refusal b (Ok (E.Specialist e)) space ≡ 4 = sym (ap (λ (r : Result Event Refusal). refusal b r space) p) ∙ sym (answer-is b frame space) ∙ a in
        let P : ℕ → Type 0 = λ (n : ℕ). n ≡ 4 → b.defined ≤ e.strategy in
        pick-by P (ltb space 15_360) (λ _ n. absurd (omega arith)) (λ _. pick-by P (leb b.defined e.strategy) (λ u _. leb-true _ _ u) (λ _ n. absurd (omega arith))) z

-- NATIONAL PRICES
module _ (b : State) (e : GivenNational) where
  pub national-may : first_cause (causes b (E.National e)) ≡ 0 → NationalMay e
  unfolding causes bid_above_offer
  national-may c = by (eqb e.bid 0) refl (eqb e.offer 0) refl
    where
      refused : bid_above_offer e ≡ false
      refused = (clear 14 (bid_above_offer e) _ (omega arith) c).0

      by : (s : Bool) → eqb e.bid 0 ≡ s → (t : Bool) → eqb e.offer 0 ≡ t → NationalMay e
      by true p t q = inl (eqb-true _ _ p)
      by false p true q = inr (inl (eqb-true _ _ q))
      by false p false q = inr (inr (ltb-false _ _ (sym (pick_true _ _ _ (ap not p) ∙ pick_true _ _ _ (ap not q)) ∙ refused)))

  pub national-accepted : NationalMay e → first_cause (causes b (E.National e)) ≡ 0
  unfolding causes first_cause bid_above_offer
  national-accepted m =
      let P : Bool → Type 0 = λ (t : Bool). t ≡ false in
      pick-false _ _ _ (⊎_elim
      (λ z. pick-false _ _ _ (ap not (eq-eqb _ _ z)))
      (λ r. pick-by P (not (eqb e.bid 0)) (λ _. ⊎_elim (λ z. pick-false _ _ _ (ap not (eq-eqb _ _ z))) (λ l. pick-by P (not (eqb e.offer 0)) (λ _. le-ltb _ _ l) (λ _. refl)) r) (λ _. refl))
      m)

-- THE EXECUTION RANGE is never refused
pub range-accepted : (b : State) (e : GivenRange) → first_cause (causes b (E.Range e)) ≡ 0
unfolding causes first_cause
range-accepted b e = refl

-- A SWEEP
module _ (b : State) (v : Valid b) (e : GivenSweep) (f : FitSweepGiven e) where
  any-old : replaces b e ≡ true → Any (λ (i : ℕ). SweepOf e (entry_at b i)) 32
  any-old r = let l = ltb-true _ _ r in record { at = old_sweep b (sweep_given b e); below = l; has = old-is b e v l }

  old-any : Any (λ (i : ℕ). SweepOf e (entry_at b i)) 32 → replaces b e ≡ true
  old-any a = lt-ltb _ _ (old-low b e v a.at a.has)

  pub sweep-may : first_cause (causes b (E.Sweep e)) ≡ 0 → SweepMay b e
  unfolding causes undefined removes_none betters_nothing no_room sweep_numbers_out sweeps_full numbers_out
  sweep-may c =
      let x = clear 4 (undefined b e.strategy) _ (omega arith) c in
      let y = clear 9 (not (running b e.strategy)) _ (omega arith) x.1 in
      let z = clear 10 (removes_none b e) _ (omega arith) y.1 in
      let n = clear 15 (betters_nothing b e) _ (omega arith) z.1 in
      let w = clear 12 (no_room b e) _ (omega arith) n.1 in
      let u = clear 13 (sweep_numbers_out b e) _ (omega arith) w.1 in
      record {
        defined = leb-false _ _ x.0;
        auction = runs_of b e.strategy (not-false _ y.0);
        removes = λ n. any-old (not-false _ (sym (pick_true _ _ _ (eq-eqb _ _ n)) ∙ z.0));
        betters = λ p. bettered b e.side e.strategy e.level v.sound f.side (not-false _ (then-no (eqb e.units 0) n.0 (some p)));
        slot = λ p. place (replaces b e) refl (then-no (eqb e.units 0) w.0 (some p));
        number = λ p. leb-false _ _ (then-no (eqb e.units 0) u.0 (some p));
      }
    where
      some : 0 < e.units → eqb e.units 0 ≡ false
      some p = ne_eqb e.units 0 (λ z. omega arith)

      place : (t : Bool) → replaces b e ≡ t → pick (replaces b e) false (sweeps_full b) ≡ false → Any (λ (i : ℕ). SweepOf e (entry_at b i)) 32 ⊎ (sum_n (is_sweep_at b) 32 < 16)
      place true t h = inl (any-old t)
      place false t h = inr (leb-false _ _ (then-no (replaces b e) h t))

  pub sweep-accepted : SweepMay b e → first_cause (causes b (E.Sweep e)) ≡ 0
  unfolding causes first_cause undefined removes_none betters_nothing no_room sweep_numbers_out sweeps_full numbers_out
  sweep-accepted m =
      let P : Bool → Type 0 = λ (t : Bool). t ≡ false in
      let removed : removes_none b e ≡ false = pick-by P (eqb e.units 0) (λ t. ap not (old-any (m.removes (eqb-true _ _ t)))) (λ t. refl) in
      let better : betters_nothing b e ≡ false =
      pick-by P (eqb e.units 0) (λ t. refl) (λ t. ap not (betters-it b e.side e.strategy e.level v.sound f.side (m.betters (left t)))) in
      let placed : no_room b e ≡ false =
      pick-by P (eqb e.units 0) (λ t. refl)
      (λ t. ⊎_elim (λ a. pick_true _ _ _ (old-any a)) (λ f. pick-by P (replaces b e) (λ r. refl) (λ r. lt-leb _ _ f)) (m.slot (left t))) in
      let numbered : sweep_numbers_out b e ≡ false = pick-by P (eqb e.units 0) (λ t. refl) (λ t. lt-leb _ _ (m.number (left t))) in
      pick-false _ _ _ (lt-leb _ _ m.defined) ∙ pick-false _ _ _ (ap not (runs b e.strategy m.auction)) ∙ pick-false _ _ _ removed ∙ pick-false _ _ _ better ∙ pick-false _ _ _ placed
      ∙ pick-false _ _ _ numbered
    where
      left : eqb e.units 0 ≡ false → 0 < e.units
      left t = let n = eqb-false e.units 0 t in omega (arith, n)
