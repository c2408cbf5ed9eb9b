-- Sweeps must better the leg market (2026-03), over lists of events, from the log alone: every record that a sweep writes belongs to one that
-- bettered at its arrival, and every sweep that was refused 15 bettered nothing.
use Rattle.std.specs.Prelude.{Ok}
use mathlib.Core.Path.{◌≡◌, sym, ◌∙◌, ap, subst}
use mathlib.Core.Logic.{⊎_elim}
use mathlib.Core.List.Memᴰ
use mathlib.Core.List.{append-nil, List, [], ◌∷◌, ◌++◌, Memᴰ}
use Prim.Native.Nat.{ℕ, ◌≤◌}
use native.Mathlib.Omega.{arith}
use borrow.Author.Tests.{le-leb}
use lib.Dec.{leb}
use Rattle.base.specs.Pick.{pick, pick_true}
use Rattle.events.specs.declared.Event.TheVariants as E
use Rattle.events.specs.declared.Strategy.{Strategy as GivenStrategy}
use Rattle.events.specs.declared.Sweep.{Sweep as GivenSweep}
use Rattle.rules.specs.declared.State.{State}
use Rattle.rules.specs.State.{fresh, strategy_at}
use Rattle.rules.specs.Records.{Line}
use Rattle.rules.specs.Step.{Outcome, refused}
use Rattle.rules.specs.Valid.{Valid}
use Rattle.rules.specs.Sentences.{BettersNothing}
use Rattle.rules.specs.Totals.{Sent, Logged, outcome, after, run, lines_of, total, Unknown, mentions, Answered, OneDay, Defined, Bettered, NotBettered, NothingBettered}
use Rattle.rules.proofs.Validity.{valid-fresh}
use Rattle.rules.proofs.Laws.{when-yes}
use Rattle.rules.proofs.Lists.{Went, refused_as, accepted_as, went, Divided, run-divided}
use Rattle.rules.proofs.Numbers.{Open, one-day-split, open-day, CameEntry, CameOrder, came-entry, came-order}
use Rattle.rules.proofs.Origins.{HasLegs, settled-legs, lean-after, lean-fresh, strategy-given}
use Rattle.rules.proofs.SweepsSaid.{not-said}
use Rattle.rules.proofs.SweepNets.{fifteen-why}
use Rattle.rules.proofs.Totals.{totals}

-- a part of a total that is 0
total-mem : (w : Line → ℕ) (l : Line) (ls : List Line) → Memᴰ l ls → total w ls ≡ 0 → w l ≡ 0
unfolding total
total-mem w l [] m z = absurd (Memᴰ.not-nil m)
total-mem w l (k ∷ ls) m z =
    ⊎_elim (λ (e : l ≡ k). rw e (let q : w k ≡ 0 = omega arith in q)) (λ (q : Memᴰ l ls). total-mem w l ls q (omega arith)) (Memᴰ.cases_cons m)

-- an event whose value is not 0 was accepted
accepted : (b : State) (x : Sent) → ((outcome b x).value ≡ 0 → ⊥) → (outcome b x).answer ≡ 0
unfolding refused
accepted b x some = go (went b x)
  where
    go : Went b x → (outcome b x).answer ≡ 0
    go (refused_as n k e) = absurd (some (ap (λ (y : Outcome). y.value) e))
    go (accepted_as e p c q) = ap (λ (y : Outcome). y.answer) q

module _ (timer : ℕ) (low : 1 ≤ timer) (high : timer ≤ 5000) (xs : List Sent) (day : OneDay (run (fresh timer) xs)) where
  abbrev log : List Logged
  log = run (fresh timer) xs

  v : Valid (fresh timer)
  v = valid-fresh timer low high

  -- no number is 0
  no_zero : Unknown 0 log
  no_zero = record {
    complex = λ w k e m. let c : CameEntry timer xs w k = came-entry timer xs v day w k m in omega (arith, c.number, c.entered.numbered.0);
    leg = λ w e m. let c : CameOrder timer xs w = came-order timer xs v day w m in omega (arith, c.number, c.entered.numbered);
  }

  some_number : (l : Line) → Memᴰ l (lines_of log) → l.kind ≤ 3 → l.number ≡ 0 → ⊥
  some_number l m k z =
      let n : mentions 0 l ≡ 0 = total-mem (mentions 0) l (lines_of log) m ((totals timer low high xs day).others 0 no_zero).0 in
      omega (arith, n, when-yes l.number 0 (pick (leb l.kind 3) 1 0) z, pick_true {A = ℕ} (leb l.kind 3) 1 0 (le-leb _ _ k))

  -- EVERY RECORD THAT A SWEEP WRITES, a fill or a cancel under the number that event x answered, belongs to one that bettered at its arrival: the leg
  -- books are those that the events before x left
  pub swept : (l : Line) → Memᴰ l (lines_of log) → l.kind ≤ 3 →
      (before : List Logged) (x : Logged) (behind : List Logged) → log ≡ before ++ (x ∷ behind) →
      (s : GivenSweep) → x.reading ≡ Ok (E.Sweep s) → x.value ≡ l.number →
      (e : GivenStrategy) → Answered e s.strategy log → Bettered before e s
  swept l m k before x behind is s p n e a =
      let some : x.value ≡ 0 → ⊥ = λ z. some_number l m k (sym n ∙ z) in
      let d : Divided (fresh timer) xs before x = run-divided (fresh timer) xs before x behind is in
      let y : x.answer ≡ 0 = ap (λ (z : Logged). z.answer) d.here ∙ accepted (after (fresh timer) d.prefix) d.event (λ z. some (ap (λ (u : Logged). u.value) d.here ∙ z)) in
      (totals timer low high xs day).sweeps before x behind is s (record { reading = p; answer = y; value = some }) e a

  -- EVERY EVENT THAT WAS REFUSED 15 is a sweep of some units that bettered nothing at its arrival
  pub refused-fifteen : (before : List Logged) (x : Logged) (behind : List Logged) → log ≡ before ++ (x ∷ behind) → x.answer ≡ 15 → NothingBettered log before x
  unfolding outcome
  refused-fifteen before x behind is f =
      let d : Divided (fresh timer) xs before x = run-divided (fresh timer) xs before x behind is in
      let b : State = after (fresh timer) d.prefix in
      let t : BettersNothing b d.event.frame d.event.space = fifteen-why b d.event.frame d.event.space (ap (λ (z : Logged). z.answer) (sym d.here) ∙ f) in
      let s : GivenSweep = t.sweep in
      let o : Open (fresh timer) d.prefix × OneDay (run b (d.event ∷ d.suffix)) =
      one-day-split (fresh timer) d.prefix d.event d.suffix (subst (λ (ys : List Sent). OneDay (run (fresh timer) ys)) d.is day) in
      record {
        sweep = s;
        reading = ap (λ (z : Logged). z.reading) d.here ∙ t.reading;
        units = t.units;
        defined = subst (λ (ls : List Logged). Defined s.strategy ls) (ap (run (fresh timer)) (append-nil d.prefix) ∙ sym d.earlier) (strategy-given timer d.prefix [] s.strategy v o.0 t.defined);
        nothing = λ e a.
            let h : HasLegs (strategy_at b s.strategy) e =
            settled-legs (fresh timer) d.prefix (d.event ∷ d.suffix) e s.strategy v o.0 o.1 (subst (λ (ys : List Sent). Answered e s.strategy (run (fresh timer) ys)) d.is a) t.defined in
            subst (λ (ls : List Logged). NotBettered ls e s) (sym d.earlier)
            (not-said timer v d.prefix (open-day (fresh timer) d.prefix o.0) s.strategy e h ((lean-after (fresh timer) d.prefix v (lean-fresh timer) o.0).padded s.strategy t.defined) s t.nothing);
      }
