-- "Sweep: same member, strategy, side and limit: the old one is cancelled by record first; 0 units enters nothing." And when an auction is
-- answered: "if any opposite sweep or waiting order was accepted meanwhile".
use mathlib.Core.Path.{◌≡◌, refl, sym, ◌∙◌, ap}
use mathlib.Core.Bool.{true, not}
use mathlib.Core.Logic.{⊎_elim}
use mathlib.Core.List.{[], ◌∷◌, append-nil}
use Prim.Native.Nat.{ℕ, ◌+◌, ◌≤◌, ◌<◌}
use native.Mathlib.Omega.{arith}
use borrow.Author.Tests.{eqb-true, eqb-false, eq-eqb, ne_eqb}
use lib.Dec.{eqb}
use lib.ListN.{length, get_or-eq_default}
use Rattle.base.specs.Pick.{pick_all, pick-by, pick_true, pick-false, pick_yes}
use Rattle.base.specs.Walks.{lt-or-le, any-holds, any_where, first_holds}
use Rattle.events.specs.declared.Sweep.{Sweep as GivenSweep}
use Rattle.events.specs.declared.Event.TheVariants as E
use Rattle.rules.specs.declared.Strategy.{Strategy}
use Rattle.rules.specs.declared.Entry.{Entry}
use Rattle.rules.specs.declared.State.{State}
use Rattle.rules.specs.declared.Kind.TheVariants.{Cancelled}
use Rattle.rules.specs.State.{no_entry, entry_at, strategy_at, with_entries, with_last}
use Rattle.rules.specs.Moves.{Moved, still, and_then}
use Rattle.rules.specs.Sides.{other}
use Rattle.rules.specs.Fills.{cancel_entry}
use Rattle.rules.specs.Auctions.{put_auction, starter_slot, answer}
use Rattle.rules.specs.Events.{live, enter, free_slot, same_sweep, same_sweep_at, old_sweep, enter_sweep, on_sweep}
use Rattle.rules.specs.Given.{sweep_given}
use Rattle.rules.specs.Step.{accept}
use Rattle.rules.specs.Valid.{Sound, Starter, Valid}
use Rattle.rules.specs.Sentences.{AcceptedEvent, AnswersAuction, SweepOf, Alike, OneSweep, NewSweep, SweepSentence}
use Rattle.rules.proofs.Tables.{Stands}
use Rattle.rules.proofs.Shrinks.{same-entry, cancel-shrinks, answer-shrinks}
use Rattle.rules.proofs.Entering.{pos-live, live_pos, Entering, sound-enter, enter-slot, enter-other, enter-stands, fit-entry-at}
use Rattle.rules.proofs.Settled.{same_or, starter-moves, strategy-same, cancel-other, cancel-dead, cancel-strategies}
use Rattle.rules.proofs.Arrivals.{put-at, put_other, answer-entry, old-sweep, swept-valid, swept-entering}
use Rattle.rules.proofs.Gives.{other-apart}
use Rattle.rules.proofs.Firsts.{live-slot}
use Rattle.rules.proofs.Validity.{sweep-clear}
use Rattle.rules.proofs.Bars.{starter-is}
use Rattle.rules.proofs.PassEnds.{sides-two}

-- AN ANSWER
-- an auction's starter stands on where an entry enters
module _ (b : State) (e : Entry) (v : Valid b) (n : Entering b e) where
  enter-same : (k : ℕ) → strategy_at (enter e b) k ≡ strategy_at b k
  unfolding enter with_entries with_last
  enter-same k = refl

  pub starter-stays : (k i : ℕ) → Starter b k i → entry_at (enter e b) (starter_slot (enter e b) k) ≡ entry_at b i
  starter-stays k i p =
      let s : Stands no_entry (enter e b).entries (entry_at b i) = enter-stands b e v.sound n i p.slot p.live in
      let d : Sound (enter e b) = sound-enter b e v.sound n in
      let q : Starter (enter e b) k s.at =
      starter-moves k i s.at (rw s.is (same-entry _)) (omega (arith, s.slot, d.entry_rows)) (rw s.is p.live) (ap (λ (t : Strategy). t.starter) (enter-same k)) p in
      rw (starter-is (enter e b) d k s.at q) s.is

enter-last : (e : Entry) (b : State) → (enter e b).last ≡ e.number
unfolding enter with_entries with_last
enter-last e b = refl

-- an answer marks the auction if the starter is opposite
answer-marks : (b : State) (k side : ℕ) → k < length b.strategies → (entry_at b (starter_slot b k)).side ≡ other side → (strategy_at (answer k side b) k).answered ≡ true
unfolding answer
answer-marks b k side l e = rw (pick_true _ (put_auction b k (strategy_at b k).starter (strategy_at b k).begun true) b (eq-eqb _ _ e), put-at b k (strategy_at b k).starter (strategy_at b k).begun true l)

answer-none : (b : State) (k side : ℕ) → ((entry_at b (starter_slot b k)).side ≡ other side → ⊥) → answer k side b ≡ b
unfolding answer
answer-none b k side h = pick-false _ _ _ (ne_eqb _ _ h)

answer-other : (b : State) (k side j : ℕ) → (j ≡ k → ⊥) → strategy_at (answer k side b) j ≡ strategy_at b j
unfolding answer
answer-other b k side j n = pick_all (λ (c : State). strategy_at c j ≡ strategy_at b j) _ (put_other b k _ _ _ j n) refl

-- the answer of an entry that has entered, to the auction whose starter stood at slot i
pub entered-answers : (b : State) (e : Entry) → Valid b → Entering b e → (k : ℕ) → k < 16 → AnswersAuction b k e.side (answer k e.side (enter e b))
entered-answers b e v n k low = record {
  opposite = λ i p d. answer-marks (enter e b) k e.side (omega (arith, (sound-enter b e v.sound n).strategy_rows))
      (ap (λ (x : Entry). x.side) (starter-stays b e v n k i p) ∙ sides-two (entry_at b i).side e.side (fit-entry-at b v.sound i).side n.fit.side d);
  same_side = λ i p q. ap (λ (c : State). strategy_at c k) (answer-none (enter e b) k e.side
      (λ z. other-apart e.side (sym q ∙ sym (ap (λ (x : Entry). x.side) (starter-stays b e v n k i p)) ∙ z)))
      ∙ enter-same b e v n k;
}

-- the answer of an entry of that side that stands in the table already
pub answers_at : (b : State) → Sound b → (k s : ℕ) → s ≤ 1 → k < 16 → AnswersAuction b k s (answer k s b)
answers_at b v k s one low = record {
  opposite = λ i p d. answer-marks b k s (omega (arith, v.strategy_rows)) (rw (starter-is b v k i p) (sides-two (entry_at b i).side s (fit-entry-at b v i).side one d));
  same_side = λ i p q. ap (λ (c : State). strategy_at c k) (answer-none b k s (λ z. other-apart s (sym q ∙ (rw (starter-is b v k i p) at z))));
}

-- SWEEPS OF ONE MEMBER, STRATEGY, SIDE AND LIMIT
module _ (b : State) (e : GivenSweep) where
  abbrev pub new : Entry
  new = sweep_given b e

  abbrev pub old : ℕ
  old = old_sweep b new

  same_of : (f : Entry) → same_sweep new f ≡ true → SweepOf e f
  unfolding same_sweep sweep_given
  same_of f h =
      let p = pick_yes (live f) h in
      let q = pick_yes (eqb f.life 4) p.1 in
      let r = pick_yes (eqb f.member e.member) q.1 in
      let s = pick_yes (eqb f.strategy e.strategy) r.1 in
      let t = pick_yes (eqb f.side e.side) s.1 in
      record {
        live = live_pos f p.0;
        life = eqb-true _ _ q.0;
        member = eqb-true _ _ r.0;
        strategy = eqb-true _ _ s.0;
        side = eqb-true _ _ t.0;
        limit = eqb-true _ _ t.1;
      }

  of-same : (f : Entry) → SweepOf e f → same_sweep new f ≡ true
  unfolding same_sweep sweep_given
  of-same f s =
      pick_true _ _ _ (pos-live f s.live) ∙ pick_true _ _ _ (eq-eqb _ _ s.life) ∙ pick_true _ _ _ (eq-eqb _ _ s.member)
      ∙ pick_true _ _ _ (eq-eqb _ _ s.strategy) ∙ pick_true _ _ _ (eq-eqb _ _ s.side) ∙ eq-eqb _ _ s.limit

  module _ (v : Valid b) where
    pub old-low : (i : ℕ) → SweepOf e (entry_at b i) → old < 32
    unfolding old_sweep
    old-low i s = any_where (same_sweep_at b new) 32 (any-holds (same_sweep_at b new) 32 i (live-slot b v.sound.entry_rows i s.live) (of-same (entry_at b i) s))

    pub old-is : old < 32 → SweepOf e (entry_at b old)
    unfolding old_sweep
    old-is l = same_of (entry_at b old) (first_holds (same_sweep_at b new) 32 l)

    alike : {f g : Entry} → SweepOf e f → SweepOf e g → Alike f g
    alike s t = record {
      sweep = s.life;
      life = t.life;
      member = t.member ∙ sym s.member;
      strategy = t.strategy ∙ sym s.strategy;
      side = t.side ∙ sym s.side;
      limit = t.limit ∙ sym s.limit;
    }

    -- of such sweeps there is one at most
    one_at : OneSweep b → (i j : ℕ) → SweepOf e (entry_at b i) → SweepOf e (entry_at b j) → i ≡ j
    one_at o i j s t =
        same_or (i ≡ j) i j (λ q. q)
        (λ q. ⊎_elim
        (λ (l : i < j). absurd (o i j l s.live t.live (alike s t)))
        (λ (l : j ≤ i). absurd (o j i (before j i l q) t.live s.live (alike t s)))
        (lt-or-le i j))
      where
        before : (j i : ℕ) → j ≤ i → (i ≡ j → ⊥) → j < i
        before j i l q = omega arith

    abbrev pub gone : State
    gone = (cancel_entry old b).state

    less-of : (i : ℕ) → SweepOf e (entry_at gone i) → SweepOf e (entry_at b i)
    less-of i s =
        let m = (cancel-shrinks b old).entry i in
        record {
          live = omega (arith, s.live, m.units);
          life = sym m.life ∙ s.life;
          member = sym m.member ∙ s.member;
          strategy = sym m.strategy ∙ s.strategy;
          side = sym m.side ∙ s.side;
          limit = sym m.level ∙ s.limit;
        }

    -- once the old one is cancelled there is none
    pub none_left : OneSweep b → (i : ℕ) → SweepOf e (entry_at gone i) → ⊥
    none_left o i s =
        let t : SweepOf e (entry_at b i) = less-of i s in
        let q : i ≡ old = one_at o i old t (old-is (old-low i t)) in
        let z : (entry_at gone i).units ≡ 0 = rw q (cancel-dead b old) in
        omega (arith, s.live)

    -- THE RECORD
    enter-records : (c : State) → (enter_sweep new c).records ≡ []
    unfolding enter_sweep
    enter-records c = pick_all (λ (m : Moved). m.records ≡ []) _ refl refl

    on-records : (on_sweep new b).records ≡ (cancel_entry old b).records
    unfolding on_sweep and_then
    on-records = rw (enter-records gone) (append-nil _)

    replaced : OneSweep b → (i : ℕ) → SweepOf e (entry_at b i) →
        (on_sweep new b).records ≡ record { kind = Cancelled; number = (entry_at b i).number; place = 0; side = e.side; quantity = (entry_at b i).units; level = 10_000_000 } ∷ []
    unfolding cancel_entry
    replaced o i s =
        let q : old ≡ i = one_at o old i (old-is (old-low i s)) s in
        on-records ∙ (rw q (pick-by (λ (m : Moved). m.records ≡ record { kind = Cancelled; number = (entry_at b i).number; place = 0; side = e.side; quantity = (entry_at b i).units; level = 10_000_000 } ∷ [])
        (eqb (entry_at b i).units 0) (λ z. absurd (omega (arith, s.live, eqb-true (entry_at b i).units 0 z))) (λ _. rw s.side)))

    not-replaced : ((i : ℕ) → SweepOf e (entry_at b i) → ⊥) → (on_sweep new b).records ≡ []
    unfolding cancel_entry
    not-replaced h =
        on-records
        ∙ pick-by (λ (m : Moved). m.records ≡ []) (eqb (entry_at b old).units 0) (λ _. refl)
        (λ z. absurd (⊎_elim (λ (l : old < 32). h old (old-is l))
        (λ (l : 32 ≤ old). let d : entry_at b old ≡ no_entry = get_or-eq_default b.entries no_entry {n = old} (omega (arith, v.sound.entry_rows)) in
        eqb-false _ _ z (ap (λ (x : Entry). x.units) d))
        (lt-or-le old 32)))

    -- 0 UNITS
    pub withdraws : e.units ≡ 0 → (on_sweep new b).state ≡ gone
    unfolding on_sweep and_then enter_sweep live sweep_given
    withdraws z = ap (λ (m : Moved). m.state) (pick-false _ _ (still gone) (ap not (eq-eqb e.units 0 z)))

    -- UNITS
    module _ (low : e.strategy < 16) (r : Entering gone new) (w : Valid gone) where
      abbrev pub d : State
      d = answer e.strategy e.side (enter new gone)

      pub sweeps : 0 < e.units → (on_sweep new b).state ≡ d
      unfolding on_sweep and_then enter_sweep sweep_given
      sweeps l = ap (λ (m : Moved). m.state) (pick_true _ _ (still gone) (pos-live new l))

      at-free : entry_at d (free_slot gone) ≡ new
      at-free = answer-entry (enter new gone) e.strategy e.side (free_slot gone) ∙ enter-slot gone new w.sound r

      new-sweep : OneSweep b → 0 < e.units → NewSweep b e d
      unfolding sweep_given
      new-sweep o l = record {
        at = free_slot gone;
        sweep = rw at-free (record { live = l; life = refl; member = refl; strategy = refl; side = refl; limit = refl });
        number = rw at-free;
        units = rw at-free;
        alone = λ i s. same_or (i ≡ free_slot gone) i (free_slot gone) (λ q. q) (λ q. absurd
            (let t : SweepOf e (entry_at (enter new gone) i) = rw (answer-entry (enter new gone) e.strategy e.side i) at s in
            enter-other gone new w.sound r (λ (y : Entry). SweepOf e y → ⊥) (λ j _. none_left o j) i q t.live t));
      }

      d-last : d.last ≡ b.last + 1
      unfolding sweep_given
      d-last = (answer-shrinks (enter new gone) e.strategy e.side).last ∙ entered-last
        where
          entered-last : (enter new gone).last ≡ b.last + 1
          entered-last = enter-last new gone

      -- the starter is no sweep, so it stands on
      still-starter : (i : ℕ) → Starter b e.strategy i → Starter gone e.strategy i
      still-starter i p =
          let n : ¬ (i ≡ old) = λ q. (let l : old < 32 = rw (sym q) p.slot in let z : (entry_at b i).life ≡ 4 = rw q (old-sweep b new l).1 in omega (arith, p.life)) in
          let same : entry_at gone i ≡ entry_at b i = cancel-other b old i n in
          starter-moves e.strategy i i (rw same (same-entry _)) p.slot (rw same p.live)
          (ap (λ (t : Strategy). t.starter) (strategy-same b gone (cancel-strategies b old) e.strategy)) p

      still-side : (i : ℕ) → Starter b e.strategy i → (entry_at gone i).side ≡ (entry_at b i).side
      still-side i p = ((cancel-shrinks b old).entry i).side

      d-answers : AnswersAuction b e.strategy e.side d
      unfolding sweep_given
      d-answers =
          let a : AnswersAuction gone e.strategy e.side d = entered-answers gone new w r e.strategy low in
          record {
            opposite = λ i p n. a.opposite i (still-starter i p) (λ q. n (sym (still-side i p) ∙ q));
            same_side = λ i p q. a.same_side i (still-starter i p) (still-side i p ∙ q) ∙ strategy-same b gone (cancel-strategies b old) e.strategy;
          }

      d-other : (k : ℕ) → (k ≡ e.strategy → ⊥) → strategy_at d k ≡ strategy_at b k
      d-other k n = answer-other (enter new gone) e.strategy e.side k n ∙ enter-same gone new w r k ∙ strategy-same b gone (cancel-strategies b old) k

-- THE SENTENCE
pub sweep-sentence : (b : State) (e : GivenSweep) → AcceptedEvent b (E.Sweep e) → OneSweep b → SweepSentence b e (accept b (E.Sweep e))
unfolding accept sweep_given
sweep-sentence b e a o =
    let v : Valid b = a.valid in
    let x = sweep-clear b e a.fit a.clear in
    let low : e.strategy < 16 = a.fit.strategy in
    let w : Valid (gone b e v) = swept-valid b (new b e) v (sweep-life b e) in
    let r : 0 < e.units → Entering (gone b e v) (new b e) = λ l. swept-entering b (new b e) v (sweep-life b e) (sweep-some b e l) (x.1 l) in
    record {
      replaces = replaced b e v o;
      removes_none = not-replaced b e v;
      withdrawn = λ z i s. none_left b e v o i (rw (withdraws b e v z) at s);
      no_number = λ z. rw (withdraws b e v z) (cancel-shrinks b (old b e)).last;
      enters = λ l. rw (sweeps b e v low (r l) w l) (new-sweep b e v low (r l) w o l);
      number = λ l. rw (sweeps b e v low (r l) w l) (d-last b e v low (r l) w);
      answers = λ l. rw (sweeps b e v low (r l) w l) (d-answers b e v low (r l) w);
      not_answers = λ z. rw (withdraws b e v z) (cancel-strategies b (old b e));
      other_auctions = λ k n. ⊎_elim
          (λ (l : 0 < e.units). rw (sweeps b e v low (r l) w l) (d-other b e v low (r l) w k n))
          (λ (l : e.units ≤ 0). rw (withdraws b e v (omega arith)) (strategy-same b (gone b e v) (cancel-strategies b (old b e)) k))
          (lt-or-le 0 e.units);
    }
  where
    sweep-life : (b : State) (e : GivenSweep) → (sweep_given b e).life ≡ 4
    sweep-life b e = refl

    sweep-some : (b : State) (e : GivenSweep) → 0 < e.units → live (sweep_given b e) ≡ true
    sweep-some b e l = pos-live (sweep_given b e) l
