-- What settles a strategy, through moves: auctions keep their starters, and without one only day orders live.
use mathlib.Core.Path.{◌≡◌, refl, sym, ◌∙◌, ap}
use mathlib.Core.Bool.{true, false, not}
use mathlib.Core.Logic.{⊎_elim}
use mathlib.Core.List.{List}
use Prim.Native.Nat.{ℕ, zero, suc, ◌≤◌, ◌<◌}
use native.Mathlib.Omega.{arith}
use borrow.Author.Tests.{eqb-true, eqb-false}
use lib.Dec.{eqb}
use lib.ListN.{length, get_or, get_or-eq_default}
use lib.Seq.{get_or-set_same, get_or-set_other}
use Rattle.base.specs.Pick.{pick-by, pick_all}
use Rattle.base.specs.Walks.{clash, lt-or-le}
use Rattle.rules.specs.declared.Strategy.{Strategy}
use Rattle.rules.specs.declared.Entry.{Entry}
use Rattle.rules.specs.declared.State.{State}
use Rattle.rules.specs.State.{no_entry, no_strategy, entry_at, strategy_at, with_entries}
use Rattle.rules.specs.Moves.{Moved, and_then, each}
use Rattle.rules.specs.Strategies.{shut_set, all_open}
use Rattle.rules.specs.Fills.{cut_entry, cut, cancel_entry}
use Rattle.rules.specs.Auctions.{running}
use Rattle.rules.specs.Valid.{Sound, Starter, HasStarter, Settled, Valid}
use Rattle.rules.proofs.Shrinks.{SameEntry, same-entry, Shrinks, cancel-shrinks}
use Rattle.rules.proofs.Entering.{sound-auctions, sound-shrinks, auctions-same}
use Rattle.rules.proofs.Only.{Only}

-- two numbers are one, or not
pub same_or : (P : Type 0) (i j : ℕ) → (i ≡ j → P) → ((i ≡ j → ⊥) → P) → P
same_or P i j f g = pick-by (λ (n : ℕ). P) (eqb i j) {a = 0} {b = 0} (λ e. f (eqb-true i j e)) (λ e. g (eqb-false i j e))

-- What is settled of a strategy but for the open legs, and but for the entry in slot x.
pub record Nearly (b : State) (k x : ℕ) : Type 0 where
  pub starter : running b k ≡ true → HasStarter b k
  pub begun : (strategy_at b k).begun ≤ b.clock
  pub day : running b k ≡ false → (i : ℕ) → (i ≡ x → ⊥) → 0 < (entry_at b i).units → (entry_at b i).strategy ≡ k → (entry_at b i).life ≡ 0
  pub stays : (i : ℕ) → (i ≡ x → ⊥) → 0 < (entry_at b i).units → (entry_at b i).strategy ≡ k → (entry_at b i).life ≡ 3 → ⊥

abbrev pub OpenLegs : State → ℕ → Type 0
OpenLegs b k = running b k ≡ true → all_open b k ≡ true

-- what the entry in slot x is to fulfil
abbrev pub Fits : State → ℕ → ℕ → Type 0
Fits b k x = 0 < (entry_at b x).units → (entry_at b x).strategy ≡ k → (running b k ≡ false → (entry_at b x).life ≡ 0) × ((entry_at b x).life ≡ 3 → ⊥)

pub settled-nearly : {b : State} {k : ℕ} (x : ℕ) → Settled b k → Nearly b k x
settled-nearly x s = record { starter = s.starter; begun = s.begun; day = λ r i _. s.day r i; stays = λ i _. s.stays i }

pub nearly-settled : {b : State} {k x : ℕ} → Nearly b k x → OpenLegs b k → Fits b k x → Settled b k
nearly-settled {b} {k} {x} s o f = record {
  starter = s.starter;
  open_legs = o;
  begun = s.begun;
  day = λ r i l e. same_or _ i x (λ q. rw q ((f (rw q at l) (rw q at e)).0 r)) (λ q. s.day r i q l e);
  stays = λ i l e t. same_or ⊥ i x (λ q. (f (rw q at l) (rw q at e)).1 (rw q at t)) (λ q. s.stays i q l e t);
}

-- Through a move that lessens quantities and leaves the auction of k.

pub running-same : (b c : State) (k : ℕ) → (strategy_at c k).starter ≡ (strategy_at b k).starter → running c k ≡ running b k
running-same b c k e = ap (λ (n : ℕ). not (eqb n 0)) e

-- the same entry, or one with fewer units, is the starter still
pub starter-moves : {b c : State} (k i j : ℕ) → SameEntry (entry_at b i) (entry_at c j) → j < 32 → 0 < (entry_at c j).units → (strategy_at c k).starter ≡ (strategy_at b k).starter → Starter b k i → Starter c k j
starter-moves k i j h l p e s = record {
  slot = l;
  live = p;
  strategy = h.strategy ∙ s.strategy;
  number = h.number ∙ s.number ∙ sym e;
  class = (omega (arith, h.class, s.class.0), omega (arith, h.class, s.class.1));
  life = omega (arith, h.life, s.life);
}

pub nearly-moves : {b c : State} (k x : ℕ) → Shrinks b c → (strategy_at c k).starter ≡ (strategy_at b k).starter → (strategy_at c k).begun ≡ (strategy_at b k).begun →
    (running b k ≡ true → (i : ℕ) → Starter b k i → 0 < (entry_at c i).units) → Nearly b k x → Nearly c k x
nearly-moves {b} {c} k x h e t live s = record {
  starter = λ r.
      let q : running b k ≡ true = sym (running-same b c k e) ∙ r in
      let p : HasStarter b k = s.starter q in
      record { at = p.at; starter = starter-moves k p.at p.at (h.entry p.at) p.starter.slot (live q p.at p.starter) e p.starter };
  begun = omega (arith, h.clock, s.begun);
  day = λ r i n l q.
      let m = h.entry i in
      m.life ∙ s.day (sym (running-same b c k e) ∙ r) i n (omega (arith, m.units)) (sym m.strategy ∙ q);
  stays = λ i n l q z.
      let m = h.entry i in
      s.stays i n (omega (arith, m.units)) (sym m.strategy ∙ q) (sym m.life ∙ z);
}

pub shut-same : {b c : State} (k : ℕ) → Shrinks b c → shut_set c k ≡ shut_set b k
unfolding shut_set
shut-same k h = rw ((h.strategy k).series, h.opened)

pub open-moves : {b c : State} (k : ℕ) → Shrinks b c → (strategy_at c k).starter ≡ (strategy_at b k).starter → OpenLegs b k → OpenLegs c k
open-moves {b} {c} k h e o r = ap (λ (n : ℕ). eqb n 0) (shut-same k h) ∙ o (sym (running-same b c k e) ∙ r)

-- Through a move of one strategy.

pub strategy-same : (b c : State) → c.strategies ≡ b.strategies → (k : ℕ) → strategy_at c k ≡ strategy_at b k
strategy-same b c e k = ap (λ (ss : List Strategy). get_or ss k no_strategy) e

pub only-sound : {b c : State} {k : ℕ} → Only k b c → Sound b → Sound c
only-sound {b} o s = sound-shrinks o.shrinks (auctions-same o.strategies o.shrinks.defined (sound-auctions b s)) s

pub only-nearly : {b c : State} {k : ℕ} (j x : ℕ) → Only k b c → (j ≡ k → running b k ≡ false) → Nearly b j x → Nearly c j x
only-nearly {b} {c} {k} j x o n s =
    let e : strategy_at c j ≡ strategy_at b j = strategy-same b c o.strategies j in
    nearly-moves j x o.shrinks (ap (λ (t : Strategy). t.starter) e) (ap (λ (t : Strategy). t.begun) e)
    (λ r i p.
    let q : ¬ ((entry_at b i).strategy ≡ k) = λ h. (let z : j ≡ k = sym p.strategy ∙ h in clash (rw z at r) (n z)) in
    omega (arith, o.others i q, p.live)) s

pub only-open : {b c : State} {k : ℕ} (j : ℕ) → Only k b c → OpenLegs b j → OpenLegs c j
only-open {b} {c} j o h = open-moves j o.shrinks (ap (λ (t : Strategy). t.starter) (strategy-same b c o.strategies j)) h

-- Where no entry and not this strategy has changed, and time has not gone back.
pub nearly-tables : {b c : State} (k x : ℕ) → c.entries ≡ b.entries → strategy_at c k ≡ strategy_at b k → b.clock ≤ c.clock → Nearly b k x → Nearly c k x
nearly-tables {b} {c} k x ee t cl s =
    let at : (i : ℕ) → entry_at c i ≡ entry_at b i = λ i. ap (λ (es : List Entry). get_or es i no_entry) ee in
    let st : (strategy_at c k).starter ≡ (strategy_at b k).starter = ap (λ (y : Strategy). y.starter) t in
    let runs : running c k ≡ running b k = running-same b c k st in
    record {
      starter = λ r.
          let p : HasStarter b k = s.starter (sym runs ∙ r) in
          record { at = p.at; starter = starter-moves k p.at p.at (rw (at p.at) (same-entry _)) p.starter.slot (rw (at p.at) p.starter.live) st p.starter };
      begun = omega (arith, s.begun, ap (λ (y : Strategy). y.begun) t);
      day = λ r i. rw (at i) (s.day (sym runs ∙ r) i);
      stays = λ i. rw (at i) (s.stays i);
    }

-- All but the open legs.
pub record Loose (b : State) : Type 0 where
  pub sound : Sound b
  pub near : (k : ℕ) → Nearly b k 32

-- there is no slot 32
pub past : (b : State) → Sound b → (entry_at b 32).units ≡ 0
past b s = ap (λ (e : Entry). e.units) (get_or-eq_default b.entries no_entry {n = 32} (omega (arith, s.entry_rows)))

pub valid-loose : {b : State} → Valid b → Loose b
valid-loose v = record { sound = v.sound; near = λ k. settled-nearly 32 (v.settled k) }

pub loose-valid : {b : State} → Loose b → ((k : ℕ) → OpenLegs b k) → Valid b
loose-valid {b} l o = record {
  sound = l.sound;
  settled = λ k. nearly-settled (l.near k) (o k) (λ h e. absurd (omega (arith, past b l.sound)));
}

pub valid-only : {b c : State} {k : ℕ} → Only k b c → running b k ≡ false → Valid b → Valid c
valid-only {b} {c} {k} o n v =
    let l = valid-loose v in
    loose-valid (record { sound = only-sound o l.sound; near = λ j. only-nearly j 32 o (λ _. n) (l.near j) }) (λ j. only-open j o (v.settled j).open_legs)

-- a move that touches no entry of any strategy
pub valid-quiet : {b c : State} → ((k : ℕ) → Only k b c) → Valid b → Valid c
valid-quiet {b} {c} o v =
    let l = valid-loose v in
    loose-valid
    (record { sound = only-sound (o 0) l.sound; near = λ j. only-nearly j 32 (o (suc j)) (λ e. absurd (omega arith)) (l.near j) })
    (λ j. only-open j (o 0) (v.settled j).open_legs)

-- A move at each slot.
pub each_keeps : (P : State → Type 0) (f : ℕ → State → Moved) (n : ℕ) → ((i : ℕ) → i < n → (c : State) → P c → P (f i c).state) → (b : State) → P b → P (each f n b).state
unfolding each and_then
each_keeps P f zero h b p = p
each_keeps P f (suc n) h b p = h n (omega arith) _ (each_keeps P f n (λ i l. h i (omega arith)) b p)

-- A cancel.

pub cancel-other : (b : State) (i j : ℕ) → (j ≡ i → ⊥) → entry_at (cancel_entry i b).state j ≡ entry_at b j
unfolding cancel_entry cut with_entries
cancel-other b i j n =
    pick_all (λ (m : Moved). entry_at m.state j ≡ entry_at b j) _ refl (get_or-set_other b.entries i j _ no_entry n)

cut-dead : (b : State) (i : ℕ) → i < length b.entries → (entry_at (cut b i (entry_at b i).units) i).units ≡ 0
unfolding cut with_entries
cut-dead b i l = rw (get_or-set_same b.entries i (cut_entry (entry_at b i) (entry_at b i).units) no_entry l) (omega arith)

pub cancel-dead : (b : State) (i : ℕ) → (entry_at (cancel_entry i b).state i).units ≡ 0
unfolding cancel_entry
cancel-dead b i =
    pick-by (λ (m : Moved). (entry_at m.state i).units ≡ 0) (eqb (entry_at b i).units 0) (λ e. eqb-true _ _ e)
    (λ e. ⊎_elim
    (λ (l : i < length b.entries). cut-dead b i l)
    (λ (l : length b.entries ≤ i). absurd (eqb-false _ _ e (ap (λ (y : Entry). y.units) (get_or-eq_default b.entries no_entry l))))
    (lt-or-le i (length b.entries)))

pub cancel-strategies : (b : State) (i : ℕ) → (cancel_entry i b).state.strategies ≡ b.strategies
unfolding cancel_entry cut with_entries
cancel-strategies b i = pick_all (λ (m : Moved). m.state.strategies ≡ b.strategies) _ refl refl

-- a cancel of an entry that is no starter settles what was settled but for it
pub cancel-valid : {b : State} (i : ℕ) → Sound b → ((k : ℕ) → Nearly b k i) → ((k : ℕ) → OpenLegs b k) → ((k : ℕ) → running b k ≡ true → Starter b k i → ⊥) → Valid (cancel_entry i b).state
cancel-valid {b} i s near legs never =
    let c : State = (cancel_entry i b).state in
    let h : Shrinks b c = cancel-shrinks b i in
    let e : c.strategies ≡ b.strategies = cancel-strategies b i in
    let at : (k : ℕ) → strategy_at c k ≡ strategy_at b k = strategy-same b c e in
    record {
      sound = sound-shrinks h (auctions-same e h.defined (sound-auctions b s)) s;
      settled = λ k.
          nearly-settled
          (nearly-moves k i h (ap (λ (t : Strategy). t.starter) (at k)) (ap (λ (t : Strategy). t.begun) (at k))
          (λ r j p. omega (arith, p.live, ap (λ (y : Entry). y.units) (cancel-other b i j (λ q. never k r (rw q at p))))) (near k))
          (open-moves k h (ap (λ (t : Strategy). t.starter) (at k)) (legs k))
          (λ l. absurd (omega (arith, cancel-dead b i)));
    }
