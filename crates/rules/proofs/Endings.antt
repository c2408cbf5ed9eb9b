-- The clock, series that open or shut, and the day's end leave a valid state valid.
use mathlib.Core.Path.{◌≡◌, refl, sym, ◌∙◌, ap}
use mathlib.Core.Bool.{Bool, true, false, not}
use mathlib.Core.Logic.{⊎_elim}
use mathlib.Core.List.{List}
use Prim.Native.Nat.{ℕ, zero, suc, ◌+◌, ◌-◌, ◌^◌, ◌≤◌, ◌<◌}
use native.Mathlib.Nat.{le_refl}
use native.Mathlib.Omega.{arith}
use borrow.Author.Tests.{eqb-true, eqb-false, eq-eqb, ne_eqb, not-true}
use lib.Dec.{eqb}
use lib.ListN.{get_or}
use Rattle.base.specs.Pick.{pick, pick-by, pick_all, pick_true, pick-false, pick_yes}
use Rattle.base.specs.Walks.{below, clash, lt-or-le}
use Rattle.base.specs.Sets.{has}
use Rattle.base.specs.SetLaws.{has-add, has_sub, add-lt, minus-none, minus-zero}
use Rattle.rules.specs.declared.Strategy.{Strategy}
use Rattle.rules.specs.declared.Entry.{Entry}
use Rattle.rules.specs.declared.State.{State}
use Rattle.rules.specs.State.{no_entry, fresh, entry_at, strategy_at, with_opened, with_clock}
use Rattle.rules.specs.Moves.{Moved, and_then, each}
use Rattle.rules.specs.Strategies.{shut_set, all_open, holds}
use Rattle.rules.specs.Auctions.{live_in, running, with_auction, put_auction, close, lapses, cancel_lapsed, end_unfilled, starter_pass, later_pass, end_auction, due, end_due, end_holding, match_all, match_in}
use Rattle.rules.specs.Events.{on_clock, shut, reopen, on_series, restart, on_day_end}
use Rattle.rules.specs.Valid.{Sound, Valid}
use Rattle.rules.proofs.Shrinks.{SameEntry, Shrinks, shrinks-trans, auction-shrinks}
use Rattle.rules.proofs.Entering.{sound-auctions, sound-shrinks, auctions-same, fit-entry-at, sound-fresh, fresh-dead, fresh-auction, sound-clock, sound-opened}
use Rattle.rules.proofs.Only.{Only, only-refl, only-trans, only-each, lapsed-only, starter_pass-only, later_pass-only, match_all-only}
use Rattle.rules.proofs.Settled.{same_or, Nearly, OpenLegs, settled-nearly, running-same, nearly-moves, open-moves, shut-same, strategy-same, nearly-tables, Loose, valid-loose, loose-valid, valid-only, each_keeps, cancel-dead}
use Rattle.rules.proofs.Arrivals.{put_other, put-at, put_entries_lem, put-auctions, leg_passes-valid}
use Rattle.rules.proofs.Firsts.{live-slot}

-- What lapses.

pub or_no : (t : Bool) {u : Bool} → pick t true u ≡ false → (t ≡ false) × (u ≡ false)
unfolding pick
or_no true e = absurd (clash refl e)
or_no false e = (refl, e)

pub live-is : (k : ℕ) (e : Entry) → 0 < e.units → e.strategy ≡ k → live_in k e ≡ true
unfolding live_in
live-is k e h q = pick-false _ _ _ (ne_eqb e.units 0 (λ z. omega arith)) ∙ eq-eqb _ _ q

-- a live entry of the strategy that does not lapse
abbrev Lasts : ℕ → Entry → Type 0
Lasts k e = 0 < e.units → e.strategy ≡ k → (e.life ≡ 1 → ⊥) × (e.life ≡ 2 → ⊥) × (e.life ≡ 4 → ⊥)

lasts : (k : ℕ) (e : Entry) → lapses k e ≡ false → Lasts k e
unfolding lapses
lasts k e h l s =
    let p = or_no (eqb e.life 1) (sym (pick_true _ _ _ (live-is k e l s)) ∙ h) in
    let q = or_no (eqb e.life 2) p.1 in
    (eqb-false _ _ p.0, eqb-false _ _ q.0, eqb-false _ _ q.1)

lasts-less : {e f : Entry} (k : ℕ) → SameEntry e f → Lasts k e → Lasts k f
lasts-less {e} {f} k m h l s =
    let q = h (omega (arith, m.units)) (sym m.strategy ∙ s) in
    let z : f.life ≡ e.life = m.life in
    (λ t. q.0 (sym z ∙ t), λ t. q.1 (sym z ∙ t), λ t. q.2 (sym z ∙ t))

lapsed-lasts : (k i : ℕ) (b : State) → Lasts k (entry_at (cancel_lapsed k i b).state i)
unfolding cancel_lapsed
lapsed-lasts k i b =
    pick-by (λ (m : Moved). Lasts k (entry_at m.state i)) (lapses k (entry_at b i))
    (λ _ l. absurd (omega (arith, cancel-dead b i))) (λ e. lasts k (entry_at b i) e)

-- after the cancels none is left that lapses
lapsed-all : (k n : ℕ) (b : State) (i : ℕ) → i < n → Lasts k (entry_at (each (cancel_lapsed k) n b).state i)
unfolding each and_then
lapsed-all k zero b i h = absurd (omega arith)
lapsed-all k (suc n) b i h =
    let c : State = (each (cancel_lapsed k) n b).state in
    ⊎_elim (λ q. rw q (lapsed-lasts k n c)) (λ l. lasts-less k ((lapsed-only k n c).shrinks.entry i) (lapsed-all k n b i l)) (below h)

-- of five lives, the one that is left
day-left : (n : ℕ) → n ≤ 4 → (n ≡ 1 → ⊥) → (n ≡ 2 → ⊥) → (n ≡ 3 → ⊥) → (n ≡ 4 → ⊥) → n ≡ 0
day-left n h a b c d = omega arith

-- The end of an auction: from the cancels on, once its passes have touched entries of its strategy only.

module _ (k : ℕ) {b c : State} (low : k < 16) (l : Loose b) (o : Only k b c) where
  abbrev lapsed : State
  lapsed = (each (cancel_lapsed k) 32 c).state

  lapsed-only-all : Only k b lapsed
  lapsed-only-all = only-trans o (only-each (cancel_lapsed k) c 32 (λ i _ d _. lapsed-only k i d))

  abbrev ended : State
  ended = put_auction lapsed k 0 0 false

  pub ended-shrinks : Shrinks b ended
  ended-shrinks = shrinks-trans lapsed-only-all.shrinks (auction-shrinks lapsed k 0 0 false)

  pub ended_at : strategy_at ended k ≡ with_auction (strategy_at lapsed k) 0 0 false
  ended_at = put-at lapsed k 0 0 false (omega (arith, lapsed-only-all.shrinks.strategy_rows, l.sound.strategy_rows))

  pub ended-other : (j : ℕ) → (j ≡ k → ⊥) → strategy_at ended j ≡ strategy_at b j
  ended-other j n = put_other lapsed k 0 0 false j n ∙ strategy-same b lapsed lapsed-only-all.strategies j

  ended-entry : (i : ℕ) → entry_at ended i ≡ entry_at lapsed i
  ended-entry i = ap (λ (es : List Entry). get_or es i no_entry) (put_entries_lem lapsed k 0 0 false)

  pub ended-still : running ended k ≡ false
  ended-still = rw ended_at

  ended-sound : Sound ended
  ended-sound =
      sound-shrinks ended-shrinks
      (put-auctions lapsed k 0 0 false (omega arith) (omega arith) (λ _. refl)
      (auctions-same lapsed-only-all.strategies lapsed-only-all.shrinks.defined (sound-auctions b l.sound)))
      l.sound

  ended-stays : (i : ℕ) → (i ≡ 32 → ⊥) → 0 < (entry_at ended i).units → (entry_at ended i).strategy ≡ k → (entry_at ended i).life ≡ 3 → ⊥
  ended-stays i n h s t =
      let m = ended-shrinks.entry i in
      (l.near k).stays i n (omega (arith, m.units)) (sym m.strategy ∙ s) (sym m.life ∙ t)

  ended-day : (i : ℕ) → (i ≡ 32 → ⊥) → 0 < (entry_at ended i).units → (entry_at ended i).strategy ≡ k → (entry_at ended i).life ≡ 0
  ended-day i n h s =
      let p : Lasts k (entry_at ended i) = rw (ended-entry i) (lapsed-all k 32 c i (live-slot ended ended-sound.entry_rows i h)) in
      let q = p h s in
      day-left (entry_at ended i).life (fit-entry-at ended ended-sound i).life q.0 q.1 (ended-stays i n h s) q.2

  ended-mine : Nearly ended k 32
  ended-mine = record {
    starter = λ r. absurd (clash r ended-still);
    begun = rw ended_at (omega arith);
    day = λ _. ended-day;
    stays = ended-stays;
  }

  ended-near : (j : ℕ) → Nearly ended j 32
  ended-near j =
      same_or (Nearly ended j 32) j k (λ q. rw q ended-mine)
      (λ q.
      let e : strategy_at ended j ≡ strategy_at b j = ended-other j q in
      nearly-moves j 32 ended-shrinks (ap (λ (t : Strategy). t.starter) e) (ap (λ (t : Strategy). t.begun) e)
      (λ _ i p. rw (ended-entry i) (omega (arith, p.live, lapsed-only-all.others i (λ z. q (sym p.strategy ∙ z)))))
      (l.near j))

  ended-legs : (j : ℕ) → OpenLegs b j → OpenLegs ended j
  ended-legs j h =
      same_or (OpenLegs ended j) j k (λ q. rw q (λ r. absurd (clash r ended-still)))
      (λ q. open-moves j ended-shrinks (ap (λ (t : Strategy). t.starter) (ended-other j q)) h)

  pub ended_is : (end_unfilled k c).state ≡ ended
  unfolding end_unfilled and_then close
  ended_is = refl

  pub ended-loose : Loose ended
  ended-loose = record { sound = ended-sound; near = ended-near }

  end-valid : ((j : ℕ) → OpenLegs b j) → Valid (end_unfilled k c).state
  end-valid h = rw ended_is (loose-valid ended-loose (λ j. ended-legs j (h j)))

-- The clock.

-- an auction runs in a strategy that is defined
pub running-low : (b : State) → Sound b → (k : ℕ) → running b k ≡ true → k < 16
running-low b s k r =
    let z : ¬ ((strategy_at b k).starter ≡ 0) = eqb-false _ 0 (not-true _ r) in
    ⊎_elim (λ (m : k < 16). m) (λ (m : 16 ≤ k). absurd (z (s.undefined k (omega (arith, s.defined))).2)) (lt-or-le k 16)

pub auction-valid : (k : ℕ) (b : State) → Valid b → running b k ≡ true → Valid (end_auction k b).state
unfolding end_auction and_then
auction-valid k b v r =
    let n : ℕ = (strategy_at b k).starter in
    let c : State = (starter_pass k b).state in
    let o : Only k b c = starter_pass-only k b v.sound.entry_rows v.sound.order_rows in
    let p : Only k c (each (later_pass k n) 32 c).state = only-each (later_pass k n) c 32 (λ i _ d s. later_pass-only k n i d (s.order_rows ∙ o.shrinks.order_rows ∙ v.sound.order_rows)) in
    end-valid k (running-low b v.sound k r) (valid-loose v) (only-trans o p) (λ j. (v.settled j).open_legs)

pub due-valid : (k : ℕ) (b : State) → Valid b → Valid (end_due k b).state
unfolding end_due due
due-valid k b v =
    pick-by (λ (m : Moved). Valid m.state) _ (λ t. auction-valid k b v (pick_yes (running b k) t).0) (λ _. v)

clock-near : (t : ℕ) (b : State) → b.clock ≤ t → Valid b → (k : ℕ) → Nearly (with_clock b t) k 32
unfolding with_clock
clock-near t b h v k = nearly-tables k 32 refl refl h (settled-nearly 32 (v.settled k))

clock-legs : (t : ℕ) (b : State) → Valid b → (k : ℕ) → OpenLegs (with_clock b t) k
unfolding with_clock shut_set
clock-legs t b v k = (v.settled k).open_legs

-- the state at the new clock
pub clock-set : (t : ℕ) (b : State) → b.clock ≤ t → t ≤ 86_400_000 → Valid b → Valid (with_clock b t)
clock-set t b h m v = loose-valid (record { sound = sound-clock b t v.sound m; near = clock-near t b h v }) (clock-legs t b v)

pub clock-valid : (t : ℕ) (b : State) → b.clock ≤ t → t ≤ 86_400_000 → Valid b → Valid (on_clock t b).state
unfolding on_clock
clock-valid t b h m v = each_keeps Valid end_due 16 (λ k _ c. due-valid k c) (with_clock b t) (clock-set t b h m v)

-- Series.

opened-near : (o : ℕ) (b : State) → Valid b → (k : ℕ) → Nearly (with_opened b o) k 32
unfolding with_opened
opened-near o b v k = nearly-tables k 32 refl refl (le_refl _) (settled-nearly 32 (v.settled k))

opened-runs : (o : ℕ) (b : State) (k : ℕ) → running (with_opened b o) k ≡ running b k
unfolding with_opened
opened-runs o b k = refl

opened-holds : (o : ℕ) (b : State) (s k : ℕ) → holds (with_opened b o) s k ≡ holds b s k
unfolding with_opened
opened-holds o b s k = refl

-- every leg of a strategy that runs is open
leg-open : (b : State) → Valid b → (k : ℕ) → running b k ≡ true → (i : ℕ) → i < 32 → holds b i k ≡ true → has b.opened i ≡ true
unfolding shut_set
leg-open b v k r i h q = minus-zero _ _ (eqb-true _ _ ((v.settled k).open_legs r)) i h q

opened-all : (o : ℕ) (b : State) (k : ℕ) → ((i : ℕ) → i < 32 → holds b i k ≡ true → has o i ≡ true) → all_open (with_opened b o) k ≡ true
unfolding with_opened shut_set
opened-all o b k h = eq-eqb _ _ (minus-none (strategy_at b k).series o h)

-- SHUT: at strategy i those before it run only where they do not hold the series, and those that do not hold it have open legs.
record Shutting (s i : ℕ) (b : State) : Type 0 where
  pub loose : Loose b
  pub legs : (j : ℕ) → running b j ≡ true → holds b s j ≡ false → all_open b j ≡ true
  pub done : (j : ℕ) → j < i → running b j ≡ true → holds b s j ≡ false

holds_same : {b c : State} (s j : ℕ) → Shrinks b c → holds c s j ≡ holds b s j
holds_same s j h = rw (h.strategy j).series

module _ (s k : ℕ) (b : State) (p : Shutting s k b) where
  -- a strategy that does not run, or does not hold the series, is left
  shutting-left : (running b k ≡ true → holds b s k ≡ false) → Shutting s (suc k) b
  shutting-left f = record {
    loose = p.loose;
    legs = p.legs;
    done = λ j h r. ⊎_elim (λ q. rw q (f (rw q at r))) (λ m. p.done j m r) (below h);
  }

  -- one that runs and holds it ends
  shutting-ends : running b k ≡ true → Shutting s (suc k) (end_unfilled k b).state
  shutting-ends r =
      let low : k < 16 = running-low b p.loose.sound k r in
      let l : Loose b = p.loose in
      let o : Only k b b = only-refl k b in
      let c : State = ended k low l o in
      let h : Shrinks b c = ended-shrinks k low l o in
      let off : running c k ≡ false = ended-still k low l o in
      let on : (j : ℕ) → running c j ≡ true → (¬ (j ≡ k)) = λ j q e. clash q (rw e off) in
      let was : (j : ℕ) → running c j ≡ true → running b j ≡ true =
      λ j q. sym (running-same b c j (ap (λ (t : Strategy). t.starter) (ended-other k low l o j (on j q)))) ∙ q in
      rw (ended_is k low l o) (record {
        loose = ended-loose k low l o;
        legs = λ j q f. ap (λ (n : ℕ). eqb n 0) (shut-same j h) ∙ p.legs j (was j q) (sym (holds_same s j h) ∙ f);
        done = λ j m q. holds_same s j h ∙ p.done j (before j k m (on j q)) (was j q);
      })
    where
      before : (j k : ℕ) → j < suc k → (¬ (j ≡ k)) → j < k
      before j k h n = omega arith

  shutting-next : Shutting s (suc k) (end_holding s k b).state
  unfolding end_holding
  shutting-next =
      let P : Moved → Type 0 = λ (m : Moved). Shutting s (suc k) m.state in
      pick-by P (running b k)
      (λ r. pick-by P (holds b s k) (λ _. shutting-ends r) (λ f. shutting-left (λ _. f)))
      (λ r. shutting-left (λ q. absurd (clash q r)))

shutting-each : (s n : ℕ) (b : State) → Shutting s 0 b → Shutting s n (each (end_holding s) n b).state
unfolding each and_then
shutting-each s zero b p = p
shutting-each s (suc n) b p = shutting-next s n _ (shutting-each s n b p)

pub shut-valid : (s : ℕ) (b : State) → has b.opened s ≡ true → Valid b → Valid (shut s b).state
unfolding shut
shut-valid s b h v =
    let o : ℕ = b.opened - 2 ^ s in
    let p : Shutting s 16 (each (end_holding s) 16 (with_opened b o)).state = shutting-each s 16 (with_opened b o) (record {
      loose = record { sound = sound-opened b o v.sound (omega (arith, v.sound.opened)); near = opened-near o b v };
      legs = λ j r f. opened-all o b j (λ i l q.
          has_sub b.opened s i h
          ∙ pick-false _ _ _ (ne_eqb i s (λ e. clash q (rw e (sym (opened-holds o b s j) ∙ f))))
          ∙ leg-open b v j (sym (opened-runs o b j) ∙ r) i l q);
      done = λ j z. absurd (omega arith);
    }) in
    loose-valid p.loose (λ j r. p.legs j r (p.done j (running-low _ p.loose.sound j r) r))

-- OPENED: no strategy that runs holds the series.
record Opening (s : ℕ) (b : State) : Type 0 where
  pub valid : Valid b
  pub clear : (j : ℕ) → running b j ≡ true → holds b s j ≡ false

match-next : (s k : ℕ) (b : State) → Opening s b → Opening s (match_in s k b).state
unfolding match_in
match-next s k b p =
    let P : Moved → Type 0 = λ (m : Moved). Opening s m.state in
    pick-by P (holds b s k)
    (λ h. pick_all P _ (matched (λ r. clash h (p.clear k r))) p)
    (λ _. p)
  where
    matched : (running b k ≡ true → ⊥) → Opening s (match_all k b).state
    matched n =
        let o : Only k b (match_all k b).state = match_all-only k b in
        let at : (j : ℕ) → strategy_at (match_all k b).state j ≡ strategy_at b j = strategy-same b (match_all k b).state o.strategies in
        record { valid = valid-only o (not-run (running b k) refl n) p.valid; clear = λ j. rw (at j) (p.clear j) }
      where
        not-run : (t : Bool) → running b k ≡ t → (running b k ≡ true → ⊥) → running b k ≡ false
        not-run true e f = absurd (f e)
        not-run false e f = e

reopen-valid : (s : ℕ) (b : State) → s < 32 → has b.opened s ≡ false → Valid b → Valid (reopen s b).state
unfolding reopen and_then
reopen-valid s b low h v =
    let o : ℕ = b.opened + 2 ^ s in
    let start : Opening s (with_opened b o) = record {
      valid = loose-valid (record { sound = sound-opened b o v.sound (add-lt b.opened s low v.sound.opened h); near = opened-near o b v })
          (λ j r. opened-all o b j (λ i l q.
          has-add b.opened s i h
          ∙ pick-by (λ (t : Bool). t ≡ true) (eqb i s) (λ _. refl) (λ _. leg-open b v j (sym (opened-runs o b j) ∙ r) i l q)));
      clear = λ j r. opened-holds o b s j ∙ not-held j (sym (opened-runs o b j) ∙ r) (holds b s j) refl;
    } in
    leg_passes-valid s _ (each_keeps (Opening s) (match_in s) 16 (λ k _ c. match-next s k c) (with_opened b o) start).valid
  where
    not-held : (j : ℕ) → running b j ≡ true → (t : Bool) → holds b s j ≡ t → holds b s j ≡ false
    not-held j r true e = absurd (clash (leg-open b v j r s low e) h)
    not-held j r false e = e

pub series-valid : (s state : ℕ) (b : State) → s < 32 → Valid b → Valid (on_series s state b).state
unfolding on_series
series-valid s state b low v =
    let P : Moved → Type 0 = λ (m : Moved). Valid m.state in
    pick-by P (has b.opened s)
    (λ h. pick_all P _ (shut-valid s b h v) v)
    (λ h. pick_all P _ v (reopen-valid s b low h v))

-- The day's end.

fresh-still : (timer k : ℕ) → running (fresh timer) k ≡ false
fresh-still timer k = ap (λ (n : ℕ). not (eqb n 0)) (fresh-auction timer k).0

pub fresh-valid : (timer : ℕ) → 1 ≤ timer → timer ≤ 5000 → Valid (fresh timer)
fresh-valid timer h m = record {
  sound = sound-fresh timer h m;
  settled = λ k. record {
    starter = λ r. absurd (clash r (fresh-still timer k));
    open_legs = λ r. absurd (clash r (fresh-still timer k));
    begun = omega (arith, (fresh-auction timer k).1);
    day = λ _ i l. absurd (omega (arith, fresh-dead timer i));
    stays = λ i l. absurd (omega (arith, fresh-dead timer i));
  };
}

pub day_end-valid : (timer : ℕ) (b : State) → 1 ≤ timer → timer ≤ 5000 → Valid (on_day_end timer b).state
unfolding on_day_end and_then restart
day_end-valid timer b h m = fresh-valid timer h m
