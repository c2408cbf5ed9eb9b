-- "Clock: auctions begun at least the timer ago end, by strategy."
use mathlib.Core.Path.{◌≡◌, refl, sym, ◌∙◌, ap}
use mathlib.Core.Bool.{Bool, true, false, not}
use mathlib.Core.Logic.{◌⊎◌, inl, inr, ⊎_elim}
use mathlib.Core.List.{List, [], ◌∷◌, ◌++◌, append_assoc, Memᴰ}
use Prim.Native.Nat.{ℕ, zero, suc, ◌+◌, ◌≤◌, ◌<◌}
use native.Mathlib.Omega.{arith}
use borrow.Author.Tests.{eq-eqb, ne_eqb, leb-true, le-leb, lt-leb, lt-ltb, ltb-true, ltb-false, not-true}
use lib.Dec.{eqb, ltb}
use lib.ListN.{length}
use Rattle.base.specs.Pick.{pick_all, pick-by, pick_true, pick-false, pick_yes}
use Rattle.base.specs.All.{All, all_nil, all_cons, all_append, all_map}
use Rattle.base.specs.Walks.{below, lt-or-le, clash}
use Rattle.events.specs.declared.Clock.{Clock}
use Rattle.events.specs.declared.Event.TheVariants as E
use Rattle.rules.specs.declared.Strategy.{Strategy}
use Rattle.rules.specs.declared.State.{State}
use Rattle.rules.specs.declared.Record.{Record}
use Rattle.rules.specs.declared.Kind.{Kind}
use Rattle.rules.specs.declared.Allocation.{Allocation}
use Rattle.rules.specs.declared.Allocation.TheVariants.{ForStarter, Numbered}
use Rattle.rules.specs.State.{entry_at, strategy_at, with_strategies, with_clock}
use Rattle.rules.specs.Moves.{Moved, still, and_then, each}
use Rattle.rules.specs.Auctions.{live_in, running, put_auction, close, cancel_lapsed, starter_slot, starter_pass, later, later_pass, end_unfilled, end_auction, due, end_due}
use Rattle.rules.specs.Records.{kind_number}
use Rattle.rules.specs.Fills.{cancel_entry}
use Rattle.rules.specs.Passes.{pass}
use Rattle.rules.specs.Events.{on_clock}
use Rattle.rules.specs.Refusals.{causes}
use Rattle.rules.specs.Step.{accept}
use Rattle.rules.specs.Valid.{Starter, Valid}
use Rattle.rules.specs.Sentences.{AcceptedEvent, Runs, IsKind, UnpricedOf, HadTurn, auction_ended, ClockSentence, Part, AuctionEnds, OneSweep}
use Rattle.rules.proofs.Tables.{positive, mem-left, mem-right}
use Rattle.rules.proofs.Shrinks.{Shrinks, shrinks-trans, shrinks-refl, entry-same}
use Rattle.rules.proofs.Control.{later_pass-kept, end_unfilled-kept, end_auction-kept, end_due-kept, shrinks-kept}
use Rattle.rules.proofs.Only.{Only, live-in, lapsed-only, only-trans, only-each, starter_pass-only, later_pass-only}
use Rattle.rules.proofs.Settled.{same_or, strategy-same, only-sound, valid-loose}
use Rattle.rules.proofs.Endings.{live-is, ended_at, ended-other, ended_is, running-low, auction-valid, clock-set}
use Rattle.rules.proofs.Validity.{clear, starter-found}
use Rattle.rules.proofs.Firsts.{live-slot}
use Rattle.rules.proofs.Cancels.{same-slot}
use Rattle.rules.proofs.OneSweep.{one_less}
use Rattle.rules.proofs.Specialists.{starter-portions}
use Rattle.rules.proofs.PassEnds.{turn-within, for-starter-had, numbered-had}
use Rattle.rules.proofs.Bars.{starter-sentence, unpriced-of, each_all, pass-kinds, each_of, other-pass, later_of, unfilled-of}

-- a strategy whose auction runs
pub runs : (b : State) (k : ℕ) → Runs b k → running b k ≡ true
runs b k h = ap not (ne_eqb (strategy_at b k).starter 0 (λ z. omega arith))

pub runs-not : (b : State) (k : ℕ) → (strategy_at b k).starter ≡ 0 → running b k ≡ false
runs-not b k e = ap not (eq-eqb (strategy_at b k).starter 0 e)

-- THE END OF AN AUCTION: its strategy has none, and no other has changed
module _ (k : ℕ) (b : State) (v : Valid b) (r : running b k ≡ true) where
  abbrev passed : State
  passed = (each (later_pass k (strategy_at b k).starter) 32 (starter_pass k b).state).state

  pub passed-only : Only k b passed
  passed-only =
      let o : Only k b (starter_pass k b).state = starter_pass-only k b v.sound.entry_rows v.sound.order_rows in
      only-trans o
      (only-each (later_pass k (strategy_at b k).starter) (starter_pass k b).state 32
      (λ i _ d s. later_pass-only k (strategy_at b k).starter i d (s.order_rows ∙ o.shrinks.order_rows ∙ v.sound.order_rows)))

  pub end_none : (strategy_at (end_auction k b).state k).starter ≡ 0
  unfolding end_auction and_then
  end_none =
      let low : k < 16 = running-low b v.sound k r in
      rw (ended_is k low (valid-loose v) passed-only, ended_at k low (valid-loose v) passed-only)

  pub end-other : (j : ℕ) → (j ≡ k → ⊥) → strategy_at (end_auction k b).state j ≡ strategy_at b j
  unfolding end_auction and_then
  end-other j n =
      let low : k < 16 = running-low b v.sound k r in
      rw (ended_is k low (valid-loose v) passed-only) (ended-other k low (valid-loose v) passed-only j n)

  -- nor has an entry of another strategy
  pub end_leaves : (i : ℕ) → ((entry_at b i).strategy ≡ k → ⊥) → entry_at (end_auction k b).state i ≡ entry_at b i
  unfolding end_auction end_unfilled and_then close put_auction with_strategies
  end_leaves i n =
      let c : State = (each (cancel_lapsed k) 32 passed).state in
      let o : Only k b c = only-trans passed-only (only-each (cancel_lapsed k) passed 32 (λ j _ d _. lapsed-only k j d)) in
      entry-same (entry_at b i) (entry_at c i) (o.shrinks.entry i) (omega (arith, o.others i n))

-- BY STRATEGY: after the first n
record Ended (b : State) (n : ℕ) (c : State) : Type 0 where
  valid : Valid c
  shrinks : Shrinks b c
  ahead : (j : ℕ) → n ≤ j → strategy_at c j ≡ strategy_at b j
  ended : (j : ℕ) → j < n → due b j ≡ true → (strategy_at c j).starter ≡ 0
  left : (j : ℕ) → j < n → due b j ≡ false → strategy_at c j ≡ strategy_at b j
  stays : (i : ℕ) → (n ≤ (entry_at b i).strategy) ⊎ (due b (entry_at b i).strategy ≡ false) → entry_at c i ≡ entry_at b i

-- whether an auction is due depends on its strategy, the clock and the timer
due-same : (b c : State) (k : ℕ) → strategy_at c k ≡ strategy_at b k → c.clock ≡ b.clock → c.timer ≡ b.timer → due c k ≡ due b k
unfolding due
due-same b c k s h t = rw (s, h, t)

module _ (b c : State) (n : ℕ) (e : Ended b n c) where
  same : due c n ≡ due b n
  same = due-same b c n (e.ahead n (omega arith)) e.shrinks.clock e.shrinks.timer

  next-due : due c n ≡ true → Ended b (suc n) (end_auction n c).state
  unfolding due
  next-due t =
      let r : running c n ≡ true = (pick_yes (running c n) t).0 in
      let o : (j : ℕ) → (j ≡ n → ⊥) → strategy_at (end_auction n c).state j ≡ strategy_at c j = end-other n c e.valid r in
      record {
        valid = auction-valid n c e.valid r;
        shrinks = shrinks-trans e.shrinks (end_auction-kept shrinks-kept n c e.valid.sound.order_rows);
        ahead = λ j h. o j (λ q. omega arith) ∙ e.ahead j (omega arith);
        ended = λ j h d. ⊎_elim (λ q. rw q (end_none n c e.valid r)) (λ m. rw (o j (λ q. omega arith)) (e.ended j m d)) (below h);
        left = λ j h d. ⊎_elim (λ q. absurd (clash (sym same ∙ t) (rw q at d))) (λ m. o j (λ q. omega arith) ∙ e.left j m d) (below h);
        stays = λ i p. end_leaves n c e.valid r i (λ q. not-its i p (sym (e.shrinks.entry i).strategy ∙ q)) ∙ e.stays i (⊎_elim (λ l. inl (omega arith)) (λ d. inr d) p);
      }
    where
      not-its : (i : ℕ) → (suc n ≤ (entry_at b i).strategy) ⊎ (due b (entry_at b i).strategy ≡ false) → (entry_at b i).strategy ≡ n → ⊥
      not-its i (inl l) q = omega arith
      not-its i (inr d) q = clash (sym same ∙ t) (rw q at d)

  next-not : due c n ≡ false → Ended b (suc n) c
  next-not t = record {
    valid = e.valid;
    shrinks = e.shrinks;
    ahead = λ j h. e.ahead j (omega arith);
    ended = λ j h d. ⊎_elim (λ q. absurd (clash (rw q at d) (sym same ∙ t))) (λ m. e.ended j m d) (below h);
    left = λ j h d. ⊎_elim (λ q. rw q (e.ahead n (omega arith))) (λ m. e.left j m d) (below h);
    stays = λ i p. e.stays i (⊎_elim (λ l. inl (omega arith)) (λ d. inr d) p);
  }

  next : Ended b (suc n) (end_due n c).state
  unfolding end_due
  next = pick-by (λ (m : Moved). Ended b (suc n) m.state) (due c n) next-due next-not

all-ended : (b : State) → Valid b → (n : ℕ) → Ended b n (each end_due n b).state
unfolding each and_then
all-ended b v zero = record { valid = v; shrinks = shrinks-refl b; ahead = λ j h. refl; ended = λ j h. absurd (omega arith); left = λ j h. absurd (omega arith); stays = λ i p. refl }
all-ended b v (suc n) = next b _ n (all-ended b v n)

-- LEGS BARRED: the auction of strategy k was answered, and n is its starter
module _ (b : State) (v : Valid b) (k : ℕ) (r : running b k ≡ true) (answered : (strategy_at b k).answered ≡ true) where
  abbrev mine : ℕ
  mine = (strategy_at b k).starter

  -- no live entry of another strategy has its number
  apart : (c : State) → Shrinks b c → (i j : ℕ) → (j ≡ k → ⊥) → 0 < (entry_at c i).units → (entry_at c i).strategy ≡ j → (entry_at c i).number ≡ mine → ⊥
  apart c h i j d l s e =
      let p : Starter b k (starter_slot b k) = starter-found b v k r in
      let q : i ≡ starter_slot b k = same-slot v.sound i (starter_slot b k) (omega (arith, (h.entry i).units)) p.live (sym (h.entry i).number ∙ e ∙ sym p.number) in
      d (sym s ∙ (h.entry i).strategy ∙ ap (λ (x : ℕ). (entry_at b x).strategy) q ∙ p.strategy)

  module _ (c : State) (j : ℕ) (e : Ended b j c) (run : running c j ≡ true) where
    abbrev rows : length c.orders ≡ 32
    rows = e.valid.sound.order_rows

    starter-of : All (UnpricedOf mine) (starter_pass j c).records
    unfolding starter_pass
    starter-of =
        same_or (All (UnpricedOf mine) (starter_pass j c).records) j k
        (λ q. unpriced-of mine ((starter-sentence c e.valid.sound j).barred (rw (e.ahead j (omega arith), q) answered)).prices)
        (λ q. let p : Starter c j (starter_slot c j) = starter-found c e.valid j run in
        other-pass mine ForStarter _ (starter_slot c j) c rows (apart c e.shrinks (starter_slot c j) j q p.live p.strategy))

    others-of : (i : ℕ) (d : State) → Shrinks c d → All (UnpricedOf mine) (later_pass j (strategy_at c j).starter i d).records
    unfolding later
    others-of i d h = later_of mine j (strategy_at c j).starter i d (h.order_rows ∙ rows) (λ t m.
        let p = pick_yes (live_in j (entry_at d i)) t in
        let l = live-in j (entry_at d i) p.0 in
        same_or ⊥ j k
        (λ q. omega (arith, ltb-true (strategy_at c j).starter (entry_at d i).number p.1, ap (λ (s : Strategy). s.starter) (e.ahead j (omega arith)), ap (λ (x : ℕ). (strategy_at b x).starter) q))
        (λ q. apart d (shrinks-trans e.shrinks h) i j q l.0 l.1 m))

    auction-of : All (UnpricedOf mine) (end_auction j c).records
    unfolding end_auction and_then
    auction-of =
        let o : Only j c (starter_pass j c).state = starter_pass-only j c e.valid.sound.entry_rows rows in
        all_append starter-of
        (all_append
        (each_of mine (later_pass j (strategy_at c j).starter) (starter_pass j c).state 32 (λ i _ d h. others-of i d (shrinks-trans o.shrinks h))
        (λ i d h. shrinks-trans h (later_pass-kept shrinks-kept j (strategy_at c j).starter i d (h.order_rows ∙ o.shrinks.order_rows ∙ rows)))).0
        (unfilled-of mine j _))

  due-of : (n : ℕ) → All (UnpricedOf mine) (each end_due n b).records
  unfolding each and_then end_due due
  due-of zero = all_nil
  due-of (suc n) =
      let c : State = (each end_due n b).state in
      all_append (due-of n)
      (pick-by (λ (m : Moved). All (UnpricedOf mine) m.records) _ (λ t. auction-of c n (all-ended b v n) (pick_yes (running c n) t).0) (λ _. all_nil))

-- THE PASSES, AND RECORD 5, of an auction that ends
-- moves from slot k on
rest-shrinks : (f : ℕ → State → Moved) → ((i : ℕ) (c : State) → length c.orders ≡ 32 → Shrinks c (f i c).state) → (b : State) → length b.orders ≡ 32 →
    (k n : ℕ) → k ≤ n → Shrinks (each f k b).state (each f n b).state
unfolding each and_then
rest-shrinks f h b rows k zero l = let z : k ≡ 0 = omega arith in rw z (shrinks-refl b)
rest-shrinks f h b rows k (suc n) l =
    ⊎_elim
    (λ (m : k < suc n).
    let s : Shrinks (each f k b).state (each f n b).state = rest-shrinks f h b rows k n (omega arith) in
    shrinks-trans s (h n (each f n b).state ((from n).order_rows ∙ rows)))
    (λ (m : suc n ≤ k). let z : k ≡ suc n = omega arith in rw z (shrinks-refl _))
    (lt-or-le k (suc n))
  where
    from : (j : ℕ) → Shrinks b (each f j b).state
    from zero = shrinks-refl b
    from (suc j) = shrinks-trans (from j) (h j _ ((from j).order_rows ∙ rows))

due-runs : (c : State) (n : ℕ) → due c n ≡ true → running c n ≡ true
unfolding due
due-runs c n t = (pick_yes (running c n) t).0

module _ (b : State) (v : Valid b) (k : ℕ) (low : k < 16) (r : running b k ≡ true) (d : due b k ≡ true) where
  abbrev now : State
  now = (each end_due k b).state

  abbrev end : State
  end = (each end_due 16 b).state

  so_far : Ended b k now
  so_far = all-ended b v k

  row : strategy_at now k ≡ strategy_at b k
  row = so_far.ahead k (omega arith)

  runs-now : running now k ≡ true
  runs-now = rw row r

  abbrev first : State
  first = (starter_pass k now).state

  abbrev number : ℕ
  number = (strategy_at now k).starter

  abbrev second : State
  second = (each (later_pass k number) 32 first).state

  orders : length now.orders ≡ 32
  orders = so_far.valid.sound.order_rows

  first-only : Only k now first
  first-only = starter_pass-only k now so_far.valid.sound.entry_rows orders

  later-shrinks : (i : ℕ) (c : State) → length c.orders ≡ 32 → Shrinks c (later_pass k number i c).state
  later-shrinks i c m = later_pass-kept shrinks-kept k number i c m

  ends-here : end_due k now ≡ end_auction k now
  unfolding end_due
  ends-here = pick_true _ _ _ (due-same b now k row so_far.shrinks.clock so_far.shrinks.timer ∙ d)

  -- what its end leaves of its entries stays so
  leaves-it : (n : ℕ) → k < n → (i : ℕ) → (entry_at b i).strategy ≡ k → entry_at (each end_due n b).state i ≡ entry_at (end_auction k now).state i
  unfolding each and_then end_due
  leaves-it zero l i s = absurd (omega arith)
  leaves-it (suc n) l i s =
      let c : State = (each end_due n b).state in
      let e : Ended b n c = all-ended b v n in
      ⊎_elim
      (λ (q : k ≡ n). rw (← q) (ap (λ (x : Moved). entry_at x.state i) ends-here))
      (λ (m : k < n). pick-by (λ (x : Moved). entry_at x.state i ≡ entry_at c i) (due c n) (λ t. end_leaves n c e.valid (due-runs c n t) i (λ z. omega (arith, (e.shrinks.entry i).strategy))) (λ _. refl) ∙ leaves-it n m i s)
      (below l)

  -- the records of its starter's pass
  here : Part (starter_pass k now).records ((each end_due k b).records ++ (end_due k now).records)
  unfolding end_auction and_then
  here = rw ends-here (record { before = (each end_due k b).records; behind = (each (later_pass k number) 32 first).records ++ (end_unfilled k second).records; whole = refl })

  passed-it : (n : ℕ) → k < n → Part (starter_pass k now).records (each end_due n b).records
  unfolding each and_then
  passed-it zero l = absurd (omega arith)
  passed-it (suc n) l =
      let c : State = (each end_due n b).state in
      ⊎_elim
      (λ (q : k ≡ n). rw (← q) here)
      (λ (m : k < n).
      let p = passed-it n m in
      record {
        before = p.before;
        behind = p.behind ++ (end_due n c).records;
        whole = ap (λ (rs : List Record). rs ++ (end_due n c).records) p.whole ∙ append_assoc p.before _ _ ∙ ap (λ (rs : List Record). p.before ++ rs) (append_assoc (starter_pass k now).records p.behind _);
      })
      (below l)

  its-end : AuctionEnds b k (each end_due 16 b)
  its-end = record {
    moment = now;
    valid = so_far.valid;
    since = so_far.shrinks;
    auction = row;
    found = λ i s. so_far.stays i (inl (omega arith));
    leaves = leaves-it 16 low;
    passed = passed-it 16 low;
  }

  second-end : Shrinks second end
  unfolding end_auction and_then each
  second-end =
      let m : length second.orders ≡ 32 = (passed-only k now so_far.valid runs-now).shrinks.order_rows ∙ orders in
      let s : Shrinks second (end_unfilled k second).state = end_unfilled-kept shrinks-kept k second m in
      shrinks-trans s (rw (ap (λ (x : Moved). x.state) ends-here) at (rest-shrinks end_due (end_due-kept shrinks-kept) b v.sound.order_rows (suc k) 16 low))

  first-second : Shrinks first second
  unfolding each
  first-second = rest-shrinks (later_pass k number) later-shrinks first (first-only.shrinks.order_rows ∙ orders) 0 32 (omega arith)

  starter-had : (i : ℕ) → Starter b k i → HadTurn b end i (not (strategy_at b k).answered)
  unfolding starter_pass
  starter-had i p =
      let q : Starter now k (starter_slot now k) = starter-found now so_far.valid k runs-now in
      let s = so_far.shrinks.entry (starter_slot now k) in
      let z : starter_slot now k ≡ i =
      same-slot v.sound (starter_slot now k) i (omega (arith, q.live, s.units)) p.live (sym s.number ∙ q.number ∙ ap (λ (t : Strategy). t.starter) row ∙ sym p.number) in
      let h : HadTurn now first (starter_slot now k) (not (strategy_at now k).answered) = for-starter-had (not (strategy_at now k).answered) (starter_slot now k) now so_far.valid.sound in
      turn-within so_far.shrinks (rw (z, row) at h) (shrinks-trans first-second second-end)

  -- an entry that was accepted meanwhile
  other-had : (i : ℕ) → 0 < (entry_at b i).units → (entry_at b i).strategy ≡ k → (strategy_at b k).starter < (entry_at b i).number → HadTurn b end i (not (eqb (entry_at b i).life 4))
  unfolding each and_then later_pass later
  other-had i l st after =
      let slot : i < 32 = live-slot b v.sound.entry_rows i l in
      let c : State = (each (later_pass k number) i first).state in
      let m : length first.orders ≡ 32 = first-only.shrinks.order_rows ∙ orders in
      let to : Shrinks first c = rest-shrinks (later_pass k number) later-shrinks first m 0 i (omega arith) in
      let all : Shrinks b c = shrinks-trans so_far.shrinks (shrinks-trans first-only.shrinks to) in
      let on : Shrinks (later_pass k number i c).state second = rest-shrinks (later_pass k number) later-shrinks first m (suc i) 32 slot in
      let legs : Bool = not (eqb (entry_at b i).life 4) in
      let same = all.entry i in
      let o : Only k now c = only-trans first-only (only-each (later_pass k number) first i (λ j _ x s. later_pass-only k number j x (s.order_rows ∙ m))) in
      ⊎_elim
      (λ (u : 0 < (entry_at c i).units).
      let t : later k number (entry_at c i) ≡ true =
      pick_true _ _ _ (live-is k (entry_at c i) u (same.strategy ∙ st)) ∙ lt-ltb number (entry_at c i).number (omega (arith, same.number, ap (λ (x : Strategy). x.starter) row)) in
      let x : later_pass k number i c ≡ pass Numbered (not (eqb (entry_at c i).life 4)) i c = pick_true _ _ _ t in
      let h : HadTurn c (pass Numbered (not (eqb (entry_at c i).life 4)) i c).state i (not (eqb (entry_at c i).life 4)) = numbered-had (not (eqb (entry_at c i).life 4)) i c (only-sound o so_far.valid.sound) in
      turn-within all (rw same.life at h) (shrinks-trans (rw (x, same.life) at on) second-end))
      (λ (u : (entry_at c i).units ≤ 0). record {
        moment = c;
        since = all;
        until = shrinks-trans (shrinks-trans (later-shrinks i c (to.order_rows ∙ m)) on) second-end;
        done = inl (omega arith);
      })
      (lt-or-le 0 (entry_at c i).units)

-- no fill and no cancel is a record 5
abbrev NoEnd : Kind → Type 0
NoEnd k = kind_number k ≡ 5 → ⊥

pass-noend : (way : Allocation) (legs : Bool) (a : ℕ) (b : State) → All (λ (r : Record). NoEnd r.kind) (pass way legs a b).records
unfolding kind_number
pass-noend way legs a b = pass-kinds NoEnd (λ z. omega arith) (λ z. omega arith) (λ z. omega arith) way legs a b

-- a record 5 is of an auction that is due
abbrev OfDue : State → Record → Type 0
OfDue b r = IsKind 5 r → (due b r.place ≡ true) × (r ≡ auction_ended b r.place)

module _ (b c : State) (j : ℕ) (e : Ended b j c) (t : due c j ≡ true) where
  abbrev others : State
  others = (each (later_pass j (strategy_at c j).starter) 32 (starter_pass j c).state).state

  abbrev cancelled : State
  cancelled = (each (cancel_lapsed j) 32 others).state

  due-running : running c j ≡ true
  unfolding due
  due-running = (pick_yes (running c j) t).0

  due-b : due b j ≡ true
  due-b = sym (due-same b c j (e.ahead j (omega arith)) e.shrinks.clock e.shrinks.timer) ∙ t

  its-record : (close j cancelled).records ≡ auction_ended b j ∷ []
  unfolding close
  its-record =
      let o : Only j c others = passed-only j c e.valid due-running in
      let l : Only j others cancelled = only-each (cancel_lapsed j) others 32 (λ i _ d _. lapsed-only j i d) in
      let row : strategy_at cancelled j ≡ strategy_at b j = strategy-same c cancelled (l.strategies ∙ o.strategies) j ∙ e.ahead j (omega arith) in
      rw row

  noend : {rs : List Record} → All (λ (r : Record). NoEnd r.kind) rs → All (OfDue b) rs
  noend = all_map (λ r h k. absurd (h k))

  auction-fives : All (OfDue b) (end_auction j c).records
  unfolding end_auction end_unfilled and_then starter_pass later_pass cancel_lapsed cancel_entry kind_number
  auction-fives =
      let P : Moved → Type 0 = λ (m : Moved). All (OfDue b) m.records in
      all_append (noend (pass-noend ForStarter _ (starter_slot c j) c))
      (all_append (each_all (OfDue b) (later_pass j (strategy_at c j).starter) (λ i d. pick_all P _ (noend (pass-noend Numbered _ i d)) all_nil) 32 (starter_pass j c).state)
      (all_append (each_all (OfDue b) (cancel_lapsed j) (λ i d. pick_all P _ (pick_all P _ all_nil (all_cons (λ k. absurd (omega arith)) all_nil)) all_nil) 32 others)
      (rw its-record (all_cons (λ _. (due-b, refl)) all_nil))))

  auction-five : Memᴰ (auction_ended b j) (end_auction j c).records
  unfolding end_auction end_unfilled and_then
  auction-five =
      mem-right (starter_pass j c).records _ (mem-right (each (later_pass j (strategy_at c j).starter) 32 (starter_pass j c).state).records _
      (mem-right (each (cancel_lapsed j) 32 others).records _ (rw its-record (Memᴰ.head refl))))

module _ (b : State) (v : Valid b) where
  fives-only : (n : ℕ) → All (OfDue b) (each end_due n b).records
  unfolding each and_then end_due
  fives-only zero = all_nil
  fives-only (suc n) =
      let c : State = (each end_due n b).state in
      all_append (fives-only n) (pick-by (λ (m : Moved). All (OfDue b) m.records) (due c n) (λ t. auction-fives b c n (all-ended b v n) t) (λ _. all_nil))

  fives-each : (n k : ℕ) → k < n → due b k ≡ true → Memᴰ (auction_ended b k) (each end_due n b).records
  unfolding each and_then end_due
  fives-each zero k l d = absurd (omega arith)
  fives-each (suc n) k l d =
      let c : State = (each end_due n b).state in
      let e : Ended b n c = all-ended b v n in
      ⊎_elim
      (λ (q : k ≡ n).
      let t : due c n ≡ true = due-same b c n (e.ahead n (omega arith)) e.shrinks.clock e.shrinks.timer ∙ (rw q at d) in
      rw (q, pick_true _ (end_auction n c) (still c) t) (mem-right (each end_due n b).records _ (auction-five b c n e t)))
      (λ (m : k < n). mem-left (each end_due n b).records _ (fives-each n k m d))
      (below l)

-- due or not, in numbers
is-due : (b : State) (k : ℕ) → Runs b k → (strategy_at b k).begun + b.timer ≤ b.clock → due b k ≡ true
unfolding due
is-due b k r h = pick_true _ _ _ (runs b k r) ∙ le-leb _ _ h

not-due : (b : State) (k : ℕ) → b.clock < (strategy_at b k).begun + b.timer → due b k ≡ false
unfolding due
not-due b k h = pick-by (λ (t : Bool). t ≡ false) (running b k) (λ _. lt-leb _ _ h) (λ _. refl)

due-is : (b : State) (k : ℕ) → due b k ≡ true → Runs b k × ((strategy_at b k).begun + b.timer ≤ b.clock)
unfolding due
due-is b k h = let p = pick_yes (running b k) h in (positive _ (not-true _ p.0), leb-true _ _ p.1)

none-due : (b : State) (k : ℕ) → (strategy_at b k).starter ≡ 0 → due b k ≡ false
unfolding due
none-due b k e = pick-false _ _ _ (runs-not b k e)

-- THE SENTENCE
pub clock-sentence : (b : State) (e : Clock) → AcceptedEvent b (E.Clock e) → OneSweep b → ClockSentence b e.time (accept b (E.Clock e))
unfolding accept on_clock causes with_clock
clock-sentence b e a one =
    let t : ℕ = e.time in
    let x = clear 11 (ltb t b.clock) _ (omega arith) a.clear in
    let v : Valid (with_clock b t) = clock-set t b (ltb-false _ _ x.0) a.fit a.valid in
    let d : Ended (with_clock b t) 16 (each end_due 16 (with_clock b t)).state = all-ended (with_clock b t) v 16 in
    let low : (k : ℕ) → Runs b k → k < 16 = λ k r. running-low b a.valid.sound k (runs b k r) in
    record {
      ends = λ k r h. d.ended k (low k r) (is-due (with_clock b t) k r h);
      goes_on = λ k r h. d.left k (low k r) (not-due (with_clock b t) k h);
      stays = λ i p. d.stays i (inr (⊎_elim (λ z. none-due (with_clock b t) (entry_at b i).strategy z) (λ h. not-due (with_clock b t) (entry_at b i).strategy h) p));
      wholly = λ k r h. its-end (with_clock b t) v k (low k r) (runs b k r) (is-due (with_clock b t) k r h);
      portions = λ k r h i p.
          let w = its-end (with_clock b t) v k (low k r) (runs b k r) (is-due (with_clock b t) k r h) in
          starter-portions w.moment w.valid.sound (one_less w.since (one-clock one)) k i p;
      begins_none = λ k z. ⊎_elim
          (λ (l : k < 16). rw (d.left k l (none-due (with_clock b t) k z)) z)
          (λ (l : 16 ≤ k). rw (d.ahead k l) z)
          (lt-or-le k 16);
      clock = d.shrinks.clock;
      starter_pass = λ k r h i p. starter-had (with_clock b t) v k (low k r) (runs b k r) (is-due (with_clock b t) k r h) i (starter-at k i p);
      other_passes = λ k r h. other-had (with_clock b t) v k (low k r) (runs b k r) (is-due (with_clock b t) k r h);
      day_left = λ k r h i st l.
          let m = d.shrinks.entry i in
          sym m.life ∙ (d.valid.settled k).day (runs-not (each end_due 16 (with_clock b t)).state k (d.ended k (low k r) (is-due (with_clock b t) k r h))) i l (m.strategy ∙ st);
      five_each = λ k r h. fives-each (with_clock b t) v 16 k (low k r) (is-due (with_clock b t) k r h);
      five_only = all_map (λ x h q. let z = h q in let w = due-is (with_clock b t) x.place z.0 in (w.0, w.1, z.1)) (fives-only (with_clock b t) v 16);
      barred = λ k r answered. due-of (with_clock b t) v k (runs b k r) answered 16;
    }
  where
    one-clock : OneSweep b → OneSweep (with_clock b e.time)
    one-clock o = o

    starter-at : (k i : ℕ) → Starter b k i → Starter (with_clock b e.time) k i
    starter-at k i p = record { slot = p.slot; live = p.live; strategy = p.strategy; number = p.number; class = p.class; life = p.life }
