-- "Leg order: trades with opposite leg orders that meet its price, best price then number .. If any rests, each day order .. gets a pass by legs
-- only."
use mathlib.Core.Path.{◌≡◌, refl, sym, ◌∙◌, ap}
use mathlib.Core.Bool.{Bool, true, false, not}
use mathlib.Core.Logic.{inl, inr, ⊎_elim}
use mathlib.Core.List.{List, ◌++◌, append-nil}
use Prim.Native.Nat.{ℕ, zero, suc, ◌≤◌, ◌<◌, min}
use native.Mathlib.Omega.{arith}
use borrow.Author.Tests.{eqb-true, eq-eqb, ne_eqb, ltb-true, not-false}
use lib.ListN.{length}
use Rattle.base.specs.Pick.{pick_all, pick-by, pick_true, pick-false, pick_yes}
use Rattle.base.specs.SetLaws.{minus-none, minus-zero}
use Rattle.base.specs.Walks.{below, clash, lt-or-le}
use Rattle.events.specs.declared.LegOrder.{LegOrder as GivenLegOrder}
use Rattle.events.specs.declared.Event.TheVariants as E
use Rattle.rules.specs.declared.Entry.{Entry}
use Rattle.rules.specs.declared.LegOrder.{LegOrder}
use Rattle.rules.specs.declared.State.{State}
use Rattle.rules.specs.declared.Record.{Record}
use Rattle.rules.specs.declared.Allocation.TheVariants.{LegsOnly}
use Rattle.rules.specs.declared.Turn.{Turn}
use Rattle.rules.specs.declared.Turn.TheVariants.{Stop, ByLegs, AtLimit}
use Rattle.rules.specs.State.{no_order, entry_at, order_at, strategy_at, with_orders, with_last}
use Rattle.rules.specs.Moves.{Moved, still, and_then, each}
use Rattle.rules.specs.Strategies.{shut_set, all_open, holds}
use Rattle.rules.specs.Fills.{cut_leg, leg_trade}
use Rattle.rules.specs.Passes.{opposite, meet_limit, take_turn, turn, pass}
use Rattle.rules.specs.Auctions.{live_in, running, day_order, leg_pass, leg_passes_in, leg_passes}
use Rattle.rules.specs.Events.{live_order, enter_order, free_order_slot, best_order, trade_once, trade_all, if_rests, on_leg_order}
use Rattle.rules.specs.Given.{leg_order_given}
use Rattle.rules.specs.Step.{accept}
use Rattle.rules.specs.Valid.{Sound}
use Rattle.rules.specs.Sentences.{AcceptedEvent, Open, GetsPass, HadPass, Met, AheadOrder, Trades, no-trade, and-trade, LegOrderSentence}
use Rattle.rules.proofs.Tables.{positive, behind-slot}
use Rattle.rules.proofs.Shrinks.{Shrinks, shrinks-refl, shrinks-trans}
use Rattle.rules.proofs.Control.{pass_kept, shrinks-kept}
use Rattle.rules.proofs.Only.{Only, only-refl, only-trans, live-in, leg_pass-only, leg_passes-only, trade_once-only}
use Rattle.rules.proofs.Ends.{pass-why}
use Rattle.rules.proofs.Endings.{live-is}
use Rattle.rules.proofs.Settled.{same_or, each_keeps, shut-same, only-sound}
use Rattle.rules.proofs.Entering.{fit-entry-at, fit-order-at, EnteringOrder, enter_order-room, sound-enter_order}
use Rattle.rules.proofs.Firsts.{live-slot, Meeting, BestOrder, best-order-first, best-meets}
use Rattle.rules.proofs.Finishes.{trade-all}
use Rattle.rules.proofs.Gives.{cut_leg-other, other-apart}
use Rattle.rules.proofs.Validity.{leg_order-clear}
use Rattle.rules.proofs.Groups.{legs-others}
use Rattle.rules.proofs.PassEnds.{sides-two}

-- ALL OPEN, by its series
pub open-all : (b : State) (k : ℕ) → all_open b k ≡ true → Open b k
unfolding shut_set
open-all b k e t l h = minus-zero _ _ (eqb-true _ _ e) t l h

pub all-open : (b : State) (k : ℕ) → Open b k → all_open b k ≡ true
unfolding shut_set
all-open b k h = eq-eqb _ _ (minus-none (strategy_at b k).series b.opened h)

-- MOVES THAT LEAVE EVERY STRATEGY
pub record Quiet (b c : State) : Type 0 where
  pub shrinks : Shrinks b c
  pub strategies : c.strategies ≡ b.strategies

pub quiet-refl : (b : State) → Quiet b b
quiet-refl b = record { shrinks = shrinks-refl b; strategies = refl }

pub quiet-trans : {b c d : State} → Quiet b c → Quiet c d → Quiet b d
quiet-trans h k = record { shrinks = shrinks-trans h.shrinks k.shrinks; strategies = k.strategies ∙ h.strategies }

-- the moves up to slot i, and those from it on
pub record Split (b c d e : State) : Type 0 where
  pub before : Quiet b c
  pub at : Quiet c d
  pub behind : Quiet d e

pub each-split : (f : ℕ → State → Moved) (b : State) → ((i : ℕ) (c : State) → Quiet b c → Quiet c (f i c).state) → (n i : ℕ) → i < n →
    Split b (each f i b).state (f i (each f i b).state).state (each f n b).state
unfolding each and_then
each-split f b h zero i l = absurd (omega arith)
each-split f b h (suc n) i l =
    ⊎_elim
    (λ (e : i ≡ n). rw e (record { before = upto n; at = h n _ (upto n); behind = quiet-refl _ }))
    (λ (m : i < n). let s = each-split f b h n i m in record { before = s.before; at = s.at; behind = quiet-trans s.behind (h n _ (upto n)) })
    (below l)
  where
    upto : (k : ℕ) → Quiet b (each f k b).state
    upto zero = quiet-refl b
    upto (suc k) = quiet-trans (upto k) (h k _ (upto k))

-- A PASS BY LEGS ONLY touches the active entry alone
take-alone : (a : ℕ) (t : Turn) (b : State) (j : ℕ) → (j ≡ a → ⊥) → entry_at (take_turn LegsOnly a t b).state j ≡ entry_at b j
unfolding take_turn meet_limit
take-alone a Stop b j n = refl
take-alone a ByLegs b j n = legs-others a b j n
take-alone a (AtLimit level) b j n = refl

pub pass_alone : (legs : Bool) (a : ℕ) (b : State) (j : ℕ) → (j ≡ a → ⊥) → entry_at (pass LegsOnly legs a b).state j ≡ entry_at b j
unfolding pass each and_then
pass_alone legs a b j n = go (entry_at b a).units
  where
    go : (k : ℕ) → entry_at (each (turn LegsOnly legs a) k b).state j ≡ entry_at b j
    go zero = refl
    go (suc k) = take-alone a _ _ j n ∙ go k

-- each of the moves is quiet
leg_pass-quiet : (k i : ℕ) (b : State) → length b.orders ≡ 32 → Quiet b (leg_pass k i b).state
leg_pass-quiet k i b m = let o = leg_pass-only k i b m in record { shrinks = o.shrinks; strategies = o.strategies }

leg_passes_in-quiet : (s k : ℕ) (b : State) → length b.orders ≡ 32 → Quiet b (leg_passes_in s k b).state
unfolding leg_passes_in
leg_passes_in-quiet s k b m =
    let P : Moved → Type 0 = λ (x : Moved). Quiet b x.state in
    let o = leg_passes-only k b m in
    pick_all P _ (pick_all P _ (pick_all P _ (quiet-refl b) (record { shrinks = o.shrinks; strategies = o.strategies })) (quiet-refl b)) (quiet-refl b)

-- what decides over a pass is the same through quiet moves
strategy-quiet : {b c : State} → Quiet b c → (k : ℕ) → strategy_at c k ≡ strategy_at b k
strategy-quiet q k = rw q.strategies

gets-quiet : {b c : State} (s i : ℕ) → Quiet b c → entry_at c i ≡ entry_at b i → GetsPass b s i → GetsPass c s i
gets-quiet {b} {c} s i q e g =
    let t : strategy_at c (entry_at c i).strategy ≡ strategy_at b (entry_at b i).strategy = strategy-quiet q (entry_at c i).strategy ∙ ap (λ (x : Entry). strategy_at b x.strategy) e in
    record {
      live = rw e g.live;
      day = rw e g.day;
      holds = rw t g.holds;
      all_open = rw (t, q.shrinks.opened) g.all_open;
      no_auction = rw t g.no_auction;
    }

-- THE PASSES. One that gets a pass, in its turn, has had it
module _ (s i : ℕ) where
  -- the state after its own pass, in a state c in which it gets one
  own-pass : (c : State) → length c.orders ≡ 32 → GetsPass c s i → HadPass c (leg_pass (entry_at c i).strategy i c).state i
  unfolding leg_pass day_order opposite
  own-pass c m g =
      let k : ℕ = (entry_at c i).strategy in
      let d : State = (pass LegsOnly true i c).state in
      let h : Shrinks c d = pass_kept shrinks-kept LegsOnly true i c m in
      let t : day_order k (entry_at c i) ≡ true = pick_true _ _ _ (live-is k (entry_at c i) g.live refl) ∙ eq-eqb _ _ g.day in
      rw (pick_true _ (pass LegsOnly true i c) (still c) t) (record {
        moment = d;
        since = h;
        until = shrinks-refl d;
        done = ⊎_elim inl (λ r. inr (⊎_elim (λ n. inl n.legs) inr r)) (pass-why LegsOnly true i c);
      })

  -- a pass that was had is had from an earlier state to a later one
  had-within : {b c d e : State} → Shrinks b c → HadPass c d i → Shrinks d e → HadPass b e i
  had-within h p k = record {
    moment = p.moment;
    since = shrinks-trans h p.since;
    until = shrinks-trans p.until k;
    done = p.done;
  }

  -- the passes of other slots leave its entry
  slots-leave : (k n : ℕ) (b : State) → n ≤ i → entry_at (each (leg_pass k) n b).state i ≡ entry_at b i
  unfolding each and_then leg_pass
  slots-leave k zero b l = refl
  slots-leave k (suc n) b l =
      let c : State = (each (leg_pass k) n b).state in
      pick_all (λ (m : Moved). entry_at m.state i ≡ entry_at c i) _ (pass_alone true n c i (λ q. omega arith)) refl ∙ slots-leave k n b (omega arith)

  -- in its strategy's turn
  in-strategy : (b : State) → length b.orders ≡ 32 → i < 32 → GetsPass b s i → HadPass b (leg_passes_in s (entry_at b i).strategy b).state i
  unfolding leg_passes_in
  in-strategy b m l g =
      let k : ℕ = (entry_at b i).strategy in
      let e : leg_passes_in s k b ≡ each (leg_pass k) 32 b =
      pick_true _ _ _ g.holds ∙ pick_true _ _ _ (all-open b k g.all_open) ∙ pick-false _ _ _ (ap not (eq-eqb _ _ g.no_auction)) in
      let p : Split b (each (leg_pass k) i b).state (leg_pass k i (each (leg_pass k) i b).state).state (each (leg_pass k) 32 b).state =
      each-split (leg_pass k) b (λ j c q. leg_pass-quiet k j c (q.shrinks.order_rows ∙ m)) 32 i l in
      let c : State = (each (leg_pass k) i b).state in
      let same : entry_at c i ≡ entry_at b i = slots-leave k i b (omega arith) in
      let own = own-pass c (p.before.shrinks.order_rows ∙ m) (gets-quiet s i p.before same g) in
      rw e (had-within p.before.shrinks (rw (ap (λ (x : Entry). x.strategy) same) at own) p.behind.shrinks)

  -- the passes of other strategies leave its entry
  pass-leaves : (n j : ℕ) (c : State) → ((entry_at c i).strategy ≡ n → ⊥) → entry_at (leg_pass n j c).state i ≡ entry_at c i
  unfolding leg_pass day_order
  pass-leaves n j c d =
      pick-by (λ (m : Moved). entry_at m.state i ≡ entry_at c i) _
      (λ t. pass_alone true j c i (λ q. d (rw (sym q) at (live-in n (entry_at c j) (pick_yes (live_in n (entry_at c j)) t).0).1)))
      (λ _. refl)

  passes-leave : (n k : ℕ) (b : State) → ((entry_at b i).strategy ≡ n → ⊥) → entry_at (each (leg_pass n) k b).state i ≡ entry_at b i
  unfolding each and_then
  passes-leave n zero b d = refl
  passes-leave n (suc k) b d =
      let e = passes-leave n k b d in
      pass-leaves n k (each (leg_pass n) k b).state (λ q. d (sym (ap (λ (x : Entry). x.strategy) e) ∙ q)) ∙ e

  strategy-leaves : (n : ℕ) (b : State) → ((entry_at b i).strategy ≡ n → ⊥) → entry_at (leg_passes_in s n b).state i ≡ entry_at b i
  unfolding leg_passes_in
  strategy-leaves n b d =
      let P : Moved → Type 0 = λ (m : Moved). entry_at m.state i ≡ entry_at b i in
      pick_all P _ (pick_all P _ (pick_all P _ refl (passes-leave n 32 b d)) refl) refl

  strategies-leave : (n : ℕ) (b : State) → n ≤ (entry_at b i).strategy → entry_at (each (leg_passes_in s) n b).state i ≡ entry_at b i
  unfolding each and_then
  strategies-leave zero b l = refl
  strategies-leave (suc n) b l =
      let e = strategies-leave n b (omega arith) in
      strategy-leaves n (each (leg_passes_in s) n b).state (λ q. omega (arith, ap (λ (x : Entry). x.strategy) e)) ∙ e

  -- each that gets a pass has had it
  pub passes-had : (b : State) → Sound b → GetsPass b s i → HadPass b (leg_passes s b).state i
  unfolding leg_passes
  passes-had b v g =
      let k : ℕ = (entry_at b i).strategy in
      let low : k < 16 = (fit-entry-at b v i).strategy in
      let c : State = (each (leg_passes_in s) k b).state in
      let p : Split b c (leg_passes_in s k c).state (each (leg_passes_in s) 16 b).state =
      each-split (leg_passes_in s) b (λ j c q. leg_passes_in-quiet s j c (q.shrinks.order_rows ∙ v.order_rows)) 16 k low in
      let same : entry_at c i ≡ entry_at b i = strategies-leave k b (omega arith) in
      let own = in-strategy c (p.before.shrinks.order_rows ∙ v.order_rows) (live-slot b v.entry_rows i g.live) (gets-quiet s i p.before same g) in
      had-within p.before.shrinks (rw (ap (λ (x : Entry). x.strategy) same) at own) p.behind.shrinks

-- NOBODY ELSE: in c, which is b after some of the passes, only such have traded
pub record Passing (s : ℕ) (b c : State) : Type 0 where
  pub quiet : Quiet b c
  pub only : (i : ℕ) → (entry_at c i).units < (entry_at b i).units → GetsPass b s i

module _ (s : ℕ) (b : State) (rows : length b.orders ≡ 32) where
  passing-pass : (k j : ℕ) → holds b s k ≡ true → all_open b k ≡ true → running b k ≡ false → (c : State) → Passing s b c → Passing s b (leg_pass k j c).state
  unfolding leg_pass day_order
  passing-pass k j h o r c p =
      let m : length c.orders ≡ 32 = p.quiet.shrinks.order_rows ∙ rows in
      let q : Quiet b (leg_pass k j c).state = quiet-trans p.quiet (leg_pass-quiet k j c m) in
      record { quiet = q; only = fell }
    where
      fell : (i : ℕ) → (entry_at (leg_pass k j c).state i).units < (entry_at b i).units → GetsPass b s i
      fell i =
          pick-by (λ (x : Moved). (entry_at x.state i).units < (entry_at b i).units → GetsPass b s i) _
          (λ t l. same_or (GetsPass b s i) i j
          (λ e.
          let d = pick_yes (live_in k (entry_at c j)) t in
          let v = live-in k (entry_at c j) d.0 in
          let w = p.quiet.shrinks.entry i in
          let z : (entry_at b i).strategy ≡ k = sym w.strategy ∙ (rw (sym e) at v.1) in
          record {
            live = omega arith;
            day = sym w.life ∙ (rw (sym e) at (eqb-true (entry_at c j).life 0 d.1));
            holds = rw z h;
            all_open = rw z (open-all b k o);
            no_auction = rw z (eqb-true _ _ (not-false _ r));
          })
          (λ n. p.only i (omega (arith, ap (λ (x : Entry). x.units) (pass_alone true j c i n)))))
          (λ _ l. p.only i l)

  passing-in : (k : ℕ) (c : State) → Passing s b c → Passing s b (leg_passes_in s k c).state
  unfolding leg_passes_in
  passing-in k c p =
      let P : Moved → Type 0 = λ (x : Moved). Passing s b x.state in
      let e : strategy_at c k ≡ strategy_at b k = strategy-quiet p.quiet k in
      let z : shut_set c k ≡ shut_set b k = shut-same k p.quiet.shrinks in
      pick-by P _
      (λ h. pick-by P _
      (λ o. pick-by P _ (λ _. p)
      (λ r. each_keeps (Passing s b) (leg_pass k) 32 (λ j _ d. passing-pass k j (rw e at h) (rw z at o) (rw e at r) d) c p))
      (λ _. p)) (λ _. p)

  pub passing-all : Passing s b (leg_passes s b).state
  unfolding leg_passes
  passing-all = each_keeps (Passing s b) (leg_passes_in s) 16 (λ k _ c. passing-in k c) b (record { quiet = quiet-refl b; only = λ i l. absurd (omega arith) })

-- THE TRADES
met-meeting : (c : State) → Sound c → (a i : ℕ) → Met (order_at c a) (order_at c i) → Meeting c (order_at c a) i
met-meeting c v a i m = record {
  live = m.live;
  series = m.series;
  side = sides-two (order_at c i).side (order_at c a).side (fit-order-at c v i).side (fit-order-at c v a).side m.side;
  price = m.price;
}

-- what is met in b is met in c, if it lives there
met_less : {b c : State} (a i : ℕ) → Shrinks b c → 0 < (order_at c i).contracts → Met (order_at b a) (order_at b i) → Met (order_at c a) (order_at c i)
met_less a i s l m =
    let x = s.order a in
    let y = s.order i in
    record {
      live = l;
      series = y.series ∙ m.series ∙ sym x.series;
      side = λ e. m.side (sym y.side ∙ e ∙ x.side);
      price = rw (x.side, x.price, y.price) m.price;
    }

ahead-less : {b c : State} (a i j : ℕ) → Shrinks b c → AheadOrder (order_at b a) (order_at b i) (order_at b j) → AheadOrder (order_at c a) (order_at c i) (order_at c j)
ahead-less a i j s =
    let x = s.order a in
    let y = s.order i in
    let z = s.order j in
    ⊎_elim (λ h. inl (rw (x.side, y.price, z.price) h)) (λ h. inr (y.price ∙ h.0 ∙ sym z.price, omega (arith, y.number, z.number, h.1)))

-- where it has traded with one, nothing is left of one that goes before it
abbrev BestFirst : ℕ → State → State → Type 0
BestFirst a b c =
    (i j : ℕ) → (j ≡ a → ⊥) → Met (order_at b a) (order_at b i) → AheadOrder (order_at b a) (order_at b i) (order_at b j) → (order_at c j).contracts < (order_at b j).contracts → (order_at c i).contracts ≡ 0

trade-others : (b : State) (a h j : ℕ) → (j ≡ a → ⊥) → (j ≡ h → ⊥) → order_at (leg_trade b a h).state j ≡ order_at b j
unfolding leg_trade
trade-others b a h j n m = cut_leg-other (cut_leg b a _) h _ j m ∙ cut_leg-other b a _ j n

none_ahead : (b : State) (a i h : ℕ) → Sound b → BestOrder b (order_at b a) h → Met (order_at b a) (order_at b i) → AheadOrder (order_at b a) (order_at b i) (order_at b h) → ⊥
none_ahead b a i h v best m = ⊎_elim
    (λ e. clash e (best.best i (met-meeting b v a i m)))
    (λ e. omega (arith, best.first i (met-meeting b v a i m) e.0, e.1))

trade-best : (a k : ℕ) (b : State) → Sound b → BestFirst a b (trade_once a k b).state
unfolding trade_once
trade-best a k b v =
    let o : LegOrder = order_at b a in
    let P : Moved → Type 0 = λ (x : Moved). BestFirst a b x.state in
    let stays : P (still b) = λ i j n m h fell. absurd (omega arith) in
    pick_all P _ stays
    (pick-by P _
    (λ l i j n m h fell. absurd (⊎_elim
    (λ none. omega (arith, none.past, ltb-true (best_order b o) 32 l))
    (λ best. same_or ⊥ j (best_order b o)
    (λ e. none_ahead b a i (best_order b o) v best m (rw e at h))
    (λ e. omega (arith, ap (λ (x : LegOrder). x.contracts) (trade-others b a (best_order b o) j n e))))
    (best-order-first v o)))
    (λ _. stays))

-- in c, which is b after some of the trades
record Traded (a : ℕ) (b c : State) : Type 0 where
  only : Only 0 b c
  entries : c.entries ≡ b.entries
  best : BestFirst a b c

trade-entries : (a k : ℕ) (b : State) → (trade_once a k b).state.entries ≡ b.entries
unfolding trade_once leg_trade cut_leg with_orders
trade-entries a k b = let P : Moved → Type 0 = λ (x : Moved). x.state.entries ≡ b.entries in pick_all P _ refl (pick_all P _ refl refl)

traded-next : (a k : ℕ) (b : State) → Sound b → (c : State) → Traded a b c → Traded a b (trade_once a k c).state
traded-next a k b v c t =
    let s : Shrinks b c = t.only.shrinks in
    let o : Only 0 c (trade_once a k c).state = trade_once-only 0 a k c in
    let d : State = (trade_once a k c).state in
    record {
      only = only-trans t.only o;
      entries = trade-entries a k c ∙ t.entries;
      best = λ i j n m h fell. ⊎_elim
          (λ (l : 0 < (order_at c i).contracts). ⊎_elim
          (λ (f : (order_at c j).contracts < (order_at b j).contracts). omega (arith, t.best i j n m h f, (o.shrinks.order i).contracts))
          (λ (f : (order_at b j).contracts ≤ (order_at c j).contracts). trade-best a k c (only-sound t.only v) i j n (met_less a i s l m) (ahead-less a i j s h) (omega arith))
          (lt-or-le (order_at c j).contracts (order_at b j).contracts))
          (λ (l : (order_at c i).contracts ≤ 0). omega (arith, (o.shrinks.order i).contracts))
          (lt-or-le 0 (order_at c i).contracts);
    }

traded-upto : (a : ℕ) (b : State) → Sound b → (n : ℕ) → Traded a b (each (trade_once a) n b).state
traded-upto a b v n =
    each_keeps (Traded a b) (trade_once a) n (λ k _ c. traded-next a k b v c) b
    (record { only = only-refl 0 b; entries = refl; best = λ i j n m h fell. absurd (omega arith) })

traded-all : (a : ℕ) (b : State) → Sound b → Traded a b (trade_all a b).state
unfolding trade_all
traded-all a b v = traded-upto a b v 32

-- THEIR RECORDS
meeting-met : {b c : State} (a i : ℕ) → Shrinks b c → Meeting c (order_at c a) i → Met (order_at b a) (order_at b i)
meeting-met {b} {c} a i s m =
    let x = s.order a in
    let y = s.order i in
    record {
      live = omega (arith, m.live, y.contracts);
      series = sym y.series ∙ m.series ∙ x.series;
      side = λ e. other-apart (order_at c a).side (x.side ∙ sym e ∙ sym y.side ∙ m.side);
      price = rw (x.side, x.price, y.price) at m.price;
    }

module _ (a : ℕ) (b : State) (v : Sound b) where
  trade-records : (rs : List Record) (k : ℕ) (c : State) → Shrinks b c → Trades b a rs → Trades b a (rs ++ (trade_once a k c).records)
  unfolding trade_once leg_trade
  trade-records rs k c s t =
      let P : Moved → Type 0 = λ (x : Moved). Trades b a (rs ++ x.records) in
      let same : P (still c) = rw (append-nil rs) t in
      let h : ℕ = best_order c (order_at c a) in
      pick-by P _ (λ _. same) (λ z. pick-by P _
      (λ l.
      let m : Meeting c (order_at c a) h = best-meets c (order_at c a) (ltb-true h 32 l) in
      let x = s.order a in
      let y = s.order h in
      rw (x.number, x.series, x.side, y.number, y.series, y.side, y.price)
      (and-trade t h (min (order_at c a).contracts (order_at c h).contracts) (meeting-met a h s m) (omega (arith, positive (order_at c a).contracts z, m.live))))
      (λ _. same))

  records-upto : (n : ℕ) → Trades b a (each (trade_once a) n b).records
  unfolding each and_then
  records-upto zero = no-trade
  records-upto (suc n) = trade-records (each (trade_once a) n b).records n (each (trade_once a) n b).state (traded-upto a b v n).only.shrinks (records-upto n)

  records-all : Trades b a (trade_all a b).records
  unfolding trade_all
  records-all = records-upto 32

-- the slot that it entered
entered : (b : State) (o : LegOrder) → Sound b → EnteringOrder b o → order_at (enter_order o b) (free_order_slot b) ≡ o
unfolding enter_order with_last with_orders free_order_slot
entered b o v n = behind-slot live_order no_order o b.orders (enter_order-room b o v n)

module _ (b : State) (v : Sound b) (a : ℕ) where
  abbrev done : State
  done = (trade_all a b).state

  abbrev series : ℕ
  series = (order_at b a).series

  sound-done : Sound done
  sound-done = only-sound (traded-all a b v).only v

  rests : 0 < (order_at done a).contracts → if_rests series a done ≡ leg_passes series done
  unfolding if_rests
  rests l = pick-false _ _ _ (ne_eqb (order_at done a).contracts 0 (λ z. omega arith))

  rests-none : (order_at done a).contracts ≡ 0 → if_rests series a done ≡ still done
  unfolding if_rests
  rests-none e = pick_true _ _ _ (eq-eqb _ _ e)

  passing : Passing series done (if_rests series a done).state
  unfolding if_rests
  passing =
      pick_all (λ (x : Moved). Passing series done x.state) _
      (record { quiet = quiet-refl done; only = λ i l. absurd (omega arith) }) (passing-all series done sound-done.order_rows)

  sentence : LegOrderSentence b a (trade_all a b) (if_rests series a done).state
  sentence =
      let t : Traded a b done = traded-all a b v in
      record {
        trades_all = λ l i m. ⊎_elim (λ z. omega arith) (λ none. none i (met-meeting done sound-done a i m)) (trade-all a b v.order_rows);
        best_first = t.best;
        records = records-all a b v;
        entries = t.entries;
        passes = λ l i g. rw (rests l) (passes-had series i done sound-done g);
        no_others = passing.only;
        none_rests = λ z. ap (λ (m : Moved). m.state) (rests-none z);
      }

-- THE SENTENCE
pub leg-order-sentence : (b : State) (e : GivenLegOrder) → AcceptedEvent b (E.LegOrder e) →
    let o : LegOrder = leg_order_given b e in
    let a : ℕ = free_order_slot b in
    LegOrderSentence (enter_order o b) a (trade_all a (enter_order o b)) (accept b (E.LegOrder e)).state
unfolding accept on_leg_order and_then
leg-order-sentence b e x =
    let o : LegOrder = leg_order_given b e in
    let n : EnteringOrder b o = leg_order-clear b e x.fit x.clear in
    let v : Sound (enter_order o b) = sound-enter_order b o x.valid.sound n in
    rw (ap (λ (p : LegOrder). p.series) (entered b o x.valid.sound n)) at (sentence (enter_order o b) v (free_order_slot b))
