-- "Series: shut ends the auctions of strategies holding it .. without fills .. Opening one that was shut: each all-open strategy holding it .. matches
-- best buy with best sell .. No change of state does nothing."
use mathlib.Core.Path.{◌≡◌, refl, sym, ◌∙◌, ap}
use mathlib.Core.Bool.{Bool, true, false, not}
use mathlib.Core.Logic.{◌⊎◌, inl, inr, ⊎_elim}
use Prim.Native.Nat.{ℕ, zero, suc, ◌-◌, ◌^◌, ◌≤◌, ◌<◌}
use native.Mathlib.Omega.{arith}
use borrow.Author.Tests.{eqb-true, eq-eqb, ne_eqb, not-true, not-false}
use lib.Dec.{eqb}
use lib.ListN.{length}
use Rattle.base.specs.Pick.{pick_all, pick-by, pick_true, pick-false, pick_yes}
use Rattle.base.specs.All.{All, all_nil, all_cons, all_append}
use Rattle.base.specs.Sets.{has}
use Rattle.base.specs.SetLaws.{has_sub}
use Rattle.base.specs.Walks.{below, clash, lt-or-le}
use Rattle.rules.specs.declared.Strategy.{Strategy}
use Rattle.rules.specs.declared.Entry.{Entry}
use Rattle.rules.specs.declared.State.{State}
use Rattle.rules.specs.State.{entry_at, strategy_at, with_entries, with_strategies, with_opened}
use Rattle.rules.specs.Moves.{Moved, and_then, each}
use Rattle.rules.specs.Records.{kind_number}
use Rattle.rules.specs.Strategies.{holds}
use Rattle.rules.specs.Fills.{cut, cancel_entry}
use Rattle.rules.specs.Auctions.{live_in, running, put_auction, close, lapses, cancel_lapsed, end_unfilled, end_holding}
use Rattle.rules.specs.Events.{shut}
use Rattle.rules.specs.Valid.{Valid}
use Rattle.rules.specs.Sentences.{NoFill, Lapsed, ShutSentence}
use Rattle.rules.proofs.Tables.{positive}
use Rattle.rules.proofs.Shrinks.{Shrinks, shrinks-refl, shrinks-trans}
use Rattle.rules.proofs.Control.{end_unfilled-kept, shrinks-kept}
use Rattle.rules.proofs.Only.{Only, only-each, live-in, lapsed-only}
use Rattle.rules.proofs.Settled.{same_or, each_keeps, strategy-same, cancel-other, cancel-dead}
use Rattle.rules.proofs.Arrivals.{put-at, put_other}
use Rattle.rules.proofs.Endings.{shut-valid}
use Rattle.rules.proofs.Bars.{each_all}
use Rattle.rules.proofs.Clocks.{runs-not}

-- THE END WITHOUT FILLS
module _ (k : ℕ) (b : State) where
  abbrev lapsed : State
  lapsed = (each (cancel_lapsed k) 32 b).state

  lapsed-all : Only k b lapsed
  lapsed-all = only-each (cancel_lapsed k) b 32 (λ i _ c _. lapsed-only k i c)

  unfilled-other : (j : ℕ) → (j ≡ k → ⊥) → strategy_at (end_unfilled k b).state j ≡ strategy_at b j
  unfolding end_unfilled and_then close
  unfilled-other j n = put_other lapsed k 0 0 false j n ∙ strategy-same b lapsed lapsed-all.strategies j

  unfilled-none : k < length b.strategies → (strategy_at (end_unfilled k b).state k).starter ≡ 0
  unfolding end_unfilled and_then close
  unfilled-none l = ap (λ (s : Strategy). s.starter) (put-at lapsed k 0 0 false (omega (arith, lapsed-all.shrinks.strategy_rows)))

  unfilled-orders : (end_unfilled k b).state.orders ≡ b.orders
  unfolding end_unfilled and_then close put_auction with_strategies cancel_lapsed cancel_entry cut with_entries
  unfilled-orders =
      let P : State → Type 0 = λ (c : State). c.orders ≡ b.orders in
      let Q : Moved → Type 0 = λ (m : Moved). P m.state in
      each_keeps P (cancel_lapsed k) 32 (λ i _ c h. pick_all Q _ (pick_all Q _ h h) h) b refl

  unfilled-records : All NoFill (end_unfilled k b).records
  unfolding end_unfilled and_then close cancel_lapsed cancel_entry kind_number
  unfilled-records =
      let P : Moved → Type 0 = λ (m : Moved). All NoFill m.records in
      all_append (each_all NoFill (cancel_lapsed k) (λ i c. pick_all P _ (pick_all P _ all_nil (all_cons (inl refl) all_nil)) all_nil) 32 b) (all_cons (inr refl) all_nil)

-- by strategy: after the first n
record Shut (s : ℕ) (b : State) (n : ℕ) (c : State) : Type 0 where
  shrinks : Shrinks b c
  orders : c.orders ≡ b.orders
  ahead : (j : ℕ) → n ≤ j → strategy_at c j ≡ strategy_at b j
  ended : (j : ℕ) → j < n → holds b s j ≡ true → (strategy_at c j).starter ≡ 0
  left : (j : ℕ) → holds b s j ≡ false → strategy_at c j ≡ strategy_at b j
  only : (i : ℕ) → (entry_at c i).units < (entry_at b i).units → Lapsed b s i c

-- who lapses
abbrev Lapses : Entry → Type 0
Lapses e = (e.life ≡ 1) ⊎ ((e.life ≡ 2) ⊎ (e.life ≡ 4))

lapse-life : (k : ℕ) (e : Entry) → lapses k e ≡ true → Lapses e × (e.strategy ≡ k)
unfolding lapses
lapse-life k e h =
    let p = pick_yes (live_in k e) h in (
      pick-by (λ (t : Bool). t ≡ true → Lapses e) (eqb e.life 1) (λ q _. inl (eqb-true _ _ q))
          (λ _. pick-by (λ (t : Bool). t ≡ true → Lapses e) (eqb e.life 2) (λ q _. inr (inl (eqb-true _ _ q))) (λ _ q. inr (inr (eqb-true _ _ q)))) p.1,
      (live-in k e p.0).1,
    )

record Fell (k : ℕ) (b c : State) (i : ℕ) : Type 0 where
  zero : (entry_at c i).units ≡ 0
  life : Lapses (entry_at b i)
  strategy : (entry_at b i).strategy ≡ k

-- in c, which is b after some of the cancels
record Cancelling (k : ℕ) (b c : State) : Type 0 where
  shrinks : Shrinks b c
  fell : (i : ℕ) → (entry_at c i).units < (entry_at b i).units → Fell k b c i

cancelling-next : (k j : ℕ) (b c : State) → Cancelling k b c → Cancelling k b (cancel_lapsed k j c).state
unfolding cancel_lapsed
cancelling-next k j b c p = record { shrinks = shrinks-trans p.shrinks (lapsed-only k j c).shrinks; fell = fell }
  where
    before : (i : ℕ) (d : State) → entry_at d i ≡ entry_at c i → (entry_at d i).units < (entry_at b i).units → Fell k b d i
    before i d e l = let u = ap (λ (x : Entry). x.units) e in let f = p.fell i (omega arith) in record { zero = omega (arith, f.zero); life = f.life; strategy = f.strategy }

    fell : (i : ℕ) → (entry_at (cancel_lapsed k j c).state i).units < (entry_at b i).units → Fell k b (cancel_lapsed k j c).state i
    fell i =
        pick-by (λ (m : Moved). (entry_at m.state i).units < (entry_at b i).units → Fell k b m.state i) (lapses k (entry_at c j))
        (λ t l. same_or (Fell k b (cancel_entry j c).state i) i j
        (λ q.
        let m = p.shrinks.entry i in
        let w = lapse-life k (entry_at c j) t in
        record {
          zero = rw q (cancel-dead c j);
          life = rw m.life at (rw (sym q) at w.0);
          strategy = sym m.strategy ∙ (rw (sym q) at w.1);
        })
        (λ n. before i (cancel_entry j c).state (cancel-other c j i n) l))
        (λ _ l. before i c refl l)

unfilled-fell : (k : ℕ) (b : State) (i : ℕ) → (entry_at (end_unfilled k b).state i).units < (entry_at b i).units → Fell k b (end_unfilled k b).state i
unfolding end_unfilled and_then close put_auction with_strategies
unfilled-fell k b i l =
    let p : Cancelling k b (lapsed k b) = each_keeps (Cancelling k b) (cancel_lapsed k) 32 (λ j _ c. cancelling-next k j b c) b (record { shrinks = shrinks-refl b; fell = λ i l. absurd (omega arith) }) in
    let f = p.fell i l in
    record { zero = f.zero; life = f.life; strategy = f.strategy }

module _ (s : ℕ) (b : State) (rows : length b.orders ≡ 32) (sixteen : length b.strategies ≡ 16) (n : ℕ) (low : n < 16) (c : State) (p : Shut s b n c) where
  same : strategy_at c n ≡ strategy_at b n
  same = p.ahead n (omega arith)

  shut-leaves : (holds b s n ≡ true → (strategy_at b n).starter ≡ 0) → Shut s b (suc n) c
  shut-leaves h = record {
    shrinks = p.shrinks;
    orders = p.orders;
    ahead = λ j l. p.ahead j (omega arith);
    ended = λ j l t. ⊎_elim (λ (q : j ≡ n). rw q (rw same (h (rw q at t)))) (λ (m : j < n). p.ended j m t) (below l);
    left = p.left;
    only = p.only;
  }

  shut-ends : holds b s n ≡ true → running b n ≡ true → Shut s b (suc n) (end_unfilled n c).state
  shut-ends h r =
      let k : Shrinks c (end_unfilled n c).state = end_unfilled-kept shrinks-kept n c (p.shrinks.order_rows ∙ rows) in
      record {
        shrinks = shrinks-trans p.shrinks k;
        orders = unfilled-orders n c ∙ p.orders;
        ahead = λ j l. unfilled-other n c j (λ q. omega arith) ∙ p.ahead j (omega arith);
        ended = λ j l t. ⊎_elim
            (λ (q : j ≡ n). rw q (unfilled-none n c (omega (arith, p.shrinks.strategy_rows))))
            (λ (m : j < n). rw (unfilled-other n c j (λ q. omega arith)) (p.ended j m t))
            (below l);
        left = λ j t. unfilled-other n c j (λ q. clash h (rw q at t)) ∙ p.left j t;
        only = λ i l. ⊎_elim
            (λ (f : (entry_at (end_unfilled n c).state i).units < (entry_at c i).units).
            let w = unfilled-fell n c i f in
            let m = p.shrinks.entry i in
            let z : (entry_at b i).strategy ≡ n = sym m.strategy ∙ w.strategy in
            record {
              ended = w.zero;
              lapses = rw m.life at w.life;
              holds = rw z h;
              ran = rw z (some (strategy_at b n).starter r);
            })
            (λ (f : (entry_at c i).units ≤ (entry_at (end_unfilled n c).state i).units).
            let w = p.only i (omega arith) in
            record { ended = omega (arith, w.ended, (k.entry i).units); lapses = w.lapses; holds = w.holds; ran = w.ran })
            (lt-or-le (entry_at (end_unfilled n c).state i).units (entry_at c i).units);
      }
    where
      some : (u : ℕ) → not (eqb u 0) ≡ true → 0 < u
      some u e = positive u (not-true _ e)

  shut-next : Shut s b (suc n) (end_holding s n c).state
  unfolding end_holding
  shut-next =
      let P : Moved → Type 0 = λ (m : Moved). Shut s b (suc n) m.state in
      pick-by P (running c n)
      (λ r. pick-by P (holds c s n) (λ h. shut-ends (rw same at h) (rw same at r)) (λ h. shut-leaves (λ t. absurd (clash t (rw same at h)))))
      (λ r. shut-leaves (λ _. eqb-true _ _ (not-false _ (rw same at r))))

shut-each : (s : ℕ) (b : State) → length b.orders ≡ 32 → length b.strategies ≡ 16 → (n : ℕ) → n ≤ 16 → Shut s b n (each (end_holding s) n b).state
unfolding each and_then
shut-each s b rows sixteen zero l = record {
  shrinks = shrinks-refl b;
  orders = refl;
  ahead = λ j h. refl;
  ended = λ j h. absurd (omega arith);
  left = λ j h. refl;
  only = λ i h. absurd (omega arith);
}
shut-each s b rows sixteen (suc n) l = shut-next s b rows sixteen n (omega arith) _ (shut-each s b rows sixteen n (omega arith))

shut-records : (s n : ℕ) (b : State) → All NoFill (each (end_holding s) n b).records
unfolding end_holding
shut-records s n b =
    let P : Moved → Type 0 = λ (m : Moved). All NoFill m.records in
    each_all NoFill (end_holding s) (λ k c. pick_all P _ (pick_all P _ (unfilled-records k c) all_nil) all_nil) n b

-- SHUT
pub shut-sentence : (s : ℕ) (b : State) → Valid b → has b.opened s ≡ true → ShutSentence b s (shut s b)
unfolding shut with_opened
shut-sentence s b v h =
    let o : ℕ = b.opened - 2 ^ s in
    let p : Shut s (with_opened b o) 16 (shut s b).state = shut-each s (with_opened b o) v.sound.order_rows v.sound.strategy_rows 16 (omega arith) in
    let w : Valid (shut s b).state = shut-valid s b h v in
    let ends : (k : ℕ) → has (strategy_at b k).series s ≡ true → (strategy_at (shut s b).state k).starter ≡ 0 = λ k t. ⊎_elim
    (λ (l : k < 16). p.ended k l t)
    (λ (l : 16 ≤ k). rw (p.ahead k l) (v.sound.undefined k (omega (arith, v.sound.defined))).2)
    (lt-or-le k 16) in
    record {
      ends = ends;
      goes_on = λ k t. p.left k t;
      no_fills = shut-records s 16 (with_opened b o);
      orders = p.orders;
      only_lapsed = λ i l. let q = p.only i l in record { ended = q.ended; lapses = q.lapses; holds = q.holds; ran = q.ran };
      day_left = λ i t l.
          let m = p.shrinks.entry i in
          sym m.life ∙ (w.settled (entry_at b i).strategy).day (runs-not (shut s b).state (entry_at b i).strategy (ends (entry_at b i).strategy t)) i l m.strategy;
      is_shut = rw p.shrinks.opened (has_sub b.opened s s h ∙ pick_true _ _ _ (eq-eqb s s refl));
      others = λ t n. rw p.shrinks.opened (has_sub b.opened s t h ∙ pick-false _ _ _ (ne_eqb t s n));
    }
