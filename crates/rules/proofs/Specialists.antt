-- What kind 11 does, and what the specialist's sweep and the rest of its group get in a starter's pass (2026-04).
use mathlib.Core.Path.{◌≡◌, refl, sym, ◌∙◌, ap, subst}
use mathlib.Core.Bool.{Bool, true, not}
use mathlib.Core.Logic.{◌⊎◌, inl, ⊎_elim}
use mathlib.Core.List.{List}
use Prim.Native.Nat.{ℕ, ◌-◌, ◌*◌, ◌/◌, ◌≤◌, ◌<◌, min, max}
use native.Mathlib.Omega.{arith}
use borrow.Author.Tests.{eqb-true, eq-eqb, ne_eqb}
use lib.Dec.{eqb}
use lib.ListN.{get_or, get_or-eq_default}
use lib.Seq.{get_or-set_same, get_or-set_other}
use Rattle.base.specs.Pick.{pick-by, pick_yes, pick_true, pick-false}
use Rattle.base.specs.Walks.{sum_n, slot, first_n, first_holds, first-before, length-table, sum_same, lt-or-le, clash}
use Rattle.events.specs.declared.Event.TheVariants as E
use Rattle.events.specs.declared.Specialist.{Specialist as GivenSpecialist}
use Rattle.rules.specs.declared.Strategy.{Strategy}
use Rattle.rules.specs.declared.State.{State}
use Rattle.rules.specs.declared.Allocation.TheVariants.{Shared, ForStarter}
use Rattle.rules.specs.declared.Turn.{Turn}
use Rattle.rules.specs.declared.Turn.TheVariants.{AtLimit}
use Rattle.rules.specs.State.{no_strategy, entry_at, strategy_at, strategy_of, with_strategies}
use Rattle.rules.specs.Moves.{and_then}
use Rattle.rules.specs.Specialists.{with_specialist, on_specialist}
use Rattle.rules.specs.Quotas.{share, portion, specialist_portion, rest_of, share_beside}
use Rattle.rules.specs.Passes.{opposes, holding, size_at, sizes, is_sweep_of, sweep_at, specialist_slot, beside_specialist, give_group, give_shared, give_for_starter, meet_limit, take_turn, pass}
use Rattle.rules.specs.Given.{specialist_given}
use Rattle.rules.specs.Step.{value_of, accept}
use Rattle.rules.specs.Valid.{Sound, Starter}
use Rattle.rules.specs.Sentences.{AcceptedEvent, SpecialistSentence, OneSweep, got, after_customers, second_group, group_total, SpecialistsSweep, group_got, ByNumber, PortionSentence, after_turns, StarterPortions}
use Rattle.rules.specs.Auctions.{starter_pass}
use Rattle.rules.proofs.Tables.{positive}
use Rattle.rules.proofs.Portions.{beside-portion, beside-rest, beside_none, beside-enough}
use Rattle.rules.proofs.Gives.{Lawful, opposed, other-apart, specialist-divides, sizes-at, holder}
use Rattle.rules.proofs.Control.{opposes-is, Fits, turn-fits}
use Rattle.rules.proofs.Entering.{fit_at_lem}
use Rattle.rules.proofs.Settled.{only-sound}
use Rattle.rules.proofs.Firsts.{live-slot}
use Rattle.rules.proofs.FillOrder.{in-order-by-number}
use Rattle.rules.proofs.Groups.{maker-group, in_group, group-in, holds-all, holding-in, second-sizes, second-left, second-got}
use Rattle.rules.proofs.Only.{Only, turns-only}
use Rattle.rules.proofs.Bars.{starter-is}
use Rattle.rules.proofs.OneSweep.{one_less}

-- KIND 11
pub specialist-sentence : (b : State) (e : GivenSpecialist) → AcceptedEvent b (E.Specialist e) → SpecialistSentence b e (accept b (E.Specialist e))
unfolding accept value_of on_specialist with_strategies specialist_given
specialist-sentence b e a =
    let row : strategy_at (accept b (E.Specialist e)).state e.strategy ≡ with_specialist (strategy_at b e.strategy) (specialist_given e) =
    get_or-set_same b.strategies e.strategy _ no_strategy (omega (arith, a.fit.2, a.valid.sound.strategy_rows)) in
    record {
      set = ap (λ (s : Strategy). s.specialist) row;
      legs = ap (λ (s : Strategy). s.legs) row;
      count = ap (λ (s : Strategy). s.count) row;
      series = ap (λ (s : Strategy). s.series) row;
      starter = ap (λ (s : Strategy). s.starter) row;
      begun = ap (λ (s : Strategy). s.begun) row;
      answered = ap (λ (s : Strategy). s.answered) row;
      others = λ k n. get_or-set_other b.strategies e.strategy k _ no_strategy n;
      rest = refl;
      records = refl;
      value = refl;
    }

-- THE SPECIALIST'S SWEEP
sweep-is : (b : State) (a level k : ℕ) → 0 < (strategy_of b (entry_at b a)).specialist.member → is_sweep_of (strategy_of b (entry_at b a)).specialist.member (entry_at b a) level (entry_at b k) ≡ true → SpecialistsSweep b a level k
unfolding is_sweep_of
sweep-is b a level k n h =
    let p = pick_yes (opposes (entry_at b a) (entry_at b k)) h in
    let q = pick_yes (eqb (entry_at b k).level level) p.1 in
    let r = pick_yes (eqb (entry_at b k).life 4) q.1 in
    let o = opposed (entry_at b a) (entry_at b k) p.0 in
    record {
      live = o.live;
      strategy = o.strategy;
      side = o.side;
      limit = eqb-true _ _ q.0;
      sweep = eqb-true _ _ r.0;
      named = n;
      member = eqb-true _ _ r.1;
    }

is-sweep : (b : State) (a level k : ℕ) → SpecialistsSweep b a level k → is_sweep_of (strategy_of b (entry_at b a)).specialist.member (entry_at b a) level (entry_at b k) ≡ true
unfolding is_sweep_of
is-sweep b a level k s =
    pick_true _ _ _ (opposes-is (entry_at b a) (entry_at b k) s.live s.strategy s.side)
    ∙ pick_true _ _ _ (eq-eqb _ _ s.limit) ∙ pick_true _ _ _ (eq-eqb _ _ s.sweep) ∙ eq-eqb _ _ s.member

module _ (b : State) (v : Sound b) (a level : ℕ) where
  abbrev member : ℕ
  member = (strategy_of b (entry_at b a)).specialist.member

  abbrev found : ℕ
  found = specialist_slot member b.entries (entry_at b a) level

  found-is : 0 < member → found ≡ first_n (sweep_at member b.entries (entry_at b a) level) 32
  unfolding specialist_slot
  found-is n = pick-false _ _ _ (ne_eqb member 0 (λ z. omega arith))

  -- where one stands in the table, it is the one found
  pub only_one : OneSweep b → (k : ℕ) → SpecialistsSweep b a level k → found ≡ k
  only_one one k s =
      let f : ℕ → Bool = sweep_at member b.entries (entry_at b a) level in
      let low : k < 32 = live-slot b v.entry_rows k s.live in
      let e : found ≡ first_n f 32 = found-is s.named in
      let is : f k ≡ true = is-sweep b a level k s in
      let few : first_n f 32 ≤ k = ⊎_elim (λ (l : k < first_n f 32). absurd (clash is (first-before f 32 k l))) (λ (l : first_n f 32 ≤ k). l) (lt-or-le k (first_n f 32)) in
      let t : SpecialistsSweep b a level (first_n f 32) = sweep-is b a level (first_n f 32) s.named (first_holds f 32 (omega arith)) in
      e ∙ ⊎_elim
      (λ (l : first_n f 32 < k). absurd (one (first_n f 32) k l t.live s.live (record {
        sweep = t.sweep;
        life = s.sweep;
        member = s.member ∙ sym t.member;
        strategy = s.strategy ∙ sym t.strategy;
        side = s.side ∙ sym t.side;
        limit = s.limit ∙ sym t.limit;
      })))
      (λ (l : k ≤ first_n f 32). omega arith)
      (lt-or-le (first_n f 32) k)

  -- where none stands, none is found
  pub none_found : ((k : ℕ) → SpecialistsSweep b a level k → ⊥) → 32 ≤ found
  unfolding specialist_slot
  none_found none =
      pick-by (λ (n : ℕ). 32 ≤ n) (eqb member 0) (λ _. omega arith)
      (λ e.
      let f : ℕ → Bool = sweep_at member b.entries (entry_at b a) level in
      ⊎_elim (λ (l : first_n f 32 < 32). absurd (none (first_n f 32) (sweep-is b a level (first_n f 32) (positive member e) (first_holds f 32 l)))) (λ (l : 32 ≤ first_n f 32). l) (lt-or-le (first_n f 32) 32))

  module _ (m : Lawful b a level) where
    abbrev r : ℕ
    r = after_customers b a level

    abbrev xs : List ℕ
    xs = second_group b a level

    abbrev percentage : ℕ
    percentage = (strategy_of b (entry_at b a)).specialist.percentage

    abbrev end : State
    end = (meet_limit ForStarter a level b).state

    -- a size is in the table
    slot-low : (i : ℕ) → 0 < slot xs i → i < 32
    unfolding sizes
    slot-low i some = ⊎_elim (λ (l : i < 32). l) (λ (l : 32 ≤ i). absurd (omega (arith, some, get_or-eq_default xs 0 {n = i} (omega (arith, length-table (size_at b.entries (entry_at b a) level 1) 32))))) (lt-or-le i 32)

    -- what a holder of the second group got is its quota
    got-quota : (i : ℕ) → i < 32 → 0 < slot xs i → got b end i ≡ slot (share_beside found percentage r xs) i
    unfolding meet_limit give_for_starter give_shared and_then beside_specialist
    got-quota i l some =
        let h : slot xs i ≡ holding (entry_at b a) level 1 (entry_at b i) = sizes-at b.entries (entry_at b a) level 1 i l in
        let p : 0 < holding (entry_at b a) level 1 (entry_at b i) = omega arith in
        let o = opposed (entry_at b a) (entry_at b i) (holder (entry_at b a) level 1 (entry_at b i) p).opposed in
        second-got (specialist-divides a level b) a level b v.entry_rows m i l
        (λ e. other-apart (entry_at b a).side (sym (ap (λ (j : ℕ). (entry_at b j).side) e) ∙ o.side))
        (in_group (entry_at b i) 1 (omega arith) (holding-in (entry_at b a) (entry_at b i) level 1 p))

    -- the sweep holds all its units
    sweep-size : (k : ℕ) → SpecialistsSweep b a level k → slot xs k ≡ (entry_at b k).units
    sweep-size k s =
        sizes-at b.entries (entry_at b a) level 1 k (live-slot b v.entry_rows k s.live)
        ∙ holds-all (entry_at b a) (entry_at b k) level 1 (opposes-is (entry_at b a) (entry_at b k) s.live s.strategy s.side) s.limit
        (group-in (entry_at b k) 1 (omega arith) (maker-group (entry_at b k) (inl s.sweep)))

    most : percentage ≤ 100
    most = (fit_at_lem b v (entry_at b a).strategy).percentage

    module _ (one : OneSweep b) (less : r < group_total b a level) (k : ℕ) (s : SpecialistsSweep b a level k) where
      low : k < 32
      low = live-slot b v.entry_rows k s.live

      is : found ≡ k
      is = only_one one k s

      abbrev part : ℕ
      part = specialist_portion percentage r (group_total b a level) (slot xs k)

      got-part : got b end k ≡ part
      got-part =
          let q : got b end k ≡ slot (share_beside found percentage r xs) k = got-quota k low (omega (arith, sweep-size k s, s.live)) in
          (rw is at q) ∙ beside-portion k percentage r xs less low most

      got-portion : got b end k ≡ min (entry_at b k).units (max (r * (entry_at b k).units / group_total b a level) (percentage * r / 100))
      unfolding specialist_portion portion
      got-portion = got-part ∙ rw (sweep-size k s)

      got-rest : (i : ℕ) → (i ≡ k → ⊥) → 0 < slot xs i → got b end i ≡ slot (share (r - got b end k) (rest_of k xs)) i
      got-rest i n some =
          let l : i < 32 = slot-low i some in
          let q : got b end i ≡ slot (share_beside found percentage r xs) i = got-quota i l some in
          (rw is at q) ∙ beside-rest k percentage r xs less low most i l n ∙ rw got-part

    -- all that remains is given out, or the whole group is filled
    got-all : sum_n (group_got b a level end) 32 ≡ min r (group_total b a level)
    unfolding beside_specialist
    got-all =
        sum_same (group_got b a level end) (slot (share_beside found percentage r xs)) 32
        (λ i l. pick-by (λ (n : ℕ). n ≡ slot (share_beside found percentage r xs) i) (eqb (slot xs i) 0)
        (λ e. omega (arith, eqb-true (slot xs i) 0 e, (specialist-divides a level b).under r xs i))
        (λ e. got-quota i l (positive (slot xs i) e)))
        ∙ (specialist-divides a level b).sum r xs

    -- where the division is the old one, so is the pass
    as-shared : ((q : ℕ) (ys : List ℕ) → q ≡ r → ys ≡ xs → share_beside found percentage q ys ≡ share q ys) → meet_limit ForStarter a level b ≡ meet_limit Shared a level b
    unfolding meet_limit give_for_starter give_shared and_then beside_specialist give_group
    as-shared same = rw (same _ _ (second-left (specialist-divides a level b) a level b v.entry_rows m) (second-sizes (specialist-divides a level b) a level b v.entry_rows m))

    elsewhere : ((k : ℕ) → SpecialistsSweep b a level k → ⊥) ⊎ (group_total b a level ≤ r) → meet_limit ForStarter a level b ≡ meet_limit Shared a level b
    elsewhere h = as-shared (λ q ys e f. ⊎_elim (λ none. beside_none found percentage q ys (none_found none)) (λ enough. beside-enough found percentage q ys (rw (e, f) enough)) h)

-- the fills of each group are by number
starter-order : (b : State) → Sound b → (a level : ℕ) → Lawful b a level → ByNumber b a level (meet_limit ForStarter a level b)
unfolding meet_limit give_for_starter
starter-order b v a level m = in-order-by-number (specialist-divides a level b) b v a level m

-- THE SENTENCE, of every limit that an auction's starter meets in its pass
pub portion-sentence : (b : State) → Sound b → OneSweep b → (a level : ℕ) → Lawful b a level → PortionSentence b a level (meet_limit ForStarter a level b)
portion-sentence b v one a level m = record {
  portion = λ less k s. got-portion b v a level m one less k s;
  rest = λ less k s. got-rest b v a level m one less k s;
  all = got-all b v a level m;
  by_number = starter-order b v a level m;
  elsewhere = elsewhere b v a level m;
}

-- THE STARTER'S PASS: at each of its limits
pub starter-portions : (b : State) → Sound b → OneSweep b → (k i : ℕ) → Starter b k i → StarterPortions b k i
unfolding starter_pass pass take_turn
starter-portions b v one k i s = record {
  turns = rw (starter-is b v k i s);
  specialist = λ n. ap (λ (ss : List Strategy). (get_or ss k no_strategy).specialist) (turns-only (entry_at b i).strategy ForStarter (not (strategy_at b k).answered) i b v.order_rows refl n).strategies;
  portions = λ n level e.
      let legs : Bool = not (strategy_at b k).answered in
      let c : State = after_turns b k i n in
      let o : Only (entry_at b i).strategy b c = turns-only (entry_at b i).strategy ForStarter legs i b v.order_rows refl n in
      let f : Fits c i (AtLimit level) = subst (Fits c i) e (turn-fits ForStarter legs i c) in
      subst (λ (t : Turn). PortionSentence c i level (take_turn ForStarter i t c)) (sym e) (portion-sentence c (only-sound o v) (one_less o.shrinks one) i level f.lawful);
}
