-- "Opening one that was shut: each all-open strategy holding it, by strategy, matches best buy with best sell (price, then number) while they meet, at
-- the lower number's limit, its order active; when all have matched, the legs-only passes. No change of state does nothing."
use mathlib.Core.Path.{◌≡◌, refl, sym, ◌∙◌, ap}
use mathlib.Core.Bool.{Bool, true, false}
use mathlib.Core.Logic.{◌⊎◌, inl, inr, ⊎_elim}
use mathlib.Core.List.{List, [], ◌++◌, append-nil, append_assoc}
use Prim.Native.Nat.{ℕ, zero, suc, ◌+◌, ◌-◌, ◌^◌, ◌≤◌, ◌<◌, min}
use native.Mathlib.Omega.{arith}
use borrow.Author.Tests.{eqb-true, eq-eqb, ne_eqb, ltb-true, ltb-false}
use lib.Dec.{eqb, ltb}
use lib.ListN.{length, replicate}
use Rattle.base.specs.Pick.{pick, pick_all, pick-by, pick_true, pick-false, pick_yes}
use Rattle.base.specs.Sets.{has}
use Rattle.base.specs.SetLaws.{has-add, add-lt}
use Rattle.base.specs.Walks.{clash, lt-or-le}
use Rattle.events.specs.declared.Series.{Series}
use Rattle.events.specs.declared.Event.TheVariants as E
use Rattle.rules.specs.declared.Strategy.{Strategy}
use Rattle.rules.specs.declared.Entry.{Entry}
use Rattle.rules.specs.declared.State.{State}
use Rattle.rules.specs.declared.Record.{Record}
use Rattle.rules.specs.State.{entry_at, strategy_at, with_opened}
use Rattle.rules.specs.Moves.{Moved, still, and_then, each}
use Rattle.rules.specs.Sides.{meets}
use Rattle.rules.specs.Fills.{cut_entry, party_records, whole_fill}
use Rattle.rules.specs.Auctions.{best_slot, crossed, may_match, match_once, match_all, match_in, leg_passes}
use Rattle.rules.specs.Events.{shut, reopen, on_series}
use Rattle.rules.specs.Step.{accept}
use Rattle.rules.specs.Valid.{Sound}
use Rattle.rules.specs.Sentences.{AcceptedEvent, Open, Beside, AheadNumbered, NonePassed, match_records, Matches, no-match, and-match, MatchBarred, OpenSentence, SeriesSentence}
use Rattle.rules.proofs.Shrinks.{SameEntry, Shrinks, shrinks-trans}
use Rattle.rules.proofs.Entering.{sound-opened}
use Rattle.rules.proofs.Control.{reopen-kept, shrinks-kept, Crossed, crossed-best, buy-limit, sell-limit}
use Rattle.rules.proofs.Firsts.{Resting, BestEntry, best-first, live-slot}
use Rattle.rules.proofs.Finishes.{Stopped, match-apart, match-shrinks}
use Rattle.rules.proofs.Gives.{whole-other, whole-orders}
use Rattle.rules.proofs.Only.{Only, match_once-only, match_all-only}
use Rattle.rules.proofs.Settled.{same_or, only-sound, shut-same}
use Rattle.rules.proofs.Cancels.{same-slot}
use Rattle.rules.proofs.Groups.{numbered-static, none-refl, none-trans}
use Rattle.rules.proofs.LegOrders.{all-open, Quiet, quiet-refl, quiet-trans, Split, each-split, passes-had, Passing, passing-all}
use Rattle.rules.proofs.Openings.{shut-sentence}

-- an entry that has lost units at most is that entry, cut
built : ℕ → ℕ → ℕ → ℕ → ℕ → ℕ → ℕ → ℕ → Entry
built n m k s c l u x = record { number = n; member = m; strategy = k; side = s; class = c; life = l; units = u; level = x }

built-same : {n m k s c l u x n' m' k' s' c' l' u' x' : ℕ} → n' ≡ n → m' ≡ m → k' ≡ k → s' ≡ s → c' ≡ c → l' ≡ l → u' ≡ u → x' ≡ x → built n' m' k' s' c' l' u' x' ≡ built n m k s c l u x
built-same a b c d e f g h = cc

same-cut : (e f : Entry) → SameEntry e f → f ≡ cut_entry e (e.units - f.units)
unfolding built
same-cut e f h =
    let u : f.units ≡ e.units - (e.units - f.units) = omega (arith, h.units) in
    built-same h.number h.member h.strategy h.side h.class h.life u h.level

-- its records are the same
same-records : (e f : Entry) (s : Strategy) (q level : ℕ) (ps : List ℕ) → SameEntry e f → party_records f s q level ps ≡ party_records e s q level ps
unfolding party_records
same-records e f s q level ps h = rw (same-cut e f h)

-- ONE MATCH
-- nobody is better, nor first at the same limit
best_none : (b : State) → Sound b → (k s x i : ℕ) → BestEntry b k s x → Beside (entry_at b i) (entry_at b x) → AheadNumbered (entry_at b i) (entry_at b x) → (entry_at b i).units ≡ 0
best_none b v k s x i best t w = ⊎_elim
    (λ (l : 0 < (entry_at b i).units).
    let side : (entry_at b i).side ≡ s = sym t.side ∙ best.rests.side in
    let r : Resting b k s i = record { live = l; strategy = sym t.strategy ∙ best.rests.strategy; side = side } in
    absurd (⊎_elim (λ h. clash (rw side at h) (best.best i r)) (λ h. omega (arith, best.first i r (sym h.0), h.1)) w))
    (λ (l : (entry_at b i).units ≤ 0). omega arith)
    (lt-or-le 0 (entry_at b i).units)

module _ (k n : ℕ) (b : State) (v : Sound b) where
  abbrev x : ℕ
  x = best_slot b k 0

  abbrev y : ℕ
  y = best_slot b k 1

  abbrev first : Bool
  first = ltb (entry_at b x).number (entry_at b y).number

  abbrev active : ℕ
  active = pick first x y

  abbrev holder : ℕ
  holder = pick first y x

  abbrev size : ℕ
  size = min (entry_at b active).units (entry_at b holder).units

  match_is : may_match b k x y ≡ true → match_once k n b ≡ whole_fill b active holder (entry_at b active).level size
  unfolding match_once
  match_is e = pick_true _ _ _ e

  match-not : may_match b k x y ≡ false → match_once k n b ≡ still b
  unfolding match_once
  match-not e = pick-false _ _ _ e

  best-buyer : crossed b x y ≡ true → BestEntry b k 0 x
  unfolding crossed
  best-buyer e = ⊎_elim (λ z. absurd (omega (arith, z.past, ltb-true x 32 (pick_yes (ltb x 32) e).0))) (λ z. z) (best-first v k 0)

  best-seller : crossed b x y ≡ true → BestEntry b k 1 y
  unfolding crossed
  best-seller e = ⊎_elim (λ z. absurd (omega (arith, z.past, ltb-true y 32 (pick_yes (ltb y 32) (pick_yes (ltb x 32) e).1).0))) (λ z. z) (best-first v k 1)

  -- only the two change
  match-others : may_match b k x y ≡ true → (j : ℕ) → (j ≡ x → ⊥) → (j ≡ y → ⊥) → entry_at (match_once k n b).state j ≡ entry_at b j
  match-others e j p q =
      let D : ℕ → Type 0 = λ (z : ℕ). j ≡ z → ⊥ in
      rw (match_is e) (whole-other b active holder (entry_at b active).level size j (pick_all D first p q) (pick_all D first q p))

  match-best : NonePassed AheadNumbered 32 b (match_once k n b).state
  match-best i j _ t w fell = by (may_match b k x y) refl
    where
      less : Shrinks b (match_once k n b).state
      less = (match_once-only k n b).shrinks

      by : (c : Bool) → may_match b k x y ≡ c → (entry_at (match_once k n b).state i).units ≡ 0
      by false e = absurd (omega (arith, ap (λ (m : Moved). (entry_at m.state j).units) (match-not e)))
      by true e =
          let z : (entry_at b i).units ≡ 0 = same_or ((entry_at b i).units ≡ 0) j x
          (λ q. best_none b v k 0 x i (best-buyer (pick_yes _ e).0) (rw q at t) (rw q at w))
          (λ p. same_or ((entry_at b i).units ≡ 0) j y
          (λ q. best_none b v k 1 y i (best-seller (pick_yes _ e).0) (rw q at t) (rw q at w))
          (λ q. absurd (omega (arith, ap (λ (a : Entry). a.units) (match-others e j p q))))) in
          omega (arith, (less.entry i).units)

  -- the lower number is active, at its limit
  record Active (i h : ℕ) : Type 0 where
    number : (entry_at b i).number < (entry_at b h).number
    strategy : (entry_at b h).strategy ≡ (entry_at b i).strategy
    sides : (entry_at b h).side ≡ (entry_at b i).side → ⊥
    limit : meets (entry_at b h).side (entry_at b h).level (entry_at b i).level ≡ true
    mine : 0 < (entry_at b i).units
    its : 0 < (entry_at b h).units

  lower-active : crossed b x y ≡ true → Active active holder
  unfolding pick
  lower-active e = by first refl
    where
      c : Crossed b k x y
      c = crossed-best b k e

      by : (t : Bool) → first ≡ t → Active (pick t x y) (pick t y x)
      by true f = record {
        number = ltb-true _ _ f;
        strategy = c.sell.strategy ∙ sym c.buy.strategy;
        sides = λ q. omega (arith, c.buy.on_side, c.sell.on_side);
        limit = buy-limit b k x y c;
        mine = c.buy.live;
        its = c.sell.live;
      }
      by false f =
          let differ : ¬ ((entry_at b y).number ≡ (entry_at b x).number) = λ q. (let z : y ≡ x = same-slot v y x c.sell.live c.buy.live q in
          omega (arith, c.buy.on_side, c.sell.on_side, ap (λ (i : ℕ). (entry_at b i).side) z)) in
          record {
            number = omega (arith, ltb-false (entry_at b x).number (entry_at b y).number f);
            strategy = c.buy.strategy ∙ sym c.sell.strategy;
            sides = λ q. omega (arith, c.buy.on_side, c.sell.on_side);
            limit = sell-limit b k x y c;
            mine = c.sell.live;
            its = c.buy.live;
          }

  -- what stopped the match at b, where it stopped: the two meet, and one of them may not fill
  barred-at : (from to : State) → Shrinks from b → Shrinks b to → Stopped b k → MatchBarred from k to
  barred-at from to since until e =
      let w : Active active holder = lower-active e.crossed in
      let Best : ℕ → Type 0 = λ (z : ℕ). (j : ℕ) → Beside (entry_at b j) (entry_at b z) → AheadNumbered (entry_at b j) (entry_at b z) → (entry_at b j).units ≡ 0 in
      let buys : Best x = λ j. best_none b v k 0 x j (best-buyer e.crossed) in
      let sells : Best y = λ j. best_none b v k 1 y j (best-seller e.crossed) in
      let In : ℕ → Type 0 = λ (z : ℕ). (entry_at b z).strategy ≡ k in
      let in_buy : In x = (best-buyer e.crossed).rests.strategy in
      let in_sell : In y = (best-seller e.crossed).rests.strategy in
      record {
        moment = b;
        since = since;
        until = until;
        i = active;
        h = holder;
        live = (w.mine, w.its);
        strategy = (pick_all In first in_buy in_sell, pick_all In first in_sell in_buy);
        sides = w.sides;
        number = w.number;
        best = pick_all Best first buys sells;
        its_best = pick_all Best first sells buys;
        meets = w.limit;
        barred = e.barred;
      }

-- THE RECORDS
whole-records : (b : State) (i h level q : ℕ) → 0 < q → (whole_fill b i h level q).records ≡ match_records b i h level q
unfolding whole_fill
whole-records b i h level q l =
    pick-by (λ (m : Moved). m.records ≡ match_records b i h level q) (eqb q 0) (λ z. absurd (omega (arith, eqb-true q 0 z))) (λ _. refl)

matched-same : (b c : State) → Quiet b c → (i h level q : ℕ) → match_records c i h level q ≡ match_records b i h level q
matched-same b c p i h level q =
    let t : strategy_at c (entry_at c i).strategy ≡ strategy_at b (entry_at b i).strategy = ap (λ (x : ℕ). strategy_at c x) (p.shrinks.entry i).strategy ∙ row (entry_at b i).strategy in
    rw (
      t,
      same-records (entry_at b i) (entry_at c i) (strategy_at b (entry_at b i).strategy) q level (replicate 6 0) (p.shrinks.entry i),
      same-records (entry_at b h) (entry_at c h) (strategy_at b (entry_at b i).strategy) q level (replicate 6 0) (p.shrinks.entry h),
    )
  where
    row : (k : ℕ) → strategy_at c k ≡ strategy_at b k
    row k = rw p.strategies

match-records : (b c : State) → Quiet b c → Sound c → (k n : ℕ) (rs : List Record) → Matches b rs → Matches b (rs ++ (match_once k n c).records)
match-records b c p v k n rs ms = by (may_match c k (best_slot c k 0) (best_slot c k 1)) refl
  where
    i : ℕ
    i = active k n c v

    h : ℕ
    h = holder k n c v

    by : (t : Bool) → may_match c k (best_slot c k 0) (best_slot c k 1) ≡ t → Matches b (rs ++ (match_once k n c).records)
    by false e = rw (match-not k n c v e, append-nil rs) ms
    by true e =
        let w : Active k n c v i h = lower-active k n c v (pick_yes _ e).0 in
        let q : ℕ = size k n c v in
        let some : 0 < q = omega (arith, w.mine, w.its) in
        let si = p.shrinks.entry i in
        let sh = p.shrinks.entry h in
        let r : (match_once k n c).records ≡ match_records b i h (entry_at b i).level q =
        ap (λ (m : Moved). m.records) (match_is k n c v e) ∙ whole-records c i h (entry_at c i).level q some ∙ matched-same b c p i h (entry_at c i).level q ∙ ap (λ (l : ℕ). match_records b i h l q) si.level in
        rw r (and-match ms i h q (omega (arith, w.number, si.number, sh.number)) (sym sh.strategy ∙ w.strategy ∙ si.strategy) (λ z. w.sides (sh.side ∙ z ∙ sym si.side))
        (rw (sh.side, sh.level, si.level) at w.limit) some)

-- in c, which is b after some of the matches
record Matching (b : State) (rs : List Record) (c : State) : Type 0 where
  quiet : Quiet b c
  sound : Sound c
  best : NonePassed AheadNumbered 32 b c
  records : Matches b rs
  orders : c.orders ≡ b.orders

once-orders : (k n : ℕ) (c : State) → (match_once k n c).state.orders ≡ c.orders
unfolding match_once
once-orders k n c = pick_all (λ (m : Moved). m.state.orders ≡ c.orders) _ (whole-orders c _ _ _ _) refl

module _ (b : State) where
  once-matching : (k n : ℕ) (c : State) (rs : List Record) → Matching b rs c → Matching b (rs ++ (match_once k n c).records) (match_once k n c).state
  once-matching k n c rs p =
      let o : Only k c (match_once k n c).state = match_once-only k n c in
      record {
        quiet = quiet-trans p.quiet (record { shrinks = o.shrinks; strategies = o.strategies });
        sound = only-sound o p.sound;
        best = none-trans AheadNumbered numbered-static 32 p.quiet.shrinks o.shrinks p.best (match-best k n c p.sound);
        records = match-records b c p.quiet p.sound k n rs p.records;
        orders = once-orders k n c ∙ p.orders;
      }

  each-matching : (f : ℕ → State → Moved) → ((i : ℕ) (c : State) (rs : List Record) → Matching b rs c → Matching b (rs ++ (f i c).records) (f i c).state) →
      (n : ℕ) (c : State) (rs : List Record) → Matching b rs c → Matching b (rs ++ (each f n c).records) (each f n c).state
  unfolding each and_then
  each-matching f h zero c rs p = rw (append-nil rs) p
  each-matching f h (suc n) c rs p =
      rw (← append_assoc rs (each f n c).records (f n (each f n c).state).records) (h n (each f n c).state (rs ++ (each f n c).records) (each-matching f h n c rs p))

  all-matching : (k : ℕ) (c : State) (rs : List Record) → Matching b rs c → Matching b (rs ++ (match_all k c).records) (match_all k c).state
  unfolding match_all
  all-matching k = each-matching (match_once k) (once-matching k) 32

  in-matching : (s k : ℕ) (c : State) (rs : List Record) → Matching b rs c → Matching b (rs ++ (match_in s k c).records) (match_in s k c).state
  unfolding match_in
  in-matching s k c rs p =
      let P : Moved → Type 0 = λ (m : Moved). Matching b (rs ++ m.records) m.state in
      let same : P (still c) = rw (append-nil rs) p in
      pick_all P _ (pick_all P _ (all-matching k c rs p) same) same

  strategies-matching : (s n : ℕ) → Sound b → Matching b (each (match_in s) n b).records (each (match_in s) n b).state
  strategies-matching s n v =
      each-matching (match_in s) (in-matching s) n b [] (record {
        quiet = quiet-refl b;
        sound = v;
        best = none-refl AheadNumbered numbered-static 32 b;
        records = no-match;
        orders = refl;
      })

-- AFTERWARDS THEY ARE APART
in-quiet : (s k : ℕ) (c : State) → Quiet c (match_in s k c).state
unfolding match_in
in-quiet s k c =
    let P : Moved → Type 0 = λ (m : Moved). Quiet c m.state in
    let o = match_all-only k c in
    pick_all P _ (pick_all P _ (record { shrinks = o.shrinks; strategies = o.strategies }) (quiet-refl c)) (quiet-refl c)

rests-before : {b c : State} (k s i : ℕ) → Shrinks b c → Resting c k s i → Resting b k s i
rests-before k s i h r = let m = h.entry i in record { live = omega (arith, r.live, m.units); strategy = sym m.strategy ∙ r.strategy; side = sym m.side ∙ r.side }

match-done : (s k : ℕ) (b : State) → Sound b → k < 16 → has (strategy_at b k).series s ≡ true → Open b k → MatchBarred b k (each (match_in s) 16 b).state ⊎ ((i j : ℕ) →
    Resting (each (match_in s) 16 b).state k 0 i → Resting (each (match_in s) 16 b).state k 1 j → (entry_at b i).level < (entry_at b j).level)
unfolding match_in
match-done s k b v low h o =
    let c : State = (each (match_in s) k b).state in
    let d : Split b c (match_in s k c).state (each (match_in s) 16 b).state = each-split (match_in s) b (λ n x _. in-quiet s n x) 16 k low in
    let row : strategy_at c k ≡ strategy_at b k = rw d.before.strategies in
    let e : match_in s k c ≡ match_all k c =
    pick_true _ _ _ (rw row h) ∙ pick_true _ _ _ (ap (λ (n : ℕ). eqb n 0) (shut-same k d.before.shrinks) ∙ all-open b k o) in
    let z : Shrinks (match_all k c).state (each (match_in s) 16 b).state = rw e at d.behind.shrinks in
    let w : Shrinks b (match_all k c).state = shrinks-trans d.before.shrinks (match-shrinks k c) in
    ⊎_elim
    (λ x. inl (barred-at k 0 (match_all k c).state (only-sound (match_all-only k c) (strategies-matching b s k v).sound) b (each (match_in s) 16 b).state w z x))
    (λ far. inr (λ i j p q. let l = far i j (rests-before k 0 i z p) (rests-before k 1 j z q) in omega (arith, (w.entry i).level, (w.entry j).level)))
    (match-apart k c (d.before.shrinks.entry_rows ∙ v.entry_rows))

-- OPENED
pub open-sentence : (s : ℕ) (b : State) → Sound b → OpenSentence b s (each (match_in s) 16 b) (leg_passes s (each (match_in s) 16 b).state).state
open-sentence s b v =
    let d : State = (each (match_in s) 16 b).state in
    let p : Matching b (each (match_in s) 16 b).records d = strategies-matching b s 16 v in
    let q : Passing s d (leg_passes s d).state = passing-all s d p.sound.order_rows in
    record {
      best_first = λ i j t w fell. p.best i j (λ z. omega (arith, live-slot b v.entry_rows j (omega arith))) t w fell;
      records = p.records;
      orders = p.orders;
      apart = λ k h o.
          let m = (quiet-trans p.quiet q.quiet).shrinks in
          let r : (x side : ℕ) → 0 < (entry_at (leg_passes s d).state x).units → (entry_at b x).strategy ≡ k → (entry_at b x).side ≡ side → Resting d k side x =
          λ x side l e f. rests-before k side x q.quiet.shrinks (record { live = l; strategy = (m.entry x).strategy ∙ e; side = (m.entry x).side ∙ f }) in
          ⊎_elim (λ (low : k < 16). ⊎_elim inl (λ far. inr (λ i j li lj si sj di dj. far i j (r i 0 li si di) (r j 1 lj sj dj))) (match-done s k b v low h o))
          (λ (low : 16 ≤ k). inr (λ i j li lj si sj di dj. absurd (omega (arith, (v.live i (omega (arith, (m.entry i).units))).strategy, v.defined))))
          (lt-or-le k 16);
      passes = λ i g. passes-had s i d p.sound g;
      no_others = q.only;
      strategies = (quiet-trans p.quiet q.quiet).strategies;
    }

reopen-opened : (s : ℕ) (b : State) → length b.orders ≡ 32 → (reopen s b).state.opened ≡ b.opened + 2 ^ s
unfolding with_opened
reopen-opened s b rows = (reopen-kept shrinks-kept s b rows).opened

-- THE SENTENCE
pub series-sentence : (b : State) (e : Series) → AcceptedEvent b (E.Series e) → SeriesSentence b e.series e.state (accept b (E.Series e))
unfolding accept on_series reopen and_then
series-sentence b e a =
    let s : ℕ = e.series in
    let o : ℕ = b.opened + 2 ^ s in
    let v : Sound b = a.valid.sound in
    let low : s < 32 = a.fit in
    let go : has b.opened s ≡ false → (e.state ≡ 0 → ⊥) → on_series s e.state b ≡ reopen s b = λ h n. pick-false _ _ _ h ∙ pick-false _ _ _ (ne_eqb _ _ n) in
    let w : has b.opened s ≡ false → Sound (with_opened b o) = λ h. sound-opened b o v (add-lt b.opened s low v.opened h) in
    record {
      open_already = λ h n. pick_true _ _ _ h ∙ pick-false _ _ _ (ne_eqb _ _ n);
      shut_already = λ h z. pick-false _ _ _ h ∙ pick_true _ _ _ (eq-eqb _ _ z);
      shuts = λ h z. rw (pick_true (has b.opened s) (pick (eqb e.state 0) (shut s b) (still b)) (pick (eqb e.state 0) (still b) (reopen s b)) h, pick_true (eqb e.state 0) (shut s b) (still b) (eq-eqb _ _ z))
          (shut-sentence s b a.valid h);
      opens = λ h n. rw (go h n) (open-sentence s (with_opened b o) (w h));
      is_open = λ h n t. rw (go h n) (ap (λ (x : ℕ). has x t) (opened h) ∙ has-add b.opened s t h);
    }
  where
    opened : has b.opened e.series ≡ false → (reopen e.series b).state.opened ≡ b.opened + 2 ^ e.series
    opened h = reopen-opened e.series b a.valid.sound.order_rows
