-- Matches go on while the best meet, and leg trades while one meets: the bound of 32 never cuts them short.
use mathlib.Core.Path.{◌≡◌, refl, sym, ◌∙◌}
use mathlib.Core.Bool.{Bool, true, false, not}
use mathlib.Core.Logic.{◌⊎◌, inl, inr, ⊎_elim}
use Prim.Native.Nat.{ℕ, zero, suc, ◌-◌, ◌≤◌, ◌<◌, min}
use native.Mathlib.Omega.{arith}
use borrow.Author.Tests.{eqb-true, eq-eqb, ne_eqb, ltb-true, ltb-false, lt-ltb, leb-false, not-true, not-false}
use lib.Dec.{eqb, ltb, leb}
use lib.ListN.{length, get_or-eq_default}
use Rattle.base.specs.Pick.{pick, both, pick_true, pick-false, pick-by, pick_all, pick_yes, pick_no}
use Rattle.base.specs.Walks.{sum_n, sum-le, sum_mono, clash, lt-or-le, sum-zero, sum_one}
use Rattle.rules.specs.declared.State.{State}
use Rattle.rules.specs.State.{no_order, entry_at, order_at}
use Rattle.rules.specs.Sides.{other, better}
use Rattle.rules.specs.Moves.{Moved, still, each}
use Rattle.rules.specs.Fills.{cut, cut_leg, whole_fill, leg_trade}
use Rattle.rules.specs.National.{bounds_at, may_meet}
use Rattle.rules.specs.Auctions.{best_slot, crossed, lower_of, may_match, match_once, match_all}
use Rattle.rules.specs.Events.{best_order, trade_once, trade_all}
use Rattle.rules.proofs.Tables.{positive, sum_less}
use Rattle.rules.proofs.Shrinks.{Shrinks, shrinks-refl, cut-shrinks, cut_leg-shrinks, whole-shrinks, trade-shrinks, then-shrinks}
use Rattle.rules.proofs.Turns.{each-ends}
use Rattle.rules.proofs.Firsts.{Resting, Meeting, best-rests, best-meets, best-any, best-order-any}
use Rattle.rules.proofs.Ends.{cut-takes, whole_takes}
use Rattle.rules.proofs.Gives.{cut_leg-at}

-- HOW MANY ARE LIVE: the number that falls
unfoldable pub one : ℕ → ℕ
one u = pick (eqb u 0) 0 1

pub one-most : (u : ℕ) → one u ≤ 1
unfolding one
one-most u = pick_all (λ (n : ℕ). n ≤ 1) _ (omega arith) (omega arith)

pub one-live : (u : ℕ) → 0 < u → one u ≡ 1
unfolding one
one-live u h = pick-false _ _ _ (ne_eqb u 0 (λ e. omega arith))

pub one-gone : (u : ℕ) → u ≡ 0 → one u ≡ 0
unfolding one
one-gone u e = pick_true _ _ _ (eq-eqb u 0 e)

one_less : (u v : ℕ) → u ≤ v → one u ≤ one v
one_less u v h = ⊎_elim (λ (l : 0 < v). omega (arith, one-most u, one-live v l)) (λ (l : v ≤ 0). omega (arith, one-gone u (omega arith))) (lt-or-le 0 v)

-- of 32 rows with these quantities
unfoldable pub lives : (ℕ → ℕ) → ℕ
lives q = sum_n (λ (i : ℕ). one (q i)) 32

lives-most : (q : ℕ → ℕ) → lives q ≤ 32
unfolding lives
lives-most q = omega (arith, sum-le (λ (i : ℕ). one (q i)) 1 (λ i. one-most (q i)) 32)

-- where no quantity rises there are no more of them, and fewer where a live one is finished
lives-fewer : (p q : ℕ → ℕ) → ((j : ℕ) → q j ≤ p j) → (i : ℕ) → i < 32 → 0 < p i → q i ≡ 0 → lives q < lives p
unfolding lives
lives-fewer p q less i h l e = sum_less _ _ 32 i h (λ j. one_less (q j) (p j) (less j)) (omega (arith, one-live (p i) l, one-gone (q i) e))

lives-no-more : (p q : ℕ → ℕ) → ((j : ℕ) → q j ≤ p j) → lives q ≤ lives p
unfolding lives
lives-no-more p q less = sum_mono _ _ 32 (λ j l. one_less (q j) (p j) (less j))

-- none where nothing is live
pub lives-none : (q : ℕ → ℕ) → ((i : ℕ) → i < 32 → q i ≡ 0) → lives q ≡ 0
unfolding lives
lives-none q h = sum-zero (λ (i : ℕ). one (q i)) 32 (λ i l. one-gone (q i) (h i l))

pub none-lives : (q : ℕ → ℕ) → lives q ≡ 0 → (i : ℕ) → i < 32 → q i ≡ 0
unfolding lives
none-lives q e i h =
    ⊎_elim (λ (l : 0 < q i). absurd (omega (arith, sum_one (λ (j : ℕ). one (q j)) 32 i h, one-live (q i) l))) (λ (l : q i ≤ 0). omega arith) (lt-or-le 0 (q i))

unfoldable pub entries : State → ℕ
entries b = lives (λ (i : ℕ). (entry_at b i).units)

unfoldable pub orders : State → ℕ
orders b = lives (λ (i : ℕ). (order_at b i).contracts)

pub entries-most : (b : State) → entries b ≤ 32
unfolding entries
entries-most b = lives-most _

pub orders-most : (b : State) → orders b ≤ 32
unfolding orders
orders-most b = lives-most _

pub entries-fewer : {b c : State} → Shrinks b c → (i : ℕ) → i < 32 → 0 < (entry_at b i).units → (entry_at c i).units ≡ 0 → entries c < entries b
unfolding entries
entries-fewer s = lives-fewer _ _ (λ j. (s.entry j).units)

pub orders-fewer : {b c : State} → Shrinks b c → (i : ℕ) → i < 32 → 0 < (order_at b i).contracts → (order_at c i).contracts ≡ 0 → orders c < orders b
unfolding orders
orders-fewer s = lives-fewer _ _ (λ j. (s.order j).contracts)

pub entries-no-more : {b c : State} → Shrinks b c → entries c ≤ entries b
unfolding entries
entries-no-more s = lives-no-more _ _ (λ j. (s.entry j).units)

pub orders-no-more : {b c : State} → Shrinks b c → orders c ≤ orders b
unfolding orders
orders-no-more s = lives-no-more _ _ (λ j. (s.order j).contracts)

-- moves that shrink, one after the other
pub each-shrinks : (f : ℕ → State → Moved) → ((i : ℕ) (c : State) → Shrinks c (f i c).state) → (k : ℕ) (b : State) → Shrinks b (each f k b).state
unfolding each
each-shrinks f h zero b = shrinks-refl b
each-shrinks f h (suc k) b = then-shrinks b (each f k b) (f k) (each-shrinks f h k b) (h k _)

-- A MATCH finishes one of the two
whole_from : (b : State) (a h level q : ℕ) → (entry_at (whole_fill b a h level q).state h).units ≤ (entry_at b h).units - q
unfolding whole_fill
whole_from b a h level q =
    pick-by (λ (m : Moved). (entry_at m.state h).units ≤ (entry_at b h).units - q) (eqb q 0)
    (λ e. omega (arith, eqb-true q 0 e))
    (λ _. omega (arith, cut-takes (cut b a q) h q, ((cut-shrinks b a q).entry h).units))

whole-finishes : (b : State) (a h level : ℕ) → 0 < (entry_at b a).units → 0 < (entry_at b h).units → a < 32 → h < 32
    → entries (whole_fill b a h level (min (entry_at b a).units (entry_at b h).units)).state < entries b
whole-finishes b a h level la lh sa sh =
    let q : ℕ = min (entry_at b a).units (entry_at b h).units in
    ⊎_elim
    (λ (l : (entry_at b a).units < (entry_at b h).units). entries-fewer (whole-shrinks b a h level q) a sa la (omega (arith, whole_takes b a h level q)))
    (λ (l : (entry_at b h).units ≤ (entry_at b a).units). entries-fewer (whole-shrinks b a h level q) h sh lh (omega (arith, whole_from b a h level q)))
    (lt-or-le (entry_at b a).units (entry_at b h).units)

-- the two that cross are live
abbrev meet : ℕ → State → Bool
meet k b = may_match b k (best_slot b k 0) (best_slot b k 1)

pub record Crossing (b : State) (k : ℕ) : Type 0 where
  pub buy : Resting b k 0 (best_slot b k 0)
  pub buy_slot : best_slot b k 0 < 32
  pub sell : Resting b k 1 (best_slot b k 1)
  pub sell_slot : best_slot b k 1 < 32

crossing : (k : ℕ) (b : State) → meet k b ≡ true → Crossing b k
unfolding crossed
crossing k b e =
    let x = pick_yes (ltb (best_slot b k 0) 32) (pick_yes _ e).0 in
    let y = pick_yes (ltb (best_slot b k 1) 32) x.1 in
    let l : best_slot b k 0 < 32 = ltb-true _ _ x.0 in
    let m : best_slot b k 1 < 32 = ltb-true _ _ y.0 in
    record { buy = best-rests b k 0 l; buy_slot = l; sell = best-rests b k 1 m; sell_slot = m }

match-stops : (k i : ℕ) (b : State) → meet k b ≡ false → match_once k i b ≡ still b
unfolding match_once
match-stops k i b e = pick-false _ _ _ e

match-falls : (k i : ℕ) (b : State) → meet k b ≡ true → entries (match_once k i b).state < entries b
unfolding match_once
match-falls k i b e =
    let c : Crossing b k = crossing k b e in
    let Live : ℕ → Type 0 = λ (n : ℕ). 0 < (entry_at b n).units in
    let Slot : ℕ → Type 0 = λ (n : ℕ). n < 32 in
    pick-by (λ (m : Moved). entries m.state < entries b) _
    (λ _. whole-finishes b _ _ _
    (pick_all Live _ c.buy.live c.sell.live) (pick_all Live _ c.sell.live c.buy.live)
    (pick_all Slot _ c.buy_slot c.sell_slot) (pick_all Slot _ c.sell_slot c.buy_slot))
    (λ f. absurd (clash e f))

-- ".. while they meet" and may fill: after the matches of a strategy its best buy and best sell do not
pub match-ends : (k : ℕ) (b : State) → may_match (match_all k b).state k (best_slot (match_all k b).state k 0) (best_slot (match_all k b).state k 1) ≡ false
unfolding match_all
match-ends k b =
    not-true _ (each-ends (match_once k) (λ (c : State). not (meet k c)) entries
    (λ i c e. match-stops k i c (not-true _ e)) (λ i c e. match-falls k i c (not-false _ e)) 32 b (entries-most b))

once-shrinks : (k i : ℕ) (b : State) → Shrinks b (match_once k i b).state
unfolding match_once
once-shrinks k i b = pick_all (λ (m : Moved). Shrinks b m.state) _ (whole-shrinks b _ _ _ _) (shrinks-refl b)

pub match-shrinks : (k : ℕ) (b : State) → Shrinks b (match_all k b).state
unfolding match_all
match-shrinks k b = each-shrinks (match_once k) (once-shrinks k) 32 b

-- the match of strategy k stopped at a fill that a party may not take: the best buy and the best sell meet
pub record Stopped (b : State) (k : ℕ) : Type 0 where
  pub crossed : crossed b (best_slot b k 0) (best_slot b k 1) ≡ true
  pub barred : may_meet (bounds_at b k) (entry_at b (lower_of b (best_slot b k 0) (best_slot b k 1))).level ≡ false

-- else every buy left in the strategy is below every sell
module _ (k : ℕ) (b : State) (n : length b.entries ≡ 32) where
  apart : crossed (match_all k b).state (best_slot (match_all k b).state k 0) (best_slot (match_all k b).state k 1) ≡ false
      → (i j : ℕ) → Resting (match_all k b).state k 0 i → Resting (match_all k b).state k 1 j → (entry_at (match_all k b).state i).level < (entry_at (match_all k b).state j).level
  unfolding crossed better other pick
  apart e i j p q =
      let c : State = (match_all k b).state in
      let m : length c.entries ≡ 32 = (match-shrinks k b).entry_rows ∙ n in
      let x = best-any c m k 0 i p in
      let y = best-any c m k 1 j q in
      let z : leb (entry_at c (best_slot c k 1)).level (entry_at c (best_slot c k 0)).level ≡ false =
      sym (pick_true _ _ _ (lt-ltb _ _ x.0) ∙ pick_true _ _ _ (lt-ltb _ _ y.0)) ∙ e in
      let u : (entry_at c i).level ≤ (entry_at c (best_slot c k 0)).level = ltb-false _ _ x.1 in
      let v : (entry_at c (best_slot c k 1)).level ≤ (entry_at c j).level = ltb-false _ _ y.1 in
      let w : (entry_at c (best_slot c k 0)).level < (entry_at c (best_slot c k 1)).level = leb-false _ _ z in
      omega arith

  pub match-apart : Stopped (match_all k b).state k
      ⊎ ((i j : ℕ) → Resting (match_all k b).state k 0 i → Resting (match_all k b).state k 1 j → (entry_at (match_all k b).state i).level < (entry_at (match_all k b).state j).level)
  match-apart = ⊎_elim (λ e. inl (record { crossed = e; barred = second _ e (match-ends k b) })) (λ e. inr (apart e)) (either_way _)
    where
      either_way : (t : Bool) → (t ≡ true) ⊎ (t ≡ false)
      either_way true = inl refl
      either_way false = inr refl

      second : (t : Bool) {u : Bool} → t ≡ true → both t u ≡ false → u ≡ false
      second t {u} e f = sym (pick_true t u false e) ∙ f

-- A LEG TRADE finishes one of the two
pub cut_leg-takes : (b : State) (i q : ℕ) → (order_at (cut_leg b i q) i).contracts ≤ (order_at b i).contracts - q
cut_leg-takes b i q = rw (cut_leg-at b i q) (omega arith)

trade-finishes : (b : State) (a h : ℕ) → 0 < (order_at b a).contracts → 0 < (order_at b h).contracts → a < 32 → h < 32 → orders (leg_trade b a h).state < orders b
unfolding leg_trade
trade-finishes b a h la lh sa sh =
    let q : ℕ = min (order_at b a).contracts (order_at b h).contracts in
    ⊎_elim
    (λ (l : (order_at b a).contracts < (order_at b h).contracts).
    orders-fewer (trade-shrinks b a h) a sa la (omega (arith, cut_leg-takes b a q, ((cut_leg-shrinks (cut_leg b a q) h q).order a).contracts)))
    (λ (l : (order_at b h).contracts ≤ (order_at b a).contracts).
    orders-fewer (trade-shrinks b a h) h sh lh (omega (arith, ((cut_leg-shrinks b a q).order h).contracts, cut_leg-takes (cut_leg b a q) h q)))
    (lt-or-le (order_at b a).contracts (order_at b h).contracts)

-- one meets the leg order at slot a that has contracts left
trading : ℕ → State → Bool
trading a b = pick (eqb (order_at b a).contracts 0) false (ltb (best_order b (order_at b a)) 32)

quiet : {A : Type 0} (t u : Bool) (x y : A) → pick t false u ≡ false → pick t x (pick u y x) ≡ x
unfolding pick
quiet true u x y e = refl
quiet false u x y e = rw e

trade-stops : (a i : ℕ) (b : State) → trading a b ≡ false → trade_once a i b ≡ still b
unfolding trade_once trading
trade-stops a i b e = quiet (eqb (order_at b a).contracts 0) _ _ _ e

trade-falls : (a i : ℕ) (b : State) → a < 32 → trading a b ≡ true → orders (trade_once a i b).state < orders b
unfolding trade_once trading
trade-falls a i b s e =
    let u = pick_no (eqb (order_at b a).contracts 0) e in
    let h : best_order b (order_at b a) < 32 = ltb-true _ _ u.1 in
    let n : 0 < (order_at b a).contracts = positive _ u.0 in
    rw (pick-false _ (still b) (pick (ltb (best_order b (order_at b a)) 32) (leg_trade b a (best_order b (order_at b a))) (still b)) u.0, pick_true _ (leg_trade b a (best_order b (order_at b a))) (still b) u.1)
    (trade-finishes b a (best_order b (order_at b a)) n (best-meets b (order_at b a) h).live s h)

trade_once-shrinks : (a i : ℕ) (b : State) → Shrinks b (trade_once a i b).state
unfolding trade_once
trade_once-shrinks a i b =
    let P : Moved → Type 0 = λ (m : Moved). Shrinks b m.state in
    pick_all P _ (shrinks-refl b) (pick_all P _ (trade-shrinks b a _) (shrinks-refl b))

-- no contracts of it are left, or no opposite leg order meets it
abbrev pub Traded : ℕ → State → Type 0
Traded a c = ((order_at c a).contracts ≡ 0) ⊎ (ltb (best_order c (order_at c a)) 32 ≡ false)

traded : (a : ℕ) (c : State) → trading a c ≡ false → Traded a c
unfolding trading pick
traded a c = by (eqb (order_at c a).contracts 0) refl
  where
    by : (t : Bool) → eqb (order_at c a).contracts 0 ≡ t → pick t false (ltb (best_order c (order_at c a)) 32) ≡ false → Traded a c
    by true u e = inl (eqb-true _ _ u)
    by false u e = inr e

pub trade-ends : (a : ℕ) (b : State) → length b.orders ≡ 32 → Traded a (trade_all a b).state
unfolding trade_all
trade-ends a b n = ⊎_elim
    (λ (l : a < 32). traded a _ (not-true _ (each-ends (trade_once a) (λ (c : State). not (trading a c)) orders
    (λ i c e. trade-stops a i c (not-true _ e)) (λ i c e. trade-falls a i c l (not-false _ e)) 32 b (orders-most b))))
    (λ (l : 32 ≤ a). inl (let e : (order_at b a).contracts ≡ 0 = rw (get_or-eq_default b.orders no_order {n = a} (omega arith)) in
    omega (arith, ((each-shrinks (trade_once a) (trade_once-shrinks a) 32 b).order a).contracts)))
    (lt-or-le a 32)

trades-shrink : (a : ℕ) (b : State) → Shrinks b (trade_all a b).state
unfolding trade_all
trades-shrink a b = each-shrinks (trade_once a) (trade_once-shrinks a) 32 b

-- so that none is left that it meets
pub trade-all : (a : ℕ) (b : State) → length b.orders ≡ 32
    → ((order_at (trade_all a b).state a).contracts ≡ 0) ⊎ ((i : ℕ) → Meeting (trade_all a b).state (order_at (trade_all a b).state a) i → ⊥)
trade-all a b n =
    ⊎_elim inl (λ f. inr (λ i r. clash (lt-ltb _ _ (best-order-any _ ((trades-shrink a b).order_rows ∙ n) _ i r)) f)) (trade-ends a b n)
