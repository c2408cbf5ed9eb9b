-- The best price of a series and side and the contracts at it, in one walk (2026-02): after each slot the running pair is the best price of the
-- slots walked so far and the contracts at it.
use mathlib.Core.Path.{◌≡◌, refl, sym, subst, ◌∙◌, ap}
use mathlib.Core.Bool.{Bool, true, false}
use mathlib.Core.Logic.{⊎_elim}
use mathlib.Core.List.{List, [], ◌∷◌}
use Prim.Native.Nat.{ℕ, zero, suc, ◌+◌, ◌-◌, ◌≤◌, ◌<◌}
use native.Mathlib.Omega.{arith}
use borrow.Author.Tests.{eqb-true, eqb-false, eq-eqb, ne_eqb, lt-ltb}
use lib.Dec.{eqb}
use lib.ListN.{get_or, take, length-take, get_or-eq_default}
use lib.Seq.{get_or-take}
use Rattle.base.specs.Pick.{pick, pick_all, pick-by, pick_true, pick-false, pick_no}
use Rattle.base.specs.All.{All, all-at}
use Rattle.base.specs.Walks.{sum_n, slot, table, walk, walk-rest, walk_same, below, sum-zero, sum_same, sum-rest, table-slot, clash}
use Rattle.rules.specs.declared.LegOrder.{LegOrder}
use Rattle.rules.specs.declared.Best.{Best}
use Rattle.rules.specs.declared.State.{State}
use Rattle.rules.specs.State.{no_order, fresh}
use Rattle.rules.specs.Sides.{better, best_price}
use Rattle.rules.specs.Nets.{stands, price_with, price_step, price_of, lot, lot_at, lots, best_of, no_best, starts_afresh, best_with, best_after}
use Rattle.rules.specs.Valid.{Priced, Sound, Valid}
use Rattle.rules.specs.Sentences.{Any, BetterPrice, first, higher, lower, Walked}
use Rattle.rules.specs.Totals.{Sent, after}
use Rattle.rules.proofs.Tables.{all_of}
use Rattle.rules.proofs.Firsts.{better-turn, better-past, better-alike}
use Rattle.rules.proofs.Validity.{valid-fresh}
use Rattle.rules.proofs.Lists.{after-valid}

-- A PRICE THAT STARTS AFRESH

afresh-yes : (side p q : ℕ) → starts_afresh side p q ≡ true → best_price side p q ≡ q
unfolding best_price starts_afresh
afresh-yes side p q e =
    pick-by (λ (r : ℕ). r ≡ q) (eqb p 0) (λ z. refl) (λ z. pick_true _ _ _ (sym (pick-false _ _ _ z) ∙ e))

afresh-no : (side p q : ℕ) → starts_afresh side p q ≡ false → best_price side p q ≡ p
unfolding best_price starts_afresh
afresh-no side p q e =
    pick-by (λ (r : ℕ). r ≡ p) (eqb p 0) (λ z. absurd (clash (pick_true (eqb p 0) true (better side p q) z) e)) (λ z. pick-false _ _ _ (sym (pick-false _ _ _ z) ∙ e))

afresh-better : (side p q : ℕ) → BetterPrice side p q → starts_afresh side p q ≡ true
unfolding starts_afresh better
afresh-better side p q (first e) = pick_true _ _ _ (eq-eqb p 0 e)
afresh-better side p q (higher e h) = pick_all (λ (t : Bool). t ≡ true) _ refl (pick_true _ _ _ (eq-eqb side 0 e) ∙ lt-ltb p q h)
afresh-better side p q (lower e h) = pick_all (λ (t : Bool). t ≡ true) _ refl (pick-false _ _ _ (ne_eqb side 0 (λ z. omega arith)) ∙ lt-ltb q p h)

-- what is not better than p is not better than one that is better
better-still : (side p q x : ℕ) → better side p q ≡ true → better side p x ≡ false → better side q x ≡ false
better-still side p q x a b = by (better side q x) refl
  where
    by : (t : Bool) → better side q x ≡ t → better side q x ≡ false
    by true e = absurd (clash (better-past side q x p e b) (better-turn side p q a))
    by false e = e

-- p is a price, and x is no better
record Leads (side p x : ℕ) : Type 0 where
  some : 0 < p
  not-better : better side p x ≡ false

best-self : (side p q : ℕ) → 0 < q → Leads side (best_price side p q) q
unfolding best_price
best-self side p q h =
    let P : ℕ → Type 0 = λ (r : ℕ). Leads side r q in
    let new : P q = record { some = h; not-better = better-alike side q } in
    pick-by P _ (λ e. new) (λ e. pick-by P _ (λ g. new) (λ g. record { some = (let n : ¬ (p ≡ 0) = eqb-false p 0 e in omega arith); not-better = g }))

best_keeps : (side p q x : ℕ) → 0 < q → Leads side p x → Leads side (best_price side p q) x
unfolding best_price
best_keeps side p q x h l =
    let P : ℕ → Type 0 = λ (r : ℕ). Leads side r x in
    pick-by P _ (λ e. absurd (omega (arith, eqb-true p 0 e, l.some)))
    (λ e. pick-by P _ (λ g. record { some = h; not-better = better-still side p q x g l.not-better }) (λ g. l))

-- nothing starts a price afresh that leads it
leads_stays : (side p q : ℕ) → Leads side p q → starts_afresh side p q ≡ false
unfolding starts_afresh
leads_stays side p q l = pick-false _ _ _ (ne_eqb p 0 (λ e. omega (arith, l.some))) ∙ l.not-better

stands_live : (s side : ℕ) (o : LegOrder) → stands s side o ≡ true → 0 < o.contracts
unfolding stands
stands_live s side o e = let n : ¬ (o.contracts ≡ 0) = eqb-false _ _ (pick_no _ e).0 in omega arith

pub priced-none : Priced no_order
priced-none = record { price = λ h. absurd (omega arith) }

module _ (s side p : ℕ) (o : LegOrder) where
  with-yes : stands s side o ≡ true → price_with s side p o ≡ best_price side p o.price
  unfolding price_with
  with-yes e = pick_true _ _ _ e

  pub with-no : stands s side o ≡ false → price_with s side p o ≡ p
  unfolding price_with
  with-no e = pick-false _ _ _ e

  lot-here : stands s side o ≡ true → o.price ≡ p → lot s side p o ≡ o.contracts
  unfolding lot
  lot-here e g = pick_true _ _ _ e ∙ pick_true _ _ _ (eq-eqb _ _ g)

  lot-other : ¬ (o.price ≡ p) → lot s side p o ≡ 0
  unfolding lot
  lot-other n = pick_all (λ (x : ℕ). x ≡ 0) _ (pick-false _ _ _ (ne_eqb _ _ n)) refl

  lot-none : stands s side o ≡ false → lot s side p o ≡ 0
  unfolding lot
  lot-none e = pick-false _ _ _ e

-- the empty row stands nowhere
pub stands-none : (s side : ℕ) → stands s side no_order ≡ false
unfolding stands pick
stands-none s side = refl

-- THE FIRST k SLOTS

-- their best price, and the contracts at it
abbrev price_in : List LegOrder → ℕ → ℕ → ℕ → ℕ
price_in os s side k = walk (price_step os s side) 0 k

unfoldable best_in : List LegOrder → ℕ → ℕ → ℕ → Best
best_in os s side k = record { price = price_in os s side k; contracts = sum_n (lot_at os s side (price_in os s side k)) k }

no-slots : (os : List LegOrder) (s side : ℕ) → no_best ≡ best_in os s side 0
unfolding best_in walk sum_n
no-slots os s side = refl

-- they are those of the table that has them alone
module _ (os : List LegOrder) (s side k : ℕ) (most : k ≤ 32) where
  abbrev firsts : List LegOrder
  firsts = take k os

  past : (i : ℕ) → k ≤ i → get_or firsts i no_order ≡ no_order
  past i h = get_or-eq_default firsts no_order (omega (arith, length-take k os))

  first-price : price_of firsts s side ≡ price_in os s side k
  unfolding price_of
  first-price =
      let e : 32 ≡ 32 - k + k = omega arith in
      ap (walk (price_step firsts s side) 0) e
      ∙ walk-rest (price_step firsts s side) 0 k (32 - k) (λ i x h. rw (past i h) (with-no s side x no_order (stands-none s side)))
      ∙ walk_same (price_step firsts s side) (price_step os s side) 0 k (λ i x h. ap (price_with s side x) (get_or-take k os i no_order h))

  first-lots : (p : ℕ) → sum_n (slot (lots firsts s side p)) 32 ≡ sum_n (lot_at os s side p) k
  unfolding lots
  first-lots p =
      let e : 32 ≡ 32 - k + k = omega arith in
      sum_same (slot (lots firsts s side p)) (lot_at firsts s side p) 32 (λ i h. table-slot (lot_at firsts s side p) 0 32 i h)
      ∙ ap (sum_n (lot_at firsts s side p)) e
      ∙ sum-rest (lot_at firsts s side p) k (32 - k) (λ i h. rw (past i h) (lot-none s side p no_order (stands-none s side)))
      ∙ sum_same (lot_at firsts s side p) (lot_at os s side p) k (λ i h. ap (lot s side p) (get_or-take k os i no_order h))

  first-best : best_in os s side k ≡ best_of firsts s side
  unfolding best_in best_of
  first-best = rw (first-price, first-lots)

-- all 32
all-best : (os : List LegOrder) (s side : ℕ) → best_in os s side 32 ≡ best_of os s side
unfolding best_in best_of price_of lots
all-best os s side =
    let p : ℕ = price_in os s side 32 in
    ap (λ (n : ℕ). record { price = p; contracts = n }) (sum_same (lot_at os s side p) (slot (lots os s side p)) 32 (λ i h. sym (table-slot (lot_at os s side p) 0 32 i h)))

-- where none of them stands there
none-price : (os : List LegOrder) (s side k : ℕ) → ((i : ℕ) → i < k → stands s side (get_or os i no_order) ≡ false) → best_after os s side k ≡ no_best
unfolding best_after walk best_with
none-price os s side zero h = refl
none-price os s side (suc k) h = pick-false _ _ _ (h k (omega arith)) ∙ none-price os s side k (λ i l. h i (omega arith))

-- .. there is no price
pub price-none : (os : List LegOrder) (s side : ℕ) → ((i : ℕ) → stands s side (get_or os i no_order) ≡ false) → price_of os s side ≡ 0
unfolding price_of walk
price-none os s side h = walk-rest (price_step os s side) 0 0 32 (λ i x l. with-no s side x (get_or os i no_order) (h i))

-- THE WALK

module _ (os : List LegOrder) (s side : ℕ) (w : All Priced os) where
  abbrev at : ℕ → LegOrder
  at i = get_or os i no_order

  -- no order that stands has a better price than the best
  leads : (k i : ℕ) → i < k → stands s side (at i) ≡ true → Leads side (price_in os s side k) (at i).price
  unfolding walk price_with
  leads zero i h e = absurd (omega arith)
  leads (suc k) i h e =
      let p : ℕ = price_in os s side k in
      pick-by (λ (r : ℕ). Leads side r (at i).price) (stands s side (at k))
      (λ g. let q = (all-at no_order priced-none w k).price (stands_live s side (at k) g) in
      ⊎_elim (λ z. rw z (best-self side p (at k).price q)) (λ l. best_keeps side p (at k).price (at i).price q (leads k i l e)) (below h))
      (λ g. ⊎_elim (λ z. absurd (clash (rw z at e) g)) (λ l. leads k i l e) (below h))

  -- and it is the price of one that stands
  price-from : (k : ℕ) → 0 < price_in os s side k → Any (λ (i : ℕ). (stands s side (at i) ≡ true) × ((at i).price ≡ price_in os s side k)) k
  unfolding walk price_with best_price
  price-from zero = λ h. absurd (omega arith)
  price-from (suc k) =
      let p : ℕ = price_in os s side k in
      let P : ℕ → Type 0 = λ (r : ℕ). 0 < r → Any (λ (i : ℕ). (stands s side (at i) ≡ true) × ((at i).price ≡ r)) (suc k) in
      let old : P p = λ h. let a = price-from k h in record { at = a.at; below = omega (arith, a.below); has = a.has } in
      pick-by P (stands s side (at k))
      (λ e. let new : P (at k).price = λ h. record { at = k; below = omega arith; has = (e, refl) } in
      pick_all P (eqb p 0) new (pick_all P (better side p (at k).price) new old))
      (λ e. old)

  -- so a better one has no contracts yet
  fresh-lot : (k i q : ℕ) → i < k → starts_afresh side (price_in os s side k) q ≡ true → lot_at os s side q i ≡ 0
  unfolding lot
  fresh-lot k i q h n =
      let P : ℕ → Type 0 = λ (x : ℕ). x ≡ 0 in
      pick-by P _
      (λ e. pick-by P _ (λ g. absurd (clash n (leads_stays side _ q (rw (eqb-true (at i).price q g) at (leads k i h e))))) (λ g. refl))
      (λ e. refl)

  -- the pair after one order more, by its price and contracts
  made : (k p n : ℕ) → price_with s side (price_in os s side k) (at k) ≡ p → sum_n (lot_at os s side p) k + lot s side p (at k) ≡ n
      → record { price = p; contracts = n } ≡ best_in os s side (suc k)
  unfolding best_in walk sum_n
  made k p n e f =
      let P : ℕ → Type 0 = λ (r : ℕ). ◌≡◌ {A = Best} (record { price = p; contracts = n }) (record { price = r; contracts = sum_n (lot_at os s side r) k + lot s side r (at k) }) in
      subst P (sym e) (rw f)

  next : (k : ℕ) → best_with s side (best_in os s side k) (at k) ≡ best_in os s side (suc k)
  unfolding best_with best_in
  next k =
      let p : ℕ = price_in os s side k in
      let q : ℕ = (at k).price in
      let sum : ℕ = sum_n (lot_at os s side p) k in
      let P : Best → Type 0 = λ (x : Best). x ≡ best_in os s side (suc k) in
      (pick-by P (stands s side (at k))
      (λ e. pick-by P (starts_afresh side p q)
      (λ g. made k q (at k).contracts (with-yes s side p (at k) e ∙ afresh-yes side p q g)
      (omega (arith, sum-zero (lot_at os s side q) k (λ i h. fresh-lot k i q h g), lot-here s side q (at k) e refl)))
      (λ g. let stay : price_with s side p (at k) ≡ p = with-yes s side p (at k) e ∙ afresh-no side p q g in
      pick-by P (eqb q p)
      (λ z. made k p _ stay (ap (λ (x : ℕ). sum + x) (lot-here s side p (at k) e (eqb-true _ _ z))))
      (λ z. made k p sum stay (omega (arith, lot-other s side p (at k) (eqb-false q p z))))))
      (λ e. made k p sum (with-no s side p (at k) e) (omega (arith, lot-none s side p (at k) e))))

  -- after k slots
  walked-in : (k : ℕ) → best_after os s side k ≡ best_in os s side k
  unfolding best_after walk
  walked-in zero = no-slots os s side
  walked-in (suc k) = ap (λ (b : Best). best_with s side b (at k)) (walked-in k) ∙ next k

  -- "starts afresh at a better price"
  anew : (k : ℕ) → stands s side (at k) ≡ true → BetterPrice side (best_after os s side k).price (at k).price
      → best_after os s side (suc k) ≡ record { price = (at k).price; contracts = (at k).contracts }
  unfolding best_after walk best_with
  anew k e h = pick_true _ _ _ e ∙ pick_true _ _ _ (afresh-better side _ _ h)

  -- THE BEST PRICE: one at which an order stands, and none stands at a better
  pub price-stands : 0 < price_of os s side → Any (λ (i : ℕ). (stands s side (at i) ≡ true) × ((at i).price ≡ price_of os s side)) 32
  unfolding price_of
  price-stands h = price-from 32 h

  pub price-best : (i : ℕ) → i < 32 → stands s side (at i) ≡ true → (0 < price_of os s side) × (better side (price_of os s side) (at i).price ≡ false)
  unfolding price_of
  price-best i h e = let l = leads 32 i h e in (l.some, l.not-better)

  -- THE SENTENCES OF THE REQUEST
  pub best-walked : Walked os s side
  best-walked = record {
    afresh = anew;
    slots = λ k h. walked-in k ∙ first-best os s side k h;
    end = walked-in 32 ∙ all-best os s side;
    empty = none-price os s side 32;
  }

-- .. of the leg orders of every book that frames lead to
pub priced-sound : {b : State} → Sound b → All Priced b.orders
priced-sound {b} s = all_of Priced no_order b.orders (λ i. record { price = λ h. (s.live_order i h).price })

pub book-walked : (b : State) → Valid b → (s side : ℕ) → Walked b.orders s side
book-walked b v s side = best-walked b.orders s side (priced-sound v.sound)

pub list-walked : (timer : ℕ) → 1 ≤ timer → timer ≤ 5000 → (xs : List Sent) (s side : ℕ) → Walked (after (fresh timer) xs).orders s side
list-walked timer h m xs s side = book-walked (after (fresh timer) xs) (after-valid (fresh timer) xs (valid-fresh timer h m)) s side

-- A SAMPLE: bids of series 0 and an offer between them; after each slot the pair, of an equal price, a worse, another series, an offer, a better and
-- an equal one
abbrev bid : ℕ → ℕ → LegOrder
bid price contracts = record { number = 1; member = 7; series = 0; side = 0; contracts = contracts; price = price }

abbrev sample : List LegOrder
sample =
    bid 300 4
    ∷ (bid 300 2
    ∷ (bid 290 9
    ∷ (record { number = 4; member = 7; series = 1; side = 0; contracts = 8; price = 300 }
    ∷ (record { number = 5; member = 7; series = 0; side = 1; contracts = 5; price = 310 } ∷ (bid 301 1 ∷ (bid 301 3 ∷ []))))))

abbrev pair : ℕ → ℕ → Best
pair price contracts = record { price = price; contracts = contracts }

pub sample-bids : table (best_after sample 0 0) 8 ≡ (no_best ∷ (pair 300 4 ∷ (pair 300 6 ∷ (pair 300 6 ∷ (pair 300 6 ∷ (pair 300 6 ∷ (pair 301 1 ∷ (pair 301 4 ∷ []))))))))
unfolding table best_after walk best_with starts_afresh stands better pick
sample-bids = refl

-- .. its offer, and a side without orders
pub sample-sides : (best_after sample 0 1 32 ∷ (best_after sample 1 1 32 ∷ [])) ≡ (pair 310 5 ∷ (no_best ∷ []))
unfolding best_after walk best_with starts_afresh stands better pick
sample-sides = refl
