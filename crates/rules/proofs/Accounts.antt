-- The accounts are kept by whole fills, leg trades, cancels, and the beginnings and ends of auctions.
use mathlib.Core.Path.{◌≡◌, refl, sym, ◌∙◌, ap}
use mathlib.Core.Bool.{Bool, true, false}
use mathlib.Core.Logic.{⊎_elim, ◌≢◌}
use mathlib.Core.List.{List, [], ◌∷◌, ◌++◌}
use Prim.Native.Nat.{ℕ, ◌+◌, ◌-◌, ◌*◌, ◌≤◌, ◌<◌, min}
use native.Mathlib.Omega.{arith}
use borrow.Author.Tests.{eqb-true, le-leb, leb-true}
use lib.Dec.{eqb, leb}
use lib.ListN.{length, get_or, get_or-eq_default}
use Rattle.base.specs.Pick.{pick, pick_all, pick-by, pick_true}
use Rattle.base.specs.Walks.{sum_n, slot, lt-or-le, sum-zero, sum_same, sum-add}
use Rattle.rules.specs.declared.Leg.{Leg}
use Rattle.rules.specs.declared.Strategy.{Strategy}
use Rattle.rules.specs.declared.Entry.{Entry}
use Rattle.rules.specs.declared.LegOrder.{LegOrder}
use Rattle.rules.specs.declared.State.{State}
use Rattle.rules.specs.declared.Record.{Record}
use Rattle.rules.specs.State.{no_entry, no_order, entry_at, order_at, strategy_at, strategy_of, leg_at, with_entries, with_orders, with_strategies}
use Rattle.rules.specs.Moves.{Moved, still}
use Rattle.rules.specs.Sides.{other, leg_side, meets}
use Rattle.rules.specs.Fills.{whole_record, leg_record, leg_record_at, party_records, cut, cut_leg, no_prices, order_record, whole_fill, leg_trade, cancel_record, cancel_leg_record, cancel_entry, cancel_order}
use Rattle.rules.specs.Auctions.{put_auction, begin, close, answer, starter_slot}
use Rattle.rules.specs.Totals.{if_same}
use Rattle.rules.proofs.Shrinks.{shrinks-trans, cut-shrinks, cut_leg-shrinks, auction-shrinks, begin-shrinks, close-shrinks}
use Rattle.rules.proofs.Gives.{Opposed, opposed, cut_at, cut-other, cut_leg-at, cut_leg-other}
use Rattle.rules.proofs.Control.{Proper, proper-apart, Trading, trading-apart, Standing, meets-standing, meets-price, meets-self}
use Rattle.rules.proofs.Tables.{tally, tally-append, tally-join, positive}
use Rattle.rules.proofs.Laws.{Law, of_units, of_contracts, no_entries, no_orders, of_series, of_cash, of_ratio, of_limit, of_party, of_price, own-party, size, come, gone, Good, Steady, Acct, ratio_for, ratio_at, acct-nothing, pick-none, when-no, when-same, pick-plus, pick-sub, pick-times, sum-pick, sum-times, sum-at, leg-side, leg-other, even, even-cash, measure-by, by_kind}

-- CUTS of an entry and of a leg order
-- past the end of a table nothing is live
pub past-entry : (b : State) → length b.entries ≡ 32 → (i : ℕ) → 32 ≤ i → entry_at b i ≡ no_entry
past-entry b n i h = get_or-eq_default b.entries no_entry {n = i} (omega arith)

pub past-order : (b : State) → length b.orders ≡ 32 → (i : ℕ) → 32 ≤ i → order_at b i ≡ no_order
past-order b n i h = get_or-eq_default b.orders no_order {n = i} (omega arith)

-- the quantity of a number in a table whose row i has become x, with q less of its quantity
cut-number : {A : Type 0} (number quantity : A → ℕ) {old new : ℕ → A} {i q : ℕ} {x none : A} → ((j : ℕ) → j ≢ i → new j ≡ old j) → new i ≡ x → number x ≡ number (old i) → quantity x ≡ quantity (old i) - q →
    (32 ≤ i → old i ≡ none) → quantity none ≡ 0 → q ≤ quantity (old i) → (n : ℕ) →
    sum_n (λ (j : ℕ). if_same (number (old j)) n (quantity (old j))) 32 ≡ if_same (number (old i)) n q + sum_n (λ (j : ℕ). if_same (number (new j)) n (quantity (new j))) 32
cut-number {A} number quantity {old} {new} {i} {q} same is named less past empty h n =
    let w : A → ℕ = λ (y : A). if_same (number y) n (quantity y) in
    let f : ℕ → ℕ = λ (j : ℕ). w (new j) in
    let g : ℕ → ℕ = λ (j : ℕ). w (old j) in
    let other : (j : ℕ) → (j ≡ i → ⊥) → f j ≡ g j = λ j z. ap w (same j z) in
    let mine : f i ≡ if_same (number (old i)) n (quantity (old i) - q) = rw (is, named, less) in
    ⊎_elim
    (λ (l : i < 32). omega (arith, sum-at f g 32 i l other, mine, pick-sub (eqb (number (old i)) n) (quantity (old i)) q h))
    (λ (l : 32 ≤ i).
    let z : quantity (old i) ≡ 0 = rw (past l) empty in
    let y : if_same (number (old i)) n q ≡ 0 = rw (let k : q ≡ 0 = omega arith in k) (pick-none (eqb (number (old i)) n)) in
    omega (arith, sum_same f g 32 (λ j m. other j (λ (k : j ≡ i). omega arith))))
    (lt-or-le i 32)

pub cut-units : (b : State) → length b.entries ≡ 32 → (i q n : ℕ) → q ≤ (entry_at b i).units → size (of_units n) b ≡ if_same (entry_at b i).number n q + size (of_units n) (cut b i q)
cut-units b r i q n h = cut-number (λ (e : Entry). e.number) (λ (e : Entry). e.units) (cut-other b i q) (cut_at b i q) refl refl (past-entry b r i) refl h n

pub cut-contracts : (b : State) (i q n : ℕ) → size (of_contracts n) (cut b i q) ≡ size (of_contracts n) b
unfolding cut with_entries
cut-contracts b i q n = refl

pub cut_leg-contracts : (b : State) → length b.orders ≡ 32 → (i q n : ℕ) → q ≤ (order_at b i).contracts → size (of_contracts n) b ≡ if_same (order_at b i).number n q + size (of_contracts n) (cut_leg b i q)
cut_leg-contracts b r i q n h = cut-number (λ (o : LegOrder). o.number) (λ (o : LegOrder). o.contracts) (cut_leg-other b i q) (cut_leg-at b i q) refl refl (past-order b r i) refl h n

pub cut_leg-units : (b : State) (i q n : ℕ) → size (of_units n) (cut_leg b i q) ≡ size (of_units n) b
unfolding cut_leg with_orders
cut_leg-units b i q n = refl

-- A PARTY'S RECORDS: its whole fill's weight, and those of its leg fills
abbrev pub part_at : (Record → ℕ) → Entry → Strategy → ℕ → List ℕ → ℕ → ℕ
part_at w e s q ps i = w (leg_record e q (slot ps i) (leg_at s i))

pub party-tally : (w : Record → ℕ) (e : Entry) (s : Strategy) (q level : ℕ) (ps : List ℕ) → tally w (party_records e s q level ps) ≡ w (whole_record e q level) + sum_n (part_at w e s q ps) s.count
unfolding party_records tally
party-tally w e s q level ps =
    rw (tally-append, tally-join)
    (omega (arith, sum_same (λ (i : ℕ). tally w (leg_record_at e s.legs q ps i)) (part_at w e s q ps) s.count (λ i l. omega arith)))

-- where the leg fills weigh nothing
pub parts_none : (w : Record → ℕ) (e : Entry) (s : Strategy) (q : ℕ) (ps : List ℕ) → ((p : ℕ) (l : Leg) → w (leg_record e q p l) ≡ 0) → sum_n (part_at w e s q ps) s.count ≡ 0
parts_none w e s q ps z = sum-zero (part_at w e s q ps) s.count (λ i l. z (slot ps i) (leg_at s i))

-- the leg fills of a number in a series are the ratio for each unit
pub parts-ratio : (e : Entry) (s : Strategy) (q : ℕ) (ps : List ℕ) (n x r : ℕ) → sum_n (part_at (come (of_ratio n x r)) e s q ps) s.count ≡ if_same e.number n (ratio_for s x * q)
unfolding ratio_for
parts-ratio e s q ps n x r =
    let t : Bool = eqb e.number n in
    sum_same (part_at (come (of_ratio n x r)) e s q ps) (λ (i : ℕ). pick t (ratio_at s x i * q) 0) s.count
    (λ i l. ap (λ (y : ℕ). pick t y 0) (pick-times (eqb (leg_at s i).series x) (leg_at s i).ratio q))
    ∙ sum-pick t (λ (i : ℕ). ratio_at s x i * q) s.count
    ∙ ap (λ (y : ℕ). pick t y 0) (sum-times (ratio_at s x) q s.count)

-- what one party takes of a series the other gives
pub parts-even : (e f : Entry) (s : Strategy) (q : ℕ) (ps : List ℕ) (x : ℕ) → e.side ≤ 1 → f.side ≡ other e.side → ((i : ℕ) → (leg_at s i).side ≤ 1) →
    sum_n (part_at (come (of_series x)) e s q ps) s.count + sum_n (part_at (come (of_series x)) f s q ps) s.count
    ≡ sum_n (part_at (gone (of_series x)) e s q ps) s.count + sum_n (part_at (gone (of_series x)) f s q ps) s.count
parts-even e f s q ps x h o g =
    sym (sum-add (part_at (come (of_series x)) e s q ps) (part_at (come (of_series x)) f s q ps) s.count)
    ∙ sum_same _ _ s.count (λ i l. one (leg_at s i) (g i))
    ∙ sum-add (part_at (gone (of_series x)) e s q ps) (part_at (gone (of_series x)) f s q ps) s.count
  where
    one : (l : Leg) → l.side ≤ 1 →
        if_same l.series x (if_same (leg_side e.side l) 0 (l.ratio * q)) + if_same l.series x (if_same (leg_side f.side l) 0 (l.ratio * q))
        ≡ if_same l.series x (if_same (leg_side e.side l) 1 (l.ratio * q)) + if_same l.series x (if_same (leg_side f.side l) 1 (l.ratio * q))
    one l k =
        let c : ℕ = l.ratio * q in
        let t : Bool = eqb l.series x in
        let y : ℕ = leg_side e.side l in
        rw (o, leg-other e.side l h k)
        (sym (pick-plus t (if_same y 0 c) (if_same (other y) 0 c)) ∙ ap (λ (z : ℕ). pick t z 0) (even y c (leg-side e.side l k)) ∙ pick-plus t (if_same y 1 c) (if_same (other y) 1 c))

-- a fill within its limit is not worse
pub not-worse : (m n side limit level : ℕ) → (m ≡ n → meets side limit level ≡ true) → if_same m n (pick (meets side limit level) 0 1) ≡ 0
not-worse m n side limit level h = when-same m n _ 0 (λ e. pick_true _ _ _ (h e)) ∙ pick-none (eqb m n)

-- WHOLE AGAINST WHOLE
module _ (b : State) (a h level q : ℕ) (st : Steady b) (p : Proper b a h level q) where
  abbrev e : Entry
  e = entry_at b a

  abbrev f : Entry
  f = entry_at b h

  abbrev s : Strategy
  s = strategy_of b e

  abbrev pair : List Record
  pair = party_records e s q level no_prices ++ party_records f s q level no_prices

  abbrev met : Moved
  met = record { state = cut (cut b a q) h q; records = pair }

  opp : Opposed e f
  opp = opposed e f p.opposed

  pair-tally : (w : Record → ℕ) → tally w pair ≡ w (whole_record e q level) + sum_n (part_at w e s q no_prices) s.count + (w (whole_record f q level) + sum_n (part_at w f s q no_prices) s.count)
  pair-tally w = rw tally-append (omega (arith, party-tally w e s q level no_prices, party-tally w f s q level no_prices))

  wholes : (w : Record → ℕ) → ((x : Entry) (y : ℕ) (l : Leg) → w (leg_record x q y l) ≡ 0) → tally w pair ≡ w (whole_record e q level) + w (whole_record f q level)
  wholes w z = omega (arith, pair-tally w, parts_none w e s q no_prices (z e), parts_none w f s q no_prices (z f))

  none : (w : Record → ℕ) → ((x : Entry) → w (whole_record x q level) ≡ 0) → ((x : Entry) (y : ℕ) (l : Leg) → w (leg_record x q y l) ≡ 0) → tally w pair ≡ 0
  none w y z = omega (arith, wholes w z, y e, y f)

  alive : 0 < e.units
  alive = omega (arith, p.some, p.mine)

  its-alive : 0 < f.units
  its-alive = omega (arith, p.some, p.its)

  -- the holder after the first cut
  its : entry_at (cut b a q) h ≡ f
  its = cut-other b a q h (proper-apart p)

  both-units : (n : ℕ) → size (of_units n) b ≡ if_same e.number n q + if_same f.number n q + size (of_units n) met.state
  both-units n =
      let r : length (cut b a q).entries ≡ 32 = (cut-shrinks b a q).entry_rows ∙ st.entry_rows in
      let v = cut-units (cut b a q) r h q n (rw its p.its) in
      omega (arith, cut-units b st.entry_rows a q n p.mine, rw its at v)

  unknown : (n : ℕ) → Good (no_entries n) b → tally (come (no_entries n)) pair ≡ 0
  unknown n g =
      let x : if_same e.number n 1 ≡ 0 = when-no e.number n 1 (g.entry a alive) in
      let y : if_same f.number n 1 ≡ 0 = when-no f.number n 1 (g.entry h its-alive) in
      omega (
        arith,
        pair-tally (come (no_entries n)),
        sum-zero (part_at (come (no_entries n)) e s q no_prices) s.count (λ i l. x),
        sum-zero (part_at (come (no_entries n)) f s q no_prices) s.count (λ i l. y),
      )

  own-ratio : (n x r i : ℕ) → Good (of_ratio n x r) b → 0 < (entry_at b i).units → (entry_at b i).strategy ≡ e.strategy → if_same (entry_at b i).number n (ratio_for s x * q) ≡ if_same (entry_at b i).number n (r * q)
  own-ratio n x r i g l same =
      when-same (entry_at b i).number n _ _ (λ k. ap (λ (y : ℕ). y * q) (ap (λ (j : ℕ). ratio_for (strategy_at b j) x) (sym same) ∙ g.entry i l k))

  own-limit : (n side limit i : ℕ) → Good (of_limit n side limit) b → 0 < (entry_at b i).units → meets (entry_at b i).side (entry_at b i).level level ≡ true →
      if_same (entry_at b i).number n (pick (meets side limit level) 0 1) ≡ 0
  own-limit n side limit i g l m =
      not-worse (entry_at b i).number n side limit level (λ k. rw (← (g.entry i l k).0, ← (g.entry i l k).1) m)

  met-law : (l : Law) → Good l b → size l b + tally (come l) pair ≡ tally (gone l) pair + size l met.state
  met-law (of_units n) g = omega (arith, both-units n, none (come (of_units n)) (λ x. refl) (λ x y l. refl), wholes (gone (of_units n)) (λ x y l. refl))
  met-law (of_contracts n) g =
      omega (arith, cut-contracts b a q n, cut-contracts (cut b a q) h q n, none (come (of_contracts n)) (λ x. refl) (λ x y l. refl), none (gone (of_contracts n)) (λ x. refl) (λ x y l. refl))
  met-law (no_entries n) g = omega (arith, unknown n g, none (gone (no_entries n)) (λ x. refl) (λ x y l. refl))
  met-law (no_orders n) g = omega (arith, none (come (no_orders n)) (λ x. refl) (λ x y l. refl), none (gone (no_orders n)) (λ x. refl) (λ x y l. refl))
  met-law (of_series x) g =
      omega (arith, pair-tally (come (of_series x)), pair-tally (gone (of_series x)), parts-even e f s q no_prices x (st.side a) opp.side (st.leg_side e.strategy))
  met-law of_cash g =
      let flip = even-cash e.side (q * level) (q * 10_000_000) (st.side a) in
      omega (arith, wholes (come of_cash) (λ x y l. refl), wholes (gone of_cash) (λ x y l. refl), rw (← opp.side) at flip)
  met-law (of_ratio n x r) g =
      omega (
        arith,
        pair-tally (come (of_ratio n x r)),
        parts-ratio e s q no_prices n x r,
        parts-ratio f s q no_prices n x r,
        own-ratio n x r a g alive refl,
        own-ratio n x r h g its-alive opp.strategy,
        wholes (gone (of_ratio n x r)) (λ y z l. refl),
      )
  met-law (of_limit n side limit) g =
      omega (
        arith,
        wholes (come (of_limit n side limit)) (λ x y l. refl),
        none (gone (of_limit n side limit)) (λ x. refl) (λ x y l. refl),
        own-limit n side limit a g alive p.limit,
        own-limit n side limit h g its-alive p.its_limit,
      )
  met-law (of_party n k side) g =
      omega (
        arith,
        wholes (come (of_party n k side)) (λ x y l. refl),
        none (gone (of_party n k side)) (λ x. refl) (λ x y l. refl),
        own-party e.number n k side e.strategy e.side (g.entry a alive),
        own-party f.number n k side f.strategy f.side (g.entry h its-alive),
      )
  met-law (of_price n x side price) g = omega (arith, none (come (of_price n x side price)) (λ x. refl) (λ x y l. refl), none (gone (of_price n x side price)) (λ x. refl) (λ x y l. refl))

  pub acct-whole : Acct b (whole_fill b a h level q)
  unfolding whole_fill
  acct-whole =
      pick-by (Acct b) (eqb q 0)
      (λ z. absurd (omega (arith, p.some, eqb-true q 0 z)))
      (λ z. record { shrinks = shrinks-trans (cut-shrinks b a q) (cut-shrinks (cut b a q) h q); law = met-law })

-- LEG AGAINST LEG
meets-up : (side x y : ℕ) → meets side x y ≡ true → meets side (10_000_000 + x) (10_000_000 + y) ≡ true
unfolding meets pick
meets-up side x y = go (eqb side 0)
  where
    go : (c : Bool) → pick c (leb y x) (leb x y) ≡ true → pick c (leb (10_000_000 + y) (10_000_000 + x)) (leb (10_000_000 + x) (10_000_000 + y)) ≡ true
    go true t = le-leb (10_000_000 + y) (10_000_000 + x) (omega (arith, leb-true y x t))
    go false t = le-leb (10_000_000 + x) (10_000_000 + y) (omega (arith, leb-true x y t))

module _ (b : State) (a h : ℕ) (st : Steady b) (t : Trading b a h) where
  abbrev o₁ : LegOrder
  o₁ = order_at b a

  abbrev o₂ : LegOrder
  o₂ = order_at b h

  abbrev c : ℕ
  c = min o₁.contracts o₂.contracts

  standing₂ : Standing o₁.series (other o₁.side) o₂
  standing₂ = meets-standing o₁ o₂ t.meets

  abbrev deal : Moved
  deal = record { state = cut_leg (cut_leg b a c) h c; records = order_record o₁ c o₂.price ∷ (order_record o₂ c o₂.price ∷ []) }

  its₂ : order_at (cut_leg b a c) h ≡ o₂
  its₂ = cut_leg-other b a c h (trading-apart t)

  both-contracts : (n : ℕ) → size (of_contracts n) b ≡ if_same o₁.number n c + if_same o₂.number n c + size (of_contracts n) deal.state
  both-contracts n =
      let r : length (cut_leg b a c).orders ≡ 32 = (cut_leg-shrinks b a c).order_rows ∙ st.order_rows in
      let v = cut_leg-contracts (cut_leg b a c) r h c n (rw its₂ (let z : c ≤ o₂.contracts = omega arith in z)) in
      omega (arith, cut_leg-contracts b st.order_rows a c n (omega arith), rw its₂ at v)

  own-price : (n x side price i : ℕ) → Good (of_price n x side price) b → 0 < (order_at b i).contracts → meets (order_at b i).side (order_at b i).price o₂.price ≡ true →
      if_same (order_at b i).number n (pick (meets side (10_000_000 + price) (10_000_000 + o₂.price)) 0 1) ≡ 0
  own-price n x side price i g l m =
      not-worse (order_at b i).number n side (10_000_000 + price) (10_000_000 + o₂.price)
      (λ k. meets-up side price o₂.price (rw (← (g.order i l k).0, ← (g.order i l k).1) m))

  deal-law : (l : Law) → Good l b → size l b + tally (come l) deal.records ≡ tally (gone l) deal.records + size l deal.state
  unfolding tally
  deal-law (of_units n) g = omega (arith, cut_leg-units b a c n, cut_leg-units (cut_leg b a c) h c n)
  deal-law (of_contracts n) g = omega (arith, both-contracts n)
  deal-law (no_entries n) g = refl
  deal-law (no_orders n) g = omega (arith, when-no o₁.number n 1 (g.order a t.live), when-no o₂.number n 1 (g.order h standing₂.live))
  deal-law (of_series x) g =
      let k : Bool = eqb o₁.series x in
      let y : ℕ = o₁.side in
      let flip = even y c (st.order_side a) in
      let in₂ : if_same o₂.series x (if_same o₂.side 0 c) ≡ pick k (if_same (other y) 0 c) 0 = rw (standing₂.in_series, standing₂.on_side) in
      let out : if_same o₂.series x (if_same o₂.side 1 c) ≡ pick k (if_same (other y) 1 c) 0 = rw (standing₂.in_series, standing₂.on_side) in
      omega (arith, in₂, out, pick-plus k (if_same y 0 c) (if_same (other y) 0 c), pick-plus k (if_same y 1 c) (if_same (other y) 1 c), ap (λ (z : ℕ). pick k z 0) flip)
  deal-law of_cash g =
      let flip = even-cash o₁.side (c * (10_000_000 + o₂.price)) (c * 10_000_000) (st.order_side a) in
      omega (arith, rw (← standing₂.on_side) at flip)
  deal-law (of_ratio n x r) g = refl
  deal-law (of_limit n side limit) g = refl
  deal-law (of_party n k side) g = refl
  deal-law (of_price n x side price) g =
      omega (arith, own-price n x side price a g t.live (meets-price o₁ o₂ t.meets), own-price n x side price h g standing₂.live (meets-self o₂.side o₂.price))

  pub acct-trade : Acct b (leg_trade b a h)
  unfolding leg_trade
  acct-trade = record { shrinks = shrinks-trans (cut_leg-shrinks b a c) (cut_leg-shrinks (cut_leg b a c) h c); law = deal-law }

-- ONE RECORD that is no fill: what it says of quantities, and of numbers that have no record
record Single (b c : State) (r : Record) : Type 0 where
  pub no_fill : (w l f : ℕ) → by_kind r.kind w l f 0 0 ≡ 0
  pub units : (n : ℕ) → size (of_units n) b ≡ gone (of_units n) r + size (of_units n) c
  pub contracts : (n : ℕ) → size (of_contracts n) b ≡ gone (of_contracts n) r + size (of_contracts n) c
  pub entries : (n : ℕ) → Good (no_entries n) b → come (no_entries n) r ≡ 0
  pub orders : (n : ℕ) → Good (no_orders n) b → come (no_orders n) r ≡ 0

single-law : {b c : State} {r : Record} → Single b c r → (l : Law) → Good l b → size l b + tally (come l) (r ∷ []) ≡ tally (gone l) (r ∷ []) + size l c
unfolding tally
single-law s (of_units n) g = omega (arith, s.units n)
single-law s (of_contracts n) g = omega (arith, s.contracts n)
single-law s (no_entries n) g = omega (arith, s.entries n g)
single-law s (no_orders n) g = omega (arith, s.orders n g)
single-law s (of_series x) g = simp s.no_fill
single-law s of_cash g = simp s.no_fill
single-law s (of_ratio n x y) g = simp s.no_fill
single-law s (of_limit n side limit) g = simp s.no_fill
single-law s (of_party n k side) g = simp s.no_fill
single-law s (of_price n x side price) g = simp s.no_fill

-- CANCELS
module _ (b : State) (st : Steady b) (i : ℕ) where
  cancelled : eqb (entry_at b i).units 0 ≡ false → Single b (cut b i (entry_at b i).units) (cancel_record (entry_at b i))
  cancelled z =
      let some : 0 < (entry_at b i).units = positive _ z in
      record {
        no_fill = λ w l f. refl;
        units = λ n. cut-units b st.entry_rows i (entry_at b i).units n (omega arith);
        contracts = λ n. omega (arith, cut-contracts b i (entry_at b i).units n);
        entries = λ n g. when-no (entry_at b i).number n 1 (g.entry i some);
        orders = λ n g. refl;
      }

  pub acct-cancel : Acct b (cancel_entry i b)
  unfolding cancel_entry
  acct-cancel = pick-by (Acct b) (eqb (entry_at b i).units 0) (λ z. acct-nothing b) (λ z. record { shrinks = cut-shrinks b i _; law = single-law (cancelled z) })

  cancelled_order : eqb (order_at b i).contracts 0 ≡ false → Single b (cut_leg b i (order_at b i).contracts) (cancel_leg_record (order_at b i))
  cancelled_order z =
      let some : 0 < (order_at b i).contracts = positive _ z in
      record {
        no_fill = λ w l f. refl;
        units = λ n. omega (arith, cut_leg-units b i (order_at b i).contracts n);
        contracts = λ n. cut_leg-contracts b st.order_rows i (order_at b i).contracts n (omega arith);
        entries = λ n g. refl;
        orders = λ n g. when-no (order_at b i).number n 1 (g.order i some);
      }

  pub acct-cancel_order : Acct b (cancel_order i b)
  unfolding cancel_order
  acct-cancel_order = pick-by (Acct b) (eqb (order_at b i).contracts 0) (λ z. acct-nothing b) (λ z. record { shrinks = cut_leg-shrinks b i _; law = single-law (cancelled_order z) })

-- AUCTIONS: no quantity changes, and their records weigh nothing
pub size_same : (l : Law) (b c : State) → c.entries ≡ b.entries → c.orders ≡ b.orders → size l c ≡ size l b
size_same l b c h k =
    measure-by (λ (x y z : ℕ). x ≡ y) refl l {w = λ (n : ℕ). 0} {e = λ (n : ℕ). 0}
    (λ n. ap (λ (es : List Entry). sum_n (λ (i : ℕ). if_same (get_or es i no_entry).number n (get_or es i no_entry).units) 32) h)
    (λ n. ap (λ (os : List LegOrder). sum_n (λ (i : ℕ). if_same (get_or os i no_order).number n (get_or os i no_order).contracts) 32) k)

auction-size : (l : Law) (b : State) (k n t : ℕ) (a : Bool) → size l (put_auction b k n t a) ≡ size l b
unfolding put_auction with_strategies
auction-size l b k n t a = size_same l b (put_auction b k n t a) refl refl

-- the record of a beginning or an end
auction-single : (b : State) (k n t : ℕ) (a : Bool) (r : Record) → ((w l f c d : ℕ) → by_kind r.kind w l f c d ≡ 0) → Single b (put_auction b k n t a) r
auction-single b k n t a r z = record {
  no_fill = λ w l f. z w l f 0 0;
  units = λ m. omega (arith, auction-size (of_units m) b k n t a, z (if_same r.number m r.quantity) 0 0 (if_same r.number m r.quantity) 0);
  contracts = λ m. omega (arith, auction-size (of_contracts m) b k n t a, z 0 0 (if_same r.number m r.quantity) 0 (if_same r.number m r.quantity));
  entries = λ m g. z _ _ _ _ _;
  orders = λ m g. z _ _ _ _ _;
}

pub acct-begins : (b : State) (i : ℕ) → Acct b (begin i b)
unfolding begin
acct-begins b i = record { shrinks = unfold begin in begin-shrinks b i; law = single-law (auction-single b _ _ _ _ _ (λ w l f c d. refl)) }

pub acct-closes : (b : State) (k : ℕ) → Acct b (close k b)
unfolding close
acct-closes b k = record { shrinks = unfold close in close-shrinks b k; law = single-law (auction-single b _ _ _ _ _ (λ w l f c d. refl)) }

pub acct-answers : (b : State) (k side : ℕ) → Acct b (still (answer k side b))
unfolding answer tally
acct-answers b k side =
    pick_all (λ (c : State). Acct b (still c)) (eqb (entry_at b (starter_slot b k)).side (other side))
    (record { shrinks = auction-shrinks b k _ _ true; law = λ l g. omega (arith, auction-size l b k (strategy_at b k).starter (strategy_at b k).begun true) })
    (acct-nothing b)
