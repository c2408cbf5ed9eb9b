-- The trades of a leg order that has entered: the leg orders left, and the nets, of which the price of its own side is still as it was.
use Rattle.std.specs.Prelude.{◌≡◌, refl, Bool, true, false, List, ℕ, ◌≤◌, ◌<◌, eqb, length, get_or}
use Rattle.std.proofs.Common.{sym, ◌∙◌, eqb-true}
use Rattle.std.proofs.Math.Path.{ap}
use native.Mathlib.Omega.{arith}
use Rattle.std.proofs.lemmas.Bool.{eqb-false}
use Rattle.base.specs.Pick.{pick-by, pick_yes}
use Rattle.base.specs.All.{All}
use Rattle.base.specs.Walks.{clash}
use Rattle.rules.specs.declared.Strategy.{Strategy}
use Rattle.rules.specs.declared.LegOrder.{LegOrder}
use Rattle.rules.specs.declared.LegNets.{LegNets}
use Rattle.rules.specs.declared.State.{State}
use Rattle.rules.specs.State.{no_order, with_orders}
use Rattle.rules.specs.Moves.{Moved}
use Rattle.rules.specs.Sides.{other}
use Rattle.rules.specs.Nets.{stands, price_of, nets_of}
use Rattle.rules.specs.Events.{live_order, keep, behind, meets_order, best_order, trade_all}
use Rattle.rules.specs.Valid.{FitOrder, Priced}
use Rattle.rules.proofs.Control.{standing, best-order, trade_all-kept, shrinks-kept}
use Rattle.rules.proofs.Tables.{behind-slot}
use Rattle.rules.proofs.Bests.{price-best}
use Rattle.rules.proofs.BetterNets.{price-most}
use Rattle.rules.proofs.LegPrices.{price-same, enter-price, trade-price}
use Rattle.records.specs.Done.{Done, RoomIn, DoneIn, done-of, done-still}
use Rattle.ranges.specs.Fit.{FitLegs, Fit, fit-order, fit-shrinks}
use Rattle.legs.specs.Search.{best-order-most}
use Rattle.tables.specs.Only.{only_orders}
use Rattle.trades.specs.Trades.{next_trade, HasOrders, put_orders, put_same, trades-none}
use Rattle.stored_nets.specs.Stored.{Prices, with_price, all_nets_by, FitNets, Refreshed}
use Rattle.stored_nets.specs.Laws.{with-price-is, with-price-most, with-price-at, with-price-other, all-nets-ext, nets-by, fit-all-by}
use Rattle.records.specs.declared.Records.{Records}

-- order o has entered at slot a behind the leg orders os, whose nets are ns
pub record Enters (os rows : List LegOrder) (a : ℕ) (o : LegOrder) (ss : List Strategy) (ns : List LegNets) : Type 0 where
  pub legs : All FitLegs ss
  pub orders : All FitOrder os
  pub own : FitOrder o
  pub size : length os ≡ 32
  pub slot : a ≡ length (keep live_order os)
  pub room : length (keep live_order os) < 32
  pub entered : rows ≡ behind live_order no_order o os
  pub nets : ns ≡ nets_of os ss

-- a book with these leg orders, in range
pub record HasRows (rows : List LegOrder) (b : State) : Type 0 where
  pub fit : Fit b
  pub orders : b.orders ≡ rows

-- the prices of the leg orders left, but for that of o's own side, which is that among os
abbrev pub but_own : List LegOrder → List LegOrder → LegOrder → Prices
but_own os left o = with_price (price_of left) o.series o.side (price_of os o.series o.side)

-- the trades done: the records, the leg orders left, and the nets
pub record TradesLeft (os rows : List LegOrder) (a : ℕ) (o : LegOrder) (ss : List Strategy) (r₀ r₁ : Records) (left : List LegOrder) (ms : List LegNets) : Type 0 where
  pub done : DoneIn (HasOrders rows) (trade_all a) r₀ r₁ (put_orders left)
  pub nets : ms ≡ all_nets_by (but_own os left o) ss

-- laws

pub has-orders : {rows : List LegOrder} {b : State} → HasRows rows b → HasOrders rows b
has-orders h = record { orders = h.orders; nets = h.fit.nets }

pub room-rows : {rows : List LegOrder} {f : State → Moved} {r₀ : Records} → RoomIn (HasRows rows) f r₀ → RoomIn (HasOrders rows) f r₀
room-rows r = record { book = r.book; held = has-orders r.held; room = r.room }

other-not : (side : ℕ) → ¬ (other side ≡ side)
unfolding other
other-not side = pick-by (λ (x : ℕ). ¬ (x ≡ side)) (eqb side 0) (λ e z. omega (arith, eqb-true side 0 e)) (λ e z. eqb-false side 0 e (sym z))

past-sides : (side f : ℕ) → side ≤ 1 → ¬ (f ≡ side) → ¬ (f ≡ other side) → 1 < f
unfolding other
past-sides side f h u v =
    pick-by (λ (x : ℕ). ¬ (f ≡ x) → 1 < f) (eqb side 0) (λ e w. let z = eqb-true side 0 e in omega arith) (λ e w. let z = eqb-false side 0 e in omega arith) v

-- a side past 1 has no orders
no-side : (os ps : List LegOrder) (x e : ℕ) → All FitOrder os → All FitOrder ps → 1 < e → price_of os x e ≡ price_of ps x e
no-side os ps x e a b h = price-same ps os x e (λ i l. none os a i ∙ sym (none ps b i)) (λ i l t. absurd (clash t (none ps b i)))
  where
    none : (qs : List LegOrder) → All FitOrder qs → (i : ℕ) → stands x e (get_or qs i no_order) ≡ false
    none qs c i = not-standing (stands x e (get_or qs i no_order)) refl
      where
        not-standing : (t : Bool) → stands x e (get_or qs i no_order) ≡ t → stands x e (get_or qs i no_order) ≡ false
        not-standing true t = absurd (omega (arith, (standing x e (get_or qs i no_order) t).on_side, (fit-order c i).side))
        not-standing false t = t

module _ {os rows : List LegOrder} {a : ℕ} {o : LegOrder} {ss : List Strategy} {ns : List LegNets} (g : Enters os rows a o ss ns) where
  -- the prices that the order's entering leaves
  entered-price : (x e : ℕ) → ¬ ((x ≡ o.series) × (e ≡ o.side)) → price_of rows x e ≡ price_of os x e
  entered-price x e n = rw g.entered (enter-price o os x e g.room g.size n)

  pub stored-before : ns ≡ all_nets_by (price_of os) ss
  stored-before = g.nets ∙ nets-by os ss

  pub enters-fits : All FitNets ns
  enters-fits = rw stored-before (fit-all-by (price_of os) (price-most os g.orders) ss g.legs)

  -- no trade
  pub left-none : (r : Records) → 32 ≤ next_trade a (only_orders rows) → TradesLeft os rows a o ss r r rows ns
  left-none r z = record {
    done = record { done = λ b k. none b k };
    nets = stored-before ∙ all-nets-ext ss (λ x d. with-price-is (price_of rows) o.series o.side _ (λ (y : ℕ). price_of os x d ≡ y) x d (λ p q. rw (p, q) refl) (λ u. sym (entered-price x d u)));
  }
    where
      none : (b : State) → HasOrders rows b → Done r r (put_orders rows b) (trade_all a b)
      none b k = rw (put_same rows b k) (done-of (trades-none a b (rw k.orders refl) z) (done-still r b))

  -- the order stands at its slot
  entered_at : get_or rows a no_order ≡ o
  entered_at = rw (g.entered, g.slot) (behind-slot live_order no_order o os g.room)

  module _ {h : ℕ} (e : h ≡ next_trade a (only_orders rows)) (z : ¬ (h ≡ 32)) {r₀ : Records} (r : RoomIn (HasRows rows) (trade_all a) r₀) where
    -- what it meets stands on the other side
    meets_at_lem : (h < 32) × (stands o.series (other o.side) (get_or rows h no_order) ≡ true)
    unfolding next_trade meets_order
    meets_at_lem =
        pick-by (λ (x : ℕ). h ≡ x → (h < 32) × (stands o.series (other o.side) (get_or rows h no_order) ≡ true)) (eqb (get_or rows a no_order).contracts 0)
        (λ _ q. absurd (z q))
        (λ _ q.
        let m : best_order (only_orders rows) (get_or rows a no_order) ≤ 32 = best-order-most (only_orders rows) (get_or rows a no_order) in
        let l : h < 32 = omega arith in
        (l, rw (sym q, entered_at) at (pick_yes _ (best-order (only_orders rows) (get_or rows a no_order) (rw q at l))).0)) e

    priced-rows : All Priced rows
    priced-rows = rw r.held.orders at r.held.fit.priced

    old-there : 0 < price_of os o.series (other o.side)
    old-there =
        let m = meets_at_lem in
        rw (entered-price o.series (other o.side) (λ u. other-not o.side u.1)) at (price-best rows o.series (other o.side) priced-rows h m.0 m.1).0

    module _ (left : List LegOrder) {r₁ : Records} (d : DoneIn (HasOrders rows) (trade_all a) r₀ r₁ (put_orders left)) where
      left_is : left ≡ (trade_all a r.book).state.orders
      unfolding with_orders
      left_is = ap (λ (b : State). b.orders) (d.done r.book (has-orders r.held)).state

      left-fit : Fit (trade_all a r.book).state
      left-fit = fit-shrinks (trade_all-kept shrinks-kept a r.book r.held.fit.order_rows) r.held.fit

      pub left-orders : All FitOrder left
      left-orders = rw left_is left-fit.orders

      pub left-priced : All Priced left
      left-priced = rw left_is left-fit.priced

      -- a series that is not the order's
      other-series : (x f : ℕ) → ¬ (x ≡ o.series) → price_of left x f ≡ price_of os x f
      other-series x f u =
          ap (λ (ps : List LegOrder). price_of ps x f) left_is
          ∙ trade-price a r.book x f (λ y. u (y ∙ ap (λ (p : LegOrder). p.series) (ap (λ (ps : List LegOrder). get_or ps a no_order) r.held.orders ∙ entered_at)))
          ∙ ap (λ (ps : List LegOrder). price_of ps x f) r.held.orders
          ∙ entered-price x f (λ y. u y.0)

      -- a price that is of neither side of the order's series
      kept-price : (x f : ℕ) → ¬ ((x ≡ o.series) × (f ≡ other o.side)) → ¬ ((x ≡ o.series) × (f ≡ o.side)) → price_of os x f ≡ price_of left x f
      kept-price x f u v =
          pick-by (λ (t : Bool). price_of os x f ≡ price_of left x f) (eqb x o.series) {a = true} {b = false}
          (λ q. let p = eqb-true x o.series q in no-side os left x f g.orders left-orders (past-sides o.side f g.own.side (λ y. v (p, y)) (λ y. u (p, y))))
          (λ q. sym (other-series x f (eqb-false x o.series q)))

      pub left-some : {on old : ℕ} {ms : List LegNets} → on ≡ other o.side → old ≡ price_of os o.series on → Refreshed ns ss left o.series on old ms → TradesLeft os rows a o ss r₀ r₁ left ms
      left-some {on} {old} q p f = record {
        done = d;
        nets = rw q at (f.by (price_of os) (price-most os g.orders) stored-before (sym p) (λ y. absurd (let t = rw q at p in omega (arith, old-there))))
            ∙ all-nets-ext ss (λ x e. with-price-is (price_of os) o.series (other o.side) _ (λ (y : ℕ). y ≡ but_own os left o x e) x e
            (λ u v. sym (with-price-other (price_of left) o.series o.side _ (λ w. other-not o.side (sym v ∙ w.1)) ∙ rw (u, v) refl))
            (λ u. with-price-is (price_of left) o.series o.side _ (λ (y : ℕ). price_of os x e ≡ y) x e (λ v w. rw (v, w) refl) (λ v. kept-price x e u v)));
      }

-- THE OWN SIDE: with its price the nets are those of the leg orders left
pub left-nets : (os left : List LegOrder) (o : LegOrder) (ss : List Strategy) {ms nets : List LegNets} {before : ℕ} → All FitOrder os → All FitOrder left → ms ≡ all_nets_by (but_own os left o) ss
    → before ≡ price_of os o.series o.side → Refreshed ms ss left o.series o.side before nets → nets ≡ nets_of left ss
left-nets os left o ss a b m p f =
    let all : (x e : ℕ) → with_price (but_own os left o) o.series o.side (price_of left o.series o.side) x e ≡ price_of left x e =
    λ x e. with-price-is (but_own os left o) o.series o.side _ (λ (y : ℕ). y ≡ price_of left x e) x e (λ u v. rw (u, v) refl) (λ u. with-price-other (price_of left) o.series o.side _ u) in
    f.by (but_own os left o) (with-price-most (price_of left) _ _ _ (price-most left b) (price-most os a _ _)) m (with-price-at (price_of left) _ _ _ ∙ sym p) (λ _. all) ∙ all-nets-ext ss all ∙ sym (nets-by left ss)

-- .. as they are where that price is as it was
pub same-nets : (os left : List LegOrder) (o : LegOrder) (ss : List Strategy) {ms : List LegNets} → ms ≡ all_nets_by (but_own os left o) ss → price_of left o.series o.side ≡ price_of os o.series o.side
    → ms ≡ nets_of left ss
same-nets os left o ss m p =
    m ∙ all-nets-ext ss (λ x e. with-price-is (price_of left) o.series o.side _ (λ (y : ℕ). y ≡ price_of left x e) x e (λ u v. rw (u, v) (sym p)) (λ u. refl)) ∙ sym (nets-by left ss)

pub left-fits : (os left : List LegOrder) (o : LegOrder) (ss : List Strategy) {ms : List LegNets} → All FitOrder os → All FitOrder left → All FitLegs ss → ms ≡ all_nets_by (but_own os left o) ss → All FitNets ms
left-fits os left o ss a b l m = rw m (fit-all-by (but_own os left o) (with-price-most (price_of left) _ _ _ (price-most left b) (price-most os a _ _)) ss l)
