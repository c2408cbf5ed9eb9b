-- The rules of a leg order by what the code tests, and the ranges that they keep.
use Rattle.std.specs.Prelude.{◌≡◌, refl, List, ℕ, ◌≤◌, ◌<◌, get_or}
use Rattle.std.proofs.Common.{sym, ◌∙◌, eq-eqb, ne_eqb}
use Rattle.std.proofs.Math.Path.{ap}
use Rattle.rules.specs.declared.LegOrder.{LegOrder}
use Rattle.rules.specs.declared.LegNets.{LegNets}
use Rattle.rules.specs.declared.State.{State}
use Rattle.rules.specs.State.{no_order, order_at, with_orders, with_last}
use Rattle.rules.specs.Nets.{price_of, nets_of}
use Rattle.rules.specs.Moves.{still, and_then}
use Rattle.rules.specs.Auctions.{leg_passes}
use Rattle.rules.specs.Events.{live_order, behind, enter_order, free_order_slot, trade_all, if_rests, on_leg_order}
use Rattle.rules.specs.Valid.{FitOrder, Priced}
use Rattle.rules.proofs.Control.{trade_all-kept, shrinks-kept}
use Rattle.rules.proofs.Entering.{fit-no-order}
use Rattle.rules.proofs.Tables.{behind-all, behind-length}
use Rattle.records.specs.Space.{Room}
use Rattle.records.specs.Done.{Done, RoomIn, room_of, room-then}
use Rattle.ranges.specs.Fit.{FitLegs, Fit, fit-done}
use Rattle.rules.proofs.Bests.{priced-none}
use Rattle.rules.proofs.LegPrices.{filled-price}
use Rattle.rules.proofs.BetterNets.{price-most}
use Rattle.matching.specs.Places.{next_at, passes_none_lem}
use Rattle.trades.specs.Trades.{put_orders}
use Rattle.stored_nets.specs.Stored.{FitNets, Refreshed}
use Rattle.leg_orders.specs.Left.{Enters, HasRows, TradesLeft, has-orders, left-nets, same-nets, left-fits}
use Rattle.base.specs.All.{All}
use Rattle.base.specs.Pick.{pick_true, pick-false}
use Rattle.records.specs.declared.Records.{Records}

module _ (s a : ℕ) (b : State) where
  pub rests-not : (order_at b a).contracts ≡ 0 → if_rests s a b ≡ still b
  unfolding if_rests
  rests-not e = pick_true _ _ _ (eq-eqb _ _ e)

  pub rests-yes : ¬ ((order_at b a).contracts ≡ 0) → if_rests s a b ≡ leg_passes s b
  unfolding if_rests
  rests-yes e = pick-false _ _ _ (ne_eqb _ _ e)

  -- something rests, and no pass does anything
  pub rests-idle : ¬ ((order_at b a).contracts ≡ 0) → Fit b → {from : ℕ} → from ≡ next_at b s 0 → from ≡ 512 → if_rests s a b ≡ still b
  rests-idle e f g h = rests-yes e ∙ passes_none_lem s b f g h

pub leg-is : (o : LegOrder) (b : State) {a : ℕ} {c : State} → a ≡ free_order_slot b → c ≡ enter_order o b → on_leg_order o b ≡ and_then (trade_all a c) (if_rests o.series a)
unfolding on_leg_order
leg-is o b p e = rw (p, e)

-- THE RANGES

enter-fit : (o : LegOrder) (b : State) → FitOrder o → Priced o → Fit b → Fit (enter_order o b)
unfolding enter_order with_last with_orders
enter-fit o b h p f = record {
  strategies = f.strategies;
  entries = f.entries;
  orders = behind-all live_order no_order o b.orders fit-no-order h f.orders;
  priced = behind-all live_order no_order o b.orders priced-none p f.priced;
  strategy_rows = f.strategy_rows;
  entry_rows = f.entry_rows;
  order_rows = behind-length live_order no_order o b.orders;
  quotes = f.quotes;
  quote_rows = f.quote_rows;
  range = f.range;
  nets = record { are = refl };
  live = f.live;
}

-- the state with these leg orders and nets, and the leg order's number given last
abbrev pub left_state : LegOrder → List LegOrder → List LegNets → State → State
left_state o left ns b = record { strategies = b.strategies; nets = ns; entries = b.entries; orders = left; defined = b.defined; opened = b.opened; clock = b.clock; timer = b.timer; last = o.number; national = b.national; range = b.range }

-- .. is what the trades leave of the state that the order has entered
pub left-state : (o : LegOrder) (b : State) (left : List LegOrder) {ns : List LegNets} → ns ≡ nets_of left b.strategies → left_state o left ns b ≡ put_orders left (enter_order o b)
unfolding enter_order with_last with_orders
left-state o b left e = rw e

-- it has the rows
pub enter-rows : (o : LegOrder) (b : State) {rows : List LegOrder} → rows ≡ behind live_order no_order o b.orders → FitOrder o → Priced o → Fit b → HasRows rows (enter_order o b)
unfolding enter_order with_last with_orders
enter-rows o b p h q f = record { fit = enter-fit o b h q f; orders = sym p }

pub slot_is : (b : State) {a : ℕ} → a ≡ free_order_slot b → free_order_slot b < 32 → a < 32
slot_is b e h = rw e h

pub fit-trades : (a : ℕ) (b : State) {c : State} {r₀ r₁ : Records} → Fit b → Done r₀ r₁ c (trade_all a b) → Fit c
fit-trades a b f d = fit-done d (trade_all-kept shrinks-kept a b f.order_rows) f

-- AN ORDER THAT HAS ENTERED at slot a, among these rows
module _ (o : LegOrder) (b : State) {a : ℕ} {rows : List LegOrder} (slot : a ≡ free_order_slot b) (free : free_order_slot b < 32) (entered : rows ≡ behind live_order no_order o b.orders)
    (own : FitOrder o) (priced : Priced o) (fit : Fit b) where
  pub enters : Enters b.orders rows a o b.strategies b.nets
  unfolding free_order_slot
  enters = record { legs = fit.strategies; orders = fit.orders; own = own; size = fit.order_rows; slot = slot; room = free; entered = entered; nets = fit.nets.are }

  pub enters-room : {r₀ : Records} → Room r₀ (on_leg_order o b).records → RoomIn (HasRows rows) (trade_all a) r₀
  enters-room r = record { book = enter_order o b; held = enter-rows o b entered own priced fit; room = room-then _ _ (room_of (leg-is o b slot refl) r) }

  module _ (left : List LegOrder) {r₀ r₁ : Records} {ms : List LegNets} (t : TradesLeft b.orders rows a o b.strategies r₀ r₁ left ms) where
    done-here : Done r₀ r₁ (put_orders left (enter_order o b)) (trade_all a (enter_order o b))
    done-here = t.done.done (enter_order o b) (has-orders (enter-rows o b entered own priced fit))

    fit-left : Fit (put_orders left (enter_order o b))
    fit-left = fit-trades a (enter_order o b) (enter-fit o b own priced fit) done-here

    left-orders : All FitOrder left
    left-orders = unfold with_orders in fit-left.orders

    -- the trades in the state that the code has stored
    done-in : {nets : List LegNets} → nets ≡ nets_of left b.strategies → Done r₀ r₁ (left_state o left nets b) (trade_all a (enter_order o b))
    done-in e = rw (left-state o b left e) done-here

    -- NOTHING RESTS: the own side's price is as it was, so the nets by the trades are those of the leg orders left
    own-price : (get_or left a no_order).contracts ≡ 0 → price_of left o.series o.side ≡ price_of b.orders o.series o.side
    unfolding free_order_slot with_orders
    own-price z =
        let is : left ≡ (trade_all a (enter_order o b)).state.orders = ap (λ (c : State). c.orders) done-here.state in
        rw is (filled-price o b.orders a o.series (enter_order o b) free fit.order_rows slot ((enter-rows o b entered own priced fit).orders ∙ entered) (rw is at z))

    pub gone-done : (get_or left a no_order).contracts ≡ 0 → Done r₀ r₁ (left_state o left ms b) (trade_all a (enter_order o b))
    gone-done z = done-in (same-nets b.orders left o b.strategies t.nets (own-price z))

    -- SOMETHING RESTS: the nets are made anew by the own side's price, which was `before`
    module _ {before : ℕ} (p : before ≡ price_of b.orders o.series o.side) where
      -- what they ask for
      pub left-asks : All FitLegs b.strategies × All FitOrder left × All Priced left × All FitNets ms × (o.side ≤ 1) × (before ≤ 99_999)
      unfolding with_orders
      left-asks =
          (fit.strategies, fit-left.orders, fit-left.priced, left-fits b.orders left o b.strategies fit.orders left-orders fit.strategies t.nets, own.side, rw p (price-most b.orders fit.orders _ _))

      pub left-done : {nets : List LegNets} → Refreshed ms b.strategies left o.series o.side before nets → Done r₀ r₁ (left_state o left nets b) (trade_all a (enter_order o b))
      left-done f = done-in (left-nets b.orders left o b.strategies fit.orders left-orders t.nets p f)

      pub left-fit : {nets : List LegNets} → Refreshed ms b.strategies left o.series o.side before nets → Fit (left_state o left nets b)
      left-fit f = fit-trades a (enter_order o b) (enter-fit o b own priced fit) (left-done f)
