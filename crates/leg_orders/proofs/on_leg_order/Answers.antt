use Rattle.std.proofs.Common.{◌∙◌, refl, ap, arith}
use Rattle.std.specs.Prelude.{Option, unwrap_or, ℕ}
use Rattle.nets.specs.Bests.{unless-zero-or}
use Rattle.rules.specs.Events.{free_order_slot}
use Rattle.matching.specs.Places.{search-asks}
use Rattle.records.specs.Done.{done-then, done-of, done-still, room_of, room_after}
use Rattle.leg_orders.specs.LegOrders.{leg-is, slot_is, rests-not, rests-yes, enters, enters-room, gone-done, left-asks, left-done, left-fit}
use Rattle.leg_orders.proofs.on_leg_order.Goals as goal

pub trades_of-requires : goal.trades_of-requires
unfolding free_order_slot
trades_of-requires c = record { enters = enters _ c.args.b.now c.insert-a.ensures.1 c.requires.b_bound.0 c.insert-a.ensures.0 c.requires.b_bound.1 c.requires.b_bound.2 c.requires.b_bound.3; room_in = enters-room _ c.args.b.now c.insert-a.ensures.1 c.requires.b_bound.0 c.insert-a.ensures.0 c.requires.b_bound.1 c.requires.b_bound.2 c.requires.b_bound.3 c.requires.room }

pub offset_bounds-b-a : goal.offset_bounds-b-a
unfolding free_order_slot
offset_bounds-b-a c = let q = slot_is c.args.b.now c.insert-a.ensures.1 c.requires.b_bound.0 in omega arith

pub bounds-b-a : goal.bounds-b-a
unfolding free_order_slot
bounds-b-a c = slot_is c.args.b.now c.insert-a.ensures.1 c.requires.b_bound.0

pub returns-then-b-a-eq0 : goal.returns-then-b-a-eq0
unfolding free_order_slot
returns-then-b-a-eq0 c = let is = leg-is c.args.o c.args.b.now c.insert-a.ensures.1 refl in
    done-of is (done-then _ _ (gone-done _ c.args.b.now c.insert-a.ensures.1 c.requires.b_bound.0 c.insert-a.ensures.0 c.requires.b_bound.1 c.requires.b_bound.2 c.requires.b_bound.3 _ c.trades_of.ensures c.if-b-a-eq0.true) (done-of (rests-not _ _ _ c.if-b-a-eq0.true) (done-still _ _)))

pub refreshed-nets-requires : goal.refreshed-nets-requires
unfolding free_order_slot
refreshed-nets-requires c = left-asks _ c.args.b.now c.insert-a.ensures.1 c.requires.b_bound.0 c.insert-a.ensures.0 c.requires.b_bound.1 c.requires.b_bound.2 c.requires.b_bound.3 _ c.trades_of.ensures (ap (λ (p : Option ℕ). unwrap_or p 0) c.price_of-before.ensures ∙ unless-zero-or _)

pub next_pass-first-requires : goal.next_pass-first-requires
unfolding free_order_slot
next_pass-first-requires c = search-asks (left-fit _ c.args.b.now c.insert-a.ensures.1 c.requires.b_bound.0 c.insert-a.ensures.0 c.requires.b_bound.1 c.requires.b_bound.2 c.requires.b_bound.3 _ c.trades_of.ensures (ap (λ (p : Option ℕ). unwrap_or p 0) c.price_of-before.ensures ∙ unless-zero-or _) c.refreshed-nets.ensures)

pub leg_passes-requires : goal.leg_passes-requires
unfolding free_order_slot
leg_passes-requires c = let done = left-done _ c.args.b.now c.insert-a.ensures.1 c.requires.b_bound.0 c.insert-a.ensures.0 c.requires.b_bound.1 c.requires.b_bound.2 c.requires.b_bound.3 _ c.trades_of.ensures (ap (λ (p : Option ℕ). unwrap_or p 0) c.price_of-before.ensures ∙ unless-zero-or _) c.refreshed-nets.ensures in
    let is = leg-is c.args.o c.args.b.now c.insert-a.ensures.1 refl in
    record { fit = (left-fit _ c.args.b.now c.insert-a.ensures.1 c.requires.b_bound.0 c.insert-a.ensures.0 c.requires.b_bound.1 c.requires.b_bound.2 c.requires.b_bound.3 _ c.trades_of.ensures (ap (λ (p : Option ℕ). unwrap_or p 0) c.price_of-before.ensures ∙ unless-zero-or _) c.refreshed-nets.ensures, c.next_pass-first.ensures); room = room_of (rests-yes _ _ _ c.if-b-a-eq0.false) (room_after _ _ (room_of is c.requires.room) done) }

pub returns : goal.returns
unfolding free_order_slot
returns c = let done = left-done _ c.args.b.now c.insert-a.ensures.1 c.requires.b_bound.0 c.insert-a.ensures.0 c.requires.b_bound.1 c.requires.b_bound.2 c.requires.b_bound.3 _ c.trades_of.ensures (ap (λ (p : Option ℕ). unwrap_or p 0) c.price_of-before.ensures ∙ unless-zero-or _) c.refreshed-nets.ensures in
    let is = leg-is c.args.o c.args.b.now c.insert-a.ensures.1 refl in
    done-of is (done-then _ _ done (done-of (rests-yes _ _ _ c.if-b-a-eq0.false) c.leg_passes.ensures))
