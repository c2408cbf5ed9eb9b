use Rattle.std.proofs.Common.{◌∙◌, sym, ap, arith}
use Rattle.std.specs.Prelude.{Option, unwrap_or, ℕ}
use Rattle.base.specs.Chains.{found-is, found-none}
use Rattle.rules.proofs.BetterNets.{price-most}
use Rattle.nets.specs.Bests.{unless-zero-or}
use Rattle.legging.specs.Left.{side-most}
use Rattle.leg_orders.specs.Left.{room-rows, enters-fits, left-none, left-orders, left-priced, left-some}
use Rattle.leg_orders.proofs.trades_of.Goals as goal

pub returns-in_default : goal.returns-in_default
returns-in_default c = left-none c.requires.enters _ (found-none c.next_trade.ensures c.in_default.not-Some)

pub trade_all-requires : goal.trade_all-requires
trade_all-requires c = room-rows c.requires.room_in

pub refreshed-requires : goal.refreshed-requires
refreshed-requires c =
    let n = found-is (sym c.in-Some.is ∙ c.next_trade.ensures) in
    let old = ap (λ (p : Option ℕ). unwrap_or p 0) c.price_of-old.ensures ∙ unless-zero-or _ in
    (c.requires.enters.legs, left-orders c.requires.enters n.0 (λ z. omega (arith, n.0, n.1)) c.requires.room_in _ c.trade_all.ensures, left-priced c.requires.enters n.0 (λ z. omega (arith, n.0, n.1)) c.requires.room_in _ c.trade_all.ensures, enters-fits c.requires.enters, side-most _ c.other-on.ensures, rw old (price-most _ c.requires.enters.orders _ _))

pub returns : goal.returns
returns c =
    let n = found-is (sym c.in-Some.is ∙ c.next_trade.ensures) in
    left-some c.requires.enters n.0 (λ z. omega (arith, n.0, n.1)) c.requires.room_in _ c.trade_all.ensures c.other-on.ensures (ap (λ (p : Option ℕ). unwrap_or p 0) c.price_of-old.ensures ∙ unless-zero-or _) c.refreshed.ensures
