use Rattle.legging.specs.OneLeg.{taking-first, taking-room, taking-some, taking-none, taking-last}
use Rattle.legging.specs.Legging.{contracts-fit}
use Rattle.rules.specs.Sides.{other, leg_side}
use Rattle.rules.specs.Nets.{lot_at}
use lib.ListN.{length}
use mathlib.Core.Path.{◌≡◌}
use borrow.Author.Rules.{rules}
use native.Mathlib.Omega.{arith}
use Rattle.legging.proofs.one_leg.Goals as goal
use Rattle.legging.proofs.one_leg.Goals.{then-k-gt0, else-k-gt0}

pub overflow_mul-left : goal.overflow_mul-left
overflow_mul-left c = omega (arith, contracts-fit _ _ c.requires.ratio_bound.0 c.requires.ratio_bound.1)

pub loop-i-init : goal.loop-i-init
loop-i-init c = taking-first _ _ _ _

pub order_row-requires : goal.order_row-requires
order_row-requires c = let size-is : length c.args.rows.now ≡ 32 = search rules in
    let found-is : c.lot.result ≡ lot_at c.args.os c.args.l.series (other (leg_side c.args.side c.args.l)) c.args.price c.loop-i.i = rw (c.other-on.ensures, c.leg_side.ensures) at c.lot.ensures in
    taking-room _ (size-is) (omega arith) c.loop-i.invariant (found-is) c.min-k.ensures c.requires.room

pub loop-i-preserved : goal.loop-i-preserved
loop-i-preserved c = let size-is : length c.args.rows.now ≡ 32 = search rules in
    let found-is : c.lot.result ≡ lot_at c.args.os c.args.l.series (other (leg_side c.args.side c.args.l)) c.args.price c.loop-i.i = rw (c.other-on.ensures, c.leg_side.ensures) at c.lot.ensures in
    (elim c.if-k-gt0.branch [
      | then-k-gt0 w ↦ rw (w.records-is, w.left-is, w.rows-is) (taking-some _ (size-is) (omega arith) c.loop-i.invariant (found-is) c.min-k.ensures w.order_row.ensures w.cut_order.ensures)
      | else-k-gt0 w ↦ rw (w.records-is, w.left-is, w.rows-is) (taking-none _ (size-is) (omega arith) c.loop-i.invariant (found-is) c.min-k.ensures w.if-k-gt0.false)
    ])

pub returns : goal.returns
returns c = let size-is : length c.args.rows.now ≡ 32 = search rules in
    taking-last _ _ _ _ (size-is) (omega (arith, c.loop-i.invariant.most)) c.loop-i.invariant
