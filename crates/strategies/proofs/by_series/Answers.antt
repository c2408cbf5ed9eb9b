use Rattle.std.proofs.Common.{sym, ◌∙◌, arith}
use Rattle.strategies.specs.Order.{order_first, order_put, order_full, order_pass, order_skip, order_all}
use Rattle.terms.specs.Terms.{found-at, found-none}
use Rattle.strategies.proofs.by_series.Goals.{then-has+in-Some+then-used-lt6, then-has+in-Some+else-used-lt6, then-has+in_default, else-has}
use Rattle.strategies.proofs.by_series.Goals as goal

pub loop-s-init : goal.loop-s-init
loop-s-init c = order_first _ _

pub loop-s-preserved : goal.loop-s-preserved
loop-s-preserved c =
    elim c.if-has.branch [
      | then-has+in-Some+then-used-lt6 w ↦
          let f = found-at _ _ w.in-Some.ensures in
          rw (w.rows-is, w.used-is) (order_put _ _ _ c.loop-s.invariant f.0 w.if-used-lt6.true (rw f.1 at w.leg_at.ensures))
      | then-has+in-Some+else-used-lt6 w ↦ rw (w.rows-is, w.used-is) (order_full _ _ _ c.loop-s.invariant (found-at _ _ w.in-Some.ensures).0 w.if-used-lt6.false)
      | then-has+in_default w ↦ rw (w.rows-is, w.used-is) (order_pass _ _ _ c.loop-s.invariant (found-none _ _ w.in_default.ensures))
      | else-has w ↦ rw (w.rows-is, w.used-is) (order_skip _ _ _ c.loop-s.invariant c.requires c.loop-s-test.true (sym c.has.ensures ∙ w.if-has.false))
    ]

pub returns : goal.returns
returns c = order_all _ _ _ (omega arith) c.loop-s.invariant
