use Rattle.std.proofs.Common.{rules, ◌≡◌, ◌≤◌, ◌∙◌, sym, refl, length, arith}
use Rattle.tables.specs.Only.{only_orders}
use Rattle.base.specs.Chains.{found-is, found-none}
use Rattle.trades.specs.Trades.{next_trade, next-most, trading-none, trading-slots, trading-room, trading-moves, trading-stops, trading-all}
use Rattle.trades.proofs.trade_all.Goals as goal

pub loop-init : goal.loop-init
loop-init c = let l : length c.args.rows.now ≡ 32 = search rules in trading-none _ _ _ l

pub returns-in_default : goal.returns-in_default
returns-in_default c =
    let past : 32 ≤ next_trade c.args.a (only_orders c.loop.rows) = found-none c.next_trade.ensures c.in_default.not-Some in
    let most = next-most c.args.a (only_orders c.loop.rows) in
    trading-stops c.loop.invariant refl (omega arith)

pub offset_bounds-rows-a : goal.offset_bounds-rows-a
offset_bounds-rows-a c = let n = found-is (sym c.in-Some.is ∙ c.next_trade.ensures) in omega (arith, (trading-slots c.loop.invariant n.0 (λ z. omega (arith, n.0, n.1))).0)

pub bounds-rows-a : goal.bounds-rows-a
bounds-rows-a c = let n = found-is (sym c.in-Some.is ∙ c.next_trade.ensures) in (trading-slots c.loop.invariant n.0 (λ z. omega (arith, n.0, n.1))).0

pub offset_bounds-rows-h : goal.offset_bounds-rows-h
offset_bounds-rows-h c = let n = found-is (sym c.in-Some.is ∙ c.next_trade.ensures) in omega (arith, (trading-slots c.loop.invariant n.0 (λ z. omega (arith, n.0, n.1))).1)

pub bounds-rows-h : goal.bounds-rows-h
bounds-rows-h c = let n = found-is (sym c.in-Some.is ∙ c.next_trade.ensures) in (trading-slots c.loop.invariant n.0 (λ z. omega (arith, n.0, n.1))).1

pub report-requires : goal.report-requires
report-requires c = let n = found-is (sym c.in-Some.is ∙ c.next_trade.ensures) in rw c.min-q.ensures (trading-room c.loop.invariant c.requires c.loop-test.true n.0 (λ z. omega (arith, n.0, n.1)))

pub leg_trade-requires : goal.leg_trade-requires
leg_trade-requires c = let n = found-is (sym c.in-Some.is ∙ c.next_trade.ensures) in (trading-slots c.loop.invariant n.0 (λ z. omega (arith, n.0, n.1)))

pub loop-preserved : goal.loop-preserved
loop-preserved c = let n = found-is (sym c.in-Some.is ∙ c.next_trade.ensures) in trading-moves c.loop.invariant c.loop-test.true n.0 (λ z. omega (arith, n.0, n.1)) c.min-q.ensures c.report.ensures c.leg_trade.ensures

pub returns : goal.returns
returns c = trading-all c.loop.invariant c.loop-test.false
