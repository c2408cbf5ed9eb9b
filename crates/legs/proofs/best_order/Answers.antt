use native.Mathlib.Omega.{arith}
use Rattle.std.proofs.Common.{◌≡◌, ◌<◌, ◌∙◌, sym, rules}
use Rattle.std.specs.Prelude.{option_map}
use Rattle.base.specs.Pick.{told}
use Rattle.rules.specs.State.{order_at}
use Rattle.rules.specs.Events.{best_order}
use Rattle.tables.specs.Only.{only_orders}
use Rattle.legs.specs.Search.{leading-first, leading-here, leading-past, found-row}
use Rattle.legs.proofs.best_order.Goals as goal
use Rattle.legs.proofs.best_order.Goals.{then-ahead_order, else-ahead_order}

pub loop-i-init : goal.loop-i-init
loop-i-init c = leading-first _ _

pub map-requires : goal.map-requires
map-requires c = λ x e. let l : x < 32 = found-row _ (sym e ∙ c.loop-i.invariant) in (λ _ _ _ _. omega (arith, l), λ _ _ _ _. l)

pub loop-i-preserved : goal.loop-i-preserved
loop-i-preserved c =
    let m : c.map.result ≡ option_map (order_at (only_orders c.args.os)) c.loop-i.best = search rules in
    let a = rw m at c.ahead_order.ensures in
    elim c.if-ahead_order.branch [
      | then-ahead_order w ↦ rw w.best-is (leading-here _ _ _ c.loop-i-test.true c.loop-i.invariant (told a w.if-ahead_order.true))
      | else-ahead_order w ↦ rw w.best-is (leading-past _ _ _ c.loop-i-test.true c.loop-i.invariant (told a w.if-ahead_order.false))
    ]

pub returns : goal.returns
unfolding best_order
returns c = let e : c.loop-i.i ≡ 32 = omega arith in rw e at c.loop-i.invariant
