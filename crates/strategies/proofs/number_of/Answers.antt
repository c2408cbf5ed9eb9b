use Rattle.std.specs.Prelude.{get_or}
use Rattle.std.proofs.Math.Path.{sym}
use Rattle.std.proofs.Common.{◌≡◌, refl, ◌∙◌, arith, rules, tests, true, false}
use Rattle.base.specs.Walks.{all_none, all_more, passed_here, passed-all}
use Rattle.rules.specs.State.{no_leg, strategy_at}
use Rattle.rules.specs.Strategies.{number_of}
use Rattle.strategies.specs.Held.{leg_eq, leg-same, held-here, held-not}
use Rattle.strategies.proofs.number_of.Goals as goal

pub loop-i-init : goal.loop-i-init
loop-i-init c = (all_none _, refl)

pub held-preserved : goal.held-preserved
held-preserved c =
    let e : leg_eq (get_or (strategy_at c.args.b c.held.k).legs c.loop-i.i no_leg) (get_or c.args.s.legs c.loop-i.i no_leg) ≡ false = search (rules, tests) in
    rw c.loop-i.invariant.1 (omega (arith, c.if-n-k.false), held-not c.args.b c.args.s c.held.k c.loop-i.i c.loop-i-test.true (sym (leg-same _ _) ∙ e) c.held.invariant.1)

pub loop-i-preserved : goal.loop-i-preserved
loop-i-preserved c =
    let e : leg_eq (get_or (strategy_at c.args.b c.held.k).legs c.loop-i.i no_leg) (get_or c.args.s.legs c.loop-i.i no_leg) ≡ true = search (rules, tests) in
    (all_more _ _ c.loop-i.invariant.0 (sym (leg-same _ _) ∙ e), c.loop-i.invariant.1)

pub returns-then-n-k : goal.returns-then-n-k
unfolding number_of
returns-then-n-k c = let q : c.held.k ≡ c.args.b.defined = omega (arith, c.held.invariant.0, c.if-n-k.true) in q ∙ passed-all _ _ _ c.held.invariant.1 q

pub returns-after-loop-i : goal.returns-after-loop-i
unfolding number_of
returns-after-loop-i c =
    let q : c.loop-i.i ≡ 6 = omega (arith, c.loop-i-test.false) in
    c.loop-i.invariant.1 ∙ passed_here _ _ _ c.held.invariant.1 c.if-n-k.false (held-here c.args.b c.args.s c.held.k (rw q at c.loop-i.invariant.0))
