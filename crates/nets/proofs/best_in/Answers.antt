use mathlib.Core.Path.{◌∙◌, ap, ◌≡◌}
use Rattle.rules.specs.Nets.{best_of}
use native.Mathlib.Omega.{arith}
use Rattle.ranges.specs.Fit.{fit-order}
use Rattle.nets.specs.Bests.{best-first, best-next, best-last, best-fits, priced-by, if_priced}
use Rattle.nets.proofs.best_in.Goals as goal

pub loop-o-init : goal.loop-o-init
loop-o-init c = best-first _ _ _

pub best_with-b-requires : goal.best_with-b-requires
best_with-b-requires c = ((best-fits c.args.os.now c.args.s c.args.side c.requires.0 c.loop-o.auto.o-index-end c.loop-o.invariant).contracts, (fit-order c.requires.0 _).contracts)

pub loop-o-preserved : goal.loop-o-preserved
loop-o-preserved c = best-next _ _ _ _ c.loop-o.invariant c.best_with-b.ensures

pub returns : goal.returns
returns c =
    let h : c.loop-o.b ≡ best_of c.args.os.now c.args.s c.args.side = best-last _ _ _ c.requires.1 (omega arith) c.loop-o.invariant in
    c.then_some.ensures ∙ priced-by _ ∙ ap if_priced h
