use Rattle.base.specs.Pick.{pick_true, pick-false}
use borrow.Author.Tests.{eq-eqb, ne_eqb}
use borrow.Author.Rules.{rules}
use mathlib.Core.Path.{sym, ◌≡◌}
use Rattle.rules.specs.Nets.{nets_in}
use Rattle.std.specs.Option.{option_map_or}
use Rattle.nets.specs.declared.LegBests.{LegBests}
use Rattle.nets.specs.Legs.{net-is}
use Rattle.nets.proofs.leg_nets.Goals as goal

pub returns-then-s-eq0 : goal.returns-then-s-eq0
unfolding nets_in
returns-then-s-eq0 c = sym (pick_true _ _ _ (eq-eqb _ _ c.if-s-eq0.true))

pub returns : goal.returns
unfolding nets_in
returns c =
    let bid : c.map_or.result ≡ option_map_or (λ (b : LegBests). b.net) c.leg_bests.result 0 = search rules in
    let offer : c.map_or-2.result ≡ option_map_or (λ (b : LegBests). b.net) c.leg_bests-2.result 0 = search rules in
    rw (bid, c.leg_bests.ensures, net-is c.args.os 1 c.args.s, offer, c.leg_bests-2.ensures, net-is c.args.os 0 c.args.s) (sym (pick-false _ _ _ (ne_eqb _ _ c.if-s-eq0.false)))
