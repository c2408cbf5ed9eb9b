use Rattle.std.proofs.Common.{length, arith, rules, tests, ◌≡◌, eqb}
use Rattle.std.proofs.lemmas.Iterator.{YieldsList-from_slice}
use Rattle.std.proofs.lemmas.Iterator.Consumers.{YieldsList-from_copied}
use Rattle.std.proofs.lemmas.Iterator.Search.{find_from_yields_List}
use Rattle.rules.specs.declared.Leg.{Leg}
use Rattle.stored_nets.specs.Places.{leg-found}
use Rattle.stored_nets.proofs.leg_of.Goals as goal

pub returns : goal.returns
returns c =
    let n : length c.args.t.legs ≡ 6 = search rules in
    leg-found c.args.t c.args.s (omega (arith, c.requires.count))
    (find_from_yields_List (λ (l : Leg). eqb l.series c.args.s) _ _ c.find.result c.find.ensures.ran (YieldsList-from_copied (YieldsList-from_slice _ (rw c.copied.ensures.source c.iter.ensures.rest))) (λ x b q k. search (rules, tests)))
