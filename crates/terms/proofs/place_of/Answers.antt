use Rattle.std.proofs.Common.{◌≡◌, ◌∙◌, refl, rules, tests, arith}
use Rattle.std.proofs.lemmas.Iterator.{YieldsList-from_range}
use Rattle.std.proofs.lemmas.Iterator.Search.{position_from_yields_List}
use Rattle.std.specs.List.{position, range_with_len}
use Rattle.rules.specs.Strategies.{place_of, in_series}
use Rattle.terms.specs.Terms.{position-range}
use Rattle.terms.proofs.place_of.Goals as goal

pub returns : goal.returns
unfolding place_of
returns c =
    let h : c.position.result ≡ position (in_series c.args.legs c.args.s) (range_with_len 0 c.args.count) =
    position_from_yields_List (in_series c.args.legs c.args.s) _ _ c.position.result c.position.ensures.ran (YieldsList-from_range 0 c.args.count c.args.count refl (omega arith)) (λ x b q k. search (rules, tests)) in
    h ∙ position-range _ _
