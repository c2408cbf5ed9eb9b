use Rattle.std.proofs.Common.{◌≡◌, ◌∙◌, refl, rules, tests, arith}
use Rattle.std.specs.List.{list_any, range_with_len}
use Rattle.std.proofs.lemmas.Iterator.{YieldsList-from_range}
use Rattle.std.proofs.lemmas.Iterator.Search.{any_from_yields_List}
use Rattle.rules.specs.Strategies.{twice, repeats, place_of}
use Rattle.terms.specs.Terms.{any-range, found-some}
use Rattle.terms.proofs.twice.Goals as goal

pub returns : goal.returns
unfolding twice place_of
returns c =
    let h : c.any.result ≡ list_any (repeats c.args.legs) (range_with_len 0 c.args.count) =
    any_from_yields_List (repeats c.args.legs) _ _ c.any.result c.any.ensures.ran (YieldsList-from_range 0 c.args.count c.args.count refl (omega arith)) (λ x b q k. search (rules, tests, found-some)) in
    h ∙ any-range _ _
