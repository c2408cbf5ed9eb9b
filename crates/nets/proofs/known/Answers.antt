use Rattle.std.proofs.Common.{◌≡◌, ◌∙◌, ltb, take, length, arith, rules, tests}
use Rattle.std.specs.List.{list_all}
use Rattle.std.proofs.lemmas.Iterator.{YieldsList-from_slice}
use Rattle.std.proofs.lemmas.Iterator.Search.{all_from_yields_List}
use Rattle.nets.specs.Nets.{known-taken}
use Rattle.nets.proofs.known.Goals as goal

pub returns : goal.returns
returns c =
    let n : length c.args.ps ≡ 6 = search rules in
    let h : c.all.result ≡ list_all (ltb 0) (take c.args.count c.args.ps) = all_from_yields_List (ltb 0) _ _ c.all.result c.all.ensures.ran (YieldsList-from_slice _ c.iter.ensures.rest) (λ x b q k. search (rules, tests)) in
    h ∙ known-taken _ _ (omega arith)
