use Rattle.std.proofs.Common.{◌≤◌, ◌<◌, ◌⊎◌, ◌∙◌, MatchBool, length, ap, rules, tests}
use Rattle.base.specs.Chains.{unless_zero}
use Rattle.lines.specs.Cuts.{cut-short, cut-by}
use Rattle.lines.proofs.cut.Goals as goal

pub returns-then-rest-lt2 : goal.returns-then-rest-lt2
returns-then-rest-lt2 c = ap unless_zero (cut-short _ c.if-rest-lt2.true)

pub returns : goal.returns
returns c =
    let n = c.told_length-n.result in
    let m = length c.args.rest.now in
    let h : MatchBool c.contains.result ((4 ≤ n) × (n ≤ m)) ((n < 4) ⊎ (m < n)) = search (rules, tests) in
    c.then_some.ensures ∙ cut-by _ _ c.told_length-n.ensures c.if-rest-lt2.false h
