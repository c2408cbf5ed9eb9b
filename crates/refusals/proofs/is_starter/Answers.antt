-- proofs/is_starter/Answers.antt
use Rattle.std.proofs.Common.{◌≡◌, rules, nat_eq, length, ◌∙◌, ap}
use Rattle.std.proofs.lemmas.Iterator.{YieldsList-from_slice}
use Rattle.std.proofs.lemmas.Iterator.Search.{any_from_yields_List}
use borrow.Author.Tests.{tests}
use Rattle.base.specs.Chains.{any-slots}
use Rattle.base.specs.Walks.{any_n}
use Rattle.rules.specs.State.{no_strategy}
use Rattle.rules.specs.Refusals.{is_starter, started_by}
use Rattle.refusals.proofs.is_starter.Goals as goal

pub returns : goal.returns
unfolding is_starter
returns c =
    let l : length c.args.b.strategies ≡ 16 = search rules in
    any_from_yields_List _ _ _ _ c.any.ensures.ran (YieldsList-from_slice c.args.b.strategies cc) (λ x b q k. search (rules, tests))
    ∙ any-slots no_strategy (λ s. nat_eq s.starter c.args.n) c.args.b.strategies ∙ ap (any_n (started_by c.args.b c.args.n)) l
