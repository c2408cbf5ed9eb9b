use borrow.Author.Rules.{rules}
use Rattle.std.proofs.Common.{◌≡◌, ◌∙◌, ◌<◌}
use Rattle.std.specs.Prelude.{sum}
use Rattle.quotas.specs.Laws.{sum-slots}
use Rattle.quotas.specs.Bounds.{sum-fits}
use Rattle.quotas.proofs.total.Goals as goal

pub sum-requires-clause-fits : goal.sum-requires-clause-fits
sum-requires-clause-fits c = let h : sum c.args.xs < 4294967296 = sum-fits c.args.xs (search rules) c.requires in search (rules, h)

pub returns : goal.returns
returns c = let h : c.sum.result ≡ sum c.args.xs = search rules in h ∙ sum-slots c.args.xs (search rules)
