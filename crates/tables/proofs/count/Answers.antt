use Rattle.std.proofs.Common.{◌≡◌, ◌∙◌, rules}
use Rattle.std.specs.Prelude.{count_by}
use Rattle.tables.specs.Kept.{kept-count}
use Rattle.tables.proofs.count.Goals as goal

pub returns : goal.returns
returns g c = let h : c.count.result ≡ count_by g.T.Row.test c.args.xs = search rules in h ∙ kept-count g.T.Row.test c.args.xs
