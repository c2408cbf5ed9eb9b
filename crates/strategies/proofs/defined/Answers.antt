use Rattle.std.specs.Prelude.{◌≡◌, length}
use Rattle.std.proofs.Common.{rules}
use Rattle.strategies.specs.Order.{set-of-lowest, defined-is}
use Rattle.strategies.proofs.defined.Goals as goal

pub by_series-requires : goal.by_series-requires
by_series-requires c = let n : length c.args.legs ≡ 6 = search rules in set-of-lowest _ _ n c.lowest_terms.ensures c.series_set-series.ensures

pub returns : goal.returns
returns c = defined-is _ _ c.lowest_terms.ensures c.series_set-series.ensures c.by_series.ensures
