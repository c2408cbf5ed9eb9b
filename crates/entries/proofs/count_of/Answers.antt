use Rattle.std.proofs.Common.{rules}
use Rattle.entries.specs.Counts.{count-is}
use Rattle.entries.proofs.count_of.Goals as goal

pub returns : goal.returns
returns c = count-is _ _ (search rules) (search rules)
