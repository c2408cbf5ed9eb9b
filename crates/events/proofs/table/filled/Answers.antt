use Rattle.std.proofs.Common.{ap, ◌++◌}
use Rattle.std.proofs.lemmas.List.{drop-replicate}
use Rattle.events.proofs.table.filled.Goals as goal

pub returns : goal.returns
returns g c = rw c.copy_from_slice.ensures.after (ap (λ xs. c.args.first ++ xs) (drop-replicate g.row.N 19 c.args.other))
