-- proofs/row_of/Answers.antt
use Rattle.std.proofs.Common.{rules}
use Rattle.rules.specs.State.{no_order}
use Rattle.lookups.specs.Lookups.{row-lent}
use Rattle.lookups.proofs.row_of.Goals as goal

pub returns : goal.returns
returns c =
    let h = c.map.ensures.items in
    row-lent c.args.os c.map.result h.long (λ i d l. let k = (h.at i no_order d l).2 in search rules)
