use Rattle.std.proofs.Common.{refl, rules}
use Rattle.base.specs.Pick.{tests}
use Rattle.streams.specs.Texts.{settles-by}
use Rattle.streams.proofs.settle.Goals as goal

pub returns : goal.returns
returns g c = settles-by refl (search (tests, rules, c.space_of.ensures, c.settle_bytes-used.ensures))
