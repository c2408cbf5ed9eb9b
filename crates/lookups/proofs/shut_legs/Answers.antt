-- proofs/shut_legs/Answers.antt
use Rattle.lookups.specs.Lookups.{shut-undefined, shut-legs}
use Rattle.lookups.proofs.shut_legs.Goals as goal

pub returns-then-b-k : goal.returns-then-b-k
returns-then-b-k c = shut-undefined _ _ c.if-b-k.true

pub returns : goal.returns
returns c = shut-legs _ _ _ c.if-b-k.false c.shut_set-x.ensures
