use Rattle.tape.specs.Tapes.{ended, ended-cut}
use Rattle.tape.proofs.tell_end.Goals as goal

pub returns-then-input : goal.returns-then-input
returns-then-input c = ended _ _ _ c.if-input.true

pub returns : goal.returns
returns c = ended-cut _ _ c.if-input.false c.requires.nothing c.tell_cut.ensures
