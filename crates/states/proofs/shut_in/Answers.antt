use Rattle.base.specs.SetLaws.{minus-and}
use native.Mathlib.Omega.{arith}
use Rattle.states.proofs.shut_in.Goals as goal

pub returns : goal.returns
returns c = minus-and _ _ (omega arith) (omega arith)
