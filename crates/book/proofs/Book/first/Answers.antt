-- proofs/Book/first/Answers.antt
use native.Mathlib.Omega.{arith}
use Rattle.rules.proofs.Validity.{valid-fresh}
use Rattle.book.proofs.Book.first.Goals as goal

pub invariant_of-result : goal.invariant_of-result
invariant_of-result c = record { valid = rw c.fresh.ensures (valid-fresh 5000 (omega arith) (omega arith)) }
