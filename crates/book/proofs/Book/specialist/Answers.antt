-- proofs/Book/specialist/Answers.antt
use Rattle.std.proofs.Common.{refl}
use Rattle.book.specs.Outcomes.{took-still, took-refused, rule-valid}
use Rattle.book.specs.Premises.{specialist-accepts, specialist-value}
use Rattle.book.proofs.Book.specialist.Goals as goal

pub returns-in-Err : goal.returns-in-Err
returns-in-Err c = λ s l. took-refused _ _ s (c.args.self.valid, c.requires, l) (rw c.in-Err.is at c.specialist_refusal.ensures)

pub invariant_of-self : goal.invariant_of-self
invariant_of-self c = record { valid = rule-valid _ _ c.args.self.valid c.requires (rw c.in-Ok.is at c.specialist_refusal.ensures) (specialist-accepts _ _ c.specialist_given.ensures c.set_specialist.ensures) }

pub returns : goal.returns
returns c = λ s l. rw c.accepted.ensures (took-still _ _ s (c.args.self.valid, c.requires, l) (rw c.in-Ok.is at c.specialist_refusal.ensures) (specialist-accepts _ _ c.specialist_given.ensures c.set_specialist.ensures) refl (specialist-value c.args.self.state c.args.e))
