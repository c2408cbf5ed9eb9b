-- proofs/Book/national/Answers.antt
use Rattle.std.proofs.Common.{refl}
use Rattle.book.specs.Outcomes.{took-still, took-refused, rule-valid}
use Rattle.book.specs.Premises.{national-accepts, national-value}
use Rattle.book.proofs.Book.national.Goals as goal

pub returns-in-Err : goal.returns-in-Err
returns-in-Err c = λ s l. took-refused _ _ s (c.args.self.valid, c.requires, l) (rw c.in-Err.is at c.national_refusal.ensures c.args.self.state)

pub invariant_of-self : goal.invariant_of-self
invariant_of-self c = record { valid = rule-valid _ _ c.args.self.valid c.requires (rw c.in-Ok.is at c.national_refusal.ensures c.args.self.state) (national-accepts _ _ c.quote_given.ensures c.set_prices.ensures) }

pub returns : goal.returns
returns c = λ s l. rw c.accepted.ensures (took-still _ _ s (c.args.self.valid, c.requires, l) (rw c.in-Ok.is at c.national_refusal.ensures c.args.self.state) (national-accepts _ _ c.quote_given.ensures c.set_prices.ensures) refl (national-value c.args.self.state c.args.e))
