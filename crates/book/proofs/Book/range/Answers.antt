-- proofs/Book/range/Answers.antt
use Rattle.std.proofs.Common.{refl}
use Rattle.book.specs.Outcomes.{took-still, rule-valid}
use Rattle.book.specs.Premises.{range_none, range-accepts, range-value}
use Rattle.book.proofs.Book.range.Goals as goal

pub invariant_of-self : goal.invariant_of-self
invariant_of-self c = record { valid = rule-valid _ _ c.args.self.valid c.requires (range_none c.args.self.state c.args.e) (range-accepts _ _ c.set_range.ensures) }

pub returns : goal.returns
returns c = λ s l. rw c.accepted.ensures (took-still _ _ s (c.args.self.valid, c.requires, l) (range_none c.args.self.state c.args.e) (range-accepts _ _ c.set_range.ensures) refl (range-value c.args.self.state c.args.e))
