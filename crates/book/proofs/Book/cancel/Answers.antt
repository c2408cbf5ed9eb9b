-- proofs/Book/cancel/Answers.antt
use Rattle.std.proofs.Common.{◌≡◌, rules, refl}
use Rattle.book.specs.Outcomes.{took-refused, took-valid, took-done, room-event}
use Rattle.book.specs.Premises.{cancel-accepts, cancel-value}
use Rattle.book.proofs.Book.cancel.Goals as goal

pub returns-in-Err : goal.returns-in-Err
returns-in-Err c = took-refused _ _ _ (c.args.self.valid, c.requires.0, c.requires.1) (rw c.in-Err.is at c.cancel_refusal.ensures)

pub cancel_number-requires : goal.cancel_number-requires
cancel_number-requires c = record { sound = c.args.self.valid.sound; room = room-event _ _ c.args.space.now (c.args.self.valid, c.requires.0, c.requires.1) (rw c.in-Ok.is at c.cancel_refusal.ensures) (cancel-accepts c.args.self.state c.args.e) refl refl }

pub invariant_of-self : goal.invariant_of-self
invariant_of-self c = record { valid = took-valid _ _ c.args.space.now (c.args.self.valid, c.requires.0, c.requires.1) (rw c.in-Ok.is at c.cancel_refusal.ensures) (cancel-accepts c.args.self.state c.args.e) c.cancel_number.ensures }

pub returns : goal.returns
returns c =
    let left : c.space-1.given.0 ≡ c.cancel_number.new.records.space.now = search (rules, c.cancel_number.ensures.wrote.lent) in
    rw (c.accepted.ensures, left) (took-done _ _ c.args.space.now (c.args.self.valid, c.requires.0, c.requires.1) (rw c.in-Ok.is at c.cancel_refusal.ensures) (cancel-accepts c.args.self.state c.args.e) c.cancel_number.ensures refl refl (cancel-value c.args.self.state c.args.e))
