-- proofs/Book/day_end/Answers.antt
use Rattle.std.proofs.Common.{◌≡◌, rules, refl}
use Rattle.book.specs.Outcomes.{took-valid, took-done, room-event}
use Rattle.book.specs.Premises.{day-end-none, day-end-accepts, day-end-value}
use Rattle.book.proofs.Book.day_end.Goals as goal

pub on_day_end-requires : goal.on_day_end-requires
on_day_end-requires c = record { valid = c.args.self.valid; room = room-event _ _ c.args.space.now (c.args.self.valid, c.requires.0, c.requires.1) (day-end-none c.args.self.state c.args.e) (day-end-accepts c.args.self.state c.args.e) refl refl }

pub invariant_of-self : goal.invariant_of-self
invariant_of-self c = record { valid = took-valid _ _ c.args.space.now (c.args.self.valid, c.requires.0, c.requires.1) (day-end-none c.args.self.state c.args.e) (day-end-accepts c.args.self.state c.args.e) c.on_day_end.ensures }

pub returns : goal.returns
returns c =
    let left : c.space-1.given.0 ≡ c.on_day_end.new.records.space.now = search (rules, c.on_day_end.ensures.wrote.lent) in
    rw (c.accepted.ensures, left) (took-done _ _ c.args.space.now (c.args.self.valid, c.requires.0, c.requires.1) (day-end-none c.args.self.state c.args.e) (day-end-accepts c.args.self.state c.args.e) c.on_day_end.ensures refl refl (day-end-value c.args.self.state c.args.e))
