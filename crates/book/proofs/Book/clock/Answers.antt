-- proofs/Book/clock/Answers.antt
use Rattle.std.proofs.Common.{◌≡◌, rules, refl}
use Rattle.auctions.specs.Ranged.{ranged-sound}
use Rattle.book.specs.Outcomes.{took-refused, took-valid, took-done, room-event}
use Rattle.book.specs.Premises.{clock-accepts, clock-value}
use Rattle.book.proofs.Book.clock.Goals as goal

pub returns-in-Err : goal.returns-in-Err
returns-in-Err c = took-refused _ _ _ (c.args.self.valid, c.requires.0, c.requires.1) (rw c.in-Err.is at c.clock_refusal.ensures)

pub on_clock-requires : goal.on_clock-requires
on_clock-requires c = record { t_bound = (c.requires.0, ranged-sound c.args.self.valid.sound); room = room-event _ _ c.args.space.now (c.args.self.valid, c.requires.0, c.requires.1) (rw c.in-Ok.is at c.clock_refusal.ensures) (clock-accepts c.args.self.state c.args.e) refl refl }

pub invariant_of-self : goal.invariant_of-self
invariant_of-self c = record { valid = took-valid _ _ c.args.space.now (c.args.self.valid, c.requires.0, c.requires.1) (rw c.in-Ok.is at c.clock_refusal.ensures) (clock-accepts c.args.self.state c.args.e) c.on_clock.ensures }

pub returns : goal.returns
returns c =
    let left : c.space-1.given.0 ≡ c.on_clock.new.records.space.now = search (rules, c.on_clock.ensures.wrote.lent) in
    rw (c.accepted.ensures, left) (took-done _ _ c.args.space.now (c.args.self.valid, c.requires.0, c.requires.1) (rw c.in-Ok.is at c.clock_refusal.ensures) (clock-accepts c.args.self.state c.args.e) c.on_clock.ensures refl refl (clock-value c.args.self.state c.args.e))
