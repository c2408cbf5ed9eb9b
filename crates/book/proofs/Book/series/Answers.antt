-- proofs/Book/series/Answers.antt
use Rattle.std.proofs.Common.{◌≡◌, rules, refl}
use Rattle.ranges.specs.Fit.{fit-sound}
use Rattle.book.specs.Outcomes.{took-valid, took-done, room-event}
use Rattle.book.specs.Premises.{series-none, series-accepts, series-value}
use Rattle.book.proofs.Book.series.Goals as goal

pub on_series-requires : goal.on_series-requires
on_series-requires c = record { s_bound = (c.requires.0, fit-sound c.args.self.valid.sound); room = room-event _ _ c.args.space.now (c.args.self.valid, c.requires.0, c.requires.1) (series-none c.args.self.state c.args.e) (series-accepts c.args.self.state c.args.e) refl refl }

pub invariant_of-self : goal.invariant_of-self
invariant_of-self c = record { valid = took-valid _ _ c.args.space.now (c.args.self.valid, c.requires.0, c.requires.1) (series-none c.args.self.state c.args.e) (series-accepts c.args.self.state c.args.e) c.on_series.ensures }

pub returns : goal.returns
returns c =
    let left : c.space-1.given.0 ≡ c.on_series.new.records.space.now = search (rules, c.on_series.ensures.wrote.lent) in
    rw (c.accepted.ensures, left) (took-done _ _ c.args.space.now (c.args.self.valid, c.requires.0, c.requires.1) (series-none c.args.self.state c.args.e) (series-accepts c.args.self.state c.args.e) c.on_series.ensures refl refl (series-value c.args.self.state c.args.e))
