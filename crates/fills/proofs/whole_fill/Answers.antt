use Rattle.fills.specs.Fills.{filled, whole-some}
use Rattle.ranges.specs.Fit.{fit-entry, fit-legs}
use Rattle.records.specs.Done.{done-still, done-of, room_of}
use Rattle.rules.specs.State.{with_entries}
use Rattle.rules.specs.Fills.{cut}
use Rattle.rules.proofs.Gives.{whole-none}
use Rattle.fills.proofs.whole_fill.Goals as goal

pub returns-then-q-eq0 : goal.returns-then-q-eq0
returns-then-q-eq0 c = done-of (whole-none _ _ _ _ _ c.if-q-eq0.true) (done-still _ _)

pub bounds-b-e : goal.bounds-b-e
bounds-b-e c = (fit-entry c.requires.a_lt_table_rows.2.entries c.args.a).strategy

pub fill_records-requires : goal.fill_records-requires
unfolding filled
fill_records-requires c = record { count_bound = (fit-legs c.requires.a_lt_table_rows.2.strategies _).count; room = room_of (whole-some _ _ _ _ _ c.if-q-eq0.false) c.requires.room }

pub returns : goal.returns
unfolding filled cut with_entries
returns c = done-of (whole-some _ _ _ _ _ c.if-q-eq0.false) (record { wrote = c.fill_records.ensures; state = rw (c.cut_entry-2.ensures, c.cut_entry.ensures) })
