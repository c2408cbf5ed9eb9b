use Rattle.std.proofs.Common.{◌∙◌}
use Rattle.std.proofs.Math.Nat.{min_comm}
use Rattle.matching.specs.Matching.{match-buy, match-sell}
use Rattle.records.specs.Done.{done-of, room_of}
use Rattle.matching.proofs.match_once.Goals as goal

pub whole_fill-requires : goal.whole_fill-requires
whole_fill-requires c = record { a_lt_table_rows = c.requires.x_lt_table_rows; room = room_of (match-buy _ _ _ c.if-e-f.true c.min-q.ensures) c.requires.room }

pub returns-then-e-f : goal.returns-then-e-f
returns-then-e-f c = done-of (match-buy _ _ _ c.if-e-f.true c.min-q.ensures) c.whole_fill.ensures

pub whole_fill-requires-else-e-f : goal.whole_fill-requires-else-e-f
whole_fill-requires-else-e-f c = record { a_lt_table_rows = (c.requires.x_lt_table_rows.1, c.requires.x_lt_table_rows.0, c.requires.x_lt_table_rows.2); room = room_of (match-sell _ _ _ c.if-e-f.false (c.min-q.ensures ∙ min_comm _ _)) c.requires.room }

pub returns-else-e-f : goal.returns-else-e-f
returns-else-e-f c = done-of (match-sell _ _ _ c.if-e-f.false (c.min-q.ensures ∙ min_comm _ _)) c.whole_fill-else-e-f.ensures
