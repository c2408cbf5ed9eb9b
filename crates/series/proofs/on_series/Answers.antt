use Rattle.base.specs.Pick.{told}
use Rattle.records.specs.Done.{done-still, done-of, room_of}
use Rattle.series.specs.Series.{series-shuts, series-stays, series-stays-shut, series-opens}
use Rattle.series.proofs.on_series.Goals as goal

pub shut-requires-clause-room : goal.shut-requires-clause-room
shut-requires-clause-room c = room_of (series-shuts _ _ _ (told c.is_open.ensures c.if-is_open.true) c.if-state-eq0.true) c.requires.room

pub returns-then-state-eq0 : goal.returns-then-state-eq0
returns-then-state-eq0 c = done-of (series-shuts _ _ _ (told c.is_open.ensures c.if-is_open.true) c.if-state-eq0.true) c.shut.ensures

pub returns-else-state-eq0 : goal.returns-else-state-eq0
returns-else-state-eq0 c = done-of (series-stays _ _ _ (told c.is_open.ensures c.if-is_open.true) c.if-state-eq0.false) (done-still _ _)

pub reopen-requires-clause-room : goal.reopen-requires-clause-room
reopen-requires-clause-room c = room_of (series-opens _ _ _ (told c.is_open.ensures c.if-is_open.false) c.if-state-ne0.true) c.requires.room

pub returns-then-state-ne0 : goal.returns-then-state-ne0
returns-then-state-ne0 c = done-of (series-opens _ _ _ (told c.is_open.ensures c.if-is_open.false) c.if-state-ne0.true) c.reopen.ensures

pub returns-else-state-ne0 : goal.returns-else-state-ne0
returns-else-state-ne0 c = done-of (series-stays-shut _ _ _ (told c.is_open.ensures c.if-is_open.false) c.if-state-ne0.false) (done-still _ _)
