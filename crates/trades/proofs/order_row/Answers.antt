use Rattle.base.specs.All.{all_head}
use Rattle.trades.specs.Trades.{row-none, row-some}
use Rattle.records.specs.Space.{wrote-nil}
use Rattle.trades.proofs.order_row.Goals as goal

pub order_record-requires : goal.order_record-requires
order_record-requires c = (all_head (rw (row-some _ _ _ c.if-q-ne0.true) at c.requires.small)).level

pub push-requires : goal.push-requires
push-requires c = rw c.order_record.ensures (rw (row-some _ _ _ c.if-q-ne0.true) at c.requires)

pub returns-then-q-ne0 : goal.returns-then-q-ne0
returns-then-q-ne0 c = rw (row-some _ _ _ c.if-q-ne0.true) (rw c.order_record.ensures at c.push.ensures)

pub returns-else-q-ne0 : goal.returns-else-q-ne0
returns-else-q-ne0 c = rw (row-none _ _ _ c.if-q-ne0.false) (wrote-nil _)
