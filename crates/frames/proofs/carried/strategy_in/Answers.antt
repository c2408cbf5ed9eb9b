use Rattle.std.proofs.Common.{sym, ◌∙◌}
use Rattle.base.specs.Pick.{pick_true, pick-false}
use Rattle.frames.specs.Codec.{table-room, table-carried}
use Rattle.frames.proofs.carried.strategy_in.Goals as goal

pub decode-row-requires : goal.decode-row-requires
decode-row-requires c = let p = table-room _ _ c.requires c.fields_of-fields.ensures in record { m_in_bounds = p.0; narrow = p.1 }

pub returns-then-fit_in : goal.returns-then-fit_in
returns-then-fit_in c = c.event_of.ensures
    ∙ sym (pick_true _ _ _ c.if-fit_in.true)
    ∙ table-carried _ _ c.requires c.fields_of-fields.ensures c.decode-row.ensures c.fit_in.ensures

pub returns-else-fit_in : goal.returns-else-fit_in
returns-else-fit_in c = sym (pick-false _ _ _ c.if-fit_in.false) ∙ table-carried _ _ c.requires c.fields_of-fields.ensures c.decode-row.ensures c.fit_in.ensures
