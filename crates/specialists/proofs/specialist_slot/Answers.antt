use Rattle.std.proofs.Common.{rules}
use Rattle.std.proofs.lemmas.Iterator.{YieldsList-from_slice}
use Rattle.std.proofs.lemmas.Iterator.Search.{position_from_yields_List}
use Rattle.rules.specs.Passes.{is_sweep_of}
use Rattle.specialists.specs.Laws.{slot-named, slot-none}
use Rattle.specialists.proofs.specialist_slot.Goals as goal

pub returns-then-member-eq0 : goal.returns-then-member-eq0
returns-then-member-eq0 c = slot-none _ _ _ _ c.if-member-eq0.true

pub returns : goal.returns
returns c = slot-named _ _ _ _ c.if-member-eq0.false (search rules) (position_from_yields_List (is_sweep_of c.args.member c.args.e c.args.level) _ _ _ c.position.ensures.ran (YieldsList-from_slice c.args.es cc) (λ x b q k. search rules))
