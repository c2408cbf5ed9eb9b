use Rattle.std.proofs.Common.{sym, length-take-le}
use Rattle.calls.specs.Calls.{tells-item}
use Rattle.calls.specs.Items.{lent_fits}
use Rattle.calls.proofs.tell_item.Goals as goal

pub slice_bounds-tell-end-2 : goal.slice_bounds-tell-end-2
slice_bounds-tell-end-2 c = lent_fits _ c.lent-m.ensures c.requires.space_len

pub slice_bounds-tell-end-3 : goal.slice_bounds-tell-end-3
slice_bounds-tell-end-3 c = sym (length-take-le _ _ (lent_fits _ c.lent-m.ensures c.requires.space_len))

pub returns : goal.returns
returns c = tells-item _ _ _ c.lent-m.ensures c.requires.space_len c.tell.ensures
