use Rattle.std.proofs.Common.{◌∙◌, sym, ap, length-take-le, arith}
use Rattle.lines.specs.Cuts.{first-some}
use Rattle.lines.specs.Puts.{put-length}
use Rattle.streams.specs.Rests.{rest-length}
use Rattle.calls.specs.Items.{item_of}
use Rattle.calls.specs.Calls.{item-fits, item-long, turned-item}
use Rattle.calls.specs.Printed.{printed-length}
use Rattle.calls.proofs.ItemsProgram.turn.Goals as goal

pub returns-in_default-clause-turned : goal.returns-in_default-clause-turned
returns-in_default-clause-turned g c = c.tell_end.ensures.turned _

pub returns-in_default-clause-size : goal.returns-in_default-clause-size
returns-in_default-clause-size g c = printed-length (c.tell_end.ensures.turned c.args.index).text

pub slice_bounds-tell_item-end : goal.slice_bounds-tell_item-end
slice_bounds-tell_item-end g c =
    let fits = item-fits c.args.input.now ((first-some _ c.in-Some.ensures).0 ∙ ap item_of c.rest.ensures) in
    rw c.rest-2.ensures (sym (length-take-le _ _ (omega (arith, fits, rest-length c.args.input.now))))

pub tell_item-requires-clause-in_bounds : goal.tell_item-requires-clause-in_bounds
tell_item-requires-clause-in_bounds g c =
    let f = first-some _ c.in-Some.ensures in
    rw c.rest-2.ensures (item-long c.args.input.now (f.0 ∙ ap item_of c.rest.ensures) f.1)

pub consume-requires : goal.consume-requires
consume-requires g c = item-fits c.args.input.now ((first-some _ c.in-Some.ensures).0 ∙ ap item_of c.rest.ensures)

pub returns-clause-turned : goal.returns-clause-turned
returns-clause-turned g c =
    let f = first-some _ c.in-Some.ensures in
    turned-item c.args.input.now _ (f.0 ∙ ap item_of c.rest.ensures) f.1 (rw c.rest-2.ensures at c.tell_item.ensures) c.consume.ensures

pub returns-clause-size : goal.returns-clause-size
returns-clause-size g c = put-length c.tell_item.ensures.text.put
