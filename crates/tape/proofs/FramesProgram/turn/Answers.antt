use Rattle.std.proofs.Common.{◌∙◌, sym, ap, length-take-le, arith}
use Rattle.lines.specs.Cuts.{cut_of, first-some}
use Rattle.lines.specs.Puts.{put-length}
use Rattle.streams.specs.Rests.{rest-length}
use Rattle.tape.specs.Tapes.{turned-event, event-fits}
use Rattle.tape.proofs.FramesProgram.turn.Goals as goal

pub returns-in_default-clause-turned : goal.returns-in_default-clause-turned
returns-in_default-clause-turned g c = c.tell_end.ensures.turned _

pub returns-in_default-clause-size : goal.returns-in_default-clause-size
returns-in_default-clause-size g c = put-length (c.tell_end.ensures.turned c.args.book.now).text.put

pub slice_bounds-tell-end : goal.slice_bounds-tell-end
slice_bounds-tell-end g c =
    let fits = event-fits c.args.input.now ((first-some _ c.in-Some.ensures).0 ∙ ap cut_of c.rest.ensures) in
    rw c.rest-2.ensures (sym (length-take-le _ _ (omega (arith, fits, rest-length c.args.input.now))))

pub consume-requires : goal.consume-requires
consume-requires g c = event-fits c.args.input.now ((first-some _ c.in-Some.ensures).0 ∙ ap cut_of c.rest.ensures)

pub returns-clause-turned : goal.returns-clause-turned
returns-clause-turned g c =
    let f = first-some _ c.in-Some.ensures in
    turned-event c.args.input.now _ (f.0 ∙ ap cut_of c.rest.ensures) f.1 (rw (c.rest-2.ensures, c.requires.space_len) at c.tell.ensures) c.consume.ensures

pub returns-clause-size : goal.returns-clause-size
returns-clause-size g c = put-length c.tell.ensures.text.put
