use Rattle.std.proofs.Common.{refl, arith}
use Rattle.lines.specs.Puts.{Numbers, numbers-accepted, numbers-refused, within-of, put-event}
use Rattle.lines.specs.Places.{length-at}
use Rattle.lines.proofs.Text.event.Goals as goal
use Rattle.lines.proofs.Text.event.Goals.{in-Ok, in-Err}

pub records-requires : goal.records-requires
records-requires c =
    let n : Numbers c.args.answer c.match-answer.number =
    elim c.match-answer.branch [
      | in-Ok w ↦ numbers-accepted w.in-Ok.field-0 w.in-Ok.is w.number-is
      | in-Err w ↦ numbers-refused w.in-Err.refusal w.in-Err.is w.from.ensures w.number-is
    ] in
    record {
      room = omega (arith, n.count, c.requires.answer_in_bounds, c.put_four-self.ensures.few, length-at c.put_four-self.ensures.put);
      n_in_bounds = omega (arith, n.count, c.requires.answer_in_bounds_2);
    }

pub returns : goal.returns
returns c =
    let n : Numbers c.args.answer c.match-answer.number =
    elim c.match-answer.branch [
      | in-Ok w ↦ numbers-accepted w.in-Ok.field-0 w.in-Ok.is w.number-is
      | in-Err w ↦ numbers-refused w.in-Err.refusal w.in-Err.is w.from.ensures w.number-is
    ] in
    put-event _ _ _ n c.from-2.ensures c.from-3.ensures (within-of c.put_four-self.ensures refl) c.records.ensures
