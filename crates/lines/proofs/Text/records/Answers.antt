use Rattle.std.proofs.Common.{◌≡◌, ◌+◌, [], ◌∷◌, ◌++◌, length, add-zero, arith}
use Rattle.std.proofs.lemmas.List.{length_push}
use Rattle.lines.specs.Places.{length-at, listing-first, listing-chunk, chunk-after}
use Rattle.lines.proofs.Text.records.Goals as goal

pub loop-record-init : goal.loop-record-init
loop-record-init c = (listing-first _ _ _, cc, cc, rw add-zero (cc))

pub put_record-at-requires : goal.put_record-at-requires
put_record-at-requires c =
    omega (arith, c.loop-record.invariant.0.few, length-at c.loop-record.invariant.0.put, c.in-Some.ensures.steps.0.1.1, c.in-Some.ensures.steps.1, c.loop-record.invariant.2, c.loop-record.invariant.3, c.requires.room)

pub loop-record-preserved : goal.loop-record-preserved
loop-record-preserved c =
    let six : length c.in-Some.record.now ≡ 6 = cc c.in-Some.ensures.steps.0.1.1 in
    let next : length (c.loop-record.yielded ++ (c.in-Some.record ∷ [])) ≡ length c.loop-record.yielded + 1 = length_push _ _ in
    rw next (
      listing-chunk _ _ _ c.loop-record.invariant.0 c.loop-record.invariant.1 c.in-Some.ensures.steps.0.1.0 six c.put_record-at.ensures,
      chunk-after c.args.space.now (length c.loop-record.yielded) _ _ c.loop-record.invariant.1 c.in-Some.ensures.steps.0.1.0 six,
      cc c.in-Some.ensures.steps.0.0,
      omega (arith, c.in-Some.ensures.steps.1, c.loop-record.invariant.3, next),
    )
