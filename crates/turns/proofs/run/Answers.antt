use Rattle.std.proofs.Common.{List, ℕ, true, length, refl, ◌∙◌, ap, arith}
use Rattle.std.specs.Option.{is_some}
use Rattle.base.specs.Chains.{unless_zero}
use Rattle.turns.specs.Turns.{Tape, reached-next, left-on, left-last, running-first, running-next, settled}
use Rattle.turns.proofs.run.Goals.{else-loop-index-test, then-loop-index-test+then-not-on, then-loop-index-test+else-not-on+then-not-settle}
use Rattle.turns.proofs.run.Goals as goal

pub loop-index-init : goal.loop-index-init
loop-index-init g c =
    running-first _ _ c.first-book.ensures c.new-input.ensures.at c.new-input.ensures.empty c.new-text.ensures.used
    (omega (arith, ap length c.new-text.ensures.bytes, c.text_space-out.ensures))

pub loop-index-preserved : goal.loop-index-preserved
loop-index-preserved g c =
    let e = ap is_some (c.first.ensures ∙ ap (λ (l : List ℕ). unless_zero (g.P.Program.first_of l)) c.rest.ensures) in
    running-next c.loop-index.invariant c.fill.ensures (record { turned = c.turn-on.ensures.turned; on = c.if-not-on.false })
    (record { book = refl; input = refl; room = c.settle.ensures.room; space = c.settle.ensures.space }) (settled c.settle.ensures (c.is_some-more.ensures ∙ e))

pub returns : goal.returns
returns g c =
    elim c.loop-index-test.branch [
      | else-loop-index-test w ↦ rw w.book-is (left-on c.loop-index.invariant.reached)
      | then-loop-index-test+then-not-on w ↦ rw w.book-is (left-last c.loop-index.invariant.reached w.fill.ensures w.turn-on.ensures.turned w.if-not-on.true)
      | then-loop-index-test+else-not-on+then-not-settle w ↦
          let y : Tape = record { book = w.turn-on.new.book; input = w.turn-on.new.input; text = w.settle.new.text; on = true } in
          rw w.book-is
          (left-on {t = y}
          (reached-next c.loop-index.invariant.reached w.fill.ensures (record { turned = w.turn-on.ensures.turned; on = w.if-not-on.false })
          (record { book = refl; input = refl; room = w.settle.ensures.room; space = w.settle.ensures.space })))
    ]
