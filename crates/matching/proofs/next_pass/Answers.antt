use Rattle.std.proofs.Common.{◌∙◌, ap, arith, refl, sym}
use Rattle.base.specs.Pick.{told}
use Rattle.base.specs.Chains.{found}
use Rattle.ranges.specs.Fit.{fit-entry, fit-legs}
use Rattle.matching.specs.Places.{look-not, look-before, look-above, look-idle, look-here, look-all, acts-on}
use Rattle.matching.specs.Searches.{searched-none}
use Rattle.base.specs.Chains.{found-some}
use Rattle.matching.proofs.next_pass.Goals as goal
use Rattle.matching.proofs.next_pass.Goals.{then-day_order+then-from-at+then-at-unwrap_or+then-acts_in, then-day_order+then-from-at+then-at-unwrap_or+else-acts_in, then-day_order+else-from-at, else-from-at-via-then-from-at+else-at-unwrap_or, else-from-at-via-else-from-at, else-day_order}

pub loop-i-init : goal.loop-i-init
loop-i-init c = (searched-none, refl)

pub acts_in-requires : goal.acts_in-requires
acts_in-requires c = (c.requires.2, c.requires.3, fit-legs c.requires.0 _)

pub loop-i-preserved : goal.loop-i-preserved
loop-i-preserved c =
    let v = c.loop-i.invariant.0 in
    elim c.if-day_order.branch [
      | then-day_order+then-from-at+then-at-unwrap_or+then-acts_in w ↦
          rw w.best-is (
            look-here _ _ _ _ _ _ v c.loop-i-test.true refl (told c.day_order.ensures w.if-day_order.true) w.if-from-at.true (rw w.unwrap_or.ensures at w.if-at-unwrap_or.true) (told (acts-on _ _ _ _ _ c.loop-i.i c.requires.1 c.requires.4 c.requires.5 (told c.day_order.ensures w.if-day_order.true) w.acts_in.ensures) w.if-acts_in.true),
            sym (found-some (omega (arith, (fit-entry c.requires.1 c.loop-i.i).strategy))),
          )
      | then-day_order+then-from-at+then-at-unwrap_or+else-acts_in w ↦
          rw w.best-is (look-idle _ _ _ _ _ _ v c.loop-i-test.true refl (told (acts-on _ _ _ _ _ c.loop-i.i c.requires.1 c.requires.4 c.requires.5 (told c.day_order.ensures w.if-day_order.true) w.acts_in.ensures) w.if-acts_in.false), c.loop-i.invariant.1)
      | then-day_order+else-from-at w ↦
          rw w.best-is (
            elim w.else-from-at.branch [
              | else-from-at-via-then-from-at+else-at-unwrap_or x ↦ look-above _ _ _ _ _ _ v c.loop-i-test.true refl (rw x.unwrap_or.ensures at x.if-at-unwrap_or.false)
              | else-from-at-via-else-from-at x ↦ look-before _ _ _ _ _ _ v c.loop-i-test.true refl x.if-from-at.false
            ],
            c.loop-i.invariant.1,
          )
      | else-day_order w ↦ rw w.best-is (look-not _ _ _ _ _ _ v c.loop-i-test.true refl (told c.day_order.ensures w.if-day_order.false), c.loop-i.invariant.1)
    ]

pub returns : goal.returns
returns c = c.loop-i.invariant.1 ∙ ap (found 512) (look-all _ _ _ _ _ _ c.loop-i.invariant.0 c.loop-i-test.false)
