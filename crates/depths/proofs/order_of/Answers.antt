-- proofs/order_of/Answers.antt
use Rattle.base.specs.Pick.{told}
use native.Mathlib.Omega.{arith}
use borrow.Author.Tests.{ne_eqb}
use Rattle.depths.specs.Rows.{formed}
use Rattle.depths.proofs.order_of.Goals as goal

pub overflow_cast-result : goal.overflow_cast-result
overflow_cast-result c = let f = formed _ (told c.well_formed-2.ensures c.if-not-well_formed.false) (ne_eqb _ _ c.if-e-eq0.false) in record { fits = omega (arith, f.series) }

pub overflow_cast-result-2 : goal.overflow_cast-result-2
overflow_cast-result-2 c = let f = formed _ (told c.well_formed-2.ensures c.if-not-well_formed.false) (ne_eqb _ _ c.if-e-eq0.false) in record { fits = omega (arith, f.side) }
