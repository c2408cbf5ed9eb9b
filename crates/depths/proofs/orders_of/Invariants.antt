-- proofs/orders_of/Invariants.antt
use Rattle.std.proofs.Common.{◌≡◌, true}
use Rattle.base.specs.Walks.{all_n}
use Rattle.rules.specs.Lookups.{well_formed_at}
use Rattle.depths.specs.Rows.{orders_n}
use Rattle.depths.proofs.orders_of.Given as goal

abbrev pub invariant-loop-i : goal.invariant-loop-i
invariant-loop-i l = record { orders : l.orders ≡ orders_n l.row l.i; formed : all_n (well_formed_at l.row) l.i ≡ true }
