use Rattle.base.specs.Walks.{join_n}
use Rattle.rules.specs.Fills.{leg_record_at}
use Rattle.records.specs.Space.{Appended}
use Rattle.fills.proofs.leg_records.Given as goal

abbrev pub invariant-loop-i : goal.invariant-loop-i
invariant-loop-i l = Appended l.initial.records l.records (join_n (leg_record_at l.e l.s.legs l.q l.prices) l.i)
