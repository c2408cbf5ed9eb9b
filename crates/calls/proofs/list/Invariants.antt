use Rattle.base.specs.Walks.{join_n}
use Rattle.calls.specs.Printed.{Printed}
use Rattle.calls.proofs.list.Given as goal

abbrev pub invariant-loop-place : goal.invariant-loop-place
invariant-loop-place g l = Printed l.fn.text l.text (join_n (g.L.Lookup.line l.book.state) l.place)
