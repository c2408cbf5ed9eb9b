use Rattle.std.proofs.Common.{arith}
use Rattle.calls.specs.Listings.{live_lines, shut_lines, nets_lines, depth_lines, lookup_text}
use Rattle.calls.specs.Printed.{printed-then, printed-length}
use Rattle.calls.proofs.list_lookups.Goals as goal

pub list-requires-2-clause-room : goal.list-requires-2-clause-room
list-requires-2-clause-room g c = omega (arith, c.requires, printed-length c.list.ensures)

pub list-requires-3-clause-room : goal.list-requires-3-clause-room
list-requires-3-clause-room g c = omega (arith, c.requires, printed-length c.list.ensures, printed-length c.list-2.ensures)

pub list-requires-4-clause-room : goal.list-requires-4-clause-room
list-requires-4-clause-room g c =
    omega (arith, c.requires, printed-length c.list.ensures, printed-length c.list-2.ensures, printed-length c.list-3.ensures)

pub returns : goal.returns
unfolding lookup_text live_lines shut_lines nets_lines depth_lines
returns g c = printed-then c.list.ensures (printed-then c.list-2.ensures (printed-then c.list-3.ensures c.list-4.ensures))
