use Rattle.stored_nets.specs.Stored.{net_moved}
use Rattle.std.proofs.Common.{rules, arith}
use Rattle.base.specs.Pick.{tests}
use Rattle.stored_nets.proofs.net_moved.Goals.{then-net-eq0-via-then-net-eq0, then-net-eq0-via-else-net-eq0+then-q-eq0}
use Rattle.stored_nets.proofs.net_moved.Goals as goal

pub returns-then-net-eq0 : goal.returns-then-net-eq0
unfolding net_moved
returns-then-net-eq0 c =
    elim c.then-net-eq0.branch [
      | then-net-eq0-via-then-net-eq0 w ↦ search (tests, rules, arith, w.if-net-eq0.true)
      | then-net-eq0-via-else-net-eq0+then-q-eq0 w ↦ search (tests, rules, arith, w.if-net-eq0.false, w.if-q-eq0.true)
    ]

pub returns-then-l-eq0 : goal.returns-then-l-eq0
unfolding net_moved
returns-then-l-eq0 c = rw c.saturating_sub.ensures (search tests)

pub returns-else-l-eq0 : goal.returns-else-l-eq0
unfolding net_moved
returns-else-l-eq0 c = rw c.saturating_sub-else-l-eq0.ensures (search tests)
