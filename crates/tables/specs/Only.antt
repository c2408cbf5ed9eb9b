-- States of which one table matters: the rule of a function that takes that table alone.
use Rattle.std.specs.Prelude.{List, []}
use Rattle.rules.specs.declared.Entry.{Entry}
use Rattle.rules.specs.declared.LegOrder.{LegOrder}
use Rattle.rules.specs.declared.State.{State}

-- these entries, and nothing else
abbrev pub only_entries : List Entry → State
only_entries es = record { strategies = []; nets = []; entries = es; orders = []; defined = 0; opened = 0; clock = 0; timer = 0; last = 0; national = []; range = 0 }

-- these leg orders, and nothing else
abbrev pub only_orders : List LegOrder → State
only_orders os = record { strategies = []; nets = []; entries = []; orders = os; defined = 0; opened = 0; clock = 0; timer = 0; last = 0; national = []; range = 0 }
