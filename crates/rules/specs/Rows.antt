-- Empty rows of the tables.
use Rattle.std.specs.Prelude.{false, [], replicate}
use Rattle.rules.specs.declared.Leg.{Leg}
use Rattle.rules.specs.declared.Specialist.{Specialist}
use Rattle.rules.specs.declared.Strategy.{Strategy}
use Rattle.rules.specs.declared.Entry.{Entry}
use Rattle.rules.specs.declared.LegOrder.{LegOrder}
use Rattle.rules.specs.declared.Quote.{Quote}
use Rattle.rules.specs.declared.LegNets.{LegNets}

-- an empty leg
abbrev pub no_leg : Leg
no_leg = record { series = 0; side = 0; ratio = 0 }

-- an empty entry
abbrev pub no_entry : Entry
no_entry = record { number = 0; member = 0; strategy = 0; side = 0; class = 0; life = 0; units = 0; level = 0 }

-- an empty leg order
abbrev pub no_order : LegOrder
no_order = record { number = 0; member = 0; series = 0; side = 0; contracts = 0; price = 0 }

-- a series without national prices
abbrev pub no_quote : Quote
no_quote = record { bid = 0; offer = 0 }

-- no specialist is named
abbrev pub no_specialist : Specialist
no_specialist = record { member = 0; percentage = 0 }

-- what stands past the table's end
abbrev pub no_strategy : Strategy
no_strategy = record { legs = []; count = 0; series = 0; starter = 0; begun = 0; answered = false; specialist = no_specialist }

-- a free row of the table
abbrev pub free_strategy : Strategy
free_strategy = record { legs = replicate 6 no_leg; count = 0; series = 0; starter = 0; begun = 0; answered = false; specialist = no_specialist }

-- both nets unknown
abbrev pub no_nets : LegNets
no_nets = record { bid = 0; offer = 0 }
