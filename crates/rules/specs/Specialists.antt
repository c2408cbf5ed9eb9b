-- The specialist of a strategy (2026-04), as it is named. Its portion in an auction is in Quotas and Passes.
use Rattle.std.specs.Prelude.{ℕ, set}
use Rattle.rules.specs.declared.Specialist.{Specialist}
use Rattle.rules.specs.declared.Strategy.{Strategy}
use Rattle.rules.specs.declared.State.{State}
use Rattle.rules.specs.State.{strategy_at, with_strategies}

-- the strategy with that specialist
abbrev pub with_specialist : Strategy → Specialist → Strategy
with_specialist s p = record { legs = s.legs; count = s.count; series = s.series; starter = s.starter; begun = s.begun; answered = s.answered; specialist = p }

-- "It sets the strategy's specialist until day end; the last one named holds"
unfoldable pub on_specialist : ℕ → Specialist → State → State
on_specialist k p b = with_strategies b (set b.strategies k (with_specialist (strategy_at b k) p)) b.defined
