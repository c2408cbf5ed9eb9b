-- What no move of an event changes, and what it may only lessen: rows keep all but their quantity, and no quantity rises.
use Rattle.std.specs.Prelude.{◌≡◌, ℕ, ◌≤◌, length}
use Rattle.rules.specs.declared.Strategy.{Strategy}
use Rattle.rules.specs.declared.Entry.{Entry}
use Rattle.rules.specs.declared.LegOrder.{LegOrder}
use Rattle.rules.specs.declared.State.{State}
use Rattle.rules.specs.State.{entry_at, order_at, strategy_at, Netted}

-- an entry that has lost units at most
pub record SameEntry (e f : Entry) : Type 0 where
  pub number : f.number ≡ e.number
  pub member : f.member ≡ e.member
  pub strategy : f.strategy ≡ e.strategy
  pub side : f.side ≡ e.side
  pub class : f.class ≡ e.class
  pub life : f.life ≡ e.life
  pub level : f.level ≡ e.level
  pub units : f.units ≤ e.units

-- a leg order that has lost contracts at most
pub record SameOrder (o p : LegOrder) : Type 0 where
  pub number : p.number ≡ o.number
  pub member : p.member ≡ o.member
  pub series : p.series ≡ o.series
  pub side : p.side ≡ o.side
  pub price : p.price ≡ o.price
  pub contracts : p.contracts ≤ o.contracts

-- a strategy of which no more than the auction and the specialist (kind 11) have changed
pub record SameStrategy (s t : Strategy) : Type 0 where
  pub legs : t.legs ≡ s.legs
  pub count : t.count ≡ s.count
  pub series : t.series ≡ s.series

pub record Shrinks (b c : State) : Type 0 where
  pub entry : (i : ℕ) → SameEntry (entry_at b i) (entry_at c i)
  pub order : (i : ℕ) → SameOrder (order_at b i) (order_at c i)
  pub strategy : (k : ℕ) → SameStrategy (strategy_at b k) (strategy_at c k)
  pub entry_rows : length c.entries ≡ length b.entries
  pub order_rows : length c.orders ≡ length b.orders
  pub strategy_rows : length c.strategies ≡ length b.strategies
  pub defined : c.defined ≡ b.defined
  pub opened : c.opened ≡ b.opened
  pub clock : c.clock ≡ b.clock
  pub timer : c.timer ≡ b.timer
  pub last : c.last ≡ b.last
  pub national : c.national ≡ b.national
  pub range : c.range ≡ b.range
  -- 2026-05: stored nets that were those of the leg orders are so again
  pub nets : Netted b → Netted c
