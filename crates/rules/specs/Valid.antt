-- What holds of every state that events can lead to.
use Rattle.std.specs.Prelude.{◌≡◌, true, false, ℕ, ◌^◌, ◌≤◌, ◌<◌, length}
use Rattle.base.specs.All.{All}
use Rattle.base.specs.Walks.{sum_n}
use Rattle.base.specs.Sets.{has, size_of}
use Rattle.rules.specs.Sizes.{strategy_slots, order_slots, sweep_slots, table_rows, series_count}
use Rattle.rules.specs.declared.Leg.{Leg}
use Rattle.rules.specs.declared.Strategy.{Strategy}
use Rattle.rules.specs.declared.Entry.{Entry}
use Rattle.rules.specs.declared.LegOrder.{LegOrder}
use Rattle.rules.specs.declared.Quote.{Quote}
use Rattle.rules.specs.declared.State.{State}
use Rattle.rules.specs.State.{entry_at, order_at, strategy_at, leg_at, Netted}
use Rattle.rules.specs.Strategies.{all_open}
use Rattle.rules.specs.Auctions.{running}
use Rattle.rules.specs.Refusals.{is_order_at, is_sweep_at}

-- Ranges of the rows, empty ones included.
pub record FitLeg (l : Leg) : Type 0 where
  pub series : l.series < 32
  pub side : l.side ≤ 1
  pub ratio : l.ratio ≤ 12

pub record FitStrategy (s : Strategy) : Type 0 where
  pub count : s.count ≤ 6
  pub legs : All FitLeg s.legs
  pub used : (i : ℕ) → i < s.count → 0 < (leg_at s i).ratio
  pub rising : (i j : ℕ) → i < j → j < s.count → (leg_at s i).series < (leg_at s j).series
  pub held : (i : ℕ) → i < s.count → has s.series (leg_at s i).series ≡ true
  pub ones : size_of s.series ≡ s.count
  pub series : s.series < 2 ^ 32
  pub starter : s.starter ≤ 100_000
  pub begun : s.begun ≤ 86_400_000
  pub percentage : s.specialist.percentage ≤ 100

pub record FitEntry (e : Entry) : Type 0 where
  pub number : e.number ≤ 100_000
  pub member : e.member ≤ 65_535
  pub strategy : e.strategy < strategy_slots
  pub side : e.side ≤ 1
  pub class : e.class ≤ 3
  pub life : e.life ≤ 4
  pub units : e.units ≤ 9999
  pub level : e.level ≤ 19_999_999

pub record FitOrder (o : LegOrder) : Type 0 where
  pub number : o.number ≤ 100_000
  pub member : o.member ≤ 65_535
  pub series : o.series < 32
  pub side : o.side ≤ 1
  pub contracts : o.contracts ≤ 9999
  pub price : o.price ≤ 99_999

-- a live leg order has a price
pub record Priced (o : LegOrder) : Type 0 where
  pub price : 0 < o.contracts → 1 ≤ o.price

pub record FitQuote (q : Quote) : Type 0 where
  pub bid : q.bid ≤ 99_999
  pub offer : q.offer ≤ 99_999

pub record LiveEntry (b : State) (e : Entry) : Type 0 where
  pub given : (1 ≤ e.number) × (e.number ≤ b.last)
  pub level : 1 ≤ e.level
  pub strategy : e.strategy < b.defined

pub record LiveOrder (b : State) (o : LegOrder) : Type 0 where
  pub given : (1 ≤ o.number) × (o.number ≤ b.last)
  pub price : 1 ≤ o.price

-- What holds also within an event: ranges, table sizes and limits, numbers rising and at most the last given.
pub record Sound (b : State) : Type 0 where
  pub strategies : All FitStrategy b.strategies
  pub entries : All FitEntry b.entries
  pub orders : All FitOrder b.orders
  pub strategy_rows : length b.strategies ≡ strategy_slots
  pub entry_rows : length b.entries ≡ table_rows
  pub order_rows : length b.orders ≡ table_rows
  pub defined : b.defined ≤ strategy_slots
  pub opened : b.opened < 2 ^ 32
  pub clock : b.clock ≤ 86_400_000
  pub timer : (1 ≤ b.timer) × (b.timer ≤ 5000)
  pub last : b.last ≤ 100_000
  pub national : All FitQuote b.national
  pub quote_rows : length b.national ≡ series_count
  pub range : b.range ≤ 9999
  -- 2026-05: the stored nets are those of the leg orders
  pub nets : Netted b
  -- a strategy that is not defined has no leg and no auction
  pub undefined : (k : ℕ) → b.defined ≤ k → ((strategy_at b k).count ≡ 0) × ((strategy_at b k).series ≡ 0) × ((strategy_at b k).starter ≡ 0)
  pub legs : (k : ℕ) → k < b.defined → 2 ≤ (strategy_at b k).count
  -- live rows: a number given, a limit or price, and a strategy that is defined
  pub live : (i : ℕ) → 0 < (entry_at b i).units → LiveEntry b (entry_at b i)
  pub live_order : (i : ℕ) → 0 < (order_at b i).contracts → LiveOrder b (order_at b i)
  -- "by number" is by slot
  pub rising : (i j : ℕ) → i < j → 0 < (entry_at b i).units → 0 < (entry_at b j).units → (entry_at b i).number < (entry_at b j).number
  pub rising_orders : (i j : ℕ) → i < j → 0 < (order_at b i).contracts → 0 < (order_at b j).contracts → (order_at b i).number < (order_at b j).number
  -- no number stands in both tables
  pub apart : (i j : ℕ) → 0 < (entry_at b i).units → 0 < (order_at b j).contracts → (entry_at b i).number ≡ (order_at b j).number → ⊥
  pub complex_orders : sum_n (is_order_at b) table_rows ≤ order_slots
  pub sweeps : sum_n (is_sweep_at b) table_rows ≤ sweep_slots

-- An auction's starter stands in a slot: live, in its strategy, of class 1 or 2 and of life 0 or 1.
pub record Starter (b : State) (k i : ℕ) : Type 0 where
  pub slot : i < table_rows
  pub live : 0 < (entry_at b i).units
  pub strategy : (entry_at b i).strategy ≡ k
  pub number : (entry_at b i).number ≡ (strategy_at b k).starter
  pub class : (1 ≤ (entry_at b i).class) × ((entry_at b i).class ≤ 2)
  pub life : (entry_at b i).life ≤ 1

pub record HasStarter (b : State) (k : ℕ) : Type 0 where
  pub at : ℕ
  pub starter : Starter b k at

-- What holds of a strategy between events: an auction has its starter and open legs, and began no later than now; without one only day
-- orders live; a do-not-auction order never stays.
pub record Settled (b : State) (k : ℕ) : Type 0 where
  pub starter : running b k ≡ true → HasStarter b k
  pub open_legs : running b k ≡ true → all_open b k ≡ true
  pub begun : (strategy_at b k).begun ≤ b.clock
  pub day : running b k ≡ false → (i : ℕ) → 0 < (entry_at b i).units → (entry_at b i).strategy ≡ k → (entry_at b i).life ≡ 0
  pub stays : (i : ℕ) → 0 < (entry_at b i).units → (entry_at b i).strategy ≡ k → (entry_at b i).life ≡ 3 → ⊥

pub record Valid (b : State) : Type 0 where
  pub sound : Sound b
  pub settled : (k : ℕ) → Settled b k
