-- The sizes, each named once. "Tables: 16 strategies, 16 complex orders, 16 sweeps, 32 leg orders."
use Rattle.std.specs.Prelude.{ℕ}

-- "16 strategies"
abbrev pub strategy_slots : ℕ
strategy_slots = 16

-- "16 complex orders"
abbrev pub order_slots : ℕ
order_slots = 16

-- "16 sweeps"
abbrev pub sweep_slots : ℕ
sweep_slots = 16

-- "32 leg orders"
abbrev pub leg_order_slots : ℕ
leg_order_slots = 32

-- the rows of the table of complex orders and sweeps, which are 16 and 16, and of that of leg orders
abbrev pub table_rows : ℕ
table_rows = 32

-- "Series are 0–31"
abbrev pub series_count : ℕ
series_count = 32

-- "Each event is lent space for 2,560 records"
abbrev pub records_lent : ℕ
records_lent = 2560

-- .. "15,360 numbers": six a record
abbrev pub record_space : ℕ
record_space = 15_360

-- the level of a price, limit or net of 0 cents: levels are natural numbers, a limit being -9,999,999 at least
abbrev pub zero_level : ℕ
zero_level = 10_000_000
