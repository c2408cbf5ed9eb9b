-- A limit in cents, and the level that an event holds: 10,000,000 more.
use Rattle.std.specs.Prelude.{ℕ, ℤ, pos, ◌-ℤ◌}

-- "limit (4, signed) −9,999,999 to 9,999,999": the limit of a level
unfoldable pub limit_of : ℕ → ℤ
limit_of l = pos l -ℤ pos 10000000
