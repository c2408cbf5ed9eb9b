-- A strategy's definition: ratios in lowest terms, legs by rising series, and the comparison with those held.
use Rattle.std.specs.Prelude.{Bool, false, List, [], ◌∷◌, ◌++◌, ℕ, ◌+◌, ◌*◌, ◌/◌, min, max, eqb, ltb, get_or, set, take, replicate}
use Rattle.base.specs.Pick.{pick, both}
use Rattle.base.specs.Walks.{table, walk, all_n, any_n, first_n, join_n}
use Rattle.base.specs.Sets.{has, set_n, minus, size_of}
use Rattle.base.specs.Gcd.{gcd}
use Rattle.rules.specs.declared.Leg.{Leg}
use Rattle.rules.specs.declared.Strategy.{Strategy}
use Rattle.rules.specs.declared.State.{State}
use Rattle.rules.specs.State.{no_leg, strategy_at, leg_at, with_strategies, with_nets, no_specialist}
use Rattle.rules.specs.Nets.{nets_in}

-- the ratio of the leg at place i; a definition has six rows of legs, the first count in use
abbrev pub ratio_of : List Leg → ℕ → ℕ
ratio_of legs i = (get_or legs i no_leg).ratio

-- the series of the leg at place i
abbrev pub series_of : List Leg → ℕ → ℕ
series_of legs i = (get_or legs i no_leg).series

-- the divisor so far and the ratio of the leg at place i
abbrev pub divisor_step : List Leg → ℕ → ℕ → ℕ
divisor_step legs i d = gcd (ratio_of legs i) d

-- "their greatest common divisor, found by Euclid's step calling itself": of the ratios of the count legs
unfoldable pub divisor : List Leg → ℕ → ℕ
divisor legs count = walk (divisor_step legs) 0 count

-- the leg at place i, its ratio divided
abbrev pub divided_at : List Leg → ℕ → ℕ → Leg
divided_at legs d i = record { series = series_of legs i; side = (get_or legs i no_leg).side; ratio = ratio_of legs i / d }

-- "Ratios are divided by their greatest common divisor": all six rows
unfoldable pub lowest_terms : List Leg → ℕ → List Leg
lowest_terms legs count = table (divided_at legs (divisor legs count)) 6

-- "Legs stand by rising series": by_series takes from the legs the one in series 0, if there is one, then the one in series 1, and on to 31.
-- The four definitions before it find the leg in a series.

-- whether the leg at place i is in series s
abbrev pub in_series : List Leg → ℕ → ℕ → Bool
in_series legs s i = eqb (series_of legs i) s

-- the place of the leg in a series, count where there is none
unfoldable pub place_of : List Leg → ℕ → ℕ → ℕ
place_of legs count s = first_n (in_series legs s) count

-- whether a leg is in the series
abbrev pub present : List Leg → ℕ → ℕ → Bool
present legs count s = ltb (place_of legs count s) count

-- the leg in a series, if there is one
abbrev pub legs_of : List Leg → ℕ → ℕ → List Leg
legs_of legs count s = pick (present legs count s) (get_or legs (place_of legs count s) no_leg ∷ []) []

-- the legs by rising series
unfoldable pub by_series : List Leg → ℕ → List Leg
by_series legs count = join_n (legs_of legs count) 32

-- six rows: the legs, and empty ones behind them
unfoldable pub padded : List Leg → List Leg
padded ls = take 6 (ls ++ replicate 6 no_leg)

-- "The series of a strategy are a 32-bit set, so its leg count is the number of ones."
unfoldable pub series_set : List Leg → ℕ → ℕ
series_set legs count = set_n (present legs count) 32

-- the strategy that a definition gives
unfoldable pub defined : List Leg → ℕ → Strategy
defined legs count = record {
  legs = padded (by_series (lowest_terms legs count) count);
  count = size_of (series_set legs count);
  series = series_set legs count;
  starter = 0;
  begun = 0;
  answered = false;
  specialist = no_specialist;
}

-- whether the series of the leg at place i is that of a leg before it
abbrev pub repeats : List Leg → ℕ → Bool
repeats legs i = ltb (first_n (in_series legs (series_of legs i)) i) i

-- "series twice": any of the count legs repeats one
unfoldable pub twice : List Leg → ℕ → Bool
twice legs count = any_n (repeats legs) count

-- the larger so far and that of the leg at place i
abbrev pub largest_step : List Leg → ℕ → ℕ → ℕ
largest_step legs i m = max (ratio_of legs i) m

-- the smaller so far and that of the leg at place i
abbrev pub smallest_step : List Leg → ℕ → ℕ → ℕ
smallest_step legs i m = min (ratio_of legs i) m

-- "largest ratio over 3 × smallest"
unfoldable pub over_threefold : List Leg → ℕ → Bool
over_threefold legs count = ltb (3 * walk (smallest_step legs) 12 count) (walk (largest_step legs) 0 count)

-- two legs are equal: series, side and ratio
unfoldable pub same_leg : Leg → Leg → Bool
same_leg x y = both (eqb x.series y.series) (both (eqb x.side y.side) (eqb x.ratio y.ratio))

-- .. the legs at place i
abbrev pub same_leg_at : Strategy → Strategy → ℕ → Bool
same_leg_at s t i = same_leg (leg_at s i) (leg_at t i)

-- "The comparison with a held strategy leaves at the first leg that differs": none of the six rows does
unfoldable pub same_legs : Strategy → Strategy → Bool
same_legs s t = all_n (same_leg_at s t) 6

-- strategy k has the legs of s
abbrev pub same_at : State → Strategy → ℕ → Bool
same_at b s k = same_legs (strategy_at b k) s

-- "an equal one answers its old number .., else the next number from 0"
unfoldable pub number_of : State → Strategy → ℕ
number_of b s = first_n (same_at b s) b.defined

-- whether an equal one is held
abbrev pub held : State → Strategy → Bool
held b s = ltb (number_of b s) b.defined

-- the next number is the strategy's. 2026-05: "Defining a strategy sets [its nets]"
unfoldable pub added : Strategy → State → State
added s b = with_nets (with_strategies b (set b.strategies b.defined s) (b.defined + 1)) (set b.nets b.defined (nets_in b.orders s))

-- ".. takes no slot": the state with the strategy among those held
unfoldable pub define : Strategy → State → State
define s b = pick (held b s) b (added s b)

-- the shut legs of strategy k, as a set
unfoldable pub shut_set : State → ℕ → ℕ
shut_set b k = minus (strategy_at b k).series b.opened

-- none is shut
abbrev pub all_open : State → ℕ → Bool
all_open b k = eqb (shut_set b k) 0

-- the series is one of the strategy's
abbrev pub holds : State → ℕ → ℕ → Bool
holds b s k = has (strategy_at b k).series s
