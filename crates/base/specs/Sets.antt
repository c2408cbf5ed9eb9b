-- Sets of the numbers 0 to 31, each a number of 32 binary digits.
use Rattle.std.specs.Prelude.{Bool, true, false, ℕ, ◌/◌, ◌%◌, ◌^◌, eqb}
use Rattle.std.specs.Int.Count.{ones_in, count_trailing_zeros}
use Rattle.base.specs.Pick.{pick}
use Rattle.base.specs.Walks.{sum_n}

-- whether s is in the set
unfoldable pub has : ℕ → ℕ → Bool
has x s = eqb (x / 2 ^ s % 2) 1

-- those below k for which f holds
abbrev pub bit_at : (ℕ → Bool) → ℕ → ℕ
bit_at f s = pick (f s) (2 ^ s) 0

unfoldable pub set_n : (ℕ → Bool) → ℕ → ℕ
set_n f k = sum_n (bit_at f) k

-- what is in x and not in y
abbrev pub lacks : ℕ → ℕ → ℕ → Bool
lacks x y s = pick (has x s) (pick (has y s) false true) false

unfoldable pub minus : ℕ → ℕ → ℕ
minus x y = set_n (lacks x y) 32

-- how many are in it: the number of ones
unfoldable pub size_of : ℕ → ℕ
size_of x = ones_in 32 x

-- the lowest in it, 32 where it is empty: the number of zeros below the lowest one
unfoldable pub lowest_of : ℕ → ℕ
lowest_of x = count_trailing_zeros 32 x
