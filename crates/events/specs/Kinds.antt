-- The number and the length of each kind.
use Rattle.std.specs.Prelude.{ℕ, ◌+◌, ◌*◌, ◌≤◌, ◌==◌, Result, Ok, Err}
use Rattle.std.proofs.Common.{arith}
use Rattle.base.specs.Pick.{pick}
use Rattle.events.specs.declared.Kind.{Kind}
use Rattle.events.specs.declared.Kind.TheVariants as K
use Rattle.events.specs.declared.Refusal.{Refusal}
use Rattle.events.specs.declared.Refusal.TheVariants as F

-- "The kinds are told apart in one decision over the number."; "unknown kind" is refused 2
unfoldable pub kind_of : ℕ → Result Kind Refusal
kind_of n =
    pick (n == 1) (Ok K.Strategy)
    (pick (n == 2) (Ok K.Order)
    (pick (n == 3) (Ok K.Sweep)
    (pick (n == 4) (Ok K.LegOrder)
    (pick (n == 5) (Ok K.Cancel)
    (pick (n == 6) (Ok K.Series)
    (pick (n == 7) (Ok K.Clock)
    (pick (n == 8) (Ok K.DayEnd)
    (pick (n == 9) (Ok K.National)
    (pick (n == 10) (Ok K.Range)
    (pick (n == 11) (Ok K.Specialist) (Err F.BadFrame)))))))))))

-- the kind that was found, else the unknown one
abbrev pub known_or : Result Kind Refusal → Kind
known_or (Ok k) = k
known_or (Err r) = K.Unknown

-- the kind of a number, the unknown one where it is no kind's
abbrev pub kind_or_unknown : ℕ → Kind
kind_or_unknown n = known_or (kind_of n)

-- "1 strategy", "2 complex order", "3 sweep", "4 leg order", "5 cancel", "6 series", "7 clock", "8 day end",
-- "Kind 9 carries series, national bid (4) and offer (4)", "Kind 10 carries the range in cents (2)",
-- "Kind 11 names a member (2) and a strategy (1)"
abbrev pub code_of : Kind → ℕ
code_of K.Strategy = 1
code_of K.Order = 2
code_of K.Sweep = 3
code_of K.LegOrder = 4
code_of K.Cancel = 5
code_of K.Series = 6
code_of K.Clock = 7
code_of K.DayEnd = 8
code_of K.National = 9
code_of K.Range = 10
code_of K.Specialist = 11
code_of K.Unknown = 0

-- "Length 16", and so on for each kind; a strategy's without its legs; 0, which no frame of 4 bytes has, for an unknown kind
abbrev pub fixed_of : Kind → ℕ
fixed_of K.Strategy = 5
fixed_of K.Order = 16
fixed_of K.Sweep = 14
fixed_of K.LegOrder = 14
fixed_of K.Cancel = 10
fixed_of K.Series = 6
fixed_of K.Clock = 8
fixed_of K.DayEnd = 6
fixed_of K.National = 13
fixed_of K.Range = 6
fixed_of K.Specialist = 8
fixed_of K.Unknown = 0

-- "Length 5 + 3 × count for every count byte", n being the first field; the fixed length for the other kinds
unfoldable pub length_of : Kind → ℕ → ℕ
length_of k n = pick (code_of k == 1) (fixed_of k + 3 * n) (fixed_of k)

pub fixed-le : (k : Kind) → fixed_of k ≤ 16
fixed-le K.Strategy = omega arith
fixed-le K.Order = omega arith
fixed-le K.Sweep = omega arith
fixed-le K.LegOrder = omega arith
fixed-le K.Cancel = omega arith
fixed-le K.Series = omega arith
fixed-le K.Clock = omega arith
fixed-le K.DayEnd = omega arith
fixed-le K.National = omega arith
fixed-le K.Range = omega arith
fixed-le K.Specialist = omega arith
fixed-le K.Unknown = omega arith
