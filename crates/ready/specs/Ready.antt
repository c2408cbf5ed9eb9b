-- The contracts at the best price of each side of every series, and whether the legs of a strategy are ready by them.
use Rattle.std.specs.Prelude.{Bool, List, ℕ, ◌+◌, ◌*◌, ◌/◌, ◌%◌, leb}
use Rattle.base.specs.Walks.{all_n, slot, table}
use Rattle.rules.specs.declared.Leg.{Leg}
use Rattle.rules.specs.declared.Strategy.{Strategy}
use Rattle.rules.specs.declared.LegOrder.{LegOrder}
use Rattle.rules.specs.declared.Best.{Best}
use Rattle.rules.specs.State.{leg_at}
use Rattle.rules.specs.Sides.{other, leg_side}
use Rattle.rules.specs.Nets.{best_of}

-- the place of a side of a series
abbrev pub place_of : ℕ → ℕ → ℕ
place_of s side = s * 2 + side

-- the best of the side of a series at each of the 64 places
unfoldable pub best_table : List LegOrder → List Best
best_table os = table (λ (j : ℕ). best_of os (j / 2) (j % 2)) 64

-- the contracts at the best price of the side of a series at each of the 64 places
unfoldable pub lot_table : List LegOrder → List ℕ
lot_table os = table (λ (j : ℕ). (best_of os (j / 2) (j % 2)).contracts) 64

-- whether the best price that a complex party of that side meets on a leg holds at least its ratio, by such a table
unfoldable pub ready_leg : List ℕ → ℕ → Leg → Bool
ready_leg ls side l = leb l.ratio (slot ls (place_of l.series (other (leg_side side l))))

-- "The legs are ready when each best price holds at least the ratio in contracts."
unfoldable pub ready_by : List ℕ → ℕ → Strategy → Bool
ready_by ls side t = all_n (λ (i : ℕ). ready_leg ls side (leg_at t i)) t.count
