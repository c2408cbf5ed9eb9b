-- How a quantity is divided over the holders of one price. Sizes and quotas are lists over the 32 slots, 0 where a slot holds nothing.
use Rattle.std.specs.Prelude.{◌≡◌, List, ℕ, ◌+◌, ◌-◌, ◌*◌, ◌/◌, ◌≤◌, min, max, eqb, ltb, leb}
use Rattle.base.specs.Pick.{pick, both}
use Rattle.base.specs.Walks.{sum_n, slot, table}
use Rattle.rules.specs.Sizes.{table_rows}

-- a way to divide what remains over sizes: the quotas
abbrev pub Division : Type 0
Division = ℕ → List ℕ → List ℕ

-- one that gives out what it should: to nobody more than his size; in all what remains, or the sum of the sizes where that is less
pub record GivesOut (divide : Division) : Type 0 where
  pub under : (r : ℕ) (xs : List ℕ) (i : ℕ) → slot (divide r xs) i ≤ slot xs i
  pub sum : (r : ℕ) (xs : List ℕ) → sum_n (slot (divide r xs)) table_rows ≡ min r (sum_n (slot xs) table_rows)

-- "by number": each slot gets what it holds, or what those before it left of r
unfoldable pub in_turn_at : ℕ → List ℕ → ℕ → ℕ
in_turn_at r xs i = min (r - sum_n (slot xs) i) (slot xs i)

-- .. for each of the 32
unfoldable pub in_turn : Division
in_turn r xs = table (in_turn_at r xs) table_rows

-- "remaining × size / group total, rounded down"
unfoldable pub portion : ℕ → ℕ → ℕ → ℕ
portion r total x = r * x / total

-- .. of the holder at slot i
abbrev pub portion_at : ℕ → ℕ → List ℕ → ℕ → ℕ
portion_at r total xs i = portion r total (slot xs i)

-- "then one unit each by number until none is left": n are left as a holder's turn comes
unfoldable pub one_of : ℕ → ℕ → ℕ
one_of n x = pick (eqb x 0) 0 (min n 1)

-- one where slot i holds something
unfoldable pub holder_at : List ℕ → ℕ → ℕ
holder_at xs i = pick (eqb (slot xs i) 0) 0 1

-- the portion and, while any of the n left over are there, one unit
unfoldable pub shared_at : ℕ → ℕ → ℕ → List ℕ → ℕ → ℕ
shared_at r total n xs i = portion_at r total xs i + one_of (n - sum_n (holder_at xs) i) (slot xs i)

-- "The second or third group, when larger than what remains, is shared"; else each has its size
unfoldable pub share : Division
share r xs =
    let total : ℕ = sum_n (slot xs) table_rows in
    pick (leb total r) xs (table (shared_at r total (r - sum_n (portion_at r total xs) table_rows) xs) table_rows)

-- 2026-04: "the greater of its rounded-down share and the rounded-down percentage of what remains after customers, never above its size"
unfoldable pub specialist_portion : ℕ → ℕ → ℕ → ℕ → ℕ
specialist_portion percentage r total x = min x (max (portion r total x) (percentage * r / 100))

-- the sizes of "the rest of the group": all but slot k
unfoldable pub rest_at : ℕ → List ℕ → ℕ → ℕ
rest_at k xs i = pick (eqb i k) 0 (slot xs i)

-- .. of each of the 32
abbrev pub rest_of : ℕ → List ℕ → List ℕ
rest_of k xs = table (rest_at k xs) table_rows

-- q for slot k, and for each other its quota
unfoldable pub beside_at : ℕ → ℕ → List ℕ → ℕ → ℕ
beside_at k q qs i = pick (eqb i k) q (slot qs i)

-- "that sweep gets" q, "The rest of the group shares what is left by the old sharing rule": the sweep at slot k
unfoldable pub beside : ℕ → ℕ → Division
beside k q r xs = table (beside_at k q (share (r - q) (rest_of k xs))) table_rows

-- "where the second group must be shared and the specialist has a sweep there", at slot k (past the table: it has none); elsewhere by the old
-- rule. The least of r and the portion differs from the portion only for a percentage above 100, which no frame carries (proofs
-- Portions.portion-within); with it the division gives out no more than r for every number.
unfoldable pub share_beside : ℕ → ℕ → Division
share_beside k percentage r xs =
    let total : ℕ = sum_n (slot xs) table_rows in
    pick (both (ltb r total) (ltb k table_rows)) (beside k (min r (specialist_portion percentage r total (slot xs k))) r xs) (share r xs)
