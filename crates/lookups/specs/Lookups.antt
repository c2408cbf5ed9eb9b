-- Depth over the book's own table, and the laws of the lookups.
use Rattle.nets.specs.Bests.{if_priced}
use Rattle.std.specs.Prelude.{◌≡◌, Bool, List, [], ◌∷◌, ℕ, ◌≤◌, ◌<◌, eqb, ltb, get_or, length, true, false, Option, None, Some, Ok, Err}
use Rattle.std.proofs.lemmas.List.{same_lists}
use Rattle.std.specs.List.{sum_by}
use Rattle.std.proofs.Math.Path.{refl, ap}
use Rattle.std.proofs.Common.{sym, ◌∙◌}
use native.Mathlib.Omega.{arith}
use Rattle.std.specs.Int.Count.{ones, count_trailing_zeros}
use Rattle.base.specs.Pick.{pick, pick_all, tests}
use Rattle.base.specs.All.{All}
use Rattle.base.specs.Walks.{sum_n, table, length-table, table-slot, sum-le}
use Rattle.base.specs.Chains.{sum-by-slots}
use Rattle.base.specs.Sets.{lowest_of}
use Rattle.base.specs.SetLaws.{minus-lt, size-ones}
use Rattle.rules.specs.declared.LegOrder.{LegOrder}
use Rattle.rules.specs.declared.OrderEntry.{OrderEntry}
use Rattle.rules.specs.declared.State.{State}
use Rattle.rules.specs.declared.Best.{Best}
use Rattle.rules.specs.declared.Entry.{Entry}
use Rattle.events.specs.declared.Refusal.TheVariants as F
use Rattle.rules.specs.Sizes.{table_rows}
use Rattle.rules.specs.State.{no_entry, no_order}
use Rattle.rules.specs.Strategies.{shut_set}
use Rattle.rules.specs.Nets.{best_of}
use Rattle.rules.specs.Refusals.{undefined}
use Rattle.rules.specs.Lookups.{LookedUp, values, refused_by, depth_tells, shut_tells, units_of_number, contracts_of_number, depth_of, shut_legs}
use Rattle.rules.specs.Valid.{FitEntry, FitOrder}
use Rattle.ranges.specs.Fit.{fit-entry, fit-order}

-- a best price and its contracts as a depth: empty where there is no price
unfoldable pub best_tells : Best → LookedUp
best_tells b = pick (eqb b.price 0) (values []) (values (b.price ∷ (b.contracts ∷ [])))

-- "3 if series or side is out of range"
unfoldable pub book_depth : List LegOrder → ℕ → ℕ → LookedUp
book_depth os s side = pick (ltb 31 s) (refused_by 3) (pick (ltb 1 side) (refused_by 3) (depth_of os s side))

-- a leg order as an order entry
unfoldable pub entry_of : LegOrder → OrderEntry
entry_of o = record { series = o.series; side = o.side; contracts = o.contracts; price = o.price }

-- .. that at slot i
abbrev pub lent_at : List LegOrder → ℕ → OrderEntry
lent_at os i = entry_of (get_or os i no_order)

-- the leg orders as a row of order entries
unfoldable pub lent_row : List LegOrder → List OrderEntry
lent_row os = table (lent_at os) table_rows

-- laws

held-most : (t : Bool) {q : ℕ} → q ≤ 9999 → pick t q 0 ≤ 9999
held-most t h = pick_all (λ (x : ℕ). x ≤ 9999) t h (omega arith)

-- the quantity of a number by the rows of both tables
module _ (b : State) (n : ℕ) where
  -- what an entry or a leg order holds under it
  abbrev pub units_under : Entry → ℕ
  units_under e = pick (eqb e.number n) e.units 0

  abbrev pub contracts_under : LegOrder → ℕ
  contracts_under o = pick (eqb o.number n) o.contracts 0

  pub units-are : length b.entries ≡ 32 → sum_by units_under b.entries ≡ sum_n (units_of_number b n) 32
  units-are l = sum-by-slots no_entry units_under b.entries ∙ ap (sum_n (units_of_number b n)) l

  pub contracts-are : length b.orders ≡ 32 → sum_by contracts_under b.orders ≡ sum_n (contracts_of_number b n) 32
  contracts-are l = sum-by-slots no_order contracts_under b.orders ∙ ap (sum_n (contracts_of_number b n)) l

  pub units-most : All FitEntry b.entries → sum_n (units_of_number b n) 32 ≤ 319968
  units-most f = sum-le (units_of_number b n) 9999 (λ j. held-most _ (fit-entry f j).units) 32

  pub contracts-most : All FitOrder b.orders → sum_n (contracts_of_number b n) 32 ≤ 319968
  contracts-most f = sum-le (contracts_of_number b n) 9999 (λ j. held-most _ (fit-order f j).contracts) 32

-- the depth is that of the best
pub depth-best-of : (os : List LegOrder) (s side : ℕ) → depth_of os s side ≡ best_tells (best_of os s side)
unfolding depth_of best_tells best_of
depth-best-of os s side = refl

pub tells-best : (b : Best) {o : Option Best} → o ≡ if_priced b → depth_tells (Ok o) ≡ best_tells b
unfolding depth_tells best_tells if_priced pick
tells-best b e = rw e (by (eqb b.price 0))
  where
    by : (t : Bool) → depth_tells (Ok (pick t None (Some b))) ≡ pick t (values []) (values (b.price ∷ (b.contracts ∷ [])))
    by true = refl
    by false = refl

-- depth by what the code tests
module _ (os : List LegOrder) (s side : ℕ) where
  pub depth-series : 31 < s → depth_tells (Err F.BadField) ≡ book_depth os s side
  unfolding book_depth depth_tells
  depth-series h = search tests

  pub depth-side : s ≤ 31 → 1 < side → depth_tells (Err F.BadField) ≡ book_depth os s side
  unfolding book_depth depth_tells
  depth-side h g = search tests

  pub depth_is : s ≤ 31 → side ≤ 1 → {b : Best} {x : LookedUp} → b ≡ best_of os s side → x ≡ best_tells b → x ≡ book_depth os s side
  unfolding book_depth
  depth_is h g e t = t ∙ ap best_tells e ∙ rw (sym (depth-best-of os s side)) (search tests)

-- the shut legs by what the code tests
pub shut-undefined : (b : State) (k : ℕ) → b.defined ≤ k → shut_tells (Err F.UnknownStrategy) ≡ shut_legs b k
unfolding shut_legs shut_tells undefined
shut-undefined b k h = search tests

pub shut-legs : (b : State) (k x : ℕ) → k < b.defined → x ≡ shut_set b k → shut_tells (Ok (record { count = ones x; lowest = count_trailing_zeros 32 x })) ≡ shut_legs b k
unfolding shut_legs shut_tells undefined lowest_of shut_set
shut-legs b k x h e = rw (e, ← size-ones (shut_set b k) (minus-lt _ _)) (search tests)

-- the row by what stands at each place
pub row-lent :
    (os : List LegOrder) (row : List OrderEntry) → length row ≡ 32 → ((i : ℕ) (d : OrderEntry) → i < 32 → get_or row i d ≡ entry_of (get_or os i no_order)) → row ≡ lent_row os
unfolding lent_row
row-lent os row l h =
    same_lists row (table (lent_at os) 32) (l ∙ sym (length-table (lent_at os) 32))
    (λ i d k. let m : i < 32 = omega arith in h i d m ∙ sym (table-slot (lent_at os) d 32 i m))
