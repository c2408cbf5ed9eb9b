-- The values of an event that was read are in the ranges of its fields. The elements of the frame may be any numbers.
use mathlib.Core.Path.{◌≡◌, refl}
use mathlib.Core.Bool.{Bool, true, false}
use mathlib.Core.List.{List}
use Prim.Native.Nat.{ℕ, zero, suc, ◌+◌, ◌-◌, ◌*◌, ◌^◌, ◌≤◌, ◌<◌}
use native.Mathlib.Nat.{le_refl, mod-le}
use native.Mathlib.Omega.{arith}
use borrow.Author.Tests.{eqb-true, eqb-false, lt-ltb}
use lib.Dec.{eqb}
use lib.ListN.{get_or}
use Rattle.base.specs.All.{All, all_nil, all_cons}
use Rattle.base.specs.Pick.{pick, pick_all}
use Rattle.events.specs.Fields.{low, high, none, layout, present_of, offset, fit_n, fit_at_lem}
use Rattle.events.specs.Kinds.{length_of}
use Rattle.events.specs.Table.{count, fields_of, layout_of}
use Rattle.events.specs.Rows.{leg_from, event_of}
use Rattle.events.specs.Laws.{first_field}
use Rattle.events.specs.declared.Field.{Field}
use Rattle.events.specs.declared.Kind.{Kind}
use Rattle.events.specs.declared.Kind.TheVariants as K
use Rattle.events.specs.declared.Strategy.{Strategy as GivenStrategy}
use Rattle.frames.specs.Number.{number}
use Rattle.frames.specs.Bodies.{value_at, row-at}
use Rattle.frames.specs.Frames.{count_at, row_at, judge_of, read_of}
use Rattle.frames.specs.Codec.{judged, read-event, read-refused}
use Rattle.rules.specs.State.{no_leg}
use Rattle.rules.specs.Strategies.{series_of, ratio_of}
use Rattle.rules.specs.Given.{leg_given, legs_given}
use Rattle.rules.specs.Valid.{FitLeg}
use Rattle.rules.specs.Fits.{FitGiven, FitReading}

-- the fields of a definition that has room for them
strategy-field : (n j : ℕ) → j < 1 + 3 * n → layout_of K.Strategy n j ≡ get_or (fields_of K.Strategy) j none
unfolding layout_of layout present_of length_of pick
strategy-field n j h = rw (lt-ltb j (5 + 3 * n - 4) (omega arith))

field-under : (n j : ℕ) → high (layout_of K.Strategy n j) ≤ high (get_or (fields_of K.Strategy) j none)
unfolding layout_of layout present_of
field-under n j = pick_all (λ (x : Field). high x ≤ high (get_or (fields_of K.Strategy) j none)) _ (le_refl _) (omega arith)

module _ (n : ℕ) (v : List ℕ) (t : fit_n (layout_of K.Strategy n) v 19 ≡ true) (m : get_or v 0 0 ≤ n) where
  value_in : (j : ℕ) → j < 19 → j < 1 + 3 * n → (low (get_or (fields_of K.Strategy) j none) ≤ get_or v j 0) × (get_or v j 0 ≤ high (get_or (fields_of K.Strategy) j none))
  value_in j h l = rw (strategy-field n j l) at (fit_at_lem (layout_of K.Strategy n) v 19 j h t)

  count-in : (2 ≤ get_or v 0 0) × (get_or v 0 0 ≤ 6)
  count-in = value_in 0 (omega arith) (omega arith)

  abbrev given : GivenStrategy
  given = record { count = get_or v 0 0; legs = (leg_from v 1, leg_from v 4, leg_from v 7, leg_from v 10, leg_from v 13, leg_from v 16) }

  -- the three fields of a leg
  record LegIn (i : ℕ) : Type 0 where
    pub series : series_of (legs_given given) i ≤ 31
    pub side : (get_or (legs_given given) i no_leg).side ≤ 1
    pub ratio : (1 ≤ ratio_of (legs_given given) i) × (ratio_of (legs_given given) i ≤ 12)

  leg-in : (i : ℕ) → i < get_or v 0 0 → LegIn i
  leg-in zero h = record { series = (value_in 1 (omega arith) (omega arith)).1; side = (value_in 2 (omega arith) (omega arith)).1; ratio = value_in 3 (omega arith) (omega arith) }
  leg-in (suc zero) h = record { series = (value_in 4 (omega arith) (omega arith)).1; side = (value_in 5 (omega arith) (omega arith)).1; ratio = value_in 6 (omega arith) (omega arith) }
  leg-in (suc (suc zero)) h = record { series = (value_in 7 (omega arith) (omega arith)).1; side = (value_in 8 (omega arith) (omega arith)).1; ratio = value_in 9 (omega arith) (omega arith) }
  leg-in (suc (suc (suc zero))) h = record { series = (value_in 10 (omega arith) (omega arith)).1; side = (value_in 11 (omega arith) (omega arith)).1; ratio = value_in 12 (omega arith) (omega arith) }
  leg-in (suc (suc (suc (suc zero)))) h = record { series = (value_in 13 (omega arith) (omega arith)).1; side = (value_in 14 (omega arith) (omega arith)).1; ratio = value_in 15 (omega arith) (omega arith) }
  leg-in (suc (suc (suc (suc (suc zero))))) h = record { series = (value_in 16 (omega arith) (omega arith)).1; side = (value_in 17 (omega arith) (omega arith)).1; ratio = value_in 18 (omega arith) (omega arith) }
  leg-in (suc (suc (suc (suc (suc (suc i)))))) h = absurd (omega (arith, count-in.1))

  -- a field that is not there is no higher than one that is
  value-under : (j : ℕ) → j < 19 → get_or v j 0 ≤ high (get_or (fields_of K.Strategy) j none)
  value-under j h = omega (arith, (fit_at_lem (layout_of K.Strategy n) v 19 j h t).1, field-under n j)

  leg-fit : (j : ℕ) → j < 6 → FitLeg (leg_given (leg_from v (1 + 3 * j)))
  leg-fit zero h = record { series = omega (arith, value-under 1 (omega arith)); side = value-under 2 (omega arith); ratio = value-under 3 (omega arith) }
  leg-fit (suc zero) h = record { series = omega (arith, value-under 4 (omega arith)); side = value-under 5 (omega arith); ratio = value-under 6 (omega arith) }
  leg-fit (suc (suc zero)) h = record { series = omega (arith, value-under 7 (omega arith)); side = value-under 8 (omega arith); ratio = value-under 9 (omega arith) }
  leg-fit (suc (suc (suc zero))) h = record { series = omega (arith, value-under 10 (omega arith)); side = value-under 11 (omega arith); ratio = value-under 12 (omega arith) }
  leg-fit (suc (suc (suc (suc zero)))) h = record { series = omega (arith, value-under 13 (omega arith)); side = value-under 14 (omega arith); ratio = value-under 15 (omega arith) }
  leg-fit (suc (suc (suc (suc (suc zero))))) h = record { series = omega (arith, value-under 16 (omega arith)); side = value-under 17 (omega arith); ratio = value-under 18 (omega arith) }
  leg-fit (suc (suc (suc (suc (suc (suc j)))))) h = absurd (omega arith)

  legs-fit : All FitLeg (legs_given given)
  legs-fit =
      all_cons (leg-fit 0 (omega arith))
      (all_cons (leg-fit 1 (omega arith))
      (all_cons (leg-fit 2 (omega arith))
      (all_cons (leg-fit 3 (omega arith)) (all_cons (leg-fit 4 (omega arith)) (all_cons (leg-fit 5 (omega arith)) all_nil)))))

  strategy-fit : FitGiven given
  strategy-fit = record {
    two = count-in.0;
    six = count-in.1;
    series = λ i h. omega (arith, (leg-in i h).series);
    side = λ i h. (leg-in i h).side;
    ratio = λ i h. (leg-in i h).ratio;
    legs = legs-fit;
  }

-- an event whose values fit; the count is no more than the byte that the length was taken from
event-fit : (k : Kind) (n : ℕ) (v : List ℕ) → fit_n (layout_of k n) v 19 ≡ true → (k ≡ K.Strategy → get_or v 0 0 ≤ n) → FitReading (event_of k v)
unfolding layout_of layout present_of length_of pick
event-fit K.Strategy n v t m = strategy-fit n v t (m refl)
event-fit K.Order n v t m =
    let at = fit_at_lem (layout_of K.Order n) v 19 in
    record {
      member = (at 0 (omega arith) t).1;
      strategy = omega (arith, (at 1 (omega arith) t).1);
      side = (at 2 (omega arith) t).1;
      class = (at 3 (omega arith) t).1;
      life = (at 4 (omega arith) t).1;
      units = at 5 (omega arith) t;
      level = at 6 (omega arith) t;
    }
event-fit K.Sweep n v t m =
    let at = fit_at_lem (layout_of K.Sweep n) v 19 in
    record {
      member = (at 0 (omega arith) t).1;
      strategy = omega (arith, (at 1 (omega arith) t).1);
      side = (at 2 (omega arith) t).1;
      units = (at 3 (omega arith) t).1;
      level = at 4 (omega arith) t;
    }
event-fit K.LegOrder n v t m =
    let at = fit_at_lem (layout_of K.LegOrder n) v 19 in
    record {
      member = (at 0 (omega arith) t).1;
      series = omega (arith, (at 1 (omega arith) t).1);
      side = (at 2 (omega arith) t).1;
      contracts = at 3 (omega arith) t;
      price = at 4 (omega arith) t;
    }
event-fit K.Cancel n v t m = (fit_at_lem (layout_of K.Cancel n) v 19 1 (omega arith) t).0
event-fit K.Series n v t m = omega (arith, (fit_at_lem (layout_of K.Series n) v 19 0 (omega arith) t).1)
event-fit K.Clock n v t m = (fit_at_lem (layout_of K.Clock n) v 19 0 (omega arith) t).1
event-fit K.DayEnd n v t m = fit_at_lem (layout_of K.DayEnd n) v 19 0 (omega arith) t
event-fit K.National n v t m =
    let at = fit_at_lem (layout_of K.National n) v 19 in
    (omega (arith, (at 0 (omega arith) t).1), (at 1 (omega arith) t).1, (at 2 (omega arith) t).1)
event-fit K.Range n v t m = (fit_at_lem (layout_of K.Range n) v 19 0 (omega arith) t).1
event-fit K.Specialist n v t m =
    let at = fit_at_lem (layout_of K.Specialist n) v 19 in
    ((at 0 (omega arith) t).0, (at 0 (omega arith) t).1, omega (arith, (at 1 (omega arith) t).1), (at 2 (omega arith) t).1)
event-fit K.Unknown n v t m = tt

-- a strategy's count is read from the byte that its length is taken from
count_under : (f : List ℕ) (k : Kind) → k ≡ K.Strategy → get_or (row_at k f) 0 0 ≤ count_at f
unfolding row_at offset value_at number
count_under f k s =
    let z : layout_of k (count_at f) 0 ≡ count = rw s (first_field _) in
    let v : get_or (row_at k f) 0 0 ≡ value_at count f 4 = rw z at (row-at (layout_of k (count_at f)) f 19 0 (omega arith) (omega arith)) in
    omega (arith, v, mod-le (get_or f 4 0) (2 ^ 32))

pub reading-fit : (f : List ℕ) → FitReading (read_of f)
reading-fit f = by (eqb (judge_of f) 0) refl
  where
    by : (t : Bool) → eqb (judge_of f) 0 ≡ t → FitReading (read_of f)
    by true e =
        let z = eqb-true _ _ e in
        let j = judged f z in
        rw (read-event f j.known z) (event-fit j.kind (count_at f) (row_at j.kind f) j.fit (count_under f j.kind))
    by false e = rw (read-refused f (eqb-false _ _ e)) tt
