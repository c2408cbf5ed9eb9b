-- National prices, the national nets, and the range within which a complex party fills (2026-01).
use Rattle.std.specs.Prelude.{Bool, true, not, List, ℕ, ◌+◌, eqb, leb, get_or, set}
use Rattle.base.specs.Pick.{pick, both, either}
use Rattle.base.specs.Walks.{table}
use Rattle.rules.specs.declared.Leg.{Leg}
use Rattle.rules.specs.declared.Strategy.{Strategy}
use Rattle.rules.specs.declared.Quote.{Quote}
use Rattle.rules.specs.declared.Bounds.{Bounds}
use Rattle.rules.specs.declared.State.{State}
use Rattle.rules.specs.State.{no_leg, no_quote, strategy_at, with_national, with_range}
use Rattle.rules.specs.Sides.{leg_side}
use Rattle.rules.specs.Nets.{net_of}

-- the national price that a complex party of that side meets on a leg: the offer where it buys, the bid where it sells; 0 where it is missing
unfoldable pub national_price : List Quote → ℕ → Leg → ℕ
national_price qs side l = pick (eqb (leg_side side l) 0) (get_or qs l.series no_quote).offer (get_or qs l.series no_quote).bid

-- .. on the leg at place i
abbrev pub national_at : List Quote → ℕ → List Leg → ℕ → ℕ
national_at qs side legs i = national_price qs side (get_or legs i no_leg)

-- .. on each of the six rows
unfoldable pub national_prices : List Quote → ℕ → List Leg → List ℕ
national_prices qs side legs = table (national_at qs side legs) 6

-- 2026-01: "The national nets are formed like our leg nets": the national offer net for a buy, the bid net for a sell, as a level; 0 where it is
-- missing
unfoldable pub national_net : List Quote → ℕ → Strategy → ℕ
national_net qs side s = net_of s (national_prices qs side s.legs)

-- what bounds the fills of a strategy under these prices and this range
unfoldable pub bounds_of : List Quote → ℕ → Strategy → Bounds
bounds_of qs range s = record { offer = national_net qs 0 s; bid = national_net qs 1 s; range = range }

-- .. of strategy k
abbrev pub bounds_at : State → ℕ → Bounds
bounds_at b k = bounds_of b.national b.range (strategy_at b k)

-- 2026-01: "No complex order or sweep that buys fills above the national offer net plus the range". "A missing national net bounds nothing"
unfoldable pub may_buy : Bounds → ℕ → Bool
may_buy w level = pick (eqb w.offer 0) true (leb level (w.offer + w.range))

-- ".. and none that sells below the national bid net less it"
unfoldable pub may_sell : Bounds → ℕ → Bool
may_sell w level = pick (eqb w.bid 0) true (leb w.bid (level + w.range))

-- "either complex party": the test of a fill at a level, by whether a complex order or sweep buys in it, and whether one sells
unfoldable pub may_fill : Bounds → Bool → Bool → ℕ → Bool
may_fill w buys sells level = both (either (not buys) (may_buy w level)) (either (not sells) (may_sell w level))

-- .. of whole against whole: one buys, one sells
abbrev pub may_meet : Bounds → ℕ → Bool
may_meet w level = may_fill w true true level

-- .. by the legs: the active entry alone, of that side
abbrev pub may_take : Bounds → ℕ → ℕ → Bool
may_take w side level = may_fill w (eqb side 0) (not (eqb side 0)) level

-- 2026-01: "Kind 9 carries series, national bid (4) and offer (4)": both are set, "0 meaning missing"
unfoldable pub on_national : ℕ → Quote → State → State
on_national s q b = with_national b (set b.national s q)

-- "Kind 10 carries the range in cents"
unfoldable pub on_range : ℕ → State → State
on_range cents b = with_range b cents
