-- A national net by the rules is the sum over the legs of the event that defined the strategy, in cents (2026-01).
use mathlib.Core.Path.{◌≡◌, refl}
use mathlib.Core.List.{List}
use Prim.Native.Nat.{ℕ, ◌≤◌, ◌<◌}
use lib.ListN.{get_or}
use Rattle.base.specs.Pick.{pick_all}
use Rattle.base.specs.Walks.{table-slot}
use Rattle.events.specs.declared.Strategy.{Strategy as GivenStrategy}
use Rattle.rules.specs.declared.Leg.{Leg}
use Rattle.rules.specs.declared.Strategy.{Strategy}
use Rattle.rules.specs.Sizes.{series_count}
use Rattle.rules.specs.State.{no_leg, no_quote, leg_at}
use Rattle.rules.specs.National.{national_price, national_prices, national_net}
use Rattle.rules.specs.Strategies.{series_of, defined}
use Rattle.rules.specs.Given.{legs_given, strategy_given}
use Rattle.rules.specs.Records.{cents}
use Rattle.rules.specs.Valid.{FitQuote}
use Rattle.rules.specs.Totals.{Logged, quoted, price_said, NetSaid, net_said}
use Rattle.rules.proofs.Strategies.{Definition}
use Rattle.rules.proofs.Nets.{side_same, given, fit-leg}
use Rattle.rules.proofs.Nets as nets
use Rattle.rules.proofs.Known.{quotes_said}

module _ (log : List Logged) (e : GivenStrategy) (def : Definition (legs_given e) e.count) (side : ℕ) (two : side ≤ 1) (most : (x : ℕ) → x < series_count → FitQuote (quoted no_quote log x)) where
  abbrev st : Strategy
  st = defined (legs_given e) e.count

  abbrev price : Leg → ℕ
  price l = national_price (quotes_said log) side l

  -- the price of a leg of the event
  price-said : (i : ℕ) → i < e.count → price (given e def i) ≡ price_said log e side i
  unfolding national_price price_said
  price-said i l =
      rw (side_same side (get_or (legs_given e) i no_leg).side (given e def i) refl two (def.side i l), table-slot (quoted no_quote log) no_quote series_count (series_of (legs_given e) i) (def.series i l))

  price-most : (i : ℕ) → price (leg_at st i) ≤ 99_999
  unfolding national_price
  price-most i =
      let q = most (leg_at st i).series (fit-leg e def i).series in
      rw (table-slot (quoted no_quote log) no_quote series_count (leg_at st i).series (fit-leg e def i).series) (pick_all (λ (x : ℕ). x ≤ 99_999) _ q.offer q.bid)

  pub record Said : Type 0 where
    pub known : 0 < national_net (quotes_said log) side (strategy_given e)
    pub net : cents (national_net (quotes_said log) side (strategy_given e)) ≡ net_said log e side

  pub net-said : NetSaid log e side → Said
  unfolding national_net national_prices strategy_given
  net-said h = let s = nets.net-said e def price price-most (price_said log e side) price-said h in record { known = s.known; net = s.net }

  -- "A missing national net bounds nothing": where a price of it is missing, there is none
  pub net-missing : (i : ℕ) → i < e.count → price_said log e side i ≡ 0 → national_net (quotes_said log) side (strategy_given e) ≡ 0
  unfolding national_net national_prices strategy_given
  net-missing i l z = nets.net-missing e def price price-most (price_said log e side) price-said i l z
