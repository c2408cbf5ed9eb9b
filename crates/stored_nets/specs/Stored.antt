-- Stored nets by best prices: those of any prices by series and side, and what they become where one price changes.
use Rattle.std.specs.Prelude.{◌≡◌, List, ℕ, ◌+◌, ◌-◌, ◌*◌, ◌≤◌, eqb, get_or, Option}
use Rattle.std.specs.Option.{option_map_or}
use Rattle.std.proofs.Common.{None, Some}
use Rattle.base.specs.Pick.{pick, both}
use Rattle.base.specs.Walks.{table}
use Rattle.base.specs.Sets.{has}
use Rattle.rules.specs.Sizes.{strategy_slots}
use Rattle.rules.specs.declared.Leg.{Leg}
use Rattle.rules.specs.declared.Strategy.{Strategy}
use Rattle.rules.specs.declared.LegOrder.{LegOrder}
use Rattle.rules.specs.declared.LegNets.{LegNets}
use Rattle.rules.specs.Rows.{no_leg, no_strategy, no_nets}
use Rattle.rules.specs.Sides.{other, leg_side}
use Rattle.rules.specs.Nets.{price_of, prices, net_of}
use Rattle.rules.specs.Strategies.{place_of}

-- best prices by series and side, 0 where there is none
abbrev pub Prices : Type 0
Prices = ℕ → ℕ → ℕ

-- .. of which that of one series and side is q
unfoldable pub with_price : Prices → ℕ → ℕ → ℕ → Prices
with_price f s d q x e = pick (both (eqb x s) (eqb e d)) q (f x e)

-- the price that a complex party of that side meets on each leg
unfoldable pub leg_prices : Prices → ℕ → List Leg → List ℕ
leg_prices f side legs = table (λ (i : ℕ). f (get_or legs i no_leg).series (other (leg_side side (get_or legs i no_leg)))) 6

-- both nets of a strategy at these prices; a free row has none
unfoldable pub nets_by : Prices → Strategy → LegNets
nets_by f t = pick (eqb t.count 0) no_nets (record { bid = net_of t (leg_prices f 1 t.legs); offer = net_of t (leg_prices f 0 t.legs) })

-- .. of each of the 16
unfoldable pub all_nets_by : Prices → List Strategy → List LegNets
all_nets_by f ss = table (λ (k : ℕ). nets_by f (get_or ss k no_strategy)) strategy_slots

-- the ranges of stored nets
pub record FitNets (n : LegNets) : Type 0 where
  pub bid : n.bid ≤ 20_000_000
  pub offer : n.offer ≤ 20_000_000

-- of both nets of a strategy the one that a complex party of that side meets
unfoldable pub net_for : LegNets → ℕ → ℕ
net_for n side = pick (eqb side 0) n.offer n.bid

-- the leg of a series
unfoldable pub leg_of : Strategy → ℕ → Option Leg
leg_of t s = pick (eqb (place_of t.legs t.count s) t.count) None (Some (get_or t.legs (place_of t.legs t.count s) no_leg))

-- what becomes of the nets n of a strategy by its leg of series s, if it holds that
abbrev pub by_leg : Strategy → ℕ → LegNets → (Leg → LegNets) → LegNets
by_leg t s n f = pick (has t.series s) (option_map_or f (leg_of t s) n) n

-- a net after the price of leg l in it, which was there, went from p to q
unfoldable pub net_moved : ℕ → Leg → ℕ → ℕ → ℕ
net_moved net l p q =
    pick (eqb net 0) 0
    (pick (eqb q 0) 0
    (pick (eqb l.side 0) (net + l.ratio * q - l.ratio * p) (net + l.ratio * p - l.ratio * q)))

-- both nets after the price of leg l on that side, which was there, went from p to q. The bid net takes a leg's price on the leg's own side, the offer
-- net on the other side, so one of them moves
unfoldable pub nets_moved : LegNets → Leg → ℕ → ℕ → ℕ → LegNets
nets_moved n l side p q =
    pick (eqb l.side side) (record { bid = net_moved n.bid l p q; offer = n.offer }) (record { bid = n.bid; offer = net_moved n.offer l p q })

-- .. of the strategy at slot k, if it holds series s
abbrev pub moved_at : List LegNets → List Strategy → ℕ → ℕ → ℕ → ℕ → ℕ → LegNets
moved_at ns ss s side p q k = by_leg (get_or ss k no_strategy) s (get_or ns k no_nets) (λ (l : Leg). nets_moved (get_or ns k no_nets) l side p q)

-- .. of each of the 16
unfoldable pub all_moved : List LegNets → List Strategy → ℕ → ℕ → ℕ → ℕ → List LegNets
all_moved ns ss s side p q = table (moved_at ns ss s side p q) strategy_slots

-- both nets of strategy t, of which the one that takes the price of leg l on that side is that of these leg orders
unfoldable pub nets_anew : LegNets → Strategy → Leg → ℕ → List LegOrder → LegNets
nets_anew n t l side os =
    pick (eqb l.side side) (record { bid = net_of t (prices os 1 t.legs); offer = n.offer }) (record { bid = n.bid; offer = net_of t (prices os 0 t.legs) })

-- .. of the strategy at slot k, if it holds series s
abbrev pub anew_at : List LegNets → List Strategy → List LegOrder → ℕ → ℕ → ℕ → LegNets
anew_at ns ss os s side k = by_leg (get_or ss k no_strategy) s (get_or ns k no_nets) (λ (l : Leg). nets_anew (get_or ns k no_nets) (get_or ss k no_strategy) l side os)

-- .. of each of the 16
unfoldable pub all_anew : List LegNets → List Strategy → List LegOrder → ℕ → ℕ → List LegNets
all_anew ns ss os s side = table (anew_at ns ss os s side) strategy_slots

-- .. by whether the price of leg l was there before
unfoldable pub nets_after : LegNets → Strategy → Leg → ℕ → List LegOrder → ℕ → ℕ → LegNets
nets_after n t l side os p q = pick (eqb p 0) (nets_anew n t l side os) (nets_moved n l side p q)

-- .. of the strategy at slot k, if it holds series s
abbrev pub after_at : List LegNets → List Strategy → List LegOrder → ℕ → ℕ → ℕ → ℕ → ℕ → LegNets
after_at ns ss os s side p q k = by_leg (get_or ss k no_strategy) s (get_or ns k no_nets) (λ (l : Leg). nets_after (get_or ns k no_nets) (get_or ss k no_strategy) l side os p q)

-- what becomes of the nets ns where the best price of series s on side d goes from p to that among these leg orders: if they were those of some
-- prices, they are those of these prices with that one changed. Where there was no price before, the other prices have to be those of the leg orders.
pub record Refreshed (ns : List LegNets) (ss : List Strategy) (os : List LegOrder) (s d p : ℕ) (ms : List LegNets) : Type 0 where
  pub by : (f : Prices) → ((x e : ℕ) → f x e ≤ 99_999) → ns ≡ all_nets_by f ss → f s d ≡ p
      → (p ≡ 0 → (x e : ℕ) → with_price f s d (price_of os s d) x e ≡ price_of os x e)
      → ms ≡ all_nets_by (with_price f s d (price_of os s d)) ss
