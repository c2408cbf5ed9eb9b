-- Sides and prices. "Side is 0 buy, 1 sell."
use Rattle.std.specs.Prelude.{Bool, ℕ, eqb, leb, ltb}
use Rattle.base.specs.Pick.{pick}
use Rattle.rules.specs.declared.Leg.{Leg}

-- the other side
unfoldable pub other : ℕ → ℕ
other side = pick (eqb side 0) 1 0

-- "A buy takes each leg on its own side, a sell on the other."
unfoldable pub leg_side : ℕ → Leg → ℕ
leg_side side l = pick (eqb side 0) l.side (other l.side)

-- whether a price meets a limit: a buy pays no more, a sell takes no less
unfoldable pub meets : ℕ → ℕ → ℕ → Bool
meets side limit price = pick (eqb side 0) (leb price limit) (leb limit price)

-- FOR THE ONE WHO TRADES: whether price x is strictly better than y for a party of that side that pays or takes it: the lower for a buy,
-- the higher for a sell
unfoldable pub better : ℕ → ℕ → ℕ → Bool
better side x y = pick (eqb side 0) (ltb x y) (ltb y x)

-- IN A BOOK: the best price of the orders of that side (0: none yet) and one more: the higher bid, the lower offer. It is the price that is
-- worse for that side's own party, since it is the better one for whoever trades against it
unfoldable pub best_price : ℕ → ℕ → ℕ → ℕ
best_price side p q = pick (eqb p 0) q (pick (better side p q) q p)
