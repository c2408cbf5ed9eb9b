-- "Records": what is written of a record. Tags of the rules are not: a reader sees six numbers.
use Rattle.std.specs.Prelude.{List, [], ◌∷◌, ℕ, ℤ, pos, ◌-ℤ◌}
use Rattle.rules.specs.Sizes.{zero_level}
use Rattle.rules.specs.declared.Kind.{Kind}
use Rattle.rules.specs.declared.Kind.TheVariants.{WholeFill, LegFill, LegOrderFill, Cancelled, LegOrderCancelled, AuctionBegun, AuctionEnded}
use Rattle.rules.specs.declared.Record.{Record}

-- "1 whole fill", "2 leg fill", "3 cancelled", "4 auction begun", "5 auction ended"
unfoldable pub kind_number : Kind → ℕ
kind_number WholeFill = 1
kind_number LegFill = 2
kind_number LegOrderFill = 2
kind_number Cancelled = 3
kind_number LegOrderCancelled = 3
kind_number AuctionBegun = 4
kind_number AuctionEnded = 5

-- a price, limit or net in cents, from its level
unfoldable pub cents : ℕ → ℤ
cents level = pos level -ℤ pos zero_level

-- a record as it is read: "kind, order number, place, side, quantity, price"
pub record Line : Type 0 where
  pub kind : ℕ
  pub number : ℕ
  pub place : ℕ
  pub side : ℕ
  pub quantity : ℕ
  pub price : ℤ

-- the line that is read of a record
unfoldable pub line_of : Record → Line
line_of r = record { kind = kind_number r.kind; number = r.number; place = r.place; side = r.side; quantity = r.quantity; price = cents r.level }

-- "Six signed 32-bit numbers each"
unfoldable pub numbers_of : Line → List ℤ
numbers_of l = pos l.kind ∷ (pos l.number ∷ (pos l.place ∷ (pos l.side ∷ (pos l.quantity ∷ (l.price ∷ [])))))
