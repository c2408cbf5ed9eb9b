-- The five moves that change a quantity: whole against whole, whole against legs, leg against leg, and the two cancels.
use Rattle.std.specs.Prelude.{List, [], ◌∷◌, ◌++◌, ℕ, ◌+◌, ◌-◌, ◌*◌, min, eqb, get_or, set, replicate}
use Rattle.base.specs.Pick.{pick}
use Rattle.base.specs.Walks.{slot, table, walk, join_n}
use Rattle.rules.specs.Sizes.{table_rows, zero_level}
use Rattle.rules.specs.declared.Leg.{Leg}
use Rattle.rules.specs.declared.Strategy.{Strategy}
use Rattle.rules.specs.declared.Entry.{Entry}
use Rattle.rules.specs.declared.LegOrder.{LegOrder}
use Rattle.rules.specs.declared.State.{State}
use Rattle.rules.specs.declared.Record.{Record}
use Rattle.rules.specs.declared.Kind.TheVariants.{WholeFill, LegFill, LegOrderFill, Cancelled, LegOrderCancelled}
use Rattle.rules.specs.State.{no_leg, no_order, entry_at, order_at, strategy_of, with_entries, with_orders}
use Rattle.rules.specs.Moves.{Moved, still}
use Rattle.rules.specs.Sides.{other, leg_side}
use Rattle.rules.specs.Quotas.{in_turn}
use Rattle.rules.specs.Nets.{lots, prices, net_of, units_of}

-- "1 whole fill (place strategy, units, net)"
abbrev pub whole_record : Entry → ℕ → ℕ → Record
whole_record e q level = record { kind = WholeFill; number = e.number; place = e.strategy; side = e.side; quantity = q; level = level }

-- "2 leg fill (place series, contracts, price; ..)"; "in a complex party's leg fill it is the side it takes on that leg"
abbrev pub leg_record : Entry → ℕ → ℕ → Leg → Record
leg_record e q price l = record { kind = LegFill; number = e.number; place = l.series; side = leg_side e.side l; quantity = l.ratio * q; level = zero_level + price }

-- .. of the leg at place i
abbrev pub leg_record_at : Entry → List Leg → ℕ → List ℕ → ℕ → List Record
leg_record_at e legs q ps i = leg_record e q (slot ps i) (get_or legs i no_leg) ∷ []

-- a complex party's records of a fill: its "whole fill, its leg fills by leg"
unfoldable pub party_records : Entry → Strategy → ℕ → ℕ → List ℕ → List Record
party_records e s q level ps = (whole_record e q level ∷ []) ++ join_n (leg_record_at e s.legs q ps) s.count

-- q units taken from an entry
abbrev pub cut_entry : Entry → ℕ → Entry
cut_entry e q = record { number = e.number; member = e.member; strategy = e.strategy; side = e.side; class = e.class; life = e.life; units = e.units - q; level = e.level }

-- q contracts taken from a leg order
abbrev pub cut_order : LegOrder → ℕ → LegOrder
cut_order o q = record { number = o.number; member = o.member; series = o.series; side = o.side; contracts = o.contracts - q; price = o.price }

-- the state with q units taken from the entry at slot i
unfoldable pub cut : State → ℕ → ℕ → State
cut b i q = with_entries b (set b.entries i (cut_entry (entry_at b i) q))

-- the state with q contracts taken from the leg order at slot i
unfoldable pub cut_leg : State → ℕ → ℕ → State
cut_leg b i q = with_orders b (set b.orders i (cut_order (order_at b i) q))

-- "price 0 where whole met whole"
abbrev pub no_prices : List ℕ
no_prices = replicate 6 0

-- WHOLE AGAINST WHOLE: "the active order's whole fill, its leg fills by leg, then the other side's likewise"; "No fill record has quantity 0"
unfoldable pub whole_fill : State → ℕ → ℕ → ℕ → ℕ → Moved
whole_fill b a h level q =
    let s : Strategy = strategy_of b (entry_at b a) in
    pick (eqb q 0) (still b)
    (record {
      state = cut (cut b a q) h q;
      records = party_records (entry_at b a) s q level no_prices ++ party_records (entry_at b h) s q level no_prices;
    })

-- what a complex party takes on a leg: contracts of a series from leg orders of that side, at that price
pub record LegTake : Type 0 where
  pub series : ℕ
  pub side : ℕ
  pub contracts : ℕ
  pub price : ℕ

-- .. a party of that side on leg l: "offers for buy legs, bids for sell legs", or the reverse
abbrev pub leg_take : ℕ → ℕ → ℕ → Leg → LegTake
leg_take side contracts price l = record { series = l.series; side = other (leg_side side l); contracts = contracts; price = price }

-- .. q units on the leg at place i: ratio × units
abbrev pub takes_at : ℕ → ℕ → List Leg → List ℕ → ℕ → LegTake
takes_at side q legs ps i = leg_take side ((get_or legs i no_leg).ratio * q) (slot ps i) (get_or legs i no_leg)

-- "leg orders at one price go by number": what each of them gives
unfoldable pub leg_quotas : List LegOrder → LegTake → List ℕ
leg_quotas os t = in_turn t.contracts (lots os t.series t.side t.price)

-- a leg order's record of a fill
abbrev pub order_record : LegOrder → ℕ → ℕ → Record
order_record o q price = record { kind = LegOrderFill; number = o.number; place = o.series; side = o.side; quantity = q; level = zero_level + price }

-- "No fill record has quantity 0."
unfoldable pub order_row : LegOrder → ℕ → ℕ → List Record
order_row o q price = pick (eqb q 0) [] (order_record o q price ∷ [])

-- .. of the leg order at slot i, for its quota
abbrev pub order_rows : List LegOrder → List ℕ → ℕ → ℕ → List Record
order_rows os qs price i = order_row (get_or os i no_order) (slot qs i) price

-- the leg orders with quotas taken from them
abbrev pub cut_at : List LegOrder → List ℕ → ℕ → LegOrder
cut_at os qs i = cut_order (get_or os i no_order) (slot qs i)

-- all 32 of them
unfoldable pub cut_orders : List LegOrder → List ℕ → List LegOrder
cut_orders os qs = table (cut_at os qs) table_rows

-- the leg orders' records of a leg, by number
abbrev pub order_records_at : List LegOrder → (ℕ → LegTake) → ℕ → List Record
order_records_at os takes i = join_n (order_rows os (leg_quotas os (takes i)) (takes i).price) table_rows

-- the leg orders after one more leg; the quotas are of the leg orders as they stood
abbrev pub cut_step : List LegOrder → (ℕ → LegTake) → ℕ → List LegOrder → List LegOrder
cut_step os takes i rows = cut_orders rows (leg_quotas os (takes i))

-- .. after each leg
unfoldable pub cut_by_legs : List LegOrder → (ℕ → LegTake) → ℕ → List LegOrder
cut_by_legs os takes count = walk (cut_step os takes) os count

-- entry a takes q units from the legs at these prices: its own records, then "leg orders: leg fills only"
unfoldable pub take_legs : State → ℕ → Strategy → List ℕ → ℕ → Moved
take_legs b a s ps q =
    let e : Entry = entry_at b a in
    let takes : ℕ → LegTake = takes_at e.side q s.legs ps in
    record {
      state = with_orders (cut b a q) (cut_by_legs b.orders takes s.count);
      records = party_records e s q (net_of s ps) ps ++ join_n (order_records_at b.orders takes) s.count;
    }

-- WHOLE AGAINST LEGS: "units = the least of what remains and each best price's contracts divided by ratio, rounded down"
unfoldable pub leg_fill : ℕ → State → Moved
leg_fill a b =
    let e : Entry = entry_at b a in
    let s : Strategy = strategy_of b e in
    let ps : List ℕ = prices b.orders e.side s.legs in
    take_legs b a s ps (units_of b.orders e.side s ps e.units)

-- LEG AGAINST LEG: "at the resting price, incoming record first"
unfoldable pub leg_trade : State → ℕ → ℕ → Moved
leg_trade b a h =
    let o : LegOrder = order_at b a in
    let p : LegOrder = order_at b h in
    let q : ℕ = min o.contracts p.contracts in
    record { state = cut_leg (cut_leg b a q) h q; records = order_record o q p.price ∷ (order_record p q p.price ∷ []) }

-- "3 cancelled (place 0, quantity, price 0)": all that is live of an entry, or of a leg order
abbrev pub cancel_record : Entry → Record
cancel_record e = record { kind = Cancelled; number = e.number; place = 0; side = e.side; quantity = e.units; level = zero_level }

-- the same of a leg order
abbrev pub cancel_leg_record : LegOrder → Record
cancel_leg_record o = record { kind = LegOrderCancelled; number = o.number; place = 0; side = o.side; quantity = o.contracts; level = zero_level }

-- CANCELLED: all that the entry at slot i has; nothing where it has nothing
unfoldable pub cancel_entry : ℕ → State → Moved
cancel_entry i b =
    let e : Entry = entry_at b i in
    pick (eqb e.units 0) (still b) (record { state = cut b i e.units; records = cancel_record e ∷ [] })

-- the same of the leg order at slot i
unfoldable pub cancel_order : ℕ → State → Moved
cancel_order i b =
    let o : LegOrder = order_at b i in
    pick (eqb o.contracts 0) (still b) (record { state = cut_leg b i o.contracts; records = cancel_leg_record o ∷ [] })
