-- "No fill record has quantity 0."
use Rattle.std.specs.Prelude.{Result, Ok, Err}
use mathlib.Core.Path.{◌≡◌, refl, ◌∙◌}
use mathlib.Core.List.{List}
use Prim.Native.Nat.{ℕ, zero, suc, ◌*◌, ◌≤◌, ◌<◌, min}
use native.Mathlib.Nat.{mul-le-mul}
use native.Mathlib.Omega.{arith}
use borrow.Author.Tests.{eqb-false}
use lib.Dec.{eqb}
use lib.ListN.{get_or, length}
use Rattle.base.specs.Pick.{pick-by, pick_all}
use Rattle.base.specs.All.{All, all_nil, all_cons, all_append, all-at}
use Rattle.base.specs.Walks.{slot, all_join}
use Rattle.rules.specs.declared.Strategy.{Strategy}
use Rattle.rules.specs.declared.Entry.{Entry}
use Rattle.rules.specs.declared.LegOrder.{LegOrder}
use Rattle.rules.specs.declared.State.{State}
use Rattle.rules.specs.declared.Record.{Record}
use Rattle.rules.specs.declared.Kind.{Kind}
use Rattle.rules.specs.declared.Kind.TheVariants.{WholeFill, LegFill, LegOrderFill, Cancelled, LegOrderCancelled, AuctionBegun, AuctionEnded}
use Rattle.rules.specs.State.{no_strategy, no_order, entry_at, order_at, strategy_at, strategy_of, leg_at, with_entries, with_orders, with_opened, with_clock, with_last}
use Rattle.rules.specs.Moves.{Moved}
use Rattle.rules.specs.Nets.{prices, net_of, units_of}
use Rattle.rules.specs.Fills.{party_records, leg_record_at, no_prices, whole_fill, order_row, order_rows, order_records_at, takes_at, take_legs, leg_fill, leg_trade, cancel_entry, cancel_order, leg_quotas}
use Rattle.rules.specs.Auctions.{begin, close}
use Rattle.rules.specs.Events.{live_order, enter, enter_order}
use Rattle.rules.specs.Given.{order_given, leg_order_given}
use Rattle.rules.specs.Step.{Outcome, refused, perform, refuse_or_perform, step}
use Rattle.rules.specs.Valid.{Sound}
use Rattle.events.specs.declared.Refusal.{Refusal}
use Rattle.events.specs.declared.Event.{Event}
use Rattle.events.specs.declared.Event.TheVariants as E
use Rattle.frames.specs.Frames.{read_of}
use Rattle.rules.proofs.Tables.{behind-length}
use Rattle.rules.proofs.Entering.{fit-past}
use Rattle.rules.proofs.Shrinks.{Shrinks, whole-shrinks, legs-shrinks, trade-shrinks, cancel-shrinks, cancel_order-shrinks, begin-shrinks, close-shrinks, answer-shrinks}
use Rattle.rules.proofs.Control.{Legged, Trading, Kept, meets-standing, legged-some}
use Rattle.rules.proofs.Told.{Told, Starts, told-nothing, told-both, accept-told}

-- a record of a fill has some quantity
unfoldable pub Filled : Record → Type 0
Filled r = fill r.kind r.quantity
  where
    fill : Kind → ℕ → Type 0
    fill WholeFill q = 0 < q
    fill LegFill q = 0 < q
    fill LegOrderFill q = 0 < q
    fill Cancelled q = Unit {0}
    fill LegOrderCancelled q = Unit {0}
    fill AuctionBegun q = Unit {0}
    fill AuctionEnded q = Unit {0}

-- every used leg has a ratio
pub record Ratios (b : State) : Type 0 where
  pub used : (k i : ℕ) → i < (strategy_at b k).count → 0 < (leg_at (strategy_at b k) i).ratio
  pub rows : length b.orders ≡ 32

ratios-shrink : {b c : State} → Shrinks b c → Ratios b → Ratios c
ratios-shrink h r = record { used = λ k i l. rw (h.strategy k).legs (r.used k i (rw (h.strategy k).count at l)); rows = h.order_rows ∙ r.rows }

-- the move's fills have some quantity, and leave the ratios
abbrev Positive : State → Moved → Type 0
Positive = Told Ratios Filled

some-times : (r q : ℕ) → 0 < r → 0 < q → 0 < r * q
some-times r q a b = let h : 1 * 1 ≤ r * q = mul-le-mul a b in h

party-filled : (e : Entry) (s : Strategy) (q level : ℕ) (ps : List ℕ) → 0 < q → ((i : ℕ) → i < s.count → 0 < (leg_at s i).ratio) → All Filled (party_records e s q level ps)
unfolding party_records Filled
party-filled e s q level ps p used =
    all_append (all_cons p all_nil) (all_join (leg_record_at e s.legs q ps) s.count (λ i h. all_cons (some-times (leg_at s i).ratio q (used i h) p) all_nil))

row-filled : (o : LegOrder) (q price : ℕ) → All Filled (order_row o q price)
unfolding order_row Filled
row-filled o q price = pick-by (All Filled) (eqb q 0) (λ _. all_nil) (λ t. all_cons (let n = eqb-false q 0 t in some q n) all_nil)
  where
    some : (q : ℕ) → (q ≡ 0 → ⊥) → 0 < q
    some zero n = absurd (n refl)
    some (suc q) n = omega arith

whole-filled : (b : State) (a h level q : ℕ) → 0 < q → Ratios b → All Filled (whole_fill b a h level q).records
unfolding whole_fill
whole-filled b a h level q p r =
    pick_all (λ (m : Moved). All Filled m.records) (eqb q 0) all_nil
    (all_append (party-filled (entry_at b a) s q level no_prices p (r.used (entry_at b a).strategy)) (party-filled (entry_at b h) s q level no_prices p (r.used (entry_at b a).strategy)))
  where
    s : Strategy
    s = strategy_of b (entry_at b a)

legs-filled : (b : State) (a : ℕ) → Legged b a → Ratios b → All Filled (leg_fill a b).records
unfolding leg_fill take_legs
legs-filled b a l r =
    let e : Entry = entry_at b a in
    let s : Strategy = strategy_of b e in
    let ps : List ℕ = prices b.orders e.side s.legs in
    let q : ℕ = units_of b.orders e.side s ps e.units in
    all_append (party-filled e s q (net_of s ps) ps (legged-some b a l) (r.used e.strategy))
    (all_join (order_records_at b.orders (takes_at e.side q s.legs ps)) s.count
    (λ i _. all_join (order_rows b.orders (leg_quotas b.orders (takes_at e.side q s.legs ps i)) (slot ps i)) 32
    (λ j _. row-filled (get_or b.orders j no_order) (slot (leg_quotas b.orders (takes_at e.side q s.legs ps i)) j) (slot ps i))))

trade-filled : (b : State) (a h : ℕ) → Trading b a h → All Filled (leg_trade b a h).records
unfolding leg_trade Filled
trade-filled b a h t =
    let x = (meets-standing (order_at b a) (order_at b h) t.meets).live in
    let q : 0 < min (order_at b a).contracts (order_at b h).contracts = omega (arith, x, t.live) in
    all_cons q (all_cons q all_nil)

cancel-filled : (b : State) (i : ℕ) → All Filled (cancel_entry i b).records
unfolding cancel_entry Filled
cancel-filled b i = pick_all (λ (m : Moved). All Filled m.records) _ all_nil (all_cons tt all_nil)

cancel_order-filled : (b : State) (i : ℕ) → All Filled (cancel_order i b).records
unfolding cancel_order Filled
cancel_order-filled b i = pick_all (λ (m : Moved). All Filled m.records) _ all_nil (all_cons tt all_nil)

begin-filled : (b : State) (i : ℕ) → All Filled (begin i b).records
unfolding begin Filled
begin-filled b i = all_cons tt all_nil

close-filled : (b : State) (k : ℕ) → All Filled (close k b).records
unfolding close Filled
close-filled b k = all_cons tt all_nil

-- every proper fill is such, so every rule is
pub positive-kept : Kept Positive
positive-kept = record {
  nothing = told-nothing;
  both = told-both;
  whole = λ b a h level q p. record { records = whole-filled b a h level q p.some; state = ratios-shrink (whole-shrinks b a h level q) };
  legs = λ b a l. record { records = legs-filled b a l; state = λ r. ratios-shrink (legs-shrinks b r.rows a) r };
  trade = λ b a h t. record { records = λ _. trade-filled b a h t; state = ratios-shrink (trade-shrinks b a h) };
  cancel = λ b i. record { records = λ _. cancel-filled b i; state = ratios-shrink (cancel-shrinks b i) };
  cancel_order = λ b i. record { records = λ _. cancel_order-filled b i; state = ratios-shrink (cancel_order-shrinks b i) };
  begins = λ b i. record { records = λ _. begin-filled b i; state = ratios-shrink (begin-shrinks b i) };
  closes = λ b k. record { records = λ _. close-filled b k; state = ratios-shrink (close-shrinks b k) };
  answers = λ b k side. record { records = λ _. all_nil; state = ratios-shrink (answer-shrinks b k side) };
}

-- Every event of a sound state.

pub sound-ratios : {b : State} → Sound b → Ratios b
sound-ratios s = record { used = λ k. (all-at no_strategy fit-past s.strategies k).used; rows = s.order_rows }

entered : (e : Entry) (b : State) → Ratios b → Ratios (enter e b)
unfolding enter with_last with_entries
entered e b r = record { used = r.used; rows = r.rows }

order_entered : (o : LegOrder) (b : State) → Ratios b → Ratios (enter_order o b)
unfolding enter_order with_last with_orders
order_entered o b r = record { used = r.used; rows = behind-length live_order no_order o b.orders }

starts : (b : State) (e : Event) → Ratios b → Starts Ratios b e
unfolding with_opened with_clock
starts b (E.Strategy e) r = tt
starts b (E.Order e) r = entered (order_given b e) b r
starts b (E.Sweep e) r = r
starts b (E.LegOrder e) r = order_entered (leg_order_given b e) b r
starts b (E.Cancel e) r = r
starts b (E.Series e) r = λ x. record { used = r.used; rows = r.rows }
starts b (E.Clock e) r = record { used = r.used; rows = r.rows }
starts b (E.DayEnd e) r = r
starts b (E.National e) r = tt
starts b (E.Range e) r = tt
starts b (E.Specialist e) r = tt

perform-filled : (b : State) (r : Result Event Refusal) → Ratios b → All Filled (perform b r).moved.records
unfolding perform refused
perform-filled b (Err c) r = all_nil
perform-filled b (Ok e) r = accept-told positive-kept b e (starts b e r)

pub fills-positive : (b : State) → Sound b → (frame : List ℕ) (space : ℕ) → All Filled (step b frame space).moved.records
unfolding step refuse_or_perform refused
fills-positive b s frame space =
    pick_all (λ (o : Outcome). All Filled o.moved.records) _ (perform-filled b (read_of frame) (sound-ratios s)) all_nil
