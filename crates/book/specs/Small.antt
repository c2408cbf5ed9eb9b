-- "Six signed 32-bit numbers each": every number of every record that an event writes fits.
use Rattle.std.specs.Prelude.{◌≡◌, refl, Bool, true, false, List, [], ◌∷◌, ℕ, ◌*◌, ◌≤◌, ◌<◌, eqb, get_or}
use Rattle.std.proofs.Common.{sym, ◌∙◌, mul-le-mul, arith, eqb-true, eq-eqb, ne_eqb, leb-true}
use Rattle.std.proofs.lemmas.Bool.{eqb-false}
use Rattle.base.specs.Pick.{pick_all, pick_true, pick-false}
use Rattle.base.specs.All.{All, all_nil, all_cons, all_append}
use Rattle.base.specs.Walks.{slot, all_join}
use Rattle.events.specs.declared.Event.{Event}
use Rattle.events.specs.declared.Event.TheVariants as E
use Rattle.rules.specs.declared.Leg.{Leg}
use Rattle.rules.specs.declared.Strategy.{Strategy}
use Rattle.rules.specs.declared.Entry.{Entry}
use Rattle.rules.specs.declared.LegOrder.{LegOrder}
use Rattle.rules.specs.declared.State.{State}
use Rattle.rules.specs.declared.Record.{Record}
use Rattle.rules.specs.State.{no_leg, no_order, entry_at, strategy_of, leg_at}
use Rattle.rules.specs.Moves.{Moved}
use Rattle.rules.specs.Sides.{other, leg_side, meets}
use Rattle.rules.specs.Nets.{lot_at, lots, prices, net_of, units_of}
use Rattle.rules.specs.Fills.{party_records, leg_record_at, no_prices, whole_fill, leg_quotas, order_row, order_rows, order_records_at, takes_at, take_legs, leg_fill, leg_trade, cancel_entry, cancel_order, leg_take}
use Rattle.rules.specs.Auctions.{begin, close}
use Rattle.rules.specs.Refusals.{first_cause, causes}
use Rattle.rules.specs.Step.{accept}
use Rattle.rules.specs.Fits.{FitEvent}
use Rattle.rules.specs.Valid.{FitEntry, FitOrder, Valid}
use Rattle.rules.proofs.Quotas.{in_turn-under}
use Rattle.rules.proofs.Gives.{opposed}
use Rattle.rules.proofs.Control.{Proper, Kept, legged-mine}
use Rattle.rules.proofs.Told.{Told, Starts, told-nothing, told-both, accept-told}
use Rattle.rules.proofs.Entering.{sound-enter, sound-enter_order, sound-clock}
use Rattle.rules.proofs.Validity.{order-clear, leg_order-clear}
use Rattle.records.specs.Space.{Small}
use Rattle.ranges.specs.Most.{AtMost, table-most, zeros-most, under-most}
use Rattle.ranges.specs.Fit.{FitLegs, fit-leg, fit-legs, fit-entry, fit-order}
use Rattle.nets.specs.Nets.{net-most, prices-most, lot-most}
use Rattle.auctions.specs.Ranged.{Ranged, ranged-kept, ranged-sound}
use Rattle.series.specs.Series.{opened-ranged}

one-small : (r : Record) → r.number < 2_147_483_648 → r.quantity < 2_147_483_648 → r.level < 2_147_483_648 → All Small (r ∷ [])
one-small r n q l = all_cons (record { number = n; quantity = q; level = l }) all_nil

-- A party's records: its units, its level and the prices are in range.
party-small : (e : Entry) (s : Strategy) (q level : ℕ) (ps : List ℕ) → FitEntry e → FitLegs s → q ≤ 9999 → level ≤ 20_000_000 → AtMost 99_999 ps → All Small (party_records e s q level ps)
unfolding party_records
party-small e s q level ps f g h l m =
    all_append (one-small _ (omega (arith, f.number)) (omega arith) (omega arith))
    (all_join (leg_record_at e s.legs q ps) s.count
    (λ i _. let x : (leg_at s i).ratio * q ≤ 12 * 9999 = mul-le-mul (fit-leg g.legs i).ratio h in
    one-small _ (omega (arith, f.number)) (omega arith) (omega (arith, m.at i))))

-- A level that meets both limits of two that oppose each other is no more than the buyer's.
limit-under : (side x level : ℕ) → meets side x level ≡ true → side ≡ 0 → level ≤ x
unfolding meets
limit-under side x level m z = leb-true _ _ (sym (pick_true _ _ _ (eq-eqb side 0 z)) ∙ m)

other-buys : (side : ℕ) → (side ≡ 0 → ⊥) → other side ≡ 0
unfolding other
other-buys side n = pick-false _ _ _ (ne_eqb side 0 n)

proper-level : {b : State} {a h level q : ℕ} → Ranged b → Proper b a h level q → level ≤ 20_000_000
proper-level {b} {a} {h} {level} r p = by (eqb (entry_at b a).side 0) refl
  where
    by : (t : Bool) → eqb (entry_at b a).side 0 ≡ t → level ≤ 20_000_000
    by true e = omega (arith, limit-under (entry_at b a).side (entry_at b a).level level p.limit (eqb-true _ _ e), (fit-entry r.fit.entries a).level)
    by false e =
        let s : (entry_at b h).side ≡ 0 = (opposed (entry_at b a) (entry_at b h) p.opposed).side ∙ other-buys (entry_at b a).side (eqb-false _ _ e) in
        omega (arith, limit-under (entry_at b h).side (entry_at b h).level level p.its_limit s, (fit-entry r.fit.entries h).level)

whole-small : (b : State) (a h level q : ℕ) → Proper b a h level q → Ranged b → All Small (whole_fill b a h level q).records
unfolding whole_fill
whole-small b a h level q p r =
    let s : FitLegs (strategy_of b (entry_at b a)) = fit-legs r.fit.strategies (entry_at b a).strategy in
    let few : q ≤ 9999 = omega (arith, p.mine, (fit-entry r.fit.entries a).units) in
    let top : level ≤ 20_000_000 = proper-level r p in
    pick_all (λ (m : Moved). All Small m.records) (eqb q 0) all_nil
    (all_append (party-small _ _ q level no_prices (fit-entry r.fit.entries a) s few top (zeros-most 99_999 6)) (party-small _ _ q level no_prices (fit-entry r.fit.entries h) s few top (zeros-most 99_999 6)))

-- A leg order's record of its quota.
row_small : (o : LegOrder) (q price : ℕ) → FitOrder o → q ≤ 9999 → price ≤ 99_999 → All Small (order_row o q price)
unfolding order_row
row_small o q price f h l = pick_all (All Small) (eqb q 0) all_nil (one-small _ (omega (arith, f.number)) (omega arith) (omega arith))

quotas-most : (os : List LegOrder) (side c price : ℕ) (l : Leg) → All FitOrder os → AtMost 9999 (leg_quotas os (leg_take side c price l))
unfolding leg_quotas lots
quotas-most os side c price l a =
    under-most 9999 (in_turn-under c _) (table-most (lot_at os l.series (other (leg_side side l)) price) 9999 (λ i. lot-most _ _ _ (get_or os i no_order) (fit-order a i)) 32)

legs-small : (b : State) (a : ℕ) → Ranged b → All Small (leg_fill a b).records
unfolding leg_fill take_legs
legs-small b a r =
    let e : Entry = entry_at b a in
    let s : Strategy = strategy_of b e in
    let ps : List ℕ = prices b.orders e.side s.legs in
    let q : ℕ = units_of b.orders e.side s ps e.units in
    let f : FitLegs s = fit-legs r.fit.strategies e.strategy in
    let m : AtMost 99_999 ps = prices-most b.orders e.side s.legs r.fit.orders in
    let few : q ≤ 9999 = omega (arith, legged-mine b a, (fit-entry r.fit.entries a).units) in
    let top : net_of s ps ≤ 20_000_000 = omega (arith, net-most s ps f m) in
    all_append (party-small e s q (net_of s ps) ps (fit-entry r.fit.entries a) f few top m)
    (all_join (order_records_at b.orders (takes_at e.side q s.legs ps)) s.count
    (λ i _. all_join (order_rows b.orders (leg_quotas b.orders (takes_at e.side q s.legs ps i)) (slot ps i)) 32
    (λ j _. row_small (get_or b.orders j no_order) _ _ (fit-order r.fit.orders j) ((quotas-most b.orders e.side ((get_or s.legs i no_leg).ratio * q) (slot ps i) (get_or s.legs i no_leg) r.fit.orders).at j) (m.at i))))

trade-small : (b : State) (a h : ℕ) → Ranged b → All Small (leg_trade b a h).records
unfolding leg_trade
trade-small b a h r =
    let f = fit-order r.fit.orders a in
    let g = fit-order r.fit.orders h in
    all_append {l = _ ∷ []} (one-small _ (omega (arith, f.number)) (omega (arith, f.contracts)) (omega (arith, g.price)))
    (one-small _ (omega (arith, g.number)) (omega (arith, f.contracts)) (omega (arith, g.price)))

cancel-small : (b : State) (i : ℕ) → Ranged b → All Small (cancel_entry i b).records
unfolding cancel_entry
cancel-small b i r =
    let f = fit-entry r.fit.entries i in
    pick_all (λ (m : Moved). All Small m.records) _ all_nil (one-small _ (omega (arith, f.number)) (omega (arith, f.units)) (omega arith))

cancel_order-small : (b : State) (i : ℕ) → Ranged b → All Small (cancel_order i b).records
unfolding cancel_order
cancel_order-small b i r =
    let f = fit-order r.fit.orders i in
    pick_all (λ (m : Moved). All Small m.records) _ all_nil (one-small _ (omega (arith, f.number)) (omega (arith, f.contracts)) (omega arith))

begin-small : (b : State) (i : ℕ) → Ranged b → All Small (begin i b).records
unfolding begin
begin-small b i r =
    let f = fit-entry r.fit.entries i in
    one-small _ (omega (arith, f.number)) (omega (arith, f.units)) (omega (arith, f.level))

close-small : (b : State) (k : ℕ) → Ranged b → All Small (close k b).records
unfolding close
close-small b k r = one-small _ (omega (arith, (r.auction k).starter)) (omega arith) (omega arith)

-- Every proper fill writes such records, so every rule does.
small-kept : Kept (Told Ranged Small)
small-kept = record {
  nothing = told-nothing;
  both = told-both;
  whole = λ b a h level q p. record { records = whole-small b a h level q p; state = ranged-kept.whole b a h level q p };
  legs = λ b a l. record { records = legs-small b a; state = ranged-kept.legs b a l };
  trade = λ b a h t. record { records = trade-small b a h; state = ranged-kept.trade b a h t };
  cancel = λ b i. record { records = cancel-small b i; state = ranged-kept.cancel b i };
  cancel_order = λ b i. record { records = cancel_order-small b i; state = ranged-kept.cancel_order b i };
  begins = λ b i. record { records = begin-small b i; state = ranged-kept.begins b i };
  closes = λ b k. record { records = close-small b k; state = ranged-kept.closes b k };
  answers = λ b k side. record { records = λ _. all_nil; state = ranged-kept.answers b k side };
}

-- The states from which an event that nothing refuses moves.
starts : (b : State) (e : Event) → Valid b → FitEvent e → first_cause (causes b e) ≡ 0 → Starts Ranged b e
starts b (E.Strategy e) v f c = tt
starts b (E.Order e) v f c = ranged-sound (sound-enter b _ v.sound (order-clear b e v.sound f c))
starts b (E.Sweep e) v f c = ranged-sound v.sound
starts b (E.LegOrder e) v f c = ranged-sound (sound-enter_order b _ v.sound (leg_order-clear b e f c))
starts b (E.Cancel e) v f c = ranged-sound v.sound
starts b (E.Series e) v f c = λ x. opened-ranged b x (ranged-sound v.sound)
starts b (E.Clock e) v f c = ranged-sound (sound-clock b e.time v.sound f)
starts b (E.DayEnd e) v f c = ranged-sound v.sound
starts b (E.National e) v f c = tt
starts b (E.Range e) v f c = tt
starts b (E.Specialist e) v f c = tt

pub accept-small : (b : State) (e : Event) → Valid b → FitEvent e → first_cause (causes b e) ≡ 0 → All Small (accept b e).records
accept-small b e v f c = accept-told small-kept b e (starts b e v f c)
