-- Whatever relation between a state and a move from it holds of the proper fills, of the cancels and of the auctions' beginnings and ends,
-- and of one move after another, holds of every rule made of them.
use mathlib.Core.Path.{◌≡◌, sym, ◌∙◌, ap}
use mathlib.Core.Bool.{Bool, true, false}
use mathlib.Core.Logic.{⊎_elim, ◌≢◌}
use mathlib.Core.List.{List}
use Prim.Native.Nat.{ℕ, zero, suc, ◌+◌, ◌-◌, ◌^◌, ◌≤◌, ◌<◌, min}
use native.Mathlib.Omega.{arith}
use borrow.Author.Tests.{eqb-true, eq-eqb, ne_eqb, ltb-true, leb-true, le-leb, not-true}
use lib.Dec.{eqb, ltb}
use lib.ListN.{length}
use Rattle.base.specs.Pick.{pick, pick_all, pick-by, pick_yes, pick_no, pick_true, pick-false}
use Rattle.base.specs.Walks.{sum_n, slot, walk, lt-or-le, below}
use Rattle.rules.specs.declared.Strategy.{Strategy}
use Rattle.rules.specs.declared.Entry.{Entry}
use Rattle.rules.specs.declared.LegOrder.{LegOrder}
use Rattle.rules.specs.declared.State.{State}
use Rattle.rules.specs.declared.Allocation.{Allocation}
use Rattle.rules.specs.declared.Allocation.TheVariants.{LegsOnly, Shared, ForStarter, Numbered}
use Rattle.rules.specs.declared.Turn.{Turn}
use Rattle.rules.specs.declared.Turn.TheVariants.{Stop, ByLegs, AtLimit}
use Rattle.rules.specs.State.{entry_at, order_at, strategy_at, strategy_of, with_opened, with_clock}
use Rattle.rules.specs.Moves.{Moved, still, and_then, each}
use Rattle.rules.specs.Sides.{other, meets}
use Rattle.rules.specs.Nets.{stands, prices, net_of, units_step, units_of}
use Rattle.rules.specs.Quotas.{Division, GivesOut, in_turn, share}
use Rattle.rules.specs.National.{bounds_at, may_take, may_meet}
use Rattle.rules.specs.Fills.{whole_fill, leg_fill, leg_trade, cancel_entry, cancel_order}
use Rattle.rules.specs.Passes.{opposes, holding, sizes, give_at, give, give_group, give_shared, give_for_starter, meet_limit, ready, ready_net, opposite, legs_first, turn_at, allowed, turn_of, take_turn, turn, pass}
use Rattle.rules.specs.Auctions.{live_in, begin, close, answer, cancel_lapsed, end_unfilled, starter_pass, later_pass, end_auction, end_due, end_holding, leg_pass, leg_passes_in, leg_passes, ahead, best_step, best_slot, crossed, match_once, match_all, match_in}
use Rattle.rules.specs.Events.{enter, enter_order, rest_or_cancel, waits, trades, arrive, on_order, meets_order, ahead_order, best_order_step, best_order, trade_once, trade_all, if_rests, on_leg_order, cancel_entry_of, cancel_order_of, cancel_number, on_clock, shut, reopen, close_running, lowest_live, cancel_lowest}
use Rattle.rules.proofs.Tables.{positive}
use Rattle.rules.proofs.Shrinks.{Shrinks, shrinks-refl, then-shrinks, whole-shrinks, legs-shrinks, trade-shrinks, cancel-shrinks, cancel_order-shrinks, begin-shrinks, close-shrinks, answer-shrinks}
use Rattle.rules.proofs.Quotas.{in_turn-divides, share-divides}
use Rattle.rules.proofs.Gives.{specialist-divides, Lawful, lawful-shrinks, whole-none, opposed-apart, other-apart, Holder, Quoted, quoted-holder, group-quoted, Given, given, given-each}

-- A WHOLE FILL is proper: two that oppose each other, units that both have, a price that meets both limits.
pub record Proper (b : State) (a h level q : ℕ) : Type 0 where
  pub opposed : opposes (entry_at b a) (entry_at b h) ≡ true
  pub mine : q ≤ (entry_at b a).units
  pub its : q ≤ (entry_at b h).units
  pub some : 0 < q
  pub limit : meets (entry_at b a).side (entry_at b a).level level ≡ true
  pub its_limit : meets (entry_at b h).side (entry_at b h).level level ≡ true
  pub range : may_meet (bounds_at b (entry_at b a).strategy) level ≡ true

-- the prices that entry a meets on the legs
abbrev pub prices_for : State → ℕ → List ℕ
prices_for b a = prices b.orders (entry_at b a).side (strategy_of b (entry_at b a)).legs

-- A FILL BY LEGS is proper: the entry lives, one unit is there on every leg, and the net is known and meets its limit.
pub record Legged (b : State) (a : ℕ) : Type 0 where
  pub live : 0 < (entry_at b a).units
  pub ready : 0 < units_of b.orders (entry_at b a).side (strategy_of b (entry_at b a)) (prices_for b a) 1
  pub net : 0 < net_of (strategy_of b (entry_at b a)) (prices_for b a)
  pub meets : meets (entry_at b a).side (entry_at b a).level (net_of (strategy_of b (entry_at b a)) (prices_for b a)) ≡ true
  pub range : may_take (bounds_at b (entry_at b a).strategy) (entry_at b a).side (net_of (strategy_of b (entry_at b a)) (prices_for b a)) ≡ true

-- A LEG TRADE is proper: the order lives, and meets a live one of its series and the other side.
pub record Trading (b : State) (a h : ℕ) : Type 0 where
  pub slot : h < 32
  pub meets : meets_order (order_at b a) (order_at b h) ≡ true
  pub live : 0 < (order_at b a).contracts

pub record Kept (K : State → Moved → Type 0) : Type 0 where
  pub nothing : (b : State) → K b (still b)
  pub both : (b : State) (x : Moved) (f : State → Moved) → K b x → K x.state (f x.state) → K b (and_then x f)
  pub whole : (b : State) (a h level q : ℕ) → Proper b a h level q → K b (whole_fill b a h level q)
  pub legs : (b : State) (a : ℕ) → Legged b a → K b (leg_fill a b)
  pub trade : (b : State) (a h : ℕ) → Trading b a h → K b (leg_trade b a h)
  pub cancel : (b : State) (i : ℕ) → K b (cancel_entry i b)
  pub cancel_order : (b : State) (i : ℕ) → K b (cancel_order i b)
  pub begins : (b : State) (i : ℕ) → K b (begin i b)
  pub closes : (b : State) (k : ℕ) → K b (close k b)
  pub answers : (b : State) (k side : ℕ) → K b (still (answer k side b))

-- what a turn says of the active entry
pub record Limited (b : State) (a level : ℕ) : Type 0 where
  pub live : 0 < (entry_at b a).units
  pub lawful : Lawful b a level

-- WHAT THE TESTS SAY
pub meets-self : (side x : ℕ) → meets side x x ≡ true
unfolding meets
meets-self side x = pick_all (λ (t : Bool). t ≡ true) (eqb side 0) (le-leb x x (omega arith)) (le-leb x x (omega arith))

-- the parties of a proper fill are two
pub proper-apart : {b : State} {a h level q : ℕ} → Proper b a h level q → h ≢ a
proper-apart {b} {a} {h} p = opposed-apart b a h p.opposed

-- an order that stands in a series and side
pub record Standing (s side : ℕ) (o : LegOrder) : Type 0 where
  pub live : 0 < o.contracts
  pub in_series : o.series ≡ s
  pub on_side : o.side ≡ side

pub standing : (s side : ℕ) (o : LegOrder) → stands s side o ≡ true → Standing s side o
unfolding stands
standing s side o h =
    let p = pick_no (eqb o.contracts 0) h in
    let q = pick_yes (eqb o.series s) p.1 in
    record {
      live = positive o.contracts p.0;
      in_series = eqb-true o.series s q.0;
      on_side = eqb-true o.side side q.1;
    }

-- what a leg order meets: one of its series and the other side, at a price within its own
pub meets-standing : (o p : LegOrder) → meets_order o p ≡ true → Standing o.series (other o.side) p
unfolding meets_order
meets-standing o p h = standing o.series (other o.side) p (pick_yes (stands o.series (other o.side) p) h).0

pub meets-price : (o p : LegOrder) → meets_order o p ≡ true → meets o.side o.price p.price ≡ true
unfolding meets_order
meets-price o p h = (pick_yes (stands o.series (other o.side) p) h).1

-- the parties of a proper leg trade are two
pub trading-apart : {b : State} {a h : ℕ} → Trading b a h → h ≢ a
trading-apart {b} {a} {h} t e =
    let s : (order_at b h).side ≡ other (order_at b a).side = (meets-standing (order_at b a) (order_at b h) t.meets).on_side in
    other-apart (order_at b a).side (ap (λ (i : ℕ). (order_at b i).side) (sym e) ∙ s)

-- GIVE
-- one term more is still within the sum
pub sum-part : (f : ℕ → ℕ) (n k : ℕ) → k < n → sum_n f k + f k ≤ sum_n f n
unfolding sum_n
sum-part f zero k h = absurd (omega arith)
sum-part f (suc n) k h = ⊎_elim (λ q. rw q (omega arith)) (λ l. omega (arith, sum-part f n k l)) (below h)

-- after the fills of the slots before k, the fill of slot k is proper
pub given-proper : (b : State) (a level g : ℕ) (qs : List ℕ) → Quoted b a level g qs → (k : ℕ) → k < 32 → 0 < slot qs k → (c : State) → Given b a qs k c → Proper c a k level (slot qs k)
unfolding opposes
given-proper b a level g qs h k l some c v =
    let d : Holder (entry_at b a) level (entry_at b k) (holding (entry_at b a) level g (entry_at b k)) = quoted-holder b a level g qs h k l some in
    let same : entry_at c k ≡ entry_at b k = v.ahead k (omega arith) (opposed-apart b a k d.opposed) in
    let left : (entry_at c a).units ≡ (entry_at b a).units - sum_n (slot qs) k = ap (λ (x : Entry). x.units) v.active in
    let its : (entry_at c k).units ≡ (entry_at b k).units = ap (λ (x : Entry). x.units) same in
    record {
      opposed = rw (v.active, same) d.opposed;
      mine = omega (arith, left, sum-part (slot qs) 32 k l, h.sum);
      its = omega (arith, its, d.units, h.within k l);
      some = some;
      limit = rw v.active h.lawful.limit;
      its_limit = rw (same, d.limit) (meets-self (entry_at b k).side level);
      range = (lawful-shrinks v.shrinks h.lawful).range;
    }

-- the state after a group's fills
pub group-given : {divide : Division} → GivesOut divide → (a level g : ℕ) (b : State) → Lawful b a level
    → Given b a (divide (entry_at b a).units (sizes b.entries (entry_at b a) level g)) 32 (give_group divide a level g b).state
unfolding give_group
group-given d a level g b m = given b a level g _ (group-quoted d b a level g m)

-- what a group leaves of the active entry
pub group-left : {divide : Division} → GivesOut divide → (a level g : ℕ) (b : State) → Lawful b a level
    → (entry_at (give_group divide a level g b).state a).units ≡ (entry_at b a).units - sum_n (slot (sizes b.entries (entry_at b a) level g)) 32
group-left d a level g b m =
    omega (arith, ap (λ (x : Entry). x.units) (group-given d a level g b m).active, d.sum (entry_at b a).units (sizes b.entries (entry_at b a) level g))

-- LEGS
-- the units of a fill by legs are no more than asked, and some where one is there
units-most : (os : List LegOrder) (side : ℕ) (s : Strategy) (ps : List ℕ) (most : ℕ) (k : ℕ) → walk (units_step os side s.legs ps) most k ≤ most
unfolding walk
units-most os side s ps most zero = omega arith
units-most os side s ps most (suc k) = omega (arith, units-most os side s ps most k)

units-some : (os : List LegOrder) (side : ℕ) (s : Strategy) (ps : List ℕ) (m n : ℕ) → 0 < n → (k : ℕ)
    → 0 < walk (units_step os side s.legs ps) m k → 0 < walk (units_step os side s.legs ps) n k
unfolding walk
units-some os side s ps m n p zero h = p
units-some os side s ps m n p (suc k) h = omega (arith, units-some os side s ps m n p k (omega arith))

-- the units of entry a's fill by legs
abbrev pub units_for : State → ℕ → ℕ
units_for b a = units_of b.orders (entry_at b a).side (strategy_of b (entry_at b a)) (prices_for b a) (entry_at b a).units

pub legged-mine : (b : State) (a : ℕ) → units_for b a ≤ (entry_at b a).units
unfolding units_of
legged-mine b a = units-most b.orders (entry_at b a).side (strategy_of b (entry_at b a)) (prices_for b a) (entry_at b a).units _

pub legged-some : (b : State) (a : ℕ) → Legged b a → 0 < units_for b a
unfolding units_of
legged-some b a l = units-some b.orders (entry_at b a).side (strategy_of b (entry_at b a)) (prices_for b a) 1 (entry_at b a).units l.live _ l.ready

-- TURNS

abbrev pub Fits : State → ℕ → Turn → Type 0
Fits b a Stop = Unit {0}
Fits b a ByLegs = Legged b a
Fits b a (AtLimit level) = Limited b a level

legged : (legs : Bool) (a : ℕ) (b : State) → 0 < (entry_at b a).units → 0 < ready_net legs a b → meets (entry_at b a).side (entry_at b a).level (ready_net legs a b) ≡ true →
    may_take (bounds_at b (entry_at b a).strategy) (entry_at b a).side (ready_net legs a b) ≡ true → Legged b a
unfolding ready_net ready
legged legs a b live =
    let P : ℕ → Type 0 = λ (n : ℕ). 0 < n → meets (entry_at b a).side (entry_at b a).level n ≡ true → may_take (bounds_at b (entry_at b a).strategy) (entry_at b a).side n ≡ true → Legged b a in
    pick-by P legs
    (λ e. pick-by P (ready a b)
    (λ r h m g. record { live = live; ready = positive _ (not-true _ r); net = h; meets = m; range = g })
    (λ r h. absurd (omega arith)))
    (λ e h. absurd (omega arith))

pub first-net : (side net x : ℕ) → legs_first side net x ≡ true → 0 < net
unfolding legs_first
first-net side net x h = positive net (pick_no (eqb net 0) h).0

pub turn-fits : (way : Allocation) (legs : Bool) (a : ℕ) (b : State) → Fits b a (turn_of way legs a b)
unfolding turn_of turn_at allowed
turn-fits way legs a b =
    let e : Entry = entry_at b a in
    let x : ℕ = opposite way a b in
    let net : ℕ = ready_net legs a b in
    let P : Turn → Type 0 = λ (t : Turn). Fits b a (allowed (bounds_at b e.strategy) e.side net t) in
    pick-by P (eqb e.units 0)
    (λ z. tt)
    (λ live. pick-by P (legs_first e.side net x)
    (λ f. pick-by P (meets e.side e.level net) (λ m. pick-by (Fits b a) _ (λ g. legged legs a b (positive e.units live) (first-net e.side net x f) m g) (λ g. tt)) (λ m. tt))
    (λ f. pick-by P (eqb x 0)
    (λ z. tt)
    (λ z. pick-by P (meets e.side e.level x) (λ m. pick-by (Fits b a) _ (λ g. record { live = positive e.units live; lawful = record { limit = m; range = g } }) (λ g. tt)) (λ m. tt))))

-- THE BEST
-- the best entry of a side is live, in the strategy and of the side
pub record Best (b : State) (k side i : ℕ) : Type 0 where
  pub live : 0 < (entry_at b i).units
  pub strategy : (entry_at b i).strategy ≡ k
  pub on_side : (entry_at b i).side ≡ side

ahead-best : (b : State) (k side i best : ℕ) → ahead b k side i best ≡ true → Best b k side i
unfolding ahead live_in
ahead-best b k side i best h =
    let e : Entry = entry_at b i in
    let p = pick_yes (live_in k e) h in
    let l = pick_no (eqb e.units 0) p.0 in
    record {
      live = positive e.units l.0;
      strategy = eqb-true e.strategy k l.1;
      on_side = eqb-true e.side side (pick_yes (eqb e.side side) p.1).0;
    }

best-walk : (b : State) (k side n : ℕ) → walk (best_step b k side) 32 n < 32 → Best b k side (walk (best_step b k side) 32 n)
unfolding walk
best-walk b k side zero = λ h. absurd (omega arith)
best-walk b k side (suc n) =
    let best : ℕ = walk (best_step b k side) 32 n in
    let s : best < 32 → Best b k side best = best-walk b k side n in
    pick-by (λ (x : ℕ). x < 32 → Best b k side x) (ahead b k side n best) (λ e h. ahead-best b k side n best e) (λ e. s)

pub best-slot : (b : State) (k side : ℕ) → best_slot b k side < 32 → Best b k side (best_slot b k side)
unfolding best_slot
best-slot b k side = best-walk b k side 32

-- the best order meets the incoming one
ahead-meets : (b : State) (o : LegOrder) (i best : ℕ) → ahead_order b o i best ≡ true → meets_order o (order_at b i) ≡ true
unfolding ahead_order
ahead-meets b o i best h = (pick_yes (meets_order o (order_at b i)) h).0

order-walk : (b : State) (o : LegOrder) (n : ℕ) → walk (best_order_step b o) 32 n < 32 → meets_order o (order_at b (walk (best_order_step b o) 32 n)) ≡ true
unfolding walk
order-walk b o zero = λ h. absurd (omega arith)
order-walk b o (suc n) =
    let best : ℕ = walk (best_order_step b o) 32 n in
    let s : best < 32 → meets_order o (order_at b best) ≡ true = order-walk b o n in
    pick-by (λ (x : ℕ). x < 32 → meets_order o (order_at b x) ≡ true) (ahead_order b o n best) (λ e h. ahead-meets b o n best e) (λ e. s)

pub best-order : (b : State) (o : LegOrder) → best_order b o < 32 → meets_order o (order_at b (best_order b o)) ≡ true
unfolding best_order
best-order b o = order-walk b o 32

-- two that cross: both of one strategy, a buy and a sell, the sell's limit not above the buy's
pub record Crossed (b : State) (k x y : ℕ) : Type 0 where
  pub buy : Best b k 0 x
  pub sell : Best b k 1 y
  pub levels : (entry_at b y).level ≤ (entry_at b x).level

pub crossed-best : (b : State) (k : ℕ) → crossed b (best_slot b k 0) (best_slot b k 1) ≡ true → Crossed b k (best_slot b k 0) (best_slot b k 1)
unfolding crossed
crossed-best b k h =
    let x : ℕ = best_slot b k 0 in
    let y : ℕ = best_slot b k 1 in
    let p = pick_yes (ltb x 32) h in
    let q = pick_yes (ltb y 32) p.1 in
    record {
      buy = best-slot b k 0 (ltb-true x 32 p.0);
      sell = best-slot b k 1 (ltb-true y 32 q.0);
      levels = leb-true (entry_at b y).level (entry_at b x).level q.1;
    }

-- a live entry of the strategy and the other side opposes
pub opposes-is : (e f : Entry) → 0 < f.units → f.strategy ≡ e.strategy → f.side ≡ other e.side → opposes e f ≡ true
unfolding opposes
opposes-is e f live s o =
    pick-false (eqb f.units 0) _ _ (ne_eqb f.units 0 (λ z. omega arith))
    ∙ pick_true (eqb f.strategy e.strategy) _ _ (eq-eqb f.strategy e.strategy s)
    ∙ eq-eqb f.side (other e.side) o

meets-buy : (side limit price : ℕ) → side ≡ 0 → price ≤ limit → meets side limit price ≡ true
unfolding meets
meets-buy side limit price s h = pick_true _ _ _ (eq-eqb side 0 s) ∙ le-leb price limit h

meets-sell : (side limit price : ℕ) → side ≡ 1 → limit ≤ price → meets side limit price ≡ true
unfolding meets
meets-sell side limit price s h = pick-false _ _ _ (ne_eqb side 0 (λ z. omega arith)) ∙ le-leb limit price h

other-buy : (x y : ℕ) → x ≡ 0 → y ≡ 1 → y ≡ other x
unfolding other
other-buy x y p q = q ∙ sym (pick_true _ _ _ (eq-eqb x 0 p))

other-sell : (x y : ℕ) → x ≡ 0 → y ≡ 1 → x ≡ other y
unfolding other
other-sell x y p q = p ∙ sym (pick-false _ _ _ (ne_eqb y 0 (λ z. omega arith)))

-- either of the two may be the active one, at its own limit
module _ (b : State) (k x y : ℕ) (c : Crossed b k x y) where
  at-limit : (a h : ℕ) → may_meet (bounds_at b (entry_at b a).strategy) (entry_at b a).level ≡ true → 0 < (entry_at b a).units → opposes (entry_at b a) (entry_at b h) ≡ true → 0 < (entry_at b h).units → meets (entry_at b h).side (entry_at b h).level (entry_at b a).level ≡ true →
      Proper b a h (entry_at b a).level (min (entry_at b a).units (entry_at b h).units)
  at-limit a h range mine o its m = record { range = range; opposed = o; mine = omega arith; its = omega arith; some = omega arith; limit = meets-self _ _; its_limit = m }

  -- at the limit of each the other may fill
  pub buy-limit : meets (entry_at b y).side (entry_at b y).level (entry_at b x).level ≡ true
  buy-limit = meets-sell _ _ _ c.sell.on_side c.levels

  pub sell-limit : meets (entry_at b x).side (entry_at b x).level (entry_at b y).level ≡ true
  sell-limit = meets-buy _ _ _ c.buy.on_side c.levels

  pub buy-proper : may_meet (bounds_at b k) (entry_at b x).level ≡ true → Proper b x y (entry_at b x).level (min (entry_at b x).units (entry_at b y).units)
  buy-proper g =
      at-limit x y (rw c.buy.strategy g) c.buy.live
      (opposes-is (entry_at b x) (entry_at b y) c.sell.live (c.sell.strategy ∙ sym c.buy.strategy) (other-buy _ _ c.buy.on_side c.sell.on_side))
      c.sell.live buy-limit

  pub sell-proper : may_meet (bounds_at b k) (entry_at b y).level ≡ true → Proper b y x (entry_at b y).level (min (entry_at b y).units (entry_at b x).units)
  sell-proper g =
      at-limit y x (rw c.sell.strategy g) c.sell.live
      (opposes-is (entry_at b y) (entry_at b x) c.buy.live (c.buy.strategy ∙ sym c.sell.strategy) (other-sell _ _ c.buy.on_side c.sell.on_side))
      c.buy.live sell-limit

-- THE RULES
module _ {K : State → Moved → Type 0} (κ : Kept K) where
  then-kept : {b : State} {m : Moved} {f : State → Moved} → K b m → ((c : State) → K c (f c)) → K b (and_then m f)
  then-kept h k = κ.both _ _ _ h (k _)

  pub each-kept : (f : ℕ → State → Moved) → ((i : ℕ) (b : State) → K b (f i b)) → (k : ℕ) (b : State) → K b (each f k b)
  unfolding each
  each-kept f h zero b = κ.nothing b
  each-kept f h (suc k) b = κ.both b (each f k b) (f k) (each-kept f h k b) (h k (each f k b).state)

  -- whole fills
  give_at-kept : (b : State) (a level g : ℕ) (qs : List ℕ) → Quoted b a level g qs → (k : ℕ) → k < 32 → (c : State) → Given b a qs k c → K c (give_at a level qs k c)
  give_at-kept b a level g qs h k l c v =
      ⊎_elim
      (λ (s : 0 < slot qs k). κ.whole c a k level (slot qs k) (given-proper b a level g qs h k l s c v))
      (λ (z : slot qs k ≤ 0). rw (whole-none c a k level (slot qs k) (omega arith)) (κ.nothing c))
      (lt-or-le 0 (slot qs k))

  give_each-kept : (b : State) (a level g : ℕ) (qs : List ℕ) → Quoted b a level g qs → (k : ℕ) → k ≤ 32 → K b (each (give_at a level qs) k b)
  unfolding each
  give_each-kept b a level g qs h zero l = κ.nothing b
  give_each-kept b a level g qs h (suc k) l =
      κ.both b (each (give_at a level qs) k b) (give_at a level qs k) (give_each-kept b a level g qs h k (omega arith))
      (give_at-kept b a level g qs h k (omega arith) (each (give_at a level qs) k b).state (given-each b a level g qs h k (omega arith)))

  pub give_kept : (a level g : ℕ) (qs : List ℕ) (b : State) → Quoted b a level g qs → K b (give a level qs b)
  unfolding give
  give_kept a level g qs b h = give_each-kept b a level g qs h 32 (omega arith)

  pub give_group-kept : {divide : Division} → GivesOut divide → (a level g : ℕ) (b : State) → Lawful b a level → K b (give_group divide a level g b)
  unfolding give_group
  give_group-kept d a level g b m = give_kept a level g _ b (group-quoted d b a level g m)

  pub give_shared-kept : {second : Division} → GivesOut second → (a level : ℕ) (b : State) → Lawful b a level → K b (give_shared second a level b)
  unfolding give_shared
  give_shared-kept {second} d a level b m =
      let c : State = (give_group in_turn a level 0 b).state in
      let e : State = (give_group second a level 1 c).state in
      let m₁ : Lawful c a level = lawful-shrinks (group-given in_turn-divides a level 0 b m).shrinks m in
      let m₂ : Lawful e a level = lawful-shrinks (group-given d a level 1 c m₁).shrinks m₁ in
      κ.both b (give_group in_turn a level 0 b) _ (give_group-kept in_turn-divides a level 0 b m)
      (κ.both c (give_group second a level 1 c) (give_group share a level 2) (give_group-kept d a level 1 c m₁) (give_group-kept share-divides a level 2 e m₂))

  pub meet_limit-kept : (way : Allocation) (a level : ℕ) (b : State) → Lawful b a level → K b (meet_limit way a level b)
  unfolding meet_limit give_for_starter
  meet_limit-kept LegsOnly a level b m = κ.nothing b
  meet_limit-kept Shared a level b m = give_shared-kept share-divides a level b m
  meet_limit-kept ForStarter a level b m = give_shared-kept (specialist-divides a level b) a level b m
  meet_limit-kept Numbered a level b m = give_group-kept in_turn-divides a level 3 b m

  -- passes
  pub take-kept : (way : Allocation) (a : ℕ) (t : Turn) (b : State) → Fits b a t → K b (take_turn way a t b)
  unfolding take_turn
  take-kept way a Stop b f = κ.nothing b
  take-kept way a ByLegs b f = κ.legs b a f
  take-kept way a (AtLimit level) b f = meet_limit-kept way a level b f.lawful

  pub turn-kept : (way : Allocation) (legs : Bool) (a i : ℕ) (b : State) → K b (turn way legs a i b)
  turn-kept way legs a i b = take-kept way a (turn_of way legs a b) b (turn-fits way legs a b)

  pub pass_kept : (way : Allocation) (legs : Bool) (a : ℕ) (b : State) → K b (pass way legs a b)
  unfolding pass
  pass_kept way legs a b = each-kept (turn way legs a) (turn-kept way legs a) (entry_at b a).units b

  pub leg_pass-kept : (k i : ℕ) (b : State) → K b (leg_pass k i b)
  unfolding leg_pass
  leg_pass-kept k i b = pick_all (K b) _ (pass_kept LegsOnly true i b) (κ.nothing b)

  pub leg_passes_in-kept : (s k : ℕ) (b : State) → K b (leg_passes_in s k b)
  unfolding leg_passes_in
  leg_passes_in-kept s k b =
      pick_all (K b) _ (pick_all (K b) _ (pick_all (K b) _ (κ.nothing b) (each-kept (leg_pass k) (leg_pass-kept k) 32 b)) (κ.nothing b)) (κ.nothing b)

  pub leg_passes-kept : (s : ℕ) (b : State) → K b (leg_passes s b)
  unfolding leg_passes
  leg_passes-kept s b = each-kept (leg_passes_in s) (leg_passes_in-kept s) 16 b

  -- auctions
  pub cancel_lapsed-kept : (k i : ℕ) (b : State) → K b (cancel_lapsed k i b)
  unfolding cancel_lapsed
  cancel_lapsed-kept k i b = pick_all (K b) _ (κ.cancel b i) (κ.nothing b)

  pub end_unfilled-kept : (k : ℕ) (b : State) → K b (end_unfilled k b)
  unfolding end_unfilled
  end_unfilled-kept k b = then-kept (each-kept (cancel_lapsed k) (cancel_lapsed-kept k) 32 b) (λ c. κ.closes c k)

  pub starter_pass-kept : (k : ℕ) (b : State) → K b (starter_pass k b)
  unfolding starter_pass
  starter_pass-kept k b = pass_kept ForStarter _ _ b

  pub later_pass-kept : (k n i : ℕ) (b : State) → K b (later_pass k n i b)
  unfolding later_pass
  later_pass-kept k n i b = pick_all (K b) _ (pass_kept Numbered _ i b) (κ.nothing b)

  pub end_auction-kept : (k : ℕ) (b : State) → K b (end_auction k b)
  unfolding end_auction
  end_auction-kept k b =
      let n : ℕ = (strategy_at b k).starter in
      then-kept (starter_pass-kept k b) (λ c. then-kept (each-kept (later_pass k n) (later_pass-kept k n) 32 c) (end_unfilled-kept k))

  pub end_due-kept : (k : ℕ) (b : State) → K b (end_due k b)
  unfolding end_due
  end_due-kept k b = pick_all (K b) _ (end_auction-kept k b) (κ.nothing b)

  pub end_holding-kept : (s k : ℕ) (b : State) → K b (end_holding s k b)
  unfolding end_holding
  end_holding-kept s k b = pick_all (K b) _ (pick_all (K b) _ (end_unfilled-kept k b) (κ.nothing b)) (κ.nothing b)

  -- the match of the resting orders
  match_by-kept : (k : ℕ) (b : State) (x y : ℕ) → Crossed b k x y → (t : Bool) → may_meet (bounds_at b k) (entry_at b (pick t x y)).level ≡ true
      → K b (whole_fill b (pick t x y) (pick t y x) (entry_at b (pick t x y)).level (min (entry_at b (pick t x y)).units (entry_at b (pick t y x)).units))
  unfolding pick
  match_by-kept k b x y c true g = κ.whole b x y _ _ (buy-proper b k x y c g)
  match_by-kept k b x y c false g = κ.whole b y x _ _ (sell-proper b k x y c g)

  pub match_once-kept : (k i : ℕ) (b : State) → K b (match_once k i b)
  unfolding match_once
  match_once-kept k i b =
      pick-by (K b) _ (λ e. let m = pick_yes _ e in match_by-kept k b (best_slot b k 0) (best_slot b k 1) (crossed-best b k m.0) _ m.1) (λ e. κ.nothing b)

  pub match_all-kept : (k : ℕ) (b : State) → K b (match_all k b)
  unfolding match_all
  match_all-kept k b = each-kept (match_once k) (match_once-kept k) 32 b

  pub match_in-kept : (s k : ℕ) (b : State) → K b (match_in s k b)
  unfolding match_in
  match_in-kept s k b = pick_all (K b) _ (pick_all (K b) _ (match_all-kept k b) (κ.nothing b)) (κ.nothing b)

  -- leg orders
  pub trade_once-kept : (a i : ℕ) (b : State) → K b (trade_once a i b)
  unfolding trade_once
  trade_once-kept a i b =
      pick-by (K b) _ (λ z. κ.nothing b)
      (λ live. pick-by (K b) _
      (λ l. let h : best_order b (order_at b a) < 32 = ltb-true _ _ l in
      κ.trade b a (best_order b (order_at b a)) (record { slot = h; meets = best-order b (order_at b a) h; live = positive _ live }))
      (λ l. κ.nothing b))

  pub trade_all-kept : (a : ℕ) (b : State) → K b (trade_all a b)
  unfolding trade_all
  trade_all-kept a b = each-kept (trade_once a) (trade_once-kept a) 32 b

  pub if_rests-kept : (s a : ℕ) (b : State) → K b (if_rests s a b)
  unfolding if_rests
  if_rests-kept s a b = pick_all (K b) _ (κ.nothing b) (leg_passes-kept s b)

  -- complex orders
  pub rest_or_cancel-kept : (i : ℕ) (b : State) → K b (rest_or_cancel i b)
  unfolding rest_or_cancel
  rest_or_cancel-kept i b = pick_all (K b) _ (κ.nothing b) (κ.cancel b i)

  pub waits_kept : (i : ℕ) (b : State) → K b (waits i b)
  unfolding waits
  waits_kept i b = pick_all (K b) _ (κ.cancel b i) (κ.answers b _ _)

  pub trades-kept : (i : ℕ) (b : State) → K b (trades i b)
  unfolding trades
  trades-kept i b = then-kept (pass_kept Shared true i b) (rest_or_cancel-kept i)

  pub arrive-kept : (i : ℕ) (b : State) → K b (arrive i b)
  unfolding arrive
  arrive-kept i b =
      pick_all (K b) _ (pick_all (K b) _ (waits_kept i b) (pick_all (K b) _ (κ.begins b i) (trades-kept i b))) (rest_or_cancel-kept i b)

  -- cancels
  pub cancel_entry_of-kept : (n i : ℕ) (b : State) → K b (cancel_entry_of n i b)
  unfolding cancel_entry_of
  cancel_entry_of-kept n i b = pick_all (K b) _ (κ.cancel b i) (κ.nothing b)

  pub cancel_order_of-kept : (n i : ℕ) (b : State) → K b (cancel_order_of n i b)
  unfolding cancel_order_of
  cancel_order_of-kept n i b = pick_all (K b) _ (κ.cancel_order b i) (κ.nothing b)

  pub cancel_number-kept : (n : ℕ) (b : State) → K b (cancel_number n b)
  unfolding cancel_number
  cancel_number-kept n b = then-kept (each-kept (cancel_entry_of n) (cancel_entry_of-kept n) 32 b) (each-kept (cancel_order_of n) (cancel_order_of-kept n) 32)

  pub close_running-kept : (k : ℕ) (b : State) → K b (close_running k b)
  unfolding close_running
  close_running-kept k b = pick_all (K b) _ (κ.closes b k) (κ.nothing b)

  pub cancel_lowest-kept : (i : ℕ) (b : State) → K b (cancel_lowest i b)
  unfolding cancel_lowest
  cancel_lowest-kept i b = cancel_number-kept (lowest_live b) b

  -- events, from the state with what they set or enter
  pub on_order-kept : (e : Entry) (b : State) → K (enter e b) (on_order e b)
  unfolding on_order
  on_order-kept e b = arrive-kept _ (enter e b)

  pub on_leg_order-kept : (o : LegOrder) (b : State) → K (enter_order o b) (on_leg_order o b)
  unfolding on_leg_order
  on_leg_order-kept o b = then-kept (trade_all-kept _ (enter_order o b)) (if_rests-kept o.series _)

  pub on_clock-kept : (t : ℕ) (b : State) → K (with_clock b t) (on_clock t b)
  unfolding on_clock
  on_clock-kept t b = each-kept end_due end_due-kept 16 (with_clock b t)

  pub shut-kept : (s : ℕ) (b : State) → K (with_opened b (b.opened - 2 ^ s)) (shut s b)
  unfolding shut
  shut-kept s b = each-kept (end_holding s) (end_holding-kept s) 16 (with_opened b (b.opened - 2 ^ s))

  pub reopen-kept : (s : ℕ) (b : State) → K (with_opened b (b.opened + 2 ^ s)) (reopen s b)
  unfolding reopen
  reopen-kept s b = then-kept (each-kept (match_in s) (match_in-kept s) 16 (with_opened b (b.opened + 2 ^ s))) (leg_passes-kept s)

-- EVERY RULE SHRINKS, where the table of leg orders has its 32 rows.
pub shrinks-kept : Kept (λ (b : State) (m : Moved). length b.orders ≡ 32 → Shrinks b m.state)
shrinks-kept = record {
  nothing = λ b n. shrinks-refl b;
  both = λ b x f h k n. then-shrinks b x f (h n) (k ((h n).order_rows ∙ n));
  whole = λ b a h level q p n. whole-shrinks b a h level q;
  legs = λ b a l n. legs-shrinks b n a;
  trade = λ b a h t n. trade-shrinks b a h;
  cancel = λ b i n. cancel-shrinks b i;
  cancel_order = λ b i n. cancel_order-shrinks b i;
  begins = λ b i n. begin-shrinks b i;
  closes = λ b k n. close-shrinks b k;
  answers = λ b k side n. answer-shrinks b k side;
}
