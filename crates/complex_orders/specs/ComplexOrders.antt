-- What a complex order does that has entered, by what the code reads and tests.
use Rattle.std.specs.Prelude.{◌≡◌, false, not, List, ℕ, ◌≤◌, ◌<◌, eqb, length, Option}
use Rattle.base.specs.Chains.{unless_zero}
use Rattle.nets.specs.Nets.{betters_net, betters-net}
use Rattle.std.proofs.Math.Path.{refl, sym, ap}
use Rattle.std.proofs.Common.{◌∙◌, arith}
use Rattle.std.proofs.Math.Bool.{Bool, true}
use Rattle.std.proofs.Math.ListN.{get_or}
use Rattle.base.specs.Pick.{pick, both, pick_all, pick-by, pick-ap, pick_true, tests}
use Rattle.base.specs.Sets.{minus}
use Rattle.rules.specs.declared.Entry.{Entry}
use Rattle.rules.specs.declared.LegOrder.{LegOrder}
use Rattle.rules.specs.declared.Strategy.{Strategy}
use Rattle.rules.specs.declared.LegNets.{LegNets}
use Rattle.rules.specs.declared.State.{State}
use Rattle.rules.specs.declared.Allocation.TheVariants.{Shared}
use Rattle.rules.specs.State.{no_entry, no_nets, entry_at, strategy_at, strategy_of, leg_net}
use Rattle.rules.specs.Moves.{Moved, still, and_then}
use Rattle.rules.specs.Sides.{other}
use Rattle.rules.specs.Nets.{prices, net_of, betters}
use Rattle.rules.specs.Strategies.{shut_set, all_open}
use Rattle.rules.specs.Passes.{turn_at}
use Rattle.rules.specs.Fills.{cancel_entry}
use Rattle.rules.specs.Auctions.{running, with_auction, put_auction, begin, answer}
use Rattle.rules.specs.Events.{live, keep, behind, free_slot, rest_or_cancel, may_start, starts, waits, trades, arrive, on_order}
use Rattle.rules.specs.Valid.{FitEntry}
use Rattle.rules.proofs.Tables.{behind-slot}
use Rattle.auctions.specs.Auctions.{answers_in, answer-by, auctioned, put_is}
use Rattle.entries.specs.Entered.{entered, entered-is}
use Rattle.ranges.specs.Fit.{Fit}
use Rattle.stored_nets.specs.Stored.{net_for}
use Rattle.stored_nets.specs.Laws.{net-stored}
use Rattle.passes.specs.Passes.{stops_at, opposite_in, net_in, net_over, legs_met, turn-met, pass-still, ready_level}
use Rattle.complex_orders.specs.declared.Arrival.{Arrival}
use Rattle.complex_orders.specs.declared.Arrival.TheVariants as A

-- whether an order of strategy s starts an auction, by the leg orders
unfoldable pub starts_in : Entry → Strategy → List LegOrder → Bool
starts_in e s os = both (may_start e) (betters false e.side e.level (net_of s (prices os (other e.side) s.legs)))

-- .. by the nets n of the strategy
unfoldable pub starts_by : Entry → LegNets → Bool
starts_by e n = both (may_start e) (betters false e.side e.level (net_for n (other e.side)))

-- n are the nets of strategy s, as an order of that side asks for them
pub record NetsAre (n : LegNets) (os : List LegOrder) (s : Strategy) (side : ℕ) : Type 0 where
  pub met : net_for n side ≡ net_of s (prices os side s.legs)
  pub own : net_for n (other side) ≡ net_of s (prices os (other side) s.legs)

-- it rests, or is cancelled
unfoldable pub rests_as : Entry → Arrival
rests_as e = pick (eqb e.life 0) A.Rests A.Cancelled

-- it is cancelled, or waits; one of the other side answers
unfoldable pub waits_as : Entry → Strategy → List Entry → Arrival
waits_as e s es = pick (eqb e.life 3) A.Cancelled (pick (answers_in es e.strategy s.starter e.side) A.Answers A.Rests)

-- its shared pass does nothing, whatever its bounds
abbrev pub idle_in : Entry → Strategy → List Entry → List LegOrder → Bool
idle_in e s es os = stops_at (turn_at e (opposite_in Shared es e) (net_in true os e.side s))

-- what an order of strategy s does
unfoldable pub arrival_of : Entry → Strategy → ℕ → List Entry → List LegOrder → Arrival
arrival_of e s opened es os =
    pick (eqb (minus s.series opened) 0)
    (pick (not (eqb s.starter 0)) (waits_as e s es) (pick (starts_in e s os) A.Starts (pick (idle_in e s es os) (rests_as e) A.Passes)))
    (rests_as e)

-- and what that makes of the book
unfoldable pub does : ℕ → State → Arrival → Moved
does i b A.Rests = still b
does i b A.Cancelled = cancel_entry i b
does i b A.Answers = still (put_auction b (entry_at b i).strategy (strategy_of b (entry_at b i)).starter (strategy_of b (entry_at b i)).begun true)
does i b A.Starts = begin i b
does i b A.Passes = trades i b

-- laws

-- the stored nets of a strategy with legs
pub nets-are : (e : Entry) (b : State) → Fit b → FitEntry e → 0 < (strategy_at b e.strategy).count → NetsAre (get_or b.nets e.strategy no_nets) b.orders (strategy_of b e) e.side
nets-are e b f h l = record {
  met = net-stored b.nets b.orders b.strategies e.strategy e.side h.strategy h.side l f.nets.are;
  own = net-stored b.nets b.orders b.strategies e.strategy (other e.side) h.strategy (other-most e.side) l f.nets.are;
}
  where
    other-most : (side : ℕ) → other side ≤ 1
    other-most side = unfold other in pick_all (λ (x : ℕ). x ≤ 1) (eqb side 0) (omega arith) (omega arith)

pub starts-yes : (e : Entry) (n : LegNets) {on : ℕ} {net : Option ℕ} {r : Bool} → may_start e ≡ true → on ≡ other e.side → net ≡ unless_zero (net_for n on) → r ≡ betters_net false e.side e.level net → r ≡ starts_by e n
unfolding starts_by
starts-yes e n m o f h =
    h ∙ ap (betters_net false e.side e.level) (f ∙ ap (λ (x : ℕ). unless_zero (net_for n x)) o) ∙ betters-net false e.side e.level (net_for n (other e.side)) ∙ sym (pick_true _ _ _ m)

-- whether it starts an auction, by these
pub starts-found : (e : Entry) (s : Strategy) (os : List LegOrder) {n : LegNets} {r : Bool} → NetsAre n os s e.side → r ≡ starts_by e n → r ≡ starts_in e s os
unfolding starts_by starts_in
starts-found e s os a h = h ∙ ap (λ (x : ℕ). both (may_start e) (betters false e.side e.level x)) a.own

-- the turn by the stored net is the rule's
idle_met : (e : Entry) (s : Strategy) (es : List Entry) (os : List LegOrder) {net : ℕ} → net ≡ net_over true os e.side s
    → stops_at (turn_at e (opposite_in Shared es e) (ready_level (legs_met e (opposite_in Shared es e) net os s))) ≡ idle_in e s es os
idle_met e s es os q =
    ap (λ (x : ℕ). stops_at (turn_at e (opposite_in Shared es e) (ready_level (legs_met e (opposite_in Shared es e) x os s)))) q ∙ ap stops_at (turn-met true e (opposite_in Shared es e) os s)

-- whether its pass does nothing, by the net that is stored
pub idle-found : (e : Entry) (s : Strategy) (es : List Entry) (os : List LegOrder) {n : LegNets} {net : ℕ} {r : Bool} → NetsAre n os s e.side → net ≡ net_for n e.side
    → r ≡ stops_at (turn_at e (opposite_in Shared es e) (ready_level (legs_met e (opposite_in Shared es e) net os s))) → r ≡ idle_in e s es os
unfolding net_over pick
idle-found e s es os a g h = h ∙ idle_met e s es os (g ∙ a.met)

-- the arrival by what the code has found
module _ (e : Entry) (s : Strategy) (opened : ℕ) (es : List Entry) (os : List LegOrder) where
  pub arrives-shut : eqb (minus s.series opened) 0 ≡ false → rests_as e ≡ arrival_of e s opened es os
  unfolding arrival_of
  arrives-shut o = search tests

  module _ (o : eqb (minus s.series opened) 0 ≡ true) where
    pub arrives-waits : not (eqb s.starter 0) ≡ true → waits_as e s es ≡ arrival_of e s opened es os
    unfolding arrival_of
    arrives-waits r = search tests

    module _ (r : not (eqb s.starter 0) ≡ false) where
      pub arrives-starts : starts_in e s os ≡ true → A.Starts ≡ arrival_of e s opened es os
      unfolding arrival_of
      arrives-starts t = search tests

      module _ (t : starts_in e s os ≡ false) where
        pub arrives-idle : idle_in e s es os ≡ true → rests_as e ≡ arrival_of e s opened es os
        unfolding arrival_of
        arrives-idle d = search tests

        pub arrives-passes : idle_in e s es os ≡ false → A.Passes ≡ arrival_of e s opened es os
        unfolding arrival_of
        arrives-passes d = search tests

module _ (i : ℕ) (b : State) where
  pub rest-day : (entry_at b i).life ≡ 0 → rest_or_cancel i b ≡ still b
  unfolding rest_or_cancel
  rest-day e = search tests

  pub rest-not : ((entry_at b i).life ≡ 0 → ⊥) → rest_or_cancel i b ≡ cancel_entry i b
  unfolding rest_or_cancel
  rest-not e = search tests

  -- each part of the rule
  rests-is : does i b (rests_as (entry_at b i)) ≡ rest_or_cancel i b
  unfolding rests_as rest_or_cancel does
  rests-is = pick-ap (does i b) _ _ _

  waits-is : does i b (waits_as (entry_at b i) (strategy_of b (entry_at b i)) b.entries) ≡ waits i b
  unfolding waits_as waits does
  waits-is =
      let e : Entry = entry_at b i in
      let t : Bool = answers_in b.entries e.strategy (strategy_of b e).starter e.side in
      let inner : does i b (pick t A.Answers A.Rests) ≡ still (answer e.strategy e.side b) =
      pick-ap (does i b) t _ _ ∙ sym (pick-ap still t _ _) ∙ ap still (sym (answer-by e.strategy e.side b)) in
      pick-ap (does i b) _ _ _ ∙ ap (λ (m : Moved). pick (eqb e.life 3) (cancel_entry i b) m) inner

  nothing_then : and_then (still b) (rest_or_cancel i) ≡ rest_or_cancel i b
  unfolding and_then
  nothing_then = refl

  trades-is : does i b (pick (idle_in (entry_at b i) (strategy_of b (entry_at b i)) b.entries b.orders) (rests_as (entry_at b i)) A.Passes) ≡ trades i b
  unfolding trades does
  trades-is =
      pick-by (λ (a : Arrival). does i b a ≡ trades i b) _
      (λ h. rests-is ∙ sym (ap (λ (m : Moved). and_then m (rest_or_cancel i)) (pass-still Shared true i b refl refl refl refl refl (idle_met (entry_at b i) (strategy_of b (entry_at b i)) b.entries b.orders refl ∙ h)) ∙ nothing_then))
      (λ h. refl)

  starts_is : starts_in (entry_at b i) (strategy_of b (entry_at b i)) b.orders ≡ starts b (entry_at b i)
  unfolding starts_in starts leg_net
  starts_is = refl

  -- the whole of it
  pub arrive-is : arrive i b ≡ does i b (arrival_of (entry_at b i) (strategy_of b (entry_at b i)) b.opened b.entries b.orders)
  unfolding arrive arrival_of shut_set does
  arrive-is = sym (
      pick-ap (does i b) _ _ _
      ∙ ap (λ (m : Moved). pick (all_open b (entry_at b i).strategy) m (does i b (rests_as (entry_at b i))))
      (pick-ap (does i b) _ _ _
      ∙ ap (λ (m : Moved). pick (running b (entry_at b i).strategy) (does i b (waits_as (entry_at b i) (strategy_of b (entry_at b i)) b.entries)) m)
      (pick-ap (does i b) _ _ _))
      ∙ rw (waits-is, trades-is, rests-is, starts_is))

-- an order that has entered: it stands at its slot, and does what its arrival says
module _ (e : Entry) (b : State) {i : ℕ} {rows : List Entry} (p : rows ≡ behind live no_entry e b.entries) (q : i ≡ length (keep live b.entries)) where
  pub enters-at : free_slot b < 32 → get_or rows i no_entry ≡ e
  unfolding free_slot
  enters-at h = rw (p, q) (behind-slot live no_entry e b.entries h)

  pub order_is : free_slot b < 32 → {a : Arrival} → a ≡ arrival_of e (strategy_of b e) b.opened rows b.orders → on_order e b ≡ does i (entered e rows b) a
  unfolding on_order free_slot
  order_is h {a} g =
      let at : get_or rows i no_entry ≡ e = enters-at h in
      let w : arrive i (entered e rows b) ≡ does i (entered e rows b) a =
      arrive-is i (entered e rows b) ∙ ap (does i (entered e rows b)) (rw at (sym g)) in
      rw (← q, ← entered-is e b p) w

  pub slot-within : free_slot b < 32 → i < 32
  unfolding free_slot
  slot-within h = rw q h

  -- an answer
  pub answers-is : free_slot b < 32 → {s : Strategy} → s ≡ with_auction (strategy_of b e) (strategy_of b e).starter (strategy_of b e).begun true
      → does i (entered e rows b) A.Answers ≡ still (auctioned (entered e rows b) e.strategy s)
  unfolding does
  answers-is h g = rw (enters-at h) (ap still (sym (put_is (entered e rows b) e.strategy _ _ true g)))
