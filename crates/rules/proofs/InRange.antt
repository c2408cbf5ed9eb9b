-- "each fill of a complex order or sweep keeps to the range and prices known when it was made" (2026-01): of every event, by what the book knows
-- before it.
use mathlib.Core.Path.{◌≡◌, refl, sym, ◌∙◌, subst}
use mathlib.Core.Bool.{Bool, true, false, not}
use mathlib.Core.List.Memᴰ
use mathlib.Core.List.{List, Memᴰ}
use mathlib.Core.Logic.{⊎_elim}
use Prim.Native.Nat.{ℕ, ◌<◌}
use native.Mathlib.Omega.{arith}
use lib.Dec.{eqb}
use lib.ListN.{get_or, length}
use Rattle.base.specs.Pick.{pick, pick_all, pick_true}
use Rattle.base.specs.All.{All, all_nil, all_cons, all_append}
use Rattle.base.specs.Walks.{slot, all_join}
use Rattle.events.specs.declared.Event.{Event}
use Rattle.events.specs.declared.Event.TheVariants as E
use Rattle.rules.specs.declared.Strategy.{Strategy}
use Rattle.rules.specs.declared.Entry.{Entry}
use Rattle.rules.specs.declared.LegOrder.{LegOrder}
use Rattle.rules.specs.declared.Bounds.{Bounds}
use Rattle.rules.specs.declared.State.{State}
use Rattle.rules.specs.declared.Record.{Record}
use Rattle.rules.specs.State.{no_order, entry_at, strategy_of, with_entries, with_orders, with_opened, with_clock, with_last}
use Rattle.rules.specs.Moves.{Moved}
use Rattle.rules.specs.Records.{kind_number}
use Rattle.rules.specs.Nets.{prices, net_of, units_of}
use Rattle.rules.specs.National.{bounds_at, may_buy, may_sell, may_fill, may_meet, may_take}
use Rattle.rules.specs.Fills.{party_records, leg_record_at, no_prices, whole_fill, order_row, order_rows, order_records_at, takes_at, take_legs, leg_fill, leg_trade, cancel_entry, cancel_order, leg_quotas}
use Rattle.rules.specs.Auctions.{begin, close}
use Rattle.rules.specs.Events.{enter, enter_order}
use Rattle.rules.specs.Given.{order_given, leg_order_given}
use Rattle.rules.specs.Refusals.{first_cause, causes}
use Rattle.rules.specs.Step.{accept}
use Rattle.rules.specs.Valid.{Sound, Valid}
use Rattle.rules.specs.Fits.{FitEvent}
use Rattle.rules.specs.Sentences.{IsKind, InRange}
use Rattle.rules.proofs.Shrinks.{Shrinks, whole-shrinks, legs-shrinks, trade-shrinks, cancel-shrinks, cancel_order-shrinks, begin-shrinks, close-shrinks, answer-shrinks}
use Rattle.rules.proofs.Gives.{opposed, bounds-same}
use Rattle.rules.proofs.Control.{Proper, Legged, Kept}
use Rattle.rules.proofs.Entering.{sound-enter, sound-enter_order}
use Rattle.rules.proofs.Validity.{order-clear, leg_order-clear}
use Rattle.rules.specs.Totals.{Sent, outcome}
use Rattle.rules.proofs.Lists.{Went, refused_as, accepted_as, went, event-fits, refused-moved, accepted-moved}
use Rattle.rules.proofs.Nationals.{bound-sentence}
use Rattle.rules.proofs.Told.{Told, Starts, told-nothing, told-both, accept-told}

-- a state within the event that book b₀ is sent: what bounds each strategy is the same, and a live entry's strategy is defined
pub record Like (b₀ c : State) : Type 0 where
  pub bounds : (k : ℕ) → bounds_at c k ≡ bounds_at b₀ k
  pub live : (i : ℕ) → 0 < (entry_at c i).units → (entry_at c i).strategy < b₀.defined
  pub rows : length c.orders ≡ 32

like-shrinks : {b₀ b c : State} → Shrinks b c → Like b₀ b → Like b₀ c
like-shrinks h l = record {
  bounds = λ k. bounds-same h k ∙ l.bounds k;
  live = λ i p. rw (h.entry i).strategy (l.live i (omega (arith, (h.entry i).units)));
  rows = h.order_rows ∙ l.rows;
}

by : (t u v : Bool) → u ≡ true → v ≡ true → pick (pick (not t) true u) (pick (not (not t)) true v) false ≡ true
unfolding pick
by true u v p q = pick_true u true false p
by false u v p q = q

-- of a fill that either may take, each may
each-takes : (w : Bounds) (side level : ℕ) → may_meet w level ≡ true → may_take w side level ≡ true
unfolding may_fill
each-takes w side level m =
    let b = (bound-sentence w true true level).both m in
    by (eqb side 0) (may_buy w level) (may_sell w level) (b.0 refl) (b.1 refl)

-- a record of another kind
none_in : (b₀ : State) (r : Record) (n : ℕ) → IsKind n r → (n ≡ 1 → ⊥) → InRange b₀ r
none_in b₀ r n e h = record { strategy = λ k. absurd (h (sym e ∙ k)); range = λ k. absurd (h (sym e ∙ k)) }

-- THE RECORDS of each move
party-in : (b₀ : State) (e : Entry) (s : Strategy) (q level : ℕ) (ps : List ℕ) → e.strategy < b₀.defined → may_take (bounds_at b₀ e.strategy) e.side level ≡ true →
    All (InRange b₀) (party_records e s q level ps)
unfolding party_records kind_number
party-in b₀ e s q level ps d m =
    all_append (all_cons (record { strategy = λ _. d; range = λ _. m }) all_nil)
    (all_join (leg_record_at e s.legs q ps) s.count (λ i _. all_cons (none_in b₀ _ 2 refl (λ z. omega arith)) all_nil))

module _ (b₀ b : State) (l : Like b₀ b) where
  whole_in : (a h level q : ℕ) → Proper b a h level q → All (InRange b₀) (whole_fill b a h level q).records
  unfolding whole_fill
  whole_in a h level q p =
      let e : Entry = entry_at b a in
      let f : Entry = entry_at b h in
      let ok : may_meet (bounds_at b₀ e.strategy) level ≡ true = rw (l.bounds e.strategy) at p.range in
      let same : f.strategy ≡ e.strategy = (opposed e f p.opposed).strategy in
      pick_all (λ (m : Moved). All (InRange b₀) m.records) (eqb q 0) all_nil
      (all_append
      (party-in b₀ e (strategy_of b e) q level no_prices (l.live a (omega (arith, p.some, p.mine))) (each-takes _ e.side level ok))
      (party-in b₀ f (strategy_of b e) q level no_prices (l.live h (omega (arith, p.some, p.its))) (rw same (each-takes _ f.side level ok))))

  row_in : (o : LegOrder) (q price : ℕ) → All (InRange b₀) (order_row o q price)
  unfolding order_row kind_number
  row_in o q price = pick_all (All (InRange b₀)) (eqb q 0) all_nil (all_cons (none_in b₀ _ 2 refl (λ z. omega arith)) all_nil)

  legs-in : (a : ℕ) → Legged b a → All (InRange b₀) (leg_fill a b).records
  unfolding leg_fill take_legs
  legs-in a g =
      let e : Entry = entry_at b a in
      let s : Strategy = strategy_of b e in
      let ps : List ℕ = prices b.orders e.side s.legs in
      let q : ℕ = units_of b.orders e.side s ps e.units in
      all_append (party-in b₀ e s q (net_of s ps) ps (l.live a g.live) (rw (l.bounds e.strategy) at g.range))
      (all_join (order_records_at b.orders (takes_at e.side q s.legs ps)) s.count
      (λ i _. all_join (order_rows b.orders (leg_quotas b.orders (takes_at e.side q s.legs ps i)) (slot ps i)) 32
      (λ j _. row_in (get_or b.orders j no_order) _ _)))

module _ (b₀ b : State) where
  trade-in : (a h : ℕ) → All (InRange b₀) (leg_trade b a h).records
  unfolding leg_trade kind_number
  trade-in a h = all_cons (none_in b₀ _ 2 refl (λ z. omega arith)) (all_cons (none_in b₀ _ 2 refl (λ z. omega arith)) all_nil)

  cancel-in : (i : ℕ) → All (InRange b₀) (cancel_entry i b).records
  unfolding cancel_entry kind_number
  cancel-in i = pick_all (λ (m : Moved). All (InRange b₀) m.records) _ all_nil (all_cons (none_in b₀ _ 3 refl (λ z. omega arith)) all_nil)

  cancel_order-in : (i : ℕ) → All (InRange b₀) (cancel_order i b).records
  unfolding cancel_order kind_number
  cancel_order-in i = pick_all (λ (m : Moved). All (InRange b₀) m.records) _ all_nil (all_cons (none_in b₀ _ 3 refl (λ z. omega arith)) all_nil)

  begin-in : (i : ℕ) → All (InRange b₀) (begin i b).records
  unfolding begin kind_number
  begin-in i = all_cons (none_in b₀ _ 4 refl (λ z. omega arith)) all_nil

  close-in : (k : ℕ) → All (InRange b₀) (close k b).records
  unfolding close kind_number
  close-in k = all_cons (none_in b₀ _ 5 refl (λ z. omega arith)) all_nil

-- every proper fill is such, so every rule is
range-kept : (b₀ : State) → Kept (Told (Like b₀) (InRange b₀))
range-kept b₀ = record {
  nothing = told-nothing;
  both = told-both;
  whole = λ b a h level q p. record { records = λ l. whole_in b₀ b l a h level q p; state = like-shrinks (whole-shrinks b a h level q) };
  legs = λ b a g. record { records = λ l. legs-in b₀ b l a g; state = λ l. like-shrinks (legs-shrinks b l.rows a) l };
  trade = λ b a h t. record { records = λ _. trade-in b₀ b a h; state = like-shrinks (trade-shrinks b a h) };
  cancel = λ b i. record { records = λ _. cancel-in b₀ b i; state = like-shrinks (cancel-shrinks b i) };
  cancel_order = λ b i. record { records = λ _. cancel_order-in b₀ b i; state = like-shrinks (cancel_order-shrinks b i) };
  begins = λ b i. record { records = λ _. begin-in b₀ b i; state = like-shrinks (begin-shrinks b i) };
  closes = λ b k. record { records = λ _. close-in b₀ b k; state = like-shrinks (close-shrinks b k) };
  answers = λ b k side. record { records = λ _. all_nil; state = like-shrinks (answer-shrinks b k side) };
}

-- THE STATES FROM WHICH AN EVENT MOVES
like-sound : (b c : State) → Sound c → ((k : ℕ) → bounds_at c k ≡ bounds_at b k) → c.defined ≡ b.defined → Like b c
like-sound b c s h d = record { bounds = h; live = λ i l. omega (arith, (s.live i l).strategy); rows = s.order_rows }

starts : (b : State) (e : Event) → Valid b → FitEvent e → first_cause (causes b e) ≡ 0 → Starts (Like b) b e
unfolding with_opened with_clock enter enter_order with_entries with_orders with_last
starts b (E.Strategy e) v f c = tt
starts b (E.Order e) v f c = like-sound b _ (sound-enter b (order_given b e) v.sound (order-clear b e v.sound f c)) (λ k. refl) refl
starts b (E.Sweep e) v f c = like-sound b b v.sound (λ k. refl) refl
starts b (E.LegOrder e) v f c = like-sound b _ (sound-enter_order b (leg_order_given b e) v.sound (leg_order-clear b e f c)) (λ k. refl) refl
starts b (E.Cancel e) v f c = like-sound b b v.sound (λ k. refl) refl
starts b (E.Series e) v f c = λ x. record { bounds = λ k. refl; live = λ i l. (v.sound.live i l).strategy; rows = v.sound.order_rows }
starts b (E.Clock e) v f c = record { bounds = λ k. refl; live = λ i l. (v.sound.live i l).strategy; rows = v.sound.order_rows }
starts b (E.DayEnd e) v f c = like-sound b b v.sound (λ k. refl) refl
starts b (E.National e) v f c = tt
starts b (E.Range e) v f c = tt
starts b (E.Specialist e) v f c = tt

-- EVERY FILL OF AN ACCEPTED EVENT keeps to the range and prices that the book knew before it
pub fills-in-range : (b : State) (e : Event) → Valid b → FitEvent e → first_cause (causes b e) ≡ 0 → All (InRange b) (accept b e).records
fills-in-range b e v f c = accept-told (range-kept b) b e (starts b e v f c)

-- the records of one event of any bytes
pub event-in-range : (b : State) (x : Sent) → Valid b → All (InRange b) (outcome b x).moved.records
event-in-range b x v = go (went b x)
  where
    go : Went b x → All (InRange b) (outcome b x).moved.records
    go (refused_as n h e) = rw (refused-moved b x n e) all_nil
    go (accepted_as e p c q) = rw (accepted-moved b x e q) (fills-in-range b e v (event-fits x e p) c)

-- what holds of all records holds of each
pub all-mem : {A : Type 0} {P : A → Type 0} {xs : List A} {x : A} → All P xs → Memᴰ x xs → P x
all-mem all_nil m = absurd (Memᴰ.not-nil m)
all-mem {P = P} (all_cons p a) m = ⊎_elim (λ e. subst P (sym e) p) (λ k. all-mem a k) (Memᴰ.cases_cons m)
