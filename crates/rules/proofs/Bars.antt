-- "The starter gets a shared pass, legs barred if any opposite sweep or waiting order was accepted meanwhile."
use mathlib.Core.Path.{◌≡◌, refl, sym, ◌∙◌, ap}
use mathlib.Core.Bool.{Bool, true, not}
use mathlib.Core.Logic.{◌⊎◌, inl, inr, ⊎_elim}
use mathlib.Core.List.{List}
use Prim.Native.Nat.{ℕ, zero, suc, ◌<◌}
use native.Mathlib.Omega.{arith}
use lib.Dec.{eqb}
use lib.ListN.{get_or, length}
use Rattle.base.specs.Pick.{pick_all, pick-by}
use Rattle.base.specs.All.{All, all_nil, all_cons, all_append, all_map}
use Rattle.base.specs.Walks.{slot, all_join}
use Rattle.rules.specs.declared.Strategy.{Strategy}
use Rattle.rules.specs.declared.Entry.{Entry}
use Rattle.rules.specs.declared.LegOrder.{LegOrder}
use Rattle.rules.specs.declared.State.{State}
use Rattle.rules.specs.declared.Record.{Record}
use Rattle.rules.specs.declared.Kind.{Kind}
use Rattle.rules.specs.declared.Kind.TheVariants.{WholeFill, LegFill, LegOrderFill}
use Rattle.rules.specs.declared.Allocation.{Allocation}
use Rattle.rules.specs.declared.Allocation.TheVariants.{LegsOnly, Shared, ForStarter, Numbered}
use Rattle.rules.specs.declared.Turn.{Turn}
use Rattle.rules.specs.declared.Turn.TheVariants.{Stop, ByLegs, AtLimit}
use Rattle.rules.specs.State.{no_order, entry_at, strategy_at, strategy_of}
use Rattle.rules.specs.Moves.{Moved, and_then, each}
use Rattle.rules.specs.Records.{kind_number}
use Rattle.rules.specs.Nets.{prices, net_of, units_of}
use Rattle.rules.specs.Fills.{leg_record_at, party_records, order_row, order_rows, order_records_at, takes_at, leg_quotas, whole_fill, take_legs, leg_fill, cancel_entry}
use Rattle.rules.specs.Quotas.{Division, share}
use Rattle.rules.specs.Passes.{give_at, give, give_group, give_shared, give_for_starter, meet_limit, opposite, turn_of, take_turn, turn, pass}
use Rattle.rules.specs.Auctions.{starter_slot, cancel_lapsed, close, end_unfilled, starter_pass, later, later_pass}
use Rattle.rules.specs.Valid.{Sound, Starter}
use Rattle.rules.specs.Sentences.{Unpriced, UnpricedOf, WithoutLegs, LegsMeetNone, BarredHere, AheadNumbered, NonePassed, StarterSentence, LaterSentence}
use Rattle.rules.proofs.Shrinks.{Shrinks, shrinks-refl, shrinks-trans}
use Rattle.rules.proofs.Control.{turn-kept, shrinks-kept}
use Rattle.rules.proofs.Ends.{pass-why}
use Rattle.rules.proofs.Validity.{starter-slot}
use Rattle.rules.proofs.WholeFills.{limit-without, pass-without}
use Rattle.rules.proofs.Cancels.{same-slot}
use Rattle.rules.proofs.Groups.{starter-pass, numbered-pass}

-- THE STARTER'S PASS
-- the slot that the rules seek is the starter's
pub starter-is : (b : State) → Sound b → (k i : ℕ) → Starter b k i → starter_slot b k ≡ i
starter-is b s k i h =
    let p : Starter b k (starter_slot b k) = starter-slot b s k (record { at = i; starter = h }) in
    same-slot s _ i p.live h.live (p.number ∙ sym h.number)

pub starter-sentence : (b : State) → Sound b → (k : ℕ) → StarterSentence b k (starter_pass k b)
unfolding starter_pass opposite
starter-sentence b s k = record {
  barred = λ e. rw e (pass-without ForStarter (starter_slot b k) b);
  passes_none = λ i h. rw (starter-is b s k i h) (starter-pass (not (strategy_at b k).answered) i b s);
  free = λ e i h. rw (e, starter-is b s k i h) (why i);
}
  where
    why : (i : ℕ) → ((entry_at (pass ForStarter true i b).state i).units ≡ 0) ⊎ (LegsMeetNone (pass ForStarter true i b).state i ⊎ BarredHere (pass ForStarter true i b).state i true)
    why i = ⊎_elim inl (λ r. inr (⊎_elim (λ n. inl n.legs) inr r)) (pass-why ForStarter true i b)

-- THE PASS OF ANOTHER
pub later-sentence : (b : State) → Sound b → (k n i : ℕ) → LaterSentence b i (later_pass k n i b)
unfolding later_pass
later-sentence b s k n i = record {
  passes_none = pick_all (λ (x : Moved). NonePassed AheadNumbered i b x.state) _ (numbered-pass (not (eqb (entry_at b i).life 4)) i b s) (λ i j n t h fell. absurd (omega arith));
  sweep_barred = λ e. pick_all (WithoutLegs b) _ (rw e (pass-without Numbered i b)) (record { orders = refl; prices = all_nil });
}

-- what holds of the records of every move holds of those of all
pub each_all : (P : Record → Type 0) (f : ℕ → State → Moved) → ((i : ℕ) (c : State) → All P (f i c).records) → (n : ℕ) (b : State) → All P (each f n b).records
unfolding each and_then
each_all P f h zero b = all_nil
each_all P f h (suc n) b = all_append (each_all P f h n b) (h n _)

-- PASSES OF OTHERS: no leg fill in them is of that number
module _ (n : ℕ) where
  pub unpriced-of : {rs : List Record} → All Unpriced rs → All (UnpricedOf n) rs
  unfolding kind_number
  unpriced-of = all_map (λ r h k _. h (ap kind_number k))

  other-party : (e : Entry) (s : Strategy) (q level : ℕ) (ps : List ℕ) → (e.number ≡ n → ⊥) → All (UnpricedOf n) (party_records e s q level ps)
  unfolding party_records
  other-party e s q level ps d =
      all_append (all_cons (λ k. absurd (let z : ◌≡◌ {A = ℕ} 0 1 = cc in omega arith)) all_nil)
      (all_join (leg_record_at e s.legs q ps) s.count (λ i l. all_cons (λ _ m. absurd (d m)) all_nil))

  order_row_lem : (o : LegOrder) (q price : ℕ) → All (UnpricedOf n) (order_row o q price)
  unfolding order_row
  order_row_lem o q price = pick_all (All (UnpricedOf n)) _ all_nil (all_cons (λ k. absurd (let z : ◌≡◌ {A = ℕ} 0 1 = cc in omega arith)) all_nil)

  other-legs : (b : State) (a : ℕ) → ((entry_at b a).number ≡ n → ⊥) → All (UnpricedOf n) (leg_fill a b).records
  unfolding leg_fill take_legs
  other-legs b a d =
      let e : Entry = entry_at b a in
      let s : Strategy = strategy_of b e in
      let ps : List ℕ = prices b.orders e.side s.legs in
      let q : ℕ = units_of b.orders e.side s ps e.units in
      all_append (other-party e s q (net_of s ps) ps d)
      (all_join (order_records_at b.orders (takes_at e.side q s.legs ps)) s.count
      (λ i _. all_join (order_rows b.orders (leg_quotas b.orders (takes_at e.side q s.legs ps i)) (slot ps i)) 32
      (λ j _. order_row_lem (get_or b.orders j no_order) (slot (leg_quotas b.orders (takes_at e.side q s.legs ps i)) j) (slot ps i))))

  other-take : (way : Allocation) (a : ℕ) (t : Turn) (b : State) → ((entry_at b a).number ≡ n → ⊥) → All (UnpricedOf n) (take_turn way a t b).records
  unfolding take_turn
  other-take way a Stop b d = all_nil
  other-take way a ByLegs b d = other-legs b a d
  other-take way a (AtLimit level) b d = unpriced-of (limit-without way a level b).prices

  -- moves one after the other, each from a state that the earlier ones have lessened
  pub each_of : (f : ℕ → State → Moved) (b : State) (k : ℕ) → ((i : ℕ) → i < k → (c : State) → Shrinks b c → All (UnpricedOf n) (f i c).records) →
      ((i : ℕ) (c : State) → Shrinks b c → Shrinks b (f i c).state) → All (UnpricedOf n) (each f k b).records × Shrinks b (each f k b).state
  unfolding each and_then
  each_of f b zero h g = (all_nil, shrinks-refl b)
  each_of f b (suc k) h g =
      let r = each_of f b k (λ i l. h i (omega arith)) g in
      (all_append r.0 (h k (omega arith) _ r.1), g k _ r.1)

  pub other-pass : (way : Allocation) (legs : Bool) (a : ℕ) (b : State) → length b.orders ≡ 32 → ((entry_at b a).number ≡ n → ⊥) → All (UnpricedOf n) (pass way legs a b).records
  unfolding pass
  other-pass way legs a b m d =
      (each_of (turn way legs a) b _ (λ i _ c s. other-take way a (turn_of way legs a c) c (λ e. d (sym (s.entry a).number ∙ e)))
      (λ i c s. shrinks-trans s (turn-kept shrinks-kept way legs a i c (s.order_rows ∙ m)))).0

  -- from the cancels on there is no fill
  pub unfilled-of : (k : ℕ) (b : State) → All (UnpricedOf n) (end_unfilled k b).records
  unfolding end_unfilled and_then cancel_lapsed cancel_entry close
  unfilled-of k b =
      let P : Moved → Type 0 = λ (m : Moved). All (UnpricedOf n) m.records in
      all_append
      (each_all (UnpricedOf n) (cancel_lapsed k)
      (λ i c. pick_all P _ (pick_all P _ all_nil (all_cons (λ q. absurd (let z : ◌≡◌ {A = ℕ} 0 1 = cc in omega arith)) all_nil)) all_nil) 32 b)
      (all_cons (λ q. absurd (let z : ◌≡◌ {A = ℕ} 0 1 = cc in omega arith)) all_nil)

  -- the pass of another entry that was accepted meanwhile
  pub later_of : (k m i : ℕ) (b : State) → length b.orders ≡ 32 → (later k m (entry_at b i) ≡ true → (entry_at b i).number ≡ n → ⊥) → All (UnpricedOf n) (later_pass k m i b).records
  unfolding later_pass
  later_of k m i b rows d =
      pick-by (λ (x : Moved). All (UnpricedOf n) x.records) (later k m (entry_at b i)) (λ t. other-pass Numbered _ i b rows (d t)) (λ _. all_nil)

-- THE KINDS OF A PASS'S RECORDS: fills alone
module _ (K : Kind → Type 0) (whole : K WholeFill) (leg : K LegFill) (order : K LegOrderFill) where
  abbrev P : Record → Type 0
  P r = K r.kind

  party-kinds : (e : Entry) (s : Strategy) (q level : ℕ) (ps : List ℕ) → All P (party_records e s q level ps)
  unfolding party_records
  party-kinds e s q level ps = all_append (all_cons whole all_nil) (all_join (leg_record_at e s.legs q ps) s.count (λ i l. all_cons leg all_nil))

  row-kinds : (o : LegOrder) (q price : ℕ) → All P (order_row o q price)
  unfolding order_row
  row-kinds o q price = pick_all (All P) _ all_nil (all_cons order all_nil)

  legs-kinds : (a : ℕ) (b : State) → All P (leg_fill a b).records
  unfolding leg_fill take_legs
  legs-kinds a b =
      let e : Entry = entry_at b a in
      let s : Strategy = strategy_of b e in
      let ps : List ℕ = prices b.orders e.side s.legs in
      let q : ℕ = units_of b.orders e.side s ps e.units in
      all_append (party-kinds e s q (net_of s ps) ps)
      (all_join (order_records_at b.orders (takes_at e.side q s.legs ps)) s.count
      (λ i _. all_join (order_rows b.orders (leg_quotas b.orders (takes_at e.side q s.legs ps i)) (slot ps i)) 32
      (λ j _. row-kinds (get_or b.orders j no_order) (slot (leg_quotas b.orders (takes_at e.side q s.legs ps i)) j) (slot ps i))))

  give-kinds : (a level : ℕ) (qs : List ℕ) (b : State) → All P (give a level qs b).records
  unfolding give whole_fill
  give-kinds a level qs b =
      each_all P (give_at a level qs) (λ i c. pick_all (λ (m : Moved). All P m.records) _ all_nil (all_append (party-kinds _ _ _ _ _) (party-kinds _ _ _ _ _))) 32 b

  shared-kinds : (second : Division) (a level : ℕ) (b : State) → All P (give_shared second a level b).records
  unfolding give_shared give_group and_then
  shared-kinds second a level b = all_append (give-kinds a level _ b) (all_append (give-kinds a level _ _) (give-kinds a level _ _))

  limit-kinds : (way : Allocation) (a level : ℕ) (b : State) → All P (meet_limit way a level b).records
  unfolding meet_limit give_for_starter give_group
  limit-kinds LegsOnly a level b = all_nil
  limit-kinds Shared a level b = shared-kinds share a level b
  limit-kinds ForStarter a level b = shared-kinds _ a level b
  limit-kinds Numbered a level b = give-kinds a level _ b

  take-kinds : (way : Allocation) (a : ℕ) (t : Turn) (b : State) → All P (take_turn way a t b).records
  unfolding take_turn
  take-kinds way a Stop b = all_nil
  take-kinds way a ByLegs b = legs-kinds a b
  take-kinds way a (AtLimit level) b = limit-kinds way a level b

  pub pass-kinds : (way : Allocation) (legs : Bool) (a : ℕ) (b : State) → All P (pass way legs a b).records
  unfolding pass
  pass-kinds way legs a b = each_all P (turn way legs a) (λ i c. take-kinds way a (turn_of way legs a c) c) _ b
