-- "price 0 where whole met whole", and passes for which the legs are barred.
use mathlib.Core.Path.{◌≡◌, refl, ◌∙◌}
use mathlib.Core.Bool.{false}
use mathlib.Core.List.{List}
use Prim.Native.Nat.{ℕ, zero, suc}
use native.Mathlib.Omega.{arith}
use lib.Dec.{eqb}
use Rattle.base.specs.Pick.{pick_all, pick-by, pick-false}
use Rattle.base.specs.All.{All, all_nil, all_cons, all_append, all-at, all_replicate}
use Rattle.base.specs.Walks.{slot, all_join}
use Rattle.rules.specs.declared.Strategy.{Strategy}
use Rattle.rules.specs.declared.Entry.{Entry}
use Rattle.rules.specs.declared.State.{State}
use Rattle.rules.specs.declared.Allocation.{Allocation}
use Rattle.rules.specs.declared.Allocation.TheVariants.{LegsOnly, Shared, ForStarter, Numbered}
use Rattle.rules.specs.declared.Turn.{Turn}
use Rattle.rules.specs.State.{entry_at}
use Rattle.rules.specs.Moves.{Moved, still, and_then, each}
use Rattle.rules.specs.Records.{kind_number}
use Rattle.rules.specs.Fills.{leg_record_at, party_records, no_prices, whole_fill}
use Rattle.rules.specs.Quotas.{Division, in_turn, share}
use Rattle.rules.specs.Passes.{give_at, give, give_group, give_shared, give_for_starter, meet_limit, ready_net, opposite, legs_first, turn_at, allowed, turn_of, take_turn, turn, pass}
use Rattle.rules.specs.National.{bounds_at}
use Rattle.rules.specs.Auctions.{match_once, match_all}
use Rattle.rules.specs.Sentences.{Unpriced, WithoutLegs}
use Rattle.rules.proofs.Control.{first-net}
use Rattle.rules.proofs.Gives.{whole-orders}

-- no price stands in any slot
no-price : (i : ℕ) → slot no_prices i ≡ 0
no-price i = all-at {P = λ (x : ℕ). x ≡ 0} 0 refl (all_replicate {P = λ (x : ℕ). x ≡ 0} 0 refl 6) i

party-unpriced : (e : Entry) (s : Strategy) (q level : ℕ) → All Unpriced (party_records e s q level no_prices)
unfolding party_records kind_number
party-unpriced e s q level =
    all_append (all_cons (λ k. absurd (omega arith)) all_nil)
    (all_join (leg_record_at e s.legs q no_prices) s.count (λ i l. all_cons (λ k. omega (arith, no-price i)) all_nil))

-- WHOLE AGAINST WHOLE
pub whole-without : (b : State) (a h level q : ℕ) → WithoutLegs b (whole_fill b a h level q)
unfolding whole_fill
whole-without b a h level q = record {
  orders = whole-orders b a h level q;
  prices = pick_all (λ (m : Moved). All Unpriced m.records) (eqb q 0) all_nil (all_append (party-unpriced (entry_at b a) _ q level) (party-unpriced (entry_at b h) _ q level));
}

-- one after the other
still-without : (b : State) → WithoutLegs b (still b)
still-without b = record { orders = refl; prices = all_nil }

then-without : (b : State) (x : Moved) (f : State → Moved) → WithoutLegs b x → WithoutLegs x.state (f x.state) → WithoutLegs b (and_then x f)
unfolding and_then
then-without b x f h k = record { orders = k.orders ∙ h.orders; prices = all_append h.prices k.prices }

each-without : (f : ℕ → State → Moved) → ((i : ℕ) (c : State) → WithoutLegs c (f i c)) → (n : ℕ) (b : State) → WithoutLegs b (each f n b)
unfolding each
each-without f h zero b = still-without b
each-without f h (suc n) b = then-without b (each f n b) (f n) (each-without f h n b) (h n _)

give-without : (a level : ℕ) (qs : List ℕ) (b : State) → WithoutLegs b (give a level qs b)
unfolding give
give-without a level qs b = each-without (give_at a level qs) (λ i c. whole-without c a i level (slot qs i)) 32 b

shared-without : (second : Division) (a level : ℕ) (b : State) → WithoutLegs b (give_shared second a level b)
unfolding give_shared give_group
shared-without second a level b =
    then-without b (give_group in_turn a level 0 b) _ (give-without a level _ b)
    (then-without _ (give_group second a level 1 (give_group in_turn a level 0 b).state) (give_group share a level 2) (give-without a level _ _) (give-without a level _ _))

pub limit-without : (way : Allocation) (a level : ℕ) (b : State) → WithoutLegs b (meet_limit way a level b)
unfolding meet_limit give_for_starter give_group
limit-without LegsOnly a level b = still-without b
limit-without Shared a level b = shared-without share a level b
limit-without ForStarter a level b = shared-without _ a level b
limit-without Numbered a level b = give-without a level _ b

-- A TURN FOR WHICH THE LEGS ARE BARRED is none by the legs
barred-net : (a : ℕ) (b : State) → ready_net false a b ≡ 0
unfolding ready_net
barred-net a b = pick-false _ _ _ refl

turn-without : (way : Allocation) (a i : ℕ) (b : State) → WithoutLegs b (turn way false a i b)
unfolding turn_of turn_at allowed take_turn
turn-without way a i b =
    let e : Entry = entry_at b a in
    let x : ℕ = opposite way a b in
    let net : ℕ = ready_net false a b in
    let Q : Turn → Type 0 = λ (t : Turn). WithoutLegs b (take_turn way a t b) in
    let P : Turn → Type 0 = λ (t : Turn). Q (allowed (bounds_at b e.strategy) e.side net t) in
    pick_all P _ (still-without b)
    (pick-by P (legs_first e.side net x)
    (λ f. absurd (omega (arith, first-net e.side net x f, barred-net a b)))
    (λ _. pick_all P _ (still-without b) (pick_all P _ (pick_all Q _ (limit-without way a x b) (still-without b)) (still-without b))))

-- A PASS FOR WHICH THE LEGS ARE BARRED
pub pass-without : (way : Allocation) (a : ℕ) (b : State) → WithoutLegs b (pass way false a b)
unfolding pass
pass-without way a b = each-without (turn way false a) (turn-without way a) _ b

-- THE MATCH AT AN OPENING
pub match-without : (k : ℕ) (b : State) → WithoutLegs b (match_all k b)
unfolding match_all match_once
match-without k b = each-without (match_once k) (λ i c. pick_all (WithoutLegs c) _ (whole-without c _ _ _ _) (still-without c)) 32 b
