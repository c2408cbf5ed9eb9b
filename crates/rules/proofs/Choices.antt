-- What an order does next: an opposite limit, or the legs where they are strictly better.
use mathlib.Core.Path.{◌≡◌, refl, sym, ◌∙◌, ap}
use mathlib.Core.Bool.{Bool, true, false}
use mathlib.Core.Logic.{◌⊎◌, inl, inr}
use mathlib.Core.List.{List}
use Prim.Native.Nat.{ℕ, zero, suc, ◌<◌}
use native.Mathlib.Omega.{arith}
use borrow.Author.Tests.{eqb-true, eqb-false}
use lib.Dec.{eqb}
use Rattle.base.specs.All.{All, all_nil, all_cons, all_append}
use Rattle.base.specs.Pick.{pick, pick_all, pick-by, pick_no, pick-false}
use Rattle.base.specs.Walks.{slot, all_join}
use Rattle.rules.specs.declared.Strategy.{Strategy}
use Rattle.rules.specs.declared.Entry.{Entry}
use Rattle.rules.specs.declared.State.{State}
use Rattle.rules.specs.declared.Allocation.{Allocation}
use Rattle.rules.specs.declared.Allocation.TheVariants.{LegsOnly, Shared, ForStarter, Numbered}
use Rattle.rules.specs.declared.Turn.{Turn}
use Rattle.rules.specs.declared.Turn.TheVariants.{Stop, ByLegs, AtLimit}
use Rattle.rules.specs.State.{entry_at}
use Rattle.rules.specs.Moves.{Moved, and_then, each}
use Rattle.rules.specs.Records.{kind_number}
use Rattle.rules.specs.Sides.{meets, better}
use Rattle.rules.specs.Fills.{leg_record_at, party_records, no_prices, whole_fill}
use Rattle.rules.specs.Quotas.{Division, share}
use Rattle.rules.specs.Passes.{legs_first, turn_at, give_at, give, give_group, give_shared, give_for_starter, meet_limit}
use Rattle.rules.specs.Sentences.{TurnSentence, AtThatLimit}
use Rattle.rules.proofs.Validity.{then-no}

-- the three turns are apart
abbrev pub kind_of : Turn → ℕ
kind_of Stop = 0
kind_of ByLegs = 1
kind_of (AtLimit level) = 2

abbrev pub level_of : Turn → ℕ
level_of Stop = 0
level_of ByLegs = 0
level_of (AtLimit level) = level

pub apart : {t u : Turn} → t ≡ u → kind_of t ≡ kind_of u
apart e = ap kind_of e

module _ (e : Entry) (x net : ℕ) where
  stopped : TurnSentence e x net Stop
  stopped = record {
    at_limit = λ level q. absurd (let z : ◌≡◌ {A = ℕ} 0 2 = apart q in omega arith);
    by_legs = λ q. absurd (let z : ◌≡◌ {A = ℕ} 0 1 = apart q in omega arith);
  }

  -- legs first: ready, and no limit or strictly better
  first-why : legs_first e.side net x ≡ true → (0 < net) × ((x ≡ 0) ⊎ (better e.side net x ≡ true))
  unfolding legs_first
  first-why l =
      let p = pick_no (eqb net 0) l in
      let n = eqb-false net 0 p.0 in
      (omega (arith, n), go (eqb x 0) refl p.1)
    where
      go : (t : Bool) → eqb x 0 ≡ t → pick (eqb x 0) true (better e.side net x) ≡ true → (x ≡ 0) ⊎ (better e.side net x ≡ true)
      go true t h = inl (eqb-true _ _ t)
      go false t h = inr (sym (pick-false _ _ _ t) ∙ h)

  -- not first: not ready, or a limit stands that is no worse
  not-why : legs_first e.side net x ≡ false → eqb x 0 ≡ false → (net ≡ 0) ⊎ (better e.side net x ≡ false)
  unfolding legs_first
  not-why l z = go (eqb net 0) refl
    where
      go : (t : Bool) → eqb net 0 ≡ t → (net ≡ 0) ⊎ (better e.side net x ≡ false)
      go true t = inl (eqb-true _ _ t)
      go false t = inr (sym (pick-false _ _ _ z) ∙ then-no (eqb net 0) l t)

  legs : legs_first e.side net x ≡ true → meets e.side e.level net ≡ true → TurnSentence e x net ByLegs
  legs l m =
      let p = first-why l in
      record {
        at_limit = λ level q. absurd (let z : ◌≡◌ {A = ℕ} 1 2 = apart q in omega arith);
        by_legs = λ q. (p.0, m, p.1);
      }

  limit : legs_first e.side net x ≡ false → eqb x 0 ≡ false → meets e.side e.level x ≡ true → TurnSentence e x net (AtLimit x)
  limit l z m =
      let n = eqb-false x 0 z in
      record {
        at_limit = λ level q. (sym (ap level_of q), omega (arith, n), m, not-why l z);
        by_legs = λ q. absurd (let y : ◌≡◌ {A = ℕ} 2 1 = apart q in omega arith);
      }

  pub turn-sentence : TurnSentence e x net (turn_at e x net)
  unfolding turn_at
  turn-sentence =
      let S : Turn → Type 0 = λ (t : Turn). TurnSentence e x net t in
      pick-by S (eqb e.units 0) (λ _. stopped)
      (λ _. pick-by S (legs_first e.side net x)
      (λ l. pick-by S (meets e.side e.level net) (λ m. legs l m) (λ _. stopped))
      (λ l. pick-by S (eqb x 0) (λ _. stopped) (λ z. pick-by S (meets e.side e.level x) (λ m. limit l z m) (λ _. stopped))))

-- AT THE OPPOSITE LIMIT
pub party-at : (e : Entry) (s : Strategy) (q level : ℕ) (ps : List ℕ) → All (AtThatLimit level) (party_records e s q level ps)
unfolding party_records kind_number
party-at e s q level ps =
    all_append (all_cons (λ k. refl) all_nil) (all_join (leg_record_at e s.legs q ps) s.count (λ i l. all_cons (λ k. absurd (omega arith)) all_nil))

whole-at : (b : State) (a h level q : ℕ) → All (AtThatLimit level) (whole_fill b a h level q).records
unfolding whole_fill
whole-at b a h level q =
    pick_all (λ (m : Moved). All (AtThatLimit level) m.records) (eqb q 0) all_nil (all_append (party-at (entry_at b a) _ q level no_prices) (party-at (entry_at b h) _ q level no_prices))

each_at : (level : ℕ) (f : ℕ → State → Moved) → ((i : ℕ) (c : State) → All (AtThatLimit level) (f i c).records) → (n : ℕ) (b : State) → All (AtThatLimit level) (each f n b).records
unfolding each and_then
each_at level f h zero b = all_nil
each_at level f h (suc n) b = all_append (each_at level f h n b) (h n _)

give_at_lem : (a level : ℕ) (qs : List ℕ) (b : State) → All (AtThatLimit level) (give a level qs b).records
unfolding give
give_at_lem a level qs b = each_at level (give_at a level qs) (λ i c. whole-at c a i level (slot qs i)) 32 b

shared-price : (second : Division) (a level : ℕ) (b : State) → All (AtThatLimit level) (give_shared second a level b).records
unfolding give_shared give_group and_then
shared-price second a level b = all_append (give_at_lem a level _ b) (all_append (give_at_lem a level _ _) (give_at_lem a level _ _))

pub limit-price : (way : Allocation) (a level : ℕ) (b : State) → All (AtThatLimit level) (meet_limit way a level b).records
unfolding meet_limit give_for_starter give_group
limit-price LegsOnly a level b = all_nil
limit-price Shared a level b = shared-price share a level b
limit-price ForStarter a level b = shared-price _ a level b
limit-price Numbered a level b = give_at_lem a level _ b
