-- The rules of the end of an auction by what the code tests, and the ranges that they keep.
use Rattle.std.specs.Prelude.{◌≡◌, Bool, true, false, not, ℕ, ◌≤◌, eqb, length, Option}
use Rattle.std.proofs.Common.{ap, sym, ◌∙◌, arith, None, Some}
use Rattle.base.specs.Chains.{found, found-is, found-no}
use Rattle.std.proofs.Math.ListN.{get_or-eq_default}
use Rattle.base.specs.Pick.{tests}
use Rattle.rules.specs.declared.Entry.{Entry}
use Rattle.rules.specs.declared.State.{State}
use Rattle.rules.specs.declared.Allocation.{Allocation}
use Rattle.rules.specs.declared.Allocation.TheVariants.{ForStarter, Numbered}
use Rattle.rules.specs.State.{no_entry, entry_at, strategy_at}
use Rattle.rules.specs.Moves.{still, each}
use Rattle.rules.specs.Passes.{pass, turn}
use Rattle.rules.specs.Auctions.{starter_slot, starter_pass, later, later_pass}
use Rattle.rules.proofs.Control.{each-kept, starter_pass-kept, later_pass-kept, shrinks-kept}
use Rattle.records.specs.Done.{Done}
use Rattle.ranges.specs.Fit.{Fit, fit-done}
use Rattle.auctions.specs.Auctions.{starter_in}
use Rattle.records.specs.declared.Records.{Records}

-- a pass of no entry
pub pass-past : (way : Allocation) (legs : Bool) (a : ℕ) (b : State) → length b.entries ≡ 32 → 32 ≤ a → pass way legs a b ≡ still b
unfolding pass each
pass-past way legs a b n h =
    let e : entry_at b a ≡ no_entry = get_or-eq_default b.entries no_entry {n = a} (omega arith) in
    ap (λ (x : Entry). each (turn way legs a) x.units b) e

module _ (k : ℕ) (b : State) {r : Option ℕ} (p : r ≡ found 32 (starter_in b.entries k (strategy_at b k).starter)) where
  pub starter-here : {a : ℕ} → r ≡ Some a → starter_pass k b ≡ pass ForStarter (not (strategy_at b k).answered) a b
  unfolding starter_pass starter_slot
  starter-here q = rw (found-is (sym q ∙ p)).0

  pub starter-gone : length b.entries ≡ 32 → r ≡ None → starter_pass k b ≡ still b
  unfolding starter_pass starter_slot
  starter-gone n q = pass-past ForStarter _ _ b n (found-no (sym q ∙ p))

module _ (k n i : ℕ) (b : State) where
  pub later-not : later k n (entry_at b i) ≡ false → later_pass k n i b ≡ still b
  unfolding later_pass
  later-not e = search tests

  pub later-yes : {legs : Bool} → later k n (entry_at b i) ≡ true → legs ≡ not (eqb (entry_at b i).life 4) → later_pass k n i b ≡ pass Numbered legs i b
  unfolding later_pass
  later-yes e l = rw l (search tests)

-- the ranges after the passes
pub fit-starter : (k : ℕ) (b : State) {c : State} {r₀ r₁ : Records} → Fit b → Done r₀ r₁ c (starter_pass k b) → Fit c
fit-starter k b f d = fit-done d (starter_pass-kept shrinks-kept k b f.order_rows) f

pub fit-later : (k n i : ℕ) (b : State) {c : State} {r₀ r₁ : Records} → Fit b → Done r₀ r₁ c (each (later_pass k n) i b) → Fit c
fit-later k n i b f d = fit-done d (each-kept shrinks-kept (later_pass k n) (later_pass-kept shrinks-kept k n) i b f.order_rows) f
