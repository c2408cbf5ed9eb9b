-- The rules of a sweep by what the code tests, and the ranges that they keep.
use Rattle.std.specs.Prelude.{◌≡◌, true, false, ℕ, ◌≤◌, length, Option}
use Rattle.std.proofs.Math.Path.{ap}
use Rattle.std.proofs.Common.{sym, ◌∙◌, arith, None, Some}
use Rattle.base.specs.Chains.{found, found-is, found-no}
use Rattle.std.proofs.Math.ListN.{get_or-eq_default}
use Rattle.base.specs.Pick.{tests}
use Rattle.rules.specs.declared.Entry.{Entry}
use Rattle.rules.specs.declared.State.{State}
use Rattle.rules.specs.State.{no_entry, entry_at}
use Rattle.rules.specs.Moves.{still}
use Rattle.rules.specs.Fills.{cancel_entry}
use Rattle.rules.specs.Auctions.{answer}
use Rattle.rules.specs.Events.{live, enter, old_sweep, enter_sweep}
use Rattle.rules.specs.Valid.{FitEntry}
use Rattle.tables.specs.Only.{only_entries}

-- an entry that is live is in its ranges
pub record MayEnter (e : Entry) : Type 0 where
  pub fit : live e ≡ true → FitEntry e

-- laws

-- a sweep that enters
module _ (e : Entry) (b : State) where
  pub sweep-none : live e ≡ false → still b ≡ enter_sweep e b
  unfolding enter_sweep
  sweep-none l = search tests

  pub sweep-enters : live e ≡ true → {c d : State} → c ≡ enter e b → d ≡ answer e.strategy e.side c → still d ≡ enter_sweep e b
  unfolding enter_sweep
  sweep-enters l p q = rw (q, p) (search tests)

-- the cancel at the slot that the code has found, if there is one
module _ (e : Entry) (b : State) {r : Option ℕ} (p : r ≡ found 32 (old_sweep (only_entries b.entries) e)) where
  pub old-is : {i : ℕ} → r ≡ Some i → cancel_entry (old_sweep b e) b ≡ cancel_entry i b
  unfolding old_sweep
  old-is q = rw (found-is (sym q ∙ p)).0

  pub old-none : length b.entries ≡ 32 → r ≡ None → cancel_entry (old_sweep b e) b ≡ still b
  unfolding cancel_entry old_sweep
  old-none n q =
      let k : ℕ = old_sweep (only_entries b.entries) e in
      let l : 32 ≤ k = found-no (sym q ∙ p) in
      let x : entry_at b k ≡ no_entry = get_or-eq_default b.entries no_entry {n = k} (omega arith) in
      let z : (entry_at b k).units ≡ 0 = ap (λ (y : Entry). y.units) x in
      search tests
