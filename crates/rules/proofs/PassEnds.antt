-- "Repeat while units of it remain .. Stop when neither meets its limit": what a pass leaves.
use mathlib.Core.Path.{◌≡◌, refl, sym, ◌∙◌}
use mathlib.Core.Bool.{Bool, true, false}
use mathlib.Core.Logic.{◌⊎◌, inl, inr, ⊎_elim}
use Prim.Native.Nat.{ℕ, ◌≤◌}
use native.Mathlib.Omega.{arith}
use borrow.Author.Tests.{eqb-true, eqb-false}
use lib.Dec.{eqb}
use Rattle.base.specs.Pick.{pick-by}
use Rattle.rules.specs.declared.Entry.{Entry}
use Rattle.rules.specs.declared.State.{State}
use Rattle.rules.specs.declared.Allocation.{Allocation}
use Rattle.rules.specs.declared.Allocation.TheVariants.{Shared, ForStarter, Numbered}
use Rattle.rules.specs.State.{entry_at}
use Rattle.rules.specs.Sides.{other, meets, better}
use Rattle.rules.specs.Passes.{opposes, best_opposite, ready_net, opposite, pass}
use Rattle.rules.specs.Valid.{Sound}
use Rattle.rules.specs.Sentences.{MeetsNone, LegsMeetNone, HadTurn}
use Rattle.rules.proofs.Shrinks.{Shrinks, shrinks-refl, shrinks-trans}
use Rattle.rules.proofs.Entering.{fit-entry-at}
use Rattle.rules.proofs.Control.{opposes-is}
use Rattle.rules.proofs.Ends.{no-better-fails, pass-why}
use Rattle.rules.proofs.Gives.{opposed}
use Rattle.rules.proofs.Firsts.{live-slot}
use Rattle.rules.proofs.Only.{Only, pass-only}
use Rattle.rules.proofs.Settled.{only-sound}
use Rattle.rules.proofs.Groups.{best-opposite, better-other}

-- of two sides one is the other
pub sides-two : (x y : ℕ) → x ≤ 1 → y ≤ 1 → (x ≡ y → ⊥) → x ≡ other y
unfolding other
sides-two x y h k d =
    pick-by (λ (n : ℕ). x ≡ n) (eqb y 0)
    (λ e. let z : y ≡ 0 = eqb-true y 0 e in omega arith)
    (λ e. let z : ¬ (y ≡ 0) = eqb-false y 0 e in omega arith)

-- where the best opposite limit is none, or does not meet, no opposite one meets
pub meets-none : (a : ℕ) (c : State) → Sound c → (best_opposite c.entries (entry_at c a) ≡ 0) ⊎ (meets (entry_at c a).side (entry_at c a).level (best_opposite c.entries (entry_at c a)) ≡ false) → MeetsNone c a
meets-none a c v why j l s d =
    let e : Entry = entry_at c a in
    let best : ℕ = best_opposite c.entries e in
    let o : opposes e (entry_at c j) ≡ true = opposes-is e (entry_at c j) l s (sides-two (entry_at c j).side e.side (fit-entry-at c v j).side (fit-entry-at c v a).side d) in
    let z = best-opposite c.entries e (λ k ok. (v.live k (opposed e (entry_at c k) ok).live).level) j (live-slot c v.entry_rows j l) o in
    let w : better e.side (entry_at c j).level best ≡ false = sym (better-other e.side best (entry_at c j).level) ∙ z.1 in
    ⊎_elim (λ u. absurd (omega (arith, z.0))) (λ m. no-better-fails e.side e.level (entry_at c j).level best w m) why

-- a pass was had, from an earlier state to a later one
pub turn-within : {b c d e : State} {i : ℕ} {legs : Bool} → Shrinks b c → HadTurn c d i legs → Shrinks d e → HadTurn b e i legs
turn-within h p k = record { moment = p.moment; since = shrinks-trans h p.since; until = shrinks-trans p.until k; done = p.done }

module _ (legs : Bool) (a : ℕ) (b : State) (v : Sound b) where
  by-legs : (c : State) → (ready_net legs a c ≡ 0) ⊎ (meets (entry_at c a).side (entry_at c a).level (ready_net legs a c) ≡ false) → legs ≡ true → LegsMeetNone c a
  by-legs c h e = rw e at h

  -- by the best opposite limit and the ready leg net
  pass-had : (way : Allocation) → opposite way a (pass way legs a b).state ≡ best_opposite (pass way legs a b).state.entries (entry_at (pass way legs a b).state a) → HadTurn b (pass way legs a b).state a legs
  pass-had way is =
      let c : State = (pass way legs a b).state in
      let o : Only (entry_at b a).strategy b c = pass-only (entry_at b a).strategy way legs a b v.order_rows refl in
      record {
        moment = c;
        since = o.shrinks;
        until = shrinks-refl c;
        done = ⊎_elim inl (λ r. inr (⊎_elim (λ n. inl (meets-none a c (only-sound o v) (rw is at n.limit), by-legs c n.legs)) (λ n. inr (rw is at n)) r)) (pass-why way legs a b);
      }

  pub shared-had : HadTurn b (pass Shared legs a b).state a legs
  unfolding opposite
  shared-had = pass-had Shared refl

  pub for-starter-had : HadTurn b (pass ForStarter legs a b).state a legs
  unfolding opposite
  for-starter-had = pass-had ForStarter refl

  pub numbered-had : HadTurn b (pass Numbered legs a b).state a legs
  unfolding opposite
  numbered-had = pass-had Numbered refl
