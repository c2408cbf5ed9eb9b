use Rattle.std.proofs.Common.{◌≡◌, ◌∙◌, ap, sym, refl, ℕ, true, eqb, eqb-true, ◌<◌, length, get_or, arith, rules, unwrap_or, None, Some}
use Rattle.std.specs.Option.{option_eq}
use Rattle.std.specs.Prelude.{Option, List, ◌≤◌}
use Rattle.std.proofs.Common.{⊎_elim}
use Rattle.base.specs.All.{All}
use Rattle.base.specs.Walks.{table, lt-or-le}
use Rattle.rules.specs.declared.Strategy.{Strategy}
use Rattle.rules.specs.declared.LegOrder.{LegOrder}
use Rattle.rules.specs.declared.LegNets.{LegNets}
use Rattle.rules.specs.Valid.{FitOrder}
use Rattle.ranges.specs.Fit.{FitLegs}
use Rattle.rules.specs.Nets.{price_of}
use Rattle.stored_nets.specs.Stored.{after_at, Refreshed}
use Rattle.base.specs.Chains.{unless_zero}
use Rattle.rules.proofs.BetterNets.{price-most}
use Rattle.nets.specs.Bests.{unless-zero-or}
use Rattle.stored_nets.specs.Refreshing.{refreshed-same, refreshed-anew, refreshed-moved, all-after-none, all-after-some, step-first, step_set, step_skip, step-last, held-found, held-missing}
use Rattle.stored_nets.specs.Laws.{fit_at_lem}
use Rattle.stored_nets.specs.Places.{leg-ratio}
use Rattle.ranges.specs.Fit.{fit-legs}
use Rattle.rules.specs.Rows.{no_strategy}
use Rattle.base.specs.Pick.{pick-false, told}
use Rattle.stored_nets.proofs.refreshed.Goals.{then-holds+in-Some, then-holds+in_default, else-holds}
use Rattle.stored_nets.proofs.refreshed.Goals as goal

refreshed-after : (ns : List LegNets) (ss : List Strategy) (os : List LegOrder) (s d p : ℕ) {ms : List LegNets} → All FitLegs ss → d ≤ 1 → All FitOrder os
    → {q : ℕ} → q ≡ price_of os s d → ms ≡ table (after_at ns ss os s d p q) 16 → Refreshed ns ss os s d p ms
refreshed-after ns ss os s d p fit two a {q} w m =
    ⊎_elim
    (λ (h : p < 1). let z : p ≡ 0 = omega arith in refreshed-anew ns ss os s d p fit two z (m ∙ all-after-none ns ss os s d p q z))
    (λ (h : 1 ≤ p). let z : ¬ (p ≡ 0) = λ y. omega arith in refreshed-moved ns ss os s d p fit two a z w (m ∙ all-after-some ns ss os s d p q z))
    (lt-or-le p 1)

option-same : (a b : Option ℕ) → option_eq eqb a b ≡ true → a ≡ b
option-same None None e = refl
option-same (Some x) (Some y) e = ap Some (eqb-true x y e)
option-same None (Some y) e = absurd (cc)
option-same (Some x) None e = absurd (cc)

-- the price now, by its number
new-price : {o : Option ℕ} {n q : ℕ} → o ≡ unless_zero n → q ≡ unwrap_or o 0 → q ≡ n
new-price {n = n} e f = f ∙ ap (λ (x : Option ℕ). unwrap_or x 0) e ∙ unless-zero-or n

pub returns-then-eq : goal.returns-then-eq
returns-then-eq c =
    refreshed-same _ _ _ _ _ _
    (sym (unless-zero-or _) ∙ ap (λ (x : Option ℕ). unwrap_or x 0) (sym c.price_of-q.ensures ∙ option-same _ _ (sym c.eq.ensures ∙ c.if-eq.true)))

pub loop-k-init : goal.loop-k-init
loop-k-init c = step-first _ _

pub leg_of-requires : goal.leg_of-requires
leg_of-requires c = fit-legs c.requires.0 _

pub nets_after-requires : goal.nets_after-requires
nets_after-requires c =
    (fit_at_lem c.requires.3 _, fit-legs c.requires.0 _, leg-ratio _ _ (fit-legs c.requires.0 _) c.in-Some.ensures, c.requires.1, c.requires.2, rw c.unwrap_or-old.ensures c.requires.5, rw (new-price c.price_of-q.ensures c.unwrap_or-new.ensures) (price-most _ c.requires.1 _ _))

pub loop-k-preserved : goal.loop-k-preserved
loop-k-preserved c =
    let n : length c.args.ns ≡ 16 = search rules in
    let h : c.loop-k.k < 16 = omega arith in
    elim c.if-holds.branch [
      | then-holds+in-Some w ↦ rw w.ms-is (step_set _ _ n h (w.nets_after.ensures ∙ held-found (get_or c.args.ss c.loop-k.k no_strategy) c.args.s _ _ (told c.holds.ensures w.if-holds.true) w.in-Some.ensures) c.loop-k.invariant)
      | then-holds+in_default w ↦ rw w.ms-is (step_skip _ _ n h (held-missing (get_or c.args.ss c.loop-k.k no_strategy) c.args.s _ _ (told c.holds.ensures w.if-holds.true) w.in_default.ensures) c.loop-k.invariant)
      | else-holds w ↦ rw w.ms-is (step_skip _ _ n h (pick-false _ _ _ (told c.holds.ensures w.if-holds.false)) c.loop-k.invariant)
    ]

pub returns : goal.returns
returns c =
    let n : length c.args.ns ≡ 16 = search rules in
    rw (← c.unwrap_or-old.ensures)
    (refreshed-after _ _ _ _ _ _ c.requires.0 c.requires.4 c.requires.1 (new-price c.price_of-q.ensures c.unwrap_or-new.ensures) (step-last _ _ n (omega arith) c.loop-k.invariant))
