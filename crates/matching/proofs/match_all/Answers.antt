use Rattle.std.proofs.Common.{◌≡◌, ◌<◌, ◌∙◌, sym, arith, refl}
use Rattle.base.specs.Pick.{told}
use Rattle.rules.specs.Auctions.{match_all}
use Rattle.rules.specs.National.{bounds_at}
use Rattle.records.specs.Done.{visit-none, visit-moves, visit-room, visit-all}
use Rattle.ranges.specs.Fit.{fit-legs}
use Rattle.matching.specs.Matching.{same-bounds, fit-matches, match_none, match-some}
use Rattle.base.specs.Chains.{found-is, found-none}
use Rattle.matching.specs.Slots.{may-found, may-no-buy, may-no-sell, matching-stops}
use Rattle.matching.proofs.match_all.Goals as goal

pub bounds-w-requires : goal.bounds-w-requires
bounds-w-requires c = (c.requires.k_lt_strategy_slots.1.quotes, fit-legs c.requires.k_lt_strategy_slots.1.strategies _)

pub loop-init : goal.loop-init
loop-init c = visit-none _ _ _ _

pub returns-in_default : goal.returns-in_default
returns-in_default c =
    let bounded : c.bounds-w.result ≡ bounds_at c.loop.b c.args.k = same-bounds _ _ _ c.requires.k_lt_strategy_slots.1 c.bounds-w.ensures c.loop.invariant.done in
    matching-stops _ _ c.loop.invariant (match_none c.args.k _ _ bounded refl refl (may-no-buy _ _ _ _ (found-none c.best_slot.ensures c.in_default.not-Some)))

pub returns-in_default-best_slot : goal.returns-in_default-best_slot
returns-in_default-best_slot c =
    let bounded : c.bounds-w.result ≡ bounds_at c.loop.b c.args.k = same-bounds _ _ _ c.requires.k_lt_strategy_slots.1 c.bounds-w.ensures c.loop.invariant.done in
    matching-stops _ _ c.loop.invariant (match_none c.args.k _ _ bounded refl refl (may-no-sell _ _ _ _ (found-none c.best_slot-in-loop.ensures c.in_default-best_slot.not-Some)))

pub returns-then-not-may_match : goal.returns-then-not-may_match
returns-then-not-may_match c =
    let bounded : c.bounds-w.result ≡ bounds_at c.loop.b c.args.k = same-bounds _ _ _ c.requires.k_lt_strategy_slots.1 c.bounds-w.ensures c.loop.invariant.done in
    let x = found-is (sym c.in-Some.is ∙ c.best_slot.ensures) in
    let y = found-is (sym c.in-Some-best_slot.is ∙ c.best_slot-in-loop.ensures) in
    let a : c.in-Some.x < 32 = omega (arith, x.0, x.1) in
    let h : c.in-Some-best_slot.y < 32 = omega (arith, y.0, y.1) in
    matching-stops _ _ c.loop.invariant (match_none c.args.k _ _ bounded x.0 y.0 (sym (may-found _ _ a h) ∙ told c.may_match.ensures c.if-not-may_match.true))

pub match_once-requires : goal.match_once-requires
unfolding match_all
match_once-requires c =
    let bounded : c.bounds-w.result ≡ bounds_at c.loop.b c.args.k = same-bounds _ _ _ c.requires.k_lt_strategy_slots.1 c.bounds-w.ensures c.loop.invariant.done in
    let x = found-is (sym c.in-Some.is ∙ c.best_slot.ensures) in
    let y = found-is (sym c.in-Some-best_slot.is ∙ c.best_slot-in-loop.ensures) in
    let a : c.in-Some.x < 32 = omega (arith, x.0, x.1) in
    let h : c.in-Some-best_slot.y < 32 = omega (arith, y.0, y.1) in
    record {
      x_lt_table_rows = (a, h, fit-matches _ _ _ c.requires.k_lt_strategy_slots.1 c.loop.invariant.done);
      room = visit-room c.loop.invariant c.loop-test.true (match-some c.args.k _ _ bounded x.0 y.0 (sym (may-found _ _ a h) ∙ told c.may_match.ensures c.if-not-may_match.false)) c.requires.room;
    }

pub loop-preserved : goal.loop-preserved
loop-preserved c =
    let bounded : c.bounds-w.result ≡ bounds_at c.loop.b c.args.k = same-bounds _ _ _ c.requires.k_lt_strategy_slots.1 c.bounds-w.ensures c.loop.invariant.done in
    let x = found-is (sym c.in-Some.is ∙ c.best_slot.ensures) in
    let y = found-is (sym c.in-Some-best_slot.is ∙ c.best_slot-in-loop.ensures) in
    let a : c.in-Some.x < 32 = omega (arith, x.0, x.1) in
    let h : c.in-Some-best_slot.y < 32 = omega (arith, y.0, y.1) in
    visit-moves c.loop.invariant c.loop-test.true (match-some c.args.k _ _ bounded x.0 y.0 (sym (may-found _ _ a h) ∙ told c.may_match.ensures c.if-not-may_match.false)) c.match_once.ensures

pub returns : goal.returns
unfolding match_all
returns c = visit-all c.loop.invariant c.loop-test.false
