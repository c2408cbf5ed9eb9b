-- proofs/not_found/Answers.antt
use Rattle.std.proofs.Common.{◌≡◌, rules, length, ◌∙◌, ap}
use Rattle.std.proofs.lemmas.Iterator.{YieldsList-from_slice}
use Rattle.std.proofs.lemmas.Iterator.Search.{any_from_yields_List}
use borrow.Author.Tests.{tests}
use Rattle.base.specs.Chains.{any-slots}
use Rattle.base.specs.Pick.{pick}
use Rattle.base.specs.Walks.{any_n}
use Rattle.rules.specs.State.{no_entry, no_order}
use Rattle.rules.specs.Refusals.{not_found, is_order_of, is_leg_order_of, order_at_is, leg_order_at_is}
use Rattle.refusals.proofs.not_found.Goals as goal

pub returns-then-not-any : goal.returns-then-not-any
unfolding not_found pick
returns-then-not-any c =
    let l : length c.args.b.entries ≡ 32 = search rules in
    let k : length c.args.b.orders ≡ 32 = search rules in
    let f = any_from_yields_List (is_order_of c.args.m c.args.n) _ _ c.any.result c.any.ensures.ran (YieldsList-from_slice c.args.b.entries cc) (λ x b q k. search (rules, tests)) in
    let g = any_from_yields_List (is_leg_order_of c.args.m c.args.n) _ _ c.any-then-not-any.result c.any-then-not-any.ensures.ran (YieldsList-from_slice c.args.b.orders cc) (λ x b q k. search (rules, tests)) in
    let u = any-slots no_entry (is_order_of c.args.m c.args.n) c.args.b.entries ∙ ap (any_n (order_at_is c.args.b c.args.m c.args.n)) l in
    let v = any-slots no_order (is_leg_order_of c.args.m c.args.n) c.args.b.orders ∙ ap (any_n (leg_order_at_is c.args.b c.args.m c.args.n)) k in
    rw (g, v, ← u, ← f, c.if-not-any.true)

pub returns-else-not-any : goal.returns-else-not-any
unfolding not_found pick
returns-else-not-any c =
    let l : length c.args.b.entries ≡ 32 = search rules in
    let f = any_from_yields_List (is_order_of c.args.m c.args.n) _ _ c.any.result c.any.ensures.ran (YieldsList-from_slice c.args.b.entries cc) (λ x b q k. search (rules, tests)) in
    let u = any-slots no_entry (is_order_of c.args.m c.args.n) c.args.b.entries ∙ ap (any_n (order_at_is c.args.b c.args.m c.args.n)) l in
    rw (← u, ← f, c.if-not-any.false)
