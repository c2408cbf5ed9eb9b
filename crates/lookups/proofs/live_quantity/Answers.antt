-- proofs/live_quantity/Answers.antt
use Rattle.std.proofs.Common.{◌≡◌, rules}
use Rattle.std.specs.List.{sum_by}
use Rattle.std.proofs.lemmas.Iterator.{YieldsList-from_slice, YieldsList-from_map}
use Rattle.std.proofs.lemmas.Iterator.Consumers.{fits_by_from_yields_list}
use native.Mathlib.Omega.{arith}
use Rattle.rules.specs.Lookups.{live_quantity}
use Rattle.lookups.specs.Lookups.{units_under, contracts_under, units-are, contracts-are, units-most, contracts-most}
use Rattle.lookups.proofs.live_quantity.Goals as goal

pub sum-units-requires-clause-fits : goal.sum-units-requires-clause-fits
sum-units-requires-clause-fits c =
    let e = units-are c.args.b c.args.n c.requires.sound.entry_rows in
    let m = units-most c.args.b c.args.n c.requires.sound.entries in
    fits_by_from_yields_list (units_under c.args.b c.args.n) c.args.b.entries c.map.result _
    (YieldsList-from_map _ _ (YieldsList-from_slice c.args.b.entries cc) c.map.ensures.closure (λ x r q k. search rules)) (omega (arith, e, m))

pub sum-contracts-requires-clause-fits : goal.sum-contracts-requires-clause-fits
sum-contracts-requires-clause-fits c =
    let e = contracts-are c.args.b c.args.n c.requires.sound.order_rows in
    let m = contracts-most c.args.b c.args.n c.requires.sound.orders in
    fits_by_from_yields_list (contracts_under c.args.b c.args.n) c.args.b.orders c.map-2.result _
    (YieldsList-from_map _ _ (YieldsList-from_slice c.args.b.orders cc) c.map-2.ensures.closure (λ x r q k. search rules)) (omega (arith, e, m))

pub overflow_add-result : goal.overflow_add-result
overflow_add-result c =
    let u : c.sum-units.result ≡ sum_by (units_under c.args.b c.args.n) c.args.b.entries = search rules in
    let v : c.sum-contracts.result ≡ sum_by (contracts_under c.args.b c.args.n) c.args.b.orders = search rules in
    let e = units-are c.args.b c.args.n c.requires.sound.entry_rows in
    let g = contracts-are c.args.b c.args.n c.requires.sound.order_rows in
    let m = units-most c.args.b c.args.n c.requires.sound.entries in
    let n = contracts-most c.args.b c.args.n c.requires.sound.orders in
    record { fits = omega arith }

pub returns : goal.returns
unfolding live_quantity
returns c =
    let u : c.sum-units.result ≡ sum_by (units_under c.args.b c.args.n) c.args.b.entries = search rules in
    let v : c.sum-contracts.result ≡ sum_by (contracts_under c.args.b c.args.n) c.args.b.orders = search rules in
    let e = units-are c.args.b c.args.n c.requires.sound.entry_rows in
    let g = contracts-are c.args.b c.args.n c.requires.sound.order_rows in
    rw (u, v, e, g)
