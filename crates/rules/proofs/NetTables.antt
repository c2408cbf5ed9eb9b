-- THE TABLE OF NETS (2026-05), row by row: of strategies that kept their legs, of one that is defined, of a fresh book.
use mathlib.Core.Path.{◌≡◌, refl, sym, ◌∙◌, ap, fun_ext}
use mathlib.Core.Bool.{Bool, true, false}
use mathlib.Core.List.{List}
use Prim.Native.Nat.{ℕ, ◌<◌}
use native.Mathlib.Omega.{arith}
use borrow.Author.Tests.{eqb-true, eqb-false}
use lib.Dec.{eqb}
use lib.ListN.{length, get_or, set, length-set, replicate}
use lib.Seq.{ext_get_or, get_or-set_same, get_or-set_other}
use Rattle.base.specs.Pick.{pick, pick-by}
use Rattle.base.specs.Walks.{table, length-table, table-slot}
use Rattle.rules.specs.Sizes.{strategy_slots, table_rows}
use Rattle.rules.specs.declared.Strategy.{Strategy}
use Rattle.rules.specs.declared.LegOrder.{LegOrder}
use Rattle.rules.specs.declared.LegNets.{LegNets}
use Rattle.rules.specs.Rows.{no_strategy, no_order, free_strategy, no_nets}
use Rattle.rules.specs.Nets.{net_of, nets_in, nets_at, nets_of}
use Rattle.rules.specs.Shrinks.{SameStrategy}

pub nets-length : (os : List LegOrder) (ss : List Strategy) → length (nets_of os ss) ≡ strategy_slots
unfolding nets_of
nets-length os ss = length-table (nets_at os ss) strategy_slots

pub nets-at : (os : List LegOrder) (ss : List Strategy) (k : ℕ) → k < strategy_slots → get_or (nets_of os ss) k no_nets ≡ nets_in os (get_or ss k no_strategy)
unfolding nets_of
nets-at os ss k h = table-slot (nets_at os ss) no_nets strategy_slots k h

-- of a strategy that kept its legs
nets-same : (os : List LegOrder) (s t : Strategy) → SameStrategy s t → nets_in os t ≡ nets_in os s
unfolding nets_in net_of
nets-same os s t e = rw (e.legs, e.count)

-- .. of all of them
pub nets-kept : (os : List LegOrder) (ss ts : List Strategy) → ((k : ℕ) → SameStrategy (get_or ss k no_strategy) (get_or ts k no_strategy)) → nets_of os ss ≡ nets_of os ts
unfolding nets_of
nets-kept os ss ts h = ap (λ (f : ℕ → LegNets). table f strategy_slots) (fun_ext (λ k. sym (nets-same os _ _ (h k))))

-- one row stored
pub nets-set : (os : List LegOrder) (ss : List Strategy) (d : ℕ) (t : Strategy) → d < strategy_slots → length ss ≡ strategy_slots → set (nets_of os ss) d (nets_in os t) ≡ nets_of os (set ss d t)
nets-set os ss d t h n =
    let m : length (set (nets_of os ss) d (nets_in os t)) ≡ strategy_slots = length-set (nets_of os ss) d (nets_in os t) ∙ nets-length os ss in
    ext_get_or no_nets (set (nets_of os ss) d (nets_in os t)) (nets_of os (set ss d t)) (m ∙ sym (nets-length os (set ss d t)))
    (λ k l. let q : k < strategy_slots = omega (arith, m) in
    pick-by (λ (r : Bool). get_or (set (nets_of os ss) d (nets_in os t)) k no_nets ≡ get_or (nets_of os (set ss d t)) k no_nets) (eqb k d) {a = true} {b = false}
    (λ z. rw (eqb-true k d z)
    (get_or-set_same (nets_of os ss) d (nets_in os t) no_nets (omega (arith, nets-length os ss)) ∙ ap (nets_in os) (sym (get_or-set_same ss d t no_strategy (omega (arith, n)))) ∙ sym (nets-at os (set ss d t) d h)))
    (λ z. get_or-set_other (nets_of os ss) d k (nets_in os t) no_nets (eqb-false k d z) ∙ nets-at os ss k q
    ∙ ap (nets_in os) (sym (get_or-set_other ss d k t no_strategy (eqb-false k d z))) ∙ sym (nets-at os (set ss d t) k q)))

-- those of a fresh book, of which no strategy has a leg
pub fresh-nets : replicate strategy_slots no_nets ≡ nets_of (replicate table_rows no_order) (replicate strategy_slots free_strategy)
unfolding nets_of table nets_in pick
fresh-nets = refl
