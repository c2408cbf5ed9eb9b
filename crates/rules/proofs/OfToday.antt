-- 2026-05, "answers and records are those of today": no rule reads the stored nets. From two states that differ in them alone every event has one
-- answer, one value and the same records, and leads to two states that differ in them alone.
use Rattle.std.specs.Prelude.{Result, Ok, Err}
use mathlib.Core.Path.{◌≡◌, refl, sym, ◌∙◌, ap}
use mathlib.Core.Bool.{Bool, true}
use mathlib.Core.List.{List, [], ◌∷◌, ◌++◌}
use Prim.Native.Nat.{ℕ, zero, suc, ◌+◌, ◌-◌, ◌^◌}
use Rattle.base.specs.Pick.{pick, pick-both}
use Rattle.events.specs.declared.Refusal.{Refusal}
use Rattle.events.specs.declared.Event.TheVariants as E
use Rattle.frames.specs.Frames.{read_of}
use Rattle.rules.specs.declared.Strategy.{Strategy}
use Rattle.rules.specs.declared.Entry.{Entry}
use Rattle.rules.specs.declared.LegOrder.{LegOrder}
use Rattle.rules.specs.declared.State.{State}
use Rattle.rules.specs.declared.Allocation.{Allocation}
use Rattle.rules.specs.declared.Allocation.TheVariants.{LegsOnly, Shared, ForStarter, Numbered}
use Rattle.rules.specs.declared.Turn.{Turn}
use Rattle.rules.specs.declared.Turn.TheVariants.{Stop, ByLegs, AtLimit}
use Rattle.rules.specs.State.{entry_at, with_entries, with_orders, with_strategies, with_nets, with_opened, with_clock, with_last, with_national, with_range, leg_net}
use Rattle.rules.specs.Moves.{Moved, still, and_then, each}
use Rattle.rules.specs.Quotas.{Division, in_turn, share}
use Rattle.rules.specs.Strategies.{number_of, added, define, shut_set}
use Rattle.rules.specs.National.{on_national, on_range}
use Rattle.rules.specs.Specialists.{on_specialist}
use Rattle.rules.specs.Fills.{cut, cut_leg, whole_fill, take_legs, leg_fill, leg_trade, cancel_entry, cancel_order}
use Rattle.rules.specs.Passes.{beside_specialist, give_at, give, give_group, give_shared, give_for_starter, meet_limit, ready, ready_net, opposite, turn_of, take_turn, turn, pass}
use Rattle.rules.specs.Auctions.{put_auction, begin, close, starter_slot, answer, cancel_lapsed, end_unfilled, starter_pass, later_pass, end_auction, due, end_due, end_holding, leg_pass, leg_passes_in, leg_passes, ahead, best_slot, crossed, match_once, match_all, match_in}
use Rattle.rules.specs.Events.{enter, enter_order, free_slot, free_order_slot, rest_or_cancel, starts, waits, trades, arrive, on_order, old_sweep, enter_sweep, on_sweep, ahead_order, best_order, trade_once, trade_all, if_rests, on_leg_order, cancel_entry_of, cancel_order_of, cancel_number, on_clock, shut, reopen, on_series, close_running, lowest_live, cancel_lowest, restart, on_day_end}
use Rattle.rules.specs.Given.{order_given, sweep_given, leg_order_given}
use Rattle.rules.specs.Refusals.{undefined, not_found, is_starter, unanswerable, removes_none, strategies_full, orders_full, sweeps_full, leg_orders_full, no_room, numbers_out, sweep_numbers_out, betters_nothing, causes, read_causes, table_of, refusal}
use Rattle.rules.specs.Step.{Outcome, value_of, accept, refused, perform, refuse_or_perform, step}
use Rattle.rules.specs.Totals.{Sent, Logged, outcome, after, log_of, run}
use Rattle.rules.specs.Lookups.{live_quantity, shut_legs, leg_nets, depth_of}
use Rattle.rules.specs.Sentences.{SameButNets, OfToday}
use Rattle.events.specs.declared.Event.{Event}

-- the state without its stored nets
abbrev without_nets : State → State
without_nets b = with_nets b []

-- a move, of which the stored nets are not looked at
abbrev seen : Moved → Moved
seen m = record { state = without_nets m.state; records = m.records }

-- two moves that differ in the stored nets alone
record Same (m n : Moved) : Type 0 where
  is : seen m ≡ seen n

-- a rule that does not read the stored nets
abbrev Blind : (State → Moved) → Type 0
Blind f = (b : State) → Same (f b) (f (without_nets b))

-- HOW RULES ARE JOINED
still-blind : Blind still
unfolding with_nets
still-blind b = record { is = refl }

-- a choice by one test
pick_same : (t : Bool) {m n x y : Moved} → Same m x → Same n y → Same (pick t m n) (pick t x y)
pick_same t p q = pick-both Same t p q

-- the second of two rules may begin from the state without its nets
then-seen : (m : Moved) (g : State → Moved) → Blind g → seen (and_then m g) ≡ seen (and_then (seen m) g)
unfolding and_then
then-seen m g h = ap (λ (r : Moved). record { state = r.state; records = m.records ++ r.records }) (h m.state).is

then_same : {m n : Moved} {g : State → Moved} → Same m n → Blind g → Same (and_then m g) (and_then n g)
then_same {m} {n} {g} e h = record { is = then-seen m g h ∙ ap (λ (r : Moved). seen (and_then r g)) e.is ∙ sym (then-seen n g h) }

each-blind : (f : ℕ → State → Moved) → ((i : ℕ) → Blind (f i)) → (k : ℕ) → Blind (each f k)
unfolding each
each-blind f h zero = still-blind
each-blind f h (suc k) = λ b. then_same (each-blind f h k b) (h k)

-- a rule from two states that differ in the stored nets alone
from : (b c : State) {g : State → Moved} → Same (still b) (still c) → Blind g → Same (g b) (g c)
unfolding and_then
from b c e h = then_same e h

-- FILLS AND CANCELS
whole-blind : (a h level q : ℕ) → Blind (λ (b : State). whole_fill b a h level q)
unfolding whole_fill cut with_entries with_nets
whole-blind a h level q b = pick_same _ (still-blind b) (record { is = refl })

leg_fill-blind : (a : ℕ) → Blind (leg_fill a)
unfolding leg_fill take_legs cut with_entries with_orders with_nets
leg_fill-blind a b = record { is = refl }

leg_trade-blind : (a h : ℕ) → Blind (λ (b : State). leg_trade b a h)
unfolding leg_trade cut_leg with_orders with_nets
leg_trade-blind a h b = record { is = refl }

cancel_entry-blind : (i : ℕ) → Blind (cancel_entry i)
unfolding cancel_entry cut with_entries with_nets
cancel_entry-blind i b = pick_same _ (still-blind b) (record { is = refl })

cancel_order-blind : (i : ℕ) → Blind (cancel_order i)
unfolding cancel_order cut_leg with_orders with_nets
cancel_order-blind i b = pick_same _ (still-blind b) (record { is = refl })

-- PASSES
give-blind : (a level : ℕ) (qs : List ℕ) → Blind (give a level qs)
unfolding give
give-blind a level qs = each-blind (give_at a level qs) (λ i. whole-blind a i level _) 32

group-blind : (divide : Division) (a level g : ℕ) → Blind (give_group divide a level g)
unfolding give_group with_nets
group-blind divide a level g b = give-blind a level _ b

shared-blind : (second : Division) (a level : ℕ) → Blind (give_shared second a level)
unfolding give_shared
shared-blind second a level b = then_same (group-blind in_turn a level 0 b) (λ c. then_same (group-blind second a level 1 c) (group-blind share a level 2))

meet_limit-blind : (way : Allocation) (a level : ℕ) → Blind (meet_limit way a level)
unfolding meet_limit give_for_starter beside_specialist with_nets
meet_limit-blind LegsOnly a level b = still-blind b
meet_limit-blind Shared a level b = shared-blind share a level b
meet_limit-blind ForStarter a level b = shared-blind (beside_specialist a level b) a level b
meet_limit-blind Numbered a level b = group-blind in_turn a level 3 b

take-blind : (way : Allocation) (a : ℕ) (t : Turn) → Blind (take_turn way a t)
unfolding take_turn
take-blind way a Stop b = still-blind b
take-blind way a ByLegs b = leg_fill-blind a b
take-blind way a (AtLimit level) b = meet_limit-blind way a level b

opposite-same : (way : Allocation) (a : ℕ) (b : State) → opposite way a b ≡ opposite way a (without_nets b)
unfolding opposite with_nets
opposite-same LegsOnly a b = refl
opposite-same Shared a b = refl
opposite-same ForStarter a b = refl
opposite-same Numbered a b = refl

turn-blind : (way : Allocation) (legs : Bool) (a i : ℕ) → Blind (turn way legs a i)
unfolding turn_of ready_net ready with_nets
turn-blind way legs a i b = rw (sym (opposite-same way a b)) (take-blind way a (turn_of way legs a b) b)

pass-blind : (way : Allocation) (legs : Bool) (a : ℕ) → Blind (pass way legs a)
unfolding pass with_nets
pass-blind way legs a b = each-blind (turn way legs a) (turn-blind way legs a) (entry_at b a).units b

leg_pass-blind : (k i : ℕ) → Blind (leg_pass k i)
unfolding leg_pass with_nets
leg_pass-blind k i b = pick_same _ (pass-blind LegsOnly true i b) (still-blind b)

leg_passes_in-blind : (s k : ℕ) → Blind (leg_passes_in s k)
unfolding leg_passes_in shut_set with_nets
leg_passes_in-blind s k b = pick_same _ (pick_same _ (pick_same _ (still-blind b) (each-blind (leg_pass k) (leg_pass-blind k) 32 b)) (still-blind b)) (still-blind b)

leg_passes-blind : (s : ℕ) → Blind (leg_passes s)
unfolding leg_passes
leg_passes-blind s = each-blind (leg_passes_in s) (leg_passes_in-blind s) 16

-- AUCTIONS
begin-blind : (i : ℕ) → Blind (begin i)
unfolding begin put_auction with_strategies with_nets
begin-blind i b = record { is = refl }

close-blind : (k : ℕ) → Blind (close k)
unfolding close put_auction with_strategies with_nets
close-blind k b = record { is = refl }

answer-blind : (k side : ℕ) → Blind (λ (b : State). still (answer k side b))
unfolding answer starter_slot put_auction with_strategies with_nets
answer-blind k side b = pick-both (λ (x y : State). Same (still x) (still y)) _ (record { is = refl }) (still-blind b)

cancel_lapsed-blind : (k i : ℕ) → Blind (cancel_lapsed k i)
unfolding cancel_lapsed with_nets
cancel_lapsed-blind k i b = pick_same _ (cancel_entry-blind i b) (still-blind b)

end_unfilled-blind : (k : ℕ) → Blind (end_unfilled k)
unfolding end_unfilled
end_unfilled-blind k b = then_same (each-blind (cancel_lapsed k) (cancel_lapsed-blind k) 32 b) (close-blind k)

later_pass-blind : (k n i : ℕ) → Blind (later_pass k n i)
unfolding later_pass with_nets
later_pass-blind k n i b = pick_same _ (pass-blind Numbered _ i b) (still-blind b)

end_auction-blind : (k : ℕ) → Blind (end_auction k)
unfolding end_auction starter_pass starter_slot with_nets
end_auction-blind k b = then_same (pass-blind ForStarter _ _ b) (λ c. then_same (each-blind (later_pass k _) (later_pass-blind k _) 32 c) (end_unfilled-blind k))

end_due-blind : (k : ℕ) → Blind (end_due k)
unfolding end_due due with_nets
end_due-blind k b = pick_same _ (end_auction-blind k b) (still-blind b)

end_holding-blind : (s k : ℕ) → Blind (end_holding s k)
unfolding end_holding with_nets
end_holding-blind s k b = pick_same _ (pick_same _ (end_unfilled-blind k b) (still-blind b)) (still-blind b)

match_once-blind : (k i : ℕ) → Blind (match_once k i)
unfolding match_once best_slot ahead crossed with_nets
match_once-blind k i b = pick_same _ (whole-blind _ _ _ _ b) (still-blind b)

match_in-blind : (s k : ℕ) → Blind (match_in s k)
unfolding match_in match_all shut_set with_nets
match_in-blind s k b = pick_same _ (pick_same _ (each-blind (match_once k) (match_once-blind k) 32 b) (still-blind b)) (still-blind b)

-- EVENTS
rest_or_cancel-blind : (i : ℕ) → Blind (rest_or_cancel i)
unfolding rest_or_cancel with_nets
rest_or_cancel-blind i b = pick_same _ (still-blind b) (cancel_entry-blind i b)

waits-blind : (i : ℕ) → Blind (waits i)
unfolding waits with_nets
waits-blind i b = pick_same _ (cancel_entry-blind i b) (answer-blind _ _ b)

trades-blind : (i : ℕ) → Blind (trades i)
unfolding trades
trades-blind i b = then_same (pass-blind Shared true i b) (rest_or_cancel-blind i)

arrive-blind : (i : ℕ) → Blind (arrive i)
unfolding arrive starts leg_net shut_set with_nets
arrive-blind i b = pick_same _ (pick_same _ (waits-blind i b) (pick_same _ (begin-blind i b) (trades-blind i b))) (rest_or_cancel-blind i b)

on_order-blind : (e : Entry) → Blind (on_order e)
unfolding on_order free_slot enter with_last with_entries with_nets
on_order-blind e b = from (enter e b) (enter e (without_nets b)) (record { is = refl }) (arrive-blind (free_slot b))

enter_sweep-blind : (e : Entry) → Blind (enter_sweep e)
unfolding enter_sweep enter with_last with_entries with_nets
enter_sweep-blind e b = pick_same _ (from (enter e b) (enter e (without_nets b)) (record { is = refl }) (answer-blind e.strategy e.side)) (still-blind b)

on_sweep-blind : (e : Entry) → Blind (on_sweep e)
unfolding on_sweep old_sweep with_nets
on_sweep-blind e b = then_same (cancel_entry-blind (old_sweep b e) b) (enter_sweep-blind e)

trade_once-blind : (a i : ℕ) → Blind (trade_once a i)
unfolding trade_once best_order ahead_order with_nets
trade_once-blind a i b = pick_same _ (still-blind b) (pick_same _ (leg_trade-blind a _ b) (still-blind b))

if_rests-blind : (s a : ℕ) → Blind (if_rests s a)
unfolding if_rests with_nets
if_rests-blind s a b = pick_same _ (still-blind b) (leg_passes-blind s b)

on_leg_order-blind : (o : LegOrder) → Blind (on_leg_order o)
unfolding on_leg_order trade_all free_order_slot enter_order with_last with_orders with_nets
on_leg_order-blind o b =
    let a : ℕ = free_order_slot b in
    then_same (from (enter_order o b) (enter_order o (without_nets b)) (record { is = refl }) (each-blind (trade_once a) (trade_once-blind a) 32)) (if_rests-blind o.series a)

cancel_entry_of-blind : (n i : ℕ) → Blind (cancel_entry_of n i)
unfolding cancel_entry_of with_nets
cancel_entry_of-blind n i b = pick_same _ (cancel_entry-blind i b) (still-blind b)

cancel_order_of-blind : (n i : ℕ) → Blind (cancel_order_of n i)
unfolding cancel_order_of with_nets
cancel_order_of-blind n i b = pick_same _ (cancel_order-blind i b) (still-blind b)

cancel_number-blind : (n : ℕ) → Blind (cancel_number n)
unfolding cancel_number
cancel_number-blind n b = then_same (each-blind (cancel_entry_of n) (cancel_entry_of-blind n) 32 b) (each-blind (cancel_order_of n) (cancel_order_of-blind n) 32)

on_clock-blind : (t : ℕ) → Blind (on_clock t)
unfolding on_clock with_clock with_nets
on_clock-blind t b = each-blind end_due end_due-blind 16 (with_clock b t)

on_series-blind : (s state : ℕ) → Blind (on_series s state)
unfolding on_series shut reopen with_opened with_nets
on_series-blind s state b =
    pick_same _
    (pick_same _ (each-blind (end_holding s) (end_holding-blind s) 16 (with_opened b (b.opened - 2 ^ s))) (still-blind b))
    (pick_same _ (still-blind b) (then_same (each-blind (match_in s) (match_in-blind s) 16 (with_opened b (b.opened + 2 ^ s))) (leg_passes-blind s)))

close_running-blind : (k : ℕ) → Blind (close_running k)
unfolding close_running with_nets
close_running-blind k b = pick_same _ (close-blind k b) (still-blind b)

cancel_lowest-blind : (i : ℕ) → Blind (cancel_lowest i)
unfolding cancel_lowest lowest_live with_nets
cancel_lowest-blind i b = cancel_number-blind _ b

on_day_end-blind : (timer : ℕ) → Blind (on_day_end timer)
unfolding on_day_end restart
on_day_end-blind timer b =
    then_same (each-blind close_running close_running-blind 16 b) (λ c. then_same (each-blind cancel_lowest cancel_lowest-blind 64 c) (λ d. record { is = refl }))

define-blind : (s : Strategy) → Blind (λ (b : State). still (define s b))
unfolding define number_of added with_strategies with_nets
define-blind s b = pick-both (λ (x y : State). Same (still x) (still y)) _ (still-blind b) (record { is = refl })

-- AN EVENT
-- an outcome, of which the stored nets are not looked at
abbrev seen_outcome : Outcome → Outcome
seen_outcome x = record { answer = x.answer; value = x.value; moved = seen x.moved }

-- one value, and two moves that differ in the stored nets alone
performed : {m n : Moved} (value : ℕ) → Same m n → seen_outcome (record { answer = 0; value = value; moved = m }) ≡ seen_outcome (record { answer = 0; value = value; moved = n })
performed value e = ap (λ (m : Moved). record { answer = 0; value = value; moved = m }) e.is

perform-seen : (b : State) (r : Result Event Refusal) → seen_outcome (perform b r) ≡ seen_outcome (perform (without_nets b) r)
unfolding perform refused value_of accept number_of order_given sweep_given leg_order_given on_national with_national on_range with_range on_specialist with_strategies with_nets
perform-seen b (Err r) = refl
perform-seen b (Ok (E.Strategy e)) = performed _ (define-blind _ b)
perform-seen b (Ok (E.Order e)) = performed _ (on_order-blind _ b)
perform-seen b (Ok (E.Sweep e)) = performed _ (on_sweep-blind _ b)
perform-seen b (Ok (E.LegOrder e)) = performed _ (on_leg_order-blind _ b)
perform-seen b (Ok (E.Cancel e)) = performed _ (cancel_number-blind _ b)
perform-seen b (Ok (E.Series e)) = performed _ (on_series-blind _ _ b)
perform-seen b (Ok (E.Clock e)) = performed _ (on_clock-blind _ b)
perform-seen b (Ok (E.DayEnd e)) = performed _ (on_day_end-blind _ b)
perform-seen b (Ok (E.National e)) = refl
perform-seen b (Ok (E.Range e)) = refl
perform-seen b (Ok (E.Specialist e)) = refl

refusal-same : (b : State) (r : Result Event Refusal) (space : ℕ) → refusal b r space ≡ refusal (without_nets b) r space
unfolding refusal table_of read_causes causes undefined not_found is_starter unanswerable removes_none strategies_full orders_full sweeps_full leg_orders_full no_room numbers_out sweep_numbers_out betters_nothing number_of old_sweep sweep_given leg_net with_nets
refusal-same b (Err r) space = refl
refusal-same b (Ok (E.Strategy e)) space = refl
refusal-same b (Ok (E.Order e)) space = refl
refusal-same b (Ok (E.Sweep e)) space = refl
refusal-same b (Ok (E.LegOrder e)) space = refl
refusal-same b (Ok (E.Cancel e)) space = refl
refusal-same b (Ok (E.Series e)) space = refl
refusal-same b (Ok (E.Clock e)) space = refl
refusal-same b (Ok (E.DayEnd e)) space = refl
refusal-same b (Ok (E.National e)) space = refl
refusal-same b (Ok (E.Range e)) space = refl
refusal-same b (Ok (E.Specialist e)) space = refl

step-seen : (b : State) (frame : List ℕ) (space : ℕ) → seen_outcome (step b frame space) ≡ seen_outcome (step (without_nets b) frame space)
unfolding step refuse_or_perform refused with_nets
step-seen b frame space =
    rw (sym (refusal-same b (read_of frame) space)) (pick-both (λ (x y : Outcome). seen_outcome x ≡ seen_outcome y) _ (perform-seen b (read_of frame)) refl)

-- of two states that differ in the stored nets alone
seen_same : (b c : State) → SameButNets b c → (frame : List ℕ) (space : ℕ) → seen_outcome (step b frame space) ≡ seen_outcome (step c frame space)
seen_same b c h frame space = step-seen b frame space ∙ ap (λ (d : State). seen_outcome (step d frame space)) h ∙ sym (step-seen c frame space)

pub of-today : (b c : State) → SameButNets b c → (frame : List ℕ) (space : ℕ) → OfToday (step b frame space) (step c frame space)
of-today b c h frame space =
    let e : seen_outcome (step b frame space) ≡ seen_outcome (step c frame space) = seen_same b c h frame space in
    record {
      answer = ap (λ (x : Outcome). x.answer) e;
      value = ap (λ (x : Outcome). x.value) e;
      records = ap (λ (x : Outcome). x.moved.records) e;
      state = ap (λ (x : Outcome). x.moved.state) e;
    }

-- A LIST
pub of-today-list : (b c : State) → SameButNets b c → (xs : List Sent) → (run b xs ≡ run c xs) × SameButNets (after b xs) (after c xs)
unfolding run after outcome
of-today-list b c h [] = (refl, h)
of-today-list b c h (x ∷ xs) =
    let e = seen_same b c h x.frame x.space in
    let r = of-today-list (outcome b x).moved.state (outcome c x).moved.state (ap (λ (o : Outcome). o.moved.state) e) xs in
    (ap (λ (o : Outcome). log_of x o ∷ run (outcome b x).moved.state xs) e ∙ ap (λ (l : List Logged). log_of x (outcome c x) ∷ l) r.0, r.1)

-- LOOKUPS
pub of-today-lookups : (b c : State) → SameButNets b c
    → ((n : ℕ) → live_quantity b n ≡ live_quantity c n)
    × ((k : ℕ) → shut_legs b k ≡ shut_legs c k)
    × ((k : ℕ) → leg_nets b k ≡ leg_nets c k)
    × ((s side : ℕ) → depth_of b.orders s side ≡ depth_of c.orders s side)
unfolding live_quantity shut_legs shut_set leg_nets leg_net undefined with_nets
of-today-lookups b c h =
    (λ n. ap (λ (d : State). live_quantity d n) h, λ k. ap (λ (d : State). shut_legs d k) h, λ k. ap (λ (d : State). leg_nets d k) h, λ s side. ap (λ (d : State). depth_of d.orders s side) h)
