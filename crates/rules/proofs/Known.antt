-- What the book knows of national prices and of the execution range is what the list of events said (2026-01): for every list, any number of days.
use Rattle.std.specs.Prelude.{Result, Ok}
use mathlib.Core.Path.{◌≡◌, refl, sym, ◌∙◌, ap}
use mathlib.Core.Bool.{true, false}
use mathlib.Core.List.{List, [], ◌∷◌}
use Prim.Native.Nat.{ℕ, ◌<◌}
use native.Mathlib.Omega.{arith}
use borrow.Author.Tests.{eqb-true, eqb-false, ne_eqb}
use lib.Dec.{eqb}
use lib.ListN.{length, get_or, set}
use lib.Seq.{get_or-set_same, get_or-set_other}
use Rattle.base.specs.Pick.{pick, pick_all, pick-by, pick_true, pick-false}
use Rattle.base.specs.All.{all-at, all_replicate}
use Rattle.base.specs.Walks.{table, table-slot}
use Rattle.events.specs.declared.Refusal.{Refusal}
use Rattle.events.specs.declared.Event.{Event}
use Rattle.events.specs.declared.Event.TheVariants as E
use Rattle.events.specs.declared.Strategy.{Strategy as GivenStrategy}
use Rattle.frames.specs.Frames.{read_of}
use Rattle.rules.specs.declared.Strategy.{Strategy}
use Rattle.rules.specs.declared.Entry.{Entry}
use Rattle.rules.specs.declared.LegOrder.{LegOrder}
use Rattle.rules.specs.declared.Quote.{Quote}
use Rattle.rules.specs.declared.State.{State}
use Rattle.rules.specs.Sizes.{series_count}
use Rattle.rules.specs.State.{no_leg, no_order, no_quote, no_strategy, strategy_at, leg_at, fresh, with_entries, with_orders, with_strategies, with_opened, with_clock, with_last, with_national, with_range, with_nets}
use Rattle.rules.specs.Moves.{Moved, and_then}
use Rattle.rules.specs.Strategies.{held, added, define}
use Rattle.rules.specs.National.{national_price, national_prices, national_net, bounds_of, bounds_at, on_national, on_range}
use Rattle.rules.specs.Fills.{cancel_entry}
use Rattle.rules.specs.Auctions.{answer}
use Rattle.rules.specs.Events.{live, live_order, enter, enter_order, on_order, old_sweep, enter_sweep, on_sweep, on_leg_order, cancel_number, on_clock, on_series, restart, on_day_end}
use Rattle.rules.specs.Given.{legs_given, strategy_given, order_given, sweep_given, leg_order_given, specialist_given, quote_given}
use Rattle.rules.specs.Step.{Outcome, accept, refused}
use Rattle.rules.specs.Valid.{FitStrategy, FitQuote, Valid}
use Rattle.rules.specs.Totals.{Sent, Logged, outcome, after, run, quote_after, range_after, quoted, range_said}
use Rattle.rules.proofs.Tables.{behind-length}
use Rattle.rules.proofs.Shrinks.{Shrinks, specialist-shrinks, cancel-shrinks, answer-shrinks}
use Rattle.rules.proofs.Control.{shrinks-kept, on_order-kept, on_leg_order-kept, cancel_number-kept, on_clock-kept, shut-kept, reopen-kept}
use Rattle.rules.proofs.Ratios.{Padded, given-padded}
use Rattle.rules.proofs.Nets.{same-net}
use Rattle.rules.proofs.Strategies.{defined-fit}
use Rattle.rules.proofs.Entering.{fit-no-leg, fit-past}
use Rattle.rules.proofs.Origins.{HasLegs}
use Rattle.rules.proofs.Lists.{Went, refused_as, accepted_as, went, event-fits, next, next-valid, after-valid}

-- neither the prices nor the range have changed
record Same (b c : State) : Type 0 where
  national : c.national ≡ b.national
  range : c.range ≡ b.range

same-shrinks : {a b c : State} → Same b a → Shrinks a c → Same b c
same-shrinks s h = record { national = h.national ∙ s.national; range = h.range ∙ s.range }

same-still : (b : State) → Same b b
same-still b = record { national = refl; range = refl }

-- THE EVENTS that change neither
module _ (b : State) (n : length b.orders ≡ 32) where
  same-define : (t : Strategy) → Same b (define t b)
  unfolding define added with_strategies with_nets
  same-define t = pick_all (Same b) (held b t) (same-still b) (record { national = refl; range = refl })

  same-order : (e : Entry) → Same b (on_order e b).state
  unfolding enter with_last with_entries
  same-order e = same-shrinks (record { national = refl; range = refl }) (on_order-kept shrinks-kept e b n)

  same-entered : (a : State) (e : Entry) → Same b a → Same b (answer e.strategy e.side (enter e a))
  unfolding enter with_last with_entries
  same-entered a e s = same-shrinks (record { national = s.national; range = s.range }) (answer-shrinks (enter e a) e.strategy e.side)

  same-sweep : (e : Entry) → Same b (on_sweep e b).state
  unfolding on_sweep enter_sweep and_then
  same-sweep e =
      let c : State = (cancel_entry (old_sweep b e) b).state in
      let s : Same b c = same-shrinks (same-still b) (cancel-shrinks b (old_sweep b e)) in
      pick_all (λ (m : Moved). Same b m.state) (live e) (same-entered c e s) s

  same-leg-order : (o : LegOrder) → Same b (on_leg_order o b).state
  unfolding enter_order with_last with_orders
  same-leg-order o = same-shrinks (record { national = refl; range = refl }) (on_leg_order-kept shrinks-kept o b (behind-length live_order no_order o b.orders))

  same-cancel : (x : ℕ) → Same b (cancel_number x b).state
  same-cancel x = same-shrinks (same-still b) (cancel_number-kept shrinks-kept x b n)

  same-clock : (t : ℕ) → Same b (on_clock t b).state
  unfolding with_clock
  same-clock t = same-shrinks (record { national = refl; range = refl }) (on_clock-kept shrinks-kept t b n)

  same-series : (s state : ℕ) → Same b (on_series s state b).state
  unfolding on_series with_opened
  same-series s state =
      let P : Moved → Type 0 = λ (m : Moved). Same b m.state in
      pick_all P _
      (pick_all P _ (same-shrinks (record { national = refl; range = refl }) (shut-kept shrinks-kept s b n)) (same-still b))
      (pick_all P _ (same-still b) (same-shrinks (record { national = refl; range = refl }) (reopen-kept shrinks-kept s b n)))

-- ONE ACCEPTED EVENT
-- the book knows of series s what the event leaves, and the range
record Learns (b : State) (x : Result Event Refusal) (c : State) : Type 0 where
  quote : (s : ℕ) → s < 32 → get_or c.national s no_quote ≡ quote_after x s (get_or b.national s no_quote)
  range : c.range ≡ range_after x b.range

learns_nothing : {b c : State} (x : Result Event Refusal) → ((s : ℕ) (q : Quote) → quote_after x s q ≡ q) → ((r : ℕ) → range_after x r ≡ r) → Same b c → Learns b x c
learns_nothing x p q h = record { quote = λ s l. rw h.national (sym (p s _)); range = h.range ∙ sym (q _) }

learns-prices : (b : State) (s : ℕ) (q : Quote) → s < length b.national → (t : ℕ) → get_or (set b.national s q) t no_quote ≡ pick (eqb s t) q (get_or b.national t no_quote)
learns-prices b s q l t =
    pick-by (λ (x : Quote). get_or (set b.national s q) t no_quote ≡ x) (eqb s t)
    (λ e. rw (← (eqb-true s t e)) (get_or-set_same b.national s q no_quote l))
    (λ e. get_or-set_other b.national s t q no_quote (λ z. eqb-false s t e (sym z)))

learns : (b : State) (e : Event) → Valid b → (x : Sent) → read_of x.frame ≡ Ok e → Learns b (Ok e) (accept b e).state
unfolding accept quote_after range_after on_national with_national on_range with_range quote_given on_day_end restart and_then fresh
learns b (E.Strategy e) v x p = learns_nothing (Ok (E.Strategy e)) (λ s q. refl) (λ r. refl) (same-define b v.sound.order_rows (strategy_given e))
learns b (E.Order e) v x p = learns_nothing (Ok (E.Order e)) (λ s q. refl) (λ r. refl) (same-order b v.sound.order_rows (order_given b e))
learns b (E.Sweep e) v x p = learns_nothing (Ok (E.Sweep e)) (λ s q. refl) (λ r. refl) (same-sweep b v.sound.order_rows (sweep_given b e))
learns b (E.LegOrder e) v x p = learns_nothing (Ok (E.LegOrder e)) (λ s q. refl) (λ r. refl) (same-leg-order b v.sound.order_rows (leg_order_given b e))
learns b (E.Cancel e) v x p = learns_nothing (Ok (E.Cancel e)) (λ s q. refl) (λ r. refl) (same-cancel b v.sound.order_rows e.number)
learns b (E.Series e) v x p = learns_nothing (Ok (E.Series e)) (λ s q. refl) (λ r. refl) (same-series b v.sound.order_rows e.series e.state)
learns b (E.Clock e) v x p = learns_nothing (Ok (E.Clock e)) (λ s q. refl) (λ r. refl) (same-clock b v.sound.order_rows e.time)
learns b (E.DayEnd e) v x p = record { quote = λ s l. all-at {P = λ (q : Quote). q ≡ no_quote} no_quote refl (all_replicate no_quote refl series_count) s; range = refl }
learns b (E.National e) v x p = record {
  quote = λ s l. learns-prices b e.series (quote_given e) (omega (arith, (event-fits x (E.National e) p).0, v.sound.quote_rows)) s;
  range = refl;
}
learns b (E.Range e) v x p = record { quote = λ s l. refl; range = refl }
learns b (E.Specialist e) v x p = learns_nothing (Ok (E.Specialist e)) (λ s q. refl) (λ r. refl) (same-shrinks (same-still b) (specialist-shrinks e.strategy (specialist_given e) b))

-- ONE EVENT of any bytes: what it said if it was accepted, else nothing
record Heard (b : State) (x : Sent) : Type 0 where
  quote : (s : ℕ) → s < 32 → get_or (next b x).national s no_quote ≡ pick (eqb (outcome b x).answer 0) (quote_after (read_of x.frame) s (get_or b.national s no_quote)) (get_or b.national s no_quote)
  range : (next b x).range ≡ pick (eqb (outcome b x).answer 0) (range_after (read_of x.frame) b.range) b.range

heard : (b : State) (x : Sent) → Valid b → Heard b x
unfolding refused
heard b x v = go (went b x)
  where
    go : Went b x → Heard b x
    go (refused_as n h e) =
        let f : eqb (outcome b x).answer 0 ≡ false = ap (λ (o : Outcome). eqb o.answer 0) e ∙ ne_eqb n 0 h in
        let c : next b x ≡ b = ap (λ (o : Outcome). o.moved.state) e in
        record {
          quote = λ s l. ap (λ (d : State). get_or d.national s no_quote) c ∙ sym (pick-false _ _ _ f);
          range = ap (λ (d : State). d.range) c ∙ sym (pick-false _ _ _ f);
        }
    go (accepted_as e p c q) =
        let t : eqb (outcome b x).answer 0 ≡ true = ap (λ (o : Outcome). eqb o.answer 0) q in
        let d : next b x ≡ (accept b e).state = ap (λ (o : Outcome). o.moved.state) q in
        let l : Learns b (Ok e) (accept b e).state = learns b e v x p in
        record {
          quote = λ s h. ap (λ (y : State). get_or y.national s no_quote) d ∙ l.quote s h ∙ ap (λ (r : Result Event Refusal). quote_after r s (get_or b.national s no_quote)) (sym p) ∙ sym (pick_true _ _ _ t);
          range = ap (λ (y : State). y.range) d ∙ l.range ∙ ap (λ (r : Result Event Refusal). range_after r b.range) (sym p) ∙ sym (pick_true _ _ _ t);
        }

-- A LIST
pub known-quote : (b : State) (xs : List Sent) → Valid b → (s : ℕ) → s < 32 → get_or (after b xs).national s no_quote ≡ quoted (get_or b.national s no_quote) (run b xs) s
unfolding after run quoted
known-quote b [] v s l = refl
known-quote b (x ∷ xs) v s l =
    known-quote (next b x) xs (next-valid b x v) s l ∙ ap (λ (q : Quote). quoted q (run (next b x) xs) s) ((heard b x v).quote s l)

pub known-range : (b : State) (xs : List Sent) → Valid b → (after b xs).range ≡ range_said b.range (run b xs)
unfolding after run range_said
known-range b [] v = refl
known-range b (x ∷ xs) v = known-range (next b x) xs (next-valid b x v) ∙ ap (λ (r : ℕ). range_said r (run (next b x) xs)) (heard b x v).range

fresh-none : (timer s : ℕ) → get_or (fresh timer).national s no_quote ≡ no_quote
unfolding fresh
fresh-none timer s = all-at {P = λ (q : Quote). q ≡ no_quote} no_quote refl (all_replicate no_quote refl series_count) s

-- FROM A FRESH BOOK ON: what the book knows is what the list said
pub quote-known : (timer : ℕ) (xs : List Sent) → Valid (fresh timer) → (s : ℕ) → s < series_count → get_or (after (fresh timer) xs).national s no_quote ≡ get_or (table (quoted no_quote (run (fresh timer) xs)) series_count) s no_quote
quote-known timer xs v s l =
    known-quote (fresh timer) xs v s l ∙ ap (λ (q : Quote). quoted q (run (fresh timer) xs) s) (fresh-none timer s) ∙ sym (table-slot (quoted no_quote (run (fresh timer) xs)) no_quote series_count s l)

pub range-known : (timer : ℕ) (xs : List Sent) → Valid (fresh timer) → (after (fresh timer) xs).range ≡ range_said 9999 (run (fresh timer) xs)
unfolding fresh
range-known timer xs v = known-range (fresh timer) xs v

-- what bounds a strategy by what the book knows is what bounds the definition that answered it by what the list said
abbrev pub quotes_said : List Logged → List Quote
quotes_said log = table (quoted no_quote log) series_count

pub bounds-known : (timer : ℕ) (ys : List Sent) → Valid (fresh timer) → (k : ℕ) (e : GivenStrategy) → HasLegs (strategy_at (after (fresh timer) ys) k) e → Padded (strategy_at (after (fresh timer) ys) k) →
    bounds_at (after (fresh timer) ys) k ≡ bounds_of (quotes_said (run (fresh timer) ys)) (range_said 9999 (run (fresh timer) ys)) (strategy_given e)
unfolding bounds_of strategy_given national_net national_prices national_price
bounds-known timer ys v k e h padded =
    let b : State = after (fresh timer) ys in
    let s : Strategy = strategy_at b k in
    let fit : FitStrategy s = all-at no_strategy fit-past (after-valid (fresh timer) ys v).sound.strategies k in
    let given : FitStrategy (strategy_given e) = defined-fit (legs_given e) e.count h.definition in
    let low : (i : ℕ) → (leg_at s i).series < 32 = λ i. (all-at no_leg fit-no-leg fit.legs i).series in
    let net : (side : ℕ) → national_net b.national side s ≡ national_net (quotes_said (run (fresh timer) ys)) side (strategy_given e) = λ side.
    same-net s (strategy_given e) (record { padded = padded; used = fit.used }) (record { padded = given-padded e h.definition; used = given.used }) h.same
    (national_price b.national side) (national_price (quotes_said (run (fresh timer) ys)) side) (λ i l. rw (quote-known timer ys v (leg_at s i).series (low i)) refl) in
    ap (λ (x : ℕ). record { offer = x; bid = national_net b.national 1 s; range = b.range }) (net 0)
    ∙ ap (λ (x : ℕ). record { offer = national_net (quotes_said (run (fresh timer) ys)) 0 (strategy_given e); bid = x; range = b.range }) (net 1)
    ∙ ap (λ (x : ℕ). record { offer = national_net (quotes_said (run (fresh timer) ys)) 0 (strategy_given e); bid = national_net (quotes_said (run (fresh timer) ys)) 1 (strategy_given e); range = x }) (range-known timer ys v)

-- prices that the list said are in range
pub quotes-most : (timer : ℕ) (ys : List Sent) → Valid (fresh timer) → (x : ℕ) → x < series_count → FitQuote (quoted no_quote (run (fresh timer) ys) x)
quotes-most timer ys v x l =
    let q = quote-known timer ys v x l ∙ table-slot (quoted no_quote (run (fresh timer) ys)) no_quote series_count x l in
    rw q at (all-at no_quote (record { bid = omega arith; offer = omega arith }) (after-valid (fresh timer) ys v).sound.national x)
