-- THE TOTALS AFTER A LIST, for every list of events of one day on a fresh book.
use mathlib.Core.Path.{◌≡◌, refl, sym, ◌∙◌, ap, subst}
use mathlib.Core.Bool.{Bool, true, false, not}
use mathlib.Core.Logic.{⊎_elim}
use mathlib.Core.List.{List, [], ◌∷◌, ◌++◌, map, Memᴰ}
use Prim.Native.Nat.{ℕ, ◌+◌, ◌*◌, ◌≤◌, ◌<◌}
use native.Mathlib.Omega.{arith}
use borrow.Author.Tests.{eqb-true, eq-eqb, ne_eqb, leb-true}
use lib.Dec.{eqb}
use lib.Signed.{◌≤ℤ◌}
use Rattle.base.specs.Pick.{pick, both, pick_yes, pick_true, pick-false}
use Rattle.events.specs.declared.Strategy.{Strategy as GivenStrategy}
use Rattle.events.specs.declared.Sweep.{Sweep as GivenSweep}
use Rattle.rules.specs.declared.Bounds.{Bounds}
use Rattle.rules.specs.declared.State.{State}
use Rattle.rules.specs.declared.Record.{Record}
use Rattle.rules.specs.declared.Kind.{Kind}
use Rattle.rules.specs.declared.Kind.TheVariants.{WholeFill, LegFill, LegOrderFill, Cancelled, LegOrderCancelled, AuctionBegun, AuctionEnded}
use Rattle.rules.specs.State.{no_quote, fresh, strategy_at}
use Rattle.rules.specs.Sizes.{series_count}
use Rattle.rules.specs.Sides.{meets}
use Rattle.rules.specs.Given.{legs_given, strategy_given}
use Rattle.rules.specs.National.{national_net, bounds_of, bounds_at, may_take}
use Rattle.rules.specs.Sentences.{InRange}
use Rattle.rules.specs.Records.{kind_number, cents, Line, line_of}
use Rattle.rules.specs.Lookups.{live_quantity}
use Rattle.rules.specs.Valid.{FitQuote, Valid}
use Rattle.rules.specs.Totals.{Sent, Logged, outcome, after, run, lines_of, total, if_same, whole_filled, leg_filled, cancelled, contracts_on, bought, sold, Terms, complex, leg, Came, Unknown, mentions, ratio_in, Answered, Defined, NotWorse, is_leg_number, is_fill, cash, OneDay, Totals, quoted, range_said, WithinRange, Bettered, SweepIn}
use Rattle.rules.proofs.Validity.{valid-fresh}
use Rattle.rules.proofs.Tables.{tally}
use Rattle.rules.proofs.Laws.{Law, no_entries, no_orders, of_series, of_cash, of_ratio, of_limit, of_party, of_price, size, come, gone, ratio_for, on_complex, on_leg_order, on_whole, on_traded, when-yes}
use Rattle.rules.proofs.Steps.{Row, entry_row, leg_row, no_row, added, FitsRow}
use Rattle.rules.proofs.Lists.{row_in, next, records_of, entered_of, lines-records, records-of, Divided, run-divided, after-valid}
use Rattle.rules.proofs.Numbers.{About, a-units, a-contracts, a-no_entries, a-no_orders, a-ratio, a-limit, a-party, a-price, Open, one-day-split, open-day, Quiet, quiet, apart-unknown, law-quiet, Entered, CameEntry, CameOrder, came-entry, came-order}
use Rattle.rules.proofs.Levels.{cents-le, cents-price, cents-plus, cents-less}
use Rattle.rules.proofs.Paper.{tally-none, tally-mem, Written, written, met, units-lines, mentions-lines, legs-lines, ratio-lines, bought-lines, sold-lines, fill_kind, paid-lines}
use Rattle.rules.proofs.Origins.{lean-after, lean-fresh, HasLegs, settled-legs, settled-ratio, strategy-given}
use Rattle.rules.proofs.InRange.{all-mem, event-in-range}
use Rattle.rules.proofs.Known.{quotes_said, bounds-known, quotes-most}
use Rattle.rules.proofs.NetsSaid.{net-said}
use Rattle.rules.proofs.Nationals.{bound-sentence}
use Rattle.rules.proofs.Strategies.{Definition}
use Rattle.rules.proofs.LegBooks as LegBooks
use Rattle.rules.proofs.LegBooks.{LegCame, leg-came, quiet-legs}
use Rattle.rules.proofs.SweepsSaid.{Arrived, arrived, bettered-said}

-- laws that no entry has to do with
quiet-plain : (l : Law) → ((b : State) (r : Row) → (added l r ≡ 0) × FitsRow l b r) → (b : State) (xs : List Sent) → Quiet l b xs
unfolding entered_of
quiet-plain l h b [] = record { none = refl; fitting = tt }
quiet-plain l h b (x ∷ xs) =
    let r = h b (row_in b x) in
    let q : Quiet l (next b x) xs = quiet-plain l h (next b x) xs in
    record { none = omega (arith, r.0, q.none); fitting = (r.1, q.fitting) }

plain-series : (s : ℕ) (b : State) (r : Row) → (added (of_series s) r ≡ 0) × FitsRow (of_series s) b r
plain-series s b (entry_row e) = (refl, tt)
plain-series s b (leg_row o) = (refl, tt)
plain-series s b no_row = (refl, tt)

plain-cash : (b : State) (r : Row) → (added of_cash r ≡ 0) × FitsRow of_cash b r
plain-cash b (entry_row e) = (refl, tt)
plain-cash b (leg_row o) = (refl, tt)
plain-cash b no_row = (refl, tt)

-- what kind of a record a line is
whole-line : (k : Kind) → kind_number k ≡ 1 → k ≡ WholeFill
unfolding kind_number
whole-line WholeFill h = refl
whole-line LegFill h = absurd (omega arith)
whole-line LegOrderFill h = absurd (omega arith)
whole-line Cancelled h = absurd (omega arith)
whole-line LegOrderCancelled h = absurd (omega arith)
whole-line AuctionBegun h = absurd (omega arith)
whole-line AuctionEnded h = absurd (omega arith)

-- a record 2 of a number with no record of a complex order or sweep
traded-line : (k : Kind) (m : ℕ) → kind_number k ≡ 2 → on_complex k (if_same m m 1) ≡ 0 → k ≡ LegOrderFill
unfolding kind_number
traded-line WholeFill m h z = absurd (omega arith)
traded-line LegFill m h z = absurd (omega (arith, when-yes m m 1 refl))
traded-line LegOrderFill m h z = refl
traded-line Cancelled m h z = absurd (omega arith)
traded-line LegOrderCancelled m h z = absurd (omega arith)
traded-line AuctionBegun m h z = absurd (omega arith)
traded-line AuctionEnded m h z = absurd (omega arith)

-- a price within a limit
within-buy : (side limit level : ℕ) → side ≡ 0 → meets side limit level ≡ true → cents level ≤ℤ cents limit
unfolding meets
within-buy side limit level e h = cents-le level limit (leb-true level limit (sym (pick_true _ _ _ (eq-eqb side 0 e)) ∙ h))

within-sell : (side limit level : ℕ) → side ≡ 1 → meets side limit level ≡ true → cents limit ≤ℤ cents level
unfolding meets
within-sell side limit level e h = cents-le limit level (leb-true limit level (sym (pick-false _ _ _ (ne_eqb side 0 (λ z. omega arith))) ∙ h))

-- the line of a record at a level within the limit
line-within : (w : Terms) (l : Line) (r : Record) → l ≡ line_of r → (side limit : ℕ) → side ≡ w.side → cents limit ≡ w.limit → meets side limit r.level ≡ true → NotWorse w l
unfolding line_of
line-within w l r is side limit s p ok = record {
  buy = λ t. rw (ap (λ (y : Line). y.price) is, ← p) (within-buy side limit r.level (s ∙ t) ok);
  sell = λ t. rw (ap (λ (y : Line). y.price) is, ← p) (within-sell side limit r.level (s ∙ t) ok);
}

-- the line of a record within the range
within-range : (v : Bounds) (side level : ℕ) → may_take v side level ≡ true → (side ≡ 0 → 0 < v.offer → level ≤ v.offer + v.range) × (side ≡ 1 → 0 < v.bid → v.bid ≤ level + v.range)
within-range v side level ok =
    let b = bound-sentence v (eqb side 0) (not (eqb side 0)) level in
    let p = b.both ok in (
      λ s some. ⊎_elim (λ z. absurd (omega arith)) (λ l. l) (b.not_above (p.0 (eq-eqb side 0 s))),
      λ s some. ⊎_elim (λ z. absurd (omega arith)) (λ l. l) (b.not_below (p.1 (ap not (ne_eqb side 0 (λ z. omega arith))))),
    )

line-in-range : (log : List Logged) (e : GivenStrategy) → Definition (legs_given e) e.count → ((x : ℕ) → x < series_count → FitQuote (quoted no_quote log x)) →
    (w : Terms) (r : Record) → may_take (bounds_of (quotes_said log) (range_said 9999 log) (strategy_given e)) w.side r.level ≡ true → WithinRange log e w (line_of r)
unfolding line_of bounds_of
line-in-range log e def most w r ok =
    let range : ℕ = range_said 9999 log in
    let b = within-range _ w.side r.level ok in
    record {
      buy = λ s said.
          let n = net-said log e def 0 (omega arith) most said in
          rw (← n.net, cents-plus (national_net (quotes_said log) 0 (strategy_given e)) range) (cents-le r.level (national_net (quotes_said log) 0 (strategy_given e) + range) (b.0 s n.known));
      sell = λ s said.
          let n = net-said log e def 1 (omega arith) most said in
          rw (← n.net) (cents-less (national_net (quotes_said log) 1 (strategy_given e)) range r.level (b.1 s n.known));
    }

module _ (timer : ℕ) (low : 1 ≤ timer) (high : timer ≤ 5000) (xs : List Sent) (day : OneDay (run (fresh timer) xs)) where
  abbrev log : List Logged
  log = run (fresh timer) xs

  abbrev end : State
  end = after (fresh timer) xs

  abbrev rs : List Record
  rs = records_of (fresh timer) xs

  v : Valid (fresh timer)
  v = valid-fresh timer low high

  lines : lines_of log ≡ map line_of rs
  lines = lines-records (fresh timer) xs

  -- the laws of a complex order or sweep that came
  module _ (w : Terms) (k : ℕ) (m : Came (complex w k) log) where
    c : CameEntry timer xs w k
    c = came-entry timer xs v day w k m

    entry-law : {l : Law} → About w.number l → FitsRow l c.entered.before (entry_row c.entry) →
        added l (entry_row c.entry) + tally (come l) rs ≡ tally (gone l) rs + size l end
    entry-law a f = c.entered.law a c.number (omega (arith, c.number, c.entered.numbered.0)) f

    no-orders : tally (come (no_orders w.number)) rs ≡ 0
    no-orders = omega (arith, entry-law (a-no_orders) tt, tally-none rs)

    units_of_lem : w.quantity ≡ whole_filled w.number (lines_of log) + cancelled w.number (lines_of log) + live_quantity end w.number
    unfolding live_quantity
    units_of_lem =
        rw lines
        (omega (arith, entry-law a-units tt, when-yes c.entry.number w.number c.entry.units c.number, c.units, entry-law a-contracts tt, tally-none rs, units-lines w.number rs no-orders))

    strategy-of : Defined k log
    strategy-of =
        let i : Entered timer xs (entry_row c.entry) = c.entered in
        subst (λ (ys : List Sent). Defined k (run (fresh timer) ys)) (sym i.is)
        (strategy-given timer i.prefix i.suffix k v i.day.0
        (let d : i.before.defined ≡ (after (fresh timer) i.prefix).defined = ap (λ (b : State). b.defined) i.at in omega (arith, c.strategy, i.numbered.1)))

    settled : (e : GivenStrategy) → Answered e k log → (s : ℕ) → ratio_for (strategy_at c.entered.before c.entry.strategy) s ≡ ratio_in e s
    settled e a s =
        let i : Entered timer xs (entry_row c.entry) = c.entered in
        ap (λ (j : ℕ). ratio_for (strategy_at i.before j) s) c.strategy
        ∙ ap (λ (b : State). ratio_for (strategy_at b k) s) i.at
        ∙ settled-ratio (fresh timer) i.prefix i.suffix e k s v (lean-fresh timer) i.day.0 i.day.1
        (subst (λ (ys : List Sent). Answered e k (run (fresh timer) ys)) i.is a)
        (let d : i.before.defined ≡ (after (fresh timer) i.prefix).defined = ap (λ (b : State). b.defined) i.at in omega (arith, c.strategy, i.numbered.1))

    ratio-of : (e : GivenStrategy) → Answered e k log → (s : ℕ) → contracts_on w.number s (lines_of log) ≡ ratio_in e s * whole_filled w.number (lines_of log)
    ratio-of e a s =
        rw lines
        (legs-lines w.number s (ratio_in e s) rs no-orders
        ∙ (let q : tally (come (of_ratio w.number s (ratio_in e s))) rs ≡ tally (gone (of_ratio w.number s (ratio_in e s))) rs =
        omega (arith, entry-law (a-ratio s (ratio_in e s)) (λ z. settled e a s)) in q)
        ∙ ratio-lines w.number s (ratio_in e s) rs)

    limits : tally (come (of_limit w.number c.entry.side c.entry.level)) rs ≡ 0
    limits = omega (arith, entry-law (a-limit c.entry.side c.entry.level) (λ z. (refl, refl)), tally-none rs)

    whole-met : (r : Record) → Memᴰ r rs → kind_number r.kind ≡ 1 → r.number ≡ w.number → meets c.entry.side c.entry.level r.level ≡ true
    whole-met r there kind number =
        let z : on_whole r.kind (if_same r.number w.number (pick (meets c.entry.side c.entry.level r.level) 0 1)) ≡ 0 =
        tally-mem (come (of_limit w.number c.entry.side c.entry.level)) r rs there limits in
        let y : if_same r.number w.number (pick (meets c.entry.side c.entry.level r.level) 0 1) ≡ 0 = rw (whole-line r.kind kind) at z in
        met _ (sym (when-yes r.number w.number _ number) ∙ y)

    limit-of : (l : Line) → Memᴰ l (lines_of log) → l.kind ≡ 1 → l.number ≡ w.number → NotWorse w l
    unfolding line_of
    limit-of l there kind number =
        let x : Written l rs = written l rs (rw lines at there) in
        line-within w l x.of x.is c.entry.side c.entry.level c.side c.limit
        (whole-met x.of x.there (sym (ap (λ (y : Line). y.kind) x.is) ∙ kind) (sym (ap (λ (y : Line). y.number) x.is) ∙ number))

    -- its records 1 show its strategy and side
    parties : tally (come (of_party w.number c.entry.strategy c.entry.side)) rs ≡ 0
    parties = omega (arith, entry-law (a-party c.entry.strategy c.entry.side) (λ z. (refl, refl)), tally-none rs)

    party-of : (r : Record) → Memᴰ r rs → kind_number r.kind ≡ 1 → r.number ≡ w.number → (r.place ≡ k) × (r.side ≡ w.side)
    party-of r there kind number =
        let z : on_whole r.kind (if_same r.number w.number (pick (both (eqb r.place c.entry.strategy) (eqb r.side c.entry.side)) 0 1)) ≡ 0 =
        tally-mem (come (of_party w.number c.entry.strategy c.entry.side)) r rs there parties in
        let y : if_same r.number w.number (pick (both (eqb r.place c.entry.strategy) (eqb r.side c.entry.side)) 0 1) ≡ 0 = rw (whole-line r.kind kind) at z in
        let p = pick_yes (eqb r.place c.entry.strategy) (met _ (sym (when-yes r.number w.number _ number) ∙ y)) in
        (eqb-true _ _ p.0 ∙ c.strategy, eqb-true _ _ p.1 ∙ c.side)

    range-of : (e : GivenStrategy) → Answered e k log → (before : List Logged) (x : Logged) (behind : List Logged) → log ≡ before ++ (x ∷ behind) →
        (l : Line) → Memᴰ l x.lines → l.kind ≡ 1 → l.number ≡ w.number → WithinRange before e w l
    unfolding line_of
    range-of e a before x behind is l there kind number =
        let d : Divided (fresh timer) xs before x = run-divided (fresh timer) xs before x behind is in
        let b : State = after (fresh timer) d.prefix in
        let i : Written l (outcome b d.event).moved.records = written l _ (subst (λ (y : Logged). Memᴰ l y.lines) d.here there) in
        let r : Record = i.of in
        let kind : kind_number r.kind ≡ 1 = sym (ap (λ (y : Line). y.kind) i.is) ∙ kind in
        let number : r.number ≡ w.number = sym (ap (λ (y : Line). y.number) i.is) ∙ number in
        let among : Memᴰ r rs = subst (λ (ys : List Sent). Memᴰ r (records_of (fresh timer) ys)) (sym d.is) (records-of (fresh timer) d.prefix d.event d.suffix r i.there) in
        let p : (r.place ≡ k) × (r.side ≡ w.side) = party-of r among kind number in
        let u : Valid b = after-valid (fresh timer) d.prefix v in
        let f : InRange b r = all-mem (event-in-range b d.event u) i.there in
        let defined : k < b.defined = rw p.0 at (f.strategy kind) in
        let ok : may_take (bounds_at b k) w.side r.level ≡ true = rw (p.0, p.1) at (f.range kind) in
        let o : Open (fresh timer) d.prefix × OneDay (run b (d.event ∷ d.suffix)) =
        one-day-split (fresh timer) d.prefix d.event d.suffix (subst (λ (ys : List Sent). OneDay (run (fresh timer) ys)) d.is day) in
        let h : HasLegs (strategy_at b k) e =
        settled-legs (fresh timer) d.prefix (d.event ∷ d.suffix) e k v o.0 o.1 (subst (λ (ys : List Sent). Answered e k (run (fresh timer) ys)) d.is a) defined in
        let q = bounds-known timer d.prefix v k e h ((lean-after (fresh timer) d.prefix v (lean-fresh timer) o.0).padded k defined) in
        subst (λ (ls : List Logged). WithinRange ls e w l) (sym d.earlier)
        (subst (λ (y : Line). WithinRange (run (fresh timer) d.prefix) e w y) (sym i.is)
        (line-in-range (run (fresh timer) d.prefix) e h.definition (quotes-most timer d.prefix v) w r (rw q at ok)))

  -- the laws of a leg order that came
  module _ (w : Terms) (m : Came (leg w) log) where
    o : CameOrder timer xs w
    o = came-order timer xs v day w m

    order-law : {l : Law} → About w.number l → FitsRow l o.entered.before (leg_row o.order) →
        added l (leg_row o.order) + tally (come l) rs ≡ tally (gone l) rs + size l end
    order-law a f = o.entered.law a o.number (omega (arith, o.number, o.entered.numbered)) f

    no-entries : tally (come (no_entries w.number)) rs ≡ 0
    no-entries = rw o.number at (LegBooks.no-entries timer xs o.order o.entered)

    contracts-of : w.quantity ≡ leg_filled w.number (lines_of log) + cancelled w.number (lines_of log) + live_quantity end w.number
    contracts-of = rw (o.number, o.contracts) at (LegBooks.contracts-live timer xs o.order o.entered)

    prices : tally (come (of_price w.number o.order.series o.order.side o.order.price)) rs ≡ 0
    prices = omega (arith, order-law (a-price o.order.series o.order.side o.order.price) (λ z. (refl, refl, refl)), tally-none rs)

    traded-met : (r : Record) → Memᴰ r rs → kind_number r.kind ≡ 2 → r.number ≡ w.number → meets o.order.side (10_000_000 + o.order.price) r.level ≡ true
    traded-met r there kind number =
        let z : on_traded r.kind (if_same r.number w.number (pick (meets o.order.side (10_000_000 + o.order.price) r.level) 0 1)) ≡ 0 =
        tally-mem (come (of_price w.number o.order.series o.order.side o.order.price)) r rs there prices in
        let n : on_complex r.kind (if_same r.number w.number 1) ≡ 0 = tally-mem (come (no_entries w.number)) r rs there no-entries in
        let y : if_same r.number w.number (pick (meets o.order.side (10_000_000 + o.order.price) r.level) 0 1) ≡ 0 =
        rw (traded-line r.kind r.number kind (subst (λ (i : ℕ). on_complex r.kind (if_same r.number i 1) ≡ 0) (sym number) n)) at z in
        met _ (sym (when-yes r.number w.number _ number) ∙ y)

    price-of : (l : Line) → Memᴰ l (lines_of log) → l.kind ≡ 2 → l.number ≡ w.number → NotWorse w l
    unfolding line_of
    price-of l there kind number =
        let x : Written l rs = written l rs (rw lines at there) in
        line-within w l x.of x.is o.order.side (10_000_000 + o.order.price) o.side (cents-price o.order.price ∙ o.limit)
        (traded-met x.of x.there (sym (ap (λ (y : Line). y.kind) x.is) ∙ kind) (sym (ap (λ (y : Line). y.number) x.is) ∙ number))

    whole_of : (l : Line) → Memᴰ l (lines_of log) → l.kind ≡ 1 → l.number ≡ w.number → ⊥
    unfolding line_of
    whole_of l there kind number =
        let x : Written l rs = written l rs (rw lines at there) in
        let k : kind_number x.of.kind ≡ 1 = sym (ap (λ (y : Line). y.kind) x.is) ∙ kind in
        let m : x.of.number ≡ w.number = sym (ap (λ (y : Line). y.number) x.is) ∙ number in
        let z : on_complex x.of.kind (if_same x.of.number w.number 1) ≡ 0 = tally-mem (come (no_entries w.number)) x.of rs x.there no-entries in
        let y : if_same x.of.number w.number 1 ≡ 0 = rw (whole-line x.of.kind k) at z in
        omega (arith, y, when-yes x.of.number w.number 1 m)

  -- a sweep that came bettered the net of its side
  sweeps-of : (before : List Logged) (x : Logged) (behind : List Logged) → log ≡ before ++ (x ∷ behind) → (s : GivenSweep) → SweepIn x s → (e : GivenStrategy) → Answered e s.strategy log → Bettered before e s
  sweeps-of before x behind is s i e a =
      let d : Divided (fresh timer) xs before x = run-divided (fresh timer) xs before x behind is in
      let b : State = after (fresh timer) d.prefix in
      let t : Arrived b s = arrived b (after-valid (fresh timer) d.prefix v) d.event s (ap (λ (y : Logged). y.reading) (sym d.here) ∙ i.reading) (ap (λ (y : Logged). y.answer) (sym d.here) ∙ i.answer) (λ z. i.value (ap (λ (y : Logged). y.value) d.here ∙ z)) in
      let o : Open (fresh timer) d.prefix × OneDay (run b (d.event ∷ d.suffix)) =
      one-day-split (fresh timer) d.prefix d.event d.suffix (subst (λ (ys : List Sent). OneDay (run (fresh timer) ys)) d.is day) in
      let h : HasLegs (strategy_at b s.strategy) e =
      settled-legs (fresh timer) d.prefix (d.event ∷ d.suffix) e s.strategy v o.0 o.1 (subst (λ (ys : List Sent). Answered e s.strategy (run (fresh timer) ys)) d.is a) t.defined in
      subst (λ (ls : List Logged). Bettered ls e s) (sym d.earlier)
      (bettered-said timer v d.prefix (open-day (fresh timer) d.prefix o.0) s.strategy e h ((lean-after (fresh timer) d.prefix v (lean-fresh timer) o.0).padded s.strategy t.defined) s t.betters)

  -- no other number
  other-law : (n : ℕ) → Unknown n log → {l : Law} → About n l → tally (come l) rs ≡ tally (gone l) rs + size l end
  other-law n u {l} a = law-quiet l timer xs v (quiet a (fresh timer) xs (apart-unknown n (fresh timer) xs u))

  others-of : (n : ℕ) → Unknown n log → (total (mentions n) (lines_of log) ≡ 0) × (live_quantity end n ≡ 0)
  unfolding live_quantity
  others-of n u = (
    rw lines (omega (arith, mentions-lines n rs, other-law n u a-no_entries, other-law n u a-no_orders, tally-none rs)),
    omega (arith, other-law n u a-units, other-law n u a-contracts, tally-none rs),
  )

  -- bought is sold
  series-of : (s : ℕ) → bought s (lines_of log) ≡ sold s (lines_of log)
  series-of s =
      rw lines
      (omega (arith, bought-lines s rs, sold-lines s rs, law-quiet (of_series s) timer xs v (quiet-plain (of_series s) (plain-series s) (fresh timer) xs)))

  -- which records are fills
  part-number : (n : ℕ) (t : Bool) → is_leg_number log n ≡ t → (r : Record) → Memᴰ r rs → r.kind ≡ LegFill → r.number ≡ n → t ≡ false
  part-number n false e r there kind number = refl
  part-number n true e r there kind number =
      let l : LegCame n log = leg-came n log e in
      let z : on_complex r.kind (if_same r.number l.terms.number 1) ≡ 0 = tally-mem (come (no_entries l.terms.number)) r rs there (no-entries l.terms l.came) in
      let y : if_same r.number l.terms.number 1 ≡ 0 = rw kind at z in
      absurd (omega (arith, when-yes r.number l.terms.number 1 (number ∙ sym l.number)))

  traded-number : (n : ℕ) (t : Bool) → is_leg_number log n ≡ t → (r : Record) → Memᴰ r rs → r.kind ≡ LegOrderFill → r.number ≡ n → t ≡ true
  traded-number n true e r there kind number = refl
  traded-number n false e r there kind number =
      let none : tally (come (no_orders n)) rs ≡ 0 = omega (arith, law-quiet (no_orders n) timer xs v (quiet-legs n (fresh timer) xs e), tally-none rs) in
      let z : on_leg_order r.kind (if_same r.number n 1) ≡ 0 = tally-mem (come (no_orders n)) r rs there none in
      let y : if_same r.number n 1 ≡ 0 = rw kind at z in
      absurd (omega (arith, when-yes r.number n 1 number))

  fill-by : (r : Record) → Memᴰ r rs → (k : Kind) → r.kind ≡ k → pick (eqb (kind_number k) 1) true (pick (eqb (kind_number k) 2) (is_leg_number log r.number) false) ≡ fill_kind k
  unfolding kind_number pick
  fill-by r there WholeFill e = refl
  fill-by r there LegFill e = part-number r.number (is_leg_number log r.number) refl r there e refl
  fill-by r there LegOrderFill e = traded-number r.number (is_leg_number log r.number) refl r there e refl
  fill-by r there Cancelled e = refl
  fill-by r there LegOrderCancelled e = refl
  fill-by r there AuctionBegun e = refl
  fill-by r there AuctionEnded e = refl

  fills : (r : Record) → Memᴰ r rs → is_fill log (line_of r) ≡ fill_kind r.kind
  unfolding is_fill line_of
  fills r there = fill-by r there r.kind refl

  paid-of : cash log 0 (lines_of log) ≡ cash log 1 (lines_of log)
  paid-of =
      rw lines (paid-lines log rs fills (let e : tally (come of_cash) rs ≡ tally (gone of_cash) rs = omega (arith, law-quiet of_cash timer xs v (quiet-plain of_cash plain-cash (fresh timer) xs)) in e))

  claims : Totals log end
  claims = record {
    units = units_of_lem;
    contracts = contracts-of;
    others = others-of;
    strategy = strategy-of;
    ratio = ratio-of;
    series = series-of;
    limit = limit-of;
    price = price-of;
    whole = whole_of;
    paid = paid-of;
    range = range-of;
    sweeps = sweeps-of;
  }

-- THE TOTALS AFTER A LIST: for every list of events sent to a fresh book, of any bytes and with record spaces of any length, with nothing
-- after an accepted day end.
pub totals :
    (timer : ℕ) →
    1 ≤ timer →
    timer ≤ 5000 →
    (xs : List Sent) →
    OneDay (run (fresh timer) xs) →
    Totals (run (fresh timer) xs) (after (fresh timer) xs)
totals timer low high xs day = claims timer low high xs day
