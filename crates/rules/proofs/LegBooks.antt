-- The leg orders that a list of events brought in, and the leg book that it leaves: what stands there by the log is what stands in the book, so the
-- best prices of the log are those of the book (2026-03).
use Rattle.std.specs.Prelude.{Ok}
use mathlib.Core.Path.{◌≡◌, refl, sym, ◌∙◌, ap, subst}
use mathlib.Core.Bool.{Bool, true, false}
use mathlib.Core.Logic.{⊎_elim}
use mathlib.Core.List.Memᴰ
use mathlib.Core.List.{List, [], ◌∷◌, ◌++◌, Memᴰ}
use Prim.Native.Nat.{ℕ, zero, suc, ◌+◌, ◌≤◌, ◌<◌}
use native.Mathlib.Omega.{arith}
use borrow.Author.Tests.{eqb-true, eqb-false, eq-eqb, ne_eqb, ltb-false}
use lib.Dec.{eqb}
use Rattle.base.specs.Pick.{pick, pick-by, pick_true, pick-false}
use Rattle.base.specs.Walks.{sum_n, sum_one, clash, lt-or-le}
use Rattle.events.specs.declared.Event.{Event}
use Rattle.events.specs.declared.Event.TheVariants as E
use Rattle.events.specs.declared.LegOrder.{LegOrder as GivenLegOrder}
use Rattle.frames.specs.Frames.{read_of}
use Rattle.rules.specs.declared.Entry.{Entry}
use Rattle.rules.specs.declared.LegOrder.{LegOrder}
use Rattle.rules.specs.declared.State.{State}
use Rattle.rules.specs.declared.Record.{Record}
use Rattle.rules.specs.State.{no_order, fresh, order_at}
use Rattle.rules.specs.Sides.{better}
use Rattle.rules.specs.Nets.{stands, price_of}
use Rattle.rules.specs.Given.{sweep_given, leg_order_given}
use Rattle.rules.specs.Step.{Outcome, value_of, refused}
use Rattle.rules.specs.Lookups.{contracts_of_number, live_quantity}
use Rattle.rules.specs.Valid.{Valid}
use Rattle.rules.specs.Sentences.{Any}
use Rattle.rules.specs.Totals.{Sent, Logged, outcome, after, log_of, run, lines_of, leg_filled, cancelled, Terms, Brought, complex, leg, nothing, brought, Came, is_leg, is_leg_number, OneDay, LegStands, BestSaid}
use Rattle.rules.proofs.Endings.{or_no}
use Rattle.rules.proofs.Tables.{tally, live-row}
use Rattle.rules.proofs.Control.{standing}
use Rattle.rules.proofs.Laws.{side-is, Law, no_entries, no_orders, size, come, gone, when-yes}
use Rattle.rules.proofs.Steps.{Row, entry_row, leg_row, no_row, added, FitsRow, row_of, good-fresh}
use Rattle.rules.proofs.Lists.{done, Went, refused_as, accepted_as, went, row_in, next, row-refused, row-accepted, terms_of, brought-row, records_of, entered_of, run-good, lines-records, after-valid, event-same}
use Rattle.rules.proofs.Numbers.{About, a-units, a-contracts, a-no_entries, a-price, Quiet, Found, found, Entered, entered}
use Rattle.rules.proofs.Paper.{tally-none, contracts-lines}
use Rattle.rules.proofs.Bests.{priced-sound, price-stands, price-best}

-- A NUMBER OF WHICH NO LEG ORDER CAME
no-leg : (n : ℕ) (b : State) (r : Row) → is_leg n (terms_of r) ≡ false → (added (no_orders n) r ≡ 0) × FitsRow (no_orders n) b r
no-leg n b (entry_row e) h = (refl, tt)
no-leg n b (leg_row o) h = (refl, eqb-false o.number n h)
no-leg n b no_row h = (refl, tt)

pub quiet-legs : (n : ℕ) (b : State) (xs : List Sent) → is_leg_number (run b xs) n ≡ false → Quiet (no_orders n) b xs
unfolding entered_of run is_leg_number
quiet-legs n b [] h = record { none = refl; fitting = tt }
quiet-legs n b (x ∷ xs) h =
    let p = or_no (is_leg n (brought (log_of x (outcome b x)))) h in
    let r = no-leg n b (row_in b x) (ap (is_leg n) (sym (brought-row b x)) ∙ p.0) in
    let q : Quiet (no_orders n) (next b x) xs = quiet-legs n (next b x) xs p.1 in
    record { none = omega (arith, r.0, q.none); fitting = (r.1, q.fitting) }

-- .. and one of which one came
pub record LegCame (n : ℕ) (log : List Logged) : Type 0 where
  pub terms : Terms
  pub number : terms.number ≡ n
  pub came : Came (leg terms) log

leg-is : (n : ℕ) (w : Brought) (log : List Logged) (x : Logged) → brought x ≡ w → is_leg n w ≡ true → LegCame n (x ∷ log)
leg-is n (complex t k) log x e h = absurd (let z : ◌≡◌ {A = ℕ} 0 1 = cc in omega arith)
leg-is n (leg t) log x e h = record { terms = t; number = eqb-true t.number n h; came = Memᴰ.head (sym e) }
leg-is n nothing log x e h = absurd (let z : ◌≡◌ {A = ℕ} 0 1 = cc in omega arith)

pub leg-came : (n : ℕ) (log : List Logged) → is_leg_number log n ≡ true → LegCame n log
unfolding is_leg_number
leg-came n [] = λ h. absurd (clash h refl)
leg-came n (x ∷ xs) =
    pick-by (λ (t : Bool). t ≡ true → LegCame n (x ∷ xs)) (is_leg n (brought x))
    (λ t h. leg-is n (brought x) xs x refl t)
    (λ t h. later (leg-came n xs h))
  where
    later : LegCame n xs → LegCame n (x ∷ xs)
    later c = record { terms = c.terms; number = c.number; came = Memᴰ.tail c.came }

-- THE LAWS OF A LEG ORDER THAT CAME, after the list
module _ (timer : ℕ) (xs : List Sent) (o : LegOrder) (i : Entered timer xs (leg_row o)) where
  abbrev log : List Logged
  log = run (fresh timer) xs

  abbrev end : State
  end = after (fresh timer) xs

  abbrev rs : List Record
  rs = records_of (fresh timer) xs

  pub order-law : {l : Law} → About o.number l → FitsRow l i.before (leg_row o) → added l (leg_row o) + tally (come l) rs ≡ tally (gone l) rs + size l end
  order-law a f = i.law a refl (omega (arith, i.numbered)) f

  pub no-entries : tally (come (no_entries o.number)) rs ≡ 0
  no-entries = omega (arith, order-law a-no_entries tt, tally-none rs)

  -- what it brought in is filled, cancelled or in the table
  pub contracts-left : o.contracts ≡ leg_filled o.number (lines_of log) + cancelled o.number (lines_of log) + sum_n (contracts_of_number end o.number) 32
  contracts-left =
      rw (lines-records (fresh timer) xs)
      (omega (arith, order-law a-contracts tt, when-yes o.number o.number o.contracts refl, tally-none rs, contracts-lines o.number rs no-entries))

  pub contracts-live : o.contracts ≡ leg_filled o.number (lines_of log) + cancelled o.number (lines_of log) + live_quantity end o.number
  unfolding live_quantity
  contracts-live = omega (arith, contracts-left, order-law a-units tt, tally-none rs)

  -- a live row of its number has its series, side and price
  pub same_row : (j : ℕ) → 0 < (order_at end j).contracts → (order_at end j).number ≡ o.number → ((order_at end j).side ≡ o.side) × ((order_at end j).price ≡ o.price) × ((order_at end j).series ≡ o.series)
  same_row j h e = (i.good (a-price o.series o.side o.price) refl (omega (arith, i.numbered)) (λ z. (refl, refl, refl))).order j h e

-- THE EVENT THAT BROUGHT ONE IN
record LegSent (b : State) (x : Sent) (o : GivenLegOrder) : Type 0 where
  reading : read_of x.frame ≡ Ok (E.LegOrder o)
  accepted : outcome b x ≡ done b (E.LegOrder o)

record AnySent (b : State) (x : Sent) : Type 0 where
  order : GivenLegOrder
  sent : LegSent b x order

-- by the row that it brought
sent-sweep : (e : Entry) (t : Bool) (w : Terms) → terms_of (pick t no_row (entry_row e)) ≡ leg w → ⊥
unfolding pick
sent-sweep e true w h = let z : ◌≡◌ {A = ℕ} 0 1 = cc in omega arith
sent-sweep e false w h = let z : ◌≡◌ {A = ℕ} 0 1 = cc in omega arith

sent-event : (b : State) (x : Sent) (e : Event) → read_of x.frame ≡ Ok e → outcome b x ≡ done b e → (w : Terms) → terms_of (row_of b e) ≡ leg w → AnySent b x
sent-event b x (E.Strategy e) p q w h = absurd (let z : ◌≡◌ {A = ℕ} 0 1 = cc in omega arith)
sent-event b x (E.Order e) p q w h = absurd (let z : ◌≡◌ {A = ℕ} 0 1 = cc in omega arith)
sent-event b x (E.Sweep e) p q w h = absurd (sent-sweep (sweep_given b e) (eqb e.units 0) w h)
sent-event b x (E.LegOrder e) p q w h = record { order = e; sent = record { reading = p; accepted = q } }
sent-event b x (E.Cancel e) p q w h = absurd (let z : ◌≡◌ {A = ℕ} 0 1 = cc in omega arith)
sent-event b x (E.Series e) p q w h = absurd (let z : ◌≡◌ {A = ℕ} 0 1 = cc in omega arith)
sent-event b x (E.Clock e) p q w h = absurd (let z : ◌≡◌ {A = ℕ} 0 1 = cc in omega arith)
sent-event b x (E.DayEnd e) p q w h = absurd (let z : ◌≡◌ {A = ℕ} 0 1 = cc in omega arith)
sent-event b x (E.National e) p q w h = absurd (let z : ◌≡◌ {A = ℕ} 0 1 = cc in omega arith)
sent-event b x (E.Range e) p q w h = absurd (let z : ◌≡◌ {A = ℕ} 0 1 = cc in omega arith)
sent-event b x (E.Specialist e) p q w h = absurd (let z : ◌≡◌ {A = ℕ} 0 1 = cc in omega arith)

sent-row : (b : State) (x : Sent) (w : Terms) → terms_of (row_in b x) ≡ leg w → AnySent b x
sent-row b x w h = go (went b x)
  where
    go : Went b x → AnySent b x
    go (refused_as n k e) = absurd (let r : nothing ≡ leg w = ap terms_of (sym (row-refused b x n k e)) ∙ h in let z : ◌≡◌ {A = ℕ} 0 1 = cc in omega arith)
    go (accepted_as e p c q) = sent-event b x e p q w (ap terms_of (sym (row-accepted b x e p q)) ∙ h)

-- by what is logged of it
sent-logged : (b : State) (x : Sent) (o : GivenLegOrder) → read_of x.frame ≡ Ok (E.LegOrder o) → (outcome b x).answer ≡ 0 → LegSent b x o
unfolding refused
sent-logged b x o p a = go (went b x)
  where
    go : Went b x → LegSent b x o
    go (refused_as n k e) = absurd (k (ap (λ (y : Outcome). y.answer) (sym e) ∙ a))
    go (accepted_as e q c r) = let z : e ≡ E.LegOrder o = event-same (sym q ∙ p) in record { reading = p; accepted = r ∙ ap (done b) z }

-- an event of the list, by what is logged of it
record At (b : State) (xs : List Sent) (x : Logged) : Type 0 where
  prefix : List Sent
  event : Sent
  suffix : List Sent
  is : xs ≡ prefix ++ (event ∷ suffix)
  here : x ≡ log_of event (outcome (after b prefix) event)

logged-at : (b : State) (xs : List Sent) (x : Logged) → Memᴰ x (run b xs) → At b xs x
unfolding run after
logged-at b [] x m = absurd (Memᴰ.not-nil m)
logged-at b (y ∷ xs) x m = ⊎_elim first (λ k. later (logged-at (next b y) xs x k)) (Memᴰ.cases_cons m)
  where
    first : x ≡ log_of y (outcome b y) → At b (y ∷ xs) x
    first e = record { prefix = []; event = y; suffix = xs; is = refl; here = e }

    later : At (next b y) xs x → At b (y ∷ xs) x
    later a = record { prefix = y ∷ a.prefix; event = a.event; suffix = a.suffix; is = ap (λ (l : List Sent). y ∷ l) a.is; here = a.here }

at-logged : (b : State) (ys : List Sent) (x : Sent) (zs : List Sent) → Memᴰ (log_of x (outcome (after b ys) x)) (run b (ys ++ (x ∷ zs)))
unfolding run after
at-logged b [] x zs = Memᴰ.head refl
at-logged b (y ∷ ys) x zs = Memᴰ.tail (at-logged (next b y) ys x zs)

-- a sum that is not 0 has a part that is not
sum-some : (f : ℕ → ℕ) (k : ℕ) → 0 < sum_n f k → Any (λ (i : ℕ). 0 < f i) k
unfolding sum_n
sum-some f zero h = absurd (omega arith)
sum-some f (suc k) h =
    ⊎_elim
    (λ (l : 0 < f k). record { at = k; below = omega arith; has = l })
    (λ (l : f k ≤ 0). let a = sum-some f k (omega arith) in record { at = a.at; below = omega (arith, a.below); has = a.has })
    (lt-or-le 0 (f k))

stands-row : (s side : ℕ) (o : LegOrder) → 0 < o.contracts → o.series ≡ s → o.side ≡ side → stands s side o ≡ true
unfolding stands
stands-row s side o l p q = pick-false _ _ _ (ne_eqb o.contracts 0 (λ z. omega arith)) ∙ pick_true _ _ _ (eq-eqb _ _ p) ∙ eq-eqb _ _ q

-- THE LEG BOOK AFTER A LIST of a day
module _ (timer : ℕ) (v : Valid (fresh timer)) (xs : List Sent) (day : OneDay (run (fresh timer) xs)) where
  abbrev said : List Logged
  said = run (fresh timer) xs

  abbrev book : State
  book = after (fresh timer) xs

  -- a leg order that one of its events brought in
  module _ (ys : List Sent) (x : Sent) (zs : List Sent) (is : xs ≡ ys ++ (x ∷ zs)) (o : GivenLegOrder) (sent : LegSent (after (fresh timer) ys) x o) where
    abbrev c : State
    c = after (fresh timer) ys

    abbrev given : LegOrder
    given = leg_order_given c o

    abbrev entry : Logged
    entry = log_of x (outcome c x)

    row : row_in c x ≡ leg_row given
    row = row-accepted c x (E.LegOrder o) sent.reading sent.accepted

    came : Entered timer xs (leg_row given)
    came = subst (Entered timer xs) row (entered timer xs v day {w = terms_of (leg_row given)} (record { before = ys; event = x; behind = zs; is = is; row = ap terms_of row }))

    value : entry.value ≡ given.number
    unfolding leg_order_given value_of
    value = ap (λ (y : Outcome). y.value) sent.accepted

    -- what is left of it by the log stands in a row
    in_row : leg_filled given.number (lines_of said) + cancelled given.number (lines_of said) < o.contracts →
        Any (λ (j : ℕ). (stands o.series o.side (order_at book j) ≡ true) × ((order_at book j).price ≡ o.price)) 32
    unfolding leg_order_given
    in_row left =
        let a : Any (λ (j : ℕ). 0 < contracts_of_number book given.number j) 32 = sum-some (contracts_of_number book given.number) 32 (omega (arith, contracts-left timer xs given came)) in
        let r : LegOrder = order_at book a.at in
        let q = numbered r.number given.number r.contracts a.has in
        let s = same_row timer xs given came a.at q.1 q.0 in
        record { at = a.at; below = a.below; has = (stands-row o.series o.side r q.1 s.2 s.0, s.1) }
      where
        numbered : (m n u : ℕ) → 0 < pick (eqb m n) u 0 → (m ≡ n) × (0 < u)
        numbered m n u = pick-by (λ (z : ℕ). 0 < z → (m ≡ n) × (0 < u)) (eqb m n) (λ e h. (eqb-true m n e, h)) (λ e h. absurd (omega arith))

    -- a live row of its number stands in the book that the log says
    from_row : (j : ℕ) → j < 32 → 0 < (order_at book j).contracts → (order_at book j).number ≡ given.number → LegStands said (order_at book j).series (order_at book j).side (order_at book j).price
    unfolding leg_order_given
    from_row j h l e =
        let s = same_row timer xs given came j l e in
        let part : contracts_of_number book given.number j ≡ (order_at book j).contracts = pick_true _ _ _ (eq-eqb _ _ e) in
        record {
          entry = entry;
          sent = subst (λ (l : List Sent). Memᴰ entry (run (fresh timer) l)) (sym is) (at-logged (fresh timer) ys x zs);
          order = o;
          reading = sent.reading;
          answer = ap (λ (y : Outcome). y.answer) sent.accepted;
          of_series = sym s.2;
          on_side = sym s.0;
          at_price = sym s.1;
          left = rw value (omega (arith, contracts-left timer xs given came, part, sum_one (contracts_of_number book given.number) 32 j h));
        }

  -- WHAT STANDS BY THE LOG STANDS IN THE BOOK
  in-book : (s side p : ℕ) → LegStands said s side p → Any (λ (j : ℕ). (stands s side (order_at book j) ≡ true) × ((order_at book j).price ≡ p)) 32
  in-book s side p l =
      let a : At (fresh timer) xs l.entry = logged-at (fresh timer) xs l.entry l.sent in
      let t : LegSent (after (fresh timer) a.prefix) a.event l.order =
      sent-logged (after (fresh timer) a.prefix) a.event l.order (ap (λ (y : Logged). y.reading) (sym a.here) ∙ l.reading) (ap (λ (y : Logged). y.answer) (sym a.here) ∙ l.answer) in
      let n = ap (λ (y : Logged). y.value) a.here ∙ value a.prefix a.event a.suffix a.is l.order t in
      let r = in_row a.prefix a.event a.suffix a.is l.order t (rw n at l.left) in
      rw (← l.of_series, ← l.on_side, ← l.at_price) r

  -- .. and the other way round
  in-log : (s side j : ℕ) → stands s side (order_at book j) ≡ true → LegStands said s side (order_at book j).price
  in-log s side j e = by (is_leg_number said (order_at book j).number) refl
    where
      n : ℕ
      n = (order_at book j).number

      live : 0 < (order_at book j).contracts
      live = (standing s side (order_at book j) e).live

      rows : j < 32
      rows = live-row (λ (o : LegOrder). o.contracts) no_order refl book.orders (after-valid (fresh timer) xs v).sound.order_rows j live

      by : (t : Bool) → is_leg_number said n ≡ t → LegStands said s side (order_at book j).price
      by false f = absurd ((run-good (no_orders n) (fresh timer) xs v (good-fresh (no_orders n) timer) (quiet-legs n (fresh timer) xs f).fitting).order j live refl)
      by true f =
          let m : LegCame n said = leg-came n said f in
          let a : Found (leg m.terms) (fresh timer) xs = found (leg m.terms) (fresh timer) xs m.came in
          let t : AnySent (after (fresh timer) a.before) a.event = sent-row (after (fresh timer) a.before) a.event m.terms a.row in
          let g : LegOrder = leg_order_given (after (fresh timer) a.before) t.order in
          let w : leg m.terms ≡ terms_of (leg_row g) = sym a.row ∙ ap terms_of (row a.before a.event a.behind a.is t.order t.sent) in
          let k : n ≡ g.number = sym m.number ∙ leg-number w in
          rw ((standing s side (order_at book j) e).in_series, (standing s side (order_at book j) e).on_side) at (from_row a.before a.event a.behind a.is t.order t.sent j rows live k)
        where
          leg-number : {t u : Terms} → leg t ≡ leg u → t.number ≡ u.number
          leg-number h = cc

  -- THE BEST PRICE BY THE LOG IS THAT OF THE BOOK
  not-past : (side p q : ℕ) → better side p q ≡ false → (side ≡ 0 → q ≤ p) × (side ≡ 1 → p ≤ q)
  unfolding better
  not-past side p q h = (
    λ e. ltb-false p q (sym (pick_true _ _ _ (eq-eqb side 0 e)) ∙ h),
    λ e. ltb-false q p (sym (pick-false _ _ _ (ne_eqb side 0 (λ z. omega arith))) ∙ h),
  )

  abbrev best : ℕ → ℕ → ℕ
  best s side = price_of book.orders s side

  best_of_lem : (s side j : ℕ) → stands s side (order_at book j) ≡ true → (0 < best s side) × (better side (best s side) (order_at book j).price ≡ false)
  best_of_lem s side j e =
      let u = (after-valid (fresh timer) xs v).sound in
      price-best book.orders s side (priced-sound u) j (live-row (λ (o : LegOrder). o.contracts) no_order refl book.orders u.order_rows j (standing s side (order_at book j) e).live) e

  -- one that the log says
  pub best-said : (s side p : ℕ) → side ≤ 1 → BestSaid said s side p → (0 < p) × (best s side ≡ p)
  best-said s side p two g =
      let a = in-book s side p g.stands in
      let h = best_of_lem s side a.at a.has.0 in
      let m = price-stands book.orders s side (priced-sound (after-valid (fresh timer) xs v).sound) h.0 in
      let l : LegStands said s side (best s side) = rw m.has.1 at (in-log s side m.at m.has.0) in
      let f = not-past side (best s side) p (rw a.has.1 at h.1) in
      let e : best s side ≡ p =
      ⊎_elim (λ (z : side ≡ 0). omega (arith, f.0 z, g.bid z (best s side) l)) (λ (z : side ≡ 1). omega (arith, f.1 z, g.offer z (best s side) l)) (side-is side two) in
      (omega (arith, e, h.0), e)

  -- one that the book has
  pub said-best : (s side : ℕ) → 0 < best s side → BestSaid said s side (best s side)
  said-best s side some =
      let m = price-stands book.orders s side (priced-sound (after-valid (fresh timer) xs v).sound) some in
      record { stands = rw m.has.1 at (in-log s side m.at m.has.0); bid = λ z q l. (past q l).0 z; offer = λ z q l. (past q l).1 z }
    where
      past : (q : ℕ) → LegStands said s side q → (side ≡ 0 → q ≤ best s side) × (side ≡ 1 → best s side ≤ q)
      past q l = let a = in-book s side q l in not-past side (best s side) q (rw a.has.1 at (best_of_lem s side a.at a.has.0).1)
