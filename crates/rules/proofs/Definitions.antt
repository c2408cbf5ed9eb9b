-- "Ratios are divided by their greatest common divisor .. Legs stand by rising series. The comparison with a held strategy .. an equal one answers its
-- old number and takes no slot, else the next number from 0."
use mathlib.Core.Path.{◌≡◌, refl, sym, ◌∙◌, ap}
use mathlib.Core.Bool.{Bool, true, false}
use mathlib.Core.Logic.{◌⊎◌, inl, inr, ⊎_elim}
use mathlib.Core.List.{List, [], ◌∷◌, ◌++◌}
use Prim.Native.Nat.{ℕ, zero, suc, ◌+◌, ◌*◌, ◌/◌, ◌≤◌, ◌<◌}
use native.Mathlib.Nat.{mul_comm, mul_assoc, mul-div_cancel, le_of_mul-le-mul_right}
use native.Mathlib.Omega.{arith}
use borrow.Author.Tests.{eqb-true, eq-eqb, ltb-true, ltb-false, lt-ltb, leb-false}
use lib.Dec.{eqb}
use lib.ListN.{length, get_or, length-append, get_or-append}
use lib.Seq.{get_or-set_same, get_or-set_other}
use Rattle.base.specs.Pick.{pick_all, pick_true, pick-false, pick_yes}
use Rattle.base.specs.Walks.{walk, join_n, all-holds, all-every, first_holds, first-is, first-le, first-before, below, clash, lt-or-le}
use Rattle.base.specs.Gcd.{Divides, gcd-most, divides-zero, divides-le, divides-pos}
use Rattle.events.specs.declared.Strategy.{Strategy as GivenStrategy}
use Rattle.events.specs.declared.Event.TheVariants as E
use Rattle.rules.specs.declared.Leg.{Leg}
use Rattle.rules.specs.declared.Strategy.{Strategy}
use Rattle.rules.specs.declared.State.{State}
use Rattle.rules.specs.State.{no_leg, no_strategy, strategy_at, leg_at, with_strategies, with_nets}
use Rattle.rules.specs.Strategies.{ratio_of, series_of, divisor_step, divisor, divided_at, in_series, place_of, legs_of, by_series, defined, same_leg, same_leg_at, same_legs, same_at, number_of, held, added, define}
use Rattle.rules.specs.Given.{legs_given, strategy_given}
use Rattle.rules.specs.Refusals.{causes, ill_formed, strategies_full}
use Rattle.rules.specs.Step.{accept, value_of}
use Rattle.rules.specs.Valid.{Sound}
use Rattle.rules.specs.Sentences.{AcceptedEvent, Any, Placed, StrategySentence}
use Rattle.rules.proofs.Tables.{Stands, stands-more, all-within}
use Rattle.rules.proofs.Strategies.{Definition, divisor-divides, lowest, lowest-at, place_same, rows, rows_are, rows-le, length-is, padded-at, defined-fit}
use Rattle.rules.proofs.Ratios.{once, Padded, given-padded}
use Rattle.rules.proofs.Validity.{clear, then-no, given-definition}

-- WHERE A LEG STANDS
stands-left : {x : Leg} (xs ys : List Leg) → Stands no_leg xs x → Stands no_leg (xs ++ ys) x
stands-left xs ys s = record { at = s.at; slot = rw (length-append) (omega (arith, s.slot)); is = get_or-append xs ys no_leg s.at s.slot ∙ s.is }

stands-right : {x : Leg} (xs ys : List Leg) → Stands no_leg ys x → Stands no_leg (xs ++ ys) x
stands-right [] ys s = s
stands-right (y ∷ xs) ys s = stands-more y (stands-right xs ys s)

stands-join : {x : Leg} (f : ℕ → List Leg) (k j : ℕ) → j < k → Stands no_leg (f j) x → Stands no_leg (join_n f k) x
unfolding join_n
stands-join f zero j h s = absurd (omega arith)
stands-join f (suc k) j h s = ⊎_elim (λ (q : j ≡ k). stands-right (join_n f k) (f k) (rw q at s)) (λ (l : j < k). stands-left (join_n f k) (f k) (stands-join f k j l s)) (below h)

-- a divisor of all ratios divides their divisor
divisor-most : (legs : List Leg) (m n : ℕ) → ((i : ℕ) → i < n → Divides m (ratio_of legs i)) → Divides m (walk (divisor_step legs) 0 n)
unfolding walk
divisor-most legs m zero h = divides-zero m
divisor-most legs m (suc n) h = gcd-most m _ _ (h n (omega arith)) (divisor-most legs m n (λ i l. h i (omega arith)))

-- a ratio divided, and taken as often again
divided-again : (r d : ℕ) → 0 < d → Divides d r → d * (r / d) ≡ r
divided-again r d p u =
    let e : r / d ≡ u.times = rw (← u.is) (mul-div_cancel u.times p) in
    rw e (mul_comm d u.times ∙ u.is)

module _ (legs : List Leg) (count : ℕ) (def : Definition legs count) where
  abbrev d : ℕ
  d = divisor legs count

  d-divides : (i : ℕ) → i < count → Divides d (ratio_of legs i)
  unfolding divisor
  d-divides i h = divisor-divides legs count i h

  d-some : 0 < d
  d-some = let two = def.two in divides-pos (d-divides 0 (omega arith)) (def.ratio 0 (omega arith)).0

  -- the place of a leg is its own
  own-place : (i : ℕ) → i < count → place_of legs count (series_of legs i) ≡ i
  unfolding place_of
  own-place i h =
      let e : in_series legs (series_of legs i) i ≡ true = eq-eqb (series_of legs i) (series_of legs i) refl in
      first-is (in_series legs (series_of legs i)) count i h e (λ j l. once legs count def (series_of legs i) j i l h e)

  leg-stands : (i : ℕ) → i < count → Stands no_leg (rows legs count def) (divided_at legs d i)
  unfolding by_series
  leg-stands i h =
      let s : ℕ = series_of legs i in
      let low : List Leg = lowest legs count def in
      let p : place_of low count s ≡ i = place_same legs count def s ∙ own-place i h in
      let e : legs_of low count s ≡ divided_at legs d i ∷ [] =
      pick_true _ _ _ (lt-ltb (place_of low count s) count (rw p h)) ∙ ap (λ (n : ℕ). get_or low n no_leg ∷ []) p ∙ ap (λ (x : Leg). x ∷ []) (lowest-at legs count def i h) in
      stands-join (legs_of low count) 32 s (def.series i h) (rw e (record { at = 0; slot = omega arith; is = refl }))

  -- the strategy that the definition gives
  abbrev given : Strategy
  given = defined legs count

  row_is : (p : ℕ) → p < length (rows legs count def) → leg_at given p ≡ get_or (rows legs count def) p no_leg
  unfolding defined
  row_is p h = padded-at legs count def p h

  leg-placed : (i : ℕ) → i < count → Placed given (get_or legs i no_leg) d
  leg-placed i h =
      let s = leg-stands i h in
      let e : leg_at given s.at ≡ divided_at legs d i = row_is s.at s.slot ∙ s.is in
      record {
        at = s.at;
        row = omega (arith, s.slot, rows-le legs count def);
        series = ap (λ (x : Leg). x.series) e;
        side = ap (λ (x : Leg). x.side) e;
        ratio = ap (λ (x : Leg). d * x.ratio) e ∙ divided-again (ratio_of legs i) d d-some (d-divides i h);
      }

  -- no number above 1 divides all that is left
  left_alone : (t : ℕ) → ((p : ℕ) → p < 6 → Divides t (leg_at given p).ratio) → t ≡ 1
  unfolding divisor
  left_alone t h =
      let all : (i : ℕ) → i < count → Divides (t * d) (ratio_of legs i) = λ i l.
      let q = leg-placed i l in
      let u = h q.at q.row in
      record { times = u.times; is = sym (mul_assoc u.times t d) ∙ ap (λ (x : ℕ). x * d) u.is ∙ mul_comm (leg_at given q.at).ratio d ∙ q.ratio } in
      let most : Divides (t * d) d = divisor-most legs (t * d) count all in
      let le : t * d ≤ 1 * d = omega (arith, divides-le most d-some) in
      let few : t ≤ 1 = le_of_mul-le-mul_right {m = t} {n = 1} {k = d} le d-some in
      let some : 0 < t * d = divides-pos most d-some in
      ⊎_elim (λ (l : 0 < t). omega arith) (λ (l : t ≤ 0). absurd (let z : t ≡ 0 = omega arith in omega (arith, ap (λ (x : ℕ). x * d) z))) (lt-or-le 0 t)

  -- a row in use is one of the legs'
  in_use : (p : ℕ) → 0 < (leg_at given p).ratio → Padded given → p < given.count
  in_use p l w = ⊎_elim (λ (h : p < given.count). h) (λ (h : given.count ≤ p). absurd (omega (arith, w.past p h))) (lt-or-le p given.count)

  in_rows : (p : ℕ) → p < given.count → p < length (rows legs count def)
  unfolding defined
  in_rows p h = omega (arith, length-is legs count def)

  leg-of : (p : ℕ) → p < given.count → Any (λ (i : ℕ). (get_or legs i no_leg).series ≡ (leg_at given p).series) count
  unfolding place_of
  leg-of p h =
      let l : p < length (rows legs count def) = in_rows p h in
      let f = all-within (rows_are legs count def).found no_leg p l in
      let s : ℕ = (get_or (rows legs count def) p no_leg).series in
      let k : place_of legs count s < count = ltb-true _ _ f.held in
      record { at = place_of legs count s; below = k; has = rw (row_is p l) (eqb-true _ _ (first_holds (in_series legs s) count k)) }

-- THE NUMBER
same_rows : (s t : Strategy) → same_legs s t ≡ true → (p : ℕ) → p < 6 → leg_at s p ≡ leg_at t p
unfolding same_legs same_leg
same_rows s t h p l =
    let x : Leg = leg_at s p in
    let y : Leg = leg_at t p in
    let a = pick_yes (eqb x.series y.series) (all-holds (same_leg_at s t) 6 p h l) in
    let b = pick_yes (eqb x.side y.side) a.1 in
    leg-eq x y (eqb-true _ _ a.0) (eqb-true _ _ b.0) (eqb-true _ _ b.1)
  where
    made : ℕ → ℕ → ℕ → Leg
    made a b c = record { series = a; side = b; ratio = c }

    made-same : (a b c a' b' c' : ℕ) → a ≡ a' → b ≡ b' → c ≡ c' → made a b c ≡ made a' b' c'
    made-same a b c a' b' c' p q r = cc

    leg-eq : (x y : Leg) → x.series ≡ y.series → x.side ≡ y.side → x.ratio ≡ y.ratio → x ≡ y
    leg-eq x y p q r = made-same x.series x.side x.ratio y.series y.side y.ratio p q r

rows_same : (s t : Strategy) → ((p : ℕ) → p < 6 → leg_at s p ≡ leg_at t p) → same_legs s t ≡ true
unfolding same_legs same_leg
rows_same s t h = all-every (same_leg_at s t) 6 (λ p l.
    rw (h p l) (pick_true _ _ _ (eq-eqb (leg_at t p).series (leg_at t p).series refl) ∙ pick_true _ _ _ (eq-eqb (leg_at t p).side (leg_at t p).side refl) ∙ eq-eqb (leg_at t p).ratio (leg_at t p).ratio refl))

module _ (b : State) (t : Strategy) (v : Sound b) (room : held b t ≡ false → b.defined < 16) where
  abbrev n : ℕ
  n = number_of b t

  abbrev c : State
  c = define t b

  is_held : held b t ≡ true → c ≡ b
  unfolding define
  is_held h = pick_true _ _ _ h

  is-new : held b t ≡ false → c ≡ added t b
  unfolding define
  is-new h = pick-false _ _ _ h

  new-number : held b t ≡ false → n ≡ b.defined
  unfolding number_of
  new-number h = omega (arith, ltb-false n b.defined h, first-le (same_at b t) b.defined)

  -- its rows are those of the definition
  its-rows : (p : ℕ) → p < 6 → leg_at (strategy_at c n) p ≡ leg_at t p
  unfolding number_of added with_strategies with_nets
  its-rows p l = by (held b t) refl
    where
      by : (x : Bool) → held b t ≡ x → leg_at (strategy_at c n) p ≡ leg_at t p
      by true h = rw (is_held h) (same_rows (strategy_at b n) t (first_holds (same_at b t) b.defined (ltb-true _ _ h)) p l)
      by false h = rw (is-new h, new-number h) (ap (λ (s : Strategy). leg_at s p) (get_or-set_same b.strategies b.defined t no_strategy (omega (arith, room h, v.strategy_rows))))

  its-others : (k : ℕ) → (k ≡ n → ⊥) → strategy_at c k ≡ strategy_at b k
  unfolding added with_strategies with_nets
  its-others k d = by (held b t) refl
    where
      by : (x : Bool) → held b t ≡ x → strategy_at c k ≡ strategy_at b k
      by true h = rw (is_held h)
      by false h = rw (is-new h) (get_or-set_other b.strategies b.defined k t no_strategy (λ q. d (q ∙ sym (new-number h))))

  its-next : (c ≡ b) ⊎ ((n ≡ b.defined) × (c.defined ≡ b.defined + 1))
  unfolding added with_strategies with_nets
  its-next = by (held b t) refl
    where
      by : (x : Bool) → held b t ≡ x → (c ≡ b) ⊎ ((n ≡ b.defined) × (c.defined ≡ b.defined + 1))
      by true h = inl (is_held h)
      by false h = inr (new-number h, rw (is-new h))

  its-unnamed : t.specialist.member ≡ 0 → (c ≡ b) ⊎ ((strategy_at c n).specialist.member ≡ 0)
  unfolding added with_strategies with_nets
  its-unnamed u = by (held b t) refl
    where
      by : (x : Bool) → held b t ≡ x → (c ≡ b) ⊎ ((strategy_at c n).specialist.member ≡ 0)
      by true h = inl (is_held h)
      by false h = inr (rw (is-new h, new-number h) (ap (λ (s : Strategy). s.specialist.member) (get_or-set_same b.strategies b.defined t no_strategy (omega (arith, room h, v.strategy_rows))) ∙ u))

  its-equal : (k : ℕ) → k < b.defined → ((p : ℕ) → p < 6 → leg_at (strategy_at b k) p ≡ leg_at (strategy_at c n) p) → (c ≡ b) × (n ≤ k)
  unfolding number_of
  its-equal k l h =
      let e : same_at b t k ≡ true = rows_same (strategy_at b k) t (λ p q. h p q ∙ its-rows p q) in
      let few : n ≤ k = ⊎_elim (λ (m : k < n). absurd (clash e (first-before (same_at b t) b.defined k m))) (λ (m : n ≤ k). m) (lt-or-le k n) in
      (is_held (lt-ltb n b.defined (omega arith)), few)

-- a new strategy has no specialist yet
given-unnamed : (e : GivenStrategy) → (strategy_given e).specialist.member ≡ 0
unfolding strategy_given defined
given-unnamed e = refl

define-tables : (t : Strategy) (b : State) → ((define t b).entries ≡ b.entries) × ((define t b).orders ≡ b.orders)
unfolding define added with_strategies with_nets
define-tables t b = pick_all (λ (c : State). (c.entries ≡ b.entries) × (c.orders ≡ b.orders)) _ (refl, refl) (refl, refl)

-- THE SENTENCE
pub strategy-sentence : (b : State) (e : GivenStrategy) → AcceptedEvent b (E.Strategy e) → StrategySentence b e (value_of b (E.Strategy e)) (accept b (E.Strategy e)).state
unfolding accept value_of causes strategy_given strategies_full
strategy-sentence b e a =
    let x = clear 5 (ill_formed e) _ (omega arith) a.clear in
    let y = clear 12 (strategies_full b e) _ (omega arith) x.1 in
    let def : Definition (legs_given e) e.count = given-definition e a.fit x.0 in
    let t : Strategy = strategy_given e in
    let v : Sound b = a.valid.sound in
    let room : held b t ≡ false → b.defined < 16 = λ n. leb-false 16 b.defined (then-no (held b t) y.0 n) in
    let pad : Padded t = given-padded e def in
    let same : (p : ℕ) → p < 6 → leg_at (strategy_at (define t b) (number_of b t)) p ≡ leg_at t p = its-rows b t v room in
    let ratio : (p : ℕ) → p < 6 → 0 < (leg_at (strategy_at (define t b) (number_of b t)) p).ratio → p < t.count =
    λ p l h. in_use (legs_given e) e.count def p (rw (same p l) at h) pad in
    record {
      divisor = d (legs_given e) e.count def;
      legs = λ i l.
          let q = leg-placed (legs_given e) e.count def i l in
          record { at = q.at; row = q.row; series = rw (same q.at q.row) q.series; side = rw (same q.at q.row) q.side; ratio = rw (same q.at q.row) q.ratio };
      lowest = λ m h. left_alone (legs_given e) e.count def m (λ p l. rw (same p l) at (h p l));
      no_other = λ p l h. rw (same p l) (leg-of (legs_given e) e.count def p (ratio p l h));
      rising = λ p q h l r s. rw (same p (omega arith), same q l) ((defined-fit (legs_given e) e.count def).rising p q h (ratio q l s));
      equal = its-equal b t v room;
      next = its-next b t v room;
      others = its-others b t v room;
      entries = (define-tables t b).0;
      orders = (define-tables t b).1;
      unnamed = its-unnamed b t v room (given-unnamed e);
    }
