-- Every strategy that is defined was given by an event of the list, and its ratios are those of each event that answered its number.
use Rattle.std.specs.Prelude.{Ok}
use mathlib.Core.Path.{◌≡◌, refl, sym, ◌∙◌, ap, subst}
use mathlib.Core.Bool.{Bool, true, false}
use mathlib.Core.Logic.{◌⊎◌, inl, inr, ⊎_elim}
use mathlib.Core.List.Memᴰ
use mathlib.Core.List.{List, [], ◌∷◌, ◌++◌, Memᴰ}
use Prim.Native.Nat.{ℕ, ◌+◌, ◌≤◌, ◌<◌}
use native.Mathlib.Omega.{arith}
use borrow.Author.Tests.{eq-eqb, ltb-true, ltb-false, leb-false}
use lib.Dec.{eqb}
use lib.ListN.{length}
use lib.Seq.{get_or-set_same}
use Rattle.base.specs.Pick.{pick, pick_true, pick-false}
use Rattle.base.specs.Walks.{all-every, first_n, first-le, first_holds, lt-or-le}
use Rattle.events.specs.declared.Event.{Event}
use Rattle.events.specs.declared.Event.TheVariants as E
use Rattle.events.specs.declared.Strategy.{Strategy as GivenStrategy}
use Rattle.frames.specs.Frames.{read_of}
use Rattle.rules.specs.declared.Leg.{Leg}
use Rattle.rules.specs.declared.Strategy.{Strategy}
use Rattle.rules.specs.declared.State.{State}
use Rattle.rules.specs.State.{no_strategy, fresh, strategy_at, leg_at, with_strategies, with_nets}
use Rattle.rules.specs.Moves.{Moved}
use Rattle.rules.specs.Strategies.{same_leg, same_leg_at, same_legs, same_at, number_of, held, added, define}
use Rattle.rules.specs.Given.{legs_given, strategy_given}
use Rattle.rules.specs.Refusals.{first_cause, causes, ill_formed, strategies_full}
use Rattle.rules.specs.Step.{Outcome, value_of, accept, refused}
use Rattle.rules.specs.Valid.{Valid}
use Rattle.rules.specs.Totals.{Sent, Logged, outcome, after, log_of, run, ratio_in, Answered, Defined, is_day_end, ends_day, OneDay}
use Rattle.rules.proofs.Shrinks.{SameStrategy}
use Rattle.rules.proofs.Strategies.{Definition}
use Rattle.rules.proofs.Validity.{clear, given-definition, then-no}
use Rattle.rules.proofs.Laws.{ratio_for}
use Rattle.rules.proofs.Ratios.{given-ratios, Padded, given-padded, same-ratios}
use Rattle.rules.proofs.Lists.{done, Went, refused_as, accepted_as, went, event-fits, next, refused-moved, next-valid, run-append}
use Rattle.rules.proofs.Numbers.{Plain, accept-kin, ends-accepted, outcome-goes, Open}

-- A DEFINITION that is accepted
pub record Gave (b : State) (x : Sent) (e : GivenStrategy) : Type 0 where
  pub definition : Definition (legs_given e) e.count
  pub room : held b (strategy_given e) ≡ false → b.defined < 16
  pub value : (outcome b x).value ≡ number_of b (strategy_given e)
  pub state : next b x ≡ define (strategy_given e) b

gave-accepted : (b : State) (x : Sent) (e : GivenStrategy) → read_of x.frame ≡ Ok (E.Strategy e) → first_cause (causes b (E.Strategy e)) ≡ 0 → outcome b x ≡ done b (E.Strategy e) → Gave b x e
unfolding causes accept value_of strategies_full
gave-accepted b x e p c q =
    let y = clear 5 (ill_formed e) _ (omega arith) c in
    let z = clear 12 (strategies_full b e) _ (omega arith) y.1 in
    record {
      definition = given-definition e (event-fits x (E.Strategy e) p) y.0;
      room = λ h. leb-false 16 b.defined (then-no (held b (strategy_given e)) z.0 h);
      value = ap (λ (o : Outcome). o.value) q;
      state = ap (λ (o : Outcome). o.moved.state) q;
    }

no_answer : (b : State) (x : Sent) (n : ℕ) → (n ≡ 0 → ⊥) → outcome b x ≡ refused n b → (outcome b x).answer ≡ 0 → ⊥
unfolding refused
no_answer b x n h q z = h (sym (ap (λ (o : Outcome). o.answer) q) ∙ z)

pub gave : (b : State) (x : Sent) (e : GivenStrategy) → read_of x.frame ≡ Ok (E.Strategy e) → (outcome b x).answer ≡ 0 → Gave b x e
gave b x e p a = go (went b x)
  where
    go : Went b x → Gave b x e
    go (refused_as n h q) = absurd (no_answer b x n h q a)
    go (accepted_as f r c q) =
        let s : f ≡ E.Strategy e = cc in
        gave-accepted b x e p (subst (λ (v : Event). first_cause (causes b v) ≡ 0) s c) (subst (λ (v : Event). outcome b x ≡ done b v) s q)

-- what it makes of the strategies
define-held : (t : Strategy) (b : State) → held b t ≡ true → define t b ≡ b
unfolding define
define-held t b h = pick_true _ _ _ h

define-new : (t : Strategy) (b : State) → held b t ≡ false → define t b ≡ added t b
unfolding define
define-new t b h = pick-false _ _ _ h

define-count : (t : Strategy) (b : State) → held b t ≡ false → (define t b).defined ≡ b.defined + 1
unfolding added with_strategies with_nets
define-count t b h = ap (λ (c : State). c.defined) (define-new t b h)

define-there : (t : Strategy) (b : State) → held b t ≡ false → b.defined < length b.strategies → strategy_at (define t b) b.defined ≡ t
unfolding added with_strategies with_nets
define-there t b h l = ap (λ (c : State). strategy_at c b.defined) (define-new t b h) ∙ get_or-set_same b.strategies b.defined t no_strategy l

number-new : (t : Strategy) (b : State) → held b t ≡ false → number_of b t ≡ b.defined
unfolding number_of
number-new t b h = let l : b.defined ≤ first_n (same_at b t) b.defined = ltb-false _ _ h in omega (arith, first-le (same_at b t) b.defined)

number-held : (t : Strategy) (b : State) → number_of b t < b.defined → same_legs (strategy_at b (number_of b t)) t ≡ true
unfolding number_of
number-held t b h = first_holds (same_at b t) b.defined h

-- AN EVENT THAT ENDS NO DAY defines none, or the next one
pub record New (b : State) (x : Sent) : Type 0 where
  pub event : GivenStrategy
  pub reading : read_of x.frame ≡ Ok (E.Strategy event)
  pub answer : (outcome b x).answer ≡ 0
  pub value : (outcome b x).value ≡ b.defined
  pub defined : (next b x).defined ≡ b.defined + 1
  pub strategy : strategy_at (next b x) b.defined ≡ strategy_given event
  pub definition : Definition (legs_given event) event.count

new-or : (b : State) (x : Sent) → Valid b → (e : GivenStrategy) → read_of x.frame ≡ Ok (E.Strategy e) → (outcome b x).answer ≡ 0 → ((next b x).defined ≡ b.defined) ⊎ New b x
new-or b x v e p a = go (held b (strategy_given e)) refl
  where
    go : (t : Bool) → held b (strategy_given e) ≡ t → ((next b x).defined ≡ b.defined) ⊎ New b x
    go true h = inl (ap (λ (c : State). c.defined) ((gave b x e p a).state ∙ define-held (strategy_given e) b h))
    go false h = inr (record {
      event = e;
      reading = p;
      answer = a;
      value = (gave b x e p a).value ∙ number-new (strategy_given e) b h;
      defined = ap (λ (c : State). c.defined) (gave b x e p a).state ∙ define-count (strategy_given e) b h;
      strategy = ap (λ (c : State). strategy_at c b.defined) (gave b x e p a).state
          ∙ define-there (strategy_given e) b h (let r : b.defined < 16 = (gave b x e p a).room h in omega (arith, v.sound.strategy_rows));
      definition = (gave b x e p a).definition;
    })

plain-same : (b : State) (x : Sent) (e : Event) → Valid b → outcome b x ≡ done b e → Plain e → (next b x).defined ≡ b.defined
plain-same b x e v q p = ap (λ (o : Outcome). o.moved.state.defined) q ∙ (accept-kin b e v.sound.order_rows p).defined

defines : (b : State) (x : Sent) (e : Event) → Valid b → read_of x.frame ≡ Ok e → outcome b x ≡ done b e → is_day_end (Ok e) ≡ false → ((next b x).defined ≡ b.defined) ⊎ New b x
unfolding is_day_end
defines b x (E.Strategy e) v p q h = new-or b x v e p (ap (λ (o : Outcome). o.answer) q)
defines b x (E.Order e) v p q h = inl (plain-same b x (E.Order e) v q tt)
defines b x (E.Sweep e) v p q h = inl (plain-same b x (E.Sweep e) v q tt)
defines b x (E.LegOrder e) v p q h = inl (plain-same b x (E.LegOrder e) v q tt)
defines b x (E.Cancel e) v p q h = inl (plain-same b x (E.Cancel e) v q tt)
defines b x (E.Series e) v p q h = inl (plain-same b x (E.Series e) v q tt)
defines b x (E.Clock e) v p q h = inl (plain-same b x (E.Clock e) v q tt)
defines b x (E.DayEnd e) v p q h = absurd (let z : ◌≡◌ {A = ℕ} 0 1 = cc in omega arith)
defines b x (E.National e) v p q h = inl (plain-same b x (E.National e) v q tt)
defines b x (E.Range e) v p q h = inl (plain-same b x (E.Range e) v q tt)
defines b x (E.Specialist e) v p q h = inl (plain-same b x (E.Specialist e) v q tt)

pub outcome-defines : (b : State) (x : Sent) → Valid b → ends_day (log_of x (outcome b x)) ≡ false → ((next b x).defined ≡ b.defined) ⊎ New b x
outcome-defines b x v d = go (went b x)
  where
    go : Went b x → ((next b x).defined ≡ b.defined) ⊎ New b x
    go (refused_as n h e) = inl (ap (λ (m : Moved). m.state.defined) (refused-moved b x n e))
    go (accepted_as e p c q) = defines b x e v p q (sym (ends-accepted b x e p q) ∙ d)

-- EACH STRATEGY IS GIVEN BY AN EVENT
defined-later : {k : ℕ} {x : Logged} {log : List Logged} → Defined k log → Defined k (x ∷ log)
defined-later d = record {
  event = d.event;
  answered = record { entry = d.answered.entry; sent = Memᴰ.tail d.answered.sent; reading = d.answered.reading; answer = d.answered.answer; value = d.answered.value };
}

defined-here : (b : State) (x : Sent) (log : List Logged) (k : ℕ) → New b x → k ≡ b.defined → Defined k (log_of x (outcome b x) ∷ log)
defined-here b x log k n e = record {
  event = n.event;
  answered = record { entry = log_of x (outcome b x); sent = Memᴰ.head refl; reading = n.reading; answer = n.answer; value = n.value ∙ sym e };
}

pub defined-by : (b : State) (xs : List Sent) (k : ℕ) → Valid b → Open b xs → b.defined ≤ k → k < (after b xs).defined → Defined k (run b xs)
unfolding run after
defined-by b [] k v o h l = absurd (omega arith)
defined-by b (x ∷ xs) k v o h l =
    ⊎_elim
    (λ (m : k < (next b x).defined). here m (outcome-defines b x v o.0))
    (λ (m : (next b x).defined ≤ k). defined-later (defined-by (next b x) xs k (next-valid b x v) o.1 m l))
    (lt-or-le k (next b x).defined)
  where
    here : k < (next b x).defined → ((next b x).defined ≡ b.defined) ⊎ New b x → Defined k (log_of x (outcome b x) ∷ run (next b x) xs)
    here m (inl e) = absurd (omega arith)
    here m (inr n) = defined-here b x (run (next b x) xs) k n (let d : (next b x).defined ≡ b.defined + 1 = n.defined in omega arith)

defined_more : {k : ℕ} (log more : List Logged) → Defined k log → Defined k (log ++ more)
defined_more log more d = record {
  event = d.event;
  answered = record { entry = d.answered.entry; sent = Memᴰ.append_left more d.answered.sent; reading = d.answered.reading; answer = d.answered.answer; value = d.answered.value };
}

-- RATIOS
-- the legs past the count of each strategy that is defined are empty
pub record Lean (b : State) : Type 0 where
  pub padded : (k : ℕ) → k < b.defined → Padded (strategy_at b k)

padded-same : {s t : Strategy} → SameStrategy s t → Padded s → Padded t
padded-same {s} {t} h p = record {
  count = omega (arith, h.count, p.count);
  past = λ i l. rw h.legs (p.past i (omega (arith, h.count)));
}

lean-next : (b : State) (x : Sent) → Valid b → Lean b → ends_day (log_of x (outcome b x)) ≡ false → Lean (next b x)
lean-next b x v p d = record { padded = λ k l. go k l (outcome-defines b x v d) }
  where
    old : (k : ℕ) → k < b.defined → Padded (strategy_at (next b x) k)
    old k l = padded-same ((outcome-goes b x v d).strategy k l) (p.padded k l)

    go : (k : ℕ) → k < (next b x).defined → ((next b x).defined ≡ b.defined) ⊎ New b x → Padded (strategy_at (next b x) k)
    go k l (inl e) = old k (omega arith)
    go k l (inr n) =
        let m : (next b x).defined ≡ b.defined + 1 = n.defined in
        ⊎_elim
        (λ (h : k < b.defined). old k h)
        (λ (h : b.defined ≤ k). let q : k ≡ b.defined = omega arith in rw (q, n.strategy) (given-padded n.event n.definition))
        (lt-or-le k b.defined)

pub lean-after : (b : State) (xs : List Sent) → Valid b → Lean b → Open b xs → Lean (after b xs)
unfolding after
lean-after b [] v p o = p
lean-after b (x ∷ xs) v p o = lean-after (next b x) xs (next-valid b x v) (lean-next b x v p o.0) o.1

-- LEGS
-- a strategy has the legs that an accepted definition gives
pub record HasLegs (t : Strategy) (e : GivenStrategy) : Type 0 where
  pub same : same_legs t (strategy_given e) ≡ true
  pub definition : Definition (legs_given e) e.count

leg-reflexive : (l : Leg) → same_leg l l ≡ true
unfolding same_leg
leg-reflexive l =
    pick_true (eqb l.series l.series) (pick (eqb l.side l.side) (eqb l.ratio l.ratio) false) false (eq-eqb l.series l.series refl)
    ∙ pick_true (eqb l.side l.side) (eqb l.ratio l.ratio) false (eq-eqb l.side l.side refl)
    ∙ eq-eqb l.ratio l.ratio refl

legs-reflexive : (t : Strategy) → same_legs t t ≡ true
unfolding same_legs
legs-reflexive t = all-every (same_leg_at t t) 6 (λ i l. leg-reflexive (leg_at t i))

has_same : {s t : Strategy} {e : GivenStrategy} → t.legs ≡ s.legs → HasLegs s e → HasLegs t e
unfolding same_legs
has_same q h = record { same = rw q h.same; definition = h.definition }

has-before : {s t : Strategy} {e : GivenStrategy} → t.legs ≡ s.legs → HasLegs t e → HasLegs s e
has-before q h = has_same (sym q) h

-- one that is defined keeps its legs
stays : (b : State) (x : Sent) (k : ℕ) → Valid b → ends_day (log_of x (outcome b x)) ≡ false → k < b.defined → (strategy_at (next b x) k).legs ≡ (strategy_at b k).legs
stays b x k v d h = ((outcome-goes b x v d).strategy k h).legs

stays_all : (b : State) (xs : List Sent) (k : ℕ) → Valid b → Open b xs → k < b.defined → (strategy_at (after b xs) k).legs ≡ (strategy_at b k).legs
unfolding after
stays_all b [] k v o h = refl
stays_all b (x ∷ xs) k v o h =
    stays_all (next b x) xs k (next-valid b x v) o.1 (let g : b.defined ≤ (next b x).defined = (outcome-goes b x v o.0).defined in omega arith) ∙ stays b x k v o.0 h

record After (b : State) (x : Sent) (e : GivenStrategy) (k : ℕ) : Type 0 where
  pub known : k < (next b x).defined
  pub legs : HasLegs (strategy_at (next b x) k) e

-- an event that answered a number: at that event, where the number was defined before, and after it
module _ (b : State) (x : Sent) (e : GivenStrategy) (k : ℕ) (v : Valid b) (g : Gave b x e) (val : (outcome b x).value ≡ k) where
  held-legs : k < b.defined → HasLegs (strategy_at b k) e
  held-legs h =
      let q : number_of b (strategy_given e) ≡ k = sym g.value ∙ val in
      record { same = rw q at (number-held (strategy_given e) b (omega arith)); definition = g.definition }

  next-legs : After b x e k
  next-legs = go (held b (strategy_given e)) refl
    where
      go : (t : Bool) → held b (strategy_given e) ≡ t → After b x e k
      go true h =
          let c : next b x ≡ b = g.state ∙ define-held (strategy_given e) b h in
          let l : k < b.defined = (let m : number_of b (strategy_given e) < b.defined = ltb-true _ _ h in omega (arith, g.value, val)) in
          record { known = omega (arith, ap (λ (d : State). d.defined) c); legs = rw c (held-legs l) }
      go false h =
          let q : k ≡ b.defined = sym val ∙ g.value ∙ number-new (strategy_given e) b h in
          let r : b.defined < 16 = g.room h in
          let z : strategy_at (next b x) k ≡ strategy_given e =
          ap (λ (d : State). strategy_at d k) g.state ∙ ap (λ (j : ℕ). strategy_at (define (strategy_given e) b) j) q
          ∙ define-there (strategy_given e) b h (omega (arith, v.sound.strategy_rows)) in
          record {
            known = omega (arith, ap (λ (d : State). d.defined) g.state, define-count (strategy_given e) b h);
            legs = record { same = rw z (legs-reflexive (strategy_given e)); definition = g.definition };
          }

-- the event that answered is the first of the list, or a later one
record Here (e : GivenStrategy) (k : ℕ) (x : Logged) : Type 0 where
  pub reading : x.reading ≡ Ok (E.Strategy e)
  pub answer : x.answer ≡ 0
  pub value : x.value ≡ k

answered-split : (e : GivenStrategy) (k : ℕ) (x : Logged) (log : List Logged) → Answered e k (x ∷ log) → Here e k x ⊎ Answered e k log
answered-split e k x log a = ⊎_elim here there (Memᴰ.cases_cons a.sent)
  where
    here : a.entry ≡ x → Here e k x ⊎ Answered e k log
    here q = inl (record {
      reading = ap (λ (y : Logged). y.reading) (sym q) ∙ a.reading;
      answer = ap (λ (y : Logged). y.answer) (sym q) ∙ a.answer;
      value = ap (λ (y : Logged). y.value) (sym q) ∙ a.value;
    })

    there : Memᴰ a.entry log → Here e k x ⊎ Answered e k log
    there m = inr (record { entry = a.entry; sent = m; reading = a.reading; answer = a.answer; value = a.value })

here-gave : (b : State) (x : Sent) (e : GivenStrategy) (k : ℕ) → Here e k (log_of x (outcome b x)) → Gave b x e
here-gave b x e k h = gave b x e h.reading h.answer

-- where a strategy is defined, a later event that answers its number gives its legs
later-legs : (b : State) (xs : List Sent) (e : GivenStrategy) (k : ℕ) → Valid b → OneDay (run b xs) → Answered e k (run b xs) → k < b.defined → HasLegs (strategy_at b k) e
unfolding run
later-legs b [] e k v d a h = absurd (Memᴰ.not-nil a.sent)
later-legs b (x ∷ []) e k v d a h =
    ⊎_elim
    (λ (i : Here e k (log_of x (outcome b x))). held-legs b x e k v (here-gave b x e k i) i.value h)
    (λ (i : Answered e k []). absurd (Memᴰ.not-nil i.sent))
    (answered-split e k (log_of x (outcome b x)) [] a)
later-legs b (x ∷ (y ∷ ys)) e k v d a h =
    ⊎_elim
    (λ (i : Here e k (log_of x (outcome b x))). held-legs b x e k v (here-gave b x e k i) i.value h)
    (λ (i : Answered e k (run (next b x) (y ∷ ys))).
    has-before (stays b x k v d.0 h)
    (later-legs (next b x) (y ∷ ys) e k (next-valid b x v) d.1 i (let g : b.defined ≤ (next b x).defined = (outcome-goes b x v d.0).defined in omega arith)))
    (answered-split e k (log_of x (outcome b x)) (run (next b x) (y ∷ ys)) a)

-- and so at every state of the day
pub settled-legs : (b : State) (ys zs : List Sent) (e : GivenStrategy) (k : ℕ) → Valid b → Open b ys → OneDay (run (after b ys) zs) → Answered e k (run b (ys ++ zs)) → k < (after b ys).defined →
    HasLegs (strategy_at (after b ys) k) e
unfolding run after
settled-legs b [] zs e k v o d a h = later-legs b zs e k v d a h
settled-legs b (x ∷ ys) zs e k v o d a h =
    ⊎_elim
    (λ (i : Here e k (log_of x (outcome b x))).
    let f : After b x e k = next-legs b x e k v (here-gave b x e k i) i.value in
    has_same (stays_all (next b x) ys k (next-valid b x v) o.1 f.known) f.legs)
    (λ (i : Answered e k (run (next b x) (ys ++ zs))). settled-legs (next b x) ys zs e k (next-valid b x v) o.1 d i h)
    (answered-split e k (log_of x (outcome b x)) (run (next b x) (ys ++ zs)) a)

-- their ratios too
pub settled-ratio : (b : State) (ys zs : List Sent) (e : GivenStrategy) (k s : ℕ) → Valid b → Lean b → Open b ys → OneDay (run (after b ys) zs) → Answered e k (run b (ys ++ zs)) → k < (after b ys).defined →
    ratio_for (strategy_at (after b ys) k) s ≡ ratio_in e s
settled-ratio b ys zs e k s v p o d a h =
    let l : HasLegs (strategy_at (after b ys) k) e = settled-legs b ys zs e k v o d a h in
    same-ratios (strategy_at (after b ys) k) (strategy_given e) ((lean-after b ys v p o).padded k h) (given-padded e l.definition) l.same s ∙ given-ratios e l.definition s

-- from a fresh state on
no-strategy : (timer : ℕ) → (fresh timer).defined ≡ 0
unfolding fresh
no-strategy timer = refl

pub lean-fresh : (timer : ℕ) → Lean (fresh timer)
lean-fresh timer = record { padded = λ k h. absurd (omega (arith, no-strategy timer)) }

pub strategy-given : (timer : ℕ) (ys zs : List Sent) (k : ℕ) → Valid (fresh timer) → Open (fresh timer) ys → k < (after (fresh timer) ys).defined → Defined k (run (fresh timer) (ys ++ zs))
strategy-given timer ys zs k v o h =
    rw (run-append (fresh timer) ys zs) (defined_more (run (fresh timer) ys) _ (defined-by (fresh timer) ys k v o (omega (arith, no-strategy timer)) h))
