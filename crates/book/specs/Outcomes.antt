-- The outcome of an event by what the code has found, and what it hands back.
use Rattle.std.specs.Prelude.{◌≡◌, refl, List, [], ℕ, ◌≤◌, ◌<◌, ℤ, Result, Ok, Err}
use Rattle.std.proofs.Common.{ap, sym, subst, ◌∙◌, arith, eq-eqb, ne_eqb, lt-ltb, le-ltb}
use Rattle.std.specs.Result.{IsErrAnd}
use Rattle.std.proofs.lemmas.Result.{err_from_is_err_and}
use Rattle.std.proofs.Math.ListN.{length}
use Rattle.base.specs.Pick.{pick, pick_true, pick-false}
use Rattle.events.specs.declared.Event.{Event}
use Rattle.events.specs.Refusals.{refusal_number, refusal-some}
use Rattle.events.specs.declared.Refusal.{Refusal}
use Rattle.events.specs.declared.Refusal.TheVariants as F
use Rattle.frames.specs.Frames.{read_of}
use Rattle.rules.specs.declared.State.{State}
use Rattle.rules.specs.declared.Accepted.{Accepted}
use Rattle.rules.specs.Refusals.{first_cause, causes, read_causes, table_of, refusal}
use Rattle.rules.specs.Step.{Outcome, value_of, accept, refused, perform, refuse_or_perform, step, answer_number, answer_value, answer_count}
use Rattle.rules.specs.Moves.{Moved, still}
use Rattle.rules.specs.Fits.{FitReading, FitEvent}
use Rattle.rules.specs.Valid.{Valid}
use Rattle.rules.proofs.Validity.{decide-valid}
use Rattle.rules.proofs.Ranges.{reading-fit}
use Rattle.rules.proofs.Room.{accept-few, six-sound}
use Rattle.records.specs.Space.{Room, laid, numbers, length-laid}
use Rattle.records.specs.Done.{Done, room_of}
use Rattle.records.specs.declared.Records.{Records}
use Rattle.rules.proofs.Answers.{answer-none, answer-some}
use Rattle.book.specs.Books.{Handed, Took, Stepped}
use Rattle.book.specs.Small.{accept-small}

-- in a space of that length the causes are the event's own
refusal-event : (b : State) (e : Event) (space : ℕ) → 15_360 ≤ space → refusal b (Ok e) space ≡ first_cause (causes b e)
unfolding refusal table_of read_causes first_cause
refusal-event b e space h = pick-false _ _ _ (le-ltb space 15_360 h)

pub refusal-short : (b : State) (r : Result Event Refusal) (space : ℕ) → space < 15_360 → refusal b r space ≡ 1
unfolding refusal table_of first_cause
refusal-short b r space h = pick_true _ _ _ (lt-ltb space 15_360 h)

refusal-read : (b : State) (f : Refusal) (space : ℕ) → 15_360 ≤ space → refusal b (Err f) space ≡ refusal_number f
unfolding refusal table_of read_causes first_cause pick
refusal-read b f space h = rw (le-ltb space 15_360 h)

-- no records
pub laid-nil : (s : List ℤ) → s ≡ laid s 0 []
unfolding laid numbers
laid-nil s = refl

-- refused: the book and the space are as they were
handed-refused : (b : State) (r : Result Event Refusal) (s : List ℤ) {f : Refusal} → refusal_number f ≡ refusal b r (length s) → Handed (refuse_or_perform b r (length s)) s s b (Err f)
unfolding refuse_or_perform refused answer_number answer_value answer_count
handed-refused b r s {f} e =
    let n = refusal-some f in
    let o : refuse_or_perform b r (length s) ≡ refused (refusal_number f) b = rw (← e) (pick-false _ _ _ (ne_eqb (refusal_number f) 0 (λ z. omega arith))) in
    rw o
    (record {
      answer = sym (answer-some (refused (refusal_number f) b) f refl);
      number = refl;
      value = refl;
      count = refl;
      state = refl;
      space = laid-nil s;
      few = omega arith;
      same = refl;
    })

-- an event that nothing refuses is performed, and its rule y leads to a valid state
event-performed : (b : State) (e : Event) (space : ℕ) → 15_360 ≤ space → 0 ≡ first_cause (causes b e) → refuse_or_perform b (Ok e) space ≡ perform b (Ok e)
unfolding refuse_or_perform
event-performed b e space h c = pick_true _ _ _ (eq-eqb _ 0 (refusal-event b e space h ∙ sym c))

pub rule-valid : (b : State) (e : Event) → Valid b → FitEvent e → 0 ≡ first_cause (causes b e) → {y : Moved} → accept b e ≡ y → Valid y.state
unfolding perform
rule-valid b e v f c a =
    let p : refuse_or_perform b (Ok e) 15_360 ≡ perform b (Ok e) = event-performed b e 15_360 (omega arith) c in
    rw (← a) (subst (λ (y : Outcome). Valid y.moved.state) p (decide-valid b (Ok e) 15_360 v f))

-- an event with what its function asks: a valid book, numbers that fit, and the space
module _ (b : State) (e : Event) (s : List ℤ) (q : Valid b × FitEvent e × (15_360 ≤ length s)) where
  pub took-refused : {f : Refusal} → refusal_number f ≡ first_cause (causes b e) → Took b e s s b (Err f)
  took-refused c = handed-refused b (Ok e) s (c ∙ sym (refusal-event b e (length s) q.2))

  -- .. at the exit of a `?`
  pub took-exit : (f : Refusal) {x : Result Accepted Refusal} → IsErrAnd x (λ (r : Refusal). r ≡ f) → refusal_number f ≡ first_cause (causes b e) → Took b e s s b x
  took-exit f {x} h c = let p = err_from_is_err_and x h in rw (p.1, p.2) (took-refused c)

  -- one that nothing refuses: room for its records, and what it leaves after its rule y
  module _ (c : 0 ≡ first_cause (causes b e)) {y : Moved} (a : accept b e ≡ y) where
    pub room-event : {r : Records} → r.count ≡ 0 → r.space.now ≡ s → Room r y.records
    room-event z l =
        room_of a (record { count = omega (arith, z, accept-few b e (six-sound b q.0.sound)); space = omega (arith, q.2, ap length l); small = accept-small b e q.0 q.1 (sym c) })

    performed : refuse_or_perform b (Ok e) (length s) ≡ perform b (Ok e)
    performed = event-performed b e (length s) q.2 c

    -- by the state, the value and the records that the code has
    pub took : {t : List ℤ} {m value : ℕ} {d : State} → d ≡ y.state → m ≡ length y.records → t ≡ laid s 0 y.records → value ≡ value_of b e → Took b e s t d (Ok (record { value = value; records = m }))
    unfolding perform answer_number answer_value answer_count
    took {t} {m} {value} {d} g k l i =
        let n : m ≡ length (accept b e).records = rw a k in
        rw performed
        (record {
          answer = rw (i, n) (sym (answer-none (perform b (Ok e)) refl));
          number = refl;
          value = i;
          count = n;
          state = rw a g;
          space = rw a l;
          few = omega (arith, n, accept-few b e (six-sound b q.0.sound));
          same = ap length l ∙ length-laid s 0 y.records;
        })

    -- a rule without records
    pub took-still : {d : State} {value : ℕ} → y ≡ still d → value ≡ value_of b e → Took b e s s d (Ok (record { value = value; records = 0 }))
    took-still {d} h i = took (ap (λ (x : Moved). x.state) (sym h)) (ap (λ (x : Moved). length x.records) (sym h)) (rw h (laid-nil s)) i

    module _ {r₀ r₁ : Records} {d : State} (w : Done r₀ r₁ d y) where
      pub took-valid : Valid d
      took-valid = rw w.state (rule-valid b e q.0 q.1 c a)

      pub took-done : r₀.count ≡ 0 → r₀.space.now ≡ s → {value : ℕ} → value ≡ value_of b e → Took b e s r₁.space.now d (Ok (record { value = value; records = r₁.count }))
      took-done z l i = took w.state (omega (arith, w.wrote.count, z)) (rw (← z, ← l) w.wrote.space) i

-- the entry: a short space, a frame that carries no event, and one that does
pub stepped-short : (b : State) (f : List ℕ) (s : List ℤ) → length s < 15_360 → Stepped b f s s b (Err F.ShortSpace)
unfolding step
stepped-short b f s h = handed-refused b (read_of f) s (sym (refusal-short b (read_of f) (length s) h))

stepped-refused : (b : State) (f : List ℕ) (s : List ℤ) → 15_360 ≤ length s → {r : Refusal} → ◌≡◌ {A = Result Event Refusal} (Err r) (read_of f) → Stepped b f s s b (Err r)
unfolding step
stepped-refused b f s h {r} e = rw (← e) (handed-refused b (Err r) s (sym (refusal-read b r (length s) h)))

-- .. at the exit of a `?`
pub stepped-exit : (b : State) (f : List ℕ) (s : List ℤ) → 15_360 ≤ length s → (r : Refusal) {x : Result Accepted Refusal} → IsErrAnd x (λ (y : Refusal). y ≡ r) → ◌≡◌ {A = Result Event Refusal} (Err r) (read_of f) → Stepped b f s s b x
stepped-exit b f s l r {x} h e = let p = err_from_is_err_and x h in rw (p.1, p.2) (stepped-refused b f s l e)

-- an event e of the frame f, by the kind k that the code has found
module _ (f : List ℕ) {e k : Event} (g : ◌≡◌ {A = Result Event Refusal} (Ok e) (read_of f)) (h : e ≡ k) where
  pub stepped : (b : State) (s : List ℤ) {t : List ℤ} {c : State} {x : Result Accepted Refusal} → Took b k s t c x → Stepped b f s t c x
  unfolding step
  stepped b s w = rw (← g, h) w

  pub event-fits : FitEvent k
  event-fits = subst FitEvent h (subst FitReading (sym g) (reading-fit f))
