-- Laws by cases on the kinds: events and rows, kinds and numbers.
use Rattle.std.specs.Prelude.{◌≡◌, ℕ, ◌+◌, ◌%◌, ◌^◌, ◌<◌, ◌≤◌, List, length, replicate, ◌==◌, ◌≢◌, refl, Result, Ok, Err}
use Rattle.std.proofs.Common.{sym, ap, ◌∙◌, arith, eqb-true}
use Rattle.base.specs.Pick.{pick, pick-by, pick_all}
use Rattle.events.specs.Fields.{high, bias, raw_of}
use Rattle.events.specs.Kinds.{kind_of, known_or, kind_or_unknown, code_of, length_of}
use Rattle.events.specs.Rows.{kind_in, row_of, event_of, of_kind, reading_number}
use Rattle.events.specs.Laws.{Sound}
use Rattle.events.specs.declared.Refusal.{Refusal}
use Rattle.events.specs.declared.Refusal.TheVariants as F
use Rattle.events.specs.declared.Field.{Field}
use Rattle.events.specs.declared.Kind.{Kind}
use Rattle.events.specs.declared.Kind.TheVariants as K
use Rattle.events.specs.declared.Event.{Event}
use Rattle.events.specs.declared.Event.TheVariants as E

pub event-row : (e : Event) → event_of (kind_in e) (row_of e) ≡ Ok e
event-row (E.Strategy e) = refl
event-row (E.Order e) = refl
event-row (E.Sweep e) = refl
event-row (E.LegOrder e) = refl
event-row (E.Cancel e) = refl
event-row (E.Series e) = refl
event-row (E.Clock e) = refl
event-row (E.DayEnd e) = refl
event-row (E.National e) = refl
event-row (E.Range e) = refl
event-row (E.Specialist e) = refl

pub length-row-of : (e : Event) → length (row_of e) ≡ 19
length-row-of (E.Strategy e) = refl
length-row-of (E.Order e) = refl
length-row-of (E.Sweep e) = refl
length-row-of (E.LegOrder e) = refl
length-row-of (E.Cancel e) = refl
length-row-of (E.Series e) = refl
length-row-of (E.Clock e) = refl
length-row-of (E.DayEnd e) = refl
length-row-of (E.National e) = refl
length-row-of (E.Range e) = refl
length-row-of (E.Specialist e) = refl

pub kind-code : (e : Event) → kind_of (code_of (kind_in e)) ≡ Ok (kind_in e)
unfolding kind_of pick
kind-code (E.Strategy e) = refl
kind-code (E.Order e) = refl
kind-code (E.Sweep e) = refl
kind-code (E.LegOrder e) = refl
kind-code (E.Cancel e) = refl
kind-code (E.Series e) = refl
kind-code (E.Clock e) = refl
kind-code (E.DayEnd e) = refl
kind-code (E.National e) = refl
kind-code (E.Range e) = refl
kind-code (E.Specialist e) = refl

pub code_lt : (k : Kind) → code_of k < 256 ^ 2
code_lt K.Strategy = omega arith
code_lt K.Order = omega arith
code_lt K.Sweep = omega arith
code_lt K.LegOrder = omega arith
code_lt K.Cancel = omega arith
code_lt K.Series = omega arith
code_lt K.Clock = omega arith
code_lt K.DayEnd = omega arith
code_lt K.National = omega arith
code_lt K.Range = omega arith
code_lt K.Specialist = omega arith
code_lt K.Unknown = omega arith

-- the kind of what was read, the unknown one where it was refused
abbrev pub kind_read : Result Event Refusal → Kind
kind_read (Ok e) = kind_in e
kind_read (Err r) = K.Unknown

-- and its row, of zeros where it was refused
abbrev pub row_read : Result Event Refusal → List ℕ
row_read (Ok e) = row_of e
row_read (Err r) = replicate 19 0

pub kind-back : (k : Kind) (v : List ℕ) → kind_read (event_of k v) ≡ k
kind-back K.Strategy v = refl
kind-back K.Order v = refl
kind-back K.Sweep v = refl
kind-back K.LegOrder v = refl
kind-back K.Cancel v = refl
kind-back K.Series v = refl
kind-back K.Clock v = refl
kind-back K.DayEnd v = refl
kind-back K.National v = refl
kind-back K.Range v = refl
kind-back K.Specialist v = refl
kind-back K.Unknown v = refl

-- an event that a kind gives is of that kind
pub kind-made : (k : Kind) (v : List ℕ) {e : Event} → event_of k v ≡ Ok e → kind_in e ≡ k
kind-made k v h = ap kind_read (sym h) ∙ kind-back k v

pub answer-event : (k : Kind) (v : List ℕ) (n : ℕ) → 4 ≤ length_of k n → reading_number (event_of k v) ≡ 0
unfolding length_of pick
answer-event K.Strategy v n h = refl
answer-event K.Order v n h = refl
answer-event K.Sweep v n h = refl
answer-event K.LegOrder v n h = refl
answer-event K.Cancel v n h = refl
answer-event K.Series v n h = refl
answer-event K.Clock v n h = refl
answer-event K.DayEnd v n h = refl
answer-event K.National v n h = refl
answer-event K.Range v n h = refl
answer-event K.Specialist v n h = refl
answer-event K.Unknown v n h = absurd (omega arith)

-- no frame is as long as the unknown kind
pub unknown-zero : (n : ℕ) → length_of K.Unknown n ≡ 0
unfolding length_of pick
unknown-zero n = refl

-- a known kind gives an event
pub known-event : (k : Kind) (v : List ℕ) → (k ≢ K.Unknown) → (e : Event) × (event_of k v ≡ Ok e)
known-event K.Strategy v u = (_, refl)
known-event K.Order v u = (_, refl)
known-event K.Sweep v u = (_, refl)
known-event K.LegOrder v u = (_, refl)
known-event K.Cancel v u = (_, refl)
known-event K.Series v u = (_, refl)
known-event K.Clock v u = (_, refl)
known-event K.DayEnd v u = (_, refl)
known-event K.National v u = (_, refl)
known-event K.Range v u = (_, refl)
known-event K.Specialist v u = (_, refl)
known-event K.Unknown v u = absurd (u refl)

-- so does one that a frame can have
pub event-is : (k : Kind) (v : List ℕ) (n : ℕ) → 4 ≤ length_of k n → (e : Event) × (event_of k v ≡ Ok e)
event-is k v n h = known-event k v (λ u. let l : 4 ≤ length_of K.Unknown n = rw u at h in omega (arith, l, unknown-zero n))

-- only the unknown kind is refused, 2
pub event-refused : (k : Kind) (v : List ℕ) {r : Refusal} → event_of k v ≡ Err r → (k ≡ K.Unknown) × (r ≡ F.BadFrame)
event-refused K.Strategy v h = absurd (let z : ◌≡◌ {A = ℕ} 0 1 = cc in omega arith)
event-refused K.Order v h = absurd (let z : ◌≡◌ {A = ℕ} 0 1 = cc in omega arith)
event-refused K.Sweep v h = absurd (let z : ◌≡◌ {A = ℕ} 0 1 = cc in omega arith)
event-refused K.LegOrder v h = absurd (let z : ◌≡◌ {A = ℕ} 0 1 = cc in omega arith)
event-refused K.Cancel v h = absurd (let z : ◌≡◌ {A = ℕ} 0 1 = cc in omega arith)
event-refused K.Series v h = absurd (let z : ◌≡◌ {A = ℕ} 0 1 = cc in omega arith)
event-refused K.Clock v h = absurd (let z : ◌≡◌ {A = ℕ} 0 1 = cc in omega arith)
event-refused K.DayEnd v h = absurd (let z : ◌≡◌ {A = ℕ} 0 1 = cc in omega arith)
event-refused K.National v h = absurd (let z : ◌≡◌ {A = ℕ} 0 1 = cc in omega arith)
event-refused K.Range v h = absurd (let z : ◌≡◌ {A = ℕ} 0 1 = cc in omega arith)
event-refused K.Specialist v h = absurd (let z : ◌≡◌ {A = ℕ} 0 1 = cc in omega arith)
event-refused K.Unknown v h = (refl, cc)

-- a number that is a kind's is its code
pub code-kind : (x : ℕ) {k : Kind} → kind_of x ≡ Ok k → code_of k ≡ x
unfolding kind_of
code-kind x {k} =
    let P : Result Kind Refusal → Type 0 = λ (r : Result Kind Refusal). r ≡ Ok k → code_of k ≡ x in
    pick-by P (x == 1) (λ t e. is K.Strategy e (sym (eqb-true x 1 t)))
    (λ _. pick-by P (x == 2) (λ t e. is K.Order e (sym (eqb-true x 2 t)))
    (λ _. pick-by P (x == 3) (λ t e. is K.Sweep e (sym (eqb-true x 3 t)))
    (λ _. pick-by P (x == 4) (λ t e. is K.LegOrder e (sym (eqb-true x 4 t)))
    (λ _. pick-by P (x == 5) (λ t e. is K.Cancel e (sym (eqb-true x 5 t)))
    (λ _. pick-by P (x == 6) (λ t e. is K.Series e (sym (eqb-true x 6 t)))
    (λ _. pick-by P (x == 7) (λ t e. is K.Clock e (sym (eqb-true x 7 t)))
    (λ _. pick-by P (x == 8) (λ t e. is K.DayEnd e (sym (eqb-true x 8 t)))
    (λ _. pick-by P (x == 9) (λ t e. is K.National e (sym (eqb-true x 9 t)))
    (λ _. pick-by P (x == 10) (λ t e. is K.Range e (sym (eqb-true x 10 t)))
    (λ _. pick-by P (x == 11) (λ t e. is K.Specialist e (sym (eqb-true x 11 t)))
    (λ _ e. no e)))))))))))
  where
    is : (j : Kind) {k : Kind} → ◌≡◌ {A = Result Kind Refusal} (Ok j) (Ok k) → code_of j ≡ x → code_of k ≡ x
    is j {k} e h = let z : j ≡ k = cc in rw (← z) h

    no : {k : Kind} → ◌≡◌ {A = Result Kind Refusal} (Err F.BadFrame) (Ok k) → code_of k ≡ x
    no e = absurd (let z : ◌≡◌ {A = ℕ} 0 1 = cc in omega arith)

-- and no number's kind is the unknown one
pub kind-known : (x : ℕ) {k : Kind} → kind_of x ≡ Ok k → k ≢ K.Unknown
unfolding kind_of pick
kind-known x {k} q u =
    let z : 0 ≡ x = ap code_of (sym u) ∙ code-kind x q in
    let p : kind_of 0 ≡ Ok k = rw (← z) at q in
    absurd (let w : ◌≡◌ {A = ℕ} 0 1 = cc in omega arith)

-- nor an event's
pub event-known : (e : Event) → kind_in e ≢ K.Unknown
event-known e = kind-known _ (kind-code e)

-- a number of no kind is refused 2
pub kind-refused : (x : ℕ) {r : Refusal} → kind_of x ≡ Err r → r ≡ F.BadFrame
unfolding kind_of
kind-refused x {r} =
    let P : Result Kind Refusal → Type 0 = λ (s : Result Kind Refusal). s ≡ Err r → r ≡ F.BadFrame in
    pick_all P (x == 1) (no K.Strategy)
    (pick_all P (x == 2) (no K.Order)
    (pick_all P (x == 3) (no K.Sweep)
    (pick_all P (x == 4) (no K.LegOrder)
    (pick_all P (x == 5) (no K.Cancel)
    (pick_all P (x == 6) (no K.Series)
    (pick_all P (x == 7) (no K.Clock)
    (pick_all P (x == 8) (no K.DayEnd)
    (pick_all P (x == 9) (no K.National)
    (pick_all P (x == 10) (no K.Range)
    (pick_all P (x == 11) (no K.Specialist)
    (λ e. cc)))))))))))
  where
    no : (j : Kind) {r : Refusal} → ◌≡◌ {A = Result Kind Refusal} (Ok j) (Err r) → r ≡ F.BadFrame
    no j e = absurd (let z : ◌≡◌ {A = ℕ} 0 1 = cc in omega arith)

-- each kind is that of its code, the unknown one too
pub code-round : (k : Kind) → kind_or_unknown (code_of k) ≡ k
unfolding kind_of pick
code-round K.Strategy = refl
code-round K.Order = refl
code-round K.Sweep = refl
code-round K.LegOrder = refl
code-round K.Cancel = refl
code-round K.Series = refl
code-round K.Clock = refl
code-round K.DayEnd = refl
code-round K.National = refl
code-round K.Range = refl
code-round K.Specialist = refl
code-round K.Unknown = refl

pub event-code : (e : Event) → kind_or_unknown (code_of (kind_in e)) ≡ kind_in e
event-code e = code-round (kind_in e)

-- a number that a frame can have for its kind is that kind's code
pub code-known : (x n : ℕ) → 4 ≤ length_of (kind_or_unknown x) n → code_of (kind_or_unknown x) ≡ x
code-known x n = by (kind_of x) refl
  where
    by : (r : Result Kind Refusal) → kind_of x ≡ r → 4 ≤ length_of (known_or r) n → code_of (known_or r) ≡ x
    by (Ok k) q h = code-kind x q
    by (Err r) q h = absurd (omega (arith, h, unknown-zero n))

-- the unknown kind gives what a number of no kind does
pub of-unknown : (x : ℕ) (v : List ℕ) → of_kind (kind_of x) (λ k. event_of k v) ≡ event_of (kind_or_unknown x) v
of-unknown x v = by (kind_of x) refl
  where
    by : (r : Result Kind Refusal) → kind_of x ≡ r → of_kind r (λ k. event_of k v) ≡ event_of (known_or r) v
    by (Ok k) q = refl
    by (Err r) q = ap Err (kind-refused x q)

-- A value and its number in the frame.

pub value-raw : (x : Field) (v : ℕ) → Sound x → v ≤ high x → (raw_of x v + bias x) % 2 ^ 32 ≡ v
unfolding raw_of
value-raw x v s h = omega (arith, s.bias-lt, s.high_lt)

pub raw-value : (x : Field) (r : ℕ) → Sound x → r < 2 ^ 32 → raw_of x ((r + bias x) % 2 ^ 32) ≡ r
unfolding raw_of
raw-value x r s h = omega (arith, s.bias-lt)
