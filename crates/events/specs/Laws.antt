-- Laws of the table.
use Rattle.std.specs.Prelude.{◌≡◌, ℕ, zero, suc, ◌+◌, ◌-◌, ◌*◌, ◌%◌, ◌^◌, ◌<◌, ◌≤◌, Bool, true, false, List, [], ◌∷◌, get_or, drop, replicate, ◌==◌, ◌≢◌, nat_le, nat_lt, slice_index, slice_index_or, refl}
use Rattle.std.proofs.Common.{sym, ◌∙◌, ap, ltb-true, ltb-false, leb-true, eqb-true, lt-ltb, le-ltb, get_or-drop}
use Rattle.std.proofs.Math.Nat.{pow-le-pow_right}
use native.Mathlib.Omega.{arith}
use Rattle.base.specs.Pick.{pick, pick_all, pick-by, pick_yes, pick_true, pick-false}
use Rattle.events.specs.Fields.{width, high, bias, none, raw_of, layout, present_of, offset, fit_n, fit_at_lem, Narrow}
use Rattle.events.specs.Kinds.{length_of}
use Rattle.events.specs.Table.{count, fields_of, layout_of}
use Rattle.events.specs.Rows.{kind_in, row_of, layout_in, fitting, length_in}
use Rattle.events.specs.declared.Field.{Field}
use Rattle.events.specs.declared.Kind.{Kind}
use Rattle.events.specs.declared.Kind.TheVariants as K
use Rattle.events.specs.declared.Event.{Event}
use Rattle.events.specs.declared.Event.TheVariants as E

-- a field is at most four bytes wide, its greatest value fits them, and only a field of four bytes has a bias
unfoldable pub sound : Field → Bool
sound x = pick (nat_le (width x) 4) (pick (nat_lt (bias x) (2 ^ 32)) (pick (width x == 4) (nat_lt (high x) (2 ^ 32)) (pick (bias x == 0) (nat_lt (high x) (256 ^ width x)) false)) false) false

all_sound : List Field → Bool
all_sound [] = true
all_sound (x ∷ xs) = pick (sound x) (all_sound xs) false

sound-at : (fs : List Field) → all_sound fs ≡ true → (i : ℕ) → sound (slice_index_or fs i none) ≡ true
unfolding sound pick all_sound
sound-at [] e i = refl
sound-at (x ∷ xs) e zero = (pick_yes (sound x) e).0
sound-at (x ∷ xs) e (suc i) = sound-at xs (pick_yes (sound x) e).1 i

sound-table : (k : Kind) → all_sound (fields_of k) ≡ true
unfolding sound pick all_sound
sound-table K.Strategy = refl
sound-table K.Order = refl
sound-table K.Sweep = refl
sound-table K.LegOrder = refl
sound-table K.Cancel = refl
sound-table K.Series = refl
sound-table K.Clock = refl
sound-table K.DayEnd = refl
sound-table K.National = refl
sound-table K.Range = refl
sound-table K.Specialist = refl
sound-table K.Unknown = refl

thinb : List Field → Bool
thinb [] = true
thinb (x ∷ xs) = pick (nat_le (width x) 1) (thinb xs) false

thin_at : (fs : List Field) → thinb fs ≡ true → (i : ℕ) → width (slice_index_or fs i none) ≤ 1
unfolding pick thinb
thin_at [] e i = omega arith
thin_at (x ∷ xs) e zero = leb-true _ _ (pick_yes (nat_le (width x) 1) e).0
thin_at (x ∷ xs) e (suc i) = thin_at xs (pick_yes (nat_le (width x) 1) e).1 i

raw-lt : (x : Field) (v : ℕ) → raw_of x v < 2 ^ 32
unfolding raw_of
raw-lt x v = omega arith

raw-plain : (x : Field) (v : ℕ) → bias x ≡ 0 → v < 2 ^ 32 → high x < 256 ^ width x → v ≤ high x → raw_of x v < 256 ^ width x
unfolding raw_of
raw-plain x v e l h u = let z : (v + (2 ^ 32 - bias x)) % 2 ^ 32 ≡ v = omega arith in omega arith

-- each field of a frame is sound
pub field-sound : (k : Kind) (n i : ℕ) → sound (layout_of k n i) ≡ true
unfolding layout_of layout present_of all_sound
field-sound k n i =
    let P : Field → Type 0 = λ (x : Field). sound x ≡ true in
    pick_all P _ (sound-at (fields_of k) (sound-table k) i) (sound-at [] refl i)

pub record Sound (x : Field) : Type 0 where
  pub narrow : width x ≤ 4
  pub bias-lt : bias x < 2 ^ 32
  pub high_lt : high x < 2 ^ 32
  pub raw-fits : (v : ℕ) → v ≤ high x → raw_of x v < 256 ^ width x

pub sound-is : (x : Field) → sound x ≡ true → Sound x
unfolding sound raw_of
sound-is x e =
    let a = pick_yes (nat_le (width x) 4) e in
    let b = pick_yes (nat_lt (bias x) (2 ^ 32)) a.1 in
    let w : width x ≤ 4 = leb-true _ _ a.0 in
    let s : bias x < 2 ^ 32 = ltb-true _ _ b.0 in
    let P : Bool → Type 0 = λ (t : Bool). t ≡ true → Sound x in
    pick-by P (width x == 4)
    (λ four h. record { narrow = w; bias-lt = s; high_lt = ltb-true _ _ h; raw-fits = λ v u. raw-four x v (eqb-true _ _ four) })
    (λ _ h.
    let c = pick_yes (bias x == 0) h in
    let z : bias x ≡ 0 = eqb-true _ _ c.0 in
    let t : high x < 256 ^ width x = ltb-true _ _ c.1 in
    let p : 256 ^ width x ≤ 256 ^ 4 = pow-le-pow_right (omega arith) w in
    record { narrow = w; bias-lt = s; high_lt = omega arith; raw-fits = λ v u. raw-plain x v z (omega arith) t u })
    b.1
  where
    raw-four : (x : Field) (v : ℕ) → width x ≡ 4 → raw_of x v < 256 ^ width x
    raw-four x v e = rw e (raw-lt x v)

pub field_is : (k : Kind) (n i : ℕ) → Sound (layout_of k n i)
field_is k n i = sound-is _ (field-sound k n i)

pub narrow : (k : Kind) (n : ℕ) → Narrow (layout_of k n)
narrow k n = record { narrow = λ i. (field_is k n i).narrow }

-- the ends of the fields
thin : (i : ℕ) → width (slice_index_or (fields_of K.Strategy) i none) ≤ 1
unfolding pick thinb
thin i = thin_at (fields_of K.Strategy) refl i

-- fields of one byte, of which m are there, end by m
offset-thin : (fs : List Field) (m : ℕ) → ((i : ℕ) → width (slice_index_or fs i none) ≤ 1) → (k : ℕ) → (offset (layout fs m) k ≤ 4 + k) × (offset (layout fs m) k ≤ 4 + m)
unfolding offset layout present_of
offset-thin fs m h zero = (omega arith, omega arith)
offset-thin fs m h (suc k) =
    let b = offset-thin fs m h k in
    let P : Field → Type 0 = λ (x : Field). (offset (layout fs m) k + width x ≤ 4 + suc k) × (offset (layout fs m) k + width x ≤ 4 + m) in
    pick-by P (nat_lt k m)
    (λ t. (omega (arith, b.0, h k), omega (arith, b.0, h k, ltb-true k m t)))
    (λ t. (omega (arith, b.0), omega (arith, b.1)))

pub offset-fits : (k : Kind) (n : ℕ) → 4 ≤ length_of k n → offset (layout_of k n) 19 ≤ length_of k n
unfolding offset layout_of layout present_of length_of pick
offset-fits K.Strategy n h = omega (arith, (offset-thin (fields_of K.Strategy) (5 + 3 * n - 4) thin 19).1)
offset-fits K.Order n h = omega arith
offset-fits K.Sweep n h = omega arith
offset-fits K.LegOrder n h = omega arith
offset-fits K.Cancel n h = omega arith
offset-fits K.Series n h = omega arith
offset-fits K.Clock n h = omega arith
offset-fits K.DayEnd n h = omega arith
offset-fits K.National n h = omega arith
offset-fits K.Range n h = omega arith
offset-fits K.Specialist n h = omega arith
offset-fits K.Unknown n h = omega arith

-- the fields fill the frame, where a strategy's count is at most six
pub record FillsFrame (k : Kind) (n : ℕ) : Type 0 where
  pub whole : offset (layout_of k n) 19 ≡ length_of k n
  pub short : length_of k n ≤ 23

exact-six : (n : ℕ) → n ≤ 6 → offset (layout_of K.Strategy n) 19 ≡ 5 + 3 * n
unfolding offset layout_of layout present_of length_of pick
exact-six zero h = refl
exact-six (suc zero) h = refl
exact-six (suc (suc zero)) h = refl
exact-six (suc (suc (suc zero))) h = refl
exact-six (suc (suc (suc (suc zero)))) h = refl
exact-six (suc (suc (suc (suc (suc zero))))) h = refl
exact-six (suc (suc (suc (suc (suc (suc zero)))))) h = refl
exact-six (suc (suc (suc (suc (suc (suc (suc n))))))) h = absurd (omega arith)

pub exact : (k : Kind) (n : ℕ) → (k ≡ K.Strategy → n ≤ 6) → 4 ≤ length_of k n → FillsFrame k n
unfolding offset layout_of layout present_of length_of pick
exact K.Strategy n s h = let t : n ≤ 6 = s refl in record { whole = exact-six n t; short = omega arith }
exact K.Order n s h = record { whole = refl; short = omega arith }
exact K.Sweep n s h = record { whole = refl; short = omega arith }
exact K.LegOrder n s h = record { whole = refl; short = omega arith }
exact K.Cancel n s h = record { whole = refl; short = omega arith }
exact K.Series n s h = record { whole = refl; short = omega arith }
exact K.Clock n s h = record { whole = refl; short = omega arith }
exact K.DayEnd n s h = record { whole = refl; short = omega arith }
exact K.National n s h = record { whole = refl; short = omega arith }
exact K.Range n s h = record { whole = refl; short = omega arith }
exact K.Specialist n s h = record { whole = refl; short = omega arith }
exact K.Unknown n s h = absurd (omega arith)

pub four-le : (e : Event) (n : ℕ) → 4 ≤ length_of (kind_in e) n
unfolding length_of pick
four-le (E.Strategy e) n = omega arith
four-le (E.Order e) n = omega arith
four-le (E.Sweep e) n = omega arith
four-le (E.LegOrder e) n = omega arith
four-le (E.Cancel e) n = omega arith
four-le (E.Series e) n = omega arith
four-le (E.Clock e) n = omega arith
four-le (E.DayEnd e) n = omega arith
four-le (E.National e) n = omega arith
four-le (E.Range e) n = omega arith
four-le (E.Specialist e) n = omega arith

-- only a strategy's frame looks at the count
pub field-same : (k : Kind) (a b : ℕ) → (k ≡ K.Strategy → a ≡ b) → layout_of k a ≡ layout_of k b
unfolding layout_of length_of pick
field-same K.Strategy a b h = rw (h refl)
field-same K.Order a b h = refl
field-same K.Sweep a b h = refl
field-same K.LegOrder a b h = refl
field-same K.Cancel a b h = refl
field-same K.Series a b h = refl
field-same K.Clock a b h = refl
field-same K.DayEnd a b h = refl
field-same K.National a b h = refl
field-same K.Range a b h = refl
field-same K.Specialist a b h = refl
field-same K.Unknown a b h = refl

pub length-same : (k : Kind) (a b : ℕ) → (k ≡ K.Strategy → a ≡ b) → length_of k a ≡ length_of k b
unfolding length_of pick
length-same K.Strategy a b h = rw (h refl)
length-same K.Order a b h = refl
length-same K.Sweep a b h = refl
length-same K.LegOrder a b h = refl
length-same K.Cancel a b h = refl
length-same K.Series a b h = refl
length-same K.Clock a b h = refl
length-same K.DayEnd a b h = refl
length-same K.National a b h = refl
length-same K.Range a b h = refl
length-same K.Specialist a b h = refl
length-same K.Unknown a b h = refl

-- the fields as the code passes them
pub layout_is : (k : Kind) (n : ℕ) {fs : List Field} {m : ℕ} → fs ≡ fields_of k → m ≡ length_of k n - 4 → layout fs m ≡ layout_of k n
unfolding layout_of
layout_is k n e h = rw (e, h)

pub layout-in : (e : Event) {fs : List Field} {k : Kind} {m : ℕ} → k ≡ kind_in e → fs ≡ fields_of k → m ≡ length_in e → layout fs (m - 4) ≡ layout_in e
unfolding layout_in length_in
layout-in e p q r = layout_is (kind_in e) (slice_index (row_of e) 0) (q ∙ rw p) (rw r)

-- a strategy's first field is its count
pub first_field : (n : ℕ) → layout_of K.Strategy n 0 ≡ count
unfolding layout_of layout present_of length_of
first_field n = pick_true _ _ _ (lt-ltb 0 (length_of K.Strategy n - 4) (room n))
  where
    room : (n : ℕ) → 0 < length_of K.Strategy n - 4
    room n = rw (pick_true (1 == 1) (5 + 3 * n) 5 refl) (omega arith)

pub count-le : (k : Kind) (n : ℕ) (v : List ℕ) → fit_n (layout_of k n) v 19 ≡ true → k ≡ K.Strategy → slice_index v 0 ≤ 6
count-le k n v e s =
    let h : fit_n (layout_of K.Strategy n) v 19 ≡ true = rw s at e in
    rw (first_field n) at (fit_at_lem (layout_of K.Strategy n) v 19 0 (omega arith) h).1

pub four-in : (e : Event) → 4 ≤ length_in e
unfolding length_in
four-in e = four-le e (slice_index (row_of e) 0)

-- the frame of an event that fits
module _ (e : Event) (t : fitting e ≡ true) where
  exact-in : FillsFrame (kind_in e) (slice_index (row_of e) 0)
  unfolding fitting layout_in
  exact-in = exact (kind_in e) (slice_index (row_of e) 0) (count-le (kind_in e) _ (row_of e) t) (four-le e _)

  pub room_in : offset (layout_in e) 19 ≡ length_in e
  unfolding layout_in length_in
  room_in = exact-in.whole

  pub short-in : length_in e ≤ 23
  unfolding length_in
  short-in = exact-in.short

  -- "legs past its count hold zeros": so does every place past the fields that are there
  pub past-zero : (i : ℕ) → length_in e - 4 ≤ i → i < 19 → slice_index (row_of e) i ≡ 0
  unfolding fitting layout_in layout_of layout present_of length_in
  past-zero i h l =
      let z : layout_of (kind_in e) (slice_index (row_of e) 0) i ≡ none = pick-false _ _ _ (le-ltb i (length_in e - 4) h) in
      let v : get_or (row_of e) i 0 ≤ high (layout_of (kind_in e) (slice_index (row_of e) 0) i) = (fit_at_lem (layout_in e) (row_of e) 19 i l t).1 in
      let u : get_or (row_of e) i 0 ≤ 0 = rw z at v in
      omega arith

-- WHICH FIELDS A FRAME HAS, by its kind.

none-all : (r i : ℕ) → slice_index_or (replicate r none) i none ≡ none
none-all zero i = refl
none-all (suc r) zero = refl
none-all (suc r) (suc i) = none-all r i

-- what stands past the fields of a table
past-none : (fs : List Field) (m r : ℕ) → drop m fs ≡ replicate r none → (i : ℕ) → m ≤ i → slice_index_or fs i none ≡ none
past-none fs m r h i l =
    let e : i ≡ m + (i - m) = omega arith in
    rw e (sym (get_or-drop m fs (i - m) none) ∙ ap (λ (gs : List Field). get_or gs (i - m) none) h ∙ none-all r (i - m))

-- a field is there, or it is none
present-all : (fs : List Field) (m r : ℕ) → drop m fs ≡ replicate r none → (i : ℕ) → layout fs m i ≡ slice_index_or fs i none
unfolding layout present_of
present-all fs m r h i =
    pick-by (λ (x : Field). x ≡ slice_index_or fs i none) (nat_lt i m) (λ t. refl) (λ t. sym (past-none fs m r h i (ltb-false i m t)))

-- "leg count (1) 2–6; per leg series (1) 0–31, side (1), ratio (1) 1–12": a strategy's count, and three fields for each of its n legs
pub strategy-fields : (n i : ℕ) → layout_of K.Strategy n i ≡ pick (nat_lt i (1 + 3 * n)) (slice_index_or (fields_of K.Strategy) i none) none
unfolding layout_of layout present_of length_of pick
strategy-fields n i =
    let e : 5 + 3 * n - 4 ≡ 1 + 3 * n = omega arith in
    rw e

-- a frame of another kind has all the fields of its table, of which the unknown one has none
pub fixed-fields : (k : Kind) → (k ≢ K.Strategy) → (n i : ℕ) → layout_of k n i ≡ slice_index_or (fields_of k) i none
unfolding layout_of length_of pick
fixed-fields K.Strategy s n i = absurd (s refl)
fixed-fields K.Order s n i = present-all _ 12 7 refl i
fixed-fields K.Sweep s n i = present-all _ 10 9 refl i
fixed-fields K.LegOrder s n i = present-all _ 10 9 refl i
fixed-fields K.Cancel s n i = present-all _ 6 13 refl i
fixed-fields K.Series s n i = present-all _ 2 17 refl i
fixed-fields K.Clock s n i = present-all _ 4 15 refl i
fixed-fields K.DayEnd s n i = present-all _ 2 17 refl i
fixed-fields K.National s n i = present-all _ 9 10 refl i
fixed-fields K.Range s n i = present-all _ 2 17 refl i
fixed-fields K.Specialist s n i = present-all _ 4 15 refl i
fixed-fields K.Unknown s n i = present-all _ 0 19 refl i
