-- Reading what was written gives the event, and a frame that reads as an event is the one written for it.
use Rattle.std.specs.Prelude.{◌≡◌, ℕ, zero, suc, ◌+◌, ◌%◌, ◌^◌, ◌<◌, ◌≤◌, Bool, true, false, List, [], ◌++◌, length, take, drop, ◌==◌, ◌≢◌, slice_index, slice_index_or, Result, Ok, Err}
use Rattle.std.proofs.Math.Path.{refl, sym, ap}
use Rattle.std.proofs.Common.{◌∙◌, le_refl, arith, eqb-true, length-append, take-add, take_all}
use mathlib.Core.List.{append_assoc, append-nil}
use Rattle.std.proofs.Math.Nat.{le_trans}
use Rattle.std.proofs.lemmas.Bool.{eqb-false}
use Rattle.std.proofs.Math.Seq.{ext_get_or}
use Rattle.base.specs.Pick.{pick, pick_all}
use Rattle.events.specs.Fields.{width, bias, raw_of, layout, present_of, offset, offset-room, fit_at_lem}
use Rattle.events.specs.Kinds.{code_of, length_of}
use Rattle.events.specs.Refusals.{refusal_of, number-refusal}
use Rattle.events.specs.Table.{count, layout_of}
use Rattle.events.specs.Rows.{kind_in, row_of, event_of, layout_in, fitting, length_in, reading_number}
use Rattle.events.specs.Laws.{Sound, field_is, exact, field-same, length-same, first_field, count-le, short-in, four-in}
use Rattle.events.specs.Cases.{event-row, length-row-of, kind-code, code_lt, row_read, kind-made, answer-event, event-is, code-kind, value-raw, raw-value}
use Rattle.frames.specs.Number.{number, bytes, Bytes, length-bytes, number-bytes, bytes-number, number-le}
use Rattle.frames.specs.Bodies.{value_at, value_bytes, row_n, length-row, row-at, body_n, body_at}
use Rattle.frames.specs.Frames.{kind_at, count_at, row_at, judge_kind, judge_of, read_of, frame_of, written_of, space_of, Wrote}
use Rattle.frames.specs.Codec.{whole_room, judge-fit, judged, read-refused, read-event, length-frame}
use Rattle.frames.specs.Spaces.{accepted, written_is, space-is, written-frame}
use Rattle.events.specs.declared.Refusal.{Refusal}
use Rattle.events.specs.declared.Field.{Field}
use Rattle.events.specs.declared.Kind.{Kind}
use Rattle.events.specs.declared.Kind.TheVariants as K
use Rattle.events.specs.declared.Event.{Event}

-- a row that was read is the event's
row_back : (k : Kind) (n : ℕ) (f : List ℕ) → row_read (event_of k (row_n (layout_of k n) f 19)) ≡ row_n (layout_of k n) f 19
unfolding row_n layout_of layout present_of length_of pick value_at number offset
row_back K.Strategy n f = refl
row_back K.Order n f = refl
row_back K.Sweep n f = refl
row_back K.LegOrder n f = refl
row_back K.Cancel n f = refl
row_back K.Series n f = refl
row_back K.Clock n f = refl
row_back K.DayEnd n f = refl
row_back K.National n f = refl
row_back K.Range n f = refl
row_back K.Specialist n f = refl
row_back K.Unknown n f = refl

-- Reading what was written.

module _ (e : Event) (t : fitting e ≡ true) where
  sound-in : (i : ℕ) → Sound (layout_in e i)
  unfolding layout_in
  sound-in i = field_is (kind_in e) _ i

  head-long : length (bytes 2 (length_in e) ++ bytes 2 (code_of (kind_in e))) ≡ 4
  head-long = simp (length-append, length-bytes)

  number-written : (i : ℕ) → i < 19 → number (width (layout_in e i)) (frame_of e) (offset (layout_in e) i) ≡ raw_of (layout_in e i) (slice_index (row_of e) i)
  unfolding frame_of fitting
  number-written i h =
      rw append-nil at
      (body_at (layout_in e) (bytes 2 (length_in e) ++ bytes 2 (code_of (kind_in e))) (row_of e) [] 19 i head-long h
      ((sound-in i).raw-fits _ (fit_at_lem (layout_in e) (row_of e) 19 i h t).1))

  row_written : row_n (layout_in e) (frame_of e) 19 ≡ row_of e
  unfolding value_at fitting
  row_written =
      ext_get_or 0 _ _ (length-row (layout_in e) (frame_of e) 19 ∙ sym (length-row-of e))
      (λ i h.
      let l : i < 19 = rw length-row at h in
      row-at (layout_in e) (frame_of e) 19 i (omega arith) l
      ∙ rw (number-written i l) (value-raw (layout_in e i) _ (sound-in i) (fit_at_lem (layout_in e) (row_of e) 19 i l t).1))

  size-written : number 2 (frame_of e) 0 ≡ length_in e
  unfolding frame_of
  size-written = rw append_assoc (number-bytes 2 (length_in e) [] _ 0 refl (omega (arith, short-in e t)))

  kind-written : kind_at (frame_of e) ≡ Ok (kind_in e)
  unfolding kind_at frame_of
  kind-written = rw (number-bytes 2 (code_of (kind_in e)) (bytes 2 (length_in e)) _ 2 (length-bytes 2 (length_in e)) (code_lt (kind_in e))) (kind-code e)

  count-written : kind_in e ≡ K.Strategy → count_at (frame_of e) ≡ slice_index (row_of e) 0
  unfolding number raw_of offset layout_in fitting
  count-written s =
      let z : layout_in e 0 ≡ count = rw s (first_field _) in
      let n : number 1 (frame_of e) 4 ≡ raw_of (count) (slice_index (row_of e) 0) = rw z at (number-written 0 (omega arith)) in
      omega (arith, n, count-le (kind_in e) _ (row_of e) t s)

  layout-written : layout_of (kind_in e) (count_at (frame_of e)) ≡ layout_in e
  unfolding layout_in
  layout-written = field-same (kind_in e) _ _ count-written

  long-written : length_of (kind_in e) (count_at (frame_of e)) ≡ length_in e
  unfolding length_in
  long-written = length-same (kind_in e) _ _ count-written

  row_is : row_at (kind_in e) (frame_of e) ≡ row_of e
  unfolding row_at
  row_is = rw layout-written row_written

  judge-written : judge_of (frame_of e) ≡ 0
  unfolding fitting
  judge-written =
      let l : length (frame_of e) ≡ length_in e = length-frame e t in
      judge-fit (frame_of e) kind-written (omega (arith, four-in e)) (size-written ∙ sym l) (long-written ∙ sym l) (rw (layout-written, row_is) t)

  -- reading the frame of an event that fits gives that event
  pub read-written-frame : read_of (frame_of e) ≡ Ok e
  read-written-frame = read-event (frame_of e) kind-written judge-written ∙ rw row_is (event-row e)

-- If the writer accepts an event, reading what it wrote gives that event.
pub read-written : (e : Event) (sp : List ℕ) (n : ℕ) → written_of e (length sp) ≡ Ok n → read_of (take n (space_of e sp)) ≡ Ok e
read-written e sp n r =
    let a = accepted e (length sp) n r in
    rw (a.long, written-frame e sp a.fit a.room_for) (read-written-frame e a.fit)

-- Writing what was read.

module _ (f : List ℕ) (b : Bytes f) (e : Event) (r : read_of f ≡ Ok e) where
  zero-read : judge_of f ≡ 0
  zero-read = by (judge_of f == 0) refl
    where
      by : (t : Bool) → (judge_of f == 0) ≡ t → judge_of f ≡ 0
      by true h = eqb-true _ _ h
      by false h =
          let q : read_of f ≡ Err (refusal_of (judge_of f)) = read-refused f (eqb-false _ _ h) in
          absurd (let z : ◌≡◌ {A = ℕ} 0 1 = cc in omega arith)

  abbrev kind : Kind
  kind = (judged f zero-read).kind

  made : event_of kind (row_at kind f) ≡ Ok e
  made = sym (read-event f (judged f zero-read).known zero-read) ∙ r

  kind-read : kind_in e ≡ kind
  kind-read = kind-made kind (row_at kind f) made

  row_read_lem : row_of e ≡ row_at kind f
  unfolding row_at
  row_read_lem = ap row_read (sym made) ∙ row_back kind (count_at f) f

  count-read : kind ≡ K.Strategy → slice_index (row_at kind f) 0 ≡ count_at f
  unfolding row_at offset value_at number
  count-read s =
      let z : layout_of kind (count_at f) 0 ≡ count = rw s (first_field _) in
      let v : slice_index_or (row_at kind f) 0 0 ≡ value_at (count) f 4 = rw z at (row-at (layout_of kind (count_at f)) f 19 0 (omega arith) (omega arith)) in
      omega (arith, v, b.small 4)

  layout-read : layout_in e ≡ layout_of kind (count_at f)
  unfolding layout_in
  layout-read = rw (kind-read, row_read_lem) (field-same kind _ _ count-read)

  length-read : length_in e ≡ length f
  unfolding length_in
  length-read = rw (kind-read, row_read_lem) (length-same kind _ _ count-read ∙ (judged f zero-read).whole.long)

  pub fitting-read : fitting e ≡ true
  unfolding fitting
  fitting-read = rw (layout-read, row_read_lem) (judged f zero-read).fit

  value_read : (n : ℕ) → n < 19 →
      slice_index (row_at kind f) n ≡ (number (width (layout_of kind (count_at f) n)) f (offset (layout_of kind (count_at f)) n) + bias (layout_of kind (count_at f) n)) % 2 ^ 32
  unfolding row_at value_at
  value_read n h = row-at (layout_of kind (count_at f)) f 19 n (omega arith) h

  body-read : (n : ℕ) → n ≤ 19 → take 4 f ++ body_n (layout_of kind (count_at f)) (row_at kind f) n ≡ take (offset (layout_of kind (count_at f)) n) f
  unfolding body_n offset value_bytes
  body-read zero h = append-nil (take 4 f)
  body-read (suc n) h =
      let F : ℕ → Field = layout_of kind (count_at f) in
      let s : Sound (F n) = field_is kind (count_at f) n in
      let v : slice_index_or (row_at kind f) n 0 ≡ (number (width (F n)) f (offset F n) + bias (F n)) % 2 ^ 32 = value_read n (omega arith) in
      let x : raw_of (F n) (slice_index (row_at kind f) n) ≡ number (width (F n)) f (offset F n) = rw v (raw-value (F n) _ s (number-le f b (width (F n)) 4 (offset F n) s.narrow)) in
      let k : offset F n + width (F n) ≤ length f = le_trans (offset-room F n 19 (omega arith)) (whole_room kind f (judged f zero-read).whole) in
      rw (x, bytes-number f b (width (F n)) (offset F n) k, ← append_assoc, body-read n (omega arith), take-add)

  exact_read : offset (layout_of kind (count_at f)) 19 ≡ length f
  exact_read =
      let j = judged f zero-read in
      (exact kind (count_at f) (λ s. omega (arith, count-read s, count-le kind _ (row_at kind f) j.fit s)) (omega (arith, j.whole.four, j.whole.long))).whole
      ∙ j.whole.long

  head_read : bytes 2 (length f) ++ bytes 2 (code_of kind) ≡ take 4 f
  unfolding kind_at
  head_read =
      let j = judged f zero-read in
      let n : bytes 2 (length f) ≡ take 2 f = ap (bytes 2) (sym j.size) ∙ bytes-number f b 2 0 (omega (arith, j.whole.four)) in
      let k : code_of kind ≡ number 2 f 2 = code-kind (number 2 f 2) j.known in
      rw (n, k, bytes-number f b 2 2 (omega (arith, j.whole.four))) (sym (take-add 2 2 f))

  -- a frame that reads as an event is that event's frame
  pub frame-read : frame_of e ≡ f
  unfolding frame_of
  frame-read =
      rw (length-read, kind-read, layout-read, row_read_lem, head_read, body-read 19 (omega arith), exact_read) (take_all (length f) f (le_refl _))

  -- and the writer writes exactly that frame into any space that is long enough
  pub frame-read-written : (sp : List ℕ) → length f ≤ length sp → Wrote e sp (f ++ drop (length f) sp) (Ok (length f))
  frame-read-written sp h =
      let l : length_in e ≤ length sp = omega (arith, length-read) in
      rw (← length-read, ← frame-read) (record { answer = sym (written_is e sp fitting-read l); space = sym (space-is e sp fitting-read l) })

-- The judge agrees with the reader.

-- "returning 0, 2 or 3"
pub judge-answers : (f : List ℕ) → (judge_of f ≢ 1) × (judge_of f ≤ 3)
unfolding judge_of
judge-answers f =
    let P : ℕ → Type 0 = λ (x : ℕ). (x ≢ 1) × (x ≤ 3) in
    let two : P 2 = (λ e. omega arith, omega arith) in
    pick_all P _ two (pick_all P _ (by (kind_at f)) two)
  where
    by : (r : Result Kind Refusal) → (judge_kind r f ≢ 1) × (judge_kind r f ≤ 3)
    by (Err r) = (λ e. omega arith, omega arith)
    by (Ok k) =
        let P : ℕ → Type 0 = λ (x : ℕ). (x ≢ 1) × (x ≤ 3) in
        pick_all P _ (pick_all P _ (λ e. omega arith, omega arith) (λ e. omega arith, omega arith)) (λ e. omega arith, omega arith)

-- 0 only where the reader gives an event
pub judge-event : (f : List ℕ) → judge_of f ≡ 0 → (e : Event) × (read_of f ≡ Ok e)
judge-event f z =
    let j = judged f z in
    let x = event-is j.kind (row_at j.kind f) (count_at f) (omega (arith, j.whole.four, j.whole.long)) in
    (x.0, read-event f j.known z ∙ x.1)

-- 0 where the reader gives an event, its refusal where it refuses

pub judge-reads : (f : List ℕ) → judge_of f ≡ reading_number (read_of f)
judge-reads f = by (judge_of f == 0) refl
  where
    by : (t : Bool) → (judge_of f == 0) ≡ t → judge_of f ≡ reading_number (read_of f)
    by true h =
        let z : judge_of f ≡ 0 = eqb-true _ _ h in
        let j = judged f z in
        rw (read-event f j.known z) (z ∙ sym (answer-event j.kind (row_at j.kind f) (count_at f) (omega (arith, j.whole.four, j.whole.long))))
    by false h =
        let n : judge_of f ≢ 0 = eqb-false _ _ h in
        let l : judge_of f ≤ 3 = (judge-answers f).1 in
        rw (read-refused f n) (sym (number-refusal (judge_of f) (omega arith) (omega arith)))
