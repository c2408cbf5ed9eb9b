-- The laws that the functions over frames use.
use Rattle.std.specs.Prelude.{◌≡◌, ℕ, ◌+◌, ◌-◌, ◌<◌, ◌≤◌, Bool, true, false, List, ◌++◌, length, drop, ◌==◌, ◌≢◌, nat_lt, Result, Ok, Err}
use Rattle.std.proofs.Common.{refl, ◌∙◌, length-append}
use native.Mathlib.Omega.{arith}
use borrow.Author.Tests.{ltb-false, eqb-true}
use Rattle.std.proofs.Math.Seq.{sets, sets-eq}
use Rattle.base.specs.Pick.{pick, pick-by, tests}
use Rattle.events.specs.Fields.{layout, offset, fit_n, Narrow}
use Rattle.events.specs.Kinds.{code_of, length_of}
use Rattle.events.specs.Refusals.{refusal_of}
use Rattle.events.specs.Table.{fields_of, layout_of}
use Rattle.events.specs.Rows.{kind_in, row_of, event_of, of_kind, layout_in, fitting, length_in}
use Rattle.events.specs.Cases.{kind-refused}
use Rattle.events.specs.Laws.{layout_is, offset-fits, narrow, room_in}
use Rattle.frames.specs.Number.{number, bytes, length-bytes}
use Rattle.frames.specs.Bodies.{offset-body, row_n, body_n}
use Rattle.frames.specs.Carried.{Whole, carried_of}
use Rattle.frames.specs.Frames.{kind_at, count_at, row_at, judge_kind, judge_of, read_of, frame_of, written_of, space_of, Wrote}
use Rattle.events.specs.declared.Refusal.{Refusal}
use Rattle.events.specs.declared.Refusal.TheVariants as F
use Rattle.events.specs.declared.Field.{Field}
use Rattle.events.specs.declared.Kind.{Kind}
use Rattle.events.specs.declared.Event.{Event}

pub whole_room : (k : Kind) (f : List ℕ) → Whole k f → offset (layout_of k (count_at f)) 19 ≤ length f
whole_room k f w =
    let h : 4 ≤ length_of k (count_at f) = omega (arith, w.four, w.long) in
    omega (arith, offset-fits k (count_at f) h, w.long)

-- the outcomes of judging
module _ (f : List ℕ) where
  pub judge-short : length f < 4 → judge_of f ≡ 2
  unfolding judge_of
  judge-short h = search tests

  pub judge-size : 4 ≤ length f → (number 2 f 0 ≢ length f) → judge_of f ≡ 2
  unfolding judge_of
  judge-size h n = search tests

  judge-as : 4 ≤ length f → number 2 f 0 ≡ length f → judge_of f ≡ judge_kind (kind_at f) f
  unfolding judge_of
  judge-as h e = search tests

  pub judge-unknown : 4 ≤ length f → number 2 f 0 ≡ length f → {r : Refusal} → kind_at f ≡ Err r → judge_of f ≡ 2
  judge-unknown h e q = judge-as h e ∙ rw q

  -- of a known kind
  module _ {k : Kind} (q : kind_at f ≡ Ok k) where
    pub judge-long : 4 ≤ length f → number 2 f 0 ≡ length f → (length_of k (count_at f) ≢ length f) → judge_of f ≡ 2
    judge-long h e n = judge-as h e ∙ rw q (search tests)

    pub judge-fit : 4 ≤ length f → number 2 f 0 ≡ length f → length_of k (count_at f) ≡ length f → fit_n (layout_of k (count_at f)) (row_at k f) 19 ≡ true → judge_of f ≡ 0
    judge-fit h e n t = judge-as h e ∙ rw q (search tests)

    pub judge-unfit : 4 ≤ length f → number 2 f 0 ≡ length f → length_of k (count_at f) ≡ length f → fit_n (layout_of k (count_at f)) (row_at k f) 19 ≡ false → judge_of f ≡ 3
    judge-unfit h e n t = judge-as h e ∙ rw q (search tests)

  -- a frame that is not refused
  pub record Judged : Type 0 where
    pub kind : Kind
    pub known : kind_at f ≡ Ok kind
    pub size : number 2 f 0 ≡ length f
    pub whole : Whole kind f
    pub fit : fit_n (layout_of kind (count_at f)) (row_at kind f) 19 ≡ true

  pub judged : judge_of f ≡ 0 → Judged
  unfolding judge_of
  judged z =
      let P : ℕ → Type 0 = λ (x : ℕ). x ≡ 0 → Judged in
      pick-by P (nat_lt (length f) 4) (λ _ e. absurd (omega arith))
      (λ four.
      pick-by P (number 2 f 0 == length f)
      (λ size. by (ltb-false _ _ four) (eqb-true _ _ size) (kind_at f) refl)
      (λ _ e. absurd (omega arith)))
      z
    where
      by : 4 ≤ length f → number 2 f 0 ≡ length f → (r : Result Kind Refusal) → kind_at f ≡ r → judge_kind r f ≡ 0 → Judged
      by four size (Err r) q e = absurd (omega arith)
      by four size (Ok k) q e' =
          let P : ℕ → Type 0 = λ (x : ℕ). x ≡ 0 → Judged in
          pick-by P (length_of k (count_at f) == length f)
          (λ long.
          pick-by P (fit_n (layout_of k (count_at f)) (row_at k f) 19)
          (λ fit e. record { kind = k; known = q; size = size; whole = record { four = four; long = eqb-true _ _ long }; fit = fit })
          (λ _ e. absurd (omega arith)))
          (λ _ e. absurd (omega arith))
          e'

  pub read-refused : (judge_of f ≢ 0) → read_of f ≡ Err (refusal_of (judge_of f))
  unfolding read_of
  read-refused n = search tests

  read-kind : judge_of f ≡ 0 → read_of f ≡ of_kind (kind_at f) (λ k. event_of k (row_at k f))
  unfolding read_of
  read-kind n = search tests

  pub read-event : {k : Kind} → kind_at f ≡ Ok k → judge_of f ≡ 0 → read_of f ≡ event_of k (row_at k f)
  read-event q n = read-kind n ∙ rw q

  -- the outcomes of reading
  read-two : judge_of f ≡ 2 → read_of f ≡ Err F.BadFrame
  read-two e = read-refused (λ z. omega arith) ∙ rw e

  pub read_short : length f < 4 → read_of f ≡ Err F.BadFrame
  read_short h = read-two (judge-short h)

  pub read-size : 4 ≤ length f → (number 2 f 0 ≢ length f) → read_of f ≡ Err F.BadFrame
  read-size h n = read-two (judge-size h n)

  pub read-unknown : 4 ≤ length f → number 2 f 0 ≡ length f → {r : Refusal} → kind_at f ≡ Err r → read_of f ≡ Err r
  unfolding kind_at
  read-unknown h e q = read-two (judge-unknown h e q) ∙ rw (kind-refused _ q)

  pub read-long : {k : Kind} → kind_at f ≡ Ok k → 4 ≤ length f → number 2 f 0 ≡ length f → (length_of k (count_at f) ≢ length f) → read_of f ≡ Err F.BadFrame
  read-long q h e n = read-two (judge-long q h e n)

-- once the lengths agree, a frame is read as its kind says
pub read-carried : (f : List ℕ) {k : Kind} → kind_at f ≡ Ok k → number 2 f 0 ≡ length f → Whole k f → read_of f ≡ carried_of k f
unfolding carried_of row_at
read-carried f {k} q s w =
    pick-by (λ (x : Result Event Refusal). read_of f ≡ x) (fit_n (layout_of k (count_at f)) (row_at k f) 19)
    (λ t. read-event f q (judge-fit f q w.four s w.long t))
    (λ t. let e : judge_of f ≡ 3 = judge-unfit f q w.four s w.long t in read-refused f (λ z. omega arith) ∙ rw e)

-- the fields as the table gives them
module _ (k : Kind) (f : List ℕ) (w : Whole k f) {fs : List Field} (e : fs ≡ fields_of k) where
  table-layout : layout fs (length f - 4) ≡ layout_of k (count_at f)
  table-layout = layout_is k (count_at f) e (rw w.long)

  pub table-room : (offset (layout fs (length f - 4)) 19 ≤ length f) × Narrow (layout fs (length f - 4))
  table-room = rw table-layout (whole_room k f w, narrow _ _)

  pub table-carried : {row : List ℕ} {ok : Bool} → row ≡ row_n (layout fs (length f - 4)) f 19 → ok ≡ fit_n (layout fs (length f - 4)) row 19 → pick ok (event_of k row) (Err F.BadField) ≡ carried_of k f
  unfolding carried_of
  table-carried r t = rw (t, r, table-layout)

module _ (e : Event) (t : fitting e ≡ true) where
  pub length-frame : length (frame_of e) ≡ length_in e
  unfolding frame_of
  length-frame =
      simp (length-append, length-bytes)
      (omega (arith, offset-body (layout_in e) (row_of e) 19, room_in e t))

  pub wrote_one : (sp : List ℕ) → length sp < length_in e → Wrote e sp sp (Err F.ShortSpace)
  unfolding written_of space_of
  wrote_one sp h = record { answer = search tests; space = search tests }

  pub wrote-frame : (sp sq : List ℕ) → length_in e ≤ length sp → sq ≡ sets sp 0 (frame_of e) → Wrote e sp sq (Ok (length_in e))
  unfolding written_of space_of
  wrote-frame sp sq h s =
      let l : length (frame_of e) ≡ length_in e = length-frame in
      let q : sets sp 0 (frame_of e) ≡ frame_of e ++ drop (0 + length (frame_of e)) sp = sets-eq (frame_of e) sp 0 (omega arith) in
      let z : 0 + length (frame_of e) ≡ length_in e = omega arith in
      let r : sq ≡ frame_of e ++ drop (length_in e) sp = s ∙ (rw z at q) in
      record { answer = search tests; space = rw r (search tests) }

pub wrote-three : (e : Event) (sp : List ℕ) → fitting e ≡ false → Wrote e sp sp (Err F.BadField)
unfolding written_of space_of
wrote-three e sp t = record { answer = search tests; space = search tests }

-- three stores in a row
pub frame-stores : (e : Event) (sp : List ℕ) {s t u : List ℕ} → s ≡ sets sp 0 (bytes 2 (length_in e)) → t ≡ sets s 2 (bytes 2 (code_of (kind_in e))) → u ≡ sets t 4 (body_n (layout_in e) (row_of e) 19) → u ≡ sets sp 0 (frame_of e)
unfolding frame_of bytes
frame-stores e sp p q r = rw (r, q, p)
