-- A turn of a program that calls the book, and the turns from the first book on.
use Rattle.std.specs.Prelude.{◌≡◌, refl, Bool, true, false, List, [], ◌∷◌, ◌++◌, ℕ, zero, suc, ◌+◌, ◌*◌, ◌≤◌, ◌<◌, ℤ, length, take, drop, Result, Ok, Err}
use Rattle.std.proofs.Common.{sym, ◌∙◌, ap, ⊎_elim, append_assoc, append-nil, arith}
use Rattle.std.proofs.lemmas.List.Edits.{sets-eq}
use Rattle.std.proofs.Math.Seq.{take-length}
use Rattle.std.specs.Option.{is_some}
use Rattle.base.specs.Chains.{unless_zero}
use Rattle.base.specs.Pick.{pick, pick_all}
use Rattle.base.specs.Walks.{lt-or-le}
use Rattle.frames.specs.Frames.{read_of}
use Rattle.events.specs.declared.Refusal.{Refusal}
use Rattle.events.specs.declared.Refusal.TheVariants as F
use Rattle.rules.specs.declared.Accepted.{Accepted}
use Rattle.rules.specs.Step.{Outcome, step, refuse_or_perform, refused, answer_of, answer_count}
use Rattle.rules.specs.State.{first}
use Rattle.rules.specs.declared.State.{State}
use Rattle.rules.specs.declared.Record.{Record}
use Rattle.rules.specs.Records.{Line, line_of, numbers_of}
use Rattle.records.specs.Space.{laid, numbers, length-numbers}
use Rattle.book.specs.declared.Book.{Book}
use Rattle.book.specs.Books.{Stepped}
use Rattle.book.specs.Outcomes.{refusal-short}
use Rattle.lines.specs.declared.Text.{Text}
use Rattle.lines.specs.Lines.{text_line, event_line, record_lines, record_texts, event_text, outcome_text}
use Rattle.lines.specs.Puts.{Within}
use Rattle.streams.specs.declared.Input.{Input}
use Rattle.streams.specs.Rests.{More, rest_of}
use Rattle.streams.specs.Texts.{Settles, settled-none}

-- what the program keeps from event to event: the book, the input, the text, and whether more is to come
pub record Tape : Type 0 where
  pub book : Book
  pub input : Input
  pub text : Text
  pub on : Bool

-- an event went to the book in the state b with a record space of n numbers, which became x, and what the rules print of it was put
-- behind the text s, which became q
pub record Tells (b : State) (index : ℕ) (frame : List ℕ) (n : ℕ) (s q : Text) (x : Book) : Type 0 where
  pub state : x.state ≡ (step b frame n).moved.state
  pub text : Within 189526 s q (outcome_text index (step b frame n))

-- what comes next: the state of the book, what is printed, the rest of the input, and whether more is to come
pub record Turn : Type 0 where
  pub state : State
  pub text : List ℕ
  pub rest : List ℕ
  pub on : Bool

-- .. of an event with this outcome
abbrev pub event_turn : Outcome → ℕ → List ℕ → Turn
event_turn o index rest = record { state = o.moved.state; text = outcome_text index o; rest = rest; on = true }

-- the book and the input stay, and there is room for an event again
pub record Drained (t x : Tape) : Type 0 where
  pub book : x.book ≡ t.book
  pub input : x.input ≡ t.input
  pub room : x.text.used + 189526 ≤ length x.text.out.now
  pub space : x.text.out ≡ t.text.out

-- what a turn is: it takes a tape and an index to a tape
abbrev pub Turning : Type 1
Turning = Tape → ℕ → Tape → Type 0

-- the tape and the index after some turns from the first book on. Each reads on, takes a turn of the bytes that are then there, and
-- writes the text out where there is no room, or nothing whole is left of the input.
pub data Reached (Turned : Turning) : Tape → ℕ → Type 0 where
  reached-first : (b : Book) (i : Input) (t : Text) → b.state ≡ first → i.at ≡ 0 → i.«end» ≡ 0 → t.used ≡ 0 → Reached Turned (record { book = b; input = i; text = t; on = true }) 0
  reached-next :
      {t x y : Tape} {index : ℕ} {i : Input} → Reached Turned t index → More t.input i →
      Turned (record { book = t.book; input = i; text = t.text; on = true }) index x → Drained x y → Reached Turned y (index + 1)

-- a turn that says that more is to come
pub record Continues (Turned : Turning) (t : Tape) (index : ℕ) (x : Tape) : Type 0 where
  pub turned : Turned t index x
  pub on : x.on ≡ true

-- the book that the turns of a program leave, from the first book on: that of a tape that turns reached, each of which says that more is
-- to come, or that of a last turn behind them, which says that no more is
pub data Left (Turned : Turning) : Book → Type 0 where
  left-on : {t : Tape} {index : ℕ} → Reached (Continues Turned) t index → Left Turned t.book
  left-last :
      {t x : Tape} {index : ℕ} {i : Input} → Reached (Continues Turned) t index → More t.input i →
      Turned (record { book = t.book; input = i; text = t.text; on = true }) index x → x.on ≡ false → Left Turned x.book

-- laws

-- the lines of records that stand one after the other are those of the first and of the others
first-line : (l : Line) (k : ℕ) (zs : List ℤ) → record_lines (suc k) (numbers_of l ++ zs) ≡ text_line 82 (numbers_of l) ++ record_lines k zs
unfolding record_lines numbers_of
first-line l zero zs = sym (append-nil _)
first-line l (suc k) zs =
    let e : suc k * 6 ≡ suc (suc (suc (suc (suc (suc (k * 6)))))) = omega arith in
    rw (first-line l k zs, e) (append_assoc (text_line 82 (numbers_of l)) (record_lines k zs) _)

lines_of : (rs : List Record) (zs : List ℤ) → record_lines (length rs) (numbers rs ++ zs) ≡ record_texts rs
unfolding numbers record_texts record_lines
lines_of [] zs = refl
lines_of (r ∷ rs) zs =
    ap (record_lines (suc (length rs))) (append_assoc (numbers_of (line_of r)) (numbers rs) zs)
    ∙ first-line (line_of r) (length rs) (numbers rs ++ zs)
    ∙ ap (λ (x : List ℕ). text_line 82 (numbers_of (line_of r)) ++ x) (lines_of rs zs)

lines-laid : (s : List ℤ) (rs : List Record) → length rs ≤ 2560 → 15360 ≤ length s → record_lines (length rs) (laid s 0 rs) ≡ record_texts rs
unfolding laid
lines-laid s rs h l =
    ap (record_lines (length rs)) (sets-eq (numbers rs) s 0 (omega (arith, length-numbers rs))) ∙ lines_of rs (drop (0 + length (numbers rs)) s)

-- what is printed from the answer and the space is what the outcome says
pub text-laid :
    (index : ℕ) (o : Outcome) (s : List ℤ) → answer_count (answer_of o) ≤ 2560 → 15360 ≤ length s →
    event_text index (answer_of o) (laid s 0 o.moved.records) ≡ outcome_text index o
unfolding event_text outcome_text answer_of answer_count record_lines record_texts
text-laid index o s h l =
    let rs = o.moved.records in
    let P : Result Accepted Refusal → Type 0 = λ (a : Result Accepted Refusal). answer_count a ≤ 2560 → event_line index a ++ record_lines (answer_count a) (laid s 0 rs) ≡ event_line index a ++ record_texts (take (answer_count a) rs) in
    pick_all P _
    (λ k. ap (λ (x : List ℕ). event_line index (Ok (record { value = o.value; records = length rs })) ++ x) (lines-laid s rs k l ∙ ap record_texts (sym (take-length rs))))
    (λ k. refl)
    h

-- where the space is too short the event is refused 1: there are no records
answer-short : (b : State) (frame : List ℕ) (n : ℕ) → n < 15360 → answer_of (step b frame n) ≡ Err F.ShortSpace
unfolding step refuse_or_perform refused answer_of pick
answer-short b frame n h = let e = refusal-short b (read_of frame) n h in rw e refl

text-short : (index : ℕ) (o : Outcome) (s : List ℤ) {r : Refusal} → answer_of o ≡ Err r → event_text index (answer_of o) s ≡ outcome_text index o
unfolding event_text outcome_text answer_count record_lines record_texts
text-short index o s e = rw e refl

-- the records stand in the space
pub records-fit : (b : State) (frame : List ℕ) {sp sq : List ℤ} {c : State} {x : Result Accepted Refusal} → Stepped b frame sp sq c x → answer_count x * 6 ≤ length sq
unfolding answer_count
records-fit b frame {sp} {sq} {x = x} h =
    ⊎_elim (λ l. let e : answer_count x ≡ 0 = ap answer_count (h.answer ∙ answer-short b frame (length sp) l) in omega arith) (λ l. omega (arith, h.few, h.same))
    (lt-or-le (length sp) 15360)

pub tells :
    {b : State} (index : ℕ) {frame : List ℕ} {s q : Text} {sp sq : List ℤ} {c : Book} {x : Result Accepted Refusal} →
    Stepped b frame sp sq c.state x → Within (86 + 74 * answer_count x) s q (event_text index x sq) → Tells b index frame (length sp) s q c
tells {b} index {frame} {s} {q} {sp} {sq} {x = x} h w =
    let o : Outcome = step b frame (length sp) in
    let k : answer_count (answer_of o) ≤ 2560 = rw h.answer at h.few in
    let t : event_text index x sq ≡ outcome_text index o =
    rw (h.answer, h.space) (⊎_elim (λ l. text-short index o _ (answer-short b frame (length sp) l)) (λ l. text-laid index o sp k l) (lt-or-le (length sp) 15360)) in
    record { state = h.state; text = record { put = rw t at w.put; few = omega (arith, w.few, h.few) } }

-- the loop: the tape was reached by turns, there is room for an event, and no text waits where the next read may (the
-- first of what is left, by its length, is not whole)
pub record Running (Turned : Turning) (first_of : List ℕ → ℕ) (t : Tape) (index : ℕ) : Type 0 where
  pub reached : Reached Turned t index
  pub room : t.text.used + 189526 ≤ length t.text.out.now
  pub out-before : first_of (rest_of t.input) ≡ 0 → t.text.used ≡ 0

pub running-first :
    (Turned : Turning) (first_of : List ℕ → ℕ) {b : Book} {i : Input} {t : Text} → b.state ≡ first → i.at ≡ 0 → i.«end» ≡ 0 → t.used ≡ 0 → 189526 ≤ length t.out.now →
    Running Turned first_of (record { book = b; input = i; text = t; on = true }) 0
running-first Turned first_of {b} {i} {t} f e g h l =
    record { reached = reached-first b i t f e g h; room = omega arith; out-before = λ _. h }

-- a turn: read on, the turn, and the text written out where there is no room
pub running-next :
    {Turned : Turning} {first_of : List ℕ → ℕ} {t x y : Tape} {index : ℕ} {i : Input} → Running Turned first_of t index → More t.input i →
    Turned (record { book = t.book; input = i; text = t.text; on = true }) index x → Drained x y →
    (first_of (rest_of x.input) ≡ 0 → y.text.used ≡ 0) → Running Turned first_of y (index + 1)
running-next g m u d none =
    record { reached = reached-next g.reached m u d; room = d.room; out-before = rw d.input none }

-- turns each of which says that more is to come are turns
pub reached-turns : {Turned : Turning} {t : Tape} {index : ℕ} → Reached (Continues Turned) t index → Reached Turned t index
reached-turns (reached-first b i t f a e u) = reached-first b i t f a e u
reached-turns (reached-next r m u d) = reached-next (reached-turns r) m u.turned d

pub running-turns : {Turned : Turning} {first_of : List ℕ → ℕ} {t : Tape} {index : ℕ} → Running (Continues Turned) first_of t index → Running Turned first_of t index
running-turns g = record { reached = reached-turns g.reached; room = g.room; out-before = g.out-before }

-- no text waits where nothing whole is left of the input
pub settled : {s q : Text} {more : Bool} {room n : ℕ} → Settles s q more room → more ≡ is_some (unless_zero n) → n ≡ 0 → q.used ≡ 0
settled s e z = settled-none s (e ∙ ap (λ (n : ℕ). is_some (unless_zero n)) z)
