-- The calls of the entry as its caller sees them, and the buyer's three demands of them.
use Rattle.std.specs.Prelude.{◌≡◌, true, false, List, [], ◌∷◌, ◌++◌, map, ℕ, zero, suc, ◌*◌, ◌≤◌, ◌<◌, ℤ, pos, length, get_or, take, drop, Result, Ok, Err}
use Rattle.std.specs.Int.Signed.{mag}
use Rattle.base.specs.All.{All}
use Rattle.events.specs.Refusals.{refusal_number}
use Rattle.events.specs.declared.Refusal.{Refusal}
use Rattle.events.specs.declared.Event.{Event}
use Rattle.frames.specs.Number.{Bytes}
use Rattle.frames.specs.Frames.{read_of, written_of, space_of, Wrote}
use Rattle.rules.specs.declared.State.{State}
use Rattle.rules.specs.declared.Accepted.{Accepted}
use Rattle.rules.specs.State.{first}
use Rattle.rules.specs.Refusals.{rank, applies, table_of}
use Rattle.rules.specs.Step.{step, answer_of, answer_number, answer_value, answer_count}
use Rattle.rules.specs.Records.{Line, numbers_of}
use Rattle.rules.specs.Totals.{Logged, OneDay, Totals}
use Rattle.records.specs.Space.{laid}
use Rattle.book.specs.declared.Book.{Book}
use Rattle.book.specs.Books.{Stepped}

-- "A first book has timer 5,000, clock 0, all shut, its tables empty and no number given."
abbrev pub First : Book → Type 0
First b = b.state ≡ first

-- a call: the frame, the space before and after it, and the answer
pub record Call : Type 0 where
  pub frame : List ℕ
  pub space : List ℤ
  pub left : List ℤ
  pub answer : Result Accepted Refusal

-- calls one after the other, each with the book that the one before left; nothing is known of a call but the entry's contract
pub data Calls : Book → List Call → Book → Type 0 where
  no_call : (b : Book) → Calls b [] b
  a_call : (b : Book) (frame : List ℕ) (s t : List ℤ) (c : Book) (x : Result Accepted Refusal) → Stepped b.state frame s t c.state x → (cs : List Call) (end : Book) → Calls c cs end →
      Calls b (record { frame = frame; space = s; left = t; answer = x } ∷ cs) end

-- a record as it stands at the start of a space: "Six signed 32-bit numbers each: kind, order number, place, side, quantity, price."
abbrev pub line_in : List ℤ → Line
line_in t = record {
  kind = mag (get_or t 0 (pos 0));
  number = mag (get_or t 1 (pos 0));
  place = mag (get_or t 2 (pos 0));
  side = mag (get_or t 3 (pos 0));
  quantity = mag (get_or t 4 (pos 0));
  price = get_or t 5 (pos 0);
}

-- the records that the space holds, as many as the answer says
unfoldable pub lines_in : ℕ → List ℤ → List Line
lines_in zero t = []
lines_in (suc n) t = line_in t ∷ lines_in n (drop 6 t)

-- the numbers that lines stand for, six each
unfoldable pub numbers_in : List Line → List ℤ
numbers_in [] = []
numbers_in (l ∷ ls) = numbers_of l ++ numbers_in ls

-- every number of a call's records, as it stands in the space, is the number that was read: none has another sign
abbrev pub ReadWhole : Call → Type 0
ReadWhole c = numbers_in (lines_in (answer_count c.answer) c.left) ≡ take (answer_count c.answer * 6) c.left

-- what the caller sees of a call: the event that he sent, the answer, its value, and the records in his space
abbrev pub seen : Call → Logged
seen c = record {
  reading = read_of c.frame;
  answer = answer_number c.answer;
  value = answer_value c.answer;
  lines = lines_in (answer_count c.answer) c.left;
}

-- DEMAND 1, of a call with book b: accepted, and no cause of the table applies; or the first refusal that applies in the order in which they are
-- checked, and then neither the book nor the space is changed.
pub record Answers (b : State) (frame : List ℕ) (s t : List ℤ) (c : State) (x : Result Accepted Refusal) : Type 0 where
  pub accepted : (a : Accepted) → x ≡ Ok a → (n : ℕ) → applies (table_of b (read_of frame) (length s)) n ≡ false
  pub refused : (r : Refusal) → x ≡ Err r →
      (applies (table_of b (read_of frame) (length s)) (refusal_number r) ≡ true)
      × ((m : ℕ) → rank m < rank (refusal_number r) → applies (table_of b (read_of frame) (length s)) m ≡ false)
      × (c ≡ b)
      × (t ≡ s)

-- DEMAND 2, of a call: the answer, the book and each number of the space are those that the rules give; and of the codec, in the demand's
-- words: "Write-then-read gives the event again, and each frame that reads as an event is the frame written for it", byte for byte.
pub record Exact (b : State) (frame : List ℕ) (s t : List ℤ) (c : State) (x : Result Accepted Refusal) : Type 0 where
  pub answer : x ≡ answer_of (step b frame (length s))
  pub state : c ≡ (step b frame (length s)).moved.state
  pub space : t ≡ laid s 0 (step b frame (length s)).moved.records
  pub written_read : (e : Event) (sp : List ℕ) (n : ℕ) → written_of e (length sp) ≡ Ok n → read_of (take n (space_of e sp)) ≡ Ok e
  pub read-written : (f : List ℕ) → Bytes f → (e : Event) → read_of f ≡ Ok e → (sp : List ℕ) → length f ≤ length sp → Wrote e sp (f ++ drop (length f) sp) (Ok (length f))

-- DEMAND 3, of a list of calls: the totals, and the claims of the requests, hold of what the caller saw, with nothing after an accepted day end; and what he saw
-- is every number that his spaces hold of the records.
pub record TotalsHold (cs : List Call) (end : Book) : Type 0 where
  pub whole : All ReadWhole cs
  pub totals : OneDay (map seen cs) → Totals (map seen cs) end.state
