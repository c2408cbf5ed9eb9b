-- The demands are no empty talk: for every list of frames and spaces, from a book of every timer, there is a list of calls that the entry's
-- contract allows.
use mathlib.Core.Path.{◌≡◌, refl, sym, ◌∙◌, ap}
use mathlib.Core.Bool.{Bool, true, false}
use mathlib.Core.List.{List, [], ◌∷◌, map}
use Prim.Native.Nat.{ℕ, ◌*◌, ◌≤◌}
use native.Mathlib.Omega.{arith}
use borrow.Author.Tests.{eqb-true, eqb-false}
use lib.Dec.{eqb}
use lib.IntN.{ℤ}
use lib.ListN.{length}
use lib.Seq.{length-sets}
use Rattle.rules.specs.State.{fresh}
use Rattle.rules.specs.Step.{Outcome, step, answer_of, answer_number, answer_value, answer_count}
use Rattle.rules.proofs.Room.{room}
use Rattle.rules.proofs.Validity.{valid-fresh, valid-step}
use Rattle.records.specs.Space.{laid, numbers}
use Rattle.book.specs.declared.Book.{Book}
use Rattle.events.specs.Refusals.{refusal_of, number-refusal}
use Rattle.rules.proofs.Answers.{answer-most, answer-none, answer-some, answer-number}
use Rattle.book.specs.Books.{Stepped}
use Rattle.book.specs.Calls.{Call, Calls, no_call, a_call}
use Rattle.book.proofs.Demands.{quiet}

-- what a caller sends: any bytes, and a record space of any numbers
pub record Request : Type 0 where
  pub frame : List ℕ
  pub space : List ℤ

-- what he sent with a call
abbrev pub request_of : Call → Request
request_of c = record { frame = c.frame; space = c.space }

-- calls of the entry, one for each request, one after the other
pub record Exists (b : Book) (qs : List Request) : Type 0 where
  pub calls : List Call
  pub end : Book
  pub requests : map request_of calls ≡ qs
  pub made : Calls b calls end

-- the answer and the space that the rules give
module _ (b : Book) (q : Request) where
  abbrev came : Outcome
  came = step b.state q.frame (length q.space)

  abbrev given : Book
  given = record { state = came.moved.state; valid = valid-step b.state b.valid q.frame (length q.space) }

  abbrev leaves : List ℤ
  leaves = laid q.space 0 came.moved.records

  -- the answer by its number, value and count
  record Tells : Type 0 where
    number : answer_number (answer_of came) ≡ came.answer
    value : answer_value (answer_of came) ≡ came.value
    count : answer_count (answer_of came) ≡ length came.moved.records

  tells : Tells
  unfolding answer_value answer_count
  tells = go (eqb came.answer 0) refl
    where
      most : came.answer ≤ 15
      most = answer-most b.state q.frame (length q.space)

      go : (t : Bool) → eqb came.answer 0 ≡ t → Tells
      go true t =
          let e = answer-none came (eqb-true _ _ t) in
          record { number = answer-number came most; value = ap answer_value e; count = ap answer_count e }
      go false t =
          let n = eqb-false _ _ t in
          let e = answer-some came (refusal_of came.answer) (sym (number-refusal came.answer (omega arith) most)) in
          let z = quiet b.state q.frame (length q.space) n in
          record { number = answer-number came most; value = ap answer_value e ∙ sym z.0; count = ap answer_count e ∙ sym (ap length z.1) }

  handed : Stepped b.state q.frame q.space leaves given.state (answer_of came)
  unfolding laid
  handed = record {
    answer = refl;
    number = tells.number;
    value = tells.value;
    count = tells.count;
    state = refl;
    space = refl;
    few = rw tells.count (room b.state b.valid.sound q.frame (length q.space));
    same = length-sets q.space (0 * 6) (numbers came.moved.records);
  }

-- every list of requests, from every book
pub calls-exist : (b : Book) (qs : List Request) → Exists b qs
calls-exist b [] = record { calls = []; end = b; requests = refl; made = no_call b }
calls-exist b (q ∷ qs) =
    let r : Exists (given b q) qs = calls-exist (given b q) qs in
    record {
      calls = record { frame = q.frame; space = q.space; left = leaves b q; answer = answer_of (came b q) } ∷ r.calls;
      end = r.end;
      requests = ap (λ (ys : List Request). q ∷ ys) r.requests;
      made = a_call b q.frame q.space (leaves b q) (given b q) (answer_of (came b q)) (handed b q) r.calls r.end r.made;
    }

-- .. from a fresh book of every timer
pub calls-exist-fresh : (timer : ℕ) (low : 1 ≤ timer) (high : timer ≤ 5000) (qs : List Request) → Exists (record { state = fresh timer; valid = valid-fresh timer low high }) qs
calls-exist-fresh timer low high qs = calls-exist (record { state = fresh timer; valid = valid-fresh timer low high }) qs
