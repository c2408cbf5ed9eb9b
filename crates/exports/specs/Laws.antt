-- The laws that the exports use.
use Rattle.std.specs.Prelude.{◌≡◌, List, ◌++◌, ℕ, ◌≤◌, ◌<◌, length, Result, Ok}
use Rattle.std.proofs.Common.{arith, take_at}
use Rattle.base.specs.Pick.{tests}
use Rattle.events.specs.Rows.{row_of, reading_number}
use Rattle.events.specs.Laws.{short-in, four-in}
use Rattle.events.specs.Cases.{length-row-of, kind-code, event-row}
use Rattle.frames.specs.Frames.{read_of, written_of}
use Rattle.frames.specs.Spaces.{accepted}
use Rattle.exports.specs.Exports.{values_of, event_in, values_after, answer_after, space_after, frame_read, frame_values, frame_write, frame_space, ReadOut, WriteOut}
use Rattle.events.specs.declared.Refusal.{Refusal}
use Rattle.events.specs.declared.Event.{Event}

-- the lengths that are answered are above 3, so that they are told from refusals
pub length-small : (e : Event) (room n : ℕ) → written_of e room ≡ Ok n → (4 ≤ n) × (n ≤ 23)
length-small e room n r =
    let a = accepted e room n r in
    (omega (arith, a.long, four-in e), omega (arith, a.long, short-in e a.fit))

-- The outcomes.
pub read_one : (f vs : List ℕ) → length vs < 20 → ReadOut f vs vs 1
unfolding frame_read frame_values
read_one f vs h = record { answer = search tests; values = search tests }

pub read_out : (f vs : List ℕ) {r : Result Event Refusal} {ws : List ℕ} → 20 ≤ length vs → r ≡ read_of f → ws ≡ values_after r vs → ReadOut f vs ws (reading_number r)
unfolding frame_read frame_values
read_out f vs h p q = rw (q, p) (record { answer = search tests; values = search tests })

pub write-three : (vs sp : List ℕ) → length vs < 20 → WriteOut vs sp sp 3
unfolding frame_write frame_space
write-three vs sp h = record { answer = search tests; space = search tests }

pub write-out : (vs sp : List ℕ) {r : Result Event Refusal} {n : ℕ} {sq : List ℕ} → 20 ≤ length vs → r ≡ event_in vs → n ≡ answer_after r (length sp) → sq ≡ space_after r sp → WriteOut vs sp sq n
unfolding frame_write frame_space
write-out vs sp h p q s = rw (q, s, p) (record { answer = search tests; space = search tests })

-- The numbers that the reader gives are the event that the writer takes.
pub event-values : (e : Event) (vs : List ℕ) → event_in (values_of e ++ vs) ≡ Ok e
unfolding event_in
event-values e vs = rw (take_at (row_of e) vs 19 (length-row-of e), kind-code e, event-row e)
