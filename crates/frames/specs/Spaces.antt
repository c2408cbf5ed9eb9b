-- What the writer leaves in the space that it is lent.
use Rattle.std.specs.Prelude.{◌≡◌, ℕ, ◌≤◌, true, List, ◌++◌, length, take, drop, nat_lt, refl, Result, Ok, Err}
use Rattle.std.proofs.Common.{arith, ltb-false, take_at, drop_at}
use Rattle.base.specs.Pick.{pick-by, pick-both, tests}
use Rattle.events.specs.Rows.{fitting, length_in}
use Rattle.frames.specs.Frames.{frame_of, written_of, space_of}
use Rattle.frames.specs.Codec.{length-frame}
use Rattle.events.specs.declared.Refusal.{Refusal}
use Rattle.events.specs.declared.Event.{Event}

-- what an accepted writing says of the event and the space
pub record Accepted (e : Event) (room n : ℕ) : Type 0 where
  pub fit : fitting e ≡ true
  pub room_for : length_in e ≤ room
  pub long : n ≡ length_in e

pub accepted : (e : Event) (room n : ℕ) → written_of e room ≡ Ok n → Accepted e room n
unfolding written_of
accepted e room n =
    let P : Result ℕ Refusal → Type 0 = λ (w : Result ℕ Refusal). w ≡ Ok n → Accepted e room n in
    pick-by P (fitting e)
    (λ fit.
    pick-by P (nat_lt room (length_in e))
    (λ _ r. absurd (let z : ◌≡◌ {A = ℕ} 0 1 = cc in omega arith))
    (λ short r. record { fit = fit; room_for = ltb-false room (length_in e) short; long = cc }))
    (λ _ r. absurd (let z : ◌≡◌ {A = ℕ} 0 1 = cc in omega arith))

module _ (e : Event) (sp : List ℕ) where
  pub written_is : fitting e ≡ true → length_in e ≤ length sp → written_of e (length sp) ≡ Ok (length_in e)
  unfolding written_of
  written_is t h = search tests

  pub space-is : fitting e ≡ true → length_in e ≤ length sp → space_of e sp ≡ frame_of e ++ drop (length_in e) sp
  unfolding space_of
  space-is t h = search tests

  -- the frame is what stands in its place
  pub written-frame : fitting e ≡ true → length_in e ≤ length sp → take (length_in e) (space_of e sp) ≡ frame_of e
  written-frame t h = rw (space-is t h) (take_at (frame_of e) (drop (length_in e) sp) (length_in e) (length-frame e t))

  -- "the space past the frame is unchanged"
  pub unwritten-past : (n : ℕ) → written_of e (length sp) ≡ Ok n → drop n (space_of e sp) ≡ drop n sp
  unwritten-past n r =
      let a = accepted e (length sp) n r in
      rw (a.long, space-is a.fit a.room_for) (drop_at (frame_of e) (drop (length_in e) sp) (length_in e) (length-frame e a.fit))

  -- a refusal's "left as it was": the space
  pub unwritten : (r : Refusal) → written_of e (length sp) ≡ Err r → space_of e sp ≡ sp
  unfolding written_of space_of
  unwritten r =
      pick-both (λ (w : Result ℕ Refusal) (q : List ℕ). w ≡ Err r → q ≡ sp) (fitting e)
      (pick-both (λ (w : Result ℕ Refusal) (q : List ℕ). w ≡ Err r → q ≡ sp) (nat_lt (length sp) (length_in e))
      (λ _. refl)
      (λ w. absurd (let z : ◌≡◌ {A = ℕ} 0 1 = cc in omega arith)))
      (λ _. refl)
