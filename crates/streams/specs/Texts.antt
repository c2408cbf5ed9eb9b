-- The text that waits to be written out.
use Rattle.std.specs.Prelude.{◌≡◌, Bool, true, false, ℕ, ◌+◌, ◌-◌, ◌≤◌, ◌<◌, leb, length, refl, List}
use Rattle.std.proofs.Common.{ap, arith, MutBor}
use Rattle.base.specs.Pick.{pick, tests}
use Rattle.lines.specs.declared.Text.{Text}

-- the end of a text in a space of n bytes: the text goes out where less than the room is left behind it
unfoldable pub end_after : ℕ → ℕ → ℕ → ℕ
end_after used room n = pick (leb room (n - used)) used 0

-- its end where the next read may wait: all of it goes out where nothing whole is left of the input
abbrev pub end_before : Bool → ℕ → ℕ → ℕ → ℕ
end_before more used room n = pick more (end_after used room n) 0

-- a text of `used` bytes in a space of n ends at `next`: there is room again
pub record DrainsTo (used need n next : ℕ) : Type 0 where
  pub place : next ≡ end_after used need n
  pub room : next + need ≤ n

-- .. there is room again, and nothing waits where the next read may
pub record SettlesTo (more : Bool) (used need n next : ℕ) : Type 0 where
  pub place : next ≡ end_before more used need n
  pub room : next + need ≤ n

-- there is room again, in the same space
pub record Drains (s q : Text) (need : ℕ) : Type 0 where
  pub place : q.used ≡ end_after s.used need (length s.out.now)
  pub room : q.used + need ≤ length q.out.now
  pub space : q.out ≡ s.out

-- there is room again, and nothing waits where the next read may
pub record Settles (s q : Text) (more : Bool) (need : ℕ) : Type 0 where
  pub place : q.used ≡ end_before more s.used need (length s.out.now)
  pub room : q.used + need ≤ length q.out.now
  pub space : q.out ≡ s.out

-- laws

pub drains_to-none : (used room n : ℕ) {next : ℕ} → next ≡ used → used ≤ n → room ≤ n - used → DrainsTo used room n next
unfolding end_after
drains_to-none used room n e h l = record { place = rw e (search tests); room = omega arith }

pub drains_to-all : (used room n : ℕ) {next : ℕ} → next ≡ 0 → room ≤ n → n - used < room → DrainsTo used room n next
unfolding end_after
drains_to-all used room n e h l = record { place = rw e (search tests); room = omega arith }

pub settles_to-more : {more : Bool} {used room n next : ℕ} → more ≡ true → DrainsTo used room n next → SettlesTo more used room n next
unfolding pick
settles_to-more e d = rw e (record { place = d.place; room = d.room })

pub settles_to-all : {more : Bool} {used room least n next : ℕ} → more ≡ false → room ≤ n → n ≤ least → DrainsTo used least n next → SettlesTo more used room n next
unfolding pick
settles_to-all {next = next} e h l d =
    let z : next ≡ 0 = omega (arith, d.room) in
    rw e (record { place = z; room = rw z (omega arith) })

pub settled_to-none : {more : Bool} {used room n next : ℕ} → SettlesTo more used room n next → more ≡ false → next ≡ 0
unfolding pick
settled_to-none s e = rw e at s.place

-- of a text in the same space
module _ {s q : Text} (f : q.out ≡ s.out) where
  pub drains-by : {room : ℕ} → DrainsTo s.used room (length s.out.now) q.used → Drains s q room
  drains-by d = record { place = d.place; room = rw f d.room; space = f }

  pub settles-by : {more : Bool} {room : ℕ} → SettlesTo more s.used room (length s.out.now) q.used → Settles s q more room
  settles-by d = record { place = d.place; room = rw f d.room; space = f }

pub drains-none : (s : Text) (room : ℕ) → room ≤ length s.out.now - s.used → Drains s s room
drains-none s room l = drains-by refl (drains_to-none s.used room (length s.out.now) refl s.inside l)

pub drains_all : (s q : Text) (room : ℕ) → q.used ≡ 0 → q.out ≡ s.out → room ≤ length s.out.now → length s.out.now - s.used < room → Drains s q room
drains_all s q room e f h l = drains-by f (drains_to-all s.used room (length s.out.now) e h l)

pub settles-more : {s q : Text} {more : Bool} {room : ℕ} → more ≡ true → Drains s q room → Settles s q more room
unfolding pick
settles-more e d = rw e (record { place = d.place; room = d.room; space = d.space })

pub settles-all : {s q : Text} {more : Bool} {room : ℕ} → more ≡ false → room ≤ length s.out.now → Drains s q (length s.out.now) → Settles s q more room
unfolding pick
settles-all {s} {q} e h d =
    let z : q.used ≡ 0 = omega (arith, d.room, ap (λ (x : MutBor (List ℕ)). length x.now) d.space) in
    rw e (record { place = z; room = rw (z, d.space) (omega arith); space = d.space })

pub settled-none : {s q : Text} {more : Bool} {room : ℕ} → Settles s q more room → more ≡ false → q.used ≡ 0
unfolding pick
settled-none s e = rw e at s.place
