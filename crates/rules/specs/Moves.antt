-- Moves of the state: what a rule makes of it, and the records that it writes.
use Rattle.std.specs.Prelude.{List, [], ◌++◌, ℕ, zero, suc}
use Rattle.rules.specs.declared.State.{State}
use Rattle.rules.specs.declared.Record.{Record}

pub record Moved : Type 0 where
  pub state : State
  pub records : List Record

-- nothing moves
abbrev pub still : State → Moved
still b = record { state = b; records = [] }

-- a move, and another from where it led
unfoldable pub and_then : Moved → (State → Moved) → Moved
and_then m f =
    let r : Moved = f m.state in
    record { state = r.state; records = m.records ++ r.records }

-- a move at each of the first k slots, one after the other
unfoldable pub each : (ℕ → State → Moved) → ℕ → State → Moved
each f zero b = still b
each f (suc k) b = and_then (each f k b) (f k)
