-- The rules of fills and cancels by what the code tests.
use Rattle.std.specs.Prelude.{◌≡◌, [], ◌∷◌, ◌++◌, ℕ, set}
use Rattle.base.specs.Pick.{tests}
use Rattle.rules.specs.declared.Entry.{Entry}
use Rattle.rules.specs.declared.Record.{Record}
use Rattle.rules.specs.declared.State.{State}
use Rattle.rules.specs.State.{entry_at, strategy_of, with_entries}
use Rattle.rules.specs.Moves.{Moved, still}
use Rattle.records.specs.Space.{Appended, Room}
use Rattle.records.specs.Done.{Done, done-of, room_of}
use Rattle.rules.specs.Fills.{party_records, no_prices, cut_entry, cut, whole_fill, cancel_record, cancel_entry}
use Rattle.records.specs.declared.Records.{Records}

-- a fill of some units
unfoldable pub filled : State → ℕ → ℕ → ℕ → ℕ → Moved
filled b a h level q = record {
  state = cut (cut b a q) h q;
  records = party_records (entry_at b a) (strategy_of b (entry_at b a)) q level no_prices ++ party_records (entry_at b h) (strategy_of b (entry_at b a)) q level no_prices;
}

pub whole-some : (b : State) (a h level q : ℕ) → (q ≡ 0 → ⊥) → whole_fill b a h level q ≡ filled b a h level q
unfolding whole_fill filled
whole-some b a h level q e = search tests

-- a cancel of a live entry
unfoldable pub cancelled : ℕ → State → Moved
cancelled i b = record { state = cut b i (entry_at b i).units; records = cancel_record (entry_at b i) ∷ [] }

pub cancel-none : (i : ℕ) (b : State) → (entry_at b i).units ≡ 0 → cancel_entry i b ≡ still b
unfolding cancel_entry
cancel-none i b e = search tests

pub cancel-live : (i : ℕ) (b : State) → ((entry_at b i).units ≡ 0 → ⊥) → cancel_entry i b ≡ cancelled i b
unfolding cancel_entry cancelled
cancel-live i b e = search tests
