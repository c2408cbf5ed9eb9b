-- The sweep that a new one replaces.
use Rattle.std.specs.Prelude.{◌≡◌, List, ℕ, length, Option, position}
use Rattle.std.proofs.Common.{◌∙◌}
use Rattle.base.specs.Chains.{found, position-slots}
use Rattle.rules.specs.declared.Entry.{Entry}
use Rattle.rules.specs.State.{no_entry}
use Rattle.rules.specs.Events.{same_sweep, old_sweep}
use Rattle.tables.specs.Only.{only_entries}

pub old-is : (es : List Entry) (e : Entry) {k : Option ℕ} → length es ≡ 32 → k ≡ position (same_sweep e) es → k ≡ found 32 (old_sweep (only_entries es) e)
unfolding old_sweep
old-is es e n h = h ∙ position-slots no_entry (same_sweep e) es ∙ rw n
