use Rattle.matching.specs.Places.{search-asks}
use Rattle.matching.proofs.all_leg_passes.Goals as goal

pub next_pass-first-requires : goal.next_pass-first-requires
next_pass-first-requires c = search-asks c.requires.fit
