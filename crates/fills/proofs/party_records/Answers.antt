use Rattle.rules.specs.Fills.{party_records}
use Rattle.records.specs.Space.{wrote-append, room-first, room_next}
use Rattle.fills.proofs.party_records.Goals as goal

pub push-requires : goal.push-requires
unfolding party_records
push-requires c = rw c.whole_record.ensures (room-first _ _ c.requires.room)

pub leg_records-requires : goal.leg_records-requires
unfolding party_records
leg_records-requires c = let first = rw c.whole_record.ensures at c.push.ensures in
    record { count_bound = c.requires.count_bound; room = room_next _ _ c.requires.room first }

pub returns : goal.returns
unfolding party_records
returns c = wrote-append (rw c.whole_record.ensures at c.push.ensures) c.leg_records.ensures
