use Rattle.records.specs.Space.{wrote-append, room-first, room_next}
use Rattle.fills.proofs.fill_records.Goals as goal

pub party_records-requires : goal.party_records-requires
party_records-requires c = record { count_bound = c.requires.count_bound; room = room-first _ _ c.requires.room }

pub party_records-requires-2 : goal.party_records-requires-2
party_records-requires-2 c = record { count_bound = c.requires.count_bound; room = room_next _ _ c.requires.room c.party_records.ensures }

pub returns : goal.returns
returns c = wrote-append c.party_records.ensures c.party_records-2.ensures
