use Rattle.std.proofs.Common.{◌≡◌, ◌+◌, ◌*◌, length, drop}
use Rattle.std.specs.Iterator.Adapters.{take_source, take_count}
use Rattle.std.specs.Slice.Iter.{chunks_exact_rest, chunks_exact_size}
use Rattle.lines.specs.Places.{Listing}
use Rattle.lines.proofs.Text.records.Given as goal

abbrev pub invariant-loop-record : goal.invariant-loop-record
invariant-loop-record l =
    Listing l.space l.fn.self.out.now l.out l.fn.self.used l.at (length l.yielded)
    × (chunks_exact_rest (take_source l.record-iterator) ≡ drop (length l.yielded * 6) l.space)
    × (chunks_exact_size (take_source l.record-iterator) ≡ 6)
    × (take_count l.record-iterator + length l.yielded ≡ l.n)
