use Rattle.std.proofs.Common.{rules}
use Rattle.lines.specs.Places.{put-known, put-unknown}
use Rattle.lines.proofs.put_net.Goals as goal

pub returns-in-Some : goal.returns-in-Some
returns-in-Some c = rw c.in-Some.is (put-known (search rules) c.put_signed.ensures)

pub returns-in-None : goal.returns-in-None
returns-in-None c = rw c.in-None.is (put-unknown c.put_byte-next.ensures c.put_byte.ensures)
