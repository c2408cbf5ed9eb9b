use Rattle.lines.specs.Places.{put-last-two}
use Rattle.lines.proofs.put_last_two.Goals as goal

pub returns : goal.returns
returns c = put-last-two _ c.put_byte-next.ensures c.put_byte.ensures
