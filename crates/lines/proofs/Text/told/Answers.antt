use Rattle.std.proofs.Common.{refl}
use Rattle.lines.specs.Places.{put-told}
use Rattle.lines.specs.Puts.{within-of}
use Rattle.lines.proofs.Text.told.Goals as goal

pub returns : goal.returns
returns c = within-of (put-told _ _ _ _ c.put_byte-at.ensures c.put_number-at.ensures c.put_net-at.ensures c.put_net-at-2.ensures c.put_byte-self.ensures) refl
