use Rattle.std.proofs.Common.{arith}
use Rattle.streams.specs.Texts.{drains_to-none, drains_to-all}
use Rattle.streams.proofs.drain_bytes.Goals as goal

pub returns-then-room-out : goal.returns-then-room-out
returns-then-room-out g c = drains_to-none _ _ _ (omega arith) c.requires.0 c.if-room-out.true

pub returns : goal.returns
returns g c = drains_to-all _ _ _ (omega arith) c.requires.1 c.if-room-out.false
