use Rattle.rules.specs.Auctions.{close}
use Rattle.auctions.proofs.close.Goals as goal

pub push-requires : goal.push-requires
unfolding close
push-requires c = rw c.ended_record.ensures c.requires.room

pub returns : goal.returns
unfolding close
returns c = record { wrote = rw c.ended_record.ensures at c.push.ensures; state = c.put_auction.ensures }
