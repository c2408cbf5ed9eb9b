use Rattle.ranges.specs.Fit.{fit-entry}
use Rattle.rules.specs.Auctions.{begin}
use Rattle.auctions.proofs.begin.Goals as goal

pub push-requires : goal.push-requires
unfolding begin
push-requires c = rw c.begun_record.ensures c.requires.room

pub put_auction-requires : goal.put_auction-requires
put_auction-requires c = (fit-entry c.requires.i_lt_table_rows.1.entries c.args.i).strategy

pub returns : goal.returns
unfolding begin
returns c = record { wrote = rw c.begun_record.ensures at c.push.ensures; state = c.put_auction.ensures }
