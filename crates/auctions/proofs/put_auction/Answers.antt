use mathlib.Core.Path.{refl}
use Rattle.auctions.specs.Auctions.{put_is}
use Rattle.auctions.proofs.put_auction.Goals as goal

pub returns : goal.returns
returns c = put_is _ _ _ _ _ refl
