use Rattle.std.proofs.Common.{◌∙◌, sym, refl, arith}
use Rattle.base.specs.Walks.{stored-first, stored_next}
use Rattle.nets.specs.Bests.{unless-none, unless-some}
use Rattle.ranges.specs.Fit.{fit-leg}
use Rattle.national.specs.National.{walked-most, price-is, walked_all, walked-missing}
use Rattle.national.proofs.national_net.Goals as goal

pub loop-i-init : goal.loop-i-init
loop-i-init c = stored-first 6 _

pub bounds-qs-l : goal.bounds-qs-l
bounds-qs-l c = (fit-leg c.requires.1.legs _).series

pub returns-in_err-ps : goal.returns-in_err-ps
returns-in_err-ps c =
    rw c.from_residual.ensures (walked-missing _ _ _ c.requires.1.count c.loop-i-test.true (price-is _ _ _ refl) (unless-none _ (sym c.in_err-ps.was ∙ c.national_price.ensures)))

pub loop-i-preserved : goal.loop-i-preserved
loop-i-preserved c =
    stored_next 6 _ (omega (arith, c.requires.1.count)) (price-is _ _ _ (unless-some _ (sym c.in_ok-ps.was ∙ c.national_price.ensures)).0) c.loop-i.invariant

pub net_of-requires : goal.net_of-requires
net_of-requires c = (c.requires.1, walked-most _ _ c.args.s.legs c.loop-i.i c.requires.0 c.loop-i.invariant)

pub returns : goal.returns
returns c = c.net_of.ensures ∙ walked_all _ _ _ c.requires.1.count (omega arith) c.loop-i.invariant
