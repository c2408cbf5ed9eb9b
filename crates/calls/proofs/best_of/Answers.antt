use Rattle.std.proofs.Common.{◌∙◌, ap}
use Rattle.std.specs.Option.{option_flatten}
use Rattle.calls.specs.Listings.{best-ok}
use Rattle.calls.proofs.best_of.Goals as goal

pub returns : goal.returns
returns c = c.flatten.ensures ∙ ap option_flatten c.ok.ensures.value ∙ best-ok c.args.depth
