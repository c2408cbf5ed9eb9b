use Rattle.nets.specs.Bests.{price-folded, unless-by}
use Rattle.rules.specs.Nets.{price_with}
use Rattle.rules.specs.declared.LegOrder.{LegOrder}
use Rattle.std.specs.List.{fold}
use mathlib.Core.Path.{◌≡◌, ◌∙◌, ap}
use Prim.Native.Nat.{ℕ}
use Rattle.base.specs.Chains.{unless_zero}
use borrow.Author.Rules.{rules}
use Rattle.nets.proofs.price_of.Goals as goal

pub returns : goal.returns
returns c =
    let h : c.fold-p.result ≡ fold (λ (p : ℕ) (o : LegOrder). price_with c.args.s c.args.side p o) 0 c.args.os = search rules in
    c.then_some.ensures ∙ unless-by _ ∙ ap unless_zero (h ∙ price-folded _ _ _ (search rules))
