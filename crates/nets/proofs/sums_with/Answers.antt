use Rattle.nets.specs.Nets.{weight-most}
use Rattle.nets.specs.Legs.{sums_with}
use mathlib.Core.Path.{ap, ◌≡◌}
use Prim.Native.Nat.{ℕ, min, ◌+◌, ◌/◌}
use Rattle.rules.specs.Nets.{weight}
use native.Mathlib.Omega.{arith}
use Rattle.nets.proofs.sums_with.Goals as goal

pub overflow_add-result : goal.overflow_add-result
overflow_add-result c = omega (arith, weight-most 0 c.args.l c.args.b.price c.requires.0.ratio c.requires.2.price, c.weight.ensures, c.requires.3)

pub overflow_add-result-2 : goal.overflow_add-result-2
overflow_add-result-2 c = omega (arith, weight-most 1 c.args.l c.args.b.price c.requires.0.ratio c.requires.2.price, c.weight-2.ensures, c.requires.4)

pub returns : goal.returns
unfolding sums_with
returns c = rw (c.min.ensures, c.weight.ensures, c.weight-2.ensures)
    (ap (λ (u : ℕ). record { buys = c.args.n.buys + weight 0 c.args.l c.args.b.price; sells = c.args.n.sells + weight 1 c.args.l c.args.b.price; units = u }) (let h : min c.args.n.units (c.args.b.contracts / c.args.l.ratio) ≡ min (c.args.b.contracts / c.args.l.ratio) c.args.n.units = omega arith in h))
