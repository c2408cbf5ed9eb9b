use Rattle.nets.specs.Nets.{net-unknown, net-known, weighed-most}
use Rattle.base.specs.Pick.{told}
use native.Mathlib.Omega.{arith}
use Rattle.nets.proofs.net_of.Goals as goal

pub overflow_add-result : goal.overflow_add-result
overflow_add-result c = omega (arith, weighed-most 0 _ _ c.requires.0.legs c.requires.1 c.args.s.count, c.weighed.ensures, c.requires.0.count)

pub overflow_sub-result : goal.overflow_sub-result
overflow_sub-result c = omega (arith, weighed-most 1 _ _ c.requires.0.legs c.requires.1 c.args.s.count, c.weighed-then-known.ensures, c.requires.0.count)

pub returns-then-known : goal.returns-then-known
returns-then-known c = net-known _ _ (told c.known.ensures c.if-known.true) c.weighed.ensures c.weighed-then-known.ensures

pub returns-else-known : goal.returns-else-known
returns-else-known c = net-unknown _ _ (told c.known.ensures c.if-known.false)
