-- proofs/Book/leg_order/Answers.antt
use Rattle.std.proofs.Common.{◌≡◌, rules, refl}
use Rattle.book.specs.Outcomes.{took-refused}
use Rattle.book.specs.Premises.{leg-asks, leg-valid, leg-took}
use Rattle.book.proofs.Book.leg_order.Goals as goal

pub returns-in-Err : goal.returns-in-Err
returns-in-Err c = took-refused _ _ _ (c.args.self.valid, c.requires.0, c.requires.1) (rw c.in-Err.is at c.leg_order_refusal.ensures)

pub on_leg_order-requires : goal.on_leg_order-requires
on_leg_order-requires c = let p = leg-asks _ _ c.args.space.now (c.args.self.valid, c.requires.0, c.requires.1) (rw c.in-Ok.is at c.leg_order_refusal.ensures) c.leg_order_given-row.ensures in record { b_bound = p.0; room = p.1 _ refl refl }

pub invariant_of-self : goal.invariant_of-self
invariant_of-self c = record { valid = leg-valid _ _ c.args.space.now (c.args.self.valid, c.requires.0, c.requires.1) (rw c.in-Ok.is at c.leg_order_refusal.ensures) c.leg_order_given-row.ensures c.on_leg_order.ensures }

pub returns : goal.returns
returns c =
    let left : c.space-1.given.0 ≡ c.on_leg_order.new.records.space.now = search (rules, c.on_leg_order.ensures.wrote.lent) in
    rw (c.accepted.ensures, left) (leg-took _ _ c.args.space.now (c.args.self.valid, c.requires.0, c.requires.1) (rw c.in-Ok.is at c.leg_order_refusal.ensures) c.leg_order_given-row.ensures c.on_leg_order.ensures refl refl)
