-- proofs/Book/order/Answers.antt
use Rattle.std.proofs.Common.{◌≡◌, rules, refl}
use Rattle.book.specs.Outcomes.{took-refused}
use Rattle.book.specs.Premises.{order-asks, order-valid, order-took}
use Rattle.book.proofs.Book.order.Goals as goal

pub returns-in-Err : goal.returns-in-Err
returns-in-Err c = took-refused _ _ _ (c.args.self.valid, c.requires.0, c.requires.1) (rw c.in-Err.is at c.order_refusal.ensures)

pub on_order-requires : goal.on_order-requires
on_order-requires c = let p = order-asks _ _ c.args.space.now (c.args.self.valid, c.requires.0, c.requires.1) (rw c.in-Ok.is at c.order_refusal.ensures) c.order_given-row.ensures in record { b_bound = p.0; room = p.1 _ refl refl }

pub invariant_of-self : goal.invariant_of-self
invariant_of-self c = record { valid = order-valid _ _ c.args.space.now (c.args.self.valid, c.requires.0, c.requires.1) (rw c.in-Ok.is at c.order_refusal.ensures) c.order_given-row.ensures c.on_order.ensures }

pub returns : goal.returns
returns c =
    let left : c.space-1.given.0 ≡ c.on_order.new.records.space.now = search (rules, c.on_order.ensures.wrote.lent) in
    rw (c.accepted.ensures, left) (order-took _ _ c.args.space.now (c.args.self.valid, c.requires.0, c.requires.1) (rw c.in-Ok.is at c.order_refusal.ensures) c.order_given-row.ensures c.on_order.ensures refl refl)
