-- proofs/Book/sweep/Answers.antt
use Rattle.std.proofs.Common.{◌≡◌, rules, refl}
use native.Mathlib.Omega.{arith}
use Rattle.book.specs.Outcomes.{took-refused}
use Rattle.book.specs.Premises.{sweep-asks, sweep-valid, sweep-took}
use Rattle.book.proofs.Book.sweep.Goals as goal

pub sweep_refusal-requires : goal.sweep_refusal-requires
sweep_refusal-requires c = (c.requires.0, omega (arith, c.args.self.valid.sound.last), c.args.self.valid.sound)

pub returns-in-Err : goal.returns-in-Err
returns-in-Err c = took-refused _ _ _ (c.args.self.valid, c.requires.0, c.requires.1) (rw c.in-Err.is at c.sweep_refusal.ensures)

pub on_sweep-requires : goal.on_sweep-requires
on_sweep-requires c = let p = sweep-asks _ _ c.args.space.now (c.args.self.valid, c.requires.0, c.requires.1) (rw c.in-Ok.is at c.sweep_refusal.ensures) c.sweep_given-row.ensures in record { may_enter = p.0; room = p.1 _ refl refl }

pub invariant_of-self : goal.invariant_of-self
invariant_of-self c = record { valid = sweep-valid _ _ c.args.space.now (c.args.self.valid, c.requires.0, c.requires.1) (rw c.in-Ok.is at c.sweep_refusal.ensures) c.sweep_given-row.ensures c.on_sweep.ensures }

pub returns : goal.returns
returns c =
    let left : c.space-1.given.0 ≡ c.on_sweep.new.records.space.now = search (rules, c.on_sweep.ensures.wrote.lent) in
    rw (c.accepted.ensures, left) (sweep-took _ _ c.args.space.now (c.args.self.valid, c.requires.0, c.requires.1) (rw c.in-Ok.is at c.sweep_refusal.ensures) c.sweep_given-row.ensures c.on_sweep.ensures refl refl c.number_taken.ensures)
