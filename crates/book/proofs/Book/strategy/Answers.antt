-- proofs/Book/strategy/Answers.antt
use Rattle.std.proofs.Common.{refl}
use Rattle.base.specs.Pick.{told}
use Rattle.book.specs.Outcomes.{took-still, took-refused, rule-valid}
use Rattle.book.specs.Premises.{number-most, strategy-ill, strategy-held, strategy-full, strategy-new, strategy-value, strategy-legs}
use Rattle.book.proofs.Book.strategy.Goals as goal

pub returns-then-ill_formed : goal.returns-then-ill_formed
returns-then-ill_formed c = λ s l. took-refused _ _ s (c.args.self.valid, c.requires, l) (strategy-ill _ _ (told c.ill_formed.ensures c.if-ill_formed.true))

pub returns-then-k-n : goal.returns-then-k-n
returns-then-k-n c = λ s l.
    let h = strategy-held _ _ (told c.ill_formed.ensures c.if-ill_formed.false) c.strategy_given-s.ensures c.number_of-k.ensures c.if-k-n.true in
    rw c.accepted.ensures (took-still _ _ s (c.args.self.valid, c.requires, l) h.0 h.1 refl (strategy-value _ _ c.strategy_given-s.ensures c.number_of-k.ensures))

pub returns-then-n-ge-STRATEGIES : goal.returns-then-n-ge-STRATEGIES
returns-then-n-ge-STRATEGIES c = λ s l.
    took-refused _ _ s (c.args.self.valid, c.requires, l) (strategy-full _ _ (told c.ill_formed.ensures c.if-ill_formed.false) c.strategy_given-s.ensures c.number_of-k.ensures c.if-k-n.false c.if-n-ge-STRATEGIES.true)

pub add-self-requires : goal.add-self-requires
add-self-requires c = (c.args.self.valid, strategy-legs _ c.requires (told c.ill_formed.ensures c.if-ill_formed.false) c.strategy_given-s.ensures)

pub overflow_cast-k-2 : goal.overflow_cast-k-2
overflow_cast-k-2 c = record { fits = number-most _ _ c.number_of-k.ensures c.args.self.valid.sound.defined }

pub invariant_of-self : goal.invariant_of-self
invariant_of-self c =
    let h = strategy-new _ _ (told c.ill_formed.ensures c.if-ill_formed.false) c.strategy_given-s.ensures c.number_of-k.ensures c.if-k-n.false c.if-n-ge-STRATEGIES.false c.add-self.ensures in
    record { valid = rule-valid _ _ c.args.self.valid c.requires h.0 h.1 }

pub returns : goal.returns
returns c = λ s l.
    let h = strategy-new _ _ (told c.ill_formed.ensures c.if-ill_formed.false) c.strategy_given-s.ensures c.number_of-k.ensures c.if-k-n.false c.if-n-ge-STRATEGIES.false c.add-self.ensures in
    rw c.accepted-2.ensures (took-still _ _ s (c.args.self.valid, c.requires, l) h.0 h.1 refl (strategy-value _ _ c.strategy_given-s.ensures c.number_of-k.ensures))
