use borrow.Author.Rules.{rules}
use Rattle.quotas.specs.Laws.{limit-none, limit-some}
use Rattle.quotas.proofs.best_opposite.Goals as goal

pub returns-then-x-eq0 : goal.returns-then-x-eq0
returns-then-x-eq0 c = limit-none _ _ (search rules) _ (search rules) c.if-x-eq0.true

pub returns-else-x-eq0 : goal.returns-else-x-eq0
returns-else-x-eq0 c = limit-some _ _ (search rules) _ (search rules) c.if-x-eq0.false
