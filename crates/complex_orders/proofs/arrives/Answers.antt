use Rattle.std.proofs.Common.{◌∙◌, ap, ℕ}
use Rattle.std.specs.Prelude.{Option, unwrap_or}
use Rattle.nets.specs.Bests.{unless-zero-or}
use Rattle.complex_orders.specs.ComplexOrders.{arrives-waits, arrives-starts, arrives-idle, arrives-passes, arrives-shut, starts-found, idle-found}
use Rattle.base.specs.Pick.{told}
use Rattle.complex_orders.proofs.arrives.Goals as goal

pub returns-then-not-none_shut : goal.returns-then-not-none_shut
returns-then-not-none_shut c = c.rests.ensures ∙ arrives-shut _ _ _ _ _ (told c.none_shut.ensures c.if-not-none_shut.true)

pub returns-then-runs : goal.returns-then-runs
returns-then-runs c = c.waits.ensures ∙ arrives-waits _ _ _ _ _ (told c.none_shut.ensures c.if-not-none_shut.false) (told c.runs.ensures c.if-runs.true)

pub returns-then-starts : goal.returns-then-starts
returns-then-starts c = arrives-starts _ _ _ _ _ (told c.none_shut.ensures c.if-not-none_shut.false) (told c.runs.ensures c.if-runs.false) (told (starts-found _ _ _ c.requires.3 c.starts.ensures) c.if-starts.true)

pub returns-then-idle : goal.returns-then-idle
returns-then-idle c = c.rests-then-idle.ensures ∙ arrives-idle _ _ _ _ _ (told c.none_shut.ensures c.if-not-none_shut.false) (told c.runs.ensures c.if-runs.false) (told (starts-found _ _ _ c.requires.3 c.starts.ensures) c.if-starts.false) (told (idle-found _ _ _ _ c.requires.3 (ap (λ (n : Option ℕ). unwrap_or n 0) c.net_for.ensures ∙ unless-zero-or _) c.idle.ensures) c.if-idle.true)

pub returns : goal.returns
returns c = arrives-passes _ _ _ _ _ (told c.none_shut.ensures c.if-not-none_shut.false) (told c.runs.ensures c.if-runs.false) (told (starts-found _ _ _ c.requires.3 c.starts.ensures) c.if-starts.false) (told (idle-found _ _ _ _ c.requires.3 (ap (λ (n : Option ℕ). unwrap_or n 0) c.net_for.ensures ∙ unless-zero-or _) c.idle.ensures) c.if-idle.false)
