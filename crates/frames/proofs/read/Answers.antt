use Rattle.std.proofs.Common.{sym, ap, ◌∙◌}
use Rattle.events.specs.Kinds.{kind_of}
use Rattle.frames.specs.Frames.{kind_at}
use Rattle.frames.specs.Carried.{exit}
use Rattle.frames.specs.Codec.{read_short, read-size, read-unknown, read-long, read-carried}
use Rattle.frames.proofs.read.Goals as goal
use Rattle.frames.proofs.read.Goals.{then-n-lt4-via-then-n-lt4, then-n-lt4-via-else-n-lt4+then-number-n}

pub returns-then-n-lt4 : goal.returns-then-n-lt4
returns-then-n-lt4 c = elim c.then-n-lt4.branch [
  | then-n-lt4-via-then-n-lt4 w ↦ sym (read_short _ w.if-n-lt4.true)
  | then-n-lt4-via-else-n-lt4+then-number-n w ↦ sym (read-size _ w.if-n-lt4.false (λ e. w.if-number-n.true (w.number.ensures ∙ e)))
]

pub returns-in_err-kind : goal.returns-in_err-kind
unfolding kind_at
returns-in_err-kind c =
    exit c.from_residual.ensures.1
    ∙ sym (read-unknown _ c.if-n-lt4.false (sym c.number.ensures ∙ c.if-number-n.false) (ap kind_of (sym c.number-2.ensures) ∙ sym c.in_err-kind.ensures))

pub returns-then-length_of-n : goal.returns-then-length_of-n
unfolding kind_at
returns-then-length_of-n c =
    sym (read-long _ (ap kind_of (sym c.number-2.ensures) ∙ sym c.in_ok-kind.ensures) c.if-n-lt4.false (sym c.number.ensures ∙ c.if-number-n.false)
    (λ e. c.if-length_of-n.true (c.length_of.ensures ∙ rw c.count_at.ensures e)))

pub carried-requires : goal.carried-requires
carried-requires c = record { four = c.if-n-lt4.false; long = rw (← c.count_at.ensures) (sym c.length_of.ensures ∙ c.if-length_of-n.false) }

pub returns : goal.returns
unfolding kind_at
returns c =
    c.carried.ensures
    ∙ sym (read-carried _ (ap kind_of (sym c.number-2.ensures) ∙ sym c.in_ok-kind.ensures) (sym c.number.ensures ∙ c.if-number-n.false)
    (record { four = c.if-n-lt4.false; long = rw (← c.count_at.ensures) (sym c.length_of.ensures ∙ c.if-length_of-n.false) }))
