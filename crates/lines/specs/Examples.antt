-- Lines of document 01's example, and ends of the input.
use Rattle.std.specs.Prelude.{◌≡◌, refl, [], ◌∷◌, pos, negsuc, Ok, Err}
use Rattle.base.specs.Pick.{pick}
use Rattle.frames.specs.Number.{number}
use Rattle.rules.specs.Lookups.{known, unknown}
use Rattle.rules.specs.Step.{answer_number, answer_value, answer_count}
use Rattle.events.specs.declared.Refusal.TheVariants.{BadFrame}
use Rattle.lines.specs.Cuts.{told_length, cut_of}
use Rattle.lines.specs.Lines.{digits, decimal, signed, spaced, text_line, event_line, net_text, told_line}

-- 0, 1024 and -94
zero-text : decimal 0 ≡ 48 ∷ []
unfolding digits decimal pick
zero-text = refl

long-text : decimal 1024 ≡ 49 ∷ (48 ∷ (50 ∷ (52 ∷ [])))
unfolding digits decimal pick
long-text = refl

below-text : signed (negsuc 93) ≡ 45 ∷ (57 ∷ (52 ∷ []))
unfolding digits decimal signed pick
below-text = refl

-- `E 5 0 3 5`
event-text : event_line 5 (Ok (record { value = 3; records = 5 })) ≡ 69 ∷ (32 ∷ (53 ∷ (32 ∷ (48 ∷ (32 ∷ (51 ∷ (32 ∷ (53 ∷ (10 ∷ [])))))))))
unfolding event_line answer_number answer_value answer_count text_line spaced signed decimal digits pick
event-text = refl

-- `E 6 2 0 0`
refusal-text : event_line 6 (Err BadFrame) ≡ 69 ∷ (32 ∷ (54 ∷ (32 ∷ (50 ∷ (32 ∷ (48 ∷ (32 ∷ (48 ∷ (10 ∷ [])))))))))
unfolding event_line answer_number answer_value answer_count text_line spaced signed decimal digits pick
refusal-text = refl

-- `R 2 1 0 1 2 300`
record-text :
    text_line 82 (pos 2 ∷ (pos 1 ∷ (pos 0 ∷ (pos 1 ∷ (pos 2 ∷ (pos 300 ∷ []))))))
    ≡ 82 ∷ (32 ∷ (50 ∷ (32 ∷ (49 ∷ (32 ∷ (48 ∷ (32 ∷ (49 ∷ (32 ∷ (50 ∷ (32 ∷ (51 ∷ (48 ∷ (48 ∷ (10 ∷ [])))))))))))))))
unfolding text_line spaced signed decimal digits pick
record-text = refl

-- `N 0 197 206` and `N 3 -15 -`
told_text : told_line 78 0 (known (pos 197)) (known (pos 206)) ≡ 78 ∷ (32 ∷ (48 ∷ (32 ∷ (49 ∷ (57 ∷ (55 ∷ (32 ∷ (50 ∷ (48 ∷ (54 ∷ (10 ∷ [])))))))))))
unfolding told_line net_text signed decimal digits pick
told_text = refl

unknown-text : told_line 78 3 (known (negsuc 14)) unknown ≡ 78 ∷ (32 ∷ (51 ∷ (32 ∷ (45 ∷ (49 ∷ (53 ∷ (32 ∷ (45 ∷ (10 ∷ [])))))))))
unfolding told_line net_text signed decimal digits pick
unknown-text = refl

-- a whole frame, a lone last byte, a length under 4, and one past the end
cut-whole : cut_of (6 ∷ (0 ∷ (6 ∷ (0 ∷ (0 ∷ (1 ∷ (6 ∷ []))))))) ≡ 6
unfolding cut_of told_length number pick
cut-whole = refl

cut-lone : cut_of (6 ∷ []) ≡ 0
unfolding cut_of pick
cut-lone = refl

cut-under : cut_of (3 ∷ (0 ∷ (6 ∷ []))) ≡ 0
unfolding cut_of told_length number pick
cut-under = refl

cut-past : cut_of (6 ∷ (0 ∷ (6 ∷ (0 ∷ (0 ∷ []))))) ≡ 0
unfolding cut_of told_length number pick
cut-past = refl
