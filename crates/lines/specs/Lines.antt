-- "The program `tape` reads frames from standard input, prints `E` index answer value count, the index from 0, then `R` lines, one a record."
use Rattle.std.specs.Prelude.{List, [], ◌∷◌, ◌++◌, ℕ, zero, suc, ◌+◌, ◌*◌, ◌/◌, ◌%◌, ltb, ℤ, pos, negsuc, take, drop, Result}
use Rattle.base.specs.Pick.{pick}
use Rattle.events.specs.declared.Refusal.{Refusal}
use Rattle.rules.specs.declared.Accepted.{Accepted}
use Rattle.rules.specs.declared.Record.{Record}
use Rattle.rules.specs.Lookups.{ToldNet, known, unknown}
use Rattle.rules.specs.Records.{line_of, numbers_of}
use Rattle.rules.specs.Step.{Outcome, answer_of, answer_number, answer_value, answer_count}

-- the digits of a number, the highest first, at most n and one of them
unfoldable pub digits : ℕ → ℕ → List ℕ
digits zero v = (48 + v % 10) ∷ []
digits (suc n) v = pick (ltb v 10) ((48 + v) ∷ []) (digits n (v / 10) ++ ((48 + v % 10) ∷ []))

-- a number has no more digits than itself and one
unfoldable pub decimal : ℕ → List ℕ
decimal v = digits v v

-- with `-` before a number below 0
unfoldable pub signed : ℤ → List ℕ
signed (pos v) = decimal v
signed (negsuc v) = 45 ∷ decimal (suc v)

-- each number after a space
unfoldable pub spaced : List ℤ → List ℕ
spaced [] = []
spaced (z ∷ zs) = (32 ∷ signed z) ++ spaced zs

-- a letter, the numbers, the end of the line
unfoldable pub text_line : ℕ → List ℤ → List ℕ
text_line letter zs = letter ∷ (spaced zs ++ (10 ∷ []))

-- "`E` index answer value count"; "A refusal prints value and count 0."
unfoldable pub event_line : ℕ → Result Accepted Refusal → List ℕ
event_line index a = text_line 69 (pos index ∷ (pos (answer_number a) ∷ (pos (answer_value a) ∷ (pos (answer_count a) ∷ []))))

-- the lines of the first n records of a space
unfoldable pub record_lines : ℕ → List ℤ → List ℕ
record_lines zero s = []
record_lines (suc n) s = record_lines n s ++ text_line 82 (take 6 (drop (n * 6) s))

-- what is printed of an event: its line, and the lines of its records
unfoldable pub event_text : ℕ → Result Accepted Refusal → List ℤ → List ℕ
event_text index a s = event_line index a ++ record_lines (answer_count a) s

-- the lines of records
unfoldable pub record_texts : List Record → List ℕ
record_texts [] = []
record_texts (r ∷ rs) = text_line 82 (numbers_of (line_of r)) ++ record_texts rs

-- what is printed of an event with this outcome: its line, and its records, as many as its count says
unfoldable pub outcome_text : ℕ → Outcome → List ℕ
outcome_text index o = event_line index (answer_of o) ++ record_texts (take (answer_count (answer_of o)) o.moved.records)

-- 2026-05: a net in cents, `-` where it is unknown
unfoldable pub net_text : ToldNet → List ℕ
net_text (known z) = signed z
net_text unknown = 45 ∷ []

-- a letter, a number, two nets as they are told, the end of the line
unfoldable pub told_line : ℕ → ℕ → ToldNet → ToldNet → List ℕ
told_line letter i x y = letter ∷ ((32 ∷ signed (pos i)) ++ ((32 ∷ net_text x) ++ ((32 ∷ net_text y) ++ (10 ∷ []))))
