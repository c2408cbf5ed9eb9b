-- Texts put behind a text in a space of bytes; everything else stays as it was.
use Rattle.std.specs.Prelude.{◌≡◌, refl, List, [], ◌∷◌, ◌++◌, ℕ, ◌+◌, ◌*◌, ◌≤◌, ℤ, pos, length, Result, Ok, Err}
use Rattle.std.proofs.Common.{◌∙◌, ap, arith, length-append}
use Rattle.std.proofs.lemmas.List.Edits.{sets}
use Rattle.std.proofs.Math.Seq.{length-sets}
use Rattle.events.specs.declared.Refusal.{Refusal}
use Rattle.events.specs.Refusals.{refusal_number}
use Rattle.rules.specs.declared.Accepted.{Accepted}
use Rattle.rules.specs.Step.{answer_number, answer_value, answer_count}
use Rattle.lines.specs.declared.Text.{Text}
use Rattle.lines.specs.Lines.{text_line, record_lines, event_line, event_text}
use Rattle.lines.specs.Places.{PutAt, WithinAt, sets-append}

-- there is room for k bytes behind the text
abbrev pub Room : Text → ℕ → Type 0
Room s k = s.used + k ≤ length s.out.now

-- the text t was put behind the text s, which became q; it is the same space
pub record Put (s q : Text) (t : List ℕ) : Type 0 where
  pub next : q.used ≡ s.used + length t
  pub bytes : q.out.now ≡ sets s.out.now s.used t
  pub same : q.out.ghost_name ≡ s.out.ghost_name

-- the same, with at most k bytes
pub record Within (k : ℕ) (s q : Text) (t : List ℕ) : Type 0 where
  pub put : Put s q t
  pub few : q.used ≤ s.used + k

-- laws

-- what was put at the place behind a text was put behind the text
pub put-of : {s q : Text} {t : List ℕ} → PutAt s.out.now q.out.now s.used q.used t → q.out.ghost_name ≡ s.out.ghost_name → Put s q t
put-of p n = record { next = p.next; bytes = p.bytes; same = n }

pub within-of : {k : ℕ} {s q : Text} {t : List ℕ} → WithinAt k s.out.now q.out.now s.used q.used t → q.out.ghost_name ≡ s.out.ghost_name → Within k s q t
within-of p n = record { put = put-of p.put n; few = p.few }

pub put-length : {s q : Text} {t : List ℕ} → Put s q t → length q.out.now ≡ length s.out.now
put-length {s} {q} {t} p = ap length p.bytes ∙ length-sets s.out.now s.used t

pub put-nil : (s : Text) → Put s s []
put-nil s = record { next = omega arith; bytes = refl; same = refl }

pub put_then : {s q r : Text} {t u : List ℕ} → Put s q t → Put q r u → Put s r (t ++ u)
put_then {s} {q} {r} {t} {u} p x =
    record {
      next = omega (arith, p.next, x.next, length-append t u);
      bytes = x.bytes ∙ rw (p.bytes, p.next) (sets-append s.out.now s.used t u);
      same = x.same ∙ p.same;
    }

-- the three numbers of an answer
pub record Numbers (x : Result Accepted Refusal) (t : ℕ × ℕ × ℕ) : Type 0 where
  pub number : t.0 ≡ answer_number x
  pub value : t.1 ≡ answer_value x
  pub count : t.2 ≡ answer_count x

pub numbers-accepted : {x : Result Accepted Refusal} {t : ℕ × ℕ × ℕ} (a : Accepted) → x ≡ Ok a → t ≡ (0, a.value, a.records) → Numbers x t
unfolding answer_number answer_value answer_count
numbers-accepted a e h = rw (e, h) (record { number = refl; value = refl; count = refl })

pub numbers-refused : {x : Result Accepted Refusal} {t : ℕ × ℕ × ℕ} (f : Refusal) {n : ℕ} → x ≡ Err f → n ≡ refusal_number f → t ≡ (n, 0, 0) → Numbers x t
unfolding answer_number answer_value answer_count
numbers-refused f e g h = rw (e, h) (record { number = g; value = refl; count = refl })

pub put-event :
    (i : ℕ) (sp : List ℤ) (x : Result Accepted Refusal) {o v : ℕ} {t : ℕ × ℕ × ℕ} → Numbers x t → o ≡ t.0 → v ≡ t.1 → {s q r : Text} →
    Within 86 s q (text_line 69 (pos i ∷ (pos o ∷ (pos v ∷ (pos t.2 ∷ []))))) → Within (74 * t.2) q r (record_lines t.2 sp) →
    Within (86 + 74 * answer_count x) s r (event_text i x sp)
unfolding event_text event_line
put-event i sp x n d e p q = rw (← n.number, ← n.value, ← n.count, ← d, ← e) (record { put = put_then p.put q.put; few = omega (arith, p.few, q.few) })
