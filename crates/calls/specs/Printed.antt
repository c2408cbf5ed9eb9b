-- Text that is put into a space piece by piece and written out on the way.
use Rattle.std.specs.Prelude.{◌≡◌, refl, List, [], ◌++◌, ℕ, ◌+◌, ◌⊎◌, length}
use Rattle.std.proofs.Common.{◌∙◌, ap, inl, inr, append_assoc, append-nil, add-one, MutBor}
use Rattle.base.specs.Pick.{pick_all}
use Rattle.base.specs.Walks.{join_n}
use Rattle.lines.specs.declared.Text.{Text}
use Rattle.lines.specs.Puts.{Put, Within, put-length}
use Rattle.streams.specs.Texts.{Drains, end_after}

-- The text t was printed: its pieces were put one behind the other, each behind what is in the space, and what is in the space may be written
-- out before a piece, which then starts at 0. The text s became q.
pub data Printed : Text → Text → List ℕ → Type 0 where
  printed-none : (s : Text) → Printed s s []
  printed-out : {s q r : Text} {t : List ℕ} → Printed s q t → (r.used ≡ q.used) ⊎ (r.used ≡ 0) → r.out ≡ q.out → Printed s r t
  printed-put : {s q r : Text} {t u : List ℕ} → Printed s q t → Put q r u → Printed s r (t ++ u)

-- laws

pub printed-one : {s q : Text} {t : List ℕ} → Put s q t → Printed s q t
printed-one {s} p = printed-put (printed-none s) p

pub printed-then : {s q r : Text} {t u : List ℕ} → Printed s q t → Printed q r u → Printed s r (t ++ u)
printed-then {t = t} p (printed-none s) = rw (append-nil t) p
printed-then p (printed-out x e f) = printed-out (printed-then p x) e f
printed-then {t = t} p (printed-put {t = v} {u = w} x y) = rw (← append_assoc t v w) (printed-put (printed-then p x) y)

pub printed-length : {s q : Text} {t : List ℕ} → Printed s q t → length q.out.now ≡ length s.out.now
printed-length (printed-none s) = refl
printed-length (printed-out x e f) = ap (λ (m : MutBor (List ℕ)). length m.now) f ∙ printed-length x
printed-length (printed-put x y) = put-length y ∙ printed-length x

-- lines in turn: each where there is room again
pub listed-first : (f : ℕ → List ℕ) (s : Text) → Printed s s (join_n f 0)
unfolding join_n
listed-first f s = printed-none s

pub listed-next :
    (f : ℕ → List ℕ) {s q x r : Text} {i : ℕ} → Printed s q (join_n f i) → Drains q x 86 → Within 86 x r (f i) → Printed s r (join_n f (i + 1))
unfolding join_n end_after
listed-next f {q = q} {x = x} {i = i} l d w =
    let k : (x.used ≡ q.used) ⊎ (x.used ≡ 0) = rw d.place (pick_all (λ (n : ℕ). (n ≡ q.used) ⊎ (n ≡ 0)) _ (inl refl) (inr refl)) in
    rw (add-one i) (printed-put (printed-out l k d.space) w.put)
