-- The first frame of the rest of the input: "its whole length (2 bytes)", little-endian.
use Rattle.std.specs.Prelude.{◌≡◌, Bool, true, false, MatchBool, List, ℕ, zero, suc, ◌≤◌, ◌<◌, ◌⊎◌, ltb, length}
use Rattle.std.proofs.Common.{refl, sym, ◌∙◌, ap, inl, inr, Some, arith, ltb-false}
use Rattle.std.specs.Bool.{then_some}
use Rattle.base.specs.Chains.{unless_zero}
use Rattle.base.specs.Pick.{pick, pick-by, tests}
use Rattle.frames.specs.Number.{number}

-- the length that the first two bytes tell
unfoldable pub told_length : List ℕ → ℕ
told_length rest = number 2 rest 0

-- the bytes that must be there to judge the first frame: of a length under 4 the length alone
unfoldable pub needed_of : List ℕ → ℕ
needed_of rest = pick (ltb (length rest) 2) 2 (pick (ltb (told_length rest) 4) 2 (told_length rest))

-- "A length under 4 or past the input's end, a lone last byte included, prints refusal 2 and stops.": such a length counts as 0
unfoldable pub cut_of : List ℕ → ℕ
cut_of rest = pick (ltb (length rest) 2) 0 (pick (ltb (told_length rest) 4) 0 (pick (ltb (length rest) (told_length rest)) 0 (told_length rest)))

-- laws

pub cut-within : (rest : List ℕ) → cut_of rest ≤ length rest
unfolding cut_of
cut-within rest =
    let P : ℕ → Type 0 = λ (n : ℕ). n ≤ length rest in
    pick-by P _ (λ e. omega arith) (λ e. pick-by P _ (λ e. omega arith) (λ e. pick-by P _ (λ e. omega arith) (λ e. ltb-false _ _ e)))

pub needed-under : (rest : List ℕ) {n : ℕ} → n ≡ told_length rest → 2 ≤ length rest → n < 4 → 2 ≡ needed_of rest
unfolding needed_of
needed-under rest e l h = let k : told_length rest < 4 = omega arith in search tests

pub needed-whole : (rest : List ℕ) {n : ℕ} → n ≡ told_length rest → 2 ≤ length rest → 4 ≤ n → n ≡ needed_of rest
unfolding needed_of
needed-whole rest e l h = let k : 4 ≤ told_length rest = omega arith in e ∙ search tests

pub cut-short : (rest : List ℕ) → length rest < 2 → 0 ≡ cut_of rest
unfolding cut_of
cut-short rest l = search tests

pub cut_none : (rest : List ℕ) {n : ℕ} → n ≡ told_length rest → 2 ≤ length rest → (n < 4) ⊎ (length rest < n) → 0 ≡ cut_of rest
unfolding cut_of
cut_none rest e l (inl h) = let k : told_length rest < 4 = omega arith in search tests
cut_none rest {n} e l (inr h) =
    let y : length rest < told_length rest = omega arith in
    sym (pick-by (λ (m : ℕ). m ≡ 0) _ (λ _. refl) (λ _. pick-by (λ (m : ℕ). m ≡ 0) _ (λ _. refl) (λ _. search tests)))

-- the length of a piece that is whole
pub whole-some : (n m : ℕ) → 1 ≤ n → n ≡ m → Some n ≡ unless_zero m
whole-some n zero h e = absurd (omega arith)
whole-some n (suc m) h e = ap Some e

pub cut-whole : (rest : List ℕ) {n : ℕ} → n ≡ told_length rest → 2 ≤ length rest → 4 ≤ n → n ≤ length rest → Some n ≡ unless_zero (cut_of rest)
unfolding cut_of
cut-whole rest {n} e l h x =
    let k : 4 ≤ told_length rest = omega arith in
    let y : told_length rest ≤ length rest = omega arith in
    let z : told_length rest ≡ cut_of rest = search tests in
    whole-some n _ (omega arith) (e ∙ z)

-- what the length of a first piece tells, where 0 stands for none
pub first-some : (k : ℕ) {n : ℕ} → Some n ≡ unless_zero k → (n ≡ k) × (n ≡ 0 → ⊥)
first-some zero e = cc
first-some (suc k) {n} e = let h : n ≡ suc k = cc in (h, λ z. omega arith)

pub cut-by :
    (rest : List ℕ) {n : ℕ} (t : Bool) → n ≡ told_length rest → 2 ≤ length rest → MatchBool t ((4 ≤ n) × (n ≤ length rest)) ((n < 4) ⊎ (length rest < n)) →
    then_some t n ≡ unless_zero (cut_of rest)
cut-by rest true e l (h, x) = cut-whole rest e l h x
cut-by rest false e l h = ap unless_zero (cut_none rest e l h)
