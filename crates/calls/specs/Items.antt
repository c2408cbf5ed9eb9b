-- The first item of the rest of the input: the frame's length and that of the record space, two bytes each, little-endian; then the frame.
use Rattle.std.specs.Prelude.{◌≡◌, List, ℕ, ◌+◌, ◌≤◌, ◌<◌, min, ltb, length, None, Some}
use Rattle.std.proofs.Common.{◌∙◌, ap, arith, ltb-true, ltb-false}
use Rattle.base.specs.Chains.{unless_zero}
use Rattle.base.specs.Pick.{pick, pick_all, pick-by, tests}
use Rattle.frames.specs.Number.{number}
use Rattle.lines.specs.Cuts.{whole-some}
use Rattle.rules.specs.Sizes.{record_space}

-- the length of an item whose first two bytes tell that of its frame
abbrev pub told_item : List ℕ → ℕ
told_item rest = 4 + number 2 rest 0

-- the bytes that must be there to judge the first item
unfoldable pub item_needed : List ℕ → ℕ
item_needed rest = pick (ltb (length rest) 4) 4 (told_item rest)

-- the length of the first item; one that is cut short counts as 0
unfoldable pub item_of : List ℕ → ℕ
item_of rest = pick (ltb (length rest) 4) 0 (pick (ltb (length rest) (told_item rest)) 0 (told_item rest))

-- the length of the record space that an item is lent, 15,360 numbers at most
unfoldable pub lent_of : List ℕ → ℕ
lent_of item = pick (ltb record_space (number 2 item 2)) record_space (number 2 item 2)

-- laws

pub needed-more : (rest : List ℕ) {n : ℕ} → n ≡ number 2 rest 0 → 4 ≤ length rest → 4 + n ≡ item_needed rest
unfolding item_needed
needed-more rest e l = rw e (search tests)

pub item-short : (rest : List ℕ) → length rest < 4 → None ≡ unless_zero (item_of rest)
unfolding item_of
item-short rest l = ap unless_zero (let z : 0 ≡ item_of rest = search tests in z)

pub item-cut : (rest : List ℕ) {n : ℕ} → n ≡ number 2 rest 0 → 4 ≤ length rest → length rest < 4 + n → None ≡ unless_zero (item_of rest)
unfolding item_of
item-cut rest e l h =
    let k : length rest < told_item rest = omega arith in
    let z : 0 ≡ item_of rest = search tests in
    ap unless_zero z

pub item-whole : (rest : List ℕ) {n : ℕ} → n ≡ number 2 rest 0 → 4 ≤ length rest → 4 + n ≤ length rest → Some (4 + n) ≡ unless_zero (item_of rest)
unfolding item_of
item-whole rest e l h =
    let k : told_item rest ≤ length rest = omega arith in
    let z : told_item rest ≡ item_of rest = search tests in
    whole-some _ _ (omega arith) (ap (λ (n : ℕ). 4 + n) e ∙ z)

pub item-within : (rest : List ℕ) → item_of rest ≤ length rest
unfolding item_of
item-within rest =
    let P : ℕ → Type 0 = λ (n : ℕ). n ≤ length rest in
    pick-by P _ (λ e. omega arith) (λ e. pick-by P _ (λ e. omega arith) (λ e. ltb-false _ _ e))

-- an item that is whole has its two lengths
pub item-lengths : (rest : List ℕ) → (item_of rest ≡ 0 → ⊥) → 4 ≤ item_of rest
unfolding item_of
item-lengths rest =
    let P : ℕ → Type 0 = λ (n : ℕ). (n ≡ 0 → ⊥) → 4 ≤ n in
    pick_all P _ (λ h. absurd (h (omega arith))) (pick_all P _ (λ h. absurd (h (omega arith))) (λ h. omega arith))

pub lent-min : (item : List ℕ) {m : ℕ} → m ≡ number 2 item 2 → min m 15360 ≡ lent_of item
unfolding lent_of
lent-min item e = rw e (pick-by (λ (n : ℕ). min (number 2 item 2) 15360 ≡ n) _ (λ x. omega (arith, ltb-true _ _ x)) (λ x. omega (arith, ltb-false _ _ x)))

pub lent-most : (item : List ℕ) → lent_of item ≤ 15360
unfolding lent_of
lent-most item = pick-by (λ (n : ℕ). n ≤ 15360) _ (λ e. omega arith) (λ e. ltb-false 15360 (number 2 item 2) e)

pub lent_fits : (item : List ℕ) {m n : ℕ} → m ≡ lent_of item → n ≡ 15360 → m ≤ n
lent_fits item e h = omega (arith, e, h, lent-most item)
