-- Texts put into a space of bytes from a place on; everything else stays as it was.
use Rattle.std.specs.Prelude.{◌≡◌, refl, true, false, List, [], ◌∷◌, ◌++◌, ℕ, zero, suc, ◌+◌, ◌*◌, ◌/◌, ◌%◌, ◌^◌, ◌≤◌, ◌<◌, ltb, ℤ, pos, negsuc, nat_abs, length, take, drop, get_or, set}
use Rattle.std.proofs.Common.{sym, ◌∙◌, ap, append_assoc, add-zero, add-suc, suc-add, div-add-mod', pow-suc, add-one, arith, SFits, to_z, of_z, to_z-of_z, length-append, take_at, drop_at, drop-drop, take-suc, lt-ltb, le-ltb, ltb-true, None, Some}
use Rattle.std.proofs.Math.Nat.{div-div-eq-div-mul}
use Rattle.std.specs.Int.{w32}
use Rattle.std.specs.Int.Signed.{lt_z}
use Rattle.std.proofs.lemmas.List.Edits.{sets}
use Rattle.std.proofs.Math.Seq.{length-sets, take-length}
use Rattle.base.specs.Pick.{pick, pick-by, pick_true, pick-false}
use Rattle.rules.specs.Lookups.{ToldNet, net_told}
use Rattle.lines.specs.Lines.{digits, decimal, signed, spaced, text_line, record_lines, net_text, told_line}

-- the text t was put at place a: the space s became q, the next place is m
pub record PutAt (s q : List ℕ) (a m : ℕ) (t : List ℕ) : Type 0 where
  pub next : m ≡ a + length t
  pub bytes : q ≡ sets s a t

-- the same, with at most k bytes
pub record WithinAt (k : ℕ) (s q : List ℕ) (a m : ℕ) (t : List ℕ) : Type 0 where
  pub put : PutAt s q a m t
  pub few : m ≤ a + k

-- the last two digits of a number
unfoldable pub last_two : ℕ → List ℕ
last_two v = (48 + v / 10 % 10) ∷ ((48 + v % 10) ∷ [])

-- laws

pub sets-append : (l : List ℕ) (a : ℕ) (us vs : List ℕ) → sets (sets l a us) (a + length us) vs ≡ sets l a (us ++ vs)
sets-append l a [] vs = rw add-zero
sets-append l a (u ∷ us) vs = rw (add-suc, ← suc-add) (sets-append (set l a u) (suc a) us vs)

pub length-at : {s q : List ℕ} {a m : ℕ} {t : List ℕ} → PutAt s q a m t → length q ≡ length s
length-at {s} {q} {a} {m} {t} p = ap length p.bytes ∙ length-sets s a t

nil-at : (s : List ℕ) (a : ℕ) → PutAt s s a a []
nil-at s a = record { next = omega arith; bytes = refl }

then-at : {s q r : List ℕ} {a m k : ℕ} {t u : List ℕ} → PutAt s q a m t → PutAt q r m k u → PutAt s r a k (t ++ u)
then-at {s} {q} {r} {a} {m} {k} {t} {u} p x =
    record { next = omega (arith, p.next, x.next, length-append t u); bytes = x.bytes ∙ rw (p.bytes, p.next) (sets-append s a t u) }

-- a tenth
tenth : (v n : ℕ) → v ≤ suc n → v / 10 ≤ n
tenth v n h = omega (arith, div-add-mod' v 10)

-- steps more than enough change nothing
digits-enough : (n m v : ℕ) → v ≤ n → v ≤ m → digits n v ≡ digits m v
unfolding digits pick
digits-enough zero zero v h l = refl
digits-enough zero (suc m) zero h l = refl
digits-enough zero (suc m) (suc v) h l = absurd (omega arith)
digits-enough (suc n) zero zero h l = refl
digits-enough (suc n) zero (suc v) h l = absurd (omega arith)
digits-enough (suc n) (suc m) v h l =
    ap (λ (x : List ℕ). pick (ltb v 10) ((48 + v) ∷ []) (x ++ ((48 + v % 10) ∷ []))) (digits-enough n m (v / 10) (tenth v n h) (tenth v m l))

pub decimal-one : (v : ℕ) → v < 10 → decimal v ≡ (48 + v) ∷ []
unfolding decimal digits pick
decimal-one zero h = refl
decimal-one (suc v) h = pick_true _ _ _ (lt-ltb _ _ h)

pub decimal-more : (v : ℕ) → 10 ≤ v → decimal v ≡ decimal (v / 10) ++ ((48 + v % 10) ∷ [])
unfolding decimal digits
decimal-more zero h = absurd (omega arith)
decimal-more (suc v) h = pick-false _ _ _ (le-ltb _ _ h) ∙ ap (λ (x : List ℕ). x ++ ((48 + suc v % 10) ∷ [])) (digits-enough v (suc v / 10) (suc v / 10) (tenth (suc v) v (omega arith)) (omega arith))

-- a number below a power of ten has no more digits than the power
digits-length : (k n v : ℕ) → v < 10 ^ suc k → length (digits n v) ≤ suc k
unfolding digits
digits-length k zero v h = omega arith
digits-length zero (suc n) v h = rw (pick_true _ _ _ (lt-ltb v 10 h)) (omega arith)
digits-length (suc k) (suc n) v h =
    let P : List ℕ → Type 0 = λ (x : List ℕ). length x ≤ suc (suc k) in
    pick-by P _ (λ e. omega arith) (λ e. omega (arith, length-append (digits n (v / 10)) ((48 + v % 10) ∷ []), digits-length k n (v / 10) (omega (arith, pow-suc 10 (suc k), div-add-mod' v 10, h))))

pub decimal-length : (k v : ℕ) → v < 10 ^ suc k → length (decimal v) ≤ suc k
unfolding decimal
decimal-length k v h = digits-length k v v h

pub length-one : (v : ℕ) → v < 10 → length (decimal v) ≡ 1
length-one v h = ap length (decimal-one v h)

pub length_more : (v : ℕ) → 10 ≤ v → length (decimal v) ≡ length (decimal (v / 10)) + 1
length_more v h = ap length (decimal-more v h) ∙ length-append (decimal (v / 10)) ((48 + v % 10) ∷ [])

pub put_one : {s q : List ℕ} {a m : ℕ} (v : ℕ) → v < 10 → PutAt s q a m ((48 + v) ∷ []) → PutAt s q a m (decimal v)
put_one v h p = rw (decimal-one v h) p

pub put-last-two :
    {s q r : List ℕ} {a m k : ℕ} (v : ℕ) → PutAt s q a m ((48 + v / 10 % 10) ∷ []) → PutAt q r m k ((48 + v % 10) ∷ []) → PutAt s r a k (last_two v)
unfolding last_two
put-last-two v p x = then-at p x

-- a number of two digits is its last two; one of more is its hundreds and its last two
decimal-two : (v : ℕ) → 10 ≤ v → v < 100 → decimal v ≡ last_two v
unfolding last_two
decimal-two v h l =
    let t : v / 10 < 10 = omega (arith, div-add-mod' v 10) in
    let e : v / 10 % 10 ≡ v / 10 = omega (arith, div-add-mod' (v / 10) 10) in
    decimal-more v h ∙ rw (decimal-one (v / 10) t, e) (refl)

decimal-hundreds : (v : ℕ) → 100 ≤ v → decimal v ≡ decimal (v / 100) ++ last_two v
unfolding last_two
decimal-hundreds v h =
    let t : 10 ≤ v / 10 = omega (arith, div-add-mod' v 10) in
    decimal-more v (omega arith)
    ∙ rw (decimal-more (v / 10) t, div-div-eq-div-mul v 10 10) (append_assoc (decimal (v / 100)) ((48 + v / 10 % 10) ∷ []) ((48 + v % 10) ∷ []))

pub length_two : (v : ℕ) → 10 ≤ v → v < 100 → length (decimal v) ≡ 2
unfolding last_two
length_two v h l = ap length (decimal-two v h l)

pub length-hundreds : (v : ℕ) → 100 ≤ v → length (decimal v) ≡ length (decimal (v / 100)) + 2
unfolding last_two
length-hundreds v h = ap length (decimal-hundreds v h) ∙ length-append (decimal (v / 100)) (last_two v)

pub put-two-digits : {s q : List ℕ} {a m : ℕ} (v : ℕ) → 10 ≤ v → v < 100 → PutAt s q a m (last_two v) → PutAt s q a m (decimal v)
put-two-digits v h l p = rw (decimal-two v h l) p

pub put-hundreds :
    {s q r : List ℕ} {a m k : ℕ} (v : ℕ) → 100 ≤ v → PutAt s q a m (decimal (v / 100)) → PutAt q r m k (last_two v) → PutAt s r a k (decimal v)
put-hundreds v h p x = rw (decimal-hundreds v h) (then-at p x)

pub number-length : (v : ℕ) → v < 2 ^ 64 → length (decimal v) ≤ 20
number-length v h = decimal-length 19 v (omega arith)

pub signed-length : (v : ℕ) → v ≤ 2147483648 → length (decimal v) ≤ 10
signed-length v h = decimal-length 9 v (omega arith)

-- numbers after a space
pub put-number :
    {s q r : List ℕ} {a m k : ℕ} (v : ℕ) → v < 2 ^ 64 → PutAt s q a m (32 ∷ []) → PutAt q r m k (decimal v) → WithinAt 21 s r a k (32 ∷ signed (pos v))
unfolding signed
put-number v l p x = record { put = then-at p x; few = omega (arith, p.next, x.next, number-length v l) }

pub put-below :
    {s q r u : List ℕ} {a m k n : ℕ} (z : ℤ) → lt_z z (pos 0) ≡ true → nat_abs z ≤ 2147483648 →
    PutAt s q a m (32 ∷ []) → PutAt q r m k (45 ∷ []) → PutAt r u k n (decimal (nat_abs z)) → WithinAt 12 s u a n (32 ∷ signed z)
unfolding signed
put-below (pos v) h l p x y = absurd (omega (arith, ltb-true v 0 h))
put-below (negsuc v) h l p x y = record { put = then-at p (then-at x y); few = omega (arith, p.next, x.next, y.next, signed-length (suc v) l) }

pub put-above :
    {s q r : List ℕ} {a m k : ℕ} (z : ℤ) → lt_z z (pos 0) ≡ false → nat_abs z ≤ 2147483648 →
    PutAt s q a m (32 ∷ []) → PutAt q r m k (decimal (nat_abs z)) → WithinAt 12 s r a k (32 ∷ signed z)
unfolding signed
put-above (pos v) h l p x = record { put = then-at p x; few = omega (arith, p.next, x.next, signed-length v l) }
put-above (negsuc v) h l p x = absurd (let z : ◌≡◌ {A = ℕ} 0 1 = cc in omega arith)

spaced-append : (ys zs : List ℤ) → spaced (ys ++ zs) ≡ spaced ys ++ spaced zs
unfolding spaced
spaced-append [] zs = refl
spaced-append (y ∷ ys) zs = rw (spaced-append ys zs) (sym (append_assoc (32 ∷ signed y) (spaced ys) (spaced zs)))

-- a line up to its first j numbers, each of at most w bytes
pub record Writing (letter w : ℕ) (zs : List ℤ) (s q : List ℕ) (a m j : ℕ) : Type 0 where
  pub put : PutAt s q a m (letter ∷ spaced (take j zs))
  pub few : m ≤ a + (1 + w * j)

pub writing-first : (letter w : ℕ) (zs : List ℤ) {s q : List ℕ} {a m : ℕ} → PutAt s q a m (letter ∷ []) → Writing letter w zs s q a m 0
unfolding spaced
writing-first letter w zs p = record { put = p; few = omega (arith, p.next) }

pub writing-next :
    {letter w : ℕ} (zs : List ℤ) {s q r : List ℕ} {a m k j : ℕ} → Writing letter w zs s q a m j → j < length zs →
    WithinAt w q r m k (32 ∷ signed (get_or zs j (pos 0))) → Writing letter w zs s r a k (j + 1)
unfolding spaced
writing-next {letter} {w} zs {j = j} p l x =
    record {
      put = rw (add-one j, take-suc zs j (pos 0) l, spaced-append) (then-at p.put (then-at x.put (nil-at _ _)));
      few = omega (arith, p.few, x.few);
    }

pub writing-done :
    {letter w : ℕ} (zs : List ℤ) {s q r : List ℕ} {a m k j : ℕ} → Writing letter w zs s q a m j → j ≡ length zs → PutAt q r m k (10 ∷ []) →
    WithinAt (2 + w * length zs) s r a k (text_line letter zs)
unfolding text_line
writing-done {letter} {w} zs {s} {q} {r} {a} {m} {k} {j} p e x =
    record { put = rw (e, take-length zs) at (then-at p.put x); few = let f : k ≤ a + (2 + w * j) = omega (arith, p.few, x.next) in rw e at f }

-- the lines of the first i records of a space
pub record Listing (sp : List ℤ) (s q : List ℕ) (a m i : ℕ) : Type 0 where
  pub put : PutAt s q a m (record_lines i sp)
  pub few : m ≤ a + 74 * i

pub listing-first : (sp : List ℤ) (s : List ℕ) (a : ℕ) → Listing sp s s a a 0
unfolding record_lines
listing-first sp s a = record { put = nil-at s a; few = omega arith }

pub listing-next :
    (sp : List ℤ) {s q r : List ℕ} {a m k i : ℕ} → Listing sp s q a m i → WithinAt 74 q r m k (text_line 82 (take 6 (drop (i * 6) sp))) →
    Listing sp s r a k (i + 1)
unfolding record_lines
listing-next sp {i = i} l x = record { put = rw (add-one i) (then-at l.put x.put); few = omega (arith, l.few, x.few) }

pub listing-done : (sp : List ℤ) (n : ℕ) {s q : List ℕ} {a m i : ℕ} → Listing sp s q a m i → i ≡ n → WithinAt (74 * n) s q a m (record_lines n sp)
listing-done sp n l e = record { put = rw e at l.put; few = rw e at l.few }

-- the next six numbers of a space, and what is left behind them
pub chunk-after : (sp : List ℤ) (i : ℕ) {left : List ℤ} (xs rest : List ℤ) → left ≡ drop (i * 6) sp → left ≡ xs ++ rest → length xs ≡ 6 → rest ≡ drop ((i + 1) * 6) sp
chunk-after sp i xs rest e h l =
    sym (drop_at xs rest 6 l) ∙ ap (drop 6) (sym h ∙ e) ∙ drop-drop 6 (i * 6) sp ∙ ap (λ (n : ℕ). drop n sp) (omega arith)

pub listing-chunk :
    (sp : List ℤ) {s q r : List ℕ} {a m k i : ℕ} {left : List ℤ} (xs rest : List ℤ) → Listing sp s q a m i → left ≡ drop (i * 6) sp → left ≡ xs ++ rest →
    length xs ≡ 6 → WithinAt (2 + 12 * length xs) q r m k (text_line 82 xs) → Listing sp s r a k (i + 1)
listing-chunk sp {i = i} xs rest p e h l w =
    let c : xs ≡ take 6 (drop (i * 6) sp) = sym (take_at xs rest 6 l) ∙ ap (take 6) (sym h ∙ e) in
    let v = rw l at w in
    listing-next sp p (rw c at v)

-- a net after a space, by its case
pub put-known :
    {z : ℤ} → SFits w32 z → {s q : List ℕ} {a m : ℕ} → WithinAt 12 s q a m (32 ∷ signed (to_z w32 (of_z w32 z))) →
    WithinAt 12 s q a m (32 ∷ net_text (net_told (Some z)))
unfolding net_text net_told
put-known f w = rw (to_z-of_z f) at w

pub put-unknown :
    {s q r : List ℕ} {a m k : ℕ} → PutAt s q a m (32 ∷ []) → PutAt q r m k (45 ∷ []) → WithinAt 12 s r a k (32 ∷ net_text (net_told None))
unfolding net_text net_told
put-unknown p q = record { put = then-at p q; few = omega (arith, p.next, q.next) }

pub put-told :
    {s q r u v w : List ℕ} {a b c d e f : ℕ} (letter i : ℕ) (x y : ToldNet) →
    PutAt s q a b (letter ∷ []) → WithinAt 21 q r b c (32 ∷ signed (pos i)) → WithinAt 12 r u c d (32 ∷ net_text x) →
    WithinAt 12 u v d e (32 ∷ net_text y) → PutAt v w e f (10 ∷ []) → WithinAt 47 s w a f (told_line letter i x y)
unfolding told_line
put-told letter i x y p n g h l =
    record { put = then-at p (then-at n.put (then-at g.put (then-at h.put l))); few = omega (arith, p.next, n.few, g.few, h.few, l.next) }
