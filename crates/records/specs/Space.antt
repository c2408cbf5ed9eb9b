-- Records in a space that the caller lends: six numbers each, from a place on; everything else stays as it was.
use Rattle.std.specs.Prelude.{◌≡◌, refl, Bool, true, false, cond, List, [], ◌∷◌, ◌++◌, ℕ, zero, suc, ◌+◌, ◌*◌, ◌-◌, ◌≤◌, ◌<◌, ltb, ℤ, pos, negsuc, ◌-ℤ◌, length, set}
use Rattle.std.proofs.Common.{sym, ◌∙◌, ap, append_assoc, add-zero, zero-add, suc-add, add-suc, add-one, arith, SFits, to_z, length-append}
use Rattle.std.specs.Int.{w32}
use Rattle.std.proofs.Math.Facts.{to_z_pos}
use Rattle.std.specs.Int.Signed.{mag}
use Rattle.std.proofs.lemmas.List.Edits.{sets}
use Rattle.std.proofs.Math.Seq.{length-sets}
use Rattle.base.specs.All.{All, all_first, all_rest}
use Rattle.base.specs.Walks.{join_n, join-all}
use Rattle.rules.specs.Sizes.{records_lent, record_space}
use Rattle.rules.specs.declared.Kind.{Kind}
use Rattle.rules.specs.declared.Kind.TheVariants.{WholeFill, LegFill, LegOrderFill, Cancelled, LegOrderCancelled, AuctionBegun, AuctionEnded}
use Rattle.rules.specs.declared.Record.{Record}
use Rattle.records.specs.declared.Records.{Records}
use Rattle.rules.specs.Records.{kind_number, cents, line_of, numbers_of}

-- the numbers of records, one after the other
unfoldable pub numbers : List Record → List ℤ
numbers [] = []
numbers (r ∷ rs) = numbers_of (line_of r) ++ numbers rs

-- the space with the records rs from place n on, counted in records: "Past those written, the space is unchanged."
unfoldable pub laid : List ℤ → ℕ → List Record → List ℤ
laid s n rs = sets s (n * 6) (numbers rs)

-- rs were written behind the records of r₀, which became r₁; the space is the same one
pub record Appended (r₀ r₁ : Records) (rs : List Record) : Type 0 where
  pub count : r₁.count ≡ r₀.count + length rs
  pub space : r₁.space.now ≡ laid r₀.space.now r₀.count rs
  pub lent : r₁.space.ghost_name ≡ r₀.space.ghost_name

-- "Six signed 32-bit numbers each": a record's numbers fit (kind, place and side are smaller by their types)
pub record Small (r : Record) : Type 0 where
  pub number : r.number < 2_147_483_648
  pub quantity : r.quantity < 2_147_483_648
  pub level : r.level < 2_147_483_648

-- there is room for rs behind the records of r: "Each event is lent space for 2,560 records", and each of them fits it
pub record Room (r : Records) (rs : List Record) : Type 0 where
  pub count : r.count + length rs ≤ records_lent
  pub space : record_space ≤ length r.space.now
  pub small : All Small rs

-- laws

pub kind-small : (k : Kind) → kind_number k ≤ 5
unfolding kind_number
kind-small WholeFill = omega arith
kind-small LegFill = omega arith
kind-small LegOrderFill = omega arith
kind-small Cancelled = omega arith
kind-small LegOrderCancelled = omega arith
kind-small AuctionBegun = omega arith
kind-small AuctionEnded = omega arith

-- a level's price in signed arithmetic
pub cents-is : (l : ℕ) → l < 2_147_483_648 → to_z w32 l -ℤ to_z w32 10_000_000 ≡ cents l
unfolding cents
cents-is l h = rw (to_z_pos w32 {n = l} (omega arith))

pub cents-fits : (l : ℕ) → l < 2_147_483_648 → SFits w32 (cents l)
unfolding cents
cents-fits l h = record { sfits = by (ltb l 10_000_000) }
  where
    by : (t : Bool) → mag (cond t (negsuc (10_000_000 - suc l)) (pos (l - 10_000_000))) < 2_147_483_648
    by true = omega arith
    by false = omega arith

-- six stores, one after the other
six-stores : (s : List ℤ) (a : ℕ) (u v w x y z : ℤ) →
    set (set (set (set (set (set s a u) (a + 1) v) (a + 2) w) (a + 3) x) (a + 4) y) (a + 5) z ≡ sets s a (u ∷ (v ∷ (w ∷ (x ∷ (y ∷ (z ∷ []))))))
six-stores s a u v w x y z =
    let p : a + 1 ≡ suc a = omega arith in
    let q : a + 2 ≡ suc (suc a) = omega arith in
    let r : a + 3 ≡ suc (suc (suc a)) = omega arith in
    let t : a + 4 ≡ suc (suc (suc (suc a))) = omega arith in
    let o : a + 5 ≡ suc (suc (suc (suc (suc a)))) = omega arith in
    rw (p, q, r, t, o)

-- one record, store by store
pub record-stores : (s : List ℤ) (n : ℕ) (r : Record) →
    set
    (set
    (set
    (set
    (set (set s (n * 6) (pos (kind_number r.kind))) (n * 6 + 1) (pos r.number))
    (n * 6 + 2) (pos r.place))
    (n * 6 + 3) (pos r.side))
    (n * 6 + 4) (pos r.quantity))
    (n * 6 + 5) (cents r.level)
    ≡ laid s n (r ∷ [])
unfolding laid numbers numbers_of line_of
record-stores s n r = six-stores s (n * 6) (pos (kind_number r.kind)) (pos r.number) (pos r.place) (pos r.side) (pos r.quantity) (cents r.level)

length-one : (r : Record) → length (numbers_of (line_of r)) ≡ 6
unfolding numbers_of
length-one r = refl

pub length-numbers : (rs : List Record) → length (numbers rs) ≡ length rs * 6
unfolding numbers
length-numbers [] = refl
length-numbers (r ∷ rs) = rw (length-append, length-one r, length-numbers rs) (omega arith)

numbers-append : (rs qs : List Record) → numbers (rs ++ qs) ≡ numbers rs ++ numbers qs
unfolding numbers
numbers-append [] qs = refl
numbers-append (r ∷ rs) qs = rw (numbers-append rs qs) (sym (append_assoc (numbers_of (line_of r)) (numbers rs) (numbers qs)))

-- two runs of stores, one after the other
sets-append : (l : List ℤ) (a : ℕ) (us vs : List ℤ) → sets (sets l a us) (a + length us) vs ≡ sets l a (us ++ vs)
sets-append l a [] vs = rw add-zero
sets-append l a (u ∷ us) vs = rw (add-suc, ← suc-add) (sets-append (set l a u) (suc a) us vs)

pub length-laid : (s : List ℤ) (n : ℕ) (rs : List Record) → length (laid s n rs) ≡ length s
unfolding laid
length-laid s n rs = length-sets s (n * 6) (numbers rs)

laid-append : (s : List ℤ) (n : ℕ) (rs qs : List Record) → laid s n (rs ++ qs) ≡ laid (laid s n rs) (n + length rs) qs
unfolding laid
laid-append s n rs qs =
    let e : (n + length rs) * 6 ≡ n * 6 + length (numbers rs) = omega (arith, length-numbers rs) in
    rw (e, numbers-append) (sym (sets-append s (n * 6) (numbers rs) (numbers qs)))

pub wrote-nil : (r : Records) → Appended r r []
unfolding laid numbers
wrote-nil r = record { count = sym (add-zero r.count); space = refl; lent = refl }

pub wrote-append : {r₀ r₁ r₂ : Records} {rs qs : List Record} → Appended r₀ r₁ rs → Appended r₁ r₂ qs → Appended r₀ r₂ (rs ++ qs)
wrote-append {r₀} {r₁} {r₂} {rs} {qs} a b =
    record {
      count = rw length-append (omega (arith, a.count, b.count));
      space = cc (a.space, b.space, a.count, laid-append r₀.space.now r₀.count rs qs);
      lent = b.lent ∙ a.lent;
    }

pub wrote-length : {r₀ r₁ : Records} {rs : List Record} → Appended r₀ r₁ rs → length r₁.space.now ≡ length r₀.space.now
wrote-length {r₀} {r₁} {rs} w = ap length w.space ∙ length-laid r₀.space.now r₀.count rs

-- a walk that writes records: none yet, and one slot more
pub wrote-first : (r : Records) (f : ℕ → List Record) → Appended r r (join_n f 0)
unfolding join_n
wrote-first r f = wrote-nil r

pub wrote-next : (f : ℕ → List Record) (i : ℕ) {r₀ r₁ r₂ : Records} → Appended r₀ r₁ (join_n f i) → Appended r₁ r₂ (f i) → Appended r₀ r₂ (join_n f (i + 1))
unfolding join_n
wrote-next f i a b = rw (add-one i) (wrote-append a b)

-- room for two lists is room for the first, and then for the second
pub room-first : (rs qs : List Record) {r₀ : Records} → Room r₀ (rs ++ qs) → Room r₀ rs
room-first rs qs r = record { count = omega (arith, r.count, length-append rs qs); space = r.space; small = all_first rs qs r.small }

pub room_next : (rs qs : List Record) {r₀ r₁ : Records} → Room r₀ (rs ++ qs) → Appended r₀ r₁ rs → Room r₁ qs
room_next rs qs r w =
    record { count = omega (arith, r.count, w.count, length-append rs qs); space = omega (arith, r.space, wrote-length w); small = all_rest rs qs r.small }

join-rise : (f : ℕ → List Record) (i j : ℕ) → length (join_n f i) ≤ length (join_n f (j + i))
unfolding join_n
join-rise f i zero = rw zero-add (omega arith)
join-rise f i (suc j) = let h = join-rise f i j in rw (suc-add, length-append) (omega arith)

-- room for all slots is room for the next one
pub room_row : (f : ℕ → List Record) (k i : ℕ) {r₀ r₁ : Records} → Room r₀ (join_n f k) → i < k → Appended r₀ r₁ (join_n f i) → Room r₁ (f i)
unfolding join_n
room_row f k i r h w =
    let q : k ≡ k - suc i + suc i = omega arith in
    let e : length (join_n f k) ≡ length (join_n f (k - suc i + suc i)) = ap (λ (j : ℕ). length (join_n f j)) q in
    record {
      count = omega (arith, r.count, w.count, length-append (join_n f i) (f i), join-rise f (suc i) (k - suc i), e);
      space = omega (arith, r.space, wrote-length w);
      small = join-all f k i h r.small;
    }
