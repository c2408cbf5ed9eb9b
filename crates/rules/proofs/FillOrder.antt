-- "Each holder met is a fill of its own, by number within a group": the records 1 of a group's holders stand by rising number.
use mathlib.Core.Path.{◌≡◌, refl, sym, ◌∙◌, ap, subst}
use mathlib.Core.Bool.{Bool, false}
use mathlib.Core.Logic.{⊎_elim}
use mathlib.Core.List.{List, [], ◌∷◌, ◌++◌, append-nil}
use Prim.Native.Nat.{ℕ, zero, suc, ◌≤◌, ◌<◌}
use native.Mathlib.Omega.{arith}
use borrow.Author.Tests.{ne_eqb}
use lib.Dec.{eqb}
use Rattle.base.specs.Pick.{pick_all, pick-by, pick-ap, pick-false}
use Rattle.base.specs.All.{All, all_nil, all_cons, all_append, all_map, Sorted, sort-nil, sort-cons, sorted-append}
use Rattle.base.specs.Walks.{slot, any_n, join_n, any_none, all_join, sum_one, lt-or-le}
use Rattle.rules.specs.declared.Strategy.{Strategy}
use Rattle.rules.specs.declared.Entry.{Entry}
use Rattle.rules.specs.declared.State.{State}
use Rattle.rules.specs.declared.Record.{Record}
use Rattle.rules.specs.State.{entry_at, strategy_of}
use Rattle.rules.specs.Moves.{Moved, and_then, each}
use Rattle.rules.specs.Records.{kind_number}
use Rattle.rules.specs.Fills.{whole_record, leg_record_at, party_records, no_prices, whole_fill}
use Rattle.rules.specs.Quotas.{Division, GivesOut, in_turn, share}
use Rattle.rules.specs.Passes.{group_of, holding, sizes, give_at, give, give_group, give_shared}
use Rattle.rules.specs.Events.{keep}
use Rattle.rules.specs.Valid.{Sound}
use Rattle.rules.specs.Sentences.{held_by, fill_in, ByNumber}
use Rattle.rules.proofs.Tables.{positive}
use Rattle.rules.proofs.Shrinks.{Shrinks, shrinks-refl, shrinks-trans}
use Rattle.rules.proofs.Quotas.{in_turn-divides, share-divides}
use Rattle.rules.proofs.Gives.{Lawful, lawful-shrinks, opposed, holder, sizes-at, Quoted, group-quoted, quoted-holder, given-each}
use Rattle.rules.proofs.Control.{group-given}
use Rattle.rules.proofs.Settled.{same_or}
use Rattle.rules.proofs.Groups.{holding-in, in_group, group-same, holding-own}
use Rattle.rules.proofs.Cancels.{same-slot}

-- WHAT A TEST KEEPS of two lists, and of one in which nothing passes
module _ {A : Type 0} (test : A → Bool) where
  keep_append : (l m : List A) → keep test (l ++ m) ≡ keep test l ++ keep test m
  unfolding keep
  keep_append [] m = refl
  keep_append (x ∷ l) m = rw (keep_append l m) (sym (pick-ap (λ (y : List A). y ++ keep test m) (test x) (x ∷ keep test l) (keep test l)))

  keep-none : {l : List A} → All (λ (x : A). test x ≡ false) l → keep test l ≡ []
  unfolding keep
  keep-none all_nil = refl
  keep-none (all_cons e x) = pick-false _ _ _ e ∙ keep-none x

-- by number
abbrev Rising : Record → Record → Type 0
Rising r s = r.number < s.number

-- THE RECORDS OF THE FIRST k SLOTS: by number, and all below the live entries of the slots from k on
record UpTo (b : State) (k : ℕ) (rs : List Record) : Type 0 where
  low : All (λ (r : Record). (j : ℕ) → k ≤ j → 0 < (entry_at b j).units → r.number < (entry_at b j).number) rs
  order : Sorted Rising rs

-- one slot more, without a record
up_none : (b : State) (k : ℕ) (rs : List Record) → UpTo b k rs → UpTo b (suc k) (rs ++ [])
up_none b k rs p = rw (append-nil rs) (record { low = all_map (λ r h j l. h j (omega arith)) p.low; order = p.order })

-- .. and with one
up_one : (b : State) → Sound b → (k : ℕ) (rs : List Record) (r : Record) → r.number ≡ (entry_at b k).number → 0 < (entry_at b k).units → UpTo b k rs → UpTo b (suc k) (rs ++ (r ∷ []))
up_one b v k rs r e live p = record {
  low = all_append (all_map (λ x h j l. h j (omega arith)) p.low) (all_cons (λ j l some. omega (arith, e, v.rising k j l live some)) all_nil);
  order = sorted-append p.order (sort-cons all_nil sort-nil) (all_map (λ x h. all_cons (omega (arith, e, h k (omega arith) live)) all_nil) p.low);
}

-- one of another group holds nothing in this one
holding-apart : (e f : Entry) (level g : ℕ) → g < 3 → (group_of f ≡ g → ⊥) → holding e level g f ≡ 0
holding-apart e f level g low n = ⊎_elim
    (λ (p : 0 < holding e level g f). absurd (n (in_group f g low (holding-in e f level g p))))
    (λ (p : holding e level g f ≤ 0). omega arith)
    (lt-or-le 0 (holding e level g f))

module _ (b : State) (v : Sound b) (a level g : ℕ) where
  -- a record 1 of one of the group's holders
  abbrev of_group : Record → Bool
  of_group = fill_in b a level g

  -- the number of a live entry that holds nothing in the group is no holder's: live entries have numbers of their own
  not-held : (j : ℕ) → 0 < (entry_at b j).units → holding (entry_at b a) level g (entry_at b j) ≡ 0 → any_n (held_by b a level g (entry_at b j).number) 32 ≡ false
  not-held j live none =
      any_none (held_by b a level g (entry_at b j).number) 32
      (λ i l.
      pick-by (λ (t : Bool). t ≡ false) (eqb (slot (sizes b.entries (entry_at b a) level g) i) 0)
      (λ _. refl)
      (λ e.
      let some : 0 < holding (entry_at b a) level g (entry_at b i) = omega (arith, sizes-at b.entries (entry_at b a) level g i l, positive (slot (sizes b.entries (entry_at b a) level g) i) e) in
      ne_eqb (entry_at b i).number (entry_at b j).number
      (λ q.
      let same : i ≡ j = same-slot v i j (omega (arith, (holder (entry_at b a) level g (entry_at b i) some).units)) live q in
      omega (arith, ap (λ (k : ℕ). holding (entry_at b a) level g (entry_at b k)) same))))

  -- so its record 1 is not kept
  fill-out : (j : ℕ) (e : Entry) (q : ℕ) → e.number ≡ (entry_at b j).number → 0 < (entry_at b j).units → holding (entry_at b a) level g (entry_at b j) ≡ 0 → keep of_group (whole_record e q level ∷ []) ≡ []
  fill-out j e q n live none = keep-none of_group (all_cons (pick_all (λ (t : Bool). t ≡ false) _ (rw n (not-held j live none)) refl) all_nil)

  -- of a party's records no record 2 is kept
  party-kept : (e : Entry) (s : Strategy) (q : ℕ) (ps : List ℕ) → keep of_group (party_records e s q level ps) ≡ keep of_group (whole_record e q level ∷ [])
  unfolding party_records kind_number
  party-kept e s q ps =
      let legs : keep of_group (join_n (leg_record_at e s.legs q ps) s.count) ≡ [] =
      keep-none of_group (all_join (leg_record_at e s.legs q ps) s.count (λ i l. all_cons (pick-false _ _ _ refl) all_nil)) in
      keep_append of_group (whole_record e q level ∷ []) _ ∙ ap (λ (x : List Record). keep of_group (whole_record e q level ∷ []) ++ x) legs ∙ append-nil _

  -- of both parties' records only the holder's record 1, where the active one's is not
  fill-kept : (e f : Entry) (s : Strategy) (q : ℕ) (ps : List ℕ) → keep of_group (whole_record e q level ∷ []) ≡ [] →
      keep of_group (party_records e s q level ps ++ party_records f s q level ps) ≡ keep of_group (whole_record f q level ∷ [])
  fill-kept e f s q ps out =
      keep_append of_group (party_records e s q level ps) (party_records f s q level ps)
      ∙ ap (λ (x : List Record). x ++ keep of_group (party_records f s q level ps)) (party-kept e s q ps ∙ out)
      ∙ party-kept f s q ps

  -- THE FILLS OF A GROUP h, from a state c that fills have led to from b
  module _ (h : ℕ) (c : State) (s : Shrinks b c) (qs : List ℕ) (q : Quoted c a level h qs) where
    -- before the fill of slot k
    abbrev before : ℕ → State
    before k = (each (give_at a level qs) k c).state

    since : (k : ℕ) → k ≤ 32 → Shrinks b (before k)
    since k l = shrinks-trans s (given-each c a level h qs q k l).shrinks

    -- both parties of a fill live in b
    active-live : (k : ℕ) → k < 32 → 0 < slot qs k → 0 < (entry_at b a).units
    active-live k l some = omega (arith, sum_one (slot qs) 32 k l, q.sum, (s.entry a).units)

    holder-live : (k : ℕ) → k < 32 → 0 < slot qs k → 0 < (entry_at b k).units
    holder-live k l some = omega (arith, (opposed (entry_at c a) (entry_at c k) (quoted-holder c a level h qs q k l some).opposed).live, (s.entry k).units)

    -- of a slot's records none is kept but the holder's record 1
    slot_kept : (P : List Record → Type 0) (k : ℕ) → k < 32 → P [] → (0 < slot qs k → P (keep of_group (whole_record (entry_at (before k) k) (slot qs k) level ∷ [])))
        → P (keep of_group (give_at a level qs k (before k)).records)
    unfolding whole_fill keep
    slot_kept P k l none one =
        pick-by (λ (m : Moved). P (keep of_group m.records)) (eqb (slot qs k) 0)
        (λ _. none)
        (λ e.
        let some : 0 < slot qs k = positive (slot qs k) e in
        let active : keep of_group (whole_record (entry_at (before k) a) (slot qs k) level ∷ []) ≡ [] =
        fill-out a (entry_at (before k) a) (slot qs k) ((since k (omega arith)).entry a).number (active-live k l some) (holding-own (entry_at b a) level g) in
        subst P (sym (fill-kept (entry_at (before k) a) (entry_at (before k) k) (strategy_of (before k) (entry_at (before k) a)) (slot qs k) no_prices active)) (one some))

    -- the kept ones rise
    kept-rising : (k : ℕ) → k ≤ 32 → UpTo b k (keep of_group (each (give_at a level qs) k c).records)
    unfolding each and_then keep
    kept-rising zero l = record { low = all_nil; order = sort-nil }
    kept-rising (suc k) l =
        let rs : List Record = (each (give_at a level qs) k c).records in
        let p : UpTo b k (keep of_group rs) = kept-rising k (omega arith) in
        let P : List Record → Type 0 = λ (xs : List Record). UpTo b (suc k) (keep of_group rs ++ xs) in
        subst (UpTo b (suc k)) (sym (keep_append of_group rs (give_at a level qs k (before k)).records))
        (slot_kept P k (omega arith) (up_none b k _ p)
        (λ some. pick_all P _ (up_one b v k _ _ ((since k (omega arith)).entry k).number (holder-live k (omega arith) some) p) (up_none b k _ p)))

    -- of another group's fills none is kept
    kept-none : g < 3 → h < 3 → (h ≡ g → ⊥) → (k : ℕ) → k ≤ 32 → keep of_group (each (give_at a level qs) k c).records ≡ []
    unfolding each and_then
    kept-none lg lh n zero l = keep-none of_group all_nil
    kept-none lg lh n (suc k) l =
        keep_append of_group (each (give_at a level qs) k c).records (give_at a level qs k (before k)).records
        ∙ rw (kept-none lg lh n k (omega arith))
        (slot_kept (λ (xs : List Record). xs ≡ []) k (omega arith) refl
        (λ some.
        let p : 0 < holding (entry_at c a) level h (entry_at c k) = omega (arith, q.within k (omega arith)) in
        let mine : group_of (entry_at b k) ≡ h = sym (group-same (s.entry k)) ∙ in_group (entry_at c k) h lh (holding-in (entry_at c a) (entry_at c k) level h p) in
        fill-out k (entry_at (before k) k) (slot qs k) ((since k (omega arith)).entry k).number (holder-live k (omega arith) some)
        (holding-apart (entry_at b a) (entry_at b k) level g lg (λ z. n (sym mine ∙ z)))))

  -- of all its fills
  module _ {divide : Division} (d : GivesOut divide) (h : ℕ) (c : State) (s : Shrinks b c) (m : Lawful c a level) where
    group-rising : Sorted Rising (keep of_group (give_group divide a level h c).records)
    unfolding give_group give
    group-rising = (kept-rising h c s _ (group-quoted d c a level h m) 32 (omega arith)).order

    group-none : g < 3 → h < 3 → (h ≡ g → ⊥) → keep of_group (give_group divide a level h c).records ≡ []
    unfolding give_group give
    group-none lg lh n = kept-none h c s _ (group-quoted d c a level h m) lg lh n 32 (omega arith)

-- AT ONE LIMIT of a shared pass, whichever way its second group is divided
pub in-order-by-number : {second : Division} → GivesOut second → (b : State) → Sound b → (a level : ℕ) → Lawful b a level → ByNumber b a level (give_shared second a level b)
unfolding give_shared and_then
in-order-by-number {second} d b v a level m g low =
    let test : Record → Bool = fill_in b a level g in
    let one : Moved = give_group in_turn a level 0 b in
    let two : Moved = give_group second a level 1 one.state in
    let three : Moved = give_group share a level 2 two.state in
    let s0 : Shrinks b b = shrinks-refl b in
    let s1 : Shrinks b one.state = (group-given in_turn-divides a level 0 b m).shrinks in
    let m1 : Lawful one.state a level = lawful-shrinks s1 m in
    let s2 : Shrinks b two.state = shrinks-trans s1 (group-given d a level 1 one.state m1).shrinks in
    let m2 : Lawful two.state a level = lawful-shrinks s2 m in
    let none0 = group-none b v a level g in_turn-divides 0 b s0 m low (omega arith) in
    let none1 = group-none b v a level g d 1 one.state s1 m1 low (omega arith) in
    let none2 = group-none b v a level g share-divides 2 two.state s2 m2 low (omega arith) in
    let P : Type 0 = Sorted Rising (keep test one.records ++ (keep test two.records ++ keep test three.records)) in
    subst (Sorted Rising) (sym (keep_append test one.records (two.records ++ three.records) ∙ ap (λ (x : List Record). keep test one.records ++ x) (keep_append test two.records three.records)))
    (same_or P g 0
    (λ e. rw (none1 (λ z. omega arith), none2 (λ z. omega arith), append-nil (keep test one.records)) (group-rising b v a level g in_turn-divides 0 b s0 m))
    (λ n0. same_or P g 1
    (λ e. rw (none0 (λ z. omega arith), none2 (λ z. omega arith), append-nil (keep test two.records)) (group-rising b v a level g d 1 one.state s1 m1))
    (λ n1. rw (none0 (λ z. n0 (sym z)), none1 (λ z. n1 (sym z))) (group-rising b v a level g share-divides 2 two.state s2 m2))))
