-- What fills at one limit make of the entries: the active one has lost the sum of the quotas, each holder its own quota, no other row anything.
use mathlib.Core.Path.{◌≡◌, refl, sym, ◌∙◌, ap}
use mathlib.Core.Bool.{true}
use mathlib.Core.Logic.{⊎_elim, ◌≢◌}
use mathlib.Core.List.{List}
use Prim.Native.Nat.{ℕ, zero, suc, ◌+◌, ◌-◌, ◌≤◌, ◌<◌}
use native.Mathlib.Nat.{sub-zero, zero-sub}
use native.Mathlib.Omega.{arith}
use borrow.Author.Tests.{eqb-true, eqb-false}
use lib.Dec.{eqb}
use lib.ListN.{get_or}
use lib.Seq.{get_or-set_other}
use Rattle.base.specs.Pick.{pick, pick-by, pick_yes, pick_no}
use Rattle.base.specs.Walks.{sum_n, slot, table-slot, below}
use Rattle.rules.specs.declared.Entry.{Entry}
use Rattle.rules.specs.declared.LegOrder.{LegOrder}
use Rattle.rules.specs.declared.State.{State}
use Rattle.rules.specs.State.{no_entry, entry_at, with_entries, no_order, order_at, with_orders}
use Rattle.rules.specs.Moves.{Moved, still, and_then, each}
use Rattle.rules.specs.Sides.{other, meets}
use Rattle.rules.specs.Fills.{cut_entry, cut, whole_fill, cut_order, cut_leg}
use Rattle.rules.specs.Quotas.{Division, GivesOut}
use Rattle.rules.specs.Nets.{net_of}
use Rattle.rules.specs.National.{national_net, bounds_of, bounds_at, may_meet}
use Rattle.rules.specs.Passes.{opposes, within, beside_specialist, holding, size_at, sizes, give_at, give}
use Rattle.rules.proofs.Tables.{positive}
use Rattle.rules.proofs.Portions.{beside-divides}
use Rattle.rules.proofs.Shrinks.{Shrinks, shrinks-refl, shrinks-trans, whole-shrinks, set_own}

-- CUTS
pub cut-none : (e : Entry) → cut_entry e 0 ≡ e
cut-none e = rw (sub-zero e.units)

pub cut-cut : (e : Entry) (p q : ℕ) → cut_entry (cut_entry e p) q ≡ cut_entry e (p + q)
cut-cut e p q = let h : e.units - p - q ≡ e.units - (p + q) = omega arith in rw h

-- a row past the end stays empty, so no index needs a bound
pub cut_at : (b : State) (i q : ℕ) → entry_at (cut b i q) i ≡ cut_entry (entry_at b i) q
unfolding cut with_entries
cut_at b i q = set_own (λ (e : Entry). cut_entry e q) no_entry (rw (zero-sub q)) b.entries i

pub cut-other : (b : State) (i q j : ℕ) → j ≢ i → entry_at (cut b i q) j ≡ entry_at b j
unfolding cut with_entries
cut-other b i q j h = get_or-set_other b.entries i j _ no_entry h

pub cut_leg-at : (b : State) (i q : ℕ) → order_at (cut_leg b i q) i ≡ cut_order (order_at b i) q
unfolding cut_leg with_orders
cut_leg-at b i q = set_own (λ (o : LegOrder). cut_order o q) no_order (rw (zero-sub q)) b.orders i

pub cut_leg-other : (b : State) (i q j : ℕ) → j ≢ i → order_at (cut_leg b i q) j ≡ order_at b j
unfolding cut_leg with_orders
cut_leg-other b i q j h = get_or-set_other b.orders i j _ no_order h

-- A WHOLE FILL
pub whole-none : (b : State) (a h level q : ℕ) → q ≡ 0 → whole_fill b a h level q ≡ still b
unfolding whole_fill pick
whole-none b a h level q e = rw e

module _ (b : State) (a h level q : ℕ) where
  -- a party's entry, by what the two cuts leave of it
  whole-party : (j : ℕ) → (0 < q → entry_at (cut (cut b a q) h q) j ≡ cut_entry (entry_at b j) q) → entry_at (whole_fill b a h level q).state j ≡ cut_entry (entry_at b j) q
  unfolding whole_fill
  whole-party j c =
      pick-by (λ (m : Moved). entry_at m.state j ≡ cut_entry (entry_at b j) q) (eqb q 0)
      (λ e. rw (eqb-true q 0 e) (sym (cut-none (entry_at b j))))
      (λ e. c (positive q e))

  -- the active entry and the holder, which are not the same where anything is filled
  pub whole-active : (0 < q → h ≢ a) → entry_at (whole_fill b a h level q).state a ≡ cut_entry (entry_at b a) q
  whole-active ne = whole-party a (λ some. cut-other (cut b a q) h q a (λ g. ne some (sym g)) ∙ cut_at b a q)

  pub whole-holder : (0 < q → h ≢ a) → entry_at (whole_fill b a h level q).state h ≡ cut_entry (entry_at b h) q
  whole-holder ne = whole-party h (λ some. cut_at (cut b a q) h q ∙ ap (λ (x : Entry). cut_entry x q) (cut-other b a q h (ne some)))

  pub whole-other : (j : ℕ) → j ≢ a → j ≢ h → entry_at (whole_fill b a h level q).state j ≡ entry_at b j
  unfolding whole_fill
  whole-other j na nh =
      pick-by (λ (m : Moved). entry_at m.state j ≡ entry_at b j) (eqb q 0)
      (λ e. refl)
      (λ e. cut-other (cut b a q) h q j nh ∙ cut-other b a q j na)

  pub whole-orders : (whole_fill b a h level q).state.orders ≡ b.orders
  unfolding whole_fill cut with_entries
  whole-orders = pick-by (λ (m : Moved). m.state.orders ≡ b.orders) (eqb q 0) (λ e. refl) (λ e. refl)

  pub whole-strategies : (whole_fill b a h level q).state.strategies ≡ b.strategies
  unfolding whole_fill cut with_entries
  whole-strategies = pick-by (λ (m : Moved). m.state.strategies ≡ b.strategies) (eqb q 0) (λ e. refl) (λ e. refl)

-- WHO STANDS OPPOSITE
pub record Opposed (e f : Entry) : Type 0 where
  pub live : 0 < f.units
  pub strategy : f.strategy ≡ e.strategy
  pub side : f.side ≡ other e.side

pub opposed : (e f : Entry) → opposes e f ≡ true → Opposed e f
unfolding opposes
opposed e f h =
    let p = pick_no (eqb f.units 0) h in
    let q = pick_yes (eqb f.strategy e.strategy) p.1 in
    record {
      live = positive f.units p.0;
      strategy = eqb-true f.strategy e.strategy q.0;
      side = eqb-true f.side (other e.side) q.1;
    }

-- no side is its own other
pub other-apart : (s : ℕ) → s ≡ other s → ⊥
unfolding other
other-apart s =
    pick-by (λ (t : ℕ). s ≡ t → ⊥) (eqb s 0)
    (λ e h. omega (arith, eqb-true s 0 e))
    (λ e h. eqb-false s 0 e h)

-- an entry that opposes another stands in another slot
pub opposed-apart : (b : State) (a h : ℕ) → opposes (entry_at b a) (entry_at b h) ≡ true → h ≢ a
opposed-apart b a h o e =
    let s : (entry_at b h).side ≡ other (entry_at b a).side = (opposed (entry_at b a) (entry_at b h) o).side in
    other-apart (entry_at b a).side (ap (λ (i : ℕ). (entry_at b i).side) (sym e) ∙ s)

-- what a size above 0 says: the entry opposes, at that limit, with those units
pub record Holder (e : Entry) (level : ℕ) (f : Entry) (size : ℕ) : Type 0 where
  pub opposed : opposes e f ≡ true
  pub limit : f.level ≡ level
  pub units : size ≤ f.units

pub holder : (e : Entry) (level g : ℕ) (f : Entry) → 0 < holding e level g f → Holder e level f (holding e level g f)
unfolding holding
holder e level g f =
    let P : ℕ → Type 0 = λ (x : ℕ). 0 < x → Holder e level f x in
    pick-by P (opposes e f)
    (λ o. pick-by P (eqb f.level level)
    (λ l. pick-by P (within g f)
    (λ w h. record { opposed = o; limit = eqb-true f.level level l; units = omega arith })
    (λ w h. absurd (omega arith)))
    (λ l h. absurd (omega arith)))
    (λ o h. absurd (omega arith))

-- WHAT A TURN SAYS of the level at which entry a fills: within its limit, and within the range
pub record Lawful (b : State) (a level : ℕ) : Type 0 where
  pub limit : meets (entry_at b a).side (entry_at b a).level level ≡ true
  pub range : may_meet (bounds_at b (entry_at b a).strategy) level ≡ true

-- what bounds the fills of a strategy is the same after a move
pub bounds-same : {b c : State} → Shrinks b c → (k : ℕ) → bounds_at c k ≡ bounds_at b k
unfolding bounds_of national_net net_of
bounds-same h k = rw ((h.strategy k).legs, (h.strategy k).count, h.national, h.range)

pub lawful-shrinks : {b c : State} {a level : ℕ} → Shrinks b c → Lawful b a level → Lawful c a level
lawful-shrinks {b} {c} {a} {level} h l = record {
  limit = rw ((h.entry a).side, (h.entry a).level) l.limit;
  range = rw ((h.entry a).strategy, bounds-same h (entry_at b a).strategy) l.range;
}

-- QUOTAS FOR A GROUP: each within what its slot holds, all within the active entry's units, at a price that meets its limit
pub record Quoted (b : State) (a level g : ℕ) (qs : List ℕ) : Type 0 where
  pub within : (i : ℕ) → i < 32 → slot qs i ≤ holding (entry_at b a) level g (entry_at b i)
  pub sum : sum_n (slot qs) 32 ≤ (entry_at b a).units
  pub lawful : Lawful b a level

pub sizes-at : (es : List Entry) (e : Entry) (level g i : ℕ) → i < 32 → slot (sizes es e level g) i ≡ holding e level g (get_or es i no_entry)
unfolding sizes
sizes-at es e level g i h = table-slot (size_at es e level g) 0 32 i h

-- the second group of a starter's pass
pub specialist-divides : (a level : ℕ) (b : State) → GivesOut (beside_specialist a level b)
unfolding beside_specialist
specialist-divides a level b = beside-divides _ _

-- whichever way what remains is divided, the quotas are so
pub group-quoted : {divide : Division} → GivesOut divide → (b : State) (a level g : ℕ) → Lawful b a level → Quoted b a level g (divide (entry_at b a).units (sizes b.entries (entry_at b a) level g))
group-quoted d b a level g m =
    let r : ℕ = (entry_at b a).units in
    let xs : List ℕ = sizes b.entries (entry_at b a) level g in
    record {
      within = λ i l. rw (sizes-at b.entries (entry_at b a) level g i l) at (d.under r xs i);
      sum = omega (arith, d.sum r xs);
      lawful = m;
    }

-- the entries after the fills of the first k slots
pub record Given (b : State) (a : ℕ) (qs : List ℕ) (k : ℕ) (c : State) : Type 0 where
  pub active : entry_at c a ≡ cut_entry (entry_at b a) (sum_n (slot qs) k)
  pub done : (j : ℕ) → j < k → j ≢ a → entry_at c j ≡ cut_entry (entry_at b j) (slot qs j)
  pub ahead : (j : ℕ) → k ≤ j → j ≢ a → entry_at c j ≡ entry_at b j
  pub shrinks : Shrinks b c
  pub orders : c.orders ≡ b.orders
  pub strategies : c.strategies ≡ b.strategies

given-first : (b : State) (a : ℕ) (qs : List ℕ) → Given b a qs 0 b
unfolding sum_n
given-first b a qs = record {
  active = sym (cut-none (entry_at b a));
  done = λ j l. absurd (omega arith);
  ahead = λ j l n. refl;
  shrinks = shrinks-refl b;
  orders = refl;
  strategies = refl;
}

given-next : (b : State) (a level : ℕ) (qs : List ℕ) (k : ℕ) (c : State) → (0 < slot qs k → k ≢ a) → Given b a qs k c → Given b a qs (suc k) (give_at a level qs k c).state
unfolding sum_n
given-next b a level qs k c ne g =
    let q : ℕ = slot qs k in
    record {
      active = whole-active c a k level q ne ∙ ap (λ (x : Entry). cut_entry x q) g.active ∙ cut-cut (entry_at b a) (sum_n (slot qs) k) q;
      done = λ j l n. ⊎_elim
          (λ (e : j ≡ k). rw e (whole-holder c a k level q ne ∙ ap (λ (x : Entry). cut_entry x q) (g.ahead k (omega arith) (λ z. n (e ∙ z)))))
          (λ (m : j < k). whole-other c a k level q j n (λ (z : j ≡ k). omega arith) ∙ g.done j m n)
          (below l);
      ahead = λ j l n. whole-other c a k level q j n (λ (z : j ≡ k). omega arith) ∙ g.ahead j (omega arith) n;
      shrinks = shrinks-trans g.shrinks (whole-shrinks c a k level q);
      orders = whole-orders c a k level q ∙ g.orders;
      strategies = whole-strategies c a k level q ∙ g.strategies;
    }

module _ (b : State) (a level g : ℕ) (qs : List ℕ) (h : Quoted b a level g qs) where
  -- a slot with a quota opposes the active entry, and is another
  pub quoted-holder : (k : ℕ) → k < 32 → 0 < slot qs k → Holder (entry_at b a) level (entry_at b k) (holding (entry_at b a) level g (entry_at b k))
  quoted-holder k l some = holder (entry_at b a) level g (entry_at b k) (omega (arith, h.within k l))

  pub quoted-apart : (k : ℕ) → k < 32 → 0 < slot qs k → k ≢ a
  quoted-apart k l some = opposed-apart b a k (quoted-holder k l some).opposed

  pub given-each : (k : ℕ) → k ≤ 32 → Given b a qs k (each (give_at a level qs) k b).state
  unfolding each and_then
  given-each zero l = given-first b a qs
  given-each (suc k) l = given-next b a level qs k _ (quoted-apart k (omega arith)) (given-each k (omega arith))

  -- the entries after all the fills
  pub given : Given b a qs 32 (give a level qs b).state
  unfolding give
  given = given-each 32 (omega arith)
