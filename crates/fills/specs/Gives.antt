-- The ways that holders are met, of the entries and the strategy of the active one.
use Rattle.std.specs.Prelude.{◌≡◌, List, ◌++◌, ℕ, zero, suc, ◌+◌, ◌≤◌, ◌<◌, get_or, set, Option, unwrap_or}
use Rattle.std.proofs.Math.Path.{refl}
use Rattle.std.proofs.Common.{sym, ap, ◌∙◌, arith}
use Rattle.base.specs.All.{All}
use Rattle.base.specs.Walks.{slot, first-le}
use Rattle.base.specs.Chains.{found, found-or}
use Rattle.base.specs.Pick.{pick_all}
use Rattle.rules.specs.declared.Entry.{Entry}
use Rattle.rules.specs.declared.Strategy.{Strategy}
use Rattle.rules.specs.declared.State.{State}
use Rattle.rules.specs.State.{no_entry, no_strategy, entry_at, strategy_of, with_entries}
use Rattle.rules.specs.Moves.{Moved, still, and_then, each}
use Rattle.rules.specs.Quotas.{Division, share, share_beside}
use Rattle.rules.specs.Fills.{party_records, no_prices, cut_entry, cut}
use Rattle.rules.specs.Valid.{FitEntry}
use Rattle.rules.specs.Passes.{sizes, specialist_slot, beside_specialist, give_at, give, give_group, give_shared, give_for_starter, sweep_at}
use Rattle.rules.proofs.Gives.{whole-none}
use Rattle.rules.proofs.Portions.{beside_none}
use Rattle.rules.proofs.Shrinks.{Shrinks, shrinks-refl, whole-shrinks, then-shrinks}
use Rattle.records.specs.Space.{Appended, Room}
use Rattle.records.specs.Done.{RoomIn, DoneIn, done-still, done-of, room_of, slots-none, slots-move, slots-stay, slots-room}
use Rattle.ranges.specs.Fit.{Fit, fit-legs, fit-done}
use Rattle.fills.specs.Fills.{filled, whole-some}
use Rattle.records.specs.declared.Records.{Records}

-- a fit book with these entries, of which s is the strategy of entry a
pub record HasRows (es : List Entry) (s : Strategy) (a : ℕ) (b : State) : Type 0 where
  pub fit : Fit b
  pub entries : b.entries ≡ es
  pub strategy : strategy_of b (entry_at b a) ≡ s

-- a book with other entries
abbrev pub put_entries : List Entry → State → State
put_entries es b = with_entries b es

-- laws

-- the first k slots shrink the book
slots-shrink : (a level : ℕ) (qs : List ℕ) (k : ℕ) (b : State) → Shrinks b (each (give_at a level qs) k b).state
unfolding each
slots-shrink a level qs zero b = shrinks-refl b
slots-shrink a level qs (suc k) b =
    then-shrinks b (each (give_at a level qs) k b) (give_at a level qs k) (slots-shrink a level qs k b) (whole-shrinks _ a k level (slot qs k))

pub group-shrinks : (divide : Division) (a level g : ℕ) (b : State) → Shrinks b (give_group divide a level g b).state
unfolding give_group give
group-shrinks divide a level g b = slots-shrink a level (divide (entry_at b a).units (sizes b.entries (entry_at b a) level g)) 32 b

-- a rule that shrinks the book leaves entry a its strategy
pub holds_after : {es rows : List Entry} {s : Strategy} {a : ℕ} {f : State → Moved} {r₀ r₁ : Records} → ((b : State) → Shrinks b (f b).state) → DoneIn (HasRows es s a) f r₀ r₁ (put_entries rows) → (b : State) → HasRows es s a b → HasRows rows s a (put_entries rows b)
unfolding with_entries
holds_after {rows = rows} {a = a} shrinks d b h =
    let x = d.done b h in
    let k : Shrinks b (with_entries b rows) = rw x.state (shrinks b) in
    record { fit = fit-done x (shrinks b) h.fit; entries = refl; strategy = ap (λ (i : ℕ). get_or b.strategies i no_strategy) (k.entry a).strategy ∙ h.strategy }

-- nobody is met
pub give-nobody : (es : List Entry) (s : Strategy) (a : ℕ) (r₀ : Records) → DoneIn (HasRows es s a) still r₀ r₀ (put_entries es)
unfolding with_entries
give-nobody es s a r = record { done = λ b h. rw (sym h.entries) (done-still r b) }

-- what the witness of the room tells of the strategy and the entries
pub legs-few : {es : List Entry} {s : Strategy} {a : ℕ} {f : State → Moved} {r₀ : Records} → RoomIn (HasRows es s a) f r₀ → s.count ≤ 6
legs-few r = rw (sym r.held.strategy) (fit-legs r.held.fit.strategies _).count

pub entries_fit : {es : List Entry} {s : Strategy} {a : ℕ} {f : State → Moved} {r₀ : Records} → RoomIn (HasRows es s a) f r₀ → All FitEntry es
entries_fit r = rw (sym r.held.entries) r.held.fit.entries

-- entries a and i after a fill of q units
unfoldable pub cut_both : List Entry → ℕ → ℕ → ℕ → List Entry
cut_both rows a i q =
    let first : List Entry = set rows a (cut_entry (get_or rows a no_entry) q) in
    set first i (cut_entry (get_or first i no_entry) q)

-- the loop over the slots, which has visited i of them
pub record Giving (es : List Entry) (s : Strategy) (a level : ℕ) (qs : List ℕ) (r₀ r₁ : Records) (rows : List Entry) (i : ℕ) : Type 0 where
  pub most : i ≤ 32
  pub done : DoneIn (HasRows es s a) (each (give_at a level qs) i) r₀ r₁ (put_entries rows)

pub give-none : (es : List Entry) (s : Strategy) (a level : ℕ) (qs : List ℕ) (r₀ : Records) → Giving es s a level qs r₀ r₀ es 0
unfolding with_entries
give-none es s a level qs r = record { most = omega arith; done = slots-none _ (λ b h. rw (sym h.entries)) }

module _ {es : List Entry} {s : Strategy} {a level : ℕ} {qs : List ℕ} {r₀ r₁ : Records} {rows : List Entry} {i : ℕ} (g : Giving es s a level qs r₀ r₁ rows i) where
  holds-here : (b : State) → HasRows es s a b → HasRows rows s a (put_entries rows b)
  holds-here = holds_after (slots-shrink a level qs i) g.done

  pub give-room : RoomIn (HasRows es s a) (give a level qs) r₀ → i < 32 → (slot qs i ≡ 0 → ⊥) →
      Room r₁ (party_records (get_or rows a no_entry) s (slot qs i) level no_prices ++ party_records (get_or rows i no_entry) s (slot qs i) level no_prices)
  unfolding give filled with_entries
  give-room r l some =
      rw (holds-here r.book r.held).strategy at (room_of (whole-some _ a i level (slot qs i) some) (slots-room (give_at a level qs) g.done 32 r l))

  pub give-moves : i < 32 → (slot qs i ≡ 0 → ⊥) → {r₂ : Records}
      → Appended r₁ r₂ (party_records (get_or rows a no_entry) s (slot qs i) level no_prices ++ party_records (get_or rows i no_entry) s (slot qs i) level no_prices)
      → Giving es s a level qs r₀ r₂ (cut_both rows a i (slot qs i)) (i + 1)
  unfolding filled cut cut_both with_entries
  give-moves l some w = record {
    most = omega arith;
    done = slots-move (give_at a level qs) g.done (λ b h. done-of (whole-some _ a i level (slot qs i) some) (record { wrote = rw (holds-here b h).strategy w; state = refl }));
  }

  pub give-stays : i < 32 → slot qs i ≡ 0 → Giving es s a level qs r₀ r₁ rows (i + 1)
  give-stays l none = record { most = omega arith; done = slots-stay (give_at a level qs) g.done (λ b h. whole-none _ a i level (slot qs i) none) }

  pub give_all : 32 ≤ i → DoneIn (HasRows es s a) (give a level qs) r₀ r₁ (put_entries rows)
  unfolding give
  give_all l = let e : i ≡ 32 = omega (arith, g.most) in rw e at g.done

-- past the table there is no specialist's sweep
pub group-past : {es : List Entry} {s : Strategy} (a level g p : ℕ) (b : State) → HasRows es s a b → give_group share a level g b ≡ give_group (share_beside 32 p) a level g b
unfolding give_group
group-past a level g p b h = rw (beside_none 32 p (entry_at b a).units (sizes b.entries (entry_at b a) level g) (omega arith))

pub shared-is : {es : List Entry} {s : Strategy} (a level p : ℕ) (b : State) → HasRows es s a b → give_shared share a level b ≡ give_shared (share_beside 32 p) a level b
unfolding give_shared give_group and_then
shared-is a level p b h = rw (beside_none 32 p _ _ (omega arith))

-- the slot of the specialist's sweep is one of the table, or past it
slot-most : (member : ℕ) (es : List Entry) (e : Entry) (level : ℕ) → specialist_slot member es e level ≤ 32
unfolding specialist_slot
slot-most member es e level = pick_all (λ (k : ℕ). k ≤ 32) _ (omega arith) (first-le (sweep_at member es e level) 32)

-- a starter's groups, by the slot that the code has found
pub for-starter-is : {es : List Entry} {s : Strategy} (a level : ℕ) {k : Option ℕ} → k ≡ found 32 (specialist_slot s.specialist.member es (get_or es a no_entry) level) → (b : State) → HasRows es s a b
    → give_for_starter a level b ≡ give_shared (share_beside (unwrap_or k 32) s.specialist.percentage) a level b
unfolding give_for_starter beside_specialist
for-starter-is a level e b h = rw ((found-or (slot-most _ _ _ level) e).0, h.strategy, h.entries)

-- a group, by the quotas that the code has found
pub group-is : {es : List Entry} {s : Strategy} (divide : Division) (a level g : ℕ) {qs : List ℕ} → qs ≡ divide (get_or es a no_entry).units (sizes es (get_or es a no_entry) level g) → (b : State) → HasRows es s a b → give_group divide a level g b ≡ give a level qs b
unfolding give_group
group-is divide a level g e b h = rw (e, h.entries)
