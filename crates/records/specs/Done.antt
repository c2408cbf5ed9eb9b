-- What a function that follows a rule leaves: the rule's records in the space, the next place, and the rule's state.
use Rattle.std.specs.Prelude.{◌≡◌, refl, ℕ, zero, suc, ◌+◌, ◌-◌, ◌≤◌, ◌<◌, length}
use Rattle.std.proofs.Common.{ap, subst, ⊎_elim, zero-add, suc-add, add-one, arith, length-append}
use Rattle.rules.specs.declared.State.{State}
use Rattle.rules.specs.Moves.{Moved, still, and_then, each}
use Rattle.base.specs.All.{All, all_first, all_rest}
use Rattle.base.specs.Walks.{below}
use Rattle.records.specs.declared.Records.{Records}
use Rattle.records.specs.Space.{Small, Appended, Room, wrote-nil, wrote-append, wrote-length, room-first, room_next}

-- A function that follows a rule x: it wrote the rule's records behind those of r₀, which became r₁, and ends in its book.
pub record Done (r₀ r₁ : Records) (b : State) (x : Moved) : Type 0 where
  pub wrote : Appended r₀ r₁ x.records
  pub state : b ≡ x.state

-- laws

pub done-still : (r : Records) (b : State) → Done r r b (still b)
done-still r b = record { wrote = wrote-nil r; state = refl }

pub done-of : {r₀ r₁ : Records} {b : State} {x y : Moved} → x ≡ y → Done r₀ r₁ b y → Done r₀ r₁ b x
done-of e d = rw e d

pub done-length : {r₀ r₁ : Records} {b : State} {x : Moved} → Done r₀ r₁ b x → length r₁.space.now ≡ length r₀.space.now
done-length d = wrote-length d.wrote

pub done-then : (x : Moved) (f : State → Moved) {r₀ r₁ r₂ : Records} {b c : State} → Done r₀ r₁ b x → Done r₁ r₂ c (f b) → Done r₀ r₂ c (and_then x f)
unfolding and_then
done-then x f d e = let g = rw d.state at e in record { wrote = wrote-append d.wrote g.wrote; state = g.state }

pub room-then : (x : Moved) (f : State → Moved) {r₀ : Records} → Room r₀ (and_then x f).records → Room r₀ x.records
unfolding and_then
room-then x f r = room-first x.records (f x.state).records r

pub room_after : (x : Moved) (f : State → Moved) {r₀ r₁ : Records} {b : State} → Room r₀ (and_then x f).records → Done r₀ r₁ b x → Room r₁ (f b).records
unfolding and_then
room_after x f r d = rw d.state (room_next x.records (f x.state).records r d.wrote)

-- the loop over the slots: none passed yet, and one more
each_first : (r₀ : Records) (f : ℕ → State → Moved) (b : State) → Done r₀ r₀ b (each f 0 b)
unfolding each
each_first r f b = done-still r b

each_next : (f : ℕ → State → Moved) (i : ℕ) (b₀ : State) {r₀ r₁ r₂ : Records} {b c : State} → Done r₀ r₁ b (each f i b₀) → Done r₁ r₂ c (f i b) → Done r₀ r₂ c (each f (i + 1) b₀)
unfolding each
each_next f i b₀ d e = rw (add-one i) (done-then (each f i b₀) (f i) d e)

each-rise : (f : ℕ → State → Moved) (b : State) (i j : ℕ) → length (each f i b).records ≤ length (each f (j + i) b).records
unfolding each and_then
each-rise f b i zero = rw zero-add (omega arith)
each-rise f b i (suc j) = let h = each-rise f b i j in rw (suc-add, length-append) (omega arith)

each-small : (f : ℕ → State → Moved) (b : State) (k i : ℕ) → i < k → All Small (each f k b).records → All Small (f i (each f i b).state).records
unfolding each and_then
each-small f b zero i h a = absurd (omega arith)
each-small f b (suc k) i h a = ⊎_elim (λ e. rw e (all_rest (each f k b).records _ a)) (λ l. each-small f b k i l (all_first (each f k b).records _ a)) (below h)

-- room for all slots is room for the next one
room-each : (f : ℕ → State → Moved) (k i : ℕ) (b₀ : State) {r₀ r₁ : Records} {b : State} → Room r₀ (each f k b₀).records → i < k → Done r₀ r₁ b (each f i b₀) → Room r₁ (f i b).records
unfolding each and_then
room-each f k i b₀ r h d =
    let q : k ≡ k - suc i + suc i = omega arith in
    let e : length (each f k b₀).records ≡ length (each f (k - suc i + suc i) b₀).records = ap (λ (j : ℕ). length (each f j b₀).records) q in
    rw d.state
    (record {
      count = omega (arith, r.count, d.wrote.count, length-append (each f i b₀).records (f i (each f i b₀).state).records, each-rise f b₀ (suc i) (k - suc i), e);
      space = omega (arith, r.space, done-length d);
      small = each-small f b₀ k i h r.small;
    })

pub room_of : {r₀ : Records} {x y : Moved} → x ≡ y → Room r₀ x.records → Room r₀ y.records
room_of {r₀} e r = subst (λ (z : Moved). Room r₀ z.records) e r

-- a loop over k slots that has visited i of them: their rules are followed, from the book b₀ to the book b
pub record Visited (f : ℕ → State → Moved) (k : ℕ) (b₀ : State) (r₀ r₁ : Records) (b : State) (i : ℕ) : Type 0 where
  pub most : i ≤ k
  pub done : Done r₀ r₁ b (each f i b₀)

pub visit-none : (f : ℕ → State → Moved) (k : ℕ) (b : State) (r₀ : Records) → Visited f k b r₀ r₀ b 0
visit-none f k b r = record { most = omega arith; done = each_first r f b }

module _ {f : ℕ → State → Moved} {k i : ℕ} {b₀ b : State} {r₀ r₁ : Records} (v : Visited f k b₀ r₀ r₁ b i) where
  -- the next slot moves by its rule x, or stays; and the room for it
  pub visit-moves : i < k → {x : Moved} → f i b ≡ x → {r₂ : Records} {c : State} → Done r₁ r₂ c x → Visited f k b₀ r₀ r₂ c (i + 1)
  visit-moves h e d = record { most = omega arith; done = each_next f i b₀ v.done (done-of e d) }

  pub visit-stays : i < k → f i b ≡ still b → Visited f k b₀ r₀ r₁ b (i + 1)
  visit-stays h e = visit-moves h e (done-still r₁ b)

  pub visit-room : i < k → {x : Moved} → f i b ≡ x → Room r₀ (each f k b₀).records → Room r₁ x.records
  visit-room h e r = room_of e (room-each f k i b₀ r h v.done)

  -- all slots
  pub visit-all : k ≤ i → Done r₀ r₁ b (each f k b₀)
  visit-all h = let e : i ≡ k = omega (arith, v.most) in rw e at v.done

-- A function that is handed parts of a book speaks of every book H that has them; one of these witnesses the room.

-- room for a rule f from a book of H
pub record RoomIn (H : State → Type 0) (f : State → Moved) (r₀ : Records) : Type 0 where
  pub book : State
  pub held : H book
  pub room : Room r₀ (f book).records

-- from each book of H the rule f was followed, which ends in `put` of the book
pub record DoneIn (H : State → Type 0) (f : State → Moved) (r₀ r₁ : Records) (put : State → State) : Type 0 where
  pub done : (b : State) → H b → Done r₀ r₁ (put b) (f b)

pub in-length : {H : State → Type 0} {f g : State → Moved} {r₀ r₁ : Records} {put : State → State} → RoomIn H g r₀ → DoneIn H f r₀ r₁ put → length r₁.space.now ≡ length r₀.space.now
in-length r d = done-length (d.done r.book r.held)

-- a rule by its name in these books
pub in-room : {H : State → Type 0} {f g : State → Moved} {r₀ : Records} → ((b : State) → H b → f b ≡ g b) → RoomIn H f r₀ → RoomIn H g r₀
in-room same r = record { book = r.book; held = r.held; room = room_of (same r.book r.held) r.room }

pub in-done : {H : State → Type 0} {f g : State → Moved} {r₀ r₁ : Records} {put : State → State} → ((b : State) → H b → f b ≡ g b) → DoneIn H g r₀ r₁ put → DoneIn H f r₀ r₁ put
in-done same d = record { done = λ b h. done-of (same b h) (d.done b h) }

-- two rules one after the other: after the first, the book is one of K
module _ {H : State → Type 0} (f g : State → Moved) {r₀ : Records} where
  pub in-first : RoomIn H (λ b. and_then (f b) g) r₀ → RoomIn H f r₀
  in-first r = record { book = r.book; held = r.held; room = room-then _ _ r.room }

  pub in_after : {K : State → Type 0} {r₁ : Records} {put : State → State} → RoomIn H (λ b. and_then (f b) g) r₀ → DoneIn H f r₀ r₁ put → ((b : State) → H b → K (put b)) → RoomIn K g r₁
  in_after r d k = record { book = _; held = k r.book r.held; room = room_after _ _ r.room (d.done r.book r.held) }

  pub in_then : {K : State → Type 0} {r₁ r₂ : Records} {put push : State → State} → DoneIn H f r₀ r₁ put → ((b : State) → H b → K (put b)) → DoneIn K g r₁ r₂ push → DoneIn H (λ b. and_then (f b) g) r₀ r₂ (λ b. push (put b))
  in_then d k e = record { done = λ b h. done-then _ _ (d.done b h) (e.done _ (k b h)) }

-- the loop over the slots: none passed yet, one more that moves or stays, and the room for it
module _ {H : State → Type 0} (f : ℕ → State → Moved) {r₀ : Records} where
  pub slots-none : {put : State → State} → ((b : State) → H b → put b ≡ b) → DoneIn H (each f 0) r₀ r₀ put
  slots-none same = record { done = λ b h. rw (same b h) (each_first r₀ f b) }

  module _ {r₁ : Records} {i : ℕ} {put : State → State} (d : DoneIn H (each f i) r₀ r₁ put) where
    pub slots-move : {r₂ : Records} {next : State → State} → ((b : State) → H b → Done r₁ r₂ (next b) (f i (put b))) → DoneIn H (each f (i + 1)) r₀ r₂ next
    slots-move moves = record { done = λ b h. each_next f i b (d.done b h) (moves b h) }

    pub slots-stay : ((b : State) → H b → f i (put b) ≡ still (put b)) → DoneIn H (each f (i + 1)) r₀ r₁ put
    slots-stay stays = slots-move (λ b h. done-of (stays b h) (done-still r₁ (put b)))

    pub slots-room : (k : ℕ) (r : RoomIn H (each f k) r₀) → i < k → Room r₁ (f i (put r.book)).records
    slots-room k r h = room-each f k i r.book r.room h (d.done r.book r.held)
