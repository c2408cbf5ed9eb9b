-- The leg orders of a lent row, read entry by entry, and the depth that they give.
use Rattle.std.specs.Prelude.{◌≡◌, refl, Bool, true, false, List, [], ◌∷◌, map, ℕ, zero, suc, ◌+◌, ◌≤◌, ◌<◌, eqb, ltb, length, get_or, set, replicate, Result, Ok, Err}
use Rattle.std.proofs.Common.{sym, ◌∙◌, ap, ⊎_elim, add-one, arith, eqb-true, eq-eqb, ne_eqb, ltb-false, leb-true, le-ltb, lt-ltb, le-leb, length-set, get_or-set_same, get_or-set_other}
use Rattle.std.proofs.Math.Path.{fun_ext}
use Rattle.std.proofs.lemmas.Bool.{eqb-false}
use Rattle.std.proofs.Math.ListN.{get_or-map, get_or-eq_default}
use Rattle.base.specs.Pick.{pick, pick_all, pick-by, pick_true, pick-false, pick_no}
use Rattle.base.specs.All.{All, all-at, all_set, all_replicate, all_map}
use Rattle.base.specs.Walks.{walk, table, sum_n, slot, all_n, below, lt-or-le, all-holds, all-every, all-stop, length-table, table-slot}
use Rattle.rules.specs.declared.LegOrder.{LegOrder}
use Rattle.rules.specs.declared.OrderEntry.{OrderEntry}
use Rattle.rules.specs.declared.State.{State}
use Rattle.events.specs.declared.Refusal.{Refusal}
use Rattle.events.specs.declared.Refusal.TheVariants as F
use Rattle.rules.specs.State.{no_order}
use Rattle.rules.specs.Nets.{stands, price_with, price_step, price_of, lot, lot_at, lots}
use Rattle.rules.specs.Lookups.{LookedUp, values, refused_by, depth_tells, depth_of, no_order_entry, as_order, well_formed, well_formed_at, row_depth}
use Rattle.rules.specs.Valid.{FitOrder, Priced, Valid}
use Rattle.rules.proofs.Bests.{priced-sound}
use Rattle.ranges.specs.Fit.{priced-at}
use Rattle.lookups.specs.Lookups.{book_depth, entry_of, lent_at, lent_row}

-- an order entry as a leg order; an empty one, whatever its other fields, as the empty leg order
unfoldable pub order_of : OrderEntry → LegOrder
order_of e = pick (eqb e.contracts 0) no_order (as_order e)

-- an entry read as a leg order: "3 if .. an entry that isn't empty has a field outside kind 4's range"
unfoldable pub order_read : OrderEntry → Result LegOrder Refusal
order_read e = pick (well_formed e) (Ok (order_of e)) (Err F.BadField)

-- the leg orders with that of the entry at place i of the row
abbrev pub orders_step : List OrderEntry → ℕ → List LegOrder → List LegOrder
orders_step row i os = set os i (order_of (get_or row i no_order_entry))

-- after the first k entries
unfoldable pub orders_n : List OrderEntry → ℕ → List LegOrder
orders_n row k = walk (orders_step row) (replicate 32 no_order) k

-- the leg orders of a row, if each entry is well formed
unfoldable pub orders_read : List OrderEntry → Result (List LegOrder) Refusal
orders_read row = pick (all_n (well_formed_at row) (length row)) (Ok (orders_n row (length row))) (Err F.BadField)

-- laws

-- a leg order that the depth may be read from
pub record Sound (o : LegOrder) : Type 0 where
  pub fit : FitOrder o
  pub price : 0 < o.contracts → 1 ≤ o.price

no-order-sound : Sound no_order
no-order-sound = record { fit = record { number = omega arith; member = omega arith; series = omega arith; side = omega arith; contracts = omega arith; price = omega arith }; price = λ h. absurd (omega arith) }

-- what a well-formed entry that is not empty says of its fields
pub record Formed (e : OrderEntry) : Type 0 where
  pub series : e.series ≤ 31
  pub side : e.side ≤ 1
  pub contracts : e.contracts ≤ 9999
  pub some : ¬ (e.price ≡ 0)
  pub price : e.price ≤ 99_999

pub formed : (e : OrderEntry) → well_formed e ≡ true → eqb e.contracts 0 ≡ false → Formed e
unfolding well_formed
formed e w n =
    let a = pick_no (ltb 31 e.series) (sym (pick-false _ _ _ n) ∙ w) in
    let b = pick_no (ltb 1 e.side) a.1 in
    let c = pick_no (ltb 9999 e.contracts) b.1 in
    let d = pick_no (eqb e.price 0) c.1 in
    record {
      series = ltb-false 31 e.series a.0;
      side = ltb-false 1 e.side b.0;
      contracts = ltb-false 9999 e.contracts c.0;
      some = eqb-false e.price 0 d.0;
      price = leb-true e.price 99_999 d.1;
    }

-- a value or a refusal by a test, as it is answered
module _ {A : Type 0} (t : Bool) (a : A) (f : Refusal) where
  picked-ok : {x : A} → ◌≡◌ {A = Result A Refusal} (Ok x) (pick t (Ok a) (Err f)) → (t ≡ true) × (x ≡ a)
  unfolding pick
  picked-ok {x} = by t
    where
      by : (u : Bool) → ◌≡◌ {A = Result A Refusal} (Ok x) (pick u (Ok a) (Err f)) → (u ≡ true) × (x ≡ a)
      by true = λ h. (refl, cc)
      by false = λ h. absurd (let z : ◌≡◌ {A = ℕ} 0 1 = cc in omega arith)

  picked-err : {r : Refusal} → ◌≡◌ {A = Result A Refusal} (Err r) (pick t (Ok a) (Err f)) → (t ≡ false) × (r ≡ f)
  unfolding pick
  picked-err {r} = by t
    where
      by : (u : Bool) → ◌≡◌ {A = Result A Refusal} (Err r) (pick u (Ok a) (Err f)) → (u ≡ false) × (r ≡ f)
      by true = λ h. absurd (let z : ◌≡◌ {A = ℕ} 0 1 = cc in omega arith)
      by false = λ h. (refl, cc)

-- an entry by what reading it answers
module _ (e : OrderEntry) where
  pub entry-read : {o : LegOrder} → ◌≡◌ {A = Result LegOrder Refusal} (Ok o) (order_read e) → (well_formed e ≡ true) × (o ≡ order_of e)
  unfolding order_read
  entry-read = picked-ok _ _ _

  pub entry-unread : {r : Refusal} → ◌≡◌ {A = Result LegOrder Refusal} (Err r) (order_read e) → (well_formed e ≡ false) × (r ≡ F.BadField)
  unfolding order_read
  entry-unread = picked-err _ _ _

-- each leg order of the row is sound
order-sound : (e : OrderEntry) → well_formed e ≡ true → Sound (order_of e)
unfolding order_of
order-sound e w =
    pick-by Sound _ (λ z. no-order-sound)
    (λ n. let f = formed e w n in
    record {
      fit = record { number = omega arith; member = omega arith; series = omega (arith, f.series); side = f.side; contracts = f.contracts; price = f.price };
      price = λ h. (let p = f.some in omega arith);
    })

module _ (row : List OrderEntry) where
  orders-sound : (k : ℕ) → all_n (well_formed_at row) k ≡ true → All Sound (orders_n row k)
  unfolding orders_n walk
  orders-sound zero a = all_replicate no_order no-order-sound 32
  orders-sound (suc k) a =
      let b = all-holds (well_formed_at row) (suc k) in
      all_set _ (order-sound _ (b k a (omega arith))) (orders-sound k (all-every (well_formed_at row) k (λ i h. b i a (omega arith)))) k

  pub orders-fit : (k : ℕ) → all_n (well_formed_at row) k ≡ true → All FitOrder (orders_n row k) × All Priced (orders_n row k)
  orders-fit k a =
      let l = orders-sound k a in
      (all_map (λ o s. s.fit) l, all_map (λ o s. record { price = s.price }) l)

  -- the code's start and step
  pub orders-first : replicate 32 no_order ≡ orders_n row 0
  unfolding orders_n walk
  orders-first = refl

  pub orders-next : (i : ℕ) {o : LegOrder} {os : List LegOrder} → o ≡ order_of (get_or row i no_order_entry) → os ≡ orders_n row i → set os i o ≡ orders_n row (i + 1)
  unfolding orders_n walk
  orders-next i e g = rw (add-one i, e, g)

  orders-length : (k : ℕ) → length (orders_n row k) ≡ 32
  unfolding orders_n walk
  orders-length zero = refl
  orders-length (suc k) = length-set (orders_n row k) k (order_of (get_or row k no_order_entry)) ∙ orders-length k

-- where every entry is well formed: what stands at each place
record Placed (row : List OrderEntry) (k : ℕ) (os : List LegOrder) : Type 0 where
  read : (i : ℕ) → i < k → get_or os i no_order ≡ order_of (get_or row i no_order_entry)
  free : (i : ℕ) → k ≤ i → get_or os i no_order ≡ no_order

no-order-at : (n i : ℕ) → get_or (replicate n no_order) i no_order ≡ no_order
no-order-at zero i = refl
no-order-at (suc n) zero = refl
no-order-at (suc n) (suc i) = no-order-at n i

orders-placed : (row : List OrderEntry) (k : ℕ) → k ≤ 32 → Placed row k (orders_n row k)
unfolding orders_n walk
orders-placed row zero l = record { read = λ i h. absurd (omega arith); free = λ i h. no-order-at 32 i }
orders-placed row (suc k) l =
    let p = orders-placed row k (omega arith) in
    let os : List LegOrder = orders_n row k in
    let o : LegOrder = order_of (get_or row k no_order_entry) in
    let n = orders-length row k in
    record {
      read = λ i h. ⊎_elim (λ z. rw z (get_or-set_same os k o no_order (omega arith))) (λ m. get_or-set_other os k i o no_order (λ z. omega arith) ∙ p.read i m) (below h);
      free = λ i h. get_or-set_other os k i o no_order (λ z. omega arith) ∙ p.free i (omega arith);
    }

-- two leg orders that the depth does not tell apart
data Alike (o p : LegOrder) : Type 0 where
  same : o ≡ p → Alike o p
  fields : o.series ≡ p.series → o.side ≡ p.side → o.contracts ≡ p.contracts → o.price ≡ p.price → Alike o p
  empty : o.contracts ≡ 0 → p.contracts ≡ 0 → Alike o p

stands-none : (s side : ℕ) (o : LegOrder) → o.contracts ≡ 0 → stands s side o ≡ false
unfolding stands
stands-none s side o z = pick_true _ _ _ (eq-eqb _ _ z)

stands-like : (s side : ℕ) (a b : LegOrder) → a.series ≡ b.series → a.side ≡ b.side → a.contracts ≡ b.contracts → stands s side a ≡ stands s side b
unfolding stands
stands-like s side a b x y z = rw (x, y, z) refl

price-alike : (s side p : ℕ) (a b : LegOrder) → Alike a b → price_with s side p a ≡ price_with s side p b
unfolding price_with
price-alike s side p a b (same e) = ap (price_with s side p) e
price-alike s side p a b (fields x y z w) = rw (stands-like s side a b x y z, w) refl
price-alike s side p a b (empty y z) = pick-false _ _ _ (stands-none s side a y) ∙ sym (pick-false _ _ _ (stands-none s side b z))

lot-alike : (s side p : ℕ) (a b : LegOrder) → Alike a b → lot s side p a ≡ lot s side p b
unfolding lot
lot-alike s side p a b (same e) = ap (lot s side p) e
lot-alike s side p a b (fields x y z w) = rw (stands-like s side a b x y z, w, z) refl
lot-alike s side p a b (empty y z) = pick-false _ _ _ (stands-none s side a y) ∙ sym (pick-false _ _ _ (stands-none s side b z))

depth-alike : (os ps : List LegOrder) (s side : ℕ) → ((i : ℕ) → Alike (get_or os i no_order) (get_or ps i no_order)) → depth_of os s side ≡ depth_of ps s side
unfolding depth_of price_of lots
depth-alike os ps s side h =
    let e : price_step os s side ≡ price_step ps s side = fun_ext (λ i. fun_ext (λ p. price-alike s side p _ _ (h i))) in
    let g : (p : ℕ) → lot_at os s side p ≡ lot_at ps s side p = λ p. fun_ext (λ i. lot-alike s side p _ _ (h i)) in
    let depth : ℕ → (ℕ → ℕ) → LookedUp = λ (p : ℕ) (f : ℕ → ℕ). pick (eqb p 0) (values []) (values (p ∷ (sum_n (slot (table f 32)) 32 ∷ []))) in
    ap (depth (price_of os s side)) (g (price_of os s side)) ∙ ap (λ (f : ℕ → ℕ → ℕ). depth (walk f 0 32) (lot_at ps s side (walk f 0 32))) e

entry-alike : (e : OrderEntry) → Alike (order_of e) (as_order e)
unfolding order_of
entry-alike e = pick-by (λ (o : LegOrder). Alike o (as_order e)) _ (λ z. empty refl (eqb-true e.contracts 0 z)) (λ n. same refl)

-- the array's depth is the row's
orders-depth : (row : List OrderEntry) (s side : ℕ) → length row ≤ 32 → depth_of (orders_n row (length row)) s side ≡ depth_of (map as_order row) s side
orders-depth row s side l =
    let os : List LegOrder = orders_n row (length row) in
    let p = orders-placed row (length row) l in
    depth-alike os (map as_order row) s side
    (λ i. rw (get_or-map as_order row i no_order_entry)
    (⊎_elim (λ h. rw (p.read i h) (entry-alike (get_or row i no_order_entry)))
    (λ h. rw (p.free i h, get_or-eq_default row no_order_entry h) (same refl)) (lt-or-le i (length row))))

-- a row by what reading it answers
module _ (row : List OrderEntry) where
  row-read : {os : List LegOrder} → ◌≡◌ {A = Result (List LegOrder) Refusal} (Ok os) (orders_read row) → (all_n (well_formed_at row) (length row) ≡ true) × (os ≡ orders_n row (length row))
  unfolding orders_read
  row-read = picked-ok _ _ _

  row-unread : {r : Refusal} → ◌≡◌ {A = Result (List LegOrder) Refusal} (Err r) (orders_read row) → (all_n (well_formed_at row) (length row) ≡ false) × (r ≡ F.BadField)
  unfolding orders_read
  row-unread = picked-err _ _ _

  -- an entry that is not well formed, and the end of a row of well-formed ones
  pub row-stop : {i : ℕ} {r : Refusal} → i < length row → ◌≡◌ {A = Result LegOrder Refusal} (Err r) (order_read (get_or row i no_order_entry)) → ◌≡◌ {A = Result (List LegOrder) Refusal} (Err r) (orders_read row)
  unfolding orders_read
  row-stop {i} h e =
      let f = entry-unread (get_or row i no_order_entry) e in
      rw f.1 (sym (pick-false _ _ _ (all-stop (well_formed_at row) i (length row) h f.0)))

  pub row-end : {i : ℕ} {os : List LegOrder} → i ≡ length row → all_n (well_formed_at row) i ≡ true → os ≡ orders_n row i → ◌≡◌ {A = Result (List LegOrder) Refusal} (Ok os) (orders_read row)
  unfolding orders_read
  row-end h a e = rw (e, h) (sym (pick_true _ _ _ (rw h at a)))

  pub row-sound : {os : List LegOrder} → ◌≡◌ {A = Result (List LegOrder) Refusal} (Ok os) (orders_read row) → All FitOrder os × All Priced os
  row-sound h = let f = row-read h in rw f.1 (orders-fit row (length row) f.0)

-- what the code answers
module _ (row : List OrderEntry) (s side : ℕ) where
  pub row-long : 32 < length row → depth_tells (Err F.BadField) ≡ row_depth row s side
  unfolding row_depth depth_tells
  row-long h =
      let P : LookedUp → Type 0 = λ (x : LookedUp). refused_by 3 ≡ x in
      pick_all P _ refl (pick_all P _ refl (sym (pick_true _ _ _ (lt-ltb 32 (length row) h))))

  module _ (l : length row ≤ 32) where
    short : ltb 32 (length row) ≡ false
    short = le-ltb 32 (length row) l

    -- each entry is well formed
    pub row-fine : {x : LookedUp} {os : List LegOrder} → ◌≡◌ {A = Result (List LegOrder) Refusal} (Ok os) (orders_read row) → x ≡ book_depth os s side → x ≡ row_depth row s side
    unfolding row_depth book_depth
    row-fine {x} {os} h e =
        let f = row-read row h in
        e ∙ rw f.1 (ap (λ (y : LookedUp). pick (ltb 31 s) (refused_by 3) (pick (ltb 1 side) (refused_by 3) y)) (orders-depth row s side l ∙ sym (pick_true _ _ _ f.0) ∙ sym (pick-false _ _ _ short)))

    -- one is not
    pub row-bad : {r : Refusal} → ◌≡◌ {A = Result (List LegOrder) Refusal} (Err r) (orders_read row) → depth_tells (Err r) ≡ row_depth row s side
    unfolding row_depth depth_tells
    row-bad {r} h =
        let P : LookedUp → Type 0 = λ (x : LookedUp). refused_by 3 ≡ x in
        let f = row-unread row h in
        rw f.1 (pick_all P _ refl (pick_all P _ refl (pick_all P _ refl (sym (pick-false _ _ _ f.0)))))

-- the row of a table of leg orders in their ranges: each entry is well formed, and the leg orders are told by their entries
entry-formed : (o : LegOrder) → FitOrder o → (0 < o.contracts → 1 ≤ o.price) → well_formed (entry_of o) ≡ true
unfolding well_formed entry_of
entry-formed o f p =
    pick-by (λ (t : Bool). t ≡ true) (eqb o.contracts 0) (λ z. refl)
    (λ n. let some = eqb-false o.contracts 0 n in
    let live = p (omega arith) in
    pick-false _ _ _ (le-ltb 31 o.series (omega (arith, f.series)))
    ∙ pick-false _ _ _ (le-ltb 1 o.side f.side)
    ∙ pick-false _ _ _ (le-ltb 9999 o.contracts f.contracts)
    ∙ pick-false _ _ _ (ne_eqb o.price 0 (λ z. omega arith))
    ∙ le-leb o.price 99_999 f.price)

row-like : (os : List LegOrder) → length os ≡ 32 → (i : ℕ) → Alike (get_or (map as_order (lent_row os)) i no_order) (get_or os i no_order)
unfolding lent_row entry_of
row-like os l i =
    rw (get_or-map as_order (table (lent_at os) 32) i no_order_entry)
    (⊎_elim (λ h. rw (table-slot (lent_at os) no_order_entry 32 i h) (fields refl refl refl refl))
    (λ h. let m : length (table (lent_at os) 32) ≤ i = omega (arith, length-table (lent_at os) 32) in
    let k : length os ≤ i = omega arith in
    rw (get_or-eq_default (table (lent_at os) 32) no_order_entry m, get_or-eq_default os no_order k) (same refl))
    (lt-or-le i 32))

-- the depth of the table's row is the table's
row-agrees : (os : List LegOrder) (s side : ℕ) → length os ≡ 32 → All FitOrder os → All Priced os → row_depth (lent_row os) s side ≡ book_depth os s side
unfolding row_depth book_depth lent_row
row-agrees os s side l f p =
    let n : length (table (lent_at os) 32) ≡ 32 = length-table (lent_at os) 32 in
    let fine : all_n (well_formed_at (table (lent_at os) 32)) (length (table (lent_at os) 32)) ≡ true =
    all-every _ _ (λ i h. ap well_formed (table-slot (lent_at os) no_order_entry 32 i (omega arith)) ∙ entry-formed (get_or os i no_order) (all-at no_order no-order-sound.fit f i) (priced-at p i).price) in
    ap (λ (x : LookedUp). pick (ltb 31 s) (refused_by 3) (pick (ltb 1 side) (refused_by 3) x))
    (pick-false _ _ _ (le-ltb 32 (length (table (lent_at os) 32)) (omega arith)) ∙ pick_true _ _ _ fine ∙ depth-alike _ _ s side (row-like os l))

-- the row that a valid book hands out: the depth that is read from it is the book's own
pub row-depth-book : (b : State) (s side : ℕ) → Valid b → row_depth (lent_row b.orders) s side ≡ book_depth b.orders s side
row-depth-book b s side v =
    let w = v.sound in
    row-agrees b.orders s side w.order_rows w.orders (priced-sound w)
