-- The paper's totals over lines, which show a kind of 1 to 5, from the sums over the records of the rules.
use mathlib.Core.Path.{◌≡◌, refl, sym, ◌∙◌, ap}
use mathlib.Core.Bool.{Bool, true, false}
use mathlib.Core.Logic.{⊎_elim}
use mathlib.Core.List.Memᴰ
use mathlib.Core.List.{List, [], ◌∷◌, map, Memᴰ}
use Prim.Native.Nat.{ℕ, ◌+◌, ◌*◌}
use native.Mathlib.Nat.{mul-add}
use native.Mathlib.Omega.{arith}
use lib.Dec.{eqb, leb}
use lib.IntN.{ℤ, pos, sub_ℕ, ◌+ℤ◌, ◌*ℤ◌}
use Rattle.base.specs.Pick.{pick}
use Rattle.rules.specs.declared.Record.{Record}
use Rattle.rules.specs.declared.Kind.{Kind}
use Rattle.rules.specs.declared.Kind.TheVariants.{WholeFill, LegFill, LegOrderFill, Cancelled, LegOrderCancelled, AuctionBegun, AuctionEnded}
use Rattle.rules.specs.Records.{kind_number, cents, Line, line_of}
use Rattle.rules.specs.Totals.{Logged, total, if_same, of_kind, whole_filled, leg_filled, cancelled, on_leg, contracts_on, traded_in, bought, sold, mentions, is_fill, cash_of, cash}
use Rattle.rules.proofs.Tables.{tally, tally-plus}
use Rattle.rules.proofs.Laws.{of_units, of_contracts, no_entries, no_orders, of_series, of_cash, of_ratio, come, gone, on_whole, on_units, on_complex, on_leg_order, on_part, on_legs, on_fill, pick-none}
use Rattle.rules.proofs.Levels.{sub_same, sub-pos, sub-plus, sub-times, cents-is}

-- SUMS
total-lines : (w : Line → ℕ) (rs : List Record) → total w (map line_of rs) ≡ tally (λ (r : Record). w (line_of r)) rs
unfolding total tally
total-lines w [] = refl
total-lines w (r ∷ rs) = rw (total-lines w rs)

pub tally-none : (rs : List Record) → tally (λ (r : Record). 0) rs ≡ 0
unfolding tally
tally-none [] = refl
tally-none (r ∷ rs) = omega (arith, tally-none rs)

tally-times : (x : ℕ) (u : Record → ℕ) (rs : List Record) → tally (λ (r : Record). x * u r) rs ≡ x * tally u rs
unfolding tally
tally-times x u [] = omega arith
tally-times x u (r ∷ rs) = rw (mul-add x (u r) (tally u rs)) (omega (arith, tally-times x u rs))

-- two weights that are equal where a third is 0, over records of which all are 0 in that one
tally-where : (w u v : Record → ℕ) → ((r : Record) → w r ≡ 0 → u r ≡ v r) → (rs : List Record) → tally w rs ≡ 0 → tally u rs ≡ tally v rs
unfolding tally
tally-where w u v h [] z = refl
tally-where w u v h (r ∷ rs) z = omega (arith, h r (omega arith), tally-where w u v h rs (omega arith))

tally-same : (u v : Record → ℕ) → ((r : Record) → u r ≡ v r) → (rs : List Record) → tally u rs ≡ tally v rs
tally-same u v h rs = tally-where (λ (r : Record). 0) u v (λ r z. h r) rs (tally-none rs)

-- a record of the list weighs nothing where all together weigh nothing
pub tally-mem : (w : Record → ℕ) (r : Record) (rs : List Record) → Memᴰ r rs → tally w rs ≡ 0 → w r ≡ 0
unfolding tally
tally-mem w r [] m z = absurd (Memᴰ.not-nil m)
tally-mem w r (q ∷ rs) m z =
    ⊎_elim (λ (e : r ≡ q). rw e (let k : w q ≡ 0 = omega arith in k)) (λ (k : Memᴰ r rs). tally-mem w r rs k (omega arith)) (Memᴰ.cases_cons m)

-- a line of the list is that of a record
pub record Written (l : Line) (rs : List Record) : Type 0 where
  pub of : Record
  pub there : Memᴰ of rs
  pub is : l ≡ line_of of

pub written : (l : Line) (rs : List Record) → Memᴰ l (map line_of rs) → Written l rs
written l [] m = absurd (Memᴰ.not-nil m)
written l (r ∷ rs) m = ⊎_elim here (λ k. later (written l rs k)) (Memᴰ.cases_cons m)
  where
    here : l ≡ line_of r → Written l (r ∷ rs)
    here e = record { of = r; there = Memᴰ.head refl; is = e }

    later : Written l rs → Written l (r ∷ rs)
    later w = record { of = w.of; there = Memᴰ.tail w.there; is = w.is }

-- CHOICES
-- a record that is of no such number
when-one : (m n q : ℕ) → if_same m n 1 ≡ 0 → if_same m n q ≡ 0
unfolding pick
when-one m n q = go (eqb m n)
  where
    go : (t : Bool) → pick {A = ℕ} t 1 0 ≡ 0 → pick t q 0 ≡ 0
    go true h = absurd (omega arith)
    go false h = refl

when-swap : (t u : Bool) (q : ℕ) → pick t (pick u q 0) 0 ≡ pick u (pick t q 0) 0
unfolding pick
when-swap true u q = refl
when-swap false u q = sym (pick-none u)

when-times : (m n x q : ℕ) → if_same m n (x * q) ≡ x * if_same m n q
unfolding pick
when-times m n x q = go (eqb m n)
  where
    go : (t : Bool) → pick t (x * q) 0 ≡ x * pick t q 0
    go true = refl
    go false = omega arith

pub met : (t : Bool) → pick {A = ℕ} t 0 1 ≡ 0 → t ≡ true
unfolding pick
met true h = refl
met false h = absurd (omega arith)

-- KINDS
units-kind : (k : Kind) (m n q : ℕ) → on_leg_order k (if_same m n 1) ≡ 0 → if_same (kind_number k) 1 (if_same m n q) + if_same (kind_number k) 3 (if_same m n q) ≡ on_units k (if_same m n q)
unfolding kind_number pick
units-kind WholeFill m n q h = omega arith
units-kind LegFill m n q h = refl
units-kind LegOrderFill m n q h = refl
units-kind Cancelled m n q h = omega arith
units-kind LegOrderCancelled m n q h = omega (arith, when-one m n q h)
units-kind AuctionBegun m n q h = refl
units-kind AuctionEnded m n q h = refl

contracts-kind : (k : Kind) (m n q : ℕ) → on_complex k (if_same m n 1) ≡ 0 → if_same (kind_number k) 2 (if_same m n q) + if_same (kind_number k) 3 (if_same m n q) ≡ on_leg_order k (if_same m n q)
unfolding kind_number pick
contracts-kind WholeFill m n q h = refl
contracts-kind LegFill m n q h = omega (arith, when-one m n q h)
contracts-kind LegOrderFill m n q h = omega arith
contracts-kind Cancelled m n q h = omega (arith, when-one m n q h)
contracts-kind LegOrderCancelled m n q h = omega arith
contracts-kind AuctionBegun m n q h = refl
contracts-kind AuctionEnded m n q h = refl

mentions-kind : (k : Kind) (m n : ℕ) → if_same m n (pick (leb (kind_number k) 3) 1 0) ≡ on_complex k (if_same m n 1) + on_leg_order k (if_same m n 1)
unfolding kind_number pick
mentions-kind WholeFill m n = omega arith
mentions-kind LegFill m n = omega arith
mentions-kind LegOrderFill m n = omega arith
mentions-kind Cancelled m n = omega arith
mentions-kind LegOrderCancelled m n = omega arith
mentions-kind AuctionBegun m n = pick-none (eqb m n)
mentions-kind AuctionEnded m n = pick-none (eqb m n)

leg-kind : (k : Kind) (m n p s q : ℕ) → on_leg_order k (if_same m n 1) ≡ 0 → if_same p s (if_same (kind_number k) 2 (if_same m n q)) ≡ on_part k (if_same m n (if_same p s q))
unfolding kind_number pick
leg-kind WholeFill m n p s q h = pick-none (eqb p s)
leg-kind LegFill m n p s q h = when-swap (eqb p s) (eqb m n) q
leg-kind LegOrderFill m n p s q h = ap (λ (x : ℕ). pick (eqb p s) x 0) (when-one m n q h) ∙ pick-none (eqb p s)
leg-kind Cancelled m n p s q h = pick-none (eqb p s)
leg-kind LegOrderCancelled m n p s q h = pick-none (eqb p s)
leg-kind AuctionBegun m n p s q h = pick-none (eqb p s)
leg-kind AuctionEnded m n p s q h = pick-none (eqb p s)

whole-kind : (k : Kind) (m n x q : ℕ) → on_whole k (if_same m n (x * q)) ≡ x * if_same (kind_number k) 1 (if_same m n q)
unfolding kind_number pick
whole-kind WholeFill m n x q = when-times m n x q
whole-kind LegFill m n x q = omega arith
whole-kind LegOrderFill m n x q = omega arith
whole-kind Cancelled m n x q = omega arith
whole-kind LegOrderCancelled m n x q = omega arith
whole-kind AuctionBegun m n x q = omega arith
whole-kind AuctionEnded m n x q = omega arith

legs-kind : (k : Kind) (q : ℕ) → if_same (kind_number k) 2 q ≡ on_legs k q
unfolding kind_number pick
legs-kind WholeFill q = refl
legs-kind LegFill q = refl
legs-kind LegOrderFill q = refl
legs-kind Cancelled q = refl
legs-kind LegOrderCancelled q = refl
legs-kind AuctionBegun q = refl
legs-kind AuctionEnded q = refl

-- THE TOTALS
-- the records of a kind and the cancels of a number, where no record weighs in w
kind-lines : (k n : ℕ) (w u : Record → ℕ) → ((r : Record) → w r ≡ 0 → of_kind k n (line_of r) + of_kind 3 n (line_of r) ≡ u r) → (rs : List Record) → tally w rs ≡ 0 →
    total (of_kind k n) (map line_of rs) + total (of_kind 3 n) (map line_of rs) ≡ tally u rs
kind-lines k n w u h rs z =
    omega (
      arith,
      total-lines (of_kind k n) rs,
      total-lines (of_kind 3 n) rs,
      tally-plus (λ (r : Record). of_kind k n (line_of r)) (λ (r : Record). of_kind 3 n (line_of r)) rs,
      tally-where w (λ (r : Record). of_kind k n (line_of r) + of_kind 3 n (line_of r)) u h rs z,
    )

-- of a number with no record of a leg order
pub units-lines : (n : ℕ) (rs : List Record) → tally (come (no_orders n)) rs ≡ 0 → whole_filled n (map line_of rs) + cancelled n (map line_of rs) ≡ tally (gone (of_units n)) rs
unfolding whole_filled cancelled line_of
units-lines n = kind-lines 1 n (come (no_orders n)) (gone (of_units n)) (λ r. units-kind r.kind r.number n r.quantity)

-- of a number with no record of a complex order or sweep
pub contracts-lines : (n : ℕ) (rs : List Record) → tally (come (no_entries n)) rs ≡ 0 → leg_filled n (map line_of rs) + cancelled n (map line_of rs) ≡ tally (gone (of_contracts n)) rs
unfolding leg_filled cancelled line_of
contracts-lines n = kind-lines 2 n (come (no_entries n)) (gone (of_contracts n)) (λ r. contracts-kind r.kind r.number n r.quantity)

-- records 1 to 3 of a number
pub mentions-lines : (n : ℕ) (rs : List Record) → total (mentions n) (map line_of rs) ≡ tally (come (no_entries n)) rs + tally (come (no_orders n)) rs
unfolding line_of
mentions-lines n rs =
    total-lines (mentions n) rs
    ∙ tally-same (λ (r : Record). mentions n (line_of r)) (λ (r : Record). come (no_entries n) r + come (no_orders n) r) (λ r. mentions-kind r.kind r.number n) rs
    ∙ tally-plus (come (no_entries n)) (come (no_orders n)) rs

-- contracts on a leg, and the ratio for each unit
pub legs-lines : (n s x : ℕ) (rs : List Record) → tally (come (no_orders n)) rs ≡ 0 → contracts_on n s (map line_of rs) ≡ tally (come (of_ratio n s x)) rs
unfolding contracts_on line_of
legs-lines n s x rs z =
    total-lines (on_leg n s) rs
    ∙ tally-where (come (no_orders n)) (λ (r : Record). on_leg n s (line_of r)) (come (of_ratio n s x)) (λ r h. leg-kind r.kind r.number n r.place s r.quantity h) rs z

pub ratio-lines : (n s x : ℕ) (rs : List Record) → tally (gone (of_ratio n s x)) rs ≡ x * whole_filled n (map line_of rs)
unfolding whole_filled line_of
ratio-lines n s x rs =
    tally-same (gone (of_ratio n s x)) (λ (r : Record). x * of_kind 1 n (line_of r)) (λ r. whole-kind r.kind r.number n x r.quantity) rs
    ∙ tally-times x (λ (r : Record). of_kind 1 n (line_of r)) rs
    ∙ ap (λ (y : ℕ). x * y) (sym (total-lines (of_kind 1 n) rs))

series-lines : (s side : ℕ) (rs : List Record) → total (traded_in s side) (map line_of rs) ≡ tally (λ (r : Record). on_legs r.kind (if_same r.place s (if_same r.side side r.quantity))) rs
unfolding line_of
series-lines s side rs =
    total-lines (traded_in s side) rs
    ∙ tally-same (λ (r : Record). traded_in s side (line_of r)) _ (λ r. legs-kind r.kind (if_same r.place s (if_same r.side side r.quantity))) rs

pub bought-lines : (s : ℕ) (rs : List Record) → bought s (map line_of rs) ≡ tally (come (of_series s)) rs
unfolding bought
bought-lines s = series-lines s 0

pub sold-lines : (s : ℕ) (rs : List Record) → sold s (map line_of rs) ≡ tally (gone (of_series s)) rs
unfolding sold
sold-lines s = series-lines s 1

-- CASH
-- "A fill is a record 1, or a leg order's record 2"
abbrev pub fill_kind : Kind → Bool
fill_kind WholeFill = true
fill_kind LegFill = false
fill_kind LegOrderFill = true
fill_kind Cancelled = false
fill_kind LegOrderCancelled = false
fill_kind AuctionBegun = false
fill_kind AuctionEnded = false

abbrev worth : ℕ → Record → ℕ
worth side r = on_fill r.kind (if_same r.side side (r.quantity * r.level))

abbrev bias : ℕ → Record → ℕ
bias side r = on_fill r.kind (if_same r.side side (r.quantity * 10_000_000))

side-cash : (t : Bool) (q level : ℕ) → pick t (pos q *ℤ cents level) (pos 0) ≡ sub_ℕ (pick t (q * level) 0) (pick t (q * 10_000_000) 0)
unfolding pick
side-cash true q level = ap (λ (z : ℤ). pos q *ℤ z) (cents-is level) ∙ sub-times q level 10_000_000
side-cash false q level = sub-pos 0

-- one record's cash
cash-kind : (k : Kind) (m side q level : ℕ) →
    pick (fill_kind k) (pick (eqb m side) (pos q *ℤ cents level) (pos 0)) (pos 0) ≡ sub_ℕ (on_fill k (if_same m side (q * level))) (on_fill k (if_same m side (q * 10_000_000)))
unfolding pick
cash-kind WholeFill m side q level = side-cash (eqb m side) q level
cash-kind LegFill m side q level = sub-pos 0
cash-kind LegOrderFill m side q level = side-cash (eqb m side) q level
cash-kind Cancelled m side q level = sub-pos 0
cash-kind LegOrderCancelled m side q level = sub-pos 0
cash-kind AuctionBegun m side q level = sub-pos 0
cash-kind AuctionEnded m side q level = sub-pos 0

one-cash : (log : List Logged) (side : ℕ) (r : Record) → is_fill log (line_of r) ≡ fill_kind r.kind → cash_of log side (line_of r) ≡ sub_ℕ (worth side r) (bias side r)
unfolding line_of
one-cash log side r h = rw h (cash-kind r.kind r.side side r.quantity r.level)

pub cash-lines : (log : List Logged) (side : ℕ) (rs : List Record) → ((r : Record) → Memᴰ r rs → is_fill log (line_of r) ≡ fill_kind r.kind) →
    cash log side (map line_of rs) ≡ sub_ℕ (tally (worth side) rs) (tally (bias side) rs)
unfolding cash tally
cash-lines log side [] h = sub-pos 0
cash-lines log side (r ∷ rs) h =
    rw (cash-lines log side rs (λ q m. h q (Memᴰ.tail m)))
    (ap (λ (z : ℤ). z +ℤ sub_ℕ (tally (worth side) rs) (tally (bias side) rs)) (one-cash log side r (h r (Memᴰ.head refl)))
    ∙ sub-plus (worth side r) (bias side r) (tally (worth side) rs) (tally (bias side) rs))

fill-plus : (k : Kind) (x y : ℕ) → on_fill k (x + y) ≡ on_fill k x + on_fill k y
fill-plus WholeFill x y = refl
fill-plus LegFill x y = refl
fill-plus LegOrderFill x y = refl
fill-plus Cancelled x y = refl
fill-plus LegOrderCancelled x y = refl
fill-plus AuctionBegun x y = refl
fill-plus AuctionEnded x y = refl

come-cash : (rs : List Record) → tally (come of_cash) rs ≡ tally (worth 0) rs + tally (bias 1) rs
come-cash rs =
    tally-same (come of_cash) (λ (r : Record). worth 0 r + bias 1 r) (λ r. fill-plus r.kind (if_same r.side 0 (r.quantity * r.level)) (if_same r.side 1 (r.quantity * 10_000_000))) rs
    ∙ tally-plus (worth 0) (bias 1) rs

gone-cash : (rs : List Record) → tally (gone of_cash) rs ≡ tally (bias 0) rs + tally (worth 1) rs
gone-cash rs =
    tally-same (gone of_cash) (λ (r : Record). bias 0 r + worth 1 r) (λ r. fill-plus r.kind (if_same r.side 0 (r.quantity * 10_000_000)) (if_same r.side 1 (r.quantity * r.level))) rs
    ∙ tally-plus (bias 0) (worth 1) rs

pub paid-lines : (log : List Logged) (rs : List Record) → ((r : Record) → Memᴰ r rs → is_fill log (line_of r) ≡ fill_kind r.kind) → tally (come of_cash) rs ≡ tally (gone of_cash) rs →
    cash log 0 (map line_of rs) ≡ cash log 1 (map line_of rs)
paid-lines log rs h e =
    cash-lines log 0 rs h
    ∙ sub_same (tally (worth 0) rs) (tally (bias 0) rs) (tally (worth 1) rs) (tally (bias 1) rs) (omega (arith, come-cash rs, gone-cash rs))
    ∙ sym (cash-lines log 1 rs h)
