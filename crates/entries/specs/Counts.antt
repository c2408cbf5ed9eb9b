-- How many orders and sweeps are live.
use Rattle.std.specs.Prelude.{◌≡◌, refl, Bool, true, false, cond, List, ℕ, ◌+◌, ◌≤◌, ◌<◌, eqb, length, get_or, count_by}
use Rattle.std.proofs.Common.{◌∙◌, add-one, arith}
use mathlib.Core.Bool.{beq}
use Rattle.base.specs.Pick.{pick, both, pick_all}
use Rattle.base.specs.Walks.{sum_n, sum_same, sum-le}
use Rattle.base.specs.Chains.{sum-by-slots}
use Rattle.rules.specs.declared.Entry.{Entry}
use Rattle.rules.specs.declared.State.{State}
use Rattle.rules.specs.State.{no_entry, entry_at}
use Rattle.rules.specs.Events.{live}
use Rattle.rules.specs.Refusals.{is_order, is_sweep, is_order_at, is_sweep_at}
use Rattle.tables.specs.Only.{only_entries}

-- a live sweep, or a live complex order
unfoldable pub is_counted : Bool → Entry → Bool
is_counted sweeps e = both (live e) (beq (eqb e.life 4) sweeps)

-- 1 for a live sweep, or for a live complex order
unfoldable pub counts : Bool → Entry → ℕ
counts sweeps e = pick (live e) (pick (eqb e.life 4) (pick sweeps 1 0) (pick sweeps 0 1)) 0

-- .. at slot i
abbrev pub counts_at : Bool → State → ℕ → ℕ
counts_at sweeps b i = counts sweeps (entry_at b i)

-- by the tests of an entry
counts-one : (t u s : Bool) → ◌≡◌ {A = ℕ} (cond (both t (beq u s)) 1 0) (pick s (pick t (pick u 1 0) 0) (pick t (pick u 0 1) 0))
unfolding pick
counts-one true true true = refl
counts-one true true false = refl
counts-one true false true = refl
counts-one true false false = refl
counts-one false u true = refl
counts-one false u false = refl

-- the count of the rules
pub count-is : (sweeps : Bool) (es : List Entry) {n : ℕ} → length es ≡ 32 → n ≡ count_by (is_counted sweeps) es
    → n ≡ pick sweeps (sum_n (is_sweep_at (only_entries es)) 32) (sum_n (is_order_at (only_entries es)) 32)
unfolding is_counted is_sweep is_order pick
count-is sweeps es l h = h ∙ sum-by-slots no_entry (λ (e : Entry). cond (is_counted sweeps e) 1 0) es ∙ rw l (by sweeps)
  where
    at : Bool → ℕ → ℕ
    at s i = cond (is_counted s (get_or es i no_entry)) 1 0

    by : (s : Bool) → sum_n (at s) 32 ≡ pick s (sum_n (is_sweep_at (only_entries es)) 32) (sum_n (is_order_at (only_entries es)) 32)
    by true = sum_same (at true) (is_sweep_at (only_entries es)) 32 (λ i m. let e : Entry = get_or es i no_entry in counts-one (live e) (eqb e.life 4) true)
    by false = sum_same (at false) (is_order_at (only_entries es)) 32 (λ i m. let e : Entry = get_or es i no_entry in counts-one (live e) (eqb e.life 4) false)

-- .. of the first k slots of any book
pub count-slots : (sweeps : Bool) (b : State) (k : ℕ) → sum_n (counts_at sweeps b) k ≡ pick sweeps (sum_n (is_sweep_at b) k) (sum_n (is_order_at b) k)
unfolding counts is_order is_sweep pick
count-slots true b k = refl
count-slots false b k = refl

pub counts-most : (sweeps : Bool) (e : Entry) → counts sweeps e ≤ 1
unfolding counts
counts-most sweeps e =
    let P : ℕ → Type 0 = λ (n : ℕ). n ≤ 1 in
    pick_all P _ (pick_all P _ (pick_all P _ (omega arith) (omega arith)) (pick_all P _ (omega arith) (omega arith))) (omega arith)

pub count_most : (sweeps : Bool) (b : State) (k : ℕ) → sum_n (counts_at sweeps b) k ≤ k
count_most sweeps b k = omega (arith, sum-le (counts_at sweeps b) 1 (λ i. counts-most sweeps (entry_at b i)) k)

-- all 32 are counted
pub count-all : (sweeps : Bool) (b : State) (i : ℕ) {n x : ℕ} → n ≡ sum_n (counts_at sweeps b) i → x ≡ counts sweeps (entry_at b i) → i < 32 → n + x ≡ 32
    → n + x ≡ pick sweeps (sum_n (is_sweep_at b) 32) (sum_n (is_order_at b) 32)
unfolding sum_n
count-all sweeps b i {n} {x} p q h e =
    let s : n + x ≡ sum_n (counts_at sweeps b) (i + 1) = rw add-one (cc) in
    let k : i + 1 ≡ 32 = omega (arith, count_most sweeps b i, counts-most sweeps (entry_at b i), p, q, h, e) in
    (rw k at s) ∙ count-slots sweeps b 32
