-- The rules of auctions by what the code tests, and their records.
use Rattle.std.specs.Prelude.{◌≡◌, Bool, true, false, List, ℕ, ◌≤◌, nat_lt, eqb, length, get_or, set, Option, position}
use Rattle.std.proofs.Math.Path.{refl}
use Rattle.std.proofs.Common.{sym, ◌∙◌, arith, ltb-false, Some, None}
use Rattle.std.proofs.lemmas.Bool.{cond_both}
use Rattle.std.specs.Option.{option_map_or}
use Rattle.base.specs.Chains.{found, position-slots}
use Rattle.std.proofs.Math.ListN.{get_or-eq_default}
use Rattle.base.specs.Pick.{pick, pick_true, pick-false, tests}
use Rattle.base.specs.Walks.{first_n}
use Rattle.rules.specs.declared.Entry.{Entry}
use Rattle.rules.specs.declared.Strategy.{Strategy}
use Rattle.rules.specs.declared.State.{State}
use Rattle.rules.specs.declared.Record.{Record}
use Rattle.rules.specs.declared.Kind.TheVariants.{AuctionBegun, AuctionEnded}
use Rattle.rules.specs.Sizes.{table_rows, zero_level}
use Rattle.rules.specs.State.{no_entry, entry_at, strategy_at, with_strategies}
use Rattle.rules.specs.Moves.{still}
use Rattle.rules.specs.Sides.{other}
use Rattle.rules.specs.Fills.{cancel_entry}
use Rattle.tables.specs.Only.{only_entries}
use Rattle.rules.specs.Auctions.{live_in, with_auction, put_auction, is_number, starter_slot, answer, lapses, cancel_lapsed}

abbrev pub begun_record : Entry → Record
begun_record e = record { kind = AuctionBegun; number = e.number; place = e.strategy; side = e.side; quantity = e.units; level = e.level }

abbrev pub ended_record : ℕ → ℕ → Record
ended_record n k = record { kind = AuctionEnded; number = n; place = k; side = 0; quantity = 0; level = zero_level }

-- an entry is live, of strategy k and of number n
unfoldable pub numbered : ℕ → ℕ → Entry → Bool
numbered k n e = pick (live_in k e) (eqb e.number n) false

-- the slot of the starter of strategy k, by its number
abbrev pub starter_in : List Entry → ℕ → ℕ → ℕ
starter_in es k n = first_n (is_number (only_entries es) k n) table_rows

-- a sweep or waiting order of that side answers: the starter is of the other side
unfoldable pub answers_in : List Entry → ℕ → ℕ → ℕ → Bool
answers_in es k n side = eqb (get_or es (starter_in es k n) no_entry).side (other side)

-- laws

-- the starter's slot, by the search for it
pub starter_found : (k n : ℕ) (es : List Entry) {i : Option ℕ} → length es ≡ 32 → i ≡ position (numbered k n) es → i ≡ found 32 (starter_in es k n)
unfolding numbered
starter_found k n es l p = p ∙ position-slots no_entry (numbered k n) es ∙ rw l

pub side-past : (es : List Entry) (i : ℕ) → length es ≡ 32 → 32 ≤ i → 0 ≡ (get_or es i no_entry).side
side-past es i n h = rw (get_or-eq_default es no_entry {n = i} (omega arith))

-- the side of the entry at a slot, 0 past the last
found-side : (es : List Entry) (i : ℕ) → length es ≡ 32 → option_map_or (λ j. (get_or es j no_entry).side) (found 32 i) 0 ≡ (get_or es i no_entry).side
found-side es i n =
    cond_both (nat_lt i 32) (Some i) None (λ o. option_map_or (λ j. (get_or es j no_entry).side) o 0 ≡ (get_or es i no_entry).side)
    (λ l. refl)
    (λ m. rw (get_or-eq_default es no_entry {n = i} (omega (arith, ltb-false i 32 m, n))))

-- the state with another strategy stored at slot k
abbrev pub auctioned : State → ℕ → Strategy → State
auctioned b k s = record {
  strategies = set b.strategies k s;
  nets = b.nets;
  entries = b.entries;
  orders = b.orders;
  defined = b.defined;
  opened = b.opened;
  clock = b.clock;
  timer = b.timer;
  last = b.last;
  national = b.national;
  range = b.range;
}

-- its auction changed in place
pub put_is : (b : State) (k n t : ℕ) (a : Bool) {s : Strategy} → s ≡ with_auction (strategy_at b k) n t a → auctioned b k s ≡ put_auction b k n t a
unfolding put_auction with_strategies
put_is b k n t a e = rw e

-- the slot of the rules
pub starter-is : (k : ℕ) (b : State) → starter_in b.entries k (strategy_at b k).starter ≡ starter_slot b k
unfolding starter_slot
starter-is k b = refl

-- the answer by what the code has found
pub answers_by : (es : List Entry) (k n side : ℕ) {i : Option ℕ} {x y : ℕ} → length es ≡ 32 → i ≡ found 32 (starter_in es k n)
    → x ≡ option_map_or (λ j. (get_or es j no_entry).side) i 0 → y ≡ other side → eqb x y ≡ answers_in es k n side
unfolding answers_in
answers_by es k n side l p q o = rw (q, p, o, found-side es (starter_in es k n) l)

-- .. by the starter's slot itself, in a list of any length
pub answers-by-slot : (es : List Entry) (k n side : ℕ) {i x y : ℕ} → i ≡ starter_in es k n → x ≡ (get_or es i no_entry).side → y ≡ other side → eqb x y ≡ answers_in es k n side
unfolding answers_in
answers-by-slot es k n side p q o = rw (q, p, o)

module _ (k side : ℕ) (b : State) where
  -- the rule by the same test
  pub answer-by : answer k side b ≡ pick (answers_in b.entries k (strategy_at b k).starter side) (put_auction b k (strategy_at b k).starter (strategy_at b k).begun true) b
  unfolding answer answers_in starter_slot
  answer-by = refl

  pub answer-yes : answers_in b.entries k (strategy_at b k).starter side ≡ true → put_auction b k (strategy_at b k).starter (strategy_at b k).begun true ≡ answer k side b
  answer-yes e = sym (answer-by ∙ pick_true _ _ _ e)

  pub answer-no : answers_in b.entries k (strategy_at b k).starter side ≡ false → b ≡ answer k side b
  answer-no e = sym (answer-by ∙ pick-false _ _ _ e)

pub lapsed-none : (k i : ℕ) (b : State) → lapses k (entry_at b i) ≡ false → cancel_lapsed k i b ≡ still b
unfolding cancel_lapsed
lapsed-none k i b e = search tests

pub lapsed-some : (k i : ℕ) (b : State) → lapses k (entry_at b i) ≡ true → cancel_lapsed k i b ≡ cancel_entry i b
unfolding cancel_lapsed
lapsed-some k i b e = search tests
