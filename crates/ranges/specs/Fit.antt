-- The ranges that the code relies on. Every move keeps them, for none makes a quantity rise.
use Rattle.std.specs.Prelude.{◌≡◌, List, ℕ, ◌≤◌, ◌<◌, ℤ, length, get_or, true}
use Rattle.std.proofs.Common.{◌∙◌, arith}
use Rattle.base.specs.All.{All, all_nil, all-at, all_map}
use Rattle.base.specs.Sets.{has}
use Rattle.rules.specs.declared.Leg.{Leg}
use Rattle.rules.specs.declared.Strategy.{Strategy}
use Rattle.rules.specs.declared.Entry.{Entry}
use Rattle.rules.specs.declared.LegOrder.{LegOrder}
use Rattle.rules.specs.declared.Quote.{Quote}
use Rattle.rules.specs.declared.State.{State}
use Rattle.rules.specs.State.{no_leg, no_strategy, no_entry, no_order, no_quote, leg_at, entry_at, strategy_at, Netted}
use Rattle.rules.specs.Moves.{Moved}
use Rattle.rules.specs.Valid.{FitLeg, FitEntry, FitOrder, Priced, FitQuote, Sound}
use Rattle.rules.proofs.Tables.{all_of}
use Rattle.rules.proofs.Shrinks.{SameOrder, SameStrategy, Shrinks}
use Rattle.rules.proofs.Bests.{priced-none, priced-sound}
use Rattle.rules.proofs.Entering.{fit-no-leg, fit_none, fit-no-order, entry-fits, order-fits}
use Rattle.records.specs.Done.{Done}
use Rattle.records.specs.declared.Records.{Records}

-- the legs of a strategy, whatever auction runs
pub record FitLegs (s : Strategy) : Type 0 where
  pub count : s.count ≤ 6
  pub legs : All FitLeg s.legs
  pub used : (i : ℕ) → i < s.count → 0 < (leg_at s i).ratio
  pub rising : (i j : ℕ) → i < j → j < s.count → (leg_at s i).series < (leg_at s j).series
  pub held : (i : ℕ) → i < s.count → has s.series (leg_at s i).series ≡ true

pub record Fit (b : State) : Type 0 where
  pub strategies : All FitLegs b.strategies
  pub entries : All FitEntry b.entries
  pub orders : All FitOrder b.orders
  pub priced : All Priced b.orders
  pub strategy_rows : length b.strategies ≡ 16
  pub entry_rows : length b.entries ≡ 32
  pub order_rows : length b.orders ≡ 32
  pub quotes : All FitQuote b.national
  pub quote_rows : length b.national ≡ 32
  pub range : b.range ≤ 9999
  pub nets : Netted b
  -- the strategy of a live entry has legs
  pub live : (i : ℕ) → 0 < (entry_at b i).units → 0 < (strategy_at b (entry_at b i).strategy).count

-- what stands past a table's end fits

no-legs : FitLegs no_strategy
no-legs = record { count = omega arith; legs = all_nil; used = λ i h. absurd (omega arith); rising = λ i j h l. absurd (omega arith); held = λ i h. absurd (omega arith) }

no-quote : FitQuote no_quote
no-quote = record { bid = omega arith; offer = omega arith }

-- so every row fits, at any place
pub fit-leg : {ls : List Leg} → All FitLeg ls → (i : ℕ) → FitLeg (get_or ls i no_leg)
fit-leg a i = all-at no_leg fit-no-leg a i

pub fit-legs : {ss : List Strategy} → All FitLegs ss → (k : ℕ) → FitLegs (get_or ss k no_strategy)
fit-legs a k = all-at no_strategy no-legs a k

pub fit-entry : {es : List Entry} → All FitEntry es → (i : ℕ) → FitEntry (get_or es i no_entry)
fit-entry a i = all-at no_entry fit_none a i

pub fit-order : {os : List LegOrder} → All FitOrder os → (i : ℕ) → FitOrder (get_or os i no_order)
fit-order a i = all-at no_order fit-no-order a i

pub fit-quote : {qs : List Quote} → All FitQuote qs → (s : ℕ) → FitQuote (get_or qs s no_quote)
fit-quote a s = all-at no_quote no-quote a s

pub priced-at : {os : List LegOrder} → All Priced os → (i : ℕ) → Priced (get_or os i no_order)
priced-at a i = all-at no_order priced-none a i

-- a sound state
pub fit-sound : {b : State} → Sound b → Fit b
fit-sound s = record {
  strategies = all_map (λ t f. record { count = f.count; legs = f.legs; used = f.used; rising = f.rising; held = f.held }) s.strategies;
  entries = s.entries;
  orders = s.orders;
  priced = priced-sound s;
  strategy_rows = s.strategy_rows;
  entry_rows = s.entry_rows;
  order_rows = s.order_rows;
  quotes = s.national;
  quote_rows = s.quote_rows;
  range = s.range;
  nets = s.nets;
  live = λ i h. omega (arith, s.legs _ (s.live i h).strategy);
}

-- a strategy that kept all but its auction
same-legs : (s t : Strategy) → SameStrategy s t → FitLegs s → FitLegs t
same-legs s t e h = record {
  count = omega (arith, e.count, h.count);
  legs = rw e.legs h.legs;
  used = λ i l. rw e.legs (h.used i (omega (arith, e.count)));
  rising = λ i j l m. rw e.legs (h.rising i j l (omega (arith, e.count)));
  held = λ i l. rw (e.legs, e.series) (h.held i (omega (arith, e.count)));
}

-- a leg order that kept its price and gained no contracts
priced-same : {o p : LegOrder} → SameOrder o p → Priced o → Priced p
priced-same {o} {p} e h = record { price = λ l. (let k = h.price (omega (arith, e.contracts)) in omega (arith, e.price)) }

pub fit-shrinks : {b c : State} → Shrinks b c → Fit b → Fit c
fit-shrinks {b} {c} s f = record {
  strategies = all_of FitLegs no_strategy c.strategies (λ k. same-legs _ _ (s.strategy k) (fit-legs f.strategies k));
  entries = all_of FitEntry no_entry c.entries (λ i. entry-fits (s.entry i) (fit-entry f.entries i));
  orders = all_of FitOrder no_order c.orders (λ i. order-fits (s.order i) (fit-order f.orders i));
  priced = all_of Priced no_order c.orders (λ i. priced-same (s.order i) (priced-at f.priced i));
  strategy_rows = s.strategy_rows ∙ f.strategy_rows;
  entry_rows = s.entry_rows ∙ f.entry_rows;
  order_rows = s.order_rows ∙ f.order_rows;
  quotes = rw s.national f.quotes;
  quote_rows = rw s.national f.quote_rows;
  range = rw s.range f.range;
  nets = s.nets f.nets;
  live = λ i h.
      let e = s.entry i in
      rw (e.strategy, (s.strategy (entry_at b i).strategy).count) (f.live i (omega (arith, e.units)));
}

-- the state that a function left
pub fit-done : {r₀ r₁ : Records} {b c : State} {x : Moved} → Done r₀ r₁ c x → Shrinks b x.state → Fit b → Fit c
fit-done d s f = rw d.state (fit-shrinks s f)
