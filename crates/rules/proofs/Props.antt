-- A state is valid in one way at most, so that a book can hold the fact beside it.
use Rattle.std.specs.Prelude.{◌≡◌, ℕ, ◌<◌, List, [], ◌∷◌}
use Rattle.std.proofs.Common.{refl, ⊎_elim, arith}
use Rattle.std.proofs.Props.{props}
use mathlib.Core.HLevel.{is_prop→PathP}
use Rattle.base.specs.All.{All, all_nil, all_cons}
use Rattle.base.specs.Walks.{lt-or-le}
use Rattle.rules.specs.declared.Leg.{Leg}
use Rattle.rules.specs.declared.Strategy.{Strategy}
use Rattle.rules.specs.declared.Entry.{Entry}
use Rattle.rules.specs.declared.LegOrder.{LegOrder}
use Rattle.rules.specs.declared.Quote.{Quote}
use Rattle.rules.specs.declared.State.{State}
use Rattle.rules.specs.State.{Netted}
use Rattle.rules.specs.Valid.{FitLeg, FitStrategy, FitEntry, FitOrder, FitQuote, Sound, Starter, HasStarter, Settled, Valid}

module _ {A : Type 0} {P : A → Type 0} (h : (a : A) → IsProp (P a)) where
  all-prop : (l : List A) → IsProp (All P l)
  all-prop [] all_nil all_nil = refl
  all-prop (x ∷ l) (all_cons p a) (all_cons q b) = λ i. all_cons (h x p q i) (all-prop l a b i)

fit-leg-prop : (l : Leg) → IsProp (FitLeg l)
fit-leg-prop l = hlevel props

fit-strategy-prop : (s : Strategy) → IsProp (FitStrategy s)
fit-strategy-prop s = hlevel (props, all-prop fit-leg-prop s.legs)

fit-entry-prop : (e : Entry) → IsProp (FitEntry e)
fit-entry-prop e = hlevel props

fit-order-prop : (o : LegOrder) → IsProp (FitOrder o)
fit-order-prop o = hlevel props

fit-quote-prop : (q : Quote) → IsProp (FitQuote q)
fit-quote-prop q = hlevel props

netted-prop : (b : State) → IsProp (Netted b)
netted-prop b = hlevel props

sound-prop : (b : State) → IsProp (Sound b)
sound-prop b = hlevel (props, netted-prop b, all-prop fit-strategy-prop b.strategies, all-prop fit-entry-prop b.entries, all-prop fit-order-prop b.orders, all-prop fit-quote-prop b.national)

module _ (b : State) (s : Sound b) (k : ℕ) where
  starter-prop : (i : ℕ) → IsProp (Starter b k i)
  starter-prop i = hlevel props

  -- two slots with the starter's number are one
  starter-same : (i j : ℕ) → Starter b k i → Starter b k j → i < j → ⊥
  starter-same i j p q l = let r = s.rising i j l p.live q.live in omega (arith, p.number, q.number)

  starter-slot : (p q : HasStarter b k) → p.at ≡ q.at
  starter-slot p q =
      ⊎_elim (λ l. absurd (starter-same p.at q.at p.starter q.starter l))
      (λ l. ⊎_elim (λ m. absurd (starter-same q.at p.at q.starter p.starter m)) (λ m. omega arith) (lt-or-le q.at p.at))
      (lt-or-le p.at q.at)

  has-starter-prop : IsProp (HasStarter b k)
  has-starter-prop p q =
      let e = starter-slot p q in
      λ i. record { at = e i; starter = is_prop→PathP (λ j. Starter b k (e j)) (λ j. starter-prop (e j)) p.starter q.starter i }

  settled-prop : IsProp (Settled b k)
  settled-prop = hlevel (props, has-starter-prop)

pub valid-prop : (b : State) → IsProp (Valid b)
valid-prop b v w = λ i. record {
  sound = sound-prop b v.sound w.sound i;
  settled = λ k. settled-prop b v.sound k (v.settled k) (w.settled k) i;
}
