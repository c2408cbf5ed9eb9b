-- What kinds 9 and 10 do, and who may not fill at a level (2026-01).
use mathlib.Core.Path.{◌≡◌, refl, sym}
use mathlib.Core.Bool.{Bool, true, false, not}
use mathlib.Core.Logic.{◌⊎◌, inl, inr}
use Prim.Native.Nat.{ℕ, ◌+◌, ◌≤◌, ◌<◌}
use native.Mathlib.Omega.{arith}
use borrow.Author.Tests.{eqb-true, leb-true, leb-false}
use lib.Dec.{eqb}
use Rattle.base.specs.Pick.{pick, pick-by}
use Rattle.base.specs.Walks.{clash}
use Rattle.events.specs.declared.Event.TheVariants as E
use Rattle.events.specs.declared.National.{National as GivenNational}
use Rattle.events.specs.declared.Range.{Range as GivenRange}
use lib.Seq.{get_or-set_same, get_or-set_other}
use Rattle.rules.specs.declared.Bounds.{Bounds}
use Rattle.rules.specs.declared.State.{State}
use Rattle.rules.specs.State.{no_quote, with_national, with_range}
use Rattle.rules.specs.National.{may_buy, may_sell, may_fill, on_national, on_range}
use Rattle.rules.specs.Given.{quote_given}
use Rattle.rules.specs.Step.{value_of, accept}
use Rattle.rules.specs.Sentences.{AcceptedEvent, NationalSentence, RangeSentence, BoundSentence}
use Rattle.rules.proofs.Tables.{positive}

pub national-sentence : (b : State) (e : GivenNational) → AcceptedEvent b (E.National e) → NationalSentence b e (accept b (E.National e))
unfolding accept value_of on_national with_national quote_given
national-sentence b e a = record {
  set = get_or-set_same b.national e.series (quote_given e) no_quote (omega (arith, a.fit.0, a.valid.sound.quote_rows));
  others = λ s h. get_or-set_other b.national e.series s (quote_given e) no_quote h;
  rest = refl;
  records = refl;
  value = refl;
}

pub range-sentence : (b : State) (e : GivenRange) → AcceptedEvent b (E.Range e) → RangeSentence b e (accept b (E.Range e))
unfolding accept value_of on_range with_range
range-sentence b e a = record { set = refl; rest = refl; records = refl; value = refl }

-- WHO MAY NOT FILL
barred-by : (b s u v : Bool) → pick (pick (not b) true u) (pick (not s) true v) false ≡ false → ((b ≡ true) × (u ≡ false)) ⊎ ((s ≡ true) × (v ≡ false))
unfolding pick
barred-by true s false v f = inl (refl, refl)
barred-by true true true v f = inr (refl, f)
barred-by true false true v f = absurd (clash refl f)
barred-by false true u v f = inr (refl, f)
barred-by false false u v f = absurd (clash refl f)

allowed-by : (b s u v : Bool) → pick (pick (not b) true u) (pick (not s) true v) false ≡ true → (b ≡ true → u ≡ true) × (s ≡ true → v ≡ true)
unfolding pick
allowed-by true s false v t = absurd (clash t refl)
allowed-by true true true v t = (λ _. refl, λ _. t)
allowed-by true false true v t = (λ _. refl, λ z. absurd (clash refl (sym z)))
allowed-by false true u v t = (λ z. absurd (clash refl (sym z)), λ _. t)
allowed-by false false u v t = (λ z. absurd (clash refl (sym z)), λ z. absurd (clash refl (sym z)))

pub bound-sentence : (w : Bounds) (buys sells : Bool) (level : ℕ) → BoundSentence w buys sells level
unfolding may_fill may_buy may_sell
bound-sentence w buys sells level = record {
  either = barred buys sells;
  both = allowed buys sells;
  above = pick-by (λ (t : Bool). t ≡ false → (0 < w.offer) × (w.offer + w.range < level)) (eqb w.offer 0)
      (λ _ f. absurd (clash refl f)) (λ n f. (positive _ n, leb-false _ _ f));
  not_above = pick-by (λ (t : Bool). t ≡ true → (w.offer ≡ 0) ⊎ (level ≤ w.offer + w.range)) (eqb w.offer 0)
      (λ z _. inl (eqb-true _ _ z)) (λ _ t. inr (leb-true _ _ t));
  below = pick-by (λ (t : Bool). t ≡ false → (0 < w.bid) × (level + w.range < w.bid)) (eqb w.bid 0)
      (λ _ f. absurd (clash refl f)) (λ n f. (positive _ n, leb-false _ _ f));
  not_below = pick-by (λ (t : Bool). t ≡ true → (w.bid ≡ 0) ⊎ (w.bid ≤ level + w.range)) (eqb w.bid 0)
      (λ z _. inl (eqb-true _ _ z)) (λ _ t. inr (leb-true _ _ t));
}
  where
    buyer : Bool
    buyer = may_buy w level

    seller : Bool
    seller = may_sell w level

    barred : (b s : Bool) → pick (pick (not b) true buyer) (pick (not s) true seller) false ≡ false → ((b ≡ true) × (buyer ≡ false)) ⊎ ((s ≡ true) × (seller ≡ false))
    barred b s f = barred-by b s buyer seller f

    allowed : (b s : Bool) → pick (pick (not b) true buyer) (pick (not s) true seller) false ≡ true → (b ≡ true → buyer ≡ true) × (s ≡ true → seller ≡ true)
    allowed b s t = allowed-by b s buyer seller t
