-- National prices in range; the national net by the legs that the code has walked; who may fill, by what the code tests.
use Rattle.std.specs.Prelude.{◌≡◌, Bool, true, false, List, ℕ, ◌≤◌, ◌<◌, eqb, get_or}
use Rattle.std.proofs.Math.Path.{refl, sym}
use Rattle.std.proofs.Common.{◌∙◌, arith, eq-eqb, ne_eqb, le-ltb}
use Rattle.base.specs.Pick.{pick, pick_all}
use Rattle.base.specs.All.{All}
use Rattle.base.specs.Walks.{slot, stored, stored_at, sum_same, all-stop, table-slot}
use Rattle.rules.specs.declared.Leg.{Leg}
use Rattle.rules.specs.declared.Strategy.{Strategy}
use Rattle.rules.specs.declared.Quote.{Quote}
use Rattle.rules.specs.declared.Bounds.{Bounds}
use Rattle.rules.specs.State.{no_leg, no_quote}
use Rattle.rules.specs.Sides.{leg_side}
use Rattle.rules.specs.Nets.{priced_at, known, weight_at, weighed, net_of}
use Rattle.rules.specs.National.{national_price, national_at, national_prices, national_net, may_buy, may_sell, may_fill, may_take, may_meet}
use Rattle.rules.specs.Valid.{FitQuote}
use Rattle.ranges.specs.Most.{AtMost, stored-most}
use Rattle.ranges.specs.Fit.{fit-quote}
use Rattle.nets.specs.Nets.{all_same, net-unknown}

-- THE RANGES

price-most : (qs : List Quote) (side : ℕ) (l : Leg) → All FitQuote qs → national_price qs side l ≤ 99_999
unfolding national_price
price-most qs side l a = pick_all (λ (p : ℕ). p ≤ 99_999) _ (fit-quote a l.series).offer (fit-quote a l.series).bid

-- the prices of the first k legs
pub walked-most : (qs : List Quote) (side : ℕ) (legs : List Leg) (k : ℕ) {ps : List ℕ} → All FitQuote qs → ps ≡ stored 6 (national_at qs side legs) k → AtMost 99_999 ps
walked-most qs side legs k a e = rw e (stored-most 6 (national_at qs side legs) 99_999 (λ i. price-most qs side (get_or legs i no_leg) a) k)

-- the price of a leg by the national prices of its series
pub price-is : (qs : List Quote) (side : ℕ) (l : Leg) {p : ℕ} → p ≡ pick (eqb (leg_side side l) 0) (get_or qs l.series no_quote).offer (get_or qs l.series no_quote).bid → p ≡ national_price qs side l
unfolding national_price
price-is qs side l e = e

-- A NET LOOKS AT THE PRICES OF THE LEGS IN USE ONLY

net-same : (s : Strategy) (ps qs : List ℕ) → ((i : ℕ) → i < s.count → slot ps i ≡ slot qs i) → net_of s ps ≡ net_of s qs
unfolding net_of known weighed
net-same s ps qs h =
    cc (
      all_same (priced_at ps) (priced_at qs) s.count (λ i l. rw (h i l)),
      sum_same (weight_at 0 s.legs ps) (weight_at 0 s.legs qs) s.count (λ i l. rw (h i l)),
      sum_same (weight_at 1 s.legs ps) (weight_at 1 s.legs qs) s.count (λ i l. rw (h i l)),
    )

module _ (qs : List Quote) (side : ℕ) (s : Strategy) (m : s.count ≤ 6) where
  price-at : (i : ℕ) → i < 6 → slot (national_prices qs side s.legs) i ≡ national_price qs side (get_or s.legs i no_leg)
  unfolding national_prices
  price-at i h = table-slot (national_at qs side s.legs) 0 6 i h

  -- all legs in use have been walked
  pub walked_all : {k : ℕ} {ps : List ℕ} → k ≡ s.count → ps ≡ stored 6 (national_at qs side s.legs) k → net_of s ps ≡ national_net qs side s
  unfolding national_net
  walked_all {k} h e =
      rw e
      (net-same s (stored 6 (national_at qs side s.legs) k) (national_prices qs side s.legs)
      (λ i l. stored_at 6 (national_at qs side s.legs) k i (omega arith) ∙ sym (price-at i (omega arith))))

  -- a leg whose price is missing
  pub walked-missing : {i p : ℕ} → i < s.count → p ≡ national_price qs side (get_or s.legs i no_leg) → p ≡ 0 → 0 ≡ national_net qs side s
  unfolding national_net known
  walked-missing {i} h f e =
      let z : slot (national_prices qs side s.legs) i ≡ 0 = price-at i (omega arith) ∙ sym f ∙ e in
      net-unknown s (national_prices qs side s.legs) (all-stop (priced_at (national_prices qs side s.legs)) i s.count h (rw z (le-ltb 0 0 (omega arith))))

-- WHO MAY FILL

both_true : (t : Bool) → t ≡ pick t true false
unfolding pick
both_true true = refl
both_true false = refl

module _ (w : Bounds) (side level : ℕ) where
  pub take-buy : side ≡ 0 → may_buy w level ≡ may_take w side level
  unfolding may_fill pick
  take-buy e = rw (eq-eqb _ _ e) (both_true _)

  pub take-sell : ¬ (side ≡ 0) → may_sell w level ≡ may_take w side level
  unfolding may_fill pick
  take-sell e = rw (ne_eqb _ _ e) refl

module _ (w : Bounds) (level : ℕ) where
  pub meet-yes : may_buy w level ≡ true → may_sell w level ≡ may_meet w level
  unfolding may_fill pick
  meet-yes e = rw e refl

  pub meet-no : may_buy w level ≡ false → false ≡ may_meet w level
  unfolding may_fill pick
  meet-no e = rw e refl
