-- "Refusals by cause": the number of each.
use Rattle.std.specs.Prelude.{◌≡◌, ℕ, zero, suc, ◌-◌, ◌≤◌, List, [], ◌∷◌, get_or}
use Rattle.std.proofs.Common.{refl, arith}
use Rattle.events.specs.declared.Refusal.{Refusal}
use Rattle.events.specs.declared.Refusal.TheVariants as F

-- the number that the papers give a cause
abbrev pub refusal_number : Refusal → ℕ
refusal_number F.ShortSpace = 1
refusal_number F.BadFrame = 2
refusal_number F.BadField = 3
refusal_number F.UnknownStrategy = 4
refusal_number F.BadDefinition = 5
refusal_number F.SeriesShut = 6
refusal_number F.UnknownOrder = 7
refusal_number F.AuctionStarter = 8
refusal_number F.NoAuction = 9
refusal_number F.NothingRemoved = 10
refusal_number F.EarlyClock = 11
refusal_number F.TableFull = 12
refusal_number F.NumbersOut = 13
refusal_number F.BidAboveOffer = 14
refusal_number F.NothingBettered = 15

-- the causes by their numbers, from 1 on
abbrev pub refusals : List Refusal
refusals = F.ShortSpace ∷ F.BadFrame ∷ F.BadField ∷ F.UnknownStrategy ∷ F.BadDefinition ∷ F.SeriesShut ∷ F.UnknownOrder ∷ F.AuctionStarter ∷ F.NoAuction ∷ F.NothingRemoved ∷ F.EarlyClock ∷ F.TableFull ∷ F.NumbersOut ∷ F.BidAboveOffer ∷ F.NothingBettered ∷ []

-- the cause of a number from 1 to 15
abbrev pub refusal_of : ℕ → Refusal
refusal_of n = get_or refusals (n - 1) F.NothingBettered

-- every number is 1 or more
pub refusal-some : (r : Refusal) → 1 ≤ refusal_number r
refusal-some F.ShortSpace = omega arith
refusal-some F.BadFrame = omega arith
refusal-some F.BadField = omega arith
refusal-some F.UnknownStrategy = omega arith
refusal-some F.BadDefinition = omega arith
refusal-some F.SeriesShut = omega arith
refusal-some F.UnknownOrder = omega arith
refusal-some F.AuctionStarter = omega arith
refusal-some F.NoAuction = omega arith
refusal-some F.NothingRemoved = omega arith
refusal-some F.EarlyClock = omega arith
refusal-some F.TableFull = omega arith
refusal-some F.NumbersOut = omega arith
refusal-some F.BidAboveOffer = omega arith
refusal-some F.NothingBettered = omega arith

-- each cause is the cause of its number
pub refusal-number : (r : Refusal) → refusal_of (refusal_number r) ≡ r
refusal-number F.ShortSpace = refl
refusal-number F.BadFrame = refl
refusal-number F.BadField = refl
refusal-number F.UnknownStrategy = refl
refusal-number F.BadDefinition = refl
refusal-number F.SeriesShut = refl
refusal-number F.UnknownOrder = refl
refusal-number F.AuctionStarter = refl
refusal-number F.NoAuction = refl
refusal-number F.NothingRemoved = refl
refusal-number F.EarlyClock = refl
refusal-number F.TableFull = refl
refusal-number F.NumbersOut = refl
refusal-number F.BidAboveOffer = refl
refusal-number F.NothingBettered = refl

-- .. and the other way
pub number-refusal : (n : ℕ) → 1 ≤ n → n ≤ 15 → refusal_number (refusal_of n) ≡ n
number-refusal zero = λ a. absurd (omega arith)
number-refusal (suc zero) = λ a b. refl
number-refusal (suc (suc zero)) = λ a b. refl
number-refusal (suc (suc (suc zero))) = λ a b. refl
number-refusal (suc (suc (suc (suc zero)))) = λ a b. refl
number-refusal (suc (suc (suc (suc (suc zero))))) = λ a b. refl
number-refusal (suc (suc (suc (suc (suc (suc zero)))))) = λ a b. refl
number-refusal (suc (suc (suc (suc (suc (suc (suc zero))))))) = λ a b. refl
number-refusal (suc (suc (suc (suc (suc (suc (suc (suc zero)))))))) = λ a b. refl
number-refusal (suc (suc (suc (suc (suc (suc (suc (suc (suc zero))))))))) = λ a b. refl
number-refusal (suc (suc (suc (suc (suc (suc (suc (suc (suc (suc zero)))))))))) = λ a b. refl
number-refusal (suc (suc (suc (suc (suc (suc (suc (suc (suc (suc (suc zero))))))))))) = λ a b. refl
number-refusal (suc (suc (suc (suc (suc (suc (suc (suc (suc (suc (suc (suc zero)))))))))))) = λ a b. refl
number-refusal (suc (suc (suc (suc (suc (suc (suc (suc (suc (suc (suc (suc (suc zero))))))))))))) = λ a b. refl
number-refusal (suc (suc (suc (suc (suc (suc (suc (suc (suc (suc (suc (suc (suc (suc zero)))))))))))))) = λ a b. refl
number-refusal (suc (suc (suc (suc (suc (suc (suc (suc (suc (suc (suc (suc (suc (suc (suc zero))))))))))))))) = λ a b. refl
number-refusal (suc (suc (suc (suc (suc (suc (suc (suc (suc (suc (suc (suc (suc (suc (suc (suc n)))))))))))))))) = λ a b. absurd (omega arith)
