-- The leg nets of a strategy by what is stored of it (2026-05).
use Rattle.std.specs.Prelude.{◌≡◌, ℕ, ◌≤◌, ◌<◌, ℤ, Some, None, Err}
use Rattle.std.proofs.Common.{◌∙◌, ap, arith, to_z, of_z, to_z-of_z}
use Rattle.std.specs.Int.{w32}
use Rattle.base.specs.Pick.{pick, tests}
use Rattle.rules.specs.declared.State.{State}
use Rattle.events.specs.declared.Refusal.TheVariants as F
use Rattle.rules.specs.State.{strategy_at, leg_net, nets_stored}
use Rattle.rules.specs.Records.{cents}
use Rattle.rules.specs.Refusals.{undefined}
use Rattle.rules.specs.Lookups.{LookedUp, nets, refused_by, told_net, leg_nets, net_told, nets_tells}
use Rattle.rules.specs.Valid.{Sound, Valid}
use Rattle.rules.proofs.StoredNets.{valid-nets}
use Rattle.records.specs.Space.{cents-fits}
use Rattle.ranges.specs.Fit.{fit-legs, fit-sound}
use Rattle.nets.specs.Nets.{net-most, prices-most}

-- what the lookup reads: both nets of the row that is stored of the strategy, each in cents or unknown (4 if undefined)
unfoldable pub stored_nets : State → ℕ → LookedUp
stored_nets b k = pick (undefined b k) (refused_by 4) (nets (told_net (nets_stored b k).bid) (told_net (nets_stored b k).offer))

-- a net in cents fits a word
pub cents-word : (l : ℕ) {z : ℤ} → l < 2_147_483_648 → z ≡ cents l → to_z w32 (of_z w32 z) ≡ cents l
cents-word l h e = ap (λ (z : ℤ). to_z w32 (of_z w32 z)) e ∙ to_z-of_z (cents-fits l h)

-- a net by what the code tests of its level
module _ (level : ℕ) where
  pub tells_unknown : level ≡ 0 → net_told None ≡ told_net level
  unfolding net_told told_net
  tells_unknown n = search tests

  pub tells-known : {z : ℤ} → ¬ (level ≡ 0) → z ≡ cents level → net_told (Some z) ≡ told_net level
  unfolding net_told told_net
  tells-known n e = rw e (search tests)

-- a strategy that is not defined
module _ (b : State) (k : ℕ) (h : b.defined ≤ k) where
  pub nets-undefined : nets_tells (Err F.UnknownStrategy) ≡ leg_nets b k
  unfolding leg_nets nets_tells undefined
  nets-undefined = search tests

  pub row-undefined : nets_tells (Err F.UnknownStrategy) ≡ stored_nets b k
  unfolding stored_nets nets_tells undefined
  row-undefined = search tests

-- a leg net has a level that fits
net-fits : (b : State) → Sound b → (side k : ℕ) → leg_net b side k ≤ 17_199_928
unfolding leg_net
net-fits b s side k = net-most _ _ (fit-legs (fit-sound s).strategies k) (prices-most b.orders side (strategy_at b k).legs s.orders)

-- what is stored of a strategy that is defined
module _ (b : State) (v : Valid b) (k : ℕ) (h : k < b.defined) where
  stored : nets_stored b k ≡ record { bid = leg_net b 1 k; offer = leg_net b 0 k }
  stored = (valid-nets v).held k h

  pub stored-fits : ((nets_stored b k).bid < 2_147_483_648) × ((nets_stored b k).offer < 2_147_483_648)
  stored-fits = rw stored (omega (arith, net-fits b v.sound 1 k), omega (arith, net-fits b v.sound 0 k))

  pub nets-stored : {x : LookedUp} → x ≡ nets (told_net (nets_stored b k).bid) (told_net (nets_stored b k).offer) → x ≡ leg_nets b k
  unfolding leg_nets undefined
  nets-stored e = e ∙ rw stored (search tests)

-- .. as it is read
pub row-stored : (b : State) (k : ℕ) → k < b.defined → {x : LookedUp} → x ≡ nets (told_net (nets_stored b k).bid) (told_net (nets_stored b k).offer) → x ≡ stored_nets b k
unfolding stored_nets undefined
row-stored b k h e = e ∙ search tests
