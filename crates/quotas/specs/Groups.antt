-- The number of a group: "customers by number; then sweeps and market makers; then broker-dealers" are 0, 1, 2; everyone is 3. Nobody is in
-- the groups from 4 on, so one stands for them all.
use Rattle.std.specs.Prelude.{◌≡◌, refl, false, List, ℕ, ◌≤◌, get_or, Option}
use Rattle.std.proofs.Common.{sym, ◌∙◌, arith, ne_eqb, None, Some}
use Rattle.base.specs.Pick.{pick_all, pick-false}
use Rattle.rules.specs.declared.Entry.{Entry}
use Rattle.rules.specs.State.{no_entry}
use Rattle.rules.specs.Passes.{group_of, within, holding, sizes}
use Rattle.rules.proofs.Tables.{table_same}
use Rattle.quotas.specs.declared.Group.{Group}
use Rattle.quotas.specs.declared.Group.TheVariants.{Customers, MakersAndSweeps, BrokerDealers, Nobody}

abbrev pub group_number : Option Group → ℕ
group_number (Some Customers) = 0
group_number (Some MakersAndSweeps) = 1
group_number (Some BrokerDealers) = 2
group_number None = 3
group_number (Some Nobody) = 4

-- laws

group-most : (f : Entry) → group_of f ≤ 2
unfolding group_of
group-most f = let P : ℕ → Type 0 = λ (x : ℕ). x ≤ 2 in pick_all P _ (omega arith) (pick_all P _ (omega arith) (pick_all P _ (omega arith) (omega arith)))

pub nobody-within : (g : ℕ) (f : Entry) → 4 ≤ g → within g f ≡ false
unfolding within
nobody-within g f h = pick-false _ _ _ (ne_eqb g 3 (λ e. omega arith)) ∙ ne_eqb (group_of f) g (λ e. omega (arith, group-most f))

-- they are one group
pub nobody-same : (g : ℕ) (f : Entry) → 4 ≤ g → within g f ≡ within 4 f
nobody-same g f h = nobody-within g f h ∙ sym (nobody-within 4 f (omega arith))

pub nobody-sizes : (es : List Entry) (e : Entry) (level g : ℕ) → 4 ≤ g → sizes es e level g ≡ sizes es e level 4
unfolding sizes holding
nobody-sizes es e level g h = table_same _ _ 32 (λ i l. rw (nobody-same g (get_or es i no_entry) h) refl)
