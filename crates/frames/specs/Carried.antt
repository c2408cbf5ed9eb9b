-- The event that a frame carries, once it has the length of its kind.
use Rattle.std.specs.Prelude.{◌≡◌, ℕ, ◌+◌, ◌≤◌, Bool, List, [], ◌∷◌, length, take, ◌==◌, true, false, refl, Result, Ok, Err, IsErrAnd}
use Rattle.std.proofs.Common.{sym, ap, ◌∙◌, arith}
use Rattle.std.proofs.lemmas.Result.{err_from_is_err_and}
use Rattle.base.specs.Pick.{pick, both, pick_all}
use Rattle.events.specs.Fields.{width, layout, present_of, offset, holds, fit_n}
use Rattle.events.specs.Kinds.{code_of, fixed_of, length_of}
use Rattle.events.specs.Table.{fields_of, layout_of}
use Rattle.events.specs.Rows.{event_of}
use Rattle.frames.specs.Number.{number}
use Rattle.frames.specs.Bodies.{value_at, row_n}
use Rattle.frames.specs.Frames.{count_at}
use Rattle.events.specs.declared.Refusal.{Refusal}
use Rattle.events.specs.declared.Refusal.TheVariants as F
use Rattle.events.specs.declared.Field.{Field}
use Rattle.events.specs.declared.Kind.{Kind}
use Rattle.events.specs.declared.Kind.TheVariants as K
use Rattle.events.specs.declared.Event.{Event}

-- a frame that has the length of a kind
pub record Whole (k : Kind) (f : List ℕ) : Type 0 where
  pub four : 4 ≤ length f
  pub long : length_of k (count_at f) ≡ length f

-- it is as long as the kind is without legs, or longer
pub whole-fixed : {k j : Kind} {f : List ℕ} → k ≡ j → Whole k f → fixed_of j ≤ length f
unfolding length_of
whole-fixed {k} e w =
    rw (← e, ← w.long) (pick_all (λ (n : ℕ). fixed_of k ≤ n) (code_of k == 1) (omega arith) (omega arith))

-- the values of its fields
abbrev pub row_in : Kind → List ℕ → List ℕ
row_in k f = row_n (layout_of k (count_at f)) f 19

-- the event of these values, or 3: "a field outside its range"
unfoldable pub carried_of : Kind → List ℕ → Result Event Refusal
carried_of k f = pick (fit_n (layout_of k (count_at f)) (row_in k f) 19) (event_of k (row_in k f)) (Err F.BadField)

-- the value of a field at the place a, or 3
unfoldable pub field_at : Field → List ℕ → ℕ → Result ℕ Refusal
field_at x f a = pick (holds x (value_at x f a)) (Ok (value_at x f a)) (Err F.BadField)

-- what goes on with a value, or its refusal
unfoldable pub with_value : Result ℕ Refusal → (ℕ → Result Event Refusal) → Result Event Refusal
with_value (Ok v) g = g v
with_value (Err r) g = Err r

-- what is made of the values of fields one after the other from the place a, or 3
abbrev pub from_fields : List Field → List ℕ → ℕ → (List ℕ → Result Event Refusal) → Result Event Refusal
from_fields [] f a g = g []
from_fields (x ∷ xs) f a g = with_value (field_at x f a) (λ v. from_fields xs f (a + width x) (λ vs. g (v ∷ vs)))

-- the event of the first n fields of a kind's table, each read at its place
abbrev pub placed_of : Kind → ℕ → List ℕ → Result Event Refusal
placed_of k n f = from_fields (take n (fields_of k)) f 4 (event_of k)

-- the same for each kind: one of fixed length has so many fields at their places; a strategy goes by the table
abbrev pub carried_by : Kind → List ℕ → Result Event Refusal
carried_by K.Strategy f = carried_of K.Strategy f
carried_by K.Order f = placed_of K.Order 7 f
carried_by K.Sweep f = placed_of K.Sweep 5 f
carried_by K.LegOrder f = placed_of K.LegOrder 5 f
carried_by K.Cancel f = placed_of K.Cancel 2 f
carried_by K.Series f = placed_of K.Series 2 f
carried_by K.Clock f = placed_of K.Clock 1 f
carried_by K.DayEnd f = placed_of K.DayEnd 1 f
carried_by K.National f = placed_of K.National 3 f
carried_by K.Range f = placed_of K.Range 1 f
carried_by K.Specialist f = placed_of K.Specialist 3 f
carried_by K.Unknown f = placed_of K.Unknown 0 f

-- laws

pub value-ok : {r : Result ℕ Refusal} (g : ℕ → Result Event Refusal) {v : ℕ} → Ok v ≡ r → with_value r g ≡ g v
unfolding with_value
value-ok g e = rw (← e)

pub value-err : {r : Result ℕ Refusal} (g : ℕ → Result Event Refusal) {s : Refusal} → Err s ≡ r → with_value r g ≡ Err s
unfolding with_value
value-err g e = rw (← e)

-- what is returned where a value was refused
pub exit : {r : Result Event Refusal} {s : Refusal} → IsErrAnd r (λ e. e ≡ s) → r ≡ Err s
exit {r} h = let p = err_from_is_err_and r h in p.1 ∙ ap Err p.2

pub ruleset reads = (value-ok, value-err)

-- the values of fields one after the other from the place a
abbrev values_at : List ℕ → List Field → ℕ → List ℕ
values_at f [] a = []
values_at f (x ∷ xs) a = value_at x f a ∷ values_at f xs (a + width x)

-- and whether these and those before them are in their ranges
abbrev fit_at : List ℕ → List Field → ℕ → Bool → Bool
fit_at f [] a ok = ok
fit_at f (x ∷ xs) a ok = fit_at f xs (a + width x) (both (holds x (value_at x f a)) ok)

-- one more value is read, where those before it were in their ranges, or not
one-more : (h ok : Bool) (v : ℕ) (g : ℕ → Result Event Refusal) → pick (both h ok) (g v) (Err F.BadField) ≡ pick ok (with_value (pick h (Ok v) (Err F.BadField)) g) (Err F.BadField)
unfolding pick with_value
one-more true ok v g = refl
one-more false true v g = refl
one-more false false v g = refl

-- reading them one by one is reading all and testing them
one-by-one : (xs : List Field) (f : List ℕ) (a : ℕ) (ok : Bool) (g : List ℕ → Result Event Refusal) →
    pick (fit_at f xs a ok) (g (values_at f xs a)) (Err F.BadField) ≡ pick ok (from_fields xs f a g) (Err F.BadField)
unfolding field_at
one-by-one [] f a ok g = refl
one-by-one (x ∷ xs) f a ok g =
    one-by-one xs f (a + width x) (both (holds x (value_at x f a)) ok) (λ vs. g (value_at x f a ∷ vs))
    ∙ one-more (holds x (value_at x f a)) ok (value_at x f a) (λ v. from_fields xs f (a + width x) (λ vs. g (v ∷ vs)))

placed : (k : Kind) (n : ℕ) (f : List ℕ) →
    placed_of k n f ≡ pick (fit_at f (take n (fields_of k)) 4 true) (event_of k (values_at f (take n (fields_of k)) 4)) (Err F.BadField)
unfolding pick
placed k n f = sym (one-by-one (take n (fields_of k)) f 4 true (event_of k))

pub carried-by : (k : Kind) (f : List ℕ) → carried_by k f ≡ carried_of k f
unfolding carried_of row_n layout_of layout present_of length_of pick value_at number offset fit_n holds
carried-by K.Strategy f = refl
carried-by K.Order f = placed K.Order 7 f
carried-by K.Sweep f = placed K.Sweep 5 f
carried-by K.LegOrder f = placed K.LegOrder 5 f
carried-by K.Cancel f = placed K.Cancel 2 f
carried-by K.Series f = placed K.Series 2 f
carried-by K.Clock f = placed K.Clock 1 f
carried-by K.DayEnd f = placed K.DayEnd 1 f
carried-by K.National f = placed K.National 3 f
carried-by K.Range f = placed K.Range 1 f
carried-by K.Specialist f = placed K.Specialist 3 f
carried-by K.Unknown f = placed K.Unknown 0 f

-- for a kind that was found to be j
pub carried-as : {k j : Kind} (f : List ℕ) → k ≡ j → carried_by j f ≡ carried_of k f
carried-as {k} {j} f e = rw e (carried-by j f)
