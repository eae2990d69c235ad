-- What inference answers.
use Rattle.std.specs.Prelude.{◌≡◌, ℕ, zero, suc, ◌+◌, ◌-◌, ◌/◌, nat_le, min, Bool, true, false, IsTrue, ◌&&◌, List, [], ◌∷◌, reverse, IsPermutation, IsSorted, Option, Some, None, Result, Ok, Err, if◌then◌else◌}
use Rattle.std.specs.List.{list_any}
use Rattle.std.specs.List.Sorted.{IsStable}
use Rattle.std.specs.Ordering.{nat_cmp, ordering_then}
use Rattle.std.specs.declared.cmp.Ordering.{Ordering}
use Rattle.fx_base.specs.declared.refusal.Place.{Place}
use Rattle.fx_base.specs.declared.refusal.Refusal.{Refusal}
use Rattle.fx_base.specs.declared.refusal.Refusal.TheVariants as refusal
use Rattle.effect_meaning.specs.Arena.{Parts}
use Rattle.type_terms.specs.declared.base_type.BaseTy.{BaseTy}
use Rattle.type_terms.specs.declared.base_type.BaseTy.TheVariants as base
use Rattle.type_graph.specs.declared.form.Form.{Form}
use Rattle.type_graph.specs.declared.form.Form.TheVariants as form
use Rattle.type_graph.specs.Graph.{Graph, form_of, has_room, root}
use Rattle.type_graph.specs.Sized.{Counting, all_counted, is_too_large}
use Rattle.ml_infer.specs.declared.inference.Compared.{Compared}
use Rattle.ml_infer.specs.declared.inference.End.{End}
use Rattle.ml_infer.specs.declared.inference.End.TheVariants as ends
use Rattle.ml_infer.specs.declared.inference.Inference.{Inference}
use Rattle.ml_infer.specs.declared.verdict.Fault.{Fault}
use Rattle.ml_infer.specs.declared.verdict.Fault.TheVariants as fault
use Rattle.ml_infer.specs.declared.verdict.Span.{Span}
use Rattle.ml_infer.specs.Inference.{begun}
use Rattle.ml_infer.specs.Items.{items_taken}

-- the walk over a program that takes at most so many equations
abbrev pub walked : Parts → ℕ → Inference
walked p most = items_taken p p.items (begun p most)

abbrev pub is_there : {A : Type 0} → Option A → Bool
is_there None = false
is_there (Some a) = true

-- no type is a part of itself by the first so many equations
abbrev pub is_finite : Parts → ℕ → Bool
is_finite p n = is_there (all_counted (walked p n).types)

-- the half of a span at whose end the first type is a part of itself
abbrev pub halved_at : Parts → ℕ → Span → Span
halved_at p middle s = if is_finite p middle then record s { finite = middle } else record s { cyclic = middle }

abbrev pub halved : Parts → Span → Span
halved p s =
    let between = s.cyclic - s.finite in
    if nat_le between 1 then s else halved_at p (min (s.finite + between / 2) 18446744073709551615) s

-- so many halvings
unfoldable pub halvings : (steps : ℕ) → Parts → Span → Span
halvings zero p s = s
halvings (suc steps) p s = halvings steps p (halved p s)

-- the place of the first equation by which a type is a part of itself; another one where none of the first so many is one
abbrev pub first_fault : Parts → (equations : ℕ) → Place → Place
first_fault p n otherwise =
    if is_finite p n then otherwise else (walked p (halvings 64 p (record { finite = 0; cyclic = n })).cyclic).last

-- the type of this row, if it is one at which values are compared
abbrev pub base_row : ℕ → Option BaseTy
base_row zero = Some base.Int
base_row (suc zero) = Some base.Bool
base_row (suc (suc zero)) = Some base.Char
base_row (suc (suc (suc zero))) = Some base.Str
base_row (suc (suc (suc (suc zero)))) = Some base.Unit
base_row _ = None

abbrev pub base_form : Form → Option BaseTy
base_form (form.Applied c first zero) = base_row c
base_form _ = None

-- the type of a comparison, if it is such a one
abbrev pub base_of : Graph → ℕ → Option BaseTy
base_of g n = base_form (form_of g.nodes n)

-- the type of the first comparison before those of the others, or its place
abbrev pub base_before : Option BaseTy → Place → Result (List BaseTy) Place → Result (List BaseTy) Place
base_before None at r = Err at
base_before (Some b) at (Ok bs) = Ok (b ∷ bs)
base_before (Some b) at (Err other) = Err other

-- the types of comparisons, or the place of the first one at another type
unfoldable pub bases : Graph → List Compared → Result (List BaseTy) Place
bases g [] = Ok []
bases g (c ∷ cs) = base_before (base_of g c.found) c.place (bases g cs)

-- the type of a definition is too large
abbrev pub has_large : Inference → Counting → Bool
has_large s sizes = list_any (λ d. is_too_large sizes (root s.types.nodes d)) (reverse s.definitions)

-- the types of the comparisons, unless one is at another type or a definition's is too large
abbrev pub unless_large : Result (List BaseTy) Place → Bool → Result (List BaseTy) Fault
unless_large (Err at) large = Err (fault.IllTyped at)
unless_large (Ok bs) true = Err fault.TooLarge
unless_large (Ok bs) false = Ok bs

-- where no type is a part of itself
abbrev pub sized_verdict : Parts → Inference → List Compared → Option Counting → Result (List BaseTy) Fault
sized_verdict p s order None = Err (fault.IllTyped (first_fault p s.equations s.last))
sized_verdict p s order (Some sizes) = unless_large (bases s.types order) (has_large s sizes)

-- behind a walk that ended with a fault, or didn't
abbrev pub ended_verdict : Parts → Inference → List Compared → Option End → Result (List BaseTy) Fault
ended_verdict p s order (Some (ends.Fault at)) = Err (fault.IllTyped (first_fault p s.equations at))
ended_verdict p s order _ = sized_verdict p s order (all_counted s.types)

-- the types of the comparisons of a program, which stand in this order, or why it has no types
abbrev pub verdict : Parts → Inference → List Compared → Result (List BaseTy) Fault
verdict p s order = ended_verdict p s order s.end

-- the order of comparisons in the text: item by item, and in an item by their places
abbrev pub text_cmp : Compared → Compared → Ordering
text_cmp a b =
    ordering_then (ordering_then (nat_cmp a.item b.item) (nat_cmp a.place.line b.place.line)) (nat_cmp a.place.column b.place.column)

-- a walk took all equations and steps that it had to, and had room for its types
abbrev pub not_stopped : Option End → Bool
not_stopped (Some ends.Stopped) = false
not_stopped _ = true

abbrev pub is_complete : Inference → Bool
is_complete s = not_stopped s.end && has_room s.types

-- the verdict on a program, with its comparisons in the order of the text; those at one place stay in their order
pub record IsVerdict (p : Parts) (r : Result (List BaseTy) Fault) : Type 0 where
  pub complete : IsTrue (is_complete (walked p 18446744073709551615))
  pub order : List Compared
  pub elements : IsPermutation (reverse (walked p 18446744073709551615).comparisons) order
  pub sorted : IsSorted text_cmp order
  pub stable : IsStable text_cmp (reverse (walked p 18446744073709551615).comparisons) order
  pub is : r ≡ verdict p (walked p 18446744073709551615) order

-- a refusal for its types is the verdict on the program
abbrev pub IsFault : Parts → Refusal → Type 0
IsFault p (refusal.IllTyped at) = IsVerdict p (Err (fault.IllTyped at))
IsFault p (refusal.Limit kind found bound) = IsVerdict p (Err fault.TooLarge)
IsFault p refusal = Unit {0}
