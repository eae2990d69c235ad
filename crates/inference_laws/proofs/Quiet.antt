-- What is left as it was where types are made: the tasks, the names, and what the pattern at hand has bound.
use Rattle.std.proofs.Common.{◌≡◌, ℕ, zero, suc, ◌+◌, min, List, [], ◌∷◌, length, Option, Some, None, Bool, true, false, refl, ◌∙◌, if◌then◌else◌, nat_lt, nat_le, slice_get, ◌==◌}
use Rattle.fx_base.specs.declared.refusal.Place.{Place}
use Rattle.effect_meaning.specs.declared.core_nodes.Constructor.{Constructor}
use Rattle.effect_meaning.specs.declared.core_nodes.Constructor.TheVariants as constructor
use Rattle.effect_meaning.specs.declared.core_nodes.TypeExpression.{TypeExpression}
use Rattle.effect_meaning.specs.declared.core_nodes.TypeExpression.TheVariants as type
use Rattle.effect_meaning.specs.declared.core_tables.EffectRow.{EffectRow}
use Rattle.effect_meaning.specs.declared.core_tables.ExceptionRow.{ExceptionRow}
use Rattle.effect_meaning.specs.declared.core_tables.FieldRow.{FieldRow}
use Rattle.effect_meaning.specs.declared.core_tables.VariantRow.{VariantRow}
use Rattle.effect_meaning.specs.Arena.{Parts}
use Rattle.type_graph.specs.Graph.{Graph, argument_of, form_of}
use Rattle.ml_infer.specs.declared.inference.End.{End}
use Rattle.ml_infer.specs.declared.inference.End.TheVariants as ends
use Rattle.ml_infer.specs.declared.inference.Inference.{Inference}
use Rattle.ml_infer.specs.declared.inference.KnownVariable.{KnownVariable}
use Rattle.ml_infer.specs.declared.inference.NameType.{NameType}
use Rattle.ml_infer.specs.declared.tasks.Task.{Task}
use Rattle.ml_infer.specs.declared.written.Variables.{Variables}
use Rattle.ml_infer.specs.declared.written.Variables.TheVariants as variables
use Rattle.ml_infer.specs.declared.written.Visit.{Visit}
use Rattle.ml_infer.specs.declared.written.Visit.TheVariants as visit
use Rattle.ml_infer.specs.Inference.{gives, equated, equated_while, taken_equation, new_variable, taken, taken_from, variable_noted}
use Rattle.ml_infer.specs.Known.{known}
use Rattle.ml_infer.specs.Written.{annotated_if, entered_type, item_variable_of, left_type, reading, refused_unless, read_before, takes, type_variable, visited, visited_one, written}
use Rattle.ml_infer.specs.Constructors.{answer_in, answer_of, closed, constructed, constructed_effect_of, constructed_exception_of, constructed_variant_of, declared_argument, field_type, field_type_of, instance, new_variables, parameter_count}
use Rattle.type_graph.specs.Unified.{unified, unified_is}

-- the tasks, the names, the types that the pattern at hand has bound, and its number
pub record Bindings : Type 0 where
  pub tasks : List Task
  pub names : List (Option NameType)
  pub bound : List ℕ
  pub pattern : ℕ

abbrev pub bindings : Inference → Bindings
bindings s = record { tasks = s.tasks; names = s.names; bound = s.bound; pattern = s.pattern }

-- new types for parameters
pub variables_same : (count : ℕ) (s : Inference) → bindings (new_variables count s).state ≡ bindings s
unfolding new_variables
variables_same zero s = refl
variables_same (suc count) s = variables_same count (new_variable s).state

-- a type that is taken
taken_so : (gs : List ℕ) (s : Inference) → bindings (taken_from gs s).state ≡ bindings s
taken_so [] s = refl
taken_so (t ∷ ts) s = refl

pub taken_same : (s : Inference) → bindings (taken s).state ≡ bindings s
taken_same s = taken_so s.given s

pub refused_same : (is : Bool) (at : Place) (s : Inference) → bindings (refused_unless is at s) ≡ bindings s
refused_same true at s = refl
refused_same false at s = refl

-- two types are made equal, or clash
equation_same :
    (at : Place) (fits : Bool) (h : Graph) (s : Inference) → bindings (taken_equation at (unified_is fits h) s) ≡ bindings s
equation_same at true h s = refl
equation_same at false h s = refl

while_same : (o : Option End) (at : Place) (a b : ℕ) (s : Inference) → bindings (equated_while o at a b s) ≡ bindings s
while_same (Some e) at a b s = refl
while_same None at a b s =
    let u = unified 18446744073709551615 ((a, b) ∷ []) s.types in
    elim (nat_le s.most s.equations)
    as (λ t. bindings (if t then record s { end = Some ends.Stopped } else taken_equation at u s) ≡ bindings s) [
      | true ↦ refl
      | false ↦ equation_same at u.fits u.types s
    ]

pub equated_same : (at : Place) (a b : ℕ) (s : Inference) → bindings (equated at a b s) ≡ bindings s
equated_same at a b s = while_same s.end at a b s

-- type variables
variable_so : (o : Option KnownVariable) (v : ℕ) (s : Inference) → bindings (item_variable_of o v s).state ≡ bindings s
variable_so None v s = refl
variable_so (Some k) v s =
    let t = new_variable s in
    elim (k.item == s.item)
    as (λ b. bindings (if b then gives k.found s else gives t.found (variable_noted v t.found t.state)).state ≡ bindings s)
    [ true ↦ refl | false ↦ refl ]

type_variable_same : (vars : Variables) (v : ℕ) (s : Inference) → bindings (type_variable vars v s).state ≡ bindings s
type_variable_same variables.OfItem v s = variable_so (known s.variables v) v s
type_variable_same (variables.Parameters from count) v s =
    elim (nat_lt v count) as (λ b. bindings (if b then gives (min (from + v) 4294967295) s else new_variable s).state ≡ bindings s)
    [ true ↦ refl | false ↦ refl ]

module _ (p : Parts) where
  -- written types
  module _ (vars : Variables) (at : Place) where
    entered_so :
        (o : Option TypeExpression) (n : ℕ) (vs : List Visit) (s : Inference)
        → bindings (entered_type o p vars at n vs s).state ≡ bindings s
    entered_so (Some (type.Variable v)) n vs s = type_variable_same vars v s
    entered_so (Some (type.Applied c ns)) n vs s = refused_same (takes p c (length ns)) at s
    entered_so (Some type.Any) n vs s = refl
    entered_so None n vs s = refl

    left_so : (o : Option TypeExpression) (n : ℕ) (s : Inference) → bindings (left_type o n s) ≡ bindings s
    left_so (Some (type.Applied c ns)) n s = refl
    left_so (Some (type.Variable v)) n s = refl
    left_so (Some type.Any) n s = refl
    left_so None n s = refl

    visit_same : (v : Visit) (vs : List Visit) (s : Inference) → bindings (visited_one p vars at v vs s).state ≡ bindings s
    visit_same (visit.Enter n) vs s =
        elim (read_before s.read n)
        as (λ b. bindings (if b then reading vs s else entered_type (slice_get p.types n) p vars at n vs s).state ≡ bindings s) [
          | true ↦ refl
          | false ↦ entered_so (slice_get p.types n) n vs s
        ]
    visit_same (visit.Leave n) vs s = left_so (slice_get p.types n) n s

    visited_same : (steps : ℕ) (vs : List Visit) (s : Inference) → bindings (visited steps p vars at vs s) ≡ bindings s
    unfolding visited
    visited_same steps [] s = refl
    visited_same zero (v ∷ vs) s = refl
    visited_same (suc steps) (v ∷ vs) s =
        let r = visited_one p vars at v vs s in visited_same steps r.visits r.state ∙ visit_same v vs s

    pub written_same : (n : ℕ) (s : Inference) → bindings (written p n vars at s).state ≡ bindings s
    written_same n s = visited_same 18446744073709551615 (visit.Enter n ∷ []) s

    pub argument_same : (w : Option ℕ) (s : Inference) → bindings (declared_argument p w vars at s).state ≡ bindings s
    argument_same None s = refl
    argument_same (Some w) s = written_same w s

    field_so : (o : Option FieldRow) (s : Inference) → bindings (field_type_of o p vars at s).state ≡ bindings s
    field_so None s = refl
    field_so (Some row) s = written_same row.annotation s

    pub field_same : (n : ℕ) (s : Inference) → bindings (field_type p n vars at s).state ≡ bindings s
    field_same n s = field_so (slice_get p.field_rows n) s

  pub annotated_same : (at : Place) (t : ℕ) (w : Option ℕ) (s : Inference) → bindings (annotated_if p at t w s) ≡ bindings s
  annotated_same at t None s = refl
  annotated_same at t (Some w) s =
      let u = written p w variables.OfItem at s in equated_same at t u.found u.state ∙ written_same variables.OfItem at w s

  -- the types of constructors
  pub instance_same : (t : ℕ) (s : Inference) → bindings (instance p t s).state ≡ bindings s
  instance_same t s = variables_same (parameter_count p t) s

  variant_so : (o : Option VariantRow) (at : Place) (s : Inference) → bindings (constructed_variant_of o p at s).state ≡ bindings s
  variant_so None at s = refl
  variant_so (Some row) at s =
      let made = instance p row.of_type s in
      argument_same made.value.variables at row.argument made.state ∙ instance_same row.of_type s

  exception_so :
      (o : Option ExceptionRow) (at : Place) (s : Inference) → bindings (constructed_exception_of o p at s).state ≡ bindings s
  exception_so None at s = refl
  exception_so (Some row) at s = argument_same closed at row.argument s

  effect_so : (o : Option EffectRow) (at : Place) (s : Inference) → bindings (constructed_effect_of o p at s).state ≡ bindings s
  effect_so None at s = refl
  effect_so (Some row) at s =
      let a = declared_argument p row.argument closed at s in
      written_same closed at row.result a.state ∙ argument_same closed at row.argument s

  pub constructed_same : (con : Constructor) (at : Place) (s : Inference) → bindings (constructed p con at s).state ≡ bindings s
  unfolding constructed
  constructed_same (constructor.Variant n) at s = variant_so (slice_get p.variant_rows n) at s
  constructed_same (constructor.Exception n) at s = exception_so (slice_get p.exception_rows n) at s
  constructed_same (constructor.Effect n) at s = effect_so (slice_get p.effect_rows n) at s

  answer_so : (o : Option ℕ) (s : Inference) → bindings (answer_in o s).state ≡ bindings s
  answer_so None s = refl
  answer_so (Some t) s = refl

  pub answer_same : (t : ℕ) (s : Inference) → bindings (answer_of t s).state ≡ bindings s
  answer_same t s = answer_so (argument_of s.types.arguments (form_of s.types.nodes t) 0) s
