-- What is kept where the types of constructors and fields are made.
use Rattle.std.proofs.Common.{◌≡◌, ℕ, zero, suc, ◌+◌, ◌≤◌, ◌<◌, List, length, Option, Some, None, false, ◌∙◌, arith, length-append, slice_get}
use Rattle.fx_base.specs.declared.refusal.Place.{Place}
use Rattle.effect_meaning.specs.declared.core_nodes.Constructor.{Constructor}
use Rattle.effect_meaning.specs.declared.core_nodes.Constructor.TheVariants as constructor
use Rattle.effect_meaning.specs.declared.core_tables.VariantRow.{VariantRow}
use Rattle.effect_meaning.specs.declared.core_tables.FieldRow.{FieldRow}
use Rattle.effect_meaning.specs.declared.core_tables.ExceptionRow.{ExceptionRow}
use Rattle.effect_meaning.specs.declared.core_tables.EffectRow.{EffectRow}
use Rattle.effect_meaning.specs.Arena.{Parts}
use Rattle.type_graph.specs.declared.form.Form.{Form}
use Rattle.type_graph.specs.declared.form.Form.TheVariants.{Variable, Link, Applied}
use Rattle.type_graph.specs.Graph.{Graph, applied, argument_of, form_of}
use Rattle.type_readings.specs.WellFormed.{IsWellFormed}
use Rattle.ml_infer.specs.declared.constructors.Constructed.{Constructed}
use Rattle.ml_infer.specs.declared.constructors.Instance.{Instance}
use Rattle.ml_infer.specs.declared.inference.Inference.{Inference}
use Rattle.ml_infer.specs.declared.written.Variables.{Variables}
use Rattle.ml_infer.specs.Constructors.{answer_in, answer_of, closed, constructed, constructed_effect_of, constructed_exception_of, constructed_unknown, constructed_variant_of, declared_argument, field_type, field_type_of, first_or_zero, instance, new_variables, parameter_count}
use Rattle.ml_infer.specs.Inference.{With, new_variable}
use Rattle.ml_infer.specs.Written.{written}
use Rattle.inference_laws.specs.Whole.{IfKnown}
use Rattle.inference_laws.proofs.Each.{each_of_part, if_known_so, one_of_each}
use Rattle.inference_laws.proofs.Kept.{Kept, Roomy, Has, HasAll, kept_here, has_later, roomy_later}
use Rattle.inference_laws.proofs.GraphLaws.{GraphLaws}
use Rattle.inference_laws.proofs.Steps.{inner_made, type_is, variable_is, variable_made}
use Rattle.inference_laws.proofs.Written.{Gave, HasVariables, written_kept}

-- a number is one of a type, if it is there
abbrev pub HasIf : Inference → Option ℕ → Type 0
HasIf s o = Roomy s (λ types. IfKnown (λ n. n < types) o)

pub has_if_later : (s0 s : Inference) (o : Option ℕ) → Kept s0 s → HasIf s0 o → HasIf s o
has_if_later s0 s o k h =
    roomy_later (λ types. IfKnown (λ n. n < types) o)
    (λ a b le there. if_known_so (λ n. n < a) (λ n. n < b) (λ n lt. omega arith) o there) s0 s k h

-- the built-in types are there
pub has_built_in : (s0 s : Inference) (n : ℕ) → Kept s0 s → n < 6 → Has s n
has_built_in s0 s n kept low room = let first = (kept.whole room).types.built_in in omega arith

-- so many new variables
pub record VariablesMade (s0 s : Inference) (count : ℕ) (r : With (List ℕ)) : Type 0 where
  pub kept : Kept s0 r.state
  pub there : HasAll r.state r.value
  pub more : length r.state.types.nodes ≡ length s.types.nodes + count
  pub first_is : first_or_zero r.value + count ≤ length r.state.types.nodes

module _ (l : GraphLaws) where
  pub variables_made : (count : ℕ) (s0 s : Inference) → Kept s0 s → VariablesMade s0 s count (new_variables count s)
  unfolding new_variables
  variables_made zero s0 s kept = record { kept = kept; there = λ room. tt; more = omega arith; first_is = omega arith }
  variables_made (suc count) s0 s kept =
      let v = new_variable s in
      let long : length v.state.types.nodes ≡ suc (length s.types.nodes) = length-append s.types.nodes _ ∙ omega arith in
      let others = variables_made count s0 v.state (variable_made l s0 s kept) in
      let here = variables_made count v.state v.state (kept_here s0 v.state (variable_made l s0 s kept)) in
      let total = others.more in
      record {
        kept = others.kept;
        there =
            λ room. (
              has_later v.state (new_variables count v.state).state v.found here.kept
                  (variable_is l s0 s) room,
              others.there room,
            );
        more = omega arith;
        first_is = omega arith;
      }

  -- a type with new types for its parameters
  pub record InstanceMade (s0 : Inference) (r : With Instance) : Type 0 where
    pub kept : Kept s0 r.state
    pub variables : HasVariables r.state r.value.variables
    pub value : Has r.state r.value.value

  pub instance_made : (p : Parts) (t : ℕ) (s0 s : Inference) → Kept s0 s → InstanceMade s0 (instance p t s)
  instance_made p t s0 s kept =
      let count = parameter_count p t in
      let r = new_variables count s in
      let k = variables_made count s0 s kept in
      let long : length (applied t r.value false r.state.types).nodes ≡ suc (length r.state.types.nodes) =
      length-append r.state.types.nodes _ ∙ omega arith in
      record {
        kept = inner_made l s0 r.state t r.value k.kept k.there;
        variables = λ room. let first = k.first_is in omega arith;
        value = type_is l s0 r.state t r.value false;
      }

  -- the argument of a declaration
  module _ (p : Parts) (vars : Variables) (at : Place) (s0 s : Inference) (kept : Kept s0 s) (there : HasVariables s vars) where
    pub argument_made :
        (o : Option ℕ) → Kept s0 (declared_argument p o vars at s).state × HasIf (declared_argument p o vars at s).state
        (declared_argument p o vars at s).value
    argument_made None = (kept, λ room. tt)
    argument_made (Some w) = written_kept l p vars at s0 s w kept there

    field_so : (o : Option FieldRow) → Gave s0 (field_type_of o p vars at s)
    field_so None = (variable_made l s0 s kept, variable_is l s0 s)
    field_so (Some row) = written_kept l p vars at s0 s row.annotation kept there

    -- the type of a field
    pub field_made : (n : ℕ) → Gave s0 (field_type p n vars at s)
    field_made n = field_so (slice_get p.field_rows n)

  -- a use of a constructor
  pub record ConstructedMade (s0 : Inference) (r : With Constructed) : Type 0 where
    pub kept : Kept s0 r.state
    pub argument : HasIf r.state r.value.argument
    pub value : Has r.state r.value.value

  module _ (p : Parts) (at : Place) (s0 s : Inference) (kept : Kept s0 s) where
    unknown_made : ConstructedMade s0 (constructed_unknown s)
    unknown_made = record { kept = variable_made l s0 s kept; argument = λ room. tt; value = variable_is l s0 s }

    variant_made : (o : Option VariantRow) → ConstructedMade s0 (constructed_variant_of o p at s)
    variant_made None = unknown_made
    variant_made (Some row) =
        let made = instance p row.of_type s in
        let k = instance_made p row.of_type s0 s kept in
        let a = argument_made p made.value.variables at s0 made.state k.kept k.variables row.argument in
        let here = argument_made p made.value.variables at made.state made.state
        (kept_here s0 made.state k.kept) k.variables row.argument in
        let behind = (declared_argument p row.argument made.value.variables at made.state).state in
        record { kept = a.0; argument = a.1; value = has_later made.state behind made.value.value here.0 k.value }

    exception_made : (o : Option ExceptionRow) → ConstructedMade s0 (constructed_exception_of o p at s)
    exception_made None = unknown_made
    exception_made (Some row) =
        let a = argument_made p closed at s0 s kept (λ room. omega arith) row.argument in
        record {
          kept = a.0;
          argument = a.1;
          value = has_built_in s0 (declared_argument p row.argument closed at s).state 5 a.0 (omega arith);
        }

    effect_made : (o : Option EffectRow) → ConstructedMade s0 (constructed_effect_of o p at s)
    effect_made None = unknown_made
    effect_made (Some row) =
        let a = argument_made p closed at s0 s kept (λ room. omega arith) row.argument in
        let arg = declared_argument p row.argument closed at s in
        let t = written_kept l p closed at s0 arg.state row.result a.0 (λ room. omega arith) in
        let here = written_kept l p closed at arg.state arg.state row.result (kept_here s0 arg.state a.0) (λ room. omega arith) in
        record {
          kept = t.0;
          argument = has_if_later arg.state (written p row.result closed at arg.state).state arg.value here.0 a.1;
          value = t.1;
        }

    pub constructed_made : (con : Constructor) → ConstructedMade s0 (constructed p con at s)
    unfolding constructed
    constructed_made (constructor.Variant n) = variant_made (slice_get p.variant_rows n)
    constructed_made (constructor.Exception n) = exception_made (slice_get p.exception_rows n)
    constructed_made (constructor.Effect n) = effect_made (slice_get p.effect_rows n)

  -- an argument of a form is a type
  argument_is :
      (g : Graph) → IsWellFormed g → (f : Form) (place : ℕ) → IfKnown (λ m. m < length g.nodes) (argument_of g.arguments f place)
  argument_is g well Variable place = tt
  argument_is g well (Link m) place = tt
  argument_is g well (Applied c first count) place =
      one_of_each (λ m. m < length g.nodes) _ place (each_of_part (λ m. m < length g.nodes) g.arguments first count well.numbers)

  pub argument_there : (s0 s : Inference) (f : Form) (place : ℕ) → Kept s0 s → HasIf s (argument_of s.types.arguments f place)
  argument_there s0 s f place kept room = argument_is s.types (kept.whole room).types.well f place

  -- the type of the value that an effect gives
  module _ (s0 s : Inference) (kept : Kept s0 s) where
    answer_so : (o : Option ℕ) → HasIf s o → Gave s0 (answer_in o s)
    answer_so None there = (variable_made l s0 s kept, variable_is l s0 s)
    answer_so (Some t) there = (kept, there)

    pub answer_made : (t : ℕ) → Gave s0 (answer_of t s)
    answer_made t =
        let f = form_of s.types.nodes t in answer_so (argument_of s.types.arguments f 0) (argument_there s0 s f 0 kept)
