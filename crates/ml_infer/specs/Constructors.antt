-- The types of constructors and fields.
use Rattle.std.specs.Prelude.{ℕ, zero, suc, Bool, false, ◌==◌, List, [], ◌∷◌, length, slice_get, Option, Some, None}
use Rattle.fx_base.specs.declared.refusal.Place.{Place}
use Rattle.effect_meaning.specs.declared.core_nodes.Constant.{Constant}
use Rattle.effect_meaning.specs.declared.core_nodes.Constant.TheVariants as constant
use Rattle.effect_meaning.specs.declared.core_nodes.Constructor.{Constructor}
use Rattle.effect_meaning.specs.declared.core_nodes.Constructor.TheVariants as constructor
use Rattle.effect_meaning.specs.declared.core_tables.VariantRow.{VariantRow}
use Rattle.effect_meaning.specs.declared.core_tables.FieldRow.{FieldRow}
use Rattle.effect_meaning.specs.declared.core_tables.ExceptionRow.{ExceptionRow}
use Rattle.effect_meaning.specs.declared.core_tables.EffectRow.{EffectRow}
use Rattle.effect_meaning.specs.Arena.{Parts}
use Rattle.type_graph.specs.Graph.{applied, form_of, argument_of}
use Rattle.ml_infer.specs.declared.inference.Inference.{Inference}
use Rattle.ml_infer.specs.declared.constructors.Constructed.{Constructed}
use Rattle.ml_infer.specs.declared.constructors.Instance.{Instance}
use Rattle.ml_infer.specs.declared.written.Variables.{Variables}
use Rattle.ml_infer.specs.declared.written.Variables.TheVariants as variables
use Rattle.ml_infer.specs.Inference.{With, valued, Gives, gives, new_variable}
use Rattle.ml_infer.specs.Written.{written}

-- the row of the type of a constant
abbrev pub constant_row : Constant → ℕ
constant_row (constant.Integer n) = 0
constant_row (constant.Character n) = 2
constant_row (constant.Boolean b) = 1
constant_row constant.Unit = 4
constant_row (constant.Literal n) = 3

-- Effect.Unhandled, by its number among the exceptions
abbrev pub unhandled : Constructor → Bool
unhandled (constructor.Exception n) = n == 6
unhandled _ = false

-- how many parameters a type has
abbrev pub parameter_count : Parts → ℕ → ℕ
parameter_count p t = elim (slice_get p.type_rows t) [ None ↦ 0 | Some row ↦ length row.parameters ]

-- the record type of a field
abbrev pub field_owner : Parts → ℕ → Option ℕ
field_owner p n = elim (slice_get p.field_rows n) [ None ↦ None | Some row ↦ Some row.of_type ]

-- a field is one of this record type
abbrev pub is_owner : Parts → (t n : ℕ) → Bool
is_owner p t n = elim (field_owner p n) [ None ↦ false | Some owner ↦ owner == t ]

-- one more type before others
abbrev pub with_first : ℕ → With (List ℕ) → With (List ℕ)
with_first t r = valued (t ∷ r.value) r.state

-- so many new types, of which nothing is known
unfoldable pub new_variables : (count : ℕ) → Inference → With (List ℕ)
new_variables zero s = valued [] s
new_variables (suc count) s = let v = new_variable s in with_first v.found (new_variables count v.state)

abbrev pub first_or_zero : List ℕ → ℕ
first_or_zero [] = 0
first_or_zero (n ∷ ns) = n

-- new types for the parameters of a type, and the type with these
abbrev pub instanced : (t count : ℕ) → With (List ℕ) → With Instance
instanced t count r =
    valued (record { variables = variables.Parameters (first_or_zero r.value) count; value = length r.state.types.nodes })
    (record r.state { types = applied t r.value false r.state.types })

abbrev pub instance : Parts → ℕ → Inference → With Instance
instance p t s = let count = parameter_count p t in instanced t count (new_variables count s)

-- the type of an argument, if there is one
abbrev pub declared_argument : Parts → Option ℕ → Variables → Place → Inference → With (Option ℕ)
declared_argument p None vars at s = valued None s
declared_argument p (Some w) vars at s = let t = written p w vars at s in valued (Some t.found) t.state

-- a constructor without row; an arena has them all
abbrev pub constructed_unknown : Inference → With Constructed
constructed_unknown s = let t = new_variable s in valued (record { argument = None; value = t.found }) t.state

-- a type without parameters
abbrev pub closed : Variables
closed = variables.Parameters 0 0

-- a constructor of a variant: new types for the parameters of its type, and its argument with these
abbrev pub constructed_variant_of : Option VariantRow → Parts → Place → Inference → With Constructed
constructed_variant_of None p at s = constructed_unknown s
constructed_variant_of (Some row) p at s =
    let made = instance p row.of_type s in
    let a = declared_argument p row.argument made.value.variables at made.state in
    valued (record { argument = a.value; value = made.value.value }) a.state

abbrev pub constructed_variant : Parts → ℕ → Place → Inference → With Constructed
constructed_variant p n at s = constructed_variant_of (slice_get p.variant_rows n) p at s

-- an exception
abbrev pub constructed_exception_of : Option ExceptionRow → Parts → Place → Inference → With Constructed
constructed_exception_of None p at s = constructed_unknown s
constructed_exception_of (Some row) p at s =
    let a = declared_argument p row.argument closed at s in valued (record { argument = a.value; value = 5 }) a.state

abbrev pub constructed_exception : Parts → ℕ → Place → Inference → With Constructed
constructed_exception p n at s = constructed_exception_of (slice_get p.exception_rows n) p at s

-- an effect
abbrev pub constructed_effect_of : Option EffectRow → Parts → Place → Inference → With Constructed
constructed_effect_of None p at s = constructed_unknown s
constructed_effect_of (Some row) p at s =
    let a = declared_argument p row.argument closed at s in
    let t = written p row.result closed at a.state in
    valued (record { argument = a.value; value = t.found }) t.state

abbrev pub constructed_effect : Parts → ℕ → Place → Inference → With Constructed
constructed_effect p n at s = constructed_effect_of (slice_get p.effect_rows n) p at s

-- the types of a use of a constructor
unfoldable pub constructed : Parts → Constructor → Place → Inference → With Constructed
constructed p (constructor.Variant n) at s = constructed_variant p n at s
constructed p (constructor.Exception n) at s = constructed_exception p n at s
constructed p (constructor.Effect n) at s = constructed_effect p n at s

-- the type of the value that an effect gives
abbrev pub answer_in : Option ℕ → Inference → Gives
answer_in None s = new_variable s
answer_in (Some t) s = gives t s

abbrev pub answer_of : ℕ → Inference → Gives
answer_of t s = answer_in (argument_of s.types.arguments (form_of s.types.nodes t) 0) s

-- the type of a field where the parameters of its record type stand for these
abbrev pub field_type_of : Option FieldRow → Parts → Variables → Place → Inference → Gives
field_type_of None p vars at s = new_variable s
field_type_of (Some row) p vars at s = written p row.annotation vars at s

abbrev pub field_type : Parts → ℕ → Variables → Place → Inference → Gives
field_type p n vars at s = field_type_of (slice_get p.field_rows n) p vars at s
