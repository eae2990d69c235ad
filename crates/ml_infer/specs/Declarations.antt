-- What is asked of declarations.
use Rattle.std.specs.Prelude.{ℕ, [], ◌∷◌, slice_get, Option, Some, None}
use Rattle.effect_meaning.specs.declared.core_tables.VariantRow.{VariantRow}
use Rattle.effect_meaning.specs.declared.core_tables.FieldRow.{FieldRow}
use Rattle.effect_meaning.specs.declared.core_tables.ExceptionRow.{ExceptionRow}
use Rattle.effect_meaning.specs.declared.core_tables.EffectRow.{EffectRow}
use Rattle.effect_meaning.specs.Arena.{Parts}
use Rattle.type_graph.specs.Graph.{form_of, is_of}
use Rattle.ml_infer.specs.declared.inference.Inference.{Inference}
use Rattle.ml_infer.specs.declared.tasks.Task.TheVariants as task
use Rattle.ml_infer.specs.declared.written.Variables.{Variables}
use Rattle.ml_infer.specs.Members.{first_of, next_of}
use Rattle.ml_infer.specs.Constructors.{closed, declared_argument, instance}
use Rattle.ml_infer.specs.Tasks.{first, first_one}
use Rattle.ml_infer.specs.Written.{written, refused_unless}

-- a type: its fields come first, and then its constructors
abbrev pub type_declared : Parts → ℕ → Inference → Inference
type_declared p t s =
    let made = instance p t s in
    let vars = made.value.variables in
    first (task.FieldDeclared (first_of made.state.fields t) vars ∷ task.VariantDeclared (first_of made.state.variants t) vars ∷ []) made.state

-- a field, and those behind it
abbrev pub field_row_declared : Option FieldRow → Parts → ℕ → Variables → Inference → Inference
field_row_declared None p n vars s = s
field_row_declared (Some row) p n vars s =
    let t = written p row.annotation vars row.place s in first_one (task.FieldDeclared (next_of t.state.fields n) vars) t.state

abbrev pub field_declared : Parts → Option ℕ → Variables → Inference → Inference
field_declared p None vars s = s
field_declared p (Some n) vars s = field_row_declared (slice_get p.field_rows n) p n vars s

-- a constructor, and those behind it
abbrev pub variant_row_declared : Option VariantRow → Parts → ℕ → Variables → Inference → Inference
variant_row_declared None p n vars s = s
variant_row_declared (Some row) p n vars s =
    let a = declared_argument p row.argument vars row.place s in first_one (task.VariantDeclared (next_of a.state.variants n) vars) a.state

abbrev pub variant_declared : Parts → Option ℕ → Variables → Inference → Inference
variant_declared p None vars s = s
variant_declared p (Some n) vars s = variant_row_declared (slice_get p.variant_rows n) p n vars s

-- an exception
abbrev pub exception_row_declared : Option ExceptionRow → Parts → Inference → Inference
exception_row_declared None p s = s
exception_row_declared (Some row) p s = (declared_argument p row.argument closed row.place s).state

abbrev pub exception_declared : Parts → ℕ → Inference → Inference
exception_declared p n s = exception_row_declared (slice_get p.exception_rows n) p s

-- an effect, whose type is one of Effect.t
abbrev pub effect_row_declared : Option EffectRow → Parts → Inference → Inference
effect_row_declared None p s = s
effect_row_declared (Some row) p s =
    let a = declared_argument p row.argument closed row.place s in
    let t = written p row.result closed row.place a.state in
    refused_unless (is_of (form_of t.state.types.nodes t.found) 10 1) row.place t.state

abbrev pub effect_declared : Parts → ℕ → Inference → Inference
effect_declared p n s = effect_row_declared (slice_get p.effect_rows n) p s
