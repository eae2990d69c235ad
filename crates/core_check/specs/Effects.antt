-- The test of the types of effects, by the table of their bounds.
use Rattle.std.specs.Prelude.{ℕ, Bool, true, false, ◌&&◌, ◌==◌, nat_lt, nat_le, List, [], ◌∷◌, length, slice_index_or, Option, Some, None}
use Rattle.effect_meaning.specs.declared.core_nodes.TypeExpression.{TypeExpression}
use Rattle.effect_meaning.specs.declared.core_nodes.TypeExpression.TheVariants as type
use Rattle.effect_meaning.specs.declared.core_tables.EffectRow.{EffectRow}

-- a written type has no blank and only the type variables below a number
abbrev pub is_closed_by : List ℕ → ℕ → ℕ → Bool
is_closed_by table n t = nat_le (slice_index_or table t 4294967297) n && nat_lt (slice_index_or table t 4294967297) 4294967297

abbrev pub is_any_closed_by : List ℕ → ℕ → Option ℕ → Bool
is_any_closed_by table n None = true
is_any_closed_by table n (Some t) = is_closed_by table n t

-- a type name applied to one type
abbrev pub is_one : TypeExpression → Bool
is_one (type.Variable v) = false
is_one type.Any = false
is_one (type.Applied t is) = length is == 1

abbrev pub effect_by : List TypeExpression → List ℕ → EffectRow → Bool
effect_by types table r =
    (is_one (slice_index_or types r.result type.Any) && is_closed_by table 0 r.result) && is_any_closed_by table 0 r.argument

abbrev pub effects_by : List TypeExpression → List ℕ → List EffectRow → Bool
effects_by types table [] = true
effects_by types table (r ∷ rs) = effect_by types table r && effects_by types table rs
