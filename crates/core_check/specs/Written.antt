-- The numbers of written types: those above the types and above the type variables that they name.
use Rattle.std.specs.Prelude.{◌≡◌, ℕ, ◌+◌, max, List, [], ◌∷◌, ◌++◌, slice_index_or}
use Rattle.effect_meaning.specs.Terms.{Written, Variable, Any, Applied, Writtens, NoTypes, AndType}
use Rattle.effect_meaning.specs.Arena.{Parts}
use Rattle.effect_meaning.specs.ArenaTrees.{type_at, types_of}
use Rattle.effect_meaning.specs.declared.core_nodes.TypeExpression.{TypeExpression}
use Rattle.effect_meaning.specs.declared.core_nodes.TypeExpression.TheVariants as type

-- a number above those of the type variables of a written type, which is above 4294967296 where it has a blank
abbrev mutual
  pub bound : Written → ℕ
  bound (Variable v) = v + 1
  bound Any = 4294967297
  bound (Applied t ws) = bound_all 0 ws

  pub bound_all : ℕ → Writtens → ℕ
  bound_all m NoTypes = m
  bound_all m (AndType w ws) = bound_all (max m (bound w)) ws

-- the greatest of a number and of those of parts, with another one for parts that are not there
abbrev pub greatest : List ℕ → ℕ → ℕ → List ℕ → ℕ
greatest table d m [] = m
greatest table d m (i ∷ is) = greatest table d (max m (slice_index_or table i d)) is

abbrev pub reach_by : List ℕ → TypeExpression → ℕ
reach_by table (type.Variable v) = 0
reach_by table type.Any = 0
reach_by table (type.Applied t is) = greatest table 0 (t + 1) is

abbrev pub bound_by : List ℕ → TypeExpression → ℕ
bound_by table (type.Variable v) = v + 1
bound_by table type.Any = 4294967297
bound_by table (type.Applied t is) = greatest table 4294967297 0 is

-- the numbers of the types behind others
abbrev pub reach_table : List ℕ → List TypeExpression → List ℕ
reach_table table [] = table
reach_table table (t ∷ ts) = reach_table (table ++ reach_by table t ∷ []) ts

abbrev pub bound_table : List ℕ → List TypeExpression → List ℕ
bound_table table [] = table
bound_table table (t ∷ ts) = bound_table (table ++ bound_by table t ∷ []) ts

-- the list has the bound of each type of an arena
abbrev pub HasBound : Parts → List ℕ → Type 0
HasBound p table = (t : ℕ) → slice_index_or table t 4294967297 ≡ bound (type_at (types_of p) t)
