-- The test of the types of effects is the rule on them.
use Rattle.std.proofs.Common.{◌≡◌, refl, ap, ◌∙◌, subst, ℕ, suc, ◌<◌, ◌≤◌, true, ◌&&◌, List, [], ◌∷◌, length, slice_index_or, Option, Some, None, arith}
use Rattle.std.specs.List.{list_all}
use Rattle.effect_meaning.specs.Terms.{Written}
use Rattle.effect_meaning.specs.Arena.{Parts, counts, IsArena, EachStands, EffectStands}
use Rattle.effect_meaning.specs.ArenaTrees.{type_at, types_of, type_tree}
use Rattle.effect_meaning.specs.Scoped.{is_closed, is_application, argument_closed, effect_typed, effects_typed}
use Rattle.effect_meaning.specs.declared.core_nodes.TypeExpression.{TypeExpression}
use Rattle.effect_meaning.specs.declared.core_nodes.TypeExpression.TheVariants as type
use Rattle.effect_meaning.specs.declared.core_tables.EffectRow.{EffectRow}
use Rattle.effect_meaning.proofs.NodeTrees.{type_at_node}
use Rattle.core_check.specs.Written.{bound, HasBound}
use Rattle.core_check.specs.Effects.{is_closed_by, is_any_closed_by, is_one, effect_by, effects_by}
use Rattle.core_check.proofs.Lists.{and_true}
use Rattle.core_check.proofs.Writtens.{closed_below}

module _ (p : Parts) (table : List ℕ) (has : HasBound p table) where
  pub closed_by : (n t : ℕ) → is_closed_by table n t ≡ true → is_closed n (type_at (types_of p) t) ≡ true
  closed_by n t h =
      let is : slice_index_or table t 4294967297 ≡ bound (type_at (types_of p) t) = has t in
      let low : slice_index_or table t 4294967297 ≤ n = grind arith in
      let small : slice_index_or table t 4294967297 < 4294967297 = grind arith in
      closed_below n (type_at (types_of p) t) (subst (λ m. m ≤ n) is low) (subst (λ m. m < 4294967297) is small)

  argument_by : (t : Option ℕ) → is_any_closed_by table 0 t ≡ true → argument_closed (types_of p) t ≡ true
  argument_by None h = refl
  argument_by (Some t) h = closed_by 0 t h

  one_applied : (ws : List Written) (t : TypeExpression) → is_one t ≡ true → is_application (type_tree ws t) ≡ true
  one_applied ws (type.Variable v) h = grind arith
  one_applied ws type.Any h = grind arith
  one_applied ws (type.Applied t []) h = grind arith
  one_applied ws (type.Applied t (i ∷ [])) h = refl
  one_applied ws (type.Applied t (i ∷ j ∷ is)) h = grind arith

  effect_holds : IsArena p → (r : EffectRow) → r.result < length p.types → effect_by p.types table r ≡ true → effect_typed (types_of p) r ≡ true
  effect_holds arena r inside h =
      let one : is_one (slice_index_or p.types r.result type.Any) ≡ true = grind arith in
      let closed : is_closed_by table 0 r.result ≡ true = grind arith in
      let argument : is_any_closed_by table 0 r.argument ≡ true = grind arith in
      let applied : is_application (type_at (types_of p) r.result) ≡ true =
      ap is_application (type_at_node p r.result type.Any arena inside) ∙ one_applied (types_of p) (slice_index_or p.types r.result type.Any) one in
      and_true {a = is_application (type_at (types_of p) r.result) && is_closed 0 (type_at (types_of p) r.result)}
      {b = argument_closed (types_of p) r.argument}
      (and_true {a = is_application (type_at (types_of p) r.result)} {b = is_closed 0 (type_at (types_of p) r.result)} applied (closed_by 0 r.result closed))
      (argument_by r.argument argument)

  rows_hold : IsArena p → (k : ℕ) (rs : List EffectRow) → EachStands EffectStands (λ i. counts p) k rs → effects_by p.types table rs ≡ true
      → list_all (effect_typed (types_of p)) rs ≡ true
  rows_hold arena k [] stand h = refl
  rows_hold arena k (r ∷ rs) stand h =
      let here : effect_by p.types table r ≡ true = grind arith in
      let others : effects_by p.types table rs ≡ true = grind arith in
      and_true {a = effect_typed (types_of p) r} {b = list_all (effect_typed (types_of p)) rs}
      (effect_holds arena r stand.0.0 here) (rows_hold arena (suc k) rs stand.1 others)

-- effects that pass the test keep the rule on their types
pub effects_hold : (p : Parts) (table : List ℕ) → IsArena p → effects_by p.types table p.effect_rows ≡ true → HasBound p table → effects_typed p ≡ true
effects_hold p table arena h has = rows_hold p table has arena 0 p.effect_rows arena.effect_rows h
