-- The tables of written types.
use Rattle.std.proofs.Common.{◌≡◌, refl, sym, ap, ◌∙◌, ℕ, ◌+◌, ◌<◌, ◌≤◌, max, true, List, [], ◌∷◌, ◌++◌, map, slice_index_or, arith}
use Rattle.std.proofs.lemmas.List.{map-append}
use Rattle.std.proofs.Math.ListN.{get_or-map}
use Rattle.effect_meaning.specs.Terms.{Written, Variable, Any, Applied, Writtens, NoTypes, AndType}
use Rattle.effect_meaning.specs.Arena.{Parts}
use Rattle.effect_meaning.specs.ArenaTrees.{trees, type_at, types_at, type_tree, types_of}
use Rattle.effect_meaning.specs.Scoped.{is_closed, all_closed}
use Rattle.effect_meaning.specs.declared.core_nodes.TypeExpression.{TypeExpression}
use Rattle.effect_meaning.specs.declared.core_nodes.TypeExpression.TheVariants as type
use Rattle.core_check.specs.Walk.{reach, reach_all, HasReach}
use Rattle.core_check.specs.Written.{bound, bound_all, greatest, reach_by, bound_by, reach_table, bound_table, HasBound}
use Rattle.core_check.proofs.Lists.{and_true}

reach_parts : (ws : List Written) (m : ℕ) (is : List ℕ) → greatest (map reach ws) 0 m is ≡ reach_all m (types_at ws is)
reach_parts ws m [] = refl
reach_parts ws m (i ∷ is) =
    ap (λ n. greatest (map reach ws) 0 (max m n) is) (get_or-map reach ws i Any) ∙ reach_parts ws (max m (reach (type_at ws i))) is

reach_node : (ws : List Written) (t : TypeExpression) → reach_by (map reach ws) t ≡ reach (type_tree ws t)
reach_node ws (type.Variable v) = refl
reach_node ws type.Any = refl
reach_node ws (type.Applied t is) = reach_parts ws (t + 1) is

reach_trees : (ws : List Written) (ts : List TypeExpression) → reach_table (map reach ws) ts ≡ map reach (trees type_tree ws ts)
reach_trees ws [] = refl
reach_trees ws (t ∷ ts) =
    ap (λ n. reach_table (map reach ws ++ n ∷ []) ts) (reach_node ws t)
    ∙ ap (λ l. reach_table l ts) (sym (map-append reach ws (type_tree ws t ∷ [])))
    ∙ reach_trees (ws ++ type_tree ws t ∷ []) ts

-- the table has the reach of each type
pub has_reach : (p : Parts) (table : List ℕ) → table ≡ reach_table [] p.types → HasReach p table
has_reach p table is t =
    ap (λ l. slice_index_or l t 0) (is ∙ reach_trees [] p.types) ∙ get_or-map reach (types_of p) t Any

bound_parts : (ws : List Written) (m : ℕ) (is : List ℕ) → greatest (map bound ws) 4294967297 m is ≡ bound_all m (types_at ws is)
bound_parts ws m [] = refl
bound_parts ws m (i ∷ is) =
    ap (λ n. greatest (map bound ws) 4294967297 (max m n) is) (get_or-map bound ws i Any) ∙ bound_parts ws (max m (bound (type_at ws i))) is

bound_node : (ws : List Written) (t : TypeExpression) → bound_by (map bound ws) t ≡ bound (type_tree ws t)
bound_node ws (type.Variable v) = refl
bound_node ws type.Any = refl
bound_node ws (type.Applied t is) = bound_parts ws 0 is

bound_trees : (ws : List Written) (ts : List TypeExpression) → bound_table (map bound ws) ts ≡ map bound (trees type_tree ws ts)
bound_trees ws [] = refl
bound_trees ws (t ∷ ts) =
    ap (λ n. bound_table (map bound ws ++ n ∷ []) ts) (bound_node ws t)
    ∙ ap (λ l. bound_table l ts) (sym (map-append bound ws (type_tree ws t ∷ [])))
    ∙ bound_trees (ws ++ type_tree ws t ∷ []) ts

-- the table has the bound of each type
pub has_bound : (p : Parts) (table : List ℕ) → table ≡ bound_table [] p.types → HasBound p table
has_bound p table is t =
    ap (λ l. slice_index_or l t 4294967297) (is ∙ bound_trees [] p.types) ∙ get_or-map bound (types_of p) t Any

bound_from : (m : ℕ) (ws : Writtens) → m ≤ bound_all m ws
bound_from m NoTypes = omega arith
bound_from m (AndType w ws) = let rest : max m (bound w) ≤ bound_all (max m (bound w)) ws = bound_from (max m (bound w)) ws in omega arith

-- a written type whose bound is low has no blank, and no type variable from a number on
mutual
  pub closed_below : (n : ℕ) (w : Written) → bound w ≤ n → bound w < 4294967297 → is_closed n w ≡ true
  closed_below n (Variable v) h g = grind arith
  closed_below n Any h g = absurd (omega arith)
  closed_below n (Applied t ws) h g = all_closed_below n 0 ws h g

  all_closed_below : (n m : ℕ) (ws : Writtens) → bound_all m ws ≤ n → bound_all m ws < 4294967297 → all_closed n ws ≡ true
  all_closed_below n m NoTypes h g = refl
  all_closed_below n m (AndType w ws) h g =
      let least : max m (bound w) ≤ bound_all (max m (bound w)) ws = bound_from (max m (bound w)) ws in
      let low : bound w ≤ n = omega arith in
      let small : bound w < 4294967297 = omega arith in
      and_true {a = is_closed n w} {b = all_closed n ws} (closed_below n w low small) (all_closed_below n (max m (bound w)) ws h g)
