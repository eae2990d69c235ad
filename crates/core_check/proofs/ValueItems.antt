-- What the value of an item leaves to be done is all that its rules ask for.
use Rattle.std.proofs.Common.{◌≡◌, refl, sym, subst, ℕ, ◌+◌, true, List, [], ◌++◌, length, Option, arith, length-append}
use Rattle.effect_meaning.specs.Terms.{Place, Functions, Item}
use Rattle.effect_meaning.specs.Arena.{Parts}
use Rattle.effect_meaning.specs.ArenaTrees.{pattern_at, term_at, types_of, patterns_of, terms_of, functions_tree, item_tree}
use Rattle.effect_meaning.specs.Scoped.{Scope, is_new, are_new, pattern_scoped, term_scoped, function_names, functions_scoped, value_scoped, if_value, names_of_item}
use Rattle.effect_meaning.specs.declared.core_tables.ItemForm.{ItemForm}
use Rattle.effect_meaning.specs.declared.core_tables.ItemForm.TheVariants as item
use Rattle.core_check.specs.declared.known.Known.{Known}
use Rattle.core_check.specs.Walk.{at, Covers, HasReach, body_tasks, Fine}
use Rattle.core_check.specs.Items.{item_tasks, item_test}
use Rattle.core_check.proofs.Lists.{and_true}
use Rattle.core_check.proofs.Steps.{names_done, bodies_done, length_names}

module _ (p : Parts) (s : Scope) (end : List ℕ) (k : Known) (rs : List ℕ) (cover : Covers k s) (has : HasReach p rs) (place : Place) where
  -- the item that a form has
  abbrev I : ItemForm → Option Item
  I f = item_tree (types_of p) (patterns_of p) (terms_of p) place f

  -- what a form leaves to be done is all that the rules on its item ask for
  pub value_step : (f : ItemForm) (names : List ℕ)
      → item_test k rs f ≡ true
      → Fine p s end (item_tasks (length names) f []) names []
      → (if_value true (value_scoped (at s names)) (I f) ≡ true) × (end ≡ names_of_item (I f) ++ names)
  value_step (item.Types rows) names t h = (refl, sym h)
  value_step (item.Exception row) names t h = (refl, sym h)
  value_step (item.Effects extended rows) names t h = (refl, sym h)
  value_step (item.Define x a) names t h =
      (and_true {a = is_new (at s names) x} {b = term_scoped (at s names) (term_at (terms_of p) a)} h.1.0 h.0, sym h.1.1)
  value_step (item.Destructure q a) names t h = (
    and_true {a = pattern_scoped (at s names) (pattern_at (patterns_of p) q)} {b = term_scoped (at s names) (term_at (terms_of p) a)} h.1.0 h.0,
    sym h.1.1,
  )
  value_step (item.DefineRec fs) names t h =
      let F : Functions = functions_tree (types_of p) (terms_of p) fs in
      let N : List ℕ = function_names F in
      let r : (are_new (at s names) N ≡ true) × Fine p s end (body_tasks (length names + length fs) [] fs) (N ++ names) [] =
      names_done p s end fs (body_tasks (length names + length fs) [] fs) names [] h in
      let many : length names + length fs ≡ length (N ++ names) = omega (arith, length-append N names, length_names p s end fs) in
      let bodies : (functions_scoped (at s (N ++ names)) F ≡ true) × Fine p s end [] (N ++ names) [] =
      bodies_done p s end k rs cover has fs [] (N ++ names) [] t (subst (λ m. Fine p s end (body_tasks m [] fs) (N ++ names) []) many r.1) in
      (and_true {a = are_new (at s names) N} {b = functions_scoped (at s (N ++ names)) F} r.0 bodies.0, sym bodies.1)
  value_step (item.Evaluate a) names t h = (h.0, sym h.1)
