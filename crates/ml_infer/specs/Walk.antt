-- The walk over what is still to be done.
use Rattle.std.specs.Prelude.{ℕ, zero, suc, List, [], ◌∷◌, Option, Some, None}
use Rattle.effect_meaning.specs.Arena.{Parts}
use Rattle.ml_infer.specs.declared.inference.Inference.{Inference}
use Rattle.ml_infer.specs.declared.inference.End.{End}
use Rattle.ml_infer.specs.declared.inference.End.TheVariants as ends
use Rattle.ml_infer.specs.declared.tasks.Task.{Task}
use Rattle.ml_infer.specs.declared.tasks.Task.TheVariants as task
use Rattle.ml_infer.specs.Inference.{equated, given_back, of_one_type, pattern_place, taken, term_place, variable_was}
use Rattle.ml_infer.specs.Tasks.{first}
use Rattle.ml_infer.specs.Declarations.{effect_declared, field_declared, type_declared, variant_declared}
use Rattle.ml_infer.specs.Patterns.{alias, clause, clauses, field_pattern, pattern}
use Rattle.ml_infer.specs.Handlers.{effect_clause, no_clause, resumption}
use Rattle.ml_infer.specs.Terms.{agreed, annotated, application, end_function, field_is, function_begun, is_mutable, lambda, term}

-- tasks of clauses, groups of functions and handlers
unfoldable pub acted_in_group : Task → Parts → Inference → Inference
acted_in_group (task.Clauses n t) p s = clauses p n t s
acted_in_group (task.Clause q guard body u t) p s = clause q guard body u t s
acted_in_group (task.Function f) p s = function_begun f s
acted_in_group (task.EndFunction f a) p s = end_function p f a s
acted_in_group (task.NoClause at h) p s = no_clause p at h s
acted_in_group (task.EffectClause h c) p s = effect_clause p h c s
acted_in_group (task.Resumption h c answer) p s = resumption p h c answer s
acted_in_group (task.VariableWas v k) p s = variable_was v k s
acted_in_group _ p s = s

-- tasks of functions, fields and declarations
unfoldable pub acted_on_data : Task → Parts → Inference → Inference
acted_on_data (task.Alias at x) p s = alias at x s
acted_on_data (task.Lambda a) p s = lambda a s
acted_on_data (task.Apply at here) p s = application at here s
acted_on_data (task.FieldIs at f vars) p s = field_is p at f vars s
acted_on_data (task.FieldPatternIs at t f vars) p s = field_pattern p at t f vars s
acted_on_data (task.IsMutable at field) p s = is_mutable p at field s
acted_on_data (task.TypeDeclared t) p s = type_declared p t s
acted_on_data (task.FieldDeclared field vars) p s = field_declared p field vars s
acted_on_data (task.VariantDeclared variant vars) p s = variant_declared p variant vars s
acted_on_data (task.EffectDeclared n) p s = effect_declared p n s
acted_on_data t p s = acted_in_group t p s

-- a task is done
unfoldable pub acted : Task → Parts → Inference → Inference
acted (task.Term n) p s = term p n s
acted (task.TermIs n t) p s = first (task.Term n ∷ task.Is (term_place p n s) t ∷ []) s
acted (task.Pattern q) p s = pattern p q s
acted (task.PatternIs q t) p s = first (task.Pattern q ∷ task.Is (pattern_place p q s) t ∷ []) s
acted (task.Give t) p s = given_back t s
acted (task.Is at t) p s = let u = taken s in equated at u.found t u.state
acted task.Forget p s = (taken s).state
acted (task.Agree at) p s = agreed at s
acted (task.Annotated at w) p s = annotated p at w s
acted (task.Name x) p s = let t = taken s in of_one_type x t.found t.state
acted t p s = acted_on_data t p s

-- the next task, if there is one, and the state without it
pub record Next : Type 0 where
  pub task : Option Task
  pub state : Inference

abbrev pub next : Option Task → Inference → Next
next t s = record { task = t; state = s }

-- the next task, as long as the walk goes on
abbrev pub next_of : Option End → List Task → Inference → Next
next_of (Some e) ts s = next None s
next_of None [] s = next None s
next_of None (t ∷ ts) s = next (Some t) (record s { tasks = ts })

abbrev pub next_task : Inference → Next
next_task s = next_of s.end s.tasks s

abbrev pub onward : Option Task → Inference → (Task → Inference) → Inference
onward None s others = s
onward (Some t) s others = others t

-- all tasks; the walk ends where they aren't done in so many steps
unfoldable pub finished : (steps : ℕ) → Parts → Inference → Inference
finished zero p s = record s { end = Some ends.Stopped }
finished (suc steps) p s = let n = next_task s in onward n.task n.state (λ t. finished steps p (acted t p n.state))
