-- The names that a pattern binds have types that it has bound.
use Rattle.std.proofs.Common.{◌≡◌, ℕ, zero, suc, ◌==◌, ◌||◌, not, Bool, true, false, if◌then◌else◌, List, [], ◌∷◌, ◌++◌, map, zip, length, Option, Some, None, sym, ◌∙◌, ap, subst, slice_get, ⊎_elim}
use Rattle.std.specs.Prelude.{IsTrue}
use Rattle.std.specs.List.{AllByRecursion}
use Rattle.std.proofs.lemmas.Bool.Decides.{eqb_tells}
use Rattle.fx_base.specs.declared.refusal.Place.{Place}
use Rattle.effect_meaning.specs.declared.core_nodes.Constructor.{Constructor}
use Rattle.effect_meaning.specs.declared.core_nodes.FieldPart.{FieldPart}
use Rattle.effect_meaning.specs.declared.core_nodes.PatternForm.{PatternForm}
use Rattle.effect_meaning.specs.declared.core_nodes.PatternForm.TheVariants as pat
use Rattle.effect_meaning.specs.declared.core_nodes.PatternNode.{PatternNode}
use Rattle.effect_meaning.specs.Arena.{Parts}
use Rattle.effect_meaning.specs.Scoped.{holds}
use Rattle.ml_infer.specs.declared.inference.Inference.{Inference}
use Rattle.ml_infer.specs.declared.inference.NameType.{NameType}
use Rattle.ml_infer.specs.declared.inference.NameType.TheVariants.{One, Generalised}
use Rattle.ml_infer.specs.declared.tasks.Task.{Task}
use Rattle.ml_infer.specs.declared.tasks.Task.TheVariants as task
use Rattle.ml_infer.specs.declared.written.Variables.{Variables}
use Rattle.ml_infer.specs.Inference.{gives, given_back, pattern_place, taken}
use Rattle.ml_infer.specs.Known.{known, noted}
use Rattle.ml_infer.specs.Tasks.{first, first_one}
use Rattle.ml_infer.specs.Written.{refused_unless}
use Rattle.ml_infer.specs.Constructors.{constructed, field_owner, field_type, instance, is_owner, new_variables, unhandled}
use Rattle.ml_infer.specs.Patterns.{alias, argument_pattern, bound, bound_as, constructor_pattern, field_pattern, field_pattern_task, fields_pattern, is_any, joined_pattern, new_bound, pattern_node, pattern_of, pattern_tasks, record_pattern, tuple_pattern}
use Rattle.ml_infer.specs.Terms.{agreed, annotated}
use Rattle.ml_infer.specs.Walk.{acted, acted_on_data}
use Rattle.inference_laws.proofs.PatternSteps.{IsOfPattern}
use Rattle.inference_laws.proofs.Each.{each_appended, each_made}
use Rattle.inference_laws.proofs.Noting.{noted_other, noted_same}
use Rattle.inference_laws.proofs.Runs.{left, Does, does_tasks}
use Rattle.inference_laws.proofs.Following.{holds_first, holds_later}
use Rattle.inference_laws.proofs.Quiet.{Bindings, annotated_same, bindings, constructed_same, equated_same, field_same, instance_same, refused_same, taken_same, variables_same}

-- no name has a type by the pattern at hand
abbrev pub NoneBound : Inference → Type 0
NoneBound s = (x v : ℕ) → known s.names x ≡ Some (One v s.pattern) → ⊥

-- only patterns are to be done, and a name that has a type by the pattern at hand has one that it has bound
record Holds (b : Bindings) : Type 0 where
  all : AllByRecursion IsOfPattern b.tasks
  held : (x v : ℕ) → known b.names x ≡ Some (One v b.pattern) → IsTrue (holds b.bound v)

holds_same : (s t : Inference) → bindings t ≡ bindings s → Holds (bindings s) → Holds (bindings t)
holds_same s t e h = subst Holds (sym e) h

holds_more : (ts : List Task) (s : Inference) → AllByRecursion IsOfPattern ts → Holds (bindings s) → Holds (bindings (first ts s))
holds_more ts s all h = record { all = each_appended IsOfPattern ts s.tasks all h.all; held = h.held }

-- a name that the pattern at hand binds
new_held : (x : ℕ) (s : Inference) → Holds (bindings s) → Holds (bindings (new_bound x s).state)
new_held x s h = record {
  all = h.all;
  held =
      λ y w is.
      let v = length s.types.nodes in
      let known_now : List (Option NameType) = noted x (One v s.pattern) s.names in
      ⊎_elim
      (λ k.
      let here : Some (One v s.pattern) ≡ Some (One w s.pattern) =
      sym (noted_same x (One v s.pattern) s.names) ∙ ap (known known_now) (sym k.1) ∙ is in
      let same : v ≡ w = cc in
      subst (λ m. IsTrue (holds (v ∷ s.bound) m)) same (holds_first v s.bound))
      (λ k. holds_later v w s.bound (h.held y w (sym (noted_other x y (One v s.pattern) s.names k.1) ∙ is)))
      (eqb_tells y x);
}

bound_so : (o : Option NameType) (x : ℕ) (s : Inference) → Holds (bindings s) → Holds (bindings (bound_as o x s).state)
bound_so None x s h = new_held x s h
bound_so (Some (Generalised t)) x s h = new_held x s h
bound_so (Some (One t q)) x s h =
    elim (q == s.pattern) as (λ b. Holds (bindings (if b then gives t s else new_bound x s).state))
    [ true ↦ h | false ↦ new_held x s h ]

bound_held : (x : ℕ) (s : Inference) → Holds (bindings s) → Holds (bindings (bound x s).state)
bound_held x s h = bound_so (known s.names x) x s h

module _ (p : Parts) where
  -- the equations of a pattern
  argument_held :
      (argument type : Option ℕ) (other : Bool) (at : Place) (s : Inference) → Holds (bindings s)
      → Holds (bindings (argument_pattern argument type other p at s))
  argument_held (Some q) (Some t) other at s h =
      let r = refused_unless (other || is_any p q) at s in
      holds_more (task.PatternIs q t ∷ []) r (tt, tt) (holds_same s r (refused_same (other || is_any p q) at s) h)
  argument_held None None other at s h = h
  argument_held (Some q) None other at s h = h
  argument_held None (Some t) other at s h = h

  constructor_held :
      (con : Constructor) (argument : Option ℕ) (at : Place) (s : Inference) → Holds (bindings s)
      → Holds (bindings (constructor_pattern con argument p at s))
  constructor_held con argument at s h =
      let made = constructed p con at s in
      let give = task.Give made.value.value in
      argument_held argument made.value.argument (not (unhandled con)) at (first_one give made.state)
      (holds_more (give ∷ []) made.state (tt, tt) (holds_same s made.state (constructed_same p con at s) h))

  fields_held :
      (o : Option ℕ) (fs : List FieldPart) (at : Place) (s : Inference) → Holds (bindings s)
      → Holds (bindings (fields_pattern o fs p at s))
  fields_held None fs at s h = h
  fields_held (Some t) fs at s h =
      let made = instance p t s in
      let give = task.Give made.value.value in
      let make : FieldPart → Task = field_pattern_task at t made.value.variables in
      holds_more (map make fs) (first_one give made.state) (each_made IsOfPattern make (λ f. tt) fs)
      (holds_more (give ∷ []) made.state (tt, tt) (holds_same s made.state (instance_same p t s) h))

  record_held :
      (fs : List FieldPart) (at : Place) (s : Inference) → Holds (bindings s) → Holds (bindings (record_pattern fs p at s))
  record_held [] at s h = h
  record_held (f ∷ fs) at s h = fields_held (field_owner p f.field) (f ∷ fs) at s h

  tuple_held : (qs : List ℕ) (s : Inference) → Holds (bindings s) → Holds (bindings (tuple_pattern qs s))
  tuple_held qs s h =
      let ts = new_variables (length qs) s in
      let give = task.Give (length ts.state.types.nodes) in
      holds_more (pattern_tasks qs ts.value) (first_one give ts.state)
      (each_made IsOfPattern (λ (x : ℕ × ℕ). task.PatternIs x.0 x.1) (λ x. tt) (zip qs ts.value))
      (holds_more (give ∷ []) ts.state (tt, tt) (holds_same s ts.state (variables_same (length qs) s) h))

  joined_held : (f : PatternForm) (at : Place) (s : Inference) → Holds (bindings s) → Holds (bindings (joined_pattern f p at s))
  unfolding joined_pattern
  joined_held (pat.Or a b) at s h =
      holds_more (task.Pattern a ∷ task.Pattern b ∷ task.Agree (pattern_place p b s) ∷ []) s (tt, (tt, (tt, tt))) h
  joined_held (pat.Alias q x) at s h = holds_more (task.Pattern q ∷ task.Alias at x ∷ []) s (tt, (tt, tt)) h
  joined_held (pat.Annotated q w) at s h = holds_more (task.Pattern q ∷ task.Annotated at w ∷ []) s (tt, (tt, tt)) h
  joined_held _ at s h = h

  form_held : (f : PatternForm) (at : Place) (s : Inference) → Holds (bindings s) → Holds (bindings (pattern_of f p at s))
  unfolding pattern_of
  form_held pat.Any at s h = h
  form_held (pat.Name x) at s h = bound_held x s h
  form_held (pat.Constant k) at s h = h
  form_held (pat.Tuple qs) at s h = tuple_held qs s h
  form_held (pat.Constructor con) at s h = constructor_held con None at s h
  form_held (pat.Construct con q) at s h = constructor_held con (Some q) at s h
  form_held (pat.Record fs) at s h = record_held fs at s h
  form_held f at s h = joined_held f at s h

  node_held : (o : Option PatternNode) (s : Inference) → Holds (bindings s) → Holds (bindings (pattern_node o p s))
  node_held None s h = h
  node_held (Some node) s h = form_held node.form node.place s h

  -- the other tasks
  alias_held : (at : Place) (x : ℕ) (s : Inference) → Holds (bindings s) → Holds (bindings (alias at x s))
  alias_held at x s h =
      let t = taken s in
      let u = given_back t.found t.state in
      let b = bound x u in
      holds_same b.state (alias at x s) (equated_same at b.found t.found b.state) (bound_held x u (holds_same s u (taken_same s) h))

  field_held :
      (at : Place) (t : ℕ) (f : FieldPart) (vars : Variables) (s : Inference) → Holds (bindings s)
      → Holds (bindings (field_pattern p at t f vars s))
  field_held at t f vars s h =
      let r = refused_unless (is_owner p t f.field) at s in
      let u = field_type p f.field vars at r in
      holds_more (task.PatternIs f.part u.found ∷ []) u.state (tt, tt)
      (holds_same s u.state (field_same p vars at f.field r ∙ refused_same (is_owner p t f.field) at s) h)

  acted_held : (t : Task) → IsOfPattern t → (s : Inference) → Holds (bindings s) → Holds (bindings (acted t p s))
  unfolding acted acted_on_data
  acted_held (task.Pattern q) is s h = node_held (slice_get p.patterns q) s h
  acted_held (task.PatternIs q t) is s h = holds_more (task.Pattern q ∷ task.Is (pattern_place p q s) t ∷ []) s (tt, (tt, tt)) h
  acted_held (task.Give t) is s h = h
  acted_held (task.Is at t) is s h =
      let u = taken s in holds_same s (acted (task.Is at t) p s) (equated_same at u.found t u.state ∙ taken_same s) h
  acted_held (task.Agree at) is s h =
      let second = taken s in
      let one = taken second.state in
      holds_same s (agreed at s)
      (equated_same at second.found one.found (given_back one.found one.state) ∙ taken_same second.state ∙ taken_same s) h
  acted_held (task.Annotated at w) is s h =
      let t = taken s in
      holds_same s (annotated p at w s) (annotated_same p at t.found (Some w) (given_back t.found t.state) ∙ taken_same s) h
  acted_held (task.Alias at x) is s h = alias_held at x s h
  acted_held (task.FieldPatternIs at t f vars) is s h = field_held at t f vars s h
  acted_held _ is s h = absurd is

  does_held :
      (k : ℕ) (ts : List Task) (s e : Inference) → Does p [] k ts s e → Holds (bindings s) → (x v : ℕ)
      → known e.names x ≡ Some (One v e.pattern) → IsTrue (holds e.bound v)
  does_held k [] s e d h = (subst (λ (y : Inference). Holds (bindings y)) d.1 h).held
  does_held zero (t ∷ ts) s e d h = absurd d
  does_held (suc k) (t ∷ ts) s e d h =
      let all : AllByRecursion IsOfPattern (t ∷ (ts ++ [])) = subst (AllByRecursion IsOfPattern) d.1 h.all in
      let u : Inference = left (ts ++ []) s in
      does_held k (d.2 ++ ts) (acted t p u) e d.4 (acted_held t all.0 u (record { all = all.1; held = h.held }))

  -- behind a pattern the types of its names are among those that it has bound, if no name had one by it before
  pub pattern_held :
      (q t k : ℕ) (s e : Inference) → Does p [] k (task.PatternIs q t ∷ []) s e → NoneBound s → (x v : ℕ)
      → known e.names x ≡ Some (One v e.pattern) → IsTrue (holds e.bound v)
  pattern_held q t k s e d none =
      let only = task.PatternIs q t ∷ [] in
      does_held k only s e d
      (record {
        all = subst (AllByRecursion IsOfPattern) (sym (does_tasks p [] k only s e d)) (tt, tt);
        held = λ x v here. absurd (none x v here);
      })
