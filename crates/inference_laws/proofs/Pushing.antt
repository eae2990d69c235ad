-- Each task puts tasks first and leaves those below, so a walk that doesn't end does its tasks one after another.
use Rattle.std.proofs.Common.{◌≡◌, ℕ, zero, suc, List, [], ◌∷◌, ◌++◌, map, length, Option, Some, None, Bool, true, false, refl, sym, ◌∙◌, ap, subst, append_assoc, if◌then◌else◌, slice_get, ◌==◌, ◌||◌, not}
use Rattle.fx_base.specs.declared.refusal.Place.{Place}
use Rattle.effect_meaning.specs.declared.core_nodes.Constructor.{Constructor}
use Rattle.effect_meaning.specs.declared.core_nodes.Constructor.TheVariants as constructor
use Rattle.effect_meaning.specs.declared.core_nodes.EffectClause.{EffectClause}
use Rattle.effect_meaning.specs.declared.core_nodes.FieldPart.{FieldPart}
use Rattle.effect_meaning.specs.declared.core_nodes.Function.{Function}
use Rattle.effect_meaning.specs.declared.core_nodes.HandlerKind.{HandlerKind}
use Rattle.effect_meaning.specs.declared.core_nodes.HandlerKind.TheVariants as kind
use Rattle.effect_meaning.specs.declared.core_nodes.Operation.{Operation}
use Rattle.effect_meaning.specs.declared.core_nodes.Operation.TheVariants as operation
use Rattle.effect_meaning.specs.declared.core_nodes.PatternForm.{PatternForm}
use Rattle.effect_meaning.specs.declared.core_nodes.PatternForm.TheVariants as pat
use Rattle.effect_meaning.specs.declared.core_nodes.PatternNode.{PatternNode}
use Rattle.effect_meaning.specs.declared.core_nodes.TermForm.{TermForm}
use Rattle.effect_meaning.specs.declared.core_nodes.TermForm.TheVariants as form
use Rattle.effect_meaning.specs.declared.core_nodes.TermNode.{TermNode}
use Rattle.effect_meaning.specs.declared.core_tables.EffectRow.{EffectRow}
use Rattle.effect_meaning.specs.declared.core_tables.FieldRow.{FieldRow}
use Rattle.effect_meaning.specs.declared.core_tables.VariantRow.{VariantRow}
use Rattle.effect_meaning.specs.Arena.{Parts}
use Rattle.type_graph.specs.Graph.{applied, argument_of, form_of, is_of}
use Rattle.type_graph.specs.declared.signatures.Signature.{Signature}
use Rattle.type_graph.specs.Signatures.{function_added, signature_of}
use Rattle.ml_infer.specs.declared.inference.End.{End}
use Rattle.ml_infer.specs.declared.inference.Inference.{Inference}
use Rattle.ml_infer.specs.declared.inference.NameType.{NameType}
use Rattle.ml_infer.specs.declared.inference.NameType.TheVariants.{One, Generalised}
use Rattle.ml_infer.specs.declared.tasks.GroupFunction.{GroupFunction}
use Rattle.ml_infer.specs.declared.tasks.Handling.{Handling}
use Rattle.ml_infer.specs.declared.tasks.HandlerClause.{HandlerClause}
use Rattle.ml_infer.specs.declared.tasks.Task.{Task}
use Rattle.ml_infer.specs.declared.tasks.Task.TheVariants as task
use Rattle.ml_infer.specs.declared.written.Variables.{Variables}
use Rattle.ml_infer.specs.declared.written.Variables.TheVariants as variables
use Rattle.ml_infer.specs.Inference.{With, Gives, gives, equated, given_back, new_name, new_variable, of_one_type, one_of_known, one_type, pattern_place, refused, taken, term_place, type_of_known}
use Rattle.ml_infer.specs.Known.{known}
use Rattle.ml_infer.specs.Members.{first_of}
use Rattle.ml_infer.specs.Tasks.{first, first_one, term_tasks}
use Rattle.ml_infer.specs.Written.{annotated_if, refused_unless, written}
use Rattle.ml_infer.specs.Constructors.{answer_of, closed, constructed, declared_argument, field_owner, field_type, instance, is_owner, new_variables, unhandled}
use Rattle.ml_infer.specs.Declarations.{effect_row_declared, field_declared, field_row_declared, type_declared, variant_declared, variant_row_declared}
use Rattle.ml_infer.specs.Patterns.{alias, argument_pattern, bound, bound_as, clause, clauses, clauses_in, clauses_of, constructor_pattern, field_pattern, fields_pattern, first_clauses, first_guard, is_any, joined_pattern, new_bound, pattern, pattern_tasks, pattern_node, pattern_of, record_pattern, tuple_given, whole_pattern}
use Rattle.ml_infer.specs.Handlers.{clause_argument, clause_of_effect, continuation_of_kind, continuation_type, effect_clause_of, effect_clauses, handled, handler_clause, handler_first, handler_parts, new_handling, no_clause, parameter_entered, resumption, subject_of_kind, subject_type, types_entered, variable_entered, variable_leaves}
use Rattle.ml_infer.specs.Terms.{agreed, annotated, application, applied_known, applied_unknown, argument_term, array, compared, construct, data_term, end_function, field_is, fields_first, function_from, functions_first, group_function, is_mutable, lambda, match_term, named_each, names_each, new_names, plain_term, primitive, read_field_of, record_of, record_term, set_field_of, term_node, term_of}
use Rattle.ml_infer.specs.Walk.{acted, acted_in_group, acted_on_data, finished, next_of, onward}
use Rattle.inference_laws.proofs.Runs.{left, Does}
use Rattle.inference_laws.proofs.Quiet.{Bindings, annotated_same, answer_same, argument_same, bindings, constructed_same, equated_same, field_same, instance_same, refused_same, taken_same, variables_same, written_same}

-- tasks are put before those of the one state, which gives those of the other
abbrev pub Pushes : Inference → Inference → Type 0
Pushes s t = (new : List Task) × (t.tasks ≡ new ++ s.tasks)

-- the tasks are the same
pub pushes_none : (s t : Inference) → t.tasks ≡ s.tasks → Pushes s t
pushes_none s t e = ([], e)

-- these are put first
pub pushes_first : (ts : List Task) (s t : Inference) → t.tasks ≡ s.tasks → Pushes s (first ts t)
pushes_first ts s t e = (ts, ap (λ (xs : List Task). ts ++ xs) e)

pub pushes_on : (s t u : Inference) → Pushes s t → Pushes t u → Pushes s u
pushes_on s t u a b = (b.0 ++ a.0, b.1 ∙ ap (λ (xs : List Task). b.0 ++ xs) a.1 ∙ sym (append_assoc b.0 a.0 s.tasks))

pub pushes_over : (s t u : Inference) → t.tasks ≡ s.tasks → Pushes t u → Pushes s u
pushes_over s t u e b = (b.0, b.1 ∙ ap (λ (xs : List Task). b.0 ++ xs) e)

pub pushes_before : (s t u : Inference) → u.tasks ≡ t.tasks → Pushes s t → Pushes s u
pushes_before s t u e a = (a.0, e ∙ a.1)

-- tasks are as they were where types are made
abbrev TasksStay : Inference → Inference → Type 0
TasksStay s t = t.tasks ≡ s.tasks

tasks_stay : (s t : Inference) → bindings t ≡ bindings s → TasksStay s t
tasks_stay s t e = ap (λ (b : Bindings). b.tasks) e

pub taken_tasks : (s : Inference) → (taken s).state.tasks ≡ s.tasks
taken_tasks s = tasks_stay s (taken s).state (taken_same s)

pub refused_tasks : (is : Bool) (at : Place) (s : Inference) → (refused_unless is at s).tasks ≡ s.tasks
refused_tasks is at s = tasks_stay s (refused_unless is at s) (refused_same is at s)

pub equated_tasks : (at : Place) (a b : ℕ) (s : Inference) → (equated at a b s).tasks ≡ s.tasks
equated_tasks at a b s = tasks_stay s (equated at a b s) (equated_same at a b s)

pub variables_tasks : (count : ℕ) (s : Inference) → (new_variables count s).state.tasks ≡ s.tasks
variables_tasks count s = tasks_stay s (new_variables count s).state (variables_same count s)

-- the type of a name
known_tasks : (o : Option NameType) (x : ℕ) (s : Inference) → (type_of_known o x s).state.tasks ≡ s.tasks
known_tasks None x s = refl
known_tasks (Some (One t q)) x s = refl
known_tasks (Some (Generalised t)) x s = refl

one_tasks : (o : Option NameType) (x : ℕ) (s : Inference) → (one_of_known o x s).state.tasks ≡ s.tasks
one_tasks None x s = refl
one_tasks (Some (One t q)) x s = refl
one_tasks (Some (Generalised t)) x s = refl

bound_so : (o : Option NameType) (x : ℕ) (s : Inference) → (bound_as o x s).state.tasks ≡ s.tasks
bound_so None x s = refl
bound_so (Some (Generalised t)) x s = refl
bound_so (Some (One t q)) x s =
    elim (q == s.pattern) as (λ b. (if b then gives t s else new_bound x s).state.tasks ≡ s.tasks) [ true ↦ refl | false ↦ refl ]

bound_tasks : (x : ℕ) (s : Inference) → (bound x s).state.tasks ≡ s.tasks
bound_tasks x s = bound_so (known s.names x) x s

module _ (p : Parts) where
  pub written_tasks : (vars : Variables) (at : Place) (n : ℕ) (s : Inference) → (written p n vars at s).state.tasks ≡ s.tasks
  written_tasks vars at n s = tasks_stay s (written p n vars at s).state (written_same p vars at n s)

  pub argument_tasks :
      (vars : Variables) (at : Place) (w : Option ℕ) (s : Inference) → (declared_argument p w vars at s).state.tasks ≡ s.tasks
  argument_tasks vars at w s = tasks_stay s (declared_argument p w vars at s).state (argument_same p vars at w s)

  pub field_tasks : (vars : Variables) (at : Place) (n : ℕ) (s : Inference) → (field_type p n vars at s).state.tasks ≡ s.tasks
  field_tasks vars at n s = tasks_stay s (field_type p n vars at s).state (field_same p vars at n s)

  pub annotated_tasks : (at : Place) (t : ℕ) (w : Option ℕ) (s : Inference) → (annotated_if p at t w s).tasks ≡ s.tasks
  annotated_tasks at t w s = tasks_stay s (annotated_if p at t w s) (annotated_same p at t w s)

  pub instance_tasks : (t : ℕ) (s : Inference) → (instance p t s).state.tasks ≡ s.tasks
  instance_tasks t s = tasks_stay s (instance p t s).state (instance_same p t s)

  pub constructed_tasks : (con : Constructor) (at : Place) (s : Inference) → (constructed p con at s).state.tasks ≡ s.tasks
  constructed_tasks con at s = tasks_stay s (constructed p con at s).state (constructed_same p con at s)

  pub answer_tasks : (t : ℕ) (s : Inference) → (answer_of t s).state.tasks ≡ s.tasks
  answer_tasks t s = tasks_stay s (answer_of t s).state (answer_same p t s)

  -- declarations
  type_pushes : (t : ℕ) (s : Inference) → Pushes s (type_declared p t s)
  type_pushes t s =
      let made = instance p t s in
      let vars = made.value.variables in
      pushes_first
      (task.FieldDeclared (first_of made.state.fields t) vars ∷ task.VariantDeclared (first_of made.state.variants t) vars ∷ []) s
      made.state (instance_tasks t s)

  field_row_pushes : (o : Option FieldRow) (n : ℕ) (vars : Variables) (s : Inference) → Pushes s (field_row_declared o p n vars s)
  field_row_pushes None n vars s = pushes_none s s refl
  field_row_pushes (Some row) n vars s =
      pushes_first (_ ∷ []) s (written p row.annotation vars row.place s).state (written_tasks vars row.place row.annotation s)

  field_pushes : (o : Option ℕ) (vars : Variables) (s : Inference) → Pushes s (field_declared p o vars s)
  field_pushes None vars s = pushes_none s s refl
  field_pushes (Some n) vars s = field_row_pushes (slice_get p.field_rows n) n vars s

  variant_row_pushes :
      (o : Option VariantRow) (n : ℕ) (vars : Variables) (s : Inference) → Pushes s (variant_row_declared o p n vars s)
  variant_row_pushes None n vars s = pushes_none s s refl
  variant_row_pushes (Some row) n vars s =
      pushes_first (_ ∷ []) s (declared_argument p row.argument vars row.place s).state
      (argument_tasks vars row.place row.argument s)

  variant_pushes : (o : Option ℕ) (vars : Variables) (s : Inference) → Pushes s (variant_declared p o vars s)
  variant_pushes None vars s = pushes_none s s refl
  variant_pushes (Some n) vars s = variant_row_pushes (slice_get p.variant_rows n) n vars s

  effect_row_pushes : (o : Option EffectRow) (s : Inference) → Pushes s (effect_row_declared o p s)
  effect_row_pushes None s = pushes_none s s refl
  effect_row_pushes (Some row) s =
      let a = declared_argument p row.argument closed row.place s in
      let t = written p row.result closed row.place a.state in
      pushes_none s (effect_row_declared (Some row) p s)
      (refused_tasks (is_of (form_of t.state.types.nodes t.found) 10 1) row.place t.state
      ∙ written_tasks closed row.place row.result a.state ∙ argument_tasks closed row.place row.argument s)

  -- patterns
  argument_pattern_pushes :
      (argument type : Option ℕ) (other : Bool) (at : Place) (s : Inference)
      → Pushes s (argument_pattern argument type other p at s)
  argument_pattern_pushes (Some q) (Some t) other at s =
      pushes_first (task.PatternIs q t ∷ []) s (refused_unless (other || is_any p q) at s)
      (refused_tasks (other || is_any p q) at s)
  argument_pattern_pushes None None other at s = pushes_none s s refl
  argument_pattern_pushes (Some q) None other at s = pushes_none s (refused at s) refl
  argument_pattern_pushes None (Some t) other at s = pushes_none s (refused at s) refl

  constructor_pushes :
      (con : Constructor) (argument : Option ℕ) (at : Place) (s : Inference) → Pushes s (constructor_pattern con argument p at s)
  constructor_pushes con argument at s =
      let made = constructed p con at s in
      let t = first_one (task.Give made.value.value) made.state in
      pushes_on s t (constructor_pattern con argument p at s)
      (pushes_first (task.Give made.value.value ∷ []) s made.state (constructed_tasks con at s))
      (argument_pattern_pushes argument made.value.argument (not (unhandled con)) at t)

  fields_pushes : (o : Option ℕ) (fs : List FieldPart) (at : Place) (s : Inference) → Pushes s (fields_pattern o fs p at s)
  fields_pushes None fs at s = pushes_none s s refl
  fields_pushes (Some t) fs at s =
      let made = instance p t s in
      let u = first_one (task.Give made.value.value) made.state in
      pushes_on s u (fields_pattern (Some t) fs p at s)
      (pushes_first (task.Give made.value.value ∷ []) s made.state (instance_tasks t s))
      (pushes_first _ u u refl)

  record_pushes : (fs : List FieldPart) (at : Place) (s : Inference) → Pushes s (record_pattern fs p at s)
  record_pushes [] at s = pushes_none s (refused at s) refl
  record_pushes (f ∷ fs) at s = fields_pushes (field_owner p f.field) (f ∷ fs) at s

  field_pattern_pushes :
      (at : Place) (t : ℕ) (f : FieldPart) (vars : Variables) (s : Inference) → Pushes s (field_pattern p at t f vars s)
  field_pattern_pushes at t f vars s =
      let r = refused_unless (is_owner p t f.field) at s in
      pushes_first (_ ∷ []) s (field_type p f.field vars at r).state
      (field_tasks vars at f.field r ∙ refused_tasks (is_owner p t f.field) at s)

  tuple_pushes : (tasks : List ℕ → List Task) (count : ℕ) (s : Inference) → Pushes s (tuple_given tasks (new_variables count s))
  tuple_pushes tasks count s =
      let ts = new_variables count s in
      let u = first_one (task.Give (length ts.state.types.nodes)) ts.state in
      pushes_on s u (tuple_given tasks ts)
      (pushes_first (task.Give (length ts.state.types.nodes) ∷ []) s ts.state (variables_tasks count s))
      (pushes_first (tasks ts.value) u u refl)

  joined_pushes : (f : PatternForm) (at : Place) (s : Inference) → Pushes s (joined_pattern f p at s)
  unfolding joined_pattern
  joined_pushes (pat.Or a b) at s = pushes_first (task.Pattern a ∷ task.Pattern b ∷ task.Agree (pattern_place p b s) ∷ []) s s refl
  joined_pushes (pat.Alias q x) at s = pushes_first (task.Pattern q ∷ task.Alias at x ∷ []) s s refl
  joined_pushes (pat.Annotated q w) at s = pushes_first (task.Pattern q ∷ task.Annotated at w ∷ []) s s refl
  joined_pushes _ at s = pushes_none s s refl

  pattern_form_pushes : (f : PatternForm) (at : Place) (s : Inference) → Pushes s (pattern_of f p at s)
  unfolding pattern_of
  pattern_form_pushes pat.Any at s = ([], refl)
  pattern_form_pushes (pat.Name x) at s = ([], bound_tasks x s)
  pattern_form_pushes (pat.Constant k) at s = ([], refl)
  pattern_form_pushes (pat.Tuple qs) at s = tuple_pushes (pattern_tasks qs) (length qs) s
  pattern_form_pushes (pat.Constructor con) at s = constructor_pushes con None at s
  pattern_form_pushes (pat.Construct con q) at s = constructor_pushes con (Some q) at s
  pattern_form_pushes (pat.Record fs) at s = record_pushes fs at s
  pattern_form_pushes f at s = joined_pushes f at s

  pattern_node_pushes : (o : Option PatternNode) (s : Inference) → Pushes s (pattern_node o p s)
  pattern_node_pushes None s = ([], refl)
  pattern_node_pushes (Some node) s = pattern_form_pushes node.form node.place s

  pattern_pushes : (q : ℕ) (s : Inference) → Pushes s (pattern p q s)
  pattern_pushes q s = pattern_node_pushes (slice_get p.patterns q) s

  alias_tasks : (at : Place) (x : ℕ) (s : Inference) → (alias at x s).tasks ≡ s.tasks
  alias_tasks at x s =
      let t = taken s in
      let u = given_back t.found t.state in
      let b = bound x u in
      equated_tasks at b.found t.found b.state ∙ bound_tasks x u ∙ taken_tasks s

  clauses_form_pushes : (f : TermForm) (u t : ℕ) (s : Inference) → Pushes s (clauses_of f u t s)
  unfolding clauses_of
  clauses_form_pushes (form.Match a cs) u t s = pushes_first _ s s refl
  clauses_form_pushes (form.Catch a values exceptions) u t s =
      let others = first_clauses exceptions 5 t s in
      pushes_on s others (first_clauses values u t others) (pushes_first _ s s refl) (pushes_first _ others others refl)
  clauses_form_pushes _ u t s = pushes_none s s refl

  clauses_in_pushes : (o : Option TermNode) (t : ℕ) (u : Gives) → Pushes u.state (clauses_in o t u)
  clauses_in_pushes None t u = pushes_none u.state u.state refl
  clauses_in_pushes (Some node) t u = clauses_form_pushes node.form u.found t u.state

  clauses_pushes : (n t : ℕ) (s : Inference) → Pushes s (clauses p n t s)
  clauses_pushes n t s =
      let u = taken s in
      pushes_over s u.state (clauses p n t s) (taken_tasks s) (clauses_in_pushes (slice_get p.terms n) t u)

  guard_pushes : (guard : Option ℕ) (s : Inference) → Pushes s (first_guard guard s)
  guard_pushes None s = pushes_none s s refl
  guard_pushes (Some g) s = pushes_first (_ ∷ []) s s refl

  whole_pushes : (q t : ℕ) (s : Inference) → Pushes s (whole_pattern q t s)
  whole_pushes q t s = (task.PatternIs q t ∷ [], refl)

  clause_pushes : (q : ℕ) (guard : Option ℕ) (body u t : ℕ) (s : Inference) → Pushes s (clause q guard body u t s)
  clause_pushes q guard body u t s =
      let a = first_one (task.TermIs body t) s in
      let b = first_guard guard a in
      pushes_on s b (clause q guard body u t s) (pushes_on s a b (pushes_first (_ ∷ []) s s refl) (guard_pushes guard a))
      (whole_pushes q u b)

  -- terms
  array_pushes : (ns : List ℕ) (s : Inference) → Pushes s (array ns s)
  array_pushes ns s =
      let t = new_variable s in
      let give = task.Give (length t.state.types.nodes) in
      let u = first_one give s in
      pushes_on s u (array ns s) (pushes_first (give ∷ []) s s refl) (map (λ n. task.TermIs n t.found) ns, refl)

  argument_pushes : (argument type : Option ℕ) (at : Place) (s : Inference) → Pushes s (argument_term argument type at s)
  argument_pushes (Some n) (Some t) at s = pushes_first (task.TermIs n t ∷ []) s s refl
  argument_pushes None None at s = pushes_none s s refl
  argument_pushes (Some n) None at s = pushes_none s (refused at s) refl
  argument_pushes None (Some t) at s = pushes_none s (refused at s) refl

  construct_pushes :
      (con : Constructor) (argument : Option ℕ) (at : Place) (s : Inference) → Pushes s (construct con argument p at s)
  construct_pushes con argument at s =
      let made = constructed p con at s in
      let t = first_one (task.Give made.value.value) made.state in
      let before : Pushes s t = pushes_first (task.Give made.value.value ∷ []) s made.state (constructed_tasks con at s) in
      elim (unhandled con)
      as (λ b. Pushes s (if b then refused at t else argument_term argument made.value.argument at t)) [
        | true ↦ pushes_before s t (refused at t) refl before
        | false ↦
            pushes_on s t (argument_term argument made.value.argument at t) before
            (argument_pushes argument made.value.argument at t)
      ]

  named_tasks : (t : ℕ) (fs : List FieldPart) (r : With Bool) → (named_each p t fs r).state.tasks ≡ r.state.tasks
  named_tasks t [] r = refl
  named_tasks t (f ∷ fs) r = named_tasks t fs _

  fields_first_pushes :
      (fs : List FieldPart) (at : Place) (vars : Variables) (r : With Bool) → Pushes r.state (fields_first fs at vars r)
  fields_first_pushes fs at vars r =
      elim r.value
      as (λ b. Pushes r.state (if b then first (map (λ f. task.FieldIs at f vars) fs) r.state else refused at r.state)) [
        | true ↦ (map (λ f. task.FieldIs at f vars) fs, refl)
        | false ↦ pushes_none r.state (refused at r.state) refl
      ]

  record_of_pushes : (o : Option ℕ) (fs : List FieldPart) (at : Place) (s : Inference) → Pushes s (record_of o fs p at s)
  record_of_pushes None fs at s = pushes_none s s refl
  record_of_pushes (Some t) fs at s =
      let made = instance p t s in
      let u = first_one (task.Give made.value.value) made.state in
      let r = names_each p t fs u in
      pushes_on s r.state (record_of (Some t) fs p at s)
      (pushes_before s u r.state (named_tasks t fs _)
      (pushes_first (task.Give made.value.value ∷ []) s made.state (instance_tasks t s)))
      (fields_first_pushes fs at made.value.variables r)

  record_term_pushes : (fs : List FieldPart) (at : Place) (s : Inference) → Pushes s (record_term fs p at s)
  record_term_pushes [] at s = pushes_none s (refused at s) refl
  record_term_pushes (f ∷ fs) at s = record_of_pushes (field_owner p f.field) (f ∷ fs) at s

  field_is_pushes : (at : Place) (f : FieldPart) (vars : Variables) (s : Inference) → Pushes s (field_is p at f vars s)
  field_is_pushes at f vars s =
      let t =
      field_type p f.field vars at s in pushes_first (task.TermIs f.part t.found ∷ []) s t.state (field_tasks vars at f.field s)

  read_field_pushes : (o : Option ℕ) (at : Place) (field n : ℕ) (s : Inference) → Pushes s (read_field_of o p at field n s)
  read_field_pushes None at field n s = pushes_none s s refl
  read_field_pushes (Some t) at field n s =
      let made = instance p t s in
      let u = field_type p field made.value.variables at made.state in
      pushes_first (task.TermIs n made.value.value ∷ task.Give u.found ∷ []) s u.state
      (field_tasks made.value.variables at field made.state ∙ instance_tasks t s)

  set_field_pushes :
      (o : Option ℕ) (at : Place) (field n value : ℕ) (s : Inference) → Pushes s (set_field_of o p at field n value s)
  set_field_pushes None at field n value s = pushes_none s s refl
  set_field_pushes (Some t) at field n value s =
      let made = instance p t s in
      let u = field_type p field made.value.variables at made.state in
      pushes_first (task.TermIs n made.value.value ∷ task.IsMutable at field ∷ task.TermIs value u.found ∷ task.Give 4 ∷ []) s
      u.state
      (field_tasks made.value.variables at field made.state ∙ instance_tasks t s)

  mutable_so :
      (o : Option FieldRow) (at : Place) (s : Inference)
      → (elim o as (λ x. Inference) [ None ↦ s | Some row ↦ refused_unless row.is_mutable at s ]).tasks ≡ s.tasks
  mutable_so None at s = refl
  mutable_so (Some row) at s = refused_tasks row.is_mutable at s

  compared_tasks : (op : Operation) (at : Place) (g : Signature) (s : Inference) → (compared op at g s).tasks ≡ s.tasks
  compared_tasks (operation.Compare o) at g s = refl
  compared_tasks _ at g s = refl

  primitive_pushes : (op : Operation) (at : Place) (ns : List ℕ) (s : Inference) → Pushes s (primitive op at ns s)
  primitive_pushes op at ns s =
      let made = signature_of op s.types in
      let g = made.signature in
      let r : Inference = record s { types = made.types } in
      let t = first_one (task.Give g.gives) r in
      let before : Pushes s t = pushes_first (task.Give g.gives ∷ []) s r refl in
      elim (length ns == g.count)
      as (λ b. Pushes s (if b then first (term_tasks ns g.parts) (compared op at g t) else refused at t)) [
        | true ↦
            pushes_on s t (first (term_tasks ns g.parts) (compared op at g t)) before
            (pushes_first (term_tasks ns g.parts) t (compared op at g t) (compared_tasks op at g t))
        | false ↦ pushes_before s t (refused at t) refl before
      ]

  pub names_tasks : (fs : List Function) (s : Inference) → (new_names fs s).tasks ≡ s.tasks
  names_tasks [] s = refl
  names_tasks (f ∷ fs) s = names_tasks fs (new_name f.name s).state

  functions_pushes : (fs : List Function) (s : Inference) → Pushes s (functions_first fs s)
  functions_pushes fs s = pushes_first (map (λ f. task.Function (group_function f)) fs) s (new_names fs s) (names_tasks fs s)

  end_function_tasks : (f : GroupFunction) (a : ℕ) (s : Inference) → (end_function p f a s).tasks ≡ s.tasks
  end_function_tasks f a s =
      let t = function_from a (taken s) in
      let b = annotated_if p f.place t.found f.annotation t.state in
      let u = one_type f.name b in
      equated_tasks f.place t.found u.found u.state ∙ one_tasks (known b.names f.name) f.name b ∙ annotated_tasks f.place t.found
      f.annotation t.state
      ∙ taken_tasks s

  agreed_tasks : (at : Place) (s : Inference) → (agreed at s).tasks ≡ s.tasks
  agreed_tasks at s =
      let second = taken s in
      let one = taken second.state in
      equated_tasks at second.found one.found (given_back one.found one.state) ∙ taken_tasks second.state ∙ taken_tasks s

  annotated_term_tasks : (at : Place) (w : ℕ) (s : Inference) → (annotated p at w s).tasks ≡ s.tasks
  annotated_term_tasks at w s =
      let t = taken s in annotated_tasks at t.found (Some w) (given_back t.found t.state) ∙ taken_tasks s

  unknown_tasks : (at : Place) (given found : ℕ) (s : Inference) → (applied_unknown at given found s).tasks ≡ s.tasks
  unknown_tasks at given found s =
      let answer = new_variable s in
      let t = given_back answer.found answer.state in
      equated_tasks at found (length t.types.nodes) (record t { types = function_added given answer.found t.types })

  pub applied_tasks :
      (is : Bool) (a b : Option ℕ) (at here : Place) (given found : ℕ) (s : Inference)
      → (applied_known is a b at here given found s).tasks ≡ s.tasks
  applied_tasks true (Some a) (Some b) at here given found s = equated_tasks here given a (given_back b s)
  applied_tasks true (Some a) None at here given found s = unknown_tasks at given found s
  applied_tasks true None b at here given found s = unknown_tasks at given found s
  applied_tasks false a b at here given found s = unknown_tasks at given found s

  application_tasks : (at here : Place) (s : Inference) → (application at here s).tasks ≡ s.tasks
  application_tasks at here s =
      let given = taken s in
      let found = taken given.state in
      let f = form_of found.state.types.nodes found.found in
      applied_tasks (is_of f 15 2) (argument_of found.state.types.arguments f 0) (argument_of found.state.types.arguments f 1) at
      here given.found
      found.found found.state
      ∙ taken_tasks given.state ∙ taken_tasks s

  -- handlers
  subject_tasks : (k : HandlerKind) (a b : ℕ) (s : Inference) → (subject_of_kind k a b s).state.tasks ≡ s.tasks
  subject_tasks kind.Deep a b s = refl
  subject_tasks _ a b s = refl

  effects_pushes : (at : Place) (h : Handling) (cs : List EffectClause) (s : Inference) → Pushes s (effect_clauses at h cs s)
  effects_pushes at h [] s = pushes_first (task.NoClause at h ∷ []) s s refl
  effects_pushes at h (c ∷ cs) s = pushes_first (map (λ d. task.EffectClause h (handler_clause d)) (c ∷ cs)) s s refl

  parts_pushes : (h : Handling) (ns : List ℕ) (s : Inference) → Pushes s (handler_parts h ns s)
  parts_pushes h ns s =
      let a = new_variable s in
      pushes_first (term_tasks ns _) s (subject_type h a.found a.state).state (subject_tasks h.kind a.found h.handled a.state)

  handler_pushes :
      (at : Place) (cs : List EffectClause) (ns : List ℕ) (h : With Handling) → Pushes h.state (handler_first at cs ns h)
  handler_pushes at cs ns h =
      let a = first_one (task.Give h.value.given) h.state in
      let c = effect_clauses at h.value cs a in
      pushes_on h.state c (handler_first at cs ns h)
      (pushes_on h.state a c (pushes_first (task.Give h.value.given ∷ []) h.state h.state refl) (effects_pushes at h.value cs a))
      (parts_pushes h.value ns c)

  handled_pushes : (f : TermForm) (at : Place) (s : Inference) → Pushes s (handled f at s)
  unfolding handled
  handled_pushes (form.Handle kind types f a value exception cs) at s =
      handler_pushes at cs (f ∷ a ∷ value ∷ exception ∷ []) (new_handling kind types s)
  handled_pushes _ at s = pushes_none s s refl

  leaves_pushes : (v : Option ℕ) (s : Inference) → Pushes s (variable_leaves v s)
  leaves_pushes None s = pushes_none s s refl
  leaves_pushes (Some v) s = pushes_first (task.VariableWas v (known s.variables v) ∷ []) s s refl

  variable_tasks : (o : Option ℕ) (answer : ℕ) (s : Inference) → (variable_entered o answer s).tasks ≡ s.tasks
  variable_tasks None answer s = refl
  variable_tasks (Some v) answer s = refl

  parameter_tasks : (o : Option ℕ) (at : Place) (answer : ℕ) (s : Inference) → (parameter_entered o p at answer s).tasks ≡ s.tasks
  parameter_tasks None at answer s = refl
  parameter_tasks (Some w) at answer s =
      let t = written p w variables.OfItem at s in
      equated_tasks at t.found (length t.state.types.nodes)
      (record t.state { types = applied 10 (answer ∷ []) false t.state.types })
      ∙ written_tasks variables.OfItem at w s

  entered_tasks : (at : Place) (h : Handling) (answer : ℕ) (s : Inference) → (types_entered p at h answer s).tasks ≡ s.tasks
  entered_tasks at h answer s =
      parameter_tasks h.types.effect at answer (variable_entered h.types.variable answer s) ∙ variable_tasks h.types.variable
      answer s

  clause_argument_pushes : (argument type : Option ℕ) (at : Place) (s : Inference) → Pushes s (clause_argument argument type at s)
  clause_argument_pushes (Some q) (Some t) at s = whole_pushes q t s
  clause_argument_pushes None None at s = pushes_none s s refl
  clause_argument_pushes (Some q) None at s = pushes_none s (refused at s) refl
  clause_argument_pushes None (Some t) at s = pushes_none s (refused at s) refl

  effect_clause_pushes :
      (con : Constructor) (h : Handling) (c : HandlerClause) (s : Inference) → Pushes s (effect_clause_of con p h c s)
  effect_clause_pushes (constructor.Effect n) h c s =
      let made = constructed p c.effect c.place s in
      let answer = answer_of made.value.value made.state in
      let t = variable_leaves h.types.variable answer.state in
      let u = types_entered p c.place h answer.found t in
      let v = first_one (task.Resumption h c answer.found) u in
      pushes_on s v (clause_of_effect p h c made)
      (pushes_on s t v
      (pushes_on s answer.state t
      (pushes_none s answer.state (answer_tasks made.value.value made.state ∙ constructed_tasks c.effect c.place s))
      (leaves_pushes h.types.variable answer.state))
      (pushes_first (task.Resumption h c answer.found ∷ []) t u (entered_tasks c.place h answer.found t)))
      (clause_argument_pushes c.argument made.value.argument c.place v)
  effect_clause_pushes _ h c s = pushes_none s (refused c.place s) refl

  continuation_tasks : (k : HandlerKind) (r b t : ℕ) (s : Inference) → (continuation_of_kind k r b t s).state.tasks ≡ s.tasks
  continuation_tasks kind.Deep r b t s = refl
  continuation_tasks _ r b t s = refl

  resumption_pushes : (h : Handling) (c : HandlerClause) (answer : ℕ) (s : Inference) → Pushes s (resumption p h c answer s)
  resumption_pushes h c answer s =
      let k = continuation_type h answer s in
      let u = of_one_type c.continuation k.found k.state in
      pushes_first (task.TermIs c.body h.given ∷ []) s (annotated_if p c.place k.found c.annotation u)
      (annotated_tasks c.place k.found c.annotation u ∙ continuation_tasks h.kind answer h.handled h.given s)

  -- terms, by their forms
  data_pushes : (f : TermForm) (at : Place) (s : Inference) → Pushes s (data_term f p at s)
  unfolding data_term
  data_pushes (form.Tuple ns) at s = tuple_pushes (term_tasks ns) (length ns) s
  data_pushes (form.Array ns) at s = array_pushes ns s
  data_pushes (form.Constructor con) at s = construct_pushes con None at s
  data_pushes (form.Construct con n) at s = construct_pushes con (Some n) at s
  data_pushes (form.Record fs) at s = record_term_pushes fs at s
  data_pushes (form.Field field n) at s = read_field_pushes (field_owner p field) at field n s
  data_pushes (form.SetField field n value) at s = set_field_pushes (field_owner p field) at field n value s
  data_pushes (form.Primitive op ns) at s = primitive_pushes op at ns s
  data_pushes f at s = handled_pushes f at s

  match_pushes : (n a : ℕ) (s : Inference) → Pushes s (match_term n a s)
  match_pushes n a s =
      let t = new_variable s in pushes_first (task.Term a ∷ task.Clauses n t.found ∷ task.Give t.found ∷ []) s t.state refl

  plain_pushes : (f : TermForm) (n : ℕ) (at : Place) (s : Inference) → Pushes s (plain_term f p n at s)
  unfolding plain_term
  plain_pushes (form.Sequence a b) n at s = pushes_first (task.Term a ∷ task.Forget ∷ task.Term b ∷ []) s s refl
  plain_pushes (form.If test a b) n at s =
      pushes_first (task.TermIs test 1 ∷ task.Term a ∷ task.Term b ∷ task.Agree (term_place p b s) ∷ []) s s refl
  plain_pushes (form.Match a cs) n at s = match_pushes n a s
  plain_pushes (form.Catch a values exceptions) n at s = match_pushes n a s
  plain_pushes (form.Annotated a w) n at s = pushes_first (task.Term a ∷ task.Annotated (term_place p a s) w ∷ []) s s refl
  plain_pushes f n at s = data_pushes f at s

  form_pushes : (f : TermForm) (n : ℕ) (at : Place) (s : Inference) → Pushes s (term_of f p n at s)
  unfolding term_of
  form_pushes (form.Name x) n at s = ([], known_tasks (known s.names x) x s)
  form_pushes (form.Constant k) n at s = ([], refl)
  form_pushes (form.Function x body) n at s =
      let t = new_name x s in pushes_first (task.Term body ∷ task.Lambda t.found ∷ []) s t.state refl
  form_pushes (form.Apply f a) n at s =
      pushes_first (task.Term f ∷ task.Term a ∷ task.Apply (term_place p f s) (term_place p a s) ∷ []) s s refl
  form_pushes (form.Let x a body) n at s = pushes_first (task.Term a ∷ task.Name x ∷ task.Term body ∷ []) s s refl
  form_pushes (form.LetRec fs body) n at s =
      let t = first_one (task.Term body) s in
      pushes_on s t (functions_first fs t) (pushes_first (task.Term body ∷ []) s s refl) (functions_pushes fs t)
  form_pushes f n at s = plain_pushes f n at s

  node_pushes : (o : Option TermNode) (n : ℕ) (s : Inference) → Pushes s (term_node o p n s)
  node_pushes None n s = ([], refl)
  node_pushes (Some node) n s = form_pushes node.form n node.place s

  -- each task
  pub acted_pushes : (t : Task) (s : Inference) → Pushes s (acted t p s)
  unfolding acted acted_on_data acted_in_group
  acted_pushes (task.Term n) s = node_pushes (slice_get p.terms n) n s
  acted_pushes (task.TermIs n t) s = pushes_first (task.Term n ∷ task.Is (term_place p n s) t ∷ []) s s refl
  acted_pushes (task.Pattern q) s = pattern_pushes q s
  acted_pushes (task.PatternIs q t) s = pushes_first (task.Pattern q ∷ task.Is (pattern_place p q s) t ∷ []) s s refl
  acted_pushes (task.Give t) s = pushes_none s (given_back t s) refl
  acted_pushes (task.Is at t) s =
      let u = taken s in pushes_none s (equated at u.found t u.state) (equated_tasks at u.found t u.state ∙ taken_tasks s)
  acted_pushes task.Forget s = pushes_none s (taken s).state (taken_tasks s)
  acted_pushes (task.Agree at) s = pushes_none s (agreed at s) (agreed_tasks at s)
  acted_pushes (task.Annotated at w) s = pushes_none s (annotated p at w s) (annotated_term_tasks at w s)
  acted_pushes (task.Name x) s = ([], taken_tasks s)
  acted_pushes (task.Alias at x) s = pushes_none s (alias at x s) (alias_tasks at x s)
  acted_pushes (task.Lambda a) s = pushes_none s (lambda a s) (taken_tasks s)
  acted_pushes (task.Apply at here) s = pushes_none s (application at here s) (application_tasks at here s)
  acted_pushes (task.FieldIs at f vars) s = field_is_pushes at f vars s
  acted_pushes (task.FieldPatternIs at t f vars) s = field_pattern_pushes at t f vars s
  acted_pushes (task.IsMutable at field) s =
      pushes_none s (is_mutable p at field s) (mutable_so (slice_get p.field_rows field) at s)
  acted_pushes (task.Clauses n t) s = clauses_pushes n t s
  acted_pushes (task.Clause q guard body u t) s = clause_pushes q guard body u t s
  acted_pushes (task.Function f) s =
      let t = new_name f.parameter s in pushes_first (task.Term f.body ∷ task.EndFunction f t.found ∷ []) s t.state refl
  acted_pushes (task.EndFunction f a) s = pushes_none s (end_function p f a s) (end_function_tasks f a s)
  acted_pushes (task.TypeDeclared t) s = type_pushes t s
  acted_pushes (task.FieldDeclared f vars) s = field_pushes f vars s
  acted_pushes (task.VariantDeclared v vars) s = variant_pushes v vars s
  acted_pushes (task.EffectDeclared n) s = effect_row_pushes (slice_get p.effect_rows n) s
  acted_pushes (task.VariableWas v k) s = ([], refl)
  acted_pushes (task.NoClause at h) s =
      let t = new_variable s in
      let u = variable_leaves h.types.variable t.state in
      pushes_on s u (no_clause p at h s)
      (pushes_on s t.state u (pushes_none s t.state refl) (leaves_pushes h.types.variable t.state))
      (pushes_none u (no_clause p at h s) (entered_tasks at h t.found u))
  acted_pushes (task.EffectClause h c) s = effect_clause_pushes c.effect h c s
  acted_pushes (task.Resumption h c answer) s = resumption_pushes h c answer s

  -- a walk that doesn't end does all its tasks
  finished_so :
      (steps : ℕ) → ((s : Inference) → (finished steps p s).end ≡ None → (k : ℕ) × Does p [] k s.tasks s (finished steps p s))
      → (s : Inference) (o : Option End) (ts : List Task) → s.end ≡ o → s.tasks ≡ ts
      → (onward (next_of o ts s).task (next_of o ts s).state (λ t. finished steps p (acted t p (next_of o ts s).state))).end ≡ None
      → (k : ℕ) × Does p [] k ts s
      (onward (next_of o ts s).task (next_of o ts s).state (λ t. finished steps p (acted t p (next_of o ts s).state)))
  finished_so steps others s (Some e) ts is has on = absurd (cc)
  finished_so steps others s None [] is has on = (zero, (has, refl))
  finished_so steps others s None (t ∷ ts) is has on =
      let after = acted t p (left ts s) in
      let e = finished steps p after in
      let pushed = acted_pushes t (left ts s) in
      let d = others after on in
      let now : Does p [] d.0 (pushed.0 ++ ts) after e = subst (λ (xs : List Task). Does p [] d.0 xs after e) pushed.1 d.1 in
      let Rest : List Task → Type 0 = λ xs. (s.tasks ≡ t ∷ xs) × ((acted t p (left xs s)).tasks ≡ pushed.0 ++ xs)
      × Does p [] d.0 (pushed.0 ++ ts) (acted t p (left xs s)) e in
      let moved : Rest (ts ++ []) = subst Rest (sym (append_nil_at ts)) (has, pushed.1, now) in
      (suc d.0, (is, moved.0, pushed.0, moved.1, moved.2))
    where
      append_nil_at : (xs : List Task) → xs ++ [] ≡ xs
      append_nil_at [] = refl
      append_nil_at (x ∷ xs) = ap (λ (ys : List Task). x ∷ ys) (append_nil_at xs)

  pub finished_does :
      (steps : ℕ) (s : Inference) → (finished steps p s).end ≡ None → (k : ℕ) × Does p [] k s.tasks s (finished steps p s)
  unfolding finished
  finished_does zero s on = absurd (cc)
  finished_does (suc steps) s on = finished_so steps (finished_does steps) s s.end s.tasks refl refl on
