-- What is counted of the fields and constructors of types stays as it was through the walk.
use Rattle.std.proofs.Common.{◌≡◌, ℕ, zero, suc, ◌+◌, List, [], ◌∷◌, length, Option, Some, None, Bool, true, false, not, ◌||◌, ◌&&◌, ◌==◌, refl, ◌∙◌, if◌then◌else◌, min, nat_le, nat_lt, slice_get}
use Rattle.fx_base.specs.declared.refusal.Place.{Place}
use Rattle.effect_meaning.specs.declared.core_nodes.TypeExpression.{TypeExpression}
use Rattle.effect_meaning.specs.declared.core_nodes.TypeExpression.TheVariants as type
use Rattle.effect_meaning.specs.declared.core_nodes.Constructor.{Constructor}
use Rattle.effect_meaning.specs.declared.core_nodes.Constructor.TheVariants as constructor
use Rattle.effect_meaning.specs.declared.core_nodes.EffectClause.{EffectClause}
use Rattle.effect_meaning.specs.declared.core_nodes.FieldPart.{FieldPart}
use Rattle.effect_meaning.specs.declared.core_nodes.Function.{Function}
use Rattle.effect_meaning.specs.declared.core_nodes.HandlerKind.{HandlerKind}
use Rattle.effect_meaning.specs.declared.core_nodes.HandlerKind.TheVariants as kind
use Rattle.effect_meaning.specs.declared.core_nodes.PatternForm.{PatternForm}
use Rattle.effect_meaning.specs.declared.core_nodes.PatternForm.TheVariants as pat
use Rattle.effect_meaning.specs.declared.core_nodes.PatternNode.{PatternNode}
use Rattle.effect_meaning.specs.declared.core_nodes.TermForm.{TermForm}
use Rattle.effect_meaning.specs.declared.core_nodes.TermForm.TheVariants as form
use Rattle.effect_meaning.specs.declared.core_nodes.TermNode.{TermNode}
use Rattle.effect_meaning.specs.declared.core_tables.EffectRow.{EffectRow}
use Rattle.effect_meaning.specs.declared.core_tables.ExceptionRow.{ExceptionRow}
use Rattle.effect_meaning.specs.declared.core_tables.FieldRow.{FieldRow}
use Rattle.effect_meaning.specs.declared.core_tables.VariantRow.{VariantRow}
use Rattle.effect_meaning.specs.Arena.{Parts}
use Rattle.type_graph.specs.Graph.{applied, argument_of, form_of}
use Rattle.type_graph.specs.Unified.{Unified, unified}
use Rattle.ml_infer.specs.declared.inference.End.{End}
use Rattle.ml_infer.specs.declared.inference.End.TheVariants as ends
use Rattle.ml_infer.specs.declared.inference.Inference.{Inference}
use Rattle.ml_infer.specs.declared.inference.KnownVariable.{KnownVariable}
use Rattle.ml_infer.specs.declared.inference.NameType.{NameType}
use Rattle.ml_infer.specs.declared.inference.NameType.TheVariants.{One, Generalised}
use Rattle.ml_infer.specs.declared.members.Members.{Members}
use Rattle.ml_infer.specs.declared.tasks.HandlerClause.{HandlerClause}
use Rattle.ml_infer.specs.declared.tasks.Handling.{Handling}
use Rattle.ml_infer.specs.declared.tasks.Task.TheVariants as task
use Rattle.ml_infer.specs.declared.written.Variables.{Variables}
use Rattle.ml_infer.specs.declared.written.Variables.TheVariants as variables
use Rattle.ml_infer.specs.declared.written.Visit.{Visit}
use Rattle.ml_infer.specs.declared.written.Visit.TheVariants as visit
use Rattle.ml_infer.specs.Constructors.{answer_in, answer_of, closed, constructed, constructed_effect_of, constructed_exception_of, constructed_variant_of, declared_argument, field_owner, field_type, field_type_of, instance, new_variables, parameter_count, unhandled}
use Rattle.ml_infer.specs.Handlers.{clause_argument, clause_for, continuation_of_kind, continuation_type, effect_clause_of, effect_clauses, handled, handler_parts, new_handling, parameter_entered, resumption, subject_of_kind, types_entered, variable_entered, variable_leaves}
use Rattle.ml_infer.specs.Inference.{Gives, With, equated, equated_while, given_back, gives, new_name, new_variable, of_one_type, one_of_known, refused, taken, taken_equation, taken_from, type_of_known, variable_noted}
use Rattle.ml_infer.specs.Known.{known}
use Rattle.ml_infer.specs.Patterns.{alias, argument_pattern, bound, bound_as, clauses_in, clauses_of, constructor_pattern, fields_pattern, first_guard, is_any, joined_pattern, new_bound, pattern_node, pattern_of, record_pattern}
use Rattle.ml_infer.specs.Tasks.{first, first_one}
use Rattle.ml_infer.specs.Terms.{named_each, names_new, new_names}
use Rattle.ml_infer.specs.Written.{annotated_if, entered_type, item_variable_of, left_type, read_before, reading, refused_unless, takes, type_variable, visited, visited_one, written}
use Rattle.inference_laws.proofs.Runs.{left}

-- the fields and the constructors of types, as they are counted in a state, and the types of definitions
abbrev pub members_of : Inference → Members × Members × List ℕ
members_of s = (s.fields, s.variants, s.definitions)

-- they stay so from one state to another one
abbrev pub MembersStay : (s t : Inference) → Type 0
MembersStay s t = members_of t ≡ members_of s

-- where a choice is made they stay if they do both ways
pub either_stays : (s t u : Inference) (b : Bool) → MembersStay s t → MembersStay s u → MembersStay s (if b then t else u)
either_stays s t u true h k = h
either_stays s t u false h k = k

pub refused_stays : (is : Bool) (at : Place) (s : Inference) → MembersStay s (refused_unless is at s)
refused_stays is at s = either_stays s s (refused at s) is refl refl

-- two types are made equal, or clash
equation_stays : (at : Place) (u : Unified) (s : Inference) → MembersStay s (taken_equation at u s)
equation_stays at u s =
    either_stays s
    (record s { types = u.types; equations = min (s.equations + 1) 18446744073709551615; last = at })
    (record s { types = u.types; end = Some (ends.Fault at) }) u.fits refl refl

equated_so : (o : Option End) (at : Place) (a b : ℕ) (s : Inference) → MembersStay s (equated_while o at a b s)
equated_so (Some e) at a b s = refl
equated_so None at a b s =
    let u = unified 18446744073709551615 ((a, b) ∷ []) s.types in
    either_stays s (record s { end = Some ends.Stopped }) (taken_equation at u s) (nat_le s.most s.equations) refl
    (equation_stays at u s)

pub equated_stays : (at : Place) (a b : ℕ) (s : Inference) → MembersStay s (equated at a b s)
equated_stays at a b s = equated_so s.end at a b s

-- a type is taken
taken_so : (ts : List ℕ) (s : Inference) → MembersStay s (taken_from ts s).state
taken_so [] s = refl
taken_so (t ∷ ts) s = refl

pub taken_stays : (s : Inference) → MembersStay s (taken s).state
taken_stays s = taken_so s.given s

-- the types of names
pub use_so : (o : Option NameType) (x : ℕ) (s : Inference) → MembersStay s (type_of_known o x s).state
use_so None x s = refl
use_so (Some (One t q)) x s = refl
use_so (Some (Generalised t)) x s = refl

pub one_so : (o : Option NameType) (x : ℕ) (s : Inference) → MembersStay s (one_of_known o x s).state
one_so None x s = refl
one_so (Some (One t q)) x s = refl
one_so (Some (Generalised t)) x s = refl

bound_so : (o : Option NameType) (x : ℕ) (s : Inference) → MembersStay s (bound_as o x s).state
bound_so None x s = refl
bound_so (Some (One t q)) x s =
    elim (q == s.pattern) as (λ b. MembersStay s (if b then gives t s else new_bound x s).state) [ true ↦ refl | false ↦ refl ]
bound_so (Some (Generalised t)) x s = refl

-- a written type is read
module _ (p : Parts) (vars : Variables) (at : Place) where
  item_variable_so : (v : ℕ) (o : Option KnownVariable) (s : Inference) → MembersStay s (item_variable_of o v s).state
  item_variable_so v None s = refl
  item_variable_so v (Some k) s =
      let t = new_variable s in
      elim (k.item == s.item)
      as (λ b. MembersStay s (if b then gives k.found s else gives t.found (variable_noted v t.found t.state)).state) [
        | true ↦ refl
        | false ↦ refl
      ]

  type_variable_stays : (some : Variables) (v : ℕ) (s : Inference) → MembersStay s (type_variable some v s).state
  type_variable_stays variables.OfItem v s = item_variable_so v (known s.variables v) s
  type_variable_stays (variables.Parameters first count) v s =
      elim (nat_lt v count)
      as (λ b. MembersStay s (if b then gives (min (first + v) 4294967295) s else new_variable s).state) [
        | true ↦ refl
        | false ↦ refl
      ]

  entered_stays :
      (o : Option TypeExpression) (n : ℕ) (vs : List Visit) (s : Inference) → MembersStay s (entered_type o p vars at n vs s).state
  entered_stays (Some (type.Variable v)) n vs s = type_variable_stays vars v s
  entered_stays (Some (type.Applied c ns)) n vs s = refused_stays (takes p c (length ns)) at s
  entered_stays (Some type.Any) n vs s = refl
  entered_stays None n vs s = refl

  left_stays : (o : Option TypeExpression) (n : ℕ) (s : Inference) → MembersStay s (left_type o n s)
  left_stays (Some (type.Applied c ns)) n s = refl
  left_stays (Some (type.Variable v)) n s = refl
  left_stays (Some type.Any) n s = refl
  left_stays None n s = refl

  visit_stays : (v : Visit) (vs : List Visit) (s : Inference) → MembersStay s (visited_one p vars at v vs s).state
  visit_stays (visit.Enter n) vs s =
      elim (read_before s.read n)
      as (λ b. MembersStay s (if b then reading vs s else entered_type (slice_get p.types n) p vars at n vs s).state) [
        | true ↦ refl
        | false ↦ entered_stays (slice_get p.types n) n vs s
      ]
  visit_stays (visit.Leave n) vs s = left_stays (slice_get p.types n) n s

  visits_stay : (steps : ℕ) (vs : List Visit) (s : Inference) → MembersStay s (visited steps p vars at vs s)
  unfolding visited
  visits_stay steps [] s = refl
  visits_stay zero (v ∷ vs) s = refl
  visits_stay (suc steps) (v ∷ vs) s =
      let r = visited_one p vars at v vs s in visits_stay steps r.visits r.state ∙ visit_stays v vs s

  pub written_stays : (n : ℕ) (s : Inference) → MembersStay s (written p n vars at s).state
  written_stays n s = visits_stay 18446744073709551615 (visit.Enter n ∷ []) s

  -- the argument of a declaration
  pub argument_stays : (o : Option ℕ) (s : Inference) → MembersStay s (declared_argument p o vars at s).state
  argument_stays None s = refl
  argument_stays (Some w) s = written_stays w s

  field_so : (o : Option FieldRow) (s : Inference) → MembersStay s (field_type_of o p vars at s).state
  field_so None s = refl
  field_so (Some row) s = written_stays row.annotation s

  pub field_stays : (n : ℕ) (s : Inference) → MembersStay s (field_type p n vars at s).state
  field_stays n s = field_so (slice_get p.field_rows n) s

-- new variables
pub variables_stay : (many : ℕ) (s : Inference) → MembersStay s (new_variables many s).state
unfolding new_variables
variables_stay zero s = refl
variables_stay (suc many) s = variables_stay many (new_variable s).state

pub new_names_stay : (fs : List Function) (s : Inference) → MembersStay s (new_names fs s)
new_names_stay [] s = refl
new_names_stay (f ∷ fs) s = new_names_stay fs (new_name f.name s).state

module _ (p : Parts) where
  pub annotated_stays : (at : Place) (t : ℕ) (w : Option ℕ) (s : Inference) → MembersStay s (annotated_if p at t w s)
  annotated_stays at t None s = refl
  annotated_stays at t (Some w) s =
      let u = written p w variables.OfItem at s in equated_stays at t u.found u.state ∙ written_stays p variables.OfItem at w s

  pub instance_stays : (t : ℕ) (s : Inference) → MembersStay s (instance p t s).state
  instance_stays t s = variables_stay (parameter_count p t) s

  -- constructors
  variant_so : (o : Option VariantRow) (at : Place) (s : Inference) → MembersStay s (constructed_variant_of o p at s).state
  variant_so None at s = refl
  variant_so (Some row) at s =
      let m = instance p row.of_type s in argument_stays p m.value.variables at row.argument m.state ∙ instance_stays row.of_type s

  exception_so : (o : Option ExceptionRow) (at : Place) (s : Inference) → MembersStay s (constructed_exception_of o p at s).state
  exception_so None at s = refl
  exception_so (Some row) at s = argument_stays p closed at row.argument s

  effect_so : (o : Option EffectRow) (at : Place) (s : Inference) → MembersStay s (constructed_effect_of o p at s).state
  effect_so None at s = refl
  effect_so (Some row) at s =
      let a = declared_argument p row.argument closed at s in
      written_stays p closed at row.result a.state ∙ argument_stays p closed at row.argument s

  pub constructed_stays : (con : Constructor) (at : Place) (s : Inference) → MembersStay s (constructed p con at s).state
  unfolding constructed
  constructed_stays (constructor.Variant n) at s = variant_so (slice_get p.variant_rows n) at s
  constructed_stays (constructor.Exception n) at s = exception_so (slice_get p.exception_rows n) at s
  constructed_stays (constructor.Effect n) at s = effect_so (slice_get p.effect_rows n) at s

  answer_so : (o : Option ℕ) (s : Inference) → MembersStay s (answer_in o s).state
  answer_so None s = refl
  answer_so (Some t) s = refl

  -- the names of a record expression
  pub named_stays : (t : ℕ) (fs : List FieldPart) (r : With Bool) → MembersStay r.state (named_each p t fs r).state
  named_stays t [] r = refl
  named_stays t (f ∷ fs) r =
      let o = names_new p t f.field r.state in named_stays t fs (record { value = r.value && o.value; state = o.state })

  -- patterns
  argument_pattern_stays :
      (argument type : Option ℕ) (other : Bool) (at : Place) (s : Inference)
      → MembersStay s (argument_pattern argument type other p at s)
  argument_pattern_stays (Some q) (Some t) other at s = refused_stays (other || is_any p q) at s
  argument_pattern_stays (Some q) None other at s = refl
  argument_pattern_stays None (Some t) other at s = refl
  argument_pattern_stays None None other at s = refl

  constructor_pattern_stays :
      (con : Constructor) (argument : Option ℕ) (at : Place) (s : Inference)
      → MembersStay s (constructor_pattern con argument p at s)
  constructor_pattern_stays con argument at s =
      let made = constructed p con at s in
      argument_pattern_stays argument made.value.argument (not (unhandled con)) at
      (first_one (task.Give made.value.value) made.state)
      ∙ constructed_stays con at s

  fields_pattern_stays :
      (o : Option ℕ) (fs : List FieldPart) (at : Place) (s : Inference) → MembersStay s (fields_pattern o fs p at s)
  fields_pattern_stays None fs at s = refl
  fields_pattern_stays (Some t) fs at s = instance_stays t s

  record_pattern_stays : (fs : List FieldPart) (at : Place) (s : Inference) → MembersStay s (record_pattern fs p at s)
  record_pattern_stays [] at s = refl
  record_pattern_stays (f ∷ fs) at s = fields_pattern_stays (field_owner p f.field) (f ∷ fs) at s

  joined_stays : (q : PatternForm) (at : Place) (s : Inference) → MembersStay s (joined_pattern q p at s)
  unfolding joined_pattern
  joined_stays (pat.Or left right) at s = refl
  joined_stays (pat.Alias q x) at s = refl
  joined_stays (pat.Annotated q w) at s = refl
  joined_stays q at s = refl

  pattern_form_stays : (q : PatternForm) (at : Place) (s : Inference) → MembersStay s (pattern_of q p at s)
  unfolding pattern_of
  pattern_form_stays pat.Any at s = refl
  pattern_form_stays (pat.Name x) at s = bound_so (known s.names x) x s
  pattern_form_stays (pat.Constant k) at s = refl
  pattern_form_stays (pat.Tuple qs) at s = variables_stay (length qs) s
  pattern_form_stays (pat.Constructor con) at s = constructor_pattern_stays con None at s
  pattern_form_stays (pat.Construct con q) at s = constructor_pattern_stays con (Some q) at s
  pattern_form_stays (pat.Record fs) at s = record_pattern_stays fs at s
  pattern_form_stays q at s = joined_stays q at s

  pub pattern_node_stays : (o : Option PatternNode) (s : Inference) → MembersStay s (pattern_node o p s)
  pattern_node_stays None s = refl
  pattern_node_stays (Some node) s = pattern_form_stays node.form node.place s

  pub alias_stays : (at : Place) (x : ℕ) (s : Inference) → MembersStay s (alias at x s)
  alias_stays at x s =
      let t = taken s in
      let u = given_back t.found t.state in
      let b = bound x u in equated_stays at b.found t.found b.state ∙ (bound_so (known u.names x) x u ∙ taken_stays s)

  clauses_form_stays : (f : TermForm) (u t : ℕ) (s : Inference) → MembersStay s (clauses_of f u t s)
  unfolding clauses_of
  clauses_form_stays (form.Match a cs) u t s = refl
  clauses_form_stays (form.Catch a values exceptions) u t s = refl
  clauses_form_stays f u t s = refl

  pub clauses_so : (o : Option TermNode) (t : ℕ) (u : Gives) → MembersStay u.state (clauses_in o t u)
  clauses_so None t u = refl
  clauses_so (Some node) t u = clauses_form_stays node.form u.found t u.state

  pub guard_stays : (guard : Option ℕ) (s : Inference) → MembersStay s (first_guard guard s)
  guard_stays None s = refl
  guard_stays (Some g) s = refl

  -- handlers
  effect_clauses_stay :
      (at : Place) (h : Handling) (cs : List EffectClause) (s : Inference) → MembersStay s (effect_clauses at h cs s)
  effect_clauses_stay at h [] s = refl
  effect_clauses_stay at h (c ∷ cs) s = refl

  subject_stays : (k : HandlerKind) (a b : ℕ) (s : Inference) → MembersStay s (subject_of_kind k a b s).state
  subject_stays kind.Deep a b s = refl
  subject_stays kind.ShallowContinue a b s = refl
  subject_stays kind.ShallowDiscontinue a b s = refl

  parts_stay : (h : Handling) (ns : List ℕ) (s : Inference) → MembersStay s (handler_parts h ns s)
  parts_stay h ns s = let a = new_variable s in subject_stays h.kind a.found h.handled a.state

  pub handled_stays : (f : TermForm) (at : Place) (s : Inference) → MembersStay s (handled f at s)
  unfolding handled
  handled_stays (form.Handle k types f a value exception cs) at s =
      let h = new_handling k types s in
      let given = first_one (task.Give h.value.given) h.state in
      parts_stay h.value (f ∷ a ∷ value ∷ exception ∷ []) (effect_clauses at h.value cs given)
      ∙ effect_clauses_stay at h.value cs given
  handled_stays f at s = refl

  leaves_stay : (o : Option ℕ) (s : Inference) → MembersStay s (variable_leaves o s)
  leaves_stay None s = refl
  leaves_stay (Some v) s = refl

  entered_variable_stays : (o : Option ℕ) (answer : ℕ) (s : Inference) → MembersStay s (variable_entered o answer s)
  entered_variable_stays None answer s = refl
  entered_variable_stays (Some v) answer s = refl

  parameter_stays : (o : Option ℕ) (at : Place) (answer : ℕ) (s : Inference) → MembersStay s (parameter_entered o p at answer s)
  parameter_stays None at answer s = refl
  parameter_stays (Some w) at answer s =
      let t = written p w variables.OfItem at s in
      equated_stays at t.found (length t.state.types.nodes)
      (record t.state { types = applied 10 (answer ∷ []) false t.state.types })
      ∙ written_stays p variables.OfItem at w s

  pub types_entered_stay :
      (at : Place) (h : Handling) (answer : ℕ) (s : Inference)
      → MembersStay s (types_entered p at h answer (variable_leaves h.types.variable s))
  types_entered_stay at h answer s =
      let t = variable_leaves h.types.variable s in
      parameter_stays h.types.effect at answer (variable_entered h.types.variable answer t)
      ∙ (entered_variable_stays h.types.variable answer t ∙ leaves_stay h.types.variable s)

  clause_argument_stays :
      (argument type : Option ℕ) (at : Place) (s : Inference) → MembersStay s (clause_argument argument type at s)
  clause_argument_stays (Some q) (Some t) at s = refl
  clause_argument_stays (Some q) None at s = refl
  clause_argument_stays None (Some t) at s = refl
  clause_argument_stays None None at s = refl

  clause_for_stays :
      (h : Handling) (c : HandlerClause) (o : Option ℕ) (answer : Gives) → MembersStay answer.state (clause_for p h c o answer)
  clause_for_stays h c o answer =
      clause_argument_stays c.argument o c.place
      (first_one (task.Resumption h c answer.found)
      (types_entered p c.place h answer.found (variable_leaves h.types.variable answer.state)))
      ∙ types_entered_stay c.place h answer.found answer.state

  pub effect_clause_so :
      (con : Constructor) (h : Handling) (c : HandlerClause) (s : Inference) → MembersStay s (effect_clause_of con p h c s)
  effect_clause_so (constructor.Variant n) h c s = refl
  effect_clause_so (constructor.Exception n) h c s = refl
  effect_clause_so (constructor.Effect n) h c s =
      let made = constructed p c.effect c.place s in
      let t = made.value.value in
      let answer = answer_of t made.state in
      clause_for_stays h c made.value.argument answer
      ∙ (answer_so (argument_of made.state.types.arguments (form_of made.state.types.nodes t) 0) made.state
      ∙ constructed_stays c.effect c.place s)

  continuation_stays : (k : HandlerKind) (r b t : ℕ) (s : Inference) → MembersStay s (continuation_of_kind k r b t s).state
  continuation_stays kind.Deep r b t s = refl
  continuation_stays kind.ShallowContinue r b t s = refl
  continuation_stays kind.ShallowDiscontinue r b t s = refl

  pub resumption_stays : (h : Handling) (c : HandlerClause) (answer : ℕ) (s : Inference) → MembersStay s (resumption p h c answer s)
  resumption_stays h c answer s =
      let k = continuation_type h answer s in
      annotated_stays c.place k.found c.annotation (of_one_type c.continuation k.found k.state)
      ∙ continuation_stays h.kind answer h.handled h.given s
