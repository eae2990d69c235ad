-- What is counted of the fields and constructors of types stays as it was while tasks are done and items are taken.
use Rattle.std.proofs.Common.{ℕ, zero, suc, List, [], ◌∷◌, length, map, Option, Some, None, Bool, true, false, ◌==◌, refl, ◌∙◌, slice_get}
use Rattle.fx_base.specs.declared.refusal.Place.{Place}
use Rattle.effect_meaning.specs.declared.core_nodes.Constructor.{Constructor}
use Rattle.effect_meaning.specs.declared.core_nodes.FieldPart.{FieldPart}
use Rattle.effect_meaning.specs.declared.core_nodes.Operation.{Operation}
use Rattle.effect_meaning.specs.declared.core_nodes.Operation.TheVariants as operation
use Rattle.effect_meaning.specs.declared.core_nodes.TermForm.{TermForm}
use Rattle.effect_meaning.specs.declared.core_nodes.TermForm.TheVariants as form
use Rattle.effect_meaning.specs.declared.core_nodes.TermNode.{TermNode}
use Rattle.effect_meaning.specs.declared.core_tables.EffectRow.{EffectRow}
use Rattle.effect_meaning.specs.declared.core_tables.FieldRow.{FieldRow}
use Rattle.effect_meaning.specs.declared.core_tables.VariantRow.{VariantRow}
use Rattle.effect_meaning.specs.Arena.{Parts}
use Rattle.type_graph.specs.declared.signatures.Signature.{Signature}
use Rattle.type_graph.specs.Graph.{argument_of, form_of}
use Rattle.type_graph.specs.Signatures.{function_added, signature_of}
use Rattle.ml_infer.specs.declared.inference.End.{End}
use Rattle.ml_infer.specs.declared.inference.Inference.{Inference}
use Rattle.ml_infer.specs.declared.tasks.GroupFunction.{GroupFunction}
use Rattle.ml_infer.specs.declared.tasks.Task.{Task}
use Rattle.ml_infer.specs.declared.tasks.Task.TheVariants as task
use Rattle.ml_infer.specs.declared.written.Variables.{Variables}
use Rattle.ml_infer.specs.Constructors.{closed, constructed, declared_argument, field_owner, instance, is_owner, unhandled}
use Rattle.ml_infer.specs.Declarations.{effect_row_declared, field_declared, field_row_declared, variant_declared, variant_row_declared}
use Rattle.ml_infer.specs.Inference.{given_back, new_variable, one_type, refused, taken}
use Rattle.ml_infer.specs.Known.{known}
use Rattle.ml_infer.specs.Members.{count_of}
use Rattle.ml_infer.specs.Tasks.{first, first_one, term_tasks}
use Rattle.ml_infer.specs.Terms.{agreed, annotated, application, applied_known, applied_unknown, argument_term, compared, construct, data_term, end_function, function_from, names_each, plain_term, primitive, read_field_of, record_counted, record_of, record_term, set_field_of, term_node, term_of}
use Rattle.ml_infer.specs.Walk.{acted, acted_in_group, acted_on_data}
use Rattle.ml_infer.specs.Written.{annotated_if, refused_unless, written}
use Rattle.inference_laws.proofs.Runs.{left}
use Rattle.ml_infer.specs.Items.{done}
use Rattle.ml_infer.specs.Walk.{finished, next_of, onward}
use Rattle.inference_laws.proofs.MembersStay.{MembersStay, either_stays, refused_stays, equated_stays, taken_stays, use_so, one_so, field_stays, written_stays, argument_stays, variables_stay, new_names_stay, annotated_stays, instance_stays, constructed_stays, named_stays, pattern_node_stays, alias_stays, clauses_so, guard_stays, handled_stays, types_entered_stay, effect_clause_so, resumption_stays}

module _ (p : Parts) where
  -- terms
  argument_term_stays : (argument type : Option ℕ) (at : Place) (s : Inference) → MembersStay s (argument_term argument type at s)
  argument_term_stays (Some q) (Some t) at s = refl
  argument_term_stays (Some q) None at s = refl
  argument_term_stays None (Some t) at s = refl
  argument_term_stays None None at s = refl

  construct_stays :
      (con : Constructor) (argument : Option ℕ) (at : Place) (s : Inference) → MembersStay s (construct con argument p at s)
  construct_stays con argument at s =
      let made = constructed p con at s in
      let t = first_one (task.Give made.value.value) made.state in
      either_stays made.state (refused at t) (argument_term argument made.value.argument at t) (unhandled con) refl
      (argument_term_stays argument made.value.argument at t)
      ∙ constructed_stays p con at s

  record_so : (o : Option ℕ) (fs : List FieldPart) (at : Place) (s : Inference) → MembersStay s (record_of o fs p at s)
  record_so None fs at s = refl
  record_so (Some t) fs at s =
      let made = instance p t s in
      let given = first_one (task.Give made.value.value) made.state in
      let c = record_counted given in
      let r = names_each p t fs given in
      either_stays r.state (first (map (λ f. task.FieldIs at f made.value.variables) fs) r.state) (refused at r.state) r.value
      refl refl
      ∙ (named_stays p t fs (record { value = length fs == count_of c.fields t; state = c }) ∙ instance_stays p t s)

  record_term_stays : (fs : List FieldPart) (at : Place) (s : Inference) → MembersStay s (record_term fs p at s)
  record_term_stays [] at s = refl
  record_term_stays (f ∷ fs) at s = record_so (field_owner p f.field) (f ∷ fs) at s

  read_so : (o : Option ℕ) (at : Place) (field n : ℕ) (s : Inference) → MembersStay s (read_field_of o p at field n s)
  read_so None at field n s = refl
  read_so (Some t) at field n s =
      let m = instance p t s in field_stays p m.value.variables at field m.state ∙ instance_stays p t s

  set_so : (o : Option ℕ) (at : Place) (field n value : ℕ) (s : Inference) → MembersStay s (set_field_of o p at field n value s)
  set_so None at field n value s = refl
  set_so (Some t) at field n value s =
      let m = instance p t s in field_stays p m.value.variables at field m.state ∙ instance_stays p t s

  mutable_so :
      (o : Option FieldRow) (at : Place) (s : Inference)
      → MembersStay s (elim o [ None ↦ s | Some row ↦ refused_unless row.is_mutable at s ])
  mutable_so None at s = refl
  mutable_so (Some row) at s = refused_stays row.is_mutable at s

  compared_stays : (op : Operation) (at : Place) (g : Signature) (s : Inference) → MembersStay s (compared op at g s)
  compared_stays (operation.Compare o) at g s = refl
  compared_stays op at g s = refl

  primitive_stays : (op : Operation) (at : Place) (ns : List ℕ) (s : Inference) → MembersStay s (primitive op at ns s)
  primitive_stays op at ns s =
      let made = signature_of op s.types in
      let g = made.signature in
      let given = first_one (task.Give g.gives) (record s { types = made.types }) in
      either_stays s (first (term_tasks ns g.parts) (compared op at g given)) (refused at given) (length ns == g.count)
      (compared_stays op at g given) refl

  data_stays : (f : TermForm) (at : Place) (s : Inference) → MembersStay s (data_term f p at s)
  unfolding data_term
  data_stays (form.Tuple ns) at s = variables_stay (length ns) s
  data_stays (form.Array ns) at s = refl
  data_stays (form.Constructor con) at s = construct_stays con None at s
  data_stays (form.Construct con n) at s = construct_stays con (Some n) at s
  data_stays (form.Record fs) at s = record_term_stays fs at s
  data_stays (form.Field field n) at s = read_so (field_owner p field) at field n s
  data_stays (form.SetField field n value) at s = set_so (field_owner p field) at field n value s
  data_stays (form.Primitive op ns) at s = primitive_stays op at ns s
  data_stays f at s = handled_stays p f at s

  plain_stays : (f : TermForm) (n : ℕ) (at : Place) (s : Inference) → MembersStay s (plain_term f p n at s)
  unfolding plain_term
  plain_stays (form.Sequence a b) n at s = refl
  plain_stays (form.If test a b) n at s = refl
  plain_stays (form.Match a cs) n at s = refl
  plain_stays (form.Catch a values exceptions) n at s = refl
  plain_stays (form.Annotated a w) n at s = refl
  plain_stays f n at s = data_stays f at s

  form_stays : (f : TermForm) (n : ℕ) (at : Place) (s : Inference) → MembersStay s (term_of f p n at s)
  unfolding term_of
  form_stays (form.Name x) n at s = use_so (known s.names x) x s
  form_stays (form.Constant k) n at s = refl
  form_stays (form.Function x body) n at s = refl
  form_stays (form.Apply f a) n at s = refl
  form_stays (form.Let x a body) n at s = refl
  form_stays (form.LetRec fs body) n at s = new_names_stay fs (first_one (task.Term body) s)
  form_stays f n at s = plain_stays f n at s

  node_stays : (o : Option TermNode) (n : ℕ) (s : Inference) → MembersStay s (term_node o p n s)
  node_stays None n s = refl
  node_stays (Some node) n s = form_stays node.form n node.place s

  -- applications, annotations and functions
  unknown_stays : (at : Place) (given found : ℕ) (s : Inference) → MembersStay s (applied_unknown at given found s)
  unknown_stays at given found s =
      let answer = new_variable s in
      let t = given_back answer.found answer.state in
      equated_stays at found (length t.types.nodes) (record t { types = function_added given answer.found t.types })

  known_stays :
      (is : Bool) (a b : Option ℕ) (at here : Place) (given found : ℕ) (s : Inference)
      → MembersStay s (applied_known is a b at here given found s)
  known_stays true (Some a) (Some b) at here given found s = equated_stays here given a (given_back b s)
  known_stays true (Some a) None at here given found s = unknown_stays at given found s
  known_stays true None b at here given found s = unknown_stays at given found s
  known_stays false a b at here given found s = unknown_stays at given found s

  application_stays : (at here : Place) (s : Inference) → MembersStay s (application at here s)
  application_stays at here s =
      let given = taken s in
      let found = taken given.state in
      let f = form_of found.state.types.nodes found.found in
      known_stays _ (argument_of found.state.types.arguments f 0) (argument_of found.state.types.arguments f 1) at here given.found
      found.found found.state
      ∙ (taken_stays given.state ∙ taken_stays s)

  agreed_stays : (at : Place) (s : Inference) → MembersStay s (agreed at s)
  agreed_stays at s =
      let second = taken s in
      let one = taken second.state in
      equated_stays at second.found one.found (given_back one.found one.state) ∙ (taken_stays second.state ∙ taken_stays s)

  annotated_term_stays : (at : Place) (w : ℕ) (s : Inference) → MembersStay s (annotated p at w s)
  annotated_term_stays at w s =
      let t = taken s in annotated_stays p at t.found (Some w) (given_back t.found t.state) ∙ taken_stays s

  end_function_stays : (f : GroupFunction) (a : ℕ) (s : Inference) → MembersStay s (end_function p f a s)
  end_function_stays f a s =
      let t = function_from a (taken s) in
      let w = annotated_if p f.place t.found f.annotation t.state in
      let u = one_type f.name w in
      equated_stays f.place t.found u.found u.state
      ∙ (one_so (known w.names f.name) f.name w ∙ (annotated_stays p f.place t.found f.annotation t.state ∙ taken_stays s))

  -- declarations
  field_row_stays :
      (o : Option FieldRow) (n : ℕ) (vars : Variables) (s : Inference) → MembersStay s (field_row_declared o p n vars s)
  field_row_stays None n vars s = refl
  field_row_stays (Some row) n vars s = written_stays p vars row.place row.annotation s

  field_declared_stays : (o : Option ℕ) (vars : Variables) (s : Inference) → MembersStay s (field_declared p o vars s)
  field_declared_stays None vars s = refl
  field_declared_stays (Some n) vars s = field_row_stays (slice_get p.field_rows n) n vars s

  variant_row_stays :
      (o : Option VariantRow) (n : ℕ) (vars : Variables) (s : Inference) → MembersStay s (variant_row_declared o p n vars s)
  variant_row_stays None n vars s = refl
  variant_row_stays (Some row) n vars s = argument_stays p vars row.place row.argument s

  variant_declared_stays : (o : Option ℕ) (vars : Variables) (s : Inference) → MembersStay s (variant_declared p o vars s)
  variant_declared_stays None vars s = refl
  variant_declared_stays (Some n) vars s = variant_row_stays (slice_get p.variant_rows n) n vars s

  effect_row_stays : (o : Option EffectRow) (s : Inference) → MembersStay s (effect_row_declared o p s)
  effect_row_stays None s = refl
  effect_row_stays (Some row) s =
      let a = declared_argument p row.argument closed row.place s in
      let t = written p row.result closed row.place a.state in
      refused_stays _ row.place t.state
      ∙ (written_stays p closed row.place row.result a.state ∙ argument_stays p closed row.place row.argument s)

  -- a task is done
  pub acted_stays : (t : Task) (s : Inference) → MembersStay s (acted t p s)
  unfolding acted acted_on_data acted_in_group
  acted_stays (task.Term n) s = node_stays (slice_get p.terms n) n s
  acted_stays (task.TermIs n t) s = refl
  acted_stays (task.Pattern q) s = pattern_node_stays p (slice_get p.patterns q) s
  acted_stays (task.PatternIs q t) s = refl
  acted_stays (task.Give t) s = refl
  acted_stays (task.Is at t) s = let u = taken s in equated_stays at u.found t u.state ∙ taken_stays s
  acted_stays task.Forget s = taken_stays s
  acted_stays (task.Agree at) s = agreed_stays at s
  acted_stays (task.Annotated at w) s = annotated_term_stays at w s
  acted_stays (task.Name x) s = taken_stays s
  acted_stays (task.Alias at x) s = alias_stays p at x s
  acted_stays (task.Lambda a) s = taken_stays s
  acted_stays (task.Apply at here) s = application_stays at here s
  acted_stays (task.FieldIs at f vars) s = field_stays p vars at f.field s
  acted_stays (task.FieldPatternIs at t f vars) s =
      let r = refused_unless (is_owner p t f.field) at s in
      field_stays p vars at f.field r ∙ refused_stays (is_owner p t f.field) at s
  acted_stays (task.IsMutable at field) s = mutable_so (slice_get p.field_rows field) at s
  acted_stays (task.Clauses n t) s = clauses_so p (slice_get p.terms n) t (taken s) ∙ taken_stays s
  acted_stays (task.Clause q guard body u t) s = guard_stays p guard (first_one (task.TermIs body t) s)
  acted_stays (task.Function f) s = refl
  acted_stays (task.EndFunction f a) s = end_function_stays f a s
  acted_stays (task.TypeDeclared t) s = instance_stays p t s
  acted_stays (task.FieldDeclared f vars) s = field_declared_stays f vars s
  acted_stays (task.VariantDeclared v vars) s = variant_declared_stays v vars s
  acted_stays (task.EffectDeclared n) s = effect_row_stays (slice_get p.effect_rows n) s
  acted_stays (task.VariableWas v k) s = refl
  acted_stays (task.NoClause at h) s = let t = new_variable s in types_entered_stay p at h t.found t.state
  acted_stays (task.EffectClause h c) s = effect_clause_so p c.effect h c s
  acted_stays (task.Resumption h c answer) s = resumption_stays p h c answer s

  -- tasks are done

  -- all tasks are done
  next_stays :
      (steps : ℕ) → ((s : Inference) → MembersStay s (finished steps p s)) → (o : Option End) (ts : List Task) (s : Inference)
      → MembersStay s
      (onward (next_of o ts s).task (next_of o ts s).state (λ t. finished steps p (acted t p (next_of o ts s).state)))
  next_stays steps others (Some e) ts s = refl
  next_stays steps others None [] s = refl
  next_stays steps others None (t ∷ ts) s = others (acted t p (left ts s)) ∙ acted_stays t (left ts s)

  finished_stays : (steps : ℕ) (s : Inference) → MembersStay s (finished steps p s)
  unfolding finished
  finished_stays zero s = refl
  finished_stays (suc steps) s = next_stays steps (finished_stays steps) s.end s.tasks s

  pub done_stays : (s : Inference) → MembersStay s (done p s)
  done_stays s = finished_stays 18446744073709551615 s
