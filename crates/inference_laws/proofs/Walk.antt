-- What is kept where declarations are checked, and where tasks are done.
use Rattle.std.proofs.Common.{◌≡◌, ℕ, zero, suc, List, [], ◌∷◌, length, Option, Some, None, refl, arith, slice_get, subst}
use Rattle.std.specs.List.{AllByRecursion}
use Rattle.fx_base.specs.declared.refusal.Place.{Place}
use Rattle.effect_meaning.specs.declared.core_nodes.TermForm.{TermForm}
use Rattle.effect_meaning.specs.declared.core_nodes.TermForm.TheVariants as form
use Rattle.effect_meaning.specs.declared.core_nodes.TermNode.{TermNode}
use Rattle.effect_meaning.specs.declared.core_tables.EffectRow.{EffectRow}
use Rattle.effect_meaning.specs.declared.core_tables.ExceptionRow.{ExceptionRow}
use Rattle.effect_meaning.specs.declared.core_tables.FieldRow.{FieldRow}
use Rattle.effect_meaning.specs.declared.core_tables.VariantRow.{VariantRow}
use Rattle.effect_meaning.specs.Arena.{Parts}
use Rattle.type_graph.specs.Graph.{form_of, is_of}
use Rattle.ml_infer.specs.declared.inference.End.{End}
use Rattle.ml_infer.specs.declared.inference.Inference.{Inference}
use Rattle.ml_infer.specs.declared.inference.NameType.TheVariants.{One}
use Rattle.ml_infer.specs.declared.tasks.Task.{Task}
use Rattle.ml_infer.specs.declared.tasks.Task.TheVariants as task
use Rattle.ml_infer.specs.declared.written.Variables.{Variables}
use Rattle.ml_infer.specs.Constructors.{closed, declared_argument, instance}
use Rattle.ml_infer.specs.Declarations.{effect_declared, effect_row_declared, exception_declared, exception_row_declared, field_declared, field_row_declared, type_declared, variant_declared, variant_row_declared}
use Rattle.ml_infer.specs.Inference.{new_name, pattern_place, taken, term_place, type_of_name}
use Rattle.ml_infer.specs.Members.{first_of, next_of as row_behind}
use Rattle.ml_infer.specs.Tasks.{first, first_one}
use Rattle.ml_infer.specs.Terms.{data_term, plain_term, term, term_node, term_of}
use Rattle.ml_infer.specs.Walk.{acted, acted_in_group, acted_on_data, finished, next_of, onward}
use Rattle.ml_infer.specs.Written.{written}
use Rattle.inference_laws.specs.Whole.{TaskIsThere}
use Rattle.inference_laws.proofs.Kept.{Kept, Roomy, Has, kept_here, has_later}
use Rattle.inference_laws.proofs.Fields.{first_kept, first_one_kept, given_kept, left_kept, name_kept, refused_unless_kept, stopped_kept, variable_was_kept}
use Rattle.inference_laws.proofs.GraphLaws.{GraphLaws}
use Rattle.inference_laws.proofs.Steps.{equated_kept, named_is, named_kept, taken_kept, use_kept}
use Rattle.inference_laws.proofs.Written.{HasVariables, has_variables_later, written_kept}
use Rattle.inference_laws.proofs.Constructors.{argument_made, has_built_in, instance_made}
use Rattle.inference_laws.proofs.Patterns.{alias_kept, clause_kept, clauses_kept, constant_given, field_pattern_kept, found_given, pattern_kept, tuple_kept}
use Rattle.inference_laws.proofs.Terms.{agreed_kept, annotated_term_kept, application_kept, array_kept, construct_kept, end_function_kept, field_is_kept, function_begun_kept, functions_kept, is_mutable_kept, lambda_kept, match_kept, primitive_kept, read_field_kept, record_term_kept, set_field_kept}
use Rattle.inference_laws.proofs.Handlers.{effect_clause_kept, handled_kept, no_clause_kept, resumption_kept}

module _ (l : GraphLaws) (p : Parts) (s0 s : Inference) (kept : Kept s0 s) where
  -- a type that is declared
  type_kept : (t : ℕ) → Kept s0 (type_declared p t s)
  type_kept t =
      let made = instance p t s in
      let k = instance_made l p t s0 s kept in
      let vars = made.value.variables in
      first_kept s0 made.state
      (task.FieldDeclared (first_of made.state.fields t) vars ∷ task.VariantDeclared
      (first_of made.state.variants t) vars ∷ []) k.kept
      (λ room. (k.variables room, (k.variables room, tt)))

  module _ (vars : Variables) (there : HasVariables s vars) where
    -- a field that is declared
    field_row_kept : (o : Option FieldRow) (n : ℕ) → Kept s0 (field_row_declared o p n vars s)
    field_row_kept None n = kept
    field_row_kept (Some row) n =
        let t = written p row.annotation vars row.place s in
        let k = written_kept l p vars row.place s0 s row.annotation kept there in
        let here = written_kept l p vars row.place s s row.annotation (kept_here s0 s kept) there in
        first_one_kept s0 t.state (task.FieldDeclared (row_behind t.state.fields n) vars) k.0
        (has_variables_later s t.state vars here.0 there)

    field_kept : (o : Option ℕ) → Kept s0 (field_declared p o vars s)
    field_kept None = kept
    field_kept (Some n) = field_row_kept (slice_get p.field_rows n) n

    -- a constructor that is declared
    variant_row_kept : (o : Option VariantRow) (n : ℕ) → Kept s0 (variant_row_declared o p n vars s)
    variant_row_kept None n = kept
    variant_row_kept (Some row) n =
        let a = declared_argument p row.argument vars row.place s in
        let k = argument_made l p vars row.place s0 s kept there row.argument in
        let here = argument_made l p vars row.place s s (kept_here s0 s kept) there row.argument in
        first_one_kept s0 a.state (task.VariantDeclared (row_behind a.state.variants n) vars) k.0
        (has_variables_later s a.state vars here.0 there)

    variant_kept : (o : Option ℕ) → Kept s0 (variant_declared p o vars s)
    variant_kept None = kept
    variant_kept (Some n) = variant_row_kept (slice_get p.variant_rows n) n

  -- an exception that is declared
  exception_row_kept : (o : Option ExceptionRow) → Kept s0 (exception_row_declared o p s)
  exception_row_kept None = kept
  exception_row_kept (Some row) = (argument_made l p closed row.place s0 s kept (λ room. omega arith) row.argument).0

  pub exception_kept : (n : ℕ) → Kept s0 (exception_declared p n s)
  exception_kept n = exception_row_kept (slice_get p.exception_rows n)

  -- an effect that is declared
  effect_row_kept : (o : Option EffectRow) → Kept s0 (effect_row_declared o p s)
  effect_row_kept None = kept
  effect_row_kept (Some row) =
      let a = declared_argument p row.argument closed row.place s in
      let k = argument_made l p closed row.place s0 s kept (λ room. omega arith) row.argument in
      let t = written p row.result closed row.place a.state in
      let m = written_kept l p closed row.place s0 a.state row.result k.0 (λ room. omega arith) in
      refused_unless_kept s0 t.state (is_of (form_of t.state.types.nodes t.found) 10 1) row.place m.0

  effect_kept : (n : ℕ) → Kept s0 (effect_declared p n s)
  effect_kept n = effect_row_kept (slice_get p.effect_rows n)

  -- tasks without types come first
  parts_first : (ts : List Task) → ((types : ℕ) → AllByRecursion (TaskIsThere types) ts) → Kept s0 (first ts s)
  parts_first ts there = first_kept s0 s ts kept (λ room. there (length s.types.nodes))

  -- tuples, arrays, constructors, records and operations
  data_kept : (f : TermForm) (at : Place) → Kept s0 (data_term f p at s)
  unfolding data_term
  data_kept (form.Tuple ns) at = tuple_kept l p s0 s (length ns) (λ x. task.TermIs x.0 x.1) ns (λ types x lt. lt) kept
  data_kept (form.Array ns) at = array_kept l p s0 s kept ns
  data_kept (form.Constructor con) at = construct_kept l p s0 s kept con None at
  data_kept (form.Construct con n) at = construct_kept l p s0 s kept con (Some n) at
  data_kept (form.Record fs) at = record_term_kept l p s0 s kept fs at
  data_kept (form.Field field n) at = read_field_kept l p s0 s kept at field n
  data_kept (form.SetField field n value) at = set_field_kept l p s0 s kept at field n value
  data_kept (form.Primitive op ns) at = primitive_kept l p s0 s op at ns kept
  data_kept f at = handled_kept l s0 s f at kept

  plain_kept : (f : TermForm) (n : ℕ) (at : Place) → Kept s0 (plain_term f p n at s)
  unfolding plain_term
  plain_kept (form.Sequence a b) n at = parts_first (task.Term a ∷ task.Forget ∷ task.Term b ∷ []) (λ types. (tt, (tt, (tt, tt))))
  plain_kept (form.If test a b) n at =
      first_kept s0 s (task.TermIs test 1 ∷ task.Term a ∷ task.Term b ∷ task.Agree (term_place p b s) ∷ []) kept
      (λ room. (has_built_in s0 s 1 kept (omega arith) room, (tt, (tt, (tt, tt)))))
  plain_kept (form.Match a cs) n at = match_kept l p s0 s n a kept
  plain_kept (form.Catch a values exceptions) n at = match_kept l p s0 s n a kept
  plain_kept (form.Annotated a w) n at =
      parts_first (task.Term a ∷ task.Annotated (term_place p a s) w ∷ []) (λ types. (tt, (tt, tt)))
  plain_kept f n at = data_kept f at

  -- the equations of a term, as long as the walk goes on
  form_kept : (f : TermForm) (n : ℕ) (at : Place) → s.end ≡ None → Kept s0 (term_of f p n at s)
  unfolding term_of
  form_kept (form.Name x) n at on = found_given s0 (type_of_name x s) (use_kept l s0 s kept x on)
  form_kept (form.Constant k) n at on = constant_given l p s0 s kept k
  form_kept (form.Function x body) n at on =
      let t = new_name x s in
      let k = named_kept l s0 s kept x in
      let has = named_is l s0 s kept x in
      first_kept s0 t.state (task.Term body ∷ task.Lambda t.found ∷ []) k (λ room. (tt, (has room, tt)))
  form_kept (form.Apply f a) n at on =
      parts_first (task.Term f ∷ task.Term a ∷ task.Apply (term_place p f s) (term_place p a s) ∷ [])
      (λ types. (tt, (tt, (tt, tt))))
  form_kept (form.Let x a body) n at on =
      parts_first (task.Term a ∷ task.Name x ∷ task.Term body ∷ []) (λ types. (tt, (tt, (tt, tt))))
  form_kept (form.LetRec fs body) n at on =
      functions_kept l p s0 (first_one (task.Term body) s) (first_one_kept s0 s (task.Term body) kept (λ room. tt)) fs
  form_kept f n at on = plain_kept f n at

  node_kept : (o : Option TermNode) (n : ℕ) → s.end ≡ None → Kept s0 (term_node o p n s)
  node_kept None n on = given_kept s0 s 4 kept (has_built_in s0 s 4 kept (omega arith))
  node_kept (Some node) n on = form_kept node.form n node.place on

  pub term_kept : (n : ℕ) → s.end ≡ None → Kept s0 (term p n s)
  term_kept n on = node_kept (slice_get p.terms n) n on

  -- a type is taken, which is this one
  is_kept : (at : Place) (t : ℕ) → Has s t → Kept s0 (acted (task.Is at t) p s)
  unfolding acted
  is_kept at t has =
      let u = taken s in
      let k = taken_kept l s0 s kept in
      let here = taken_kept l s s (kept_here s0 s kept) in
      equated_kept l s0 u.state at u.found t k.0 k.1 (has_later s u.state t here.0 has)

  -- a task is done
  pub acted_kept : (t : Task) → s.end ≡ None → Roomy s (λ types. TaskIsThere types t) → Kept s0 (acted t p s)
  unfolding acted acted_on_data acted_in_group
  acted_kept (task.Term n) on there = term_kept n on
  acted_kept (task.TermIs n t) on there =
      first_kept s0 s (task.Term n ∷ task.Is (term_place p n s) t ∷ []) kept (λ room. (tt, (there room, tt)))
  acted_kept (task.Pattern q) on there = pattern_kept l p s0 s kept q
  acted_kept (task.PatternIs q t) on there =
      first_kept s0 s (task.Pattern q ∷ task.Is (pattern_place p q s) t ∷ []) kept (λ room. (tt, (there room, tt)))
  acted_kept (task.Give t) on there = given_kept s0 s t kept there
  acted_kept (task.Is at t) on there = is_kept at t there
  acted_kept task.Forget on there = (taken_kept l s0 s kept).0
  acted_kept (task.Agree at) on there = agreed_kept l p s0 s at kept
  acted_kept (task.Annotated at w) on there = annotated_term_kept l p s0 s at w kept
  acted_kept (task.Name x) on there =
      let t = taken s in
      let k = taken_kept l s0 s kept in name_kept s0 t.state x (One t.found t.state.pattern) k.0 k.1 (omega arith)
  acted_kept (task.Alias at x) on there = alias_kept l p s0 s kept at x
  acted_kept (task.Lambda a) on there = lambda_kept l p s0 s a kept there
  acted_kept (task.Apply at here) on there = application_kept l p s0 s at here kept
  acted_kept (task.FieldIs at f vars) on there = field_is_kept l p s0 s kept at f vars there
  acted_kept (task.FieldPatternIs at t f vars) on there = field_pattern_kept l p s0 s kept at t f vars there
  acted_kept (task.IsMutable at field) on there = is_mutable_kept l p s0 s kept at field
  acted_kept (task.Clauses n t) on there = clauses_kept l p s0 s n t kept there
  acted_kept (task.Clause q guard body u t) on there =
      clause_kept l p s0 s q guard body u t kept (λ room. (there room).0) (λ room. (there room).1)
  acted_kept (task.Function f) on there = function_begun_kept l p s0 s kept f
  acted_kept (task.EndFunction f a) on there = end_function_kept l p s0 s f a kept there
  acted_kept (task.TypeDeclared t) on there = type_kept t
  acted_kept (task.FieldDeclared f vars) on there = field_kept vars there f
  acted_kept (task.VariantDeclared v vars) on there = variant_kept vars there v
  acted_kept (task.EffectDeclared n) on there = effect_kept n
  acted_kept (task.VariableWas v k) on there = variable_was_kept s0 s v k kept there
  acted_kept (task.NoClause at h) on there = no_clause_kept l p s0 s at h kept
  acted_kept (task.EffectClause h c) on there = effect_clause_kept l p s0 s h c kept there
  acted_kept (task.Resumption h c answer) on there =
      resumption_kept l p s0 s h c answer kept (λ room. (there room).0) (λ room. (there room).1)

module _ (l : GraphLaws) (p : Parts) where
  finished_so :
      (steps : ℕ) → ((s0 s : Inference) → Kept s0 s → Kept s0 (finished steps p s))
      → (s0 s : Inference) (o : Option End) (ts : List Task)
      → s.end ≡ o → s.tasks ≡ ts → Kept s0 s
      → Kept s0 (onward (next_of o ts s).task (next_of o ts s).state (λ t. finished steps p (acted t p (next_of o ts s).state)))
  finished_so steps others s0 s (Some e) ts is has kept = kept
  finished_so steps others s0 s None [] is has kept = kept
  finished_so steps others s0 s None (t ∷ ts) is has kept =
      let left : Inference = record s { tasks = ts } in
      let there : Roomy s (λ types. AllByRecursion (TaskIsThere types) (t ∷ ts)) = λ room.
      subst (AllByRecursion (TaskIsThere (length s.types.nodes))) has (kept.whole room).numbers.tasks_there in
      let k = left_kept s0 s ts kept (λ room. (there room).1) in
      others s0 (acted t p left) (acted_kept l p s0 left k t is (λ room. (there room).0))

  -- all tasks are done
  pub finished_kept : (steps : ℕ) (s0 s : Inference) → Kept s0 s → Kept s0 (finished steps p s)
  unfolding finished
  finished_kept zero s0 s kept = stopped_kept s0 s kept
  finished_kept (suc steps) s0 s kept = finished_so steps (finished_kept steps) s0 s s.end s.tasks refl refl kept
