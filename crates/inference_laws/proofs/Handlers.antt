-- What is kept where the equations of handlers are taken.
use Rattle.std.proofs.Common.{ℕ, ◌<◌, List, [], ◌∷◌, length, map, Option, Some, None, false, arith}
use Rattle.fx_base.specs.declared.refusal.Place.{Place}
use Rattle.effect_meaning.specs.declared.core_nodes.Constructor.{Constructor}
use Rattle.effect_meaning.specs.declared.core_nodes.Constructor.TheVariants as constructor
use Rattle.effect_meaning.specs.declared.core_nodes.EffectClause.{EffectClause}
use Rattle.effect_meaning.specs.declared.core_nodes.HandlerKind.{HandlerKind}
use Rattle.effect_meaning.specs.declared.core_nodes.HandlerKind.TheVariants as kind
use Rattle.effect_meaning.specs.declared.core_nodes.TermForm.{TermForm}
use Rattle.effect_meaning.specs.declared.core_nodes.TermForm.TheVariants as form
use Rattle.effect_meaning.specs.Arena.{Parts}
use Rattle.ml_infer.specs.declared.inference.Inference.{Inference}
use Rattle.ml_infer.specs.declared.inference.NameType.TheVariants.{One}
use Rattle.ml_infer.specs.declared.tasks.Handling.{Handling}
use Rattle.ml_infer.specs.declared.tasks.HandlerClause.{HandlerClause}
use Rattle.ml_infer.specs.declared.tasks.Task.TheVariants as task
use Rattle.ml_infer.specs.declared.written.Variables.TheVariants as variables
use Rattle.ml_infer.specs.Constructors.{answer_of, constructed}
use Rattle.ml_infer.specs.Handlers.{applied_two, argument_of_kind, clause_argument, clause_for, continuation_of_kind, continuation_type, effect_clause, effect_clause_of, effect_clauses, handled, handler_clause, handler_first, handler_parts, new_handling, no_clause, parameter_entered, parts_for, resumption, subject_of_kind, subject_type, types_entered, variable_entered, variable_leaves}
use Rattle.ml_infer.specs.Inference.{Gives, With, new_variable, of_one_type}
use Rattle.ml_infer.specs.Known.{known}
use Rattle.ml_infer.specs.Tasks.{first_one, term_tasks}
use Rattle.ml_infer.specs.Written.{annotated_if, written}
use Rattle.inference_laws.specs.Whole.{HandlingIsThere, TaskIsThere}
use Rattle.inference_laws.proofs.Each.{each_made, known_at}
use Rattle.inference_laws.proofs.Kept.{Kept, Roomy, Has, kept_here, kept_on, has_later, roomy_later}
use Rattle.inference_laws.proofs.Fields.{first_kept, first_one_kept, name_kept, refused_kept, variable_kept}
use Rattle.inference_laws.proofs.GraphLaws.{GraphLaws}
use Rattle.inference_laws.proofs.Steps.{equated_kept, inner_made, type_is, variable_is, variable_made}
use Rattle.inference_laws.proofs.Written.{Gave, annotated_kept, written_kept}
use Rattle.inference_laws.proofs.Constructors.{HasIf, answer_made, constructed_made, has_built_in, has_if_later}
use Rattle.inference_laws.proofs.Patterns.{tasks_there, whole_pattern_kept}

-- the types of a handler are there
abbrev pub HasHandling : Inference → Handling → Type 0
HasHandling s h = Roomy s (λ types. HandlingIsThere types h)

has_handling_later : (s0 s : Inference) (h : Handling) → Kept s0 s → HasHandling s0 h → HasHandling s h
has_handling_later s0 s h k there =
    roomy_later (λ types. HandlingIsThere types h) (λ m n le is. let a =
    is.0 in let b = is.1 in (omega arith, omega arith)) s0 s k there

module _ (l : GraphLaws) where
  -- a type constructor of two types
  two_made : (s0 s : Inference) (c a b : ℕ) → Kept s0 s → Has s a → Has s b → Gave s0 (applied_two c a b s)
  two_made s0 s c a b kept has_a has_b = (
    inner_made l s0 s c (a ∷ b ∷ []) kept (λ room. (has_a room, (has_b room, tt))),
    type_is l s0 s c (a ∷ b ∷ []) false,
  )

  subject_so : (s0 s : Inference) (k : HandlerKind) (a b : ℕ) → Kept s0 s → Has s a → Has s b → Gave s0 (subject_of_kind k a b s)
  subject_so s0 s kind.Deep a b kept has_a has_b = two_made s0 s 15 a b kept has_a has_b
  subject_so s0 s kind.ShallowContinue a b kept has_a has_b = two_made s0 s 12 a b kept has_a has_b
  subject_so s0 s kind.ShallowDiscontinue a b kept has_a has_b = two_made s0 s 12 a b kept has_a has_b

  argument_so : (s0 s : Inference) (k : HandlerKind) (a : ℕ) → Kept s0 s → Has s a → Has s (argument_of_kind k a)
  argument_so s0 s kind.Deep a kept has = has
  argument_so s0 s kind.ShallowContinue a kept has = has
  argument_so s0 s kind.ShallowDiscontinue a kept has = has_built_in s0 s 5 kept (omega arith)

  -- the parts of a handler
  parts_kept :
      (s0 : Inference) (h : Handling) (ns : List ℕ) (a : ℕ) (subject : Gives) → Gave s0 subject → HasHandling subject.state h
      → Has subject.state a → Kept s0 (parts_for h ns a subject)
  parts_kept s0 h ns a subject k there has =
      let s = subject.state in
      let value = applied_two 15 h.handled h.given s in
      let v = two_made s0 s 15 h.handled h.given k.0 (λ room. (there room).0) (λ room. (there room).1) in
      let v_here = two_made s s 15 h.handled h.given (kept_here s0 s k.0) (λ room. (there room).0) (λ room. (there room).1) in
      let given = has_later s value.state h.given v_here.0 (λ room. (there room).1) in
      let exn = has_built_in s0 value.state 5 v.0 (omega arith) in
      let exception = applied_two 15 5 h.given value.state in
      let e = two_made s0 value.state 15 5 h.given v.0 exn given in
      let e_here = two_made value.state value.state 15 5 h.given (kept_here s0 value.state v.0) exn given in
      let subject_there = has_later value.state exception.state subject.found e_here.0
      (has_later s value.state subject.found v_here.0 k.1) in
      let a_there = has_later value.state exception.state a e_here.0 (has_later s value.state a v_here.0 has) in
      let argument_there = argument_so s0 exception.state h.kind a e.0 a_there in
      let value_there = has_later value.state exception.state value.found e_here.0 v.1 in
      let types = subject.found ∷ argument_of_kind h.kind a ∷ value.found ∷ exception.found ∷ [] in
      first_kept s0 exception.state (term_tasks ns types) e.0
      (λ room.
      tasks_there (length exception.state.types.nodes) (λ x. task.TermIs x.0 x.1) (λ x lt. lt) ns types
      (subject_there room, (argument_there room, (value_there room, (e.1 room, tt)))))

  handler_parts_kept :
      (s0 s : Inference) (h : Handling) (ns : List ℕ) → Kept s0 s → HasHandling s h → Kept s0 (handler_parts h ns s)
  handler_parts_kept s0 s h ns kept there =
      let a = new_variable s in
      let k = variable_made l s0 s kept in
      let here = variable_made l s s (kept_here s0 s kept) in
      let there_a = has_handling_later s a.state h here there in
      let has = variable_is l s0 s in
      let subject = subject_type h a.found a.state in
      let u = subject_so s0 a.state h.kind a.found h.handled k has (λ room. (there_a room).0) in
      let u_here = subject_so a.state a.state h.kind a.found h.handled (kept_here s0 a.state k) has (λ room. (there_a room).0) in
      parts_kept s0 h ns a.found subject u (has_handling_later a.state subject.state h u_here.0 there_a)
      (has_later a.state subject.state a.found u_here.0 has)

  -- the clauses of a handler
  clauses_first_kept :
      (s0 s : Inference) (at : Place) (h : Handling) (cs : List EffectClause) → Kept s0 s → HasHandling s h
      → Kept s0 (effect_clauses at h cs s)
  clauses_first_kept s0 s at h [] kept there = first_one_kept s0 s (task.NoClause at h) kept there
  clauses_first_kept s0 s at h (c ∷ cs) kept there =
      first_kept s0 s (map (λ d. task.EffectClause h (handler_clause d)) (c ∷ cs)) kept
      (λ room. each_made (TaskIsThere (length s.types.nodes)) (λ d. task.EffectClause h (handler_clause d)) (λ d. there room)
      (c ∷ cs))

  handler_first_kept :
      (s0 : Inference) (at : Place) (cs : List EffectClause) (ns : List ℕ) (h : With Handling) → Kept s0 h.state
      → HasHandling h.state h.value
      → Kept s0 (handler_first at cs ns h)
  handler_first_kept s0 at cs ns h kept there =
      let giving = first_one (task.Give h.value.given) h.state in
      let given = first_one_kept s0 h.state (task.Give h.value.given) kept (λ room. (there room).1) in
      let k = clauses_first_kept s0 giving at h.value cs given there in
      let here = clauses_first_kept giving giving at h.value cs (kept_here s0 giving given) there in
      let behind = effect_clauses at h.value cs giving in
      handler_parts_kept s0 behind h.value ns k (has_handling_later giving behind h.value here there)

  -- a handler
  pub handled_kept : (s0 s : Inference) (f : TermForm) (at : Place) → Kept s0 s → Kept s0 (handled f at s)
  unfolding handled
  handled_kept s0 s (form.Handle kind types f a value exception cs) at kept =
      let b = new_variable s in
      let k = variable_made l s0 s kept in
      let has_b = variable_is l s0 s in
      let t = new_variable b.state in
      let m = variable_made l s0 b.state k in
      let here = variable_made l b.state b.state (kept_here s0 b.state k) in
      let has_t = variable_is l s0 b.state in
      let b_there = has_later b.state t.state b.found here has_b in
      handler_first_kept s0 at cs (f ∷ a ∷ value ∷ exception ∷ []) (new_handling kind types s) m
      (λ room. (b_there room, has_t room))
  handled_kept s0 s _ at kept = kept

  -- what a type variable stands for is kept for later
  pub leaves_kept : (s0 s : Inference) (v : Option ℕ) → Kept s0 s → Kept s0 (variable_leaves v s)
  leaves_kept s0 s None kept = kept
  leaves_kept s0 s (Some v) kept =
      first_one_kept s0 s (task.VariableWas v (known s.variables v)) kept
      (λ room. known_at (λ x. x.found < length s.types.nodes) s.variables v (kept.whole room).tables.variables_there)

  module _ (p : Parts) where
    -- the type names of a clause
    variable_so : (s0 s : Inference) (v : Option ℕ) (answer : ℕ) → Kept s0 s → Has s answer → Kept s0 (variable_entered v answer s)
    variable_so s0 s None answer kept has = kept
    variable_so s0 s (Some v) answer kept has = variable_kept s0 s v answer kept has

    has_after_variable : (s : Inference) (v : Option ℕ) (answer n : ℕ) → Has s n → Has (variable_entered v answer s) n
    has_after_variable s None answer n has = has
    has_after_variable s (Some v) answer n has = has

    parameter_so :
        (s0 s : Inference) (w : Option ℕ) (at : Place) (answer : ℕ) → Kept s0 s → Has s answer
        → Kept s0 (parameter_entered w p at answer s)
    parameter_so s0 s None at answer kept has = kept
    parameter_so s0 s (Some w) at answer kept has =
        let t = written p w variables.OfItem at s in
        let k = written_kept l p variables.OfItem at s0 s w kept (λ room. tt) in
        let here = written_kept l p variables.OfItem at s s w (kept_here s0 s kept) (λ room. tt) in
        let answer_there = has_later s t.state answer here.0 has in
        let made = inner_made l s0 t.state 10 (answer ∷ []) k.0 (λ room. (answer_there room, tt)) in
        let made_here = inner_made l t.state t.state 10 (answer ∷ []) (kept_here s0 t.state k.0)
        (λ room. (answer_there room, tt)) in
        equated_kept l s0 _ at t.found (length t.state.types.nodes) made (has_later t.state _ t.found made_here k.1)
        (type_is l s0 t.state 10 (answer ∷ []) false)

    entered_kept :
        (s0 s : Inference) (at : Place) (h : Handling) (answer : ℕ) → Kept s0 s → Has s answer
        → Kept s0 (types_entered p at h answer s)
    entered_kept s0 s at h answer kept has =
        parameter_so s0 (variable_entered h.types.variable answer s) h.types.effect at answer
        (variable_so s0 s h.types.variable answer kept has)
        (has_after_variable s h.types.variable answer answer has)

    -- a handler without clauses
    pub no_clause_kept : (s0 s : Inference) (at : Place) (h : Handling) → Kept s0 s → Kept s0 (no_clause p at h s)
    no_clause_kept s0 s at h kept =
        let t = new_variable s in
        let k = variable_made l s0 s kept in
        let o = h.types.variable in
        let here = leaves_kept t.state t.state o (kept_here s0 t.state k) in
        entered_kept s0 (variable_leaves o t.state) at h t.found (leaves_kept s0 t.state o k)
        (has_later t.state (variable_leaves o t.state) t.found here (variable_is l s0 s))

    -- the pattern of a clause's argument
    clause_argument_kept :
        (s0 s : Inference) (q t : Option ℕ) (at : Place) → Kept s0 s → HasIf s t → Kept s0 (clause_argument q t at s)
    clause_argument_kept s0 s (Some q) (Some t) at kept has = whole_pattern_kept s0 s q t kept has
    clause_argument_kept s0 s None None at kept has = kept
    clause_argument_kept s0 s None (Some t) at kept has = refused_kept s0 s at kept
    clause_argument_kept s0 s (Some q) None at kept has = refused_kept s0 s at kept

    -- a clause for an effect
    clause_for_kept :
        (s0 : Inference) (h : Handling) (c : HandlerClause) (type : Option ℕ) (answer : Gives) → Gave s0 answer
        → HasHandling answer.state h
        → HasIf answer.state type → Kept s0 (clause_for p h c type answer)
    clause_for_kept s0 h c type answer k there has =
        let s = answer.state in
        let o = h.types.variable in
        let t = variable_leaves o s in
        let left = leaves_kept s0 s o k.0 in
        let left_here = leaves_kept s s o (kept_here s0 s k.0) in
        let answer_left = has_later s t answer.found left_here k.1 in
        let e = entered_kept s0 t c.place h answer.found left answer_left in
        let entered_here = entered_kept t t c.place h answer.found (kept_here s0 t left) answer_left in
        let behind = types_entered p c.place h answer.found t in
        let here = kept_on s t behind left_here entered_here in
        let answer_there = has_later s behind answer.found here k.1 in
        let there_later = has_handling_later s behind h here there in
        let resumed = first_one_kept s0 behind (task.Resumption h c answer.found) e
        (λ room. (there_later room, answer_there room)) in
        clause_argument_kept s0 (first_one (task.Resumption h c answer.found) behind) c.argument type c.place resumed
        (has_if_later s behind type here has)

    clause_so :
        (s0 s : Inference) (con : Constructor) (h : Handling) (c : HandlerClause) → Kept s0 s → HasHandling s h
        → Kept s0 (effect_clause_of con p h c s)
    clause_so s0 s (constructor.Effect n) h c kept there =
        let made = constructed p c.effect c.place s in
        let m = constructed_made l p c.place s0 s kept c.effect in
        let here = constructed_made l p c.place s s (kept_here s0 s kept) c.effect in
        let answer = answer_of made.value.value made.state in
        let a = answer_made l s0 made.state m.kept made.value.value in
        let a_here = answer_made l made.state made.state (kept_here s0 made.state m.kept) made.value.value in
        clause_for_kept s0 h c made.value.argument answer a
        (has_handling_later made.state answer.state h a_here.0 (has_handling_later s made.state h here.kept there))
        (has_if_later made.state answer.state made.value.argument a_here.0 m.argument)
    clause_so s0 s (constructor.Variant n) h c kept there = refused_kept s0 s c.place kept
    clause_so s0 s (constructor.Exception n) h c kept there = refused_kept s0 s c.place kept

    -- a clause of a handler
    pub effect_clause_kept :
        (s0 s : Inference) (h : Handling) (c : HandlerClause) → Kept s0 s → HasHandling s h → Kept s0 (effect_clause p h c s)
    effect_clause_kept s0 s h c kept there = clause_so s0 s c.effect h c kept there

    continuation_so :
        (s0 s : Inference) (k : HandlerKind) (r b t : ℕ) → Kept s0 s → Has s r → Has s b → Has s t
        → Gave s0 (continuation_of_kind k r b t s)
    continuation_so s0 s kind.Deep r b t kept has_r has_b has_t = two_made s0 s 11 r t kept has_r has_t
    continuation_so s0 s kind.ShallowContinue r b t kept has_r has_b has_t = two_made s0 s 12 r b kept has_r has_b
    continuation_so s0 s kind.ShallowDiscontinue r b t kept has_r has_b has_t = two_made s0 s 12 r b kept has_r has_b

    -- the continuation and the body of a clause
    pub resumption_kept :
        (s0 s : Inference) (h : Handling) (c : HandlerClause) (answer : ℕ) → Kept s0 s → HasHandling s h → Has s answer
        → Kept s0 (resumption p h c answer s)
    resumption_kept s0 s h c answer kept there has =
        let k = continuation_type h answer s in
        let m = continuation_so s0 s h.kind answer h.handled h.given kept has (λ room. (there room).0) (λ room. (there room).1) in
        let m_here =
        continuation_so s s h.kind answer h.handled h.given (kept_here s0 s kept) has (λ room. (there room).0)
        (λ room. (there room).1) in
        let named = name_kept s0 k.state c.continuation (One k.found k.state.pattern) m.0 m.1 (omega arith) in
        let named_state = of_one_type c.continuation k.found k.state in
        let w = annotated_kept l p c.place s0 named_state k.found c.annotation named m.1 in
        let w_here = annotated_kept l p c.place named_state named_state k.found c.annotation (kept_here s0 named_state named) m.1 in
        let behind = annotated_if p c.place k.found c.annotation named_state in
        let given_there = has_later s k.state h.given m_here.0 (λ room. (there room).1) in
        first_one_kept s0 behind (task.TermIs c.body h.given) w (has_later named_state behind h.given w_here given_there)
