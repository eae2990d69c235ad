-- The equations of handlers.
use Rattle.std.specs.Prelude.{ℕ, false, List, [], ◌∷◌, length, map, Option, Some, None}
use Rattle.fx_base.specs.declared.refusal.Place.{Place}
use Rattle.effect_meaning.specs.declared.core_nodes.Constructor.{Constructor}
use Rattle.effect_meaning.specs.declared.core_nodes.Constructor.TheVariants as constructor
use Rattle.effect_meaning.specs.declared.core_nodes.EffectClause.{EffectClause}
use Rattle.effect_meaning.specs.declared.core_nodes.HandlerKind.{HandlerKind}
use Rattle.effect_meaning.specs.declared.core_nodes.HandlerKind.TheVariants as kind
use Rattle.effect_meaning.specs.declared.core_nodes.HandlerTypes.{HandlerTypes}
use Rattle.effect_meaning.specs.declared.core_nodes.TermForm.{TermForm}
use Rattle.effect_meaning.specs.declared.core_nodes.TermForm.TheVariants as form
use Rattle.effect_meaning.specs.Arena.{Parts}
use Rattle.type_graph.specs.Graph.{applied}
use Rattle.type_graph.specs.Signatures.{function_added}
use Rattle.ml_infer.specs.declared.inference.Inference.{Inference}
use Rattle.ml_infer.specs.declared.constructors.Constructed.{Constructed}
use Rattle.ml_infer.specs.declared.tasks.Task.TheVariants as task
use Rattle.ml_infer.specs.declared.tasks.Handling.{Handling}
use Rattle.ml_infer.specs.declared.tasks.HandlerClause.{HandlerClause}
use Rattle.ml_infer.specs.declared.written.Variables.TheVariants as variables
use Rattle.ml_infer.specs.Inference.{With, valued, Gives, gives, equated, new_variable, of_one_type, refused, variable_noted}
use Rattle.ml_infer.specs.Known.{known}
use Rattle.ml_infer.specs.Tasks.{first, first_one, term_tasks}
use Rattle.ml_infer.specs.Written.{annotated_if, written}
use Rattle.ml_infer.specs.Constructors.{answer_of, constructed}
use Rattle.ml_infer.specs.Patterns.{whole_pattern}

-- a clause of a handler, as it is kept in a task
abbrev pub handler_clause : EffectClause → HandlerClause
handler_clause c = record {
  place = c.place;
  effect = c.effect;
  argument = c.argument;
  continuation = c.continuation;
  annotation = c.annotation;
  body = c.body;
}

-- new types of what a handler handles and of what it gives
abbrev pub new_handling : HandlerKind → HandlerTypes → Inference → With Handling
new_handling kind types s =
    let b = new_variable s in
    let t = new_variable b.state in
    valued (record { kind = kind; types = types; handled = b.found; given = t.found }) t.state

-- the clauses of a handler
abbrev pub effect_clauses : Place → Handling → List EffectClause → Inference → Inference
effect_clauses at h [] s = first_one (task.NoClause at h) s
effect_clauses at h (c ∷ cs) s = first (map (λ d. task.EffectClause h (handler_clause d)) (c ∷ cs)) s

-- a new type constructor of two types, or a function
abbrev pub applied_two : (c a b : ℕ) → Inference → Gives
applied_two c a b s = gives (length s.types.nodes) (record s { types = applied c (a ∷ b ∷ []) false s.types })

-- the type of the function or of the continuation that a handler takes
abbrev pub subject_of_kind : HandlerKind → (a b : ℕ) → Inference → Gives
subject_of_kind kind.Deep a b s = gives (length s.types.nodes) (record s { types = function_added a b s.types })
subject_of_kind _ a b s = applied_two 12 a b s

abbrev pub subject_type : Handling → ℕ → Inference → Gives
subject_type h a s = subject_of_kind h.kind a h.handled s

-- the type of its argument
abbrev pub argument_of_kind : HandlerKind → ℕ → ℕ
argument_of_kind kind.ShallowDiscontinue a = 5
argument_of_kind _ a = a

-- the parts of a handler, for a subject of this type
abbrev pub parts_for : Handling → List ℕ → ℕ → Gives → Inference
parts_for h ns a subject =
    let value = applied_two 15 h.handled h.given subject.state in
    let exception = applied_two 15 5 h.given value.state in
    first (term_tasks ns (subject.found ∷ argument_of_kind h.kind a ∷ value.found ∷ exception.found ∷ [])) exception.state

abbrev pub handler_parts : Handling → List ℕ → Inference → Inference
handler_parts h ns s = let a = new_variable s in parts_for h ns a.found (subject_type h a.found a.state)

-- a handler with its clauses
abbrev pub handler_first : Place → List EffectClause → List ℕ → With Handling → Inference
handler_first at cs ns h =
    handler_parts h.value ns (effect_clauses at h.value cs (first_one (task.Give h.value.given) h.state))

-- a handler; other forms have no equations here
unfoldable pub handled : TermForm → Place → Inference → Inference
handled (form.Handle kind types f a value exception cs) at s =
    handler_first at cs (f ∷ a ∷ value ∷ exception ∷ []) (new_handling kind types s)
handled _ at s = s

-- behind a clause the type variable that its handler names stands for what it stood for before the clause
abbrev pub variable_leaves : Option ℕ → Inference → Inference
variable_leaves None s = s
variable_leaves (Some v) s = first_one (task.VariableWas v (known s.variables v)) s

-- in a clause the type name of its handler stands for what its effect gives
abbrev pub variable_entered : Option ℕ → ℕ → Inference → Inference
variable_entered None answer s = s
variable_entered (Some v) answer s = variable_noted v answer s

-- and so does the type of the handler's parameter
abbrev pub parameter_entered : Option ℕ → Parts → Place → ℕ → Inference → Inference
parameter_entered None p at answer s = s
parameter_entered (Some w) p at answer s =
    let t = written p w variables.OfItem at s in
    equated at t.found (length t.state.types.nodes) (record t.state { types = applied 10 (answer ∷ []) false t.state.types })

abbrev pub types_entered : Parts → Place → Handling → ℕ → Inference → Inference
types_entered p at h answer s = parameter_entered h.types.effect p at answer (variable_entered h.types.variable answer s)

-- a handler without clauses
abbrev pub no_clause : Parts → Place → Handling → Inference → Inference
no_clause p at h s = let t = new_variable s in types_entered p at h t.found (variable_leaves h.types.variable t.state)

-- the pattern of a clause's argument is there exactly where one was declared
abbrev pub clause_argument : (argument type : Option ℕ) → Place → Inference → Inference
clause_argument (Some q) (Some t) at s = whole_pattern q t s
clause_argument None None at s = s
clause_argument _ _ at s = refused at s

-- a clause for an effect, whose types are known
abbrev pub clause_for : Parts → Handling → HandlerClause → Option ℕ → Gives → Inference
clause_for p h c type answer =
    clause_argument c.argument type c.place
    (first_one (task.Resumption h c answer.found)
    (types_entered p c.place h answer.found (variable_leaves h.types.variable answer.state)))

abbrev pub clause_of_effect : Parts → Handling → HandlerClause → With Constructed → Inference
clause_of_effect p h c made = clause_for p h c made.value.argument (answer_of made.value.value made.state)

-- a clause of a handler, which names an effect
abbrev pub effect_clause_of : Constructor → Parts → Handling → HandlerClause → Inference → Inference
effect_clause_of (constructor.Effect n) p h c s = clause_of_effect p h c (constructed p c.effect c.place s)
effect_clause_of _ p h c s = refused c.place s

abbrev pub effect_clause : Parts → Handling → HandlerClause → Inference → Inference
effect_clause p h c s = effect_clause_of c.effect p h c s

-- the type of the continuation in a clause
abbrev pub continuation_of_kind : HandlerKind → (r b t : ℕ) → Inference → Gives
continuation_of_kind kind.Deep r b t s = applied_two 11 r t s
continuation_of_kind _ r b t s = applied_two 12 r b s

abbrev pub continuation_type : Handling → ℕ → Inference → Gives
continuation_type h answer s = continuation_of_kind h.kind answer h.handled h.given s

-- the continuation and the body of a clause
abbrev pub resumption : Parts → Handling → HandlerClause → ℕ → Inference → Inference
resumption p h c answer s =
    let k = continuation_type h answer s in
    first_one (task.TermIs c.body h.given)
    (annotated_if p c.place k.found c.annotation (of_one_type c.continuation k.found k.state))
