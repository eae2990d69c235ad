-- The equations of terms.
use Rattle.std.specs.Prelude.{ℕ, ◌+◌, min, Bool, true, false, ◌==◌, ◌&&◌, not, List, [], ◌∷◌, length, map, slice_get, Option, Some, None, if◌then◌else◌}
use Rattle.fx_base.specs.declared.refusal.Place.{Place}
use Rattle.effect_meaning.specs.declared.core_nodes.Constructor.{Constructor}
use Rattle.effect_meaning.specs.declared.core_nodes.FieldPart.{FieldPart}
use Rattle.effect_meaning.specs.declared.core_nodes.Function.{Function}
use Rattle.effect_meaning.specs.declared.core_nodes.Operation.{Operation}
use Rattle.effect_meaning.specs.declared.core_nodes.Operation.TheVariants as operation
use Rattle.effect_meaning.specs.declared.core_nodes.TermForm.{TermForm}
use Rattle.effect_meaning.specs.declared.core_nodes.TermForm.TheVariants as form
use Rattle.effect_meaning.specs.declared.core_nodes.TermNode.{TermNode}
use Rattle.effect_meaning.specs.Arena.{Parts}
use Rattle.type_graph.specs.declared.form.Form.{Form}
use Rattle.type_graph.specs.declared.signatures.Signature.{Signature}
use Rattle.type_graph.specs.Graph.{applied, argument_of, form_of, is_of}
use Rattle.type_graph.specs.Signatures.{function_added, part_type, signature_of}
use Rattle.ml_infer.specs.declared.inference.Inference.{Inference}
use Rattle.ml_infer.specs.declared.tasks.Task.TheVariants as task
use Rattle.ml_infer.specs.declared.tasks.GroupFunction.{GroupFunction}
use Rattle.ml_infer.specs.declared.written.Variables.{Variables}
use Rattle.ml_infer.specs.Members.{count_of}
use Rattle.ml_infer.specs.Known.{known, noted}
use Rattle.ml_infer.specs.Inference.{With, valued, Gives, gives, equated, given_back, new_name, new_variable, one_type, refused, taken, term_place, type_of_name}
use Rattle.ml_infer.specs.Tasks.{first, first_one, term_tasks}
use Rattle.ml_infer.specs.Written.{annotated_if, refused_unless}
use Rattle.ml_infer.specs.Constructors.{constant_row, constructed, field_owner, field_type, instance, is_owner, new_variables, unhandled}
use Rattle.ml_infer.specs.Patterns.{give_found, tuple_given}
use Rattle.ml_infer.specs.Handlers.{handled}

-- a tuple
abbrev pub tuple_term : List ℕ → Inference → Inference
tuple_term ns s = tuple_given (term_tasks ns) (new_variables (length ns) s)

-- an array, whose elements have one type
abbrev pub array_of : List ℕ → Gives → Inference
array_of ns t =
    first (map (λ n. task.TermIs n t.found) ns)
    (first_one (task.Give (length t.state.types.nodes)) (record t.state { types = applied 9 (t.found ∷ []) false t.state.types }))

abbrev pub array : List ℕ → Inference → Inference
array ns s = array_of ns (new_variable s)

-- the argument of a constructor is there exactly where one was declared
abbrev pub argument_term : (argument type : Option ℕ) → Place → Inference → Inference
argument_term (Some n) (Some t) at s = first_one (task.TermIs n t) s
argument_term None None at s = s
argument_term _ _ at s = refused at s

-- a constructor; Effect.Unhandled stands in patterns alone
abbrev pub construct : Constructor → Option ℕ → Parts → Place → Inference → Inference
construct con argument p at s =
    let made = constructed p con at s in
    let t = first_one (task.Give made.value.value) made.state in
    if unhandled con then refused at t else argument_term argument made.value.argument at t

-- a field is one of a type, and the record expression at hand didn't name it yet
abbrev pub names_new : Parts → (t field : ℕ) → Inference → With Bool
names_new p t field s =
    valued (is_owner p t field && not (elim (known s.naming field) [ None ↦ false | Some last ↦ last == s.records ]))
    (record s { naming = noted field s.records s.naming })

-- parts name each field once, if it is so behind the parts before them
abbrev pub named_each : Parts → ℕ → List FieldPart → With Bool → With Bool
named_each p t [] r = r
named_each p t (f ∷ fs) r = let o = names_new p t f.field r.state in named_each p t fs (valued (r.value && o.value) o.state)

-- a further record expression
abbrev pub record_counted : Inference → Inference
record_counted s = record s { records = min (s.records + 1) 18446744073709551615 }

-- parts name each field of a type once
abbrev pub names_each : Parts → ℕ → List FieldPart → Inference → With Bool
names_each p t fs s = let c = record_counted s in named_each p t fs (valued (length fs == count_of c.fields t) c)

-- the fields of a record expression, if they are named as they should be
abbrev pub fields_first : List FieldPart → Place → Variables → With Bool → Inference
fields_first fs at vars r = if r.value then first (map (λ f. task.FieldIs at f vars) fs) r.state else refused at r.state

-- a record expression for a type
abbrev pub record_of : Option ℕ → List FieldPart → Parts → Place → Inference → Inference
record_of None fs p at s = s
record_of (Some t) fs p at s =
    let made = instance p t s in
    fields_first fs at made.value.variables (names_each p t fs (first_one (task.Give made.value.value) made.state))

abbrev pub record_term : List FieldPart → Parts → Place → Inference → Inference
record_term [] p at s = refused at s
record_term (f ∷ fs) p at s = record_of (field_owner p f.field) (f ∷ fs) p at s

-- a field of a record expression
abbrev pub field_is : Parts → Place → FieldPart → Variables → Inference → Inference
field_is p at f vars s = let t = field_type p f.field vars at s in first_one (task.TermIs f.part t.found) t.state

-- a field that is read
abbrev pub read_field_of : Option ℕ → Parts → Place → (field n : ℕ) → Inference → Inference
read_field_of None p at field n s = s
read_field_of (Some t) p at field n s =
    let made = instance p t s in
    let u = field_type p field made.value.variables at made.state in
    first (task.TermIs n made.value.value ∷ task.Give u.found ∷ []) u.state

abbrev pub read_field : Parts → Place → (field n : ℕ) → Inference → Inference
read_field p at field n s = read_field_of (field_owner p field) p at field n s

-- a field that is assigned to
abbrev pub set_field_of : Option ℕ → Parts → Place → (field n value : ℕ) → Inference → Inference
set_field_of None p at field n value s = s
set_field_of (Some t) p at field n value s =
    let made = instance p t s in
    let u = field_type p field made.value.variables at made.state in
    first (task.TermIs n made.value.value ∷ task.IsMutable at field ∷ task.TermIs value u.found ∷ task.Give 4 ∷ []) u.state

abbrev pub set_field : Parts → Place → (field n value : ℕ) → Inference → Inference
set_field p at field n value s = set_field_of (field_owner p field) p at field n value s

-- such a field is mutable
abbrev pub is_mutable : Parts → Place → ℕ → Inference → Inference
is_mutable p at field s =
    elim (slice_get p.field_rows field) [ None ↦ s | Some row ↦ refused_unless row.is_mutable at s ]

-- a comparison is noted, with the type of its first part
abbrev pub compared : Operation → Place → Signature → Inference → Inference
compared (operation.Compare o) at g s =
    record s { comparisons = record { item = s.item; place = at; found = part_type g 0 } ∷ s.comparisons }
compared _ at g s = s

-- an operation with its parts
abbrev pub primitive_of : Operation → Place → List ℕ → Signature → Inference → Inference
primitive_of op at ns g s =
    if length ns == g.count then first (term_tasks ns g.parts) (compared op at g (first_one (task.Give g.gives) s))
    else refused at (first_one (task.Give g.gives) s)

abbrev pub primitive : Operation → Place → List ℕ → Inference → Inference
primitive op at ns s =
    let g = signature_of op s.types in primitive_of op at ns g.signature (record s { types = g.types })

-- a function of a group, as it is kept in a task
abbrev pub group_function : Function → GroupFunction
group_function f = record { place = f.place; name = f.name; annotation = f.annotation; parameter = f.parameter; body = f.body }

-- the names of the functions of a group
abbrev pub new_names : List Function → Inference → Inference
new_names [] s = s
new_names (f ∷ fs) s = new_names fs (new_name f.name s).state

-- the functions of a group
abbrev pub functions_first : List Function → Inference → Inference
functions_first fs s = first (map (λ f. task.Function (group_function f)) fs) (new_names fs s)

-- a function of a group
abbrev pub function_begun : GroupFunction → Inference → Inference
function_begun f s =
    let t = new_name f.parameter s in first (task.Term f.body ∷ task.EndFunction f t.found ∷ []) t.state

-- a function type of an argument and of what is given
abbrev pub function_from : ℕ → Gives → Gives
function_from a b = gives (length b.state.types.nodes) (record b.state { types = function_added a b.found b.state.types })

-- the type of a function of a group, behind its body
abbrev pub end_function : Parts → GroupFunction → ℕ → Inference → Inference
end_function p f a s =
    let t = function_from a (taken s) in
    let u = one_type f.name (annotated_if p f.place t.found f.annotation t.state) in
    equated f.place t.found u.found u.state

-- the type of a function, behind its body
abbrev pub lambda : ℕ → Inference → Inference
lambda a s = give_found (function_from a (taken s))

-- two equal types
abbrev pub agreed : Place → Inference → Inference
agreed at s =
    let second = taken s in
    let one = taken second.state in
    equated at second.found one.found (given_back one.found one.state)

-- a type that is written
abbrev pub annotated : Parts → Place → ℕ → Inference → Inference
annotated p at w s = let t = taken s in annotated_if p at t.found (Some w) (given_back t.found t.state)

-- an application of what isn't known to be a function
abbrev pub applied_unknown : Place → (given found : ℕ) → Inference → Inference
applied_unknown at given found s =
    let answer = new_variable s in
    let t = given_back answer.found answer.state in
    equated at found (length t.types.nodes) (record t { types = function_added given answer.found t.types })

-- an application, where the argument and the result of the function may be known
abbrev pub applied_known : Bool → (argument result : Option ℕ) → (function argument : Place) → (given found : ℕ) → Inference → Inference
applied_known true (Some a) (Some b) at here given found s = equated here given a (given_back b s)
applied_known _ _ _ at here given found s = applied_unknown at given found s

abbrev pub applied_as : Form → (function argument : Place) → (given found : ℕ) → Inference → Inference
applied_as f at here given found s =
    applied_known (is_of f 15 2) (argument_of s.types.arguments f 0) (argument_of s.types.arguments f 1) at here given found s

abbrev pub application : (function argument : Place) → Inference → Inference
application at here s =
    let given = taken s in
    let found = taken given.state in
    applied_as (form_of found.state.types.nodes found.found) at here given.found found.found found.state

-- a match or a catch, with its subject
abbrev pub match_term : (n subject : ℕ) → Inference → Inference
match_term n a s =
    let t = new_variable s in first (task.Term a ∷ task.Clauses n t.found ∷ task.Give t.found ∷ []) t.state

-- tuples, arrays, constructors, records and operations
unfoldable pub data_term : TermForm → Parts → Place → Inference → Inference
data_term (form.Tuple ns) p at s = tuple_term ns s
data_term (form.Array ns) p at s = array ns s
data_term (form.Constructor con) p at s = construct con None p at s
data_term (form.Construct con n) p at s = construct con (Some n) p at s
data_term (form.Record fs) p at s = record_term fs p at s
data_term (form.Field field n) p at s = read_field p at field n s
data_term (form.SetField field n value) p at s = set_field p at field n value s
data_term (form.Primitive op ns) p at s = primitive op at ns s
data_term f p at s = handled f at s

-- terms that bind no names of their own
unfoldable pub plain_term : TermForm → Parts → ℕ → Place → Inference → Inference
plain_term (form.Sequence a b) p n at s = first (task.Term a ∷ task.Forget ∷ task.Term b ∷ []) s
plain_term (form.If test a b) p n at s =
    first (task.TermIs test 1 ∷ task.Term a ∷ task.Term b ∷ task.Agree (term_place p b s) ∷ []) s
plain_term (form.Match a cs) p n at s = match_term n a s
plain_term (form.Catch a values exceptions) p n at s = match_term n a s
plain_term (form.Annotated a w) p n at s = first (task.Term a ∷ task.Annotated (term_place p a s) w ∷ []) s
plain_term f p n at s = data_term f p at s

-- a function literal
abbrev pub function_term : ℕ → Gives → Inference
function_term body t = first (task.Term body ∷ task.Lambda t.found ∷ []) t.state

-- the equations of a term; those of its parts come first
unfoldable pub term_of : TermForm → Parts → ℕ → Place → Inference → Inference
term_of (form.Name x) p n at s = give_found (type_of_name x s)
term_of (form.Constant k) p n at s = given_back (constant_row k) s
term_of (form.Function x body) p n at s = function_term body (new_name x s)
term_of (form.Apply f a) p n at s =
    first (task.Term f ∷ task.Term a ∷ task.Apply (term_place p f s) (term_place p a s) ∷ []) s
term_of (form.Let x a body) p n at s = first (task.Term a ∷ task.Name x ∷ task.Term body ∷ []) s
term_of (form.LetRec fs body) p n at s = functions_first fs (first_one (task.Term body) s)
term_of f p n at s = plain_term f p n at s

abbrev pub term_node : Option TermNode → Parts → ℕ → Inference → Inference
term_node None p n s = given_back 4 s
term_node (Some node) p n s = term_of node.form p n node.place s

abbrev pub term : Parts → ℕ → Inference → Inference
term p n s = term_node (slice_get p.terms n) p n s
