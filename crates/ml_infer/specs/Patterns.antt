-- The equations of patterns and of clauses.
use Rattle.std.specs.Prelude.{ℕ, ◌+◌, Bool, true, false, ◌==◌, ◌||◌, not, List, [], ◌∷◌, length, map, zip, slice_get, Option, Some, None, if◌then◌else◌}
use Rattle.fx_base.specs.declared.refusal.Place.{Place}
use Rattle.effect_meaning.specs.declared.core_nodes.Clause.{Clause}
use Rattle.effect_meaning.specs.declared.core_nodes.Constructor.{Constructor}
use Rattle.effect_meaning.specs.declared.core_nodes.FieldPart.{FieldPart}
use Rattle.effect_meaning.specs.declared.core_nodes.PatternForm.{PatternForm}
use Rattle.effect_meaning.specs.declared.core_nodes.PatternForm.TheVariants as pat
use Rattle.effect_meaning.specs.declared.core_nodes.PatternNode.{PatternNode}
use Rattle.effect_meaning.specs.declared.core_nodes.TermForm.{TermForm}
use Rattle.effect_meaning.specs.declared.core_nodes.TermForm.TheVariants as term
use Rattle.effect_meaning.specs.declared.core_nodes.TermNode.{TermNode}
use Rattle.effect_meaning.specs.Arena.{Parts}
use Rattle.type_graph.specs.Graph.{applied}
use Rattle.ml_infer.specs.declared.inference.Inference.{Inference}
use Rattle.ml_infer.specs.declared.inference.NameType.{NameType}
use Rattle.ml_infer.specs.declared.inference.NameType.TheVariants as name
use Rattle.ml_infer.specs.declared.tasks.Task.{Task}
use Rattle.ml_infer.specs.declared.tasks.Task.TheVariants as task
use Rattle.ml_infer.specs.declared.written.Variables.{Variables}
use Rattle.ml_infer.specs.Known.{known}
use Rattle.ml_infer.specs.Inference.{With, Gives, gives, equated, given_back, new_name, new_variable, pattern_place, refused, taken}
use Rattle.ml_infer.specs.Tasks.{first, first_one}
use Rattle.ml_infer.specs.Written.{refused_unless}
use Rattle.ml_infer.specs.Constructors.{constant_row, constructed, field_owner, field_type, instance, is_owner, new_variables, unhandled}

-- a whole pattern that has a type: the names that it binds are new
abbrev pub whole_pattern : (q t : ℕ) → Inference → Inference
whole_pattern q t s =
    first_one (task.PatternIs q t) (record s { pattern = s.pattern + 1; bound = [] })

-- a new name that the pattern at hand binds
abbrev pub new_bound : ℕ → Inference → Gives
new_bound x s = let t = new_name x s in gives t.found (record t.state { bound = t.found ∷ t.state.bound })

-- the type of a name that the pattern at hand binds, on both sides of an or-pattern
abbrev pub bound_as : Option NameType → ℕ → Inference → Gives
bound_as (Some (name.One t q)) x s = if q == s.pattern then gives t s else new_bound x s
bound_as _ x s = new_bound x s

abbrev pub bound : ℕ → Inference → Gives
bound x s = bound_as (known s.names x) x s

-- a type that is found is given
abbrev pub give_found : Gives → Inference
give_found g = given_back g.found g.state

-- patterns that have types
abbrev pub pattern_tasks : (qs ts : List ℕ) → List Task
pattern_tasks qs ts = map (λ p. task.PatternIs p.0 p.1) (zip qs ts)

-- a tuple of patterns
abbrev pub tuple_given : (tasks : List ℕ → List Task) → With (List ℕ) → Inference
tuple_given tasks ts =
    first (tasks ts.value)
    (first_one (task.Give (length ts.state.types.nodes)) (record ts.state { types = applied 16 ts.value false ts.state.types }))

abbrev pub tuple_pattern : List ℕ → Inference → Inference
tuple_pattern qs s = tuple_given (pattern_tasks qs) (new_variables (length qs) s)

-- a pattern is _
abbrev pub is_any_form : PatternForm → Bool
is_any_form pat.Any = true
is_any_form _ = false

abbrev pub is_any : Parts → ℕ → Bool
is_any p q = elim (slice_get p.patterns q) [ None ↦ false | Some node ↦ is_any_form node.form ]

-- the argument of a constructor's pattern is there exactly where one was declared; that of Effect.Unhandled is _
abbrev pub argument_pattern : (argument type : Option ℕ) → (is_other : Bool) → Parts → Place → Inference → Inference
argument_pattern (Some q) (Some t) is_other p at s = first_one (task.PatternIs q t) (refused_unless (is_other || is_any p q) at s)
argument_pattern None None is_other p at s = s
argument_pattern _ _ is_other p at s = refused at s

-- a constructor's pattern
abbrev pub constructor_pattern : Constructor → Option ℕ → Parts → Place → Inference → Inference
constructor_pattern con argument p at s =
    let made = constructed p con at s in
    argument_pattern argument made.value.argument (not (unhandled con)) p at (first_one (task.Give made.value.value) made.state)

-- a field of a pattern for records of a type
abbrev pub field_pattern_task : Place → ℕ → Variables → FieldPart → Task
field_pattern_task at t vars f = task.FieldPatternIs at t f vars

-- the fields of a record pattern are of one type, that of the first
abbrev pub fields_pattern : Option ℕ → List FieldPart → Parts → Place → Inference → Inference
fields_pattern None fs p at s = s
fields_pattern (Some t) fs p at s =
    let made = instance p t s in
    first (map (field_pattern_task at t made.value.variables) fs) (first_one (task.Give made.value.value) made.state)

abbrev pub record_pattern : List FieldPart → Parts → Place → Inference → Inference
record_pattern [] p at s = refused at s
record_pattern (f ∷ fs) p at s = fields_pattern (field_owner p f.field) (f ∷ fs) p at s

abbrev pub field_pattern : Parts → Place → ℕ → FieldPart → Variables → Inference → Inference
field_pattern p at t f vars s =
    let u = field_type p f.field vars at (refused_unless (is_owner p t f.field) at s) in first_one (task.PatternIs f.part u.found) u.state

-- patterns that have the type of a part
unfoldable pub joined_pattern : PatternForm → Parts → Place → Inference → Inference
joined_pattern (pat.Or left right) p at s =
    first (task.Pattern left ∷ task.Pattern right ∷ task.Agree (pattern_place p right s) ∷ []) s
joined_pattern (pat.Alias q x) p at s = first (task.Pattern q ∷ task.Alias at x ∷ []) s
joined_pattern (pat.Annotated q w) p at s = first (task.Pattern q ∷ task.Annotated at w ∷ []) s
joined_pattern _ p at s = s

-- the equations of a pattern; those of its parts come first
unfoldable pub pattern_of : PatternForm → Parts → Place → Inference → Inference
pattern_of pat.Any p at s = give_found (new_variable s)
pattern_of (pat.Name x) p at s = give_found (bound x s)
pattern_of (pat.Constant k) p at s = given_back (constant_row k) s
pattern_of (pat.Tuple qs) p at s = tuple_pattern qs s
pattern_of (pat.Constructor con) p at s = constructor_pattern con None p at s
pattern_of (pat.Construct con q) p at s = constructor_pattern con (Some q) p at s
pattern_of (pat.Record fs) p at s = record_pattern fs p at s
pattern_of form p at s = joined_pattern form p at s

abbrev pub pattern_node : Option PatternNode → Parts → Inference → Inference
pattern_node None p s = give_found (new_variable s)
pattern_node (Some node) p s = pattern_of node.form p node.place s

abbrev pub pattern : Parts → ℕ → Inference → Inference
pattern p n s = pattern_node (slice_get p.patterns n) p s

-- the name of a pattern's whole value
abbrev pub alias : Place → ℕ → Inference → Inference
alias at x s =
    let t = taken s in
    let b = bound x (given_back t.found t.state) in
    equated at b.found t.found b.state

-- a clause for values of a type, whose body has the other one
abbrev pub clause_task : (subject body_type : ℕ) → Clause → Task
clause_task u t c = task.Clause c.pattern c.guard c.body u t

abbrev pub first_clauses : List Clause → (subject body_type : ℕ) → Inference → Inference
first_clauses cs u t s = first (map (clause_task u t) cs) s

-- the clauses of a match or a catch
unfoldable pub clauses_of : TermForm → (subject body_type : ℕ) → Inference → Inference
clauses_of (term.Match a cs) u t s = first_clauses cs u t s
clauses_of (term.Catch a values exceptions) u t s = first_clauses values u t (first_clauses exceptions 5 t s)
clauses_of _ u t s = s

abbrev pub clauses_in : Option TermNode → ℕ → Gives → Inference
clauses_in None t u = u.state
clauses_in (Some node) t u = clauses_of node.form u.found t u.state

abbrev pub clauses : Parts → (n body_type : ℕ) → Inference → Inference
clauses p n t s = clauses_in (slice_get p.terms n) t (taken s)

-- a guard, if there is one, is a test
abbrev pub first_guard : Option ℕ → Inference → Inference
first_guard None s = s
first_guard (Some g) s = first_one (task.TermIs g 1) s

-- a clause: its pattern, its guard and its body
abbrev pub clause : (q : ℕ) → Option ℕ → (body subject body_type : ℕ) → Inference → Inference
clause q guard body u t s = whole_pattern q u (first_guard guard (first_one (task.TermIs body t) s))
