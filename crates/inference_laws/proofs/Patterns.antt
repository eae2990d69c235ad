-- What is kept where the equations of patterns are taken, and those of clauses.
use Rattle.std.proofs.Common.{◌≡◌, ℕ, suc, ◌+◌, ◌<◌, List, [], ◌∷◌, length, map, Option, Some, None, Bool, true, false, not, ◌||◌, ◌==◌, ◌∙◌, arith, if◌then◌else◌, length-append, slice_get}
use Rattle.std.specs.Prelude.{zip}
use Rattle.std.specs.List.{AllByRecursion}
use Rattle.fx_base.specs.declared.refusal.Place.{Place}
use Rattle.effect_meaning.specs.declared.core_nodes.Clause.{Clause}
use Rattle.effect_meaning.specs.declared.core_nodes.Constant.{Constant}
use Rattle.effect_meaning.specs.declared.core_nodes.Constant.TheVariants as constant
use Rattle.effect_meaning.specs.declared.core_nodes.Constructor.{Constructor}
use Rattle.effect_meaning.specs.declared.core_nodes.FieldPart.{FieldPart}
use Rattle.effect_meaning.specs.declared.core_nodes.PatternForm.{PatternForm}
use Rattle.effect_meaning.specs.declared.core_nodes.PatternForm.TheVariants as pat
use Rattle.effect_meaning.specs.declared.core_nodes.PatternNode.{PatternNode}
use Rattle.effect_meaning.specs.declared.core_nodes.TermForm.{TermForm}
use Rattle.effect_meaning.specs.declared.core_nodes.TermForm.TheVariants as term
use Rattle.effect_meaning.specs.declared.core_nodes.TermNode.{TermNode}
use Rattle.effect_meaning.specs.Arena.{Parts}
use Rattle.type_graph.specs.Graph.{applied}
use Rattle.type_readings.specs.WellFormed.{AreNumbers}
use Rattle.ml_infer.specs.declared.inference.Inference.{Inference}
use Rattle.ml_infer.specs.declared.inference.NameType.{NameType}
use Rattle.ml_infer.specs.declared.inference.NameType.TheVariants.{One, Generalised}
use Rattle.ml_infer.specs.declared.tasks.Task.{Task}
use Rattle.ml_infer.specs.declared.tasks.Task.TheVariants as task
use Rattle.ml_infer.specs.declared.written.Variables.{Variables}
use Rattle.ml_infer.specs.Constructors.{constant_row, constructed, field_owner, field_type, instance, is_owner, new_variables, unhandled}
use Rattle.ml_infer.specs.Inference.{Gives, given_back, new_name, new_variable, pattern_place, taken}
use Rattle.ml_infer.specs.Known.{known}
use Rattle.ml_infer.specs.Patterns.{alias, argument_pattern, bound, bound_as, clause, clause_task, clauses, clauses_in, clauses_of, constructor_pattern, field_pattern, field_pattern_task, fields_pattern, first_clauses, first_guard, give_found, is_any, joined_pattern, new_bound, pattern, pattern_node, pattern_of, record_pattern, tuple_given, whole_pattern}
use Rattle.ml_infer.specs.Tasks.{first, first_one}
use Rattle.ml_infer.specs.Written.{refused_unless}
use Rattle.inference_laws.specs.Whole.{IfKnown, NameIsThere, TaskIsThere}
use Rattle.inference_laws.proofs.Each.{each_made}
use Rattle.inference_laws.proofs.Kept.{Kept, Roomy, Has, all_later, kept_here, has_later}
use Rattle.inference_laws.proofs.Fields.{bound_kept, pattern_next, first_kept, first_one_kept, given_kept, refused_kept, refused_unless_kept, unbound_kept}
use Rattle.inference_laws.proofs.GraphLaws.{GraphLaws}
use Rattle.inference_laws.proofs.Steps.{equated_kept, inner_made, known_name, named_is, named_kept, taken_kept, type_is, variable_is, variable_made}
use Rattle.inference_laws.proofs.Written.{Gave, HasVariables, has_variables_later}
use Rattle.inference_laws.proofs.Constructors.{HasIf, constructed_made, field_made, has_built_in, instance_made, variables_made}

-- a whole pattern that has a type
pub whole_pattern_kept : (s0 s : Inference) (q t : ℕ) → Kept s0 s → Has s t → Kept s0 (whole_pattern q t s)
whole_pattern_kept s0 s q t kept has =
    let bare = unbound_kept s0 s kept in
    let begun : Inference = record s { bound = [] } in
    let counted =
    pattern_next s0 begun bare in
    first_one_kept s0 (record s { pattern = s.pattern + 1; bound = [] }) (task.PatternIs q t) counted has

-- a type that is found is given
pub found_given : (s0 : Inference) (g : Gives) → Gave s0 g → Kept s0 (give_found g)
found_given s0 g k = given_kept s0 g.state g.found k.0 k.1

-- tasks of the parts of a tuple
pub tasks_there :
    (types : ℕ) (make : ℕ × ℕ → Task) → ((p : ℕ × ℕ) → p.1 < types → TaskIsThere types (make p)) → (xs ts : List ℕ)
    → AreNumbers types ts → AllByRecursion (TaskIsThere types) (map make (zip xs ts))
tasks_there types make there [] ts h = tt
tasks_there types make there (x ∷ xs) [] h = tt
tasks_there types make there (x ∷ xs) (t ∷ ts) h = (there (x, t) h.0, tasks_there types make there xs ts h.1)

module _ (l : GraphLaws) (p : Parts) where
  -- a tuple
  pub tuple_kept :
      (s0 s : Inference) (count : ℕ) (make : ℕ × ℕ → Task) (xs : List ℕ)
      → ((types : ℕ) (x : ℕ × ℕ) → x.1 < types → TaskIsThere types (make x)) → Kept s0 s
      → Kept s0 (tuple_given (λ ts. map make (zip xs ts)) (new_variables count s))
  tuple_kept s0 s count make xs there kept =
      let r = new_variables count s in
      let k = variables_made l count s0 s kept in
      let made = inner_made l s0 r.state 16 r.value k.kept k.there in
      let here = inner_made l r.state r.state 16 r.value (kept_here s0 r.state k.kept) k.there in
      let with_tuple : Inference = record r.state { types = applied 16 r.value false r.state.types } in
      let parts = all_later r.state with_tuple r.value here k.there in
      let given =
      first_one_kept s0 with_tuple (task.Give (length r.state.types.nodes)) made (type_is l s0 r.state 16 r.value false) in
      first_kept s0 _ (map make (zip xs r.value)) given
      (λ room. tasks_there (length with_tuple.types.nodes) make (there (length with_tuple.types.nodes)) xs r.value (parts room))

  module _ (s0 s : Inference) (kept : Kept s0 s) where
    -- a new name that the pattern at hand binds
    bound_new : (x : ℕ) → Gave s0 (new_bound x s)
    bound_new x =
        let t = new_name x s in
        let long : length t.state.types.nodes ≡ suc (length s.types.nodes) = length-append s.types.nodes _ ∙ omega arith in (
          bound_kept s0 t.state t.found (named_kept l s0 s kept x) (named_is l s0 s kept x)
              (λ room.
              let more = room.types in
              let further = room.arguments in
              let few = (kept.whole (record { types = omega arith; arguments = further })).numbers.bound_few in
              omega arith),
          named_is l s0 s kept x,
        )

    bound_so : (x : ℕ) (o : Option NameType) → Roomy s (λ types. IfKnown (NameIsThere types) o) → Gave s0 (bound_as o x s)
    bound_so x None there = bound_new x
    bound_so x (Some (Generalised t)) there = bound_new x
    bound_so x (Some (One t q)) there =
        elim (q == s.pattern) as (λ b. Gave s0 (if b then (record { found = t; state = s }) else new_bound x s)) [
          | true ↦ (kept, there)
          | false ↦ bound_new x
        ]

    pub bound_made : (x : ℕ) → Gave s0 (bound x s)
    bound_made x = bound_so x (known s.names x) (known_name l s0 s kept x)

    -- the argument of a constructor's pattern
    pub argument_so : (q t : Option ℕ) (other : Bool) (at : Place) → HasIf s t → Kept s0 (argument_pattern q t other p at s)
    argument_so (Some q) (Some t) other at has =
        let k = refused_unless_kept s0 s (other || is_any p q) at kept in
        let here = refused_unless_kept s s (other || is_any p q) at (kept_here s0 s kept) in
        let after = refused_unless (other || is_any p q) at s in
        first_one_kept s0 after (task.PatternIs q t) k (has_later s after t here has)
    argument_so None None other at has = kept
    argument_so None (Some t) other at has = refused_kept s0 s at kept
    argument_so (Some q) None other at has = refused_kept s0 s at kept

    -- a field of a record pattern
    pub field_pattern_kept :
        (at : Place) (t : ℕ) (f : FieldPart) (vars : Variables) → HasVariables s vars → Kept s0 (field_pattern p at t f vars s)
    field_pattern_kept at t f vars there =
        let is = is_owner p t f.field in
        let after = refused_unless is at s in
        let k = refused_unless_kept s0 s is at kept in
        let here = refused_unless_kept s s is at (kept_here s0 s kept) in
        let u = field_made l p vars at s0 after k (has_variables_later s after vars here there) f.field in
        first_one_kept s0 (field_type p f.field vars at after).state
        (task.PatternIs f.part (field_type p f.field vars at after).found) u.0 u.1

module _ (l : GraphLaws) (p : Parts) (s0 s : Inference) (kept : Kept s0 s) where
  -- a name of a pattern's whole value
  pub alias_kept : (at : Place) (x : ℕ) → Kept s0 (alias at x s)
  alias_kept at x =
      let t = taken s in
      let k = taken_kept l s0 s kept in
      let back = given_back t.found t.state in
      let given = given_kept s0 t.state t.found k.0 k.1 in
      let b = bound_made l p s0 back given x in
      let here = bound_made l p back back (kept_here s0 back given) x in
      equated_kept l s0 (bound x back).state at (bound x back).found t.found b.0 b.1
      (has_later back (bound x back).state t.found here.0 k.1)

  -- a constructor's pattern
  constructor_kept : (con : Constructor) (q : Option ℕ) (at : Place) → Kept s0 (constructor_pattern con q p at s)
  constructor_kept con q at =
      let made = constructed p con at s in
      let k = constructed_made l p at s0 s kept con in
      let given = first_one_kept s0 made.state (task.Give made.value.value) k.kept k.value in
      argument_so l p s0 _ given q made.value.argument (not (unhandled con)) at k.argument

  -- a record pattern
  fields_kept : (o : Option ℕ) (fs : List FieldPart) (at : Place) → Kept s0 (fields_pattern o fs p at s)
  fields_kept None fs at = kept
  fields_kept (Some t) fs at =
      let made = instance p t s in
      let k = instance_made l p t s0 s kept in
      let given = first_one_kept s0 made.state (task.Give made.value.value) k.kept k.value in
      first_kept s0 _ (map (field_pattern_task at t made.value.variables) fs) given
      (λ room.
      each_made (TaskIsThere (length made.state.types.nodes)) (field_pattern_task at t made.value.variables)
      (λ f. k.variables room) fs)

  record_kept : (fs : List FieldPart) (at : Place) → Kept s0 (record_pattern fs p at s)
  record_kept [] at = refused_kept s0 s at kept
  record_kept (f ∷ fs) at = fields_kept (field_owner p f.field) (f ∷ fs) at

  parts_first : (ts : List Task) → ((types : ℕ) → AllByRecursion (TaskIsThere types) ts) → Kept s0 (first ts s)
  parts_first ts there = first_kept s0 s ts kept (λ room. there (length s.types.nodes))

  joined_so : (f : PatternForm) (at : Place) → Kept s0 (joined_pattern f p at s)
  unfolding joined_pattern
  joined_so (pat.Or left right) at =
      parts_first (task.Pattern left ∷ task.Pattern right ∷ task.Agree (pattern_place p right s) ∷ [])
      (λ types. (tt, (tt, (tt, tt))))
  joined_so (pat.Alias q x) at = parts_first (task.Pattern q ∷ task.Alias at x ∷ []) (λ types. (tt, (tt, tt)))
  joined_so (pat.Annotated q w) at = parts_first (task.Pattern q ∷ task.Annotated at w ∷ []) (λ types. (tt, (tt, tt)))
  joined_so pat.Any at = kept
  joined_so (pat.Name x) at = kept
  joined_so (pat.Constant c) at = kept
  joined_so (pat.Tuple qs) at = kept
  joined_so (pat.Constructor con) at = kept
  joined_so (pat.Construct con q) at = kept
  joined_so (pat.Record fs) at = kept

  new_given : Kept s0 (give_found (new_variable s))
  new_given = found_given s0 (new_variable s) (variable_made l s0 s kept, variable_is l s0 s)

  pub constant_low : (c : Constant) → constant_row c < 6
  constant_low (constant.Integer n) = omega arith
  constant_low (constant.Character n) = omega arith
  constant_low (constant.Boolean b) = omega arith
  constant_low constant.Unit = omega arith
  constant_low (constant.Literal n) = omega arith

  -- the type of a constant
  pub constant_given : (c : Constant) → Kept s0 (given_back (constant_row c) s)
  constant_given c = given_kept s0 s (constant_row c) kept (has_built_in s0 s (constant_row c) kept (constant_low c))

  form_kept : (f : PatternForm) (at : Place) → Kept s0 (pattern_of f p at s)
  unfolding pattern_of
  form_kept pat.Any at = new_given
  form_kept (pat.Name x) at = found_given s0 (bound x s) (bound_made l p s0 s kept x)
  form_kept (pat.Constant c) at = constant_given c
  form_kept (pat.Tuple qs) at = tuple_kept l p s0 s (length qs) (λ x. task.PatternIs x.0 x.1) qs (λ types x lt. lt) kept
  form_kept (pat.Constructor con) at = constructor_kept con None at
  form_kept (pat.Construct con q) at = constructor_kept con (Some q) at
  form_kept (pat.Record fs) at = record_kept fs at
  form_kept (pat.Or left right) at = joined_so (pat.Or left right) at
  form_kept (pat.Alias q x) at = joined_so (pat.Alias q x) at
  form_kept (pat.Annotated q w) at = joined_so (pat.Annotated q w) at

  node_kept : (o : Option PatternNode) → Kept s0 (pattern_node o p s)
  node_kept None = new_given
  node_kept (Some node) = form_kept node.form node.place

  -- the equations of a pattern
  pub pattern_kept : (n : ℕ) → Kept s0 (pattern p n s)
  pattern_kept n = node_kept (slice_get p.patterns n)

  -- clauses for values of a type
  first_clauses_kept : (cs : List Clause) (u t : ℕ) → Has s u → Has s t → Kept s0 (first_clauses cs u t s)
  first_clauses_kept cs u t has_u has_t =
      first_kept s0 s (map (clause_task u t) cs) kept
      (λ room. each_made (TaskIsThere (length s.types.nodes)) (clause_task u t) (λ c. (has_u room, has_t room)) cs)

module _ (l : GraphLaws) (p : Parts) where
  clauses_so : (s0 s : Inference) (f : TermForm) (u t : ℕ) → Kept s0 s → Has s u → Has s t → Kept s0 (clauses_of f u t s)
  unfolding clauses_of
  clauses_so s0 s (term.Match a cs) u t kept has_u has_t = first_clauses_kept l p s0 s kept cs u t has_u has_t
  clauses_so s0 s (term.Catch a values exceptions) u t kept has_u has_t =
      let k = first_clauses_kept l p s0 s kept exceptions 5 t (has_built_in s0 s 5 kept (omega arith)) has_t in
      first_clauses_kept l p s0 (first_clauses exceptions 5 t s) k values u t has_u has_t
  clauses_so s0 s _ u t kept has_u has_t = kept

  clauses_in_kept :
      (s0 : Inference) (o : Option TermNode) (t : ℕ) (u : Gives) → Gave s0 u → Has u.state t → Kept s0 (clauses_in o t u)
  clauses_in_kept s0 None t u k has = k.0
  clauses_in_kept s0 (Some node) t u k has = clauses_so s0 u.state node.form u.found t k.0 k.1 has

  -- the clauses of a match or a catch
  pub clauses_kept : (s0 s : Inference) (n t : ℕ) → Kept s0 s → Has s t → Kept s0 (clauses p n t s)
  clauses_kept s0 s n t kept has =
      let here = taken_kept l s s (kept_here s0 s kept) in
      clauses_in_kept s0 (slice_get p.terms n) t (taken s) (taken_kept l s0 s kept) (has_later s (taken s).state t here.0 has)

  guard_kept : (s0 s : Inference) (guard : Option ℕ) → Kept s0 s → Kept s0 (first_guard guard s)
  guard_kept s0 s None kept = kept
  guard_kept s0 s (Some g) kept = first_one_kept s0 s (task.TermIs g 1) kept (has_built_in s0 s 1 kept (omega arith))

  -- a clause
  pub clause_kept :
      (s0 s : Inference) (q : ℕ) (guard : Option ℕ) (body u t : ℕ) → Kept s0 s → Has s u → Has s t
      → Kept s0 (clause q guard body u t s)
  clause_kept s0 s q None body u t kept has_u has_t =
      whole_pattern_kept s0 (first_one (task.TermIs body t) s) q u (first_one_kept s0 s (task.TermIs body t) kept has_t) has_u
  clause_kept s0 s q (Some g) body u t kept has_u has_t =
      let k = first_one_kept s0 s (task.TermIs body t) kept has_t in
      whole_pattern_kept s0 (first_guard (Some g) (first_one (task.TermIs body t) s)) q u
      (guard_kept s0 (first_one (task.TermIs body t) s) (Some g) k) has_u
