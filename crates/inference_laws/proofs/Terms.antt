-- What is kept where the equations of terms are taken.
use Rattle.std.proofs.Common.{ℕ, suc, ◌+◌, ◌≤◌, ◌<◌, List, [], ◌∷◌, length, map, Option, Some, None, Bool, true, false, ◌&&◌, ◌==◌, arith, if◌then◌else◌, min, slice_get, slice_index_or, zero}
use Rattle.fx_base.specs.declared.refusal.Place.{Place}
use Rattle.effect_meaning.specs.declared.core_nodes.Constructor.{Constructor}
use Rattle.effect_meaning.specs.declared.core_nodes.FieldPart.{FieldPart}
use Rattle.effect_meaning.specs.declared.core_nodes.Function.{Function}
use Rattle.effect_meaning.specs.declared.core_nodes.Operation.{Operation}
use Rattle.effect_meaning.specs.declared.core_nodes.Operation.TheVariants as operation
use Rattle.effect_meaning.specs.declared.core_tables.FieldRow.{FieldRow}
use Rattle.effect_meaning.specs.Arena.{Parts}
use Rattle.type_graph.specs.declared.signatures.Signature.{Signature}
use Rattle.type_graph.specs.Graph.{applied, argument_of, form_of, is_of}
use Rattle.type_graph.specs.Signatures.{part_type, signature_of}
use Rattle.type_readings.specs.WellFormed.{AreNumbers}
use Rattle.ml_infer.specs.declared.inference.Inference.{Inference}
use Rattle.ml_infer.specs.declared.tasks.GroupFunction.{GroupFunction}
use Rattle.ml_infer.specs.declared.tasks.Task.TheVariants as task
use Rattle.ml_infer.specs.declared.written.Variables.{Variables}
use Rattle.ml_infer.specs.Constructors.{constructed, field_owner, field_type, instance, unhandled}
use Rattle.ml_infer.specs.Inference.{With, given_back, new_name, new_variable, one_type, refused, taken}
use Rattle.ml_infer.specs.Known.{noted}
use Rattle.ml_infer.specs.Members.{count_of}
use Rattle.ml_infer.specs.Tasks.{first, first_one, term_tasks}
use Rattle.ml_infer.specs.Terms.{agreed, annotated, application, applied_known, applied_unknown, argument_term, array, compared, construct, end_function, field_is, fields_first, function_begun, function_from, functions_first, group_function, is_mutable, lambda, match_term, named_each, names_each, names_new, new_names, primitive, primitive_of, read_field, read_field_of, record_counted, record_of, record_term, set_field, set_field_of}
use Rattle.ml_infer.specs.Written.{annotated_if, refused_unless}
use Rattle.inference_laws.specs.Whole.{TaskIsThere}
use Rattle.inference_laws.proofs.Each.{each_made}
use Rattle.inference_laws.proofs.Kept.{Kept, Has, HasAll, all_later, kept_here, has_later}
use Rattle.inference_laws.proofs.Fields.{comparison_kept, counted_kept, first_kept, first_one_kept, given_kept, refused_kept, refused_unless_kept}
use Rattle.inference_laws.proofs.GraphLaws.{GraphLaws}
use Rattle.inference_laws.proofs.Steps.{equated_kept, inner_made, named_is, named_kept, one_kept, taken_kept, type_is, variable_is, variable_made}
use Rattle.inference_laws.proofs.Written.{Gave, HasVariables, annotated_kept, has_variables_later}
use Rattle.inference_laws.proofs.Constructors.{HasIf, argument_there, constructed_made, field_made, has_built_in, instance_made}
use Rattle.inference_laws.proofs.Patterns.{found_given, tasks_there}
use Rattle.inference_laws.proofs.Signatures.{signed, signed_kept, parts_are, gives_is}

-- a state where a record expression names its fields
names_new_kept : (s0 s : Inference) (p : Parts) (t field : ℕ) → Kept s0 s → Kept s0 (names_new p t field s).state
names_new_kept s0 s p t field kept =
    counted_kept s0 s s.records s.equations s.item (noted field s.records s.naming) s.last kept

named_each_kept :
    (s0 : Inference) (p : Parts) (t : ℕ) (fs : List FieldPart) (r : With Bool) → Kept s0 r.state
    → Kept s0 (named_each p t fs r).state
named_each_kept s0 p t [] r kept = kept
named_each_kept s0 p t (f ∷ fs) r kept =
    let o = names_new p t f.field r.state in
    named_each_kept s0 p t fs (record { value = r.value && o.value; state = o.state }) (names_new_kept s0 r.state p t f.field kept)

names_each_kept : (s0 s : Inference) (p : Parts) (t : ℕ) (fs : List FieldPart) → Kept s0 s → Kept s0 (names_each p t fs s).state
names_each_kept s0 s p t fs kept =
    let c = record_counted s in
    named_each_kept s0 p t fs (record { value = length fs == count_of c.fields t; state = c })
    (counted_kept s0 s (min (s.records + 1) 18446744073709551615) s.equations s.item s.naming s.last kept)

-- the fields of a record expression
fields_first_kept :
    (s0 : Inference) (fs : List FieldPart) (at : Place) (vars : Variables) (r : With Bool) → Kept s0 r.state
    → HasVariables r.state vars
    → Kept s0 (fields_first fs at vars r)
fields_first_kept s0 fs at vars r kept there =
    elim r.value as (λ b. Kept s0 (if b then first (map (λ f. task.FieldIs at f vars) fs) r.state else refused at r.state)) [
      | true ↦
          first_kept s0 r.state (map (λ f. task.FieldIs at f vars) fs) kept
          (λ room. each_made (TaskIsThere (length r.state.types.nodes)) (λ f. task.FieldIs at f vars) (λ f. there room) fs)
      | false ↦ refused_kept s0 r.state at kept
    ]

-- the type of a part of an operation
part_there : (types : ℕ) (ps : List ℕ) (n : ℕ) → AreNumbers types ps → 6 ≤ types → slice_index_or ps n 4 < types
part_there types [] n h first = omega arith
part_there types (x ∷ xs) zero h first = h.0
part_there types (x ∷ xs) (suc n) h first = part_there types xs n h.1 first

module _ (l : GraphLaws) (p : Parts) (s0 s : Inference) (kept : Kept s0 s) where
  -- an array
  pub array_kept : (ns : List ℕ) → Kept s0 (array ns s)
  array_kept ns =
      let t = new_variable s in
      let k = variable_made l s0 s kept in
      let has = variable_is l s0 s in
      let made = inner_made l s0 t.state 9 (t.found ∷ []) k (λ room. (has room, tt)) in
      let here = inner_made l t.state t.state 9 (t.found ∷ []) (kept_here s0 t.state k) (λ room. (has room, tt)) in
      let with_array : Inference = record t.state { types = applied 9 (t.found ∷ []) false t.state.types } in
      let given =
      first_one_kept s0 with_array (task.Give (length t.state.types.nodes)) made (type_is l s0 t.state 9 (t.found ∷ []) false) in
      let later = has_later t.state with_array t.found here has in
      first_kept s0 _ (map (λ n. task.TermIs n t.found) ns) given
      (λ room. each_made (TaskIsThere (length with_array.types.nodes)) (λ n. task.TermIs n t.found) (λ n. later room) ns)

  -- the argument of a constructor
  argument_kept : (a t : Option ℕ) (at : Place) → HasIf s t → Kept s0 (argument_term a t at s)
  argument_kept (Some n) (Some t) at has = first_one_kept s0 s (task.TermIs n t) kept has
  argument_kept None None at has = kept
  argument_kept None (Some t) at has = refused_kept s0 s at kept
  argument_kept (Some n) None at has = refused_kept s0 s at kept

module _ (l : GraphLaws) (p : Parts) (s0 s : Inference) (kept : Kept s0 s) where
  -- a constructor
  pub construct_kept : (con : Constructor) (a : Option ℕ) (at : Place) → Kept s0 (construct con a p at s)
  construct_kept con a at =
      let made = constructed p con at s in
      let k = constructed_made l p at s0 s kept con in
      let t = first_one (task.Give made.value.value) made.state in
      let given = first_one_kept s0 made.state (task.Give made.value.value) k.kept k.value in
      elim (unhandled con) as (λ b. Kept s0 (if b then refused at t else argument_term a made.value.argument at t)) [
        | true ↦ refused_kept s0 t at given
        | false ↦ argument_kept l p s0 t given a made.value.argument at k.argument
      ]

  -- a record expression
  record_so : (o : Option ℕ) (fs : List FieldPart) (at : Place) → Kept s0 (record_of o fs p at s)
  record_so None fs at = kept
  record_so (Some t) fs at =
      let made = instance p t s in
      let k = instance_made l p t s0 s kept in
      let given = first_one_kept s0 made.state (task.Give made.value.value) k.kept k.value in
      let after = first_one (task.Give made.value.value) made.state in
      let named = names_each_kept s0 after p t fs given in
      let here = names_each_kept after after p t fs (kept_here s0 after given) in
      fields_first_kept s0 fs at made.value.variables (names_each p t fs after) named
      (has_variables_later after (names_each p t fs after).state made.value.variables here k.variables)

  pub record_term_kept : (fs : List FieldPart) (at : Place) → Kept s0 (record_term fs p at s)
  record_term_kept [] at = refused_kept s0 s at kept
  record_term_kept (f ∷ fs) at = record_so (field_owner p f.field) (f ∷ fs) at

  -- a field of it
  pub field_is_kept : (at : Place) (f : FieldPart) (vars : Variables) → HasVariables s vars → Kept s0 (field_is p at f vars s)
  field_is_kept at f vars there =
      let t = field_type p f.field vars at s in
      let k = field_made l p vars at s0 s kept there f.field in
      first_one_kept s0 t.state (task.TermIs f.part t.found) k.0 k.1

  -- a field that is read
  read_so : (o : Option ℕ) (at : Place) (field n : ℕ) → Kept s0 (read_field_of o p at field n s)
  read_so None at field n = kept
  read_so (Some t) at field n =
      let made = instance p t s in
      let k = instance_made l p t s0 s kept in
      let u = field_type p field made.value.variables at made.state in
      let f = field_made l p made.value.variables at s0 made.state k.kept k.variables field in
      let here = field_made l p made.value.variables at made.state made.state (kept_here s0 made.state k.kept) k.variables field in
      let value = has_later made.state u.state made.value.value here.0 k.value in
      first_kept s0 u.state (task.TermIs n made.value.value ∷ task.Give u.found ∷ []) f.0 (λ room. (value room, (f.1 room, tt)))

  pub read_field_kept : (at : Place) (field n : ℕ) → Kept s0 (read_field p at field n s)
  read_field_kept at field n = read_so (field_owner p field) at field n

  -- a field that is assigned to
  set_so : (o : Option ℕ) (at : Place) (field n value : ℕ) → Kept s0 (set_field_of o p at field n value s)
  set_so None at field n value = kept
  set_so (Some t) at field n value =
      let made = instance p t s in
      let k = instance_made l p t s0 s kept in
      let u = field_type p field made.value.variables at made.state in
      let f = field_made l p made.value.variables at s0 made.state k.kept k.variables field in
      let here = field_made l p made.value.variables at made.state made.state (kept_here s0 made.state k.kept) k.variables field in
      let owner = has_later made.state u.state made.value.value here.0 k.value in
      let unit = has_built_in s0 u.state 4 f.0 (omega arith) in
      first_kept s0 u.state (task.TermIs n made.value.value ∷ task.IsMutable at field ∷ task.TermIs value u.found ∷ task.Give 4 ∷ []) f.0
      (λ room. (owner room, (tt, (f.1 room, (unit room, tt)))))

  pub set_field_kept : (at : Place) (field n value : ℕ) → Kept s0 (set_field p at field n value s)
  set_field_kept at field n value = set_so (field_owner p field) at field n value

  mutable_so : (o : Option FieldRow) (at : Place) → Kept s0 (elim o [ None ↦ s | Some row ↦ refused_unless row.is_mutable at s ])
  mutable_so None at = kept
  mutable_so (Some row) at = refused_unless_kept s0 s row.is_mutable at kept

  pub is_mutable_kept : (at : Place) (field : ℕ) → Kept s0 (is_mutable p at field s)
  is_mutable_kept at field = mutable_so (slice_get p.field_rows field) at

  -- the functions of a group begin
  pub new_names_kept : (fs : List Function) → Kept s0 (new_names fs s)
  new_names_kept fs = new_names_from fs s kept
    where
      new_names_from : (fs : List Function) (t : Inference) → Kept s0 t → Kept s0 (new_names fs t)
      new_names_from [] t k = k
      new_names_from (f ∷ fs) t k = new_names_from fs (new_name f.name t).state (named_kept l s0 t k f.name)

  pub functions_kept : (fs : List Function) → Kept s0 (functions_first fs s)
  functions_kept fs =
      first_kept s0 (new_names fs s) (map (λ f. task.Function (group_function f)) fs) (new_names_kept fs)
      (λ room. each_made (TaskIsThere (length (new_names fs s).types.nodes)) (λ f. task.Function (group_function f)) (λ f. tt) fs)

  pub function_begun_kept : (f : GroupFunction) → Kept s0 (function_begun f s)
  function_begun_kept f =
      let t = new_name f.parameter s in
      let k = named_kept l s0 s kept f.parameter in
      let has = named_is l s0 s kept f.parameter in
      first_kept s0 t.state (task.Term f.body ∷ task.EndFunction f t.found ∷ []) k (λ room. (tt, (has room, tt)))

  -- a function type
  pub function_made : (a b : ℕ) → Has s a → Has s b → Gave s0 (function_from a (record { found = b; state = s }))
  function_made a b has_a has_b = (
    inner_made l s0 s 15 (a ∷ b ∷ []) kept (λ room. (has_a room, (has_b room, tt))),
    type_is l s0 s 15 (a ∷ b ∷ []) false,
  )

  -- an operation
  compared_kept : (op : Operation) (at : Place) (g : Signature) → HasAll s g.parts → Kept s0 (compared op at g s)
  compared_kept (operation.Compare o) at g there =
      comparison_kept s0 s (record { item = s.item; place = at; found = part_type g 0 }) kept
      (λ room. part_there (length s.types.nodes) g.parts 0 (there room) (kept.whole room).types.built_in)
  compared_kept _ at g there = kept

module _ (l : GraphLaws) (p : Parts) where
  operation_so :
      (s0 s : Inference) (op : Operation) (at : Place) (ns : List ℕ) (g : Signature) → Kept s0 s → HasAll s g.parts
      → Has s g.gives → Kept s0 (primitive_of op at ns g s)
  operation_so s0 s op at ns g kept parts gives =
      let after = first_one (task.Give g.gives) s in
      let k = first_one_kept s0 s (task.Give g.gives) kept gives in
      elim (length ns == g.count)
      as (λ b. Kept s0 (if b then first (term_tasks ns g.parts) (compared op at g after) else refused at after)) [
        | true ↦ noted_parts s0 after op at ns g k parts
        | false ↦ refused_kept s0 after at k
      ]
    where
      noted_parts :
          (s0 s : Inference) (op : Operation) (at : Place) (ns : List ℕ) (g : Signature) → Kept s0 s → HasAll s g.parts
          → Kept s0 (first (term_tasks ns g.parts) (compared op at g s))
      noted_parts s0 s op at ns g kept parts =
          let noted = compared_kept l p s0 s kept op at g parts in
          let here = compared_kept l p s s (kept_here s0 s kept) op at g parts in
          let later = all_later s (compared op at g s) g.parts here parts in
          first_kept s0 (compared op at g s) (term_tasks ns g.parts) noted
          (λ room.
          tasks_there (length (compared op at g s).types.nodes) (λ x. task.TermIs x.0 x.1) (λ x lt. lt) ns g.parts (later room))

  pub primitive_kept : (s0 s : Inference) (op : Operation) (at : Place) (ns : List ℕ) → Kept s0 s → Kept s0 (primitive op at ns s)
  primitive_kept s0 s op at ns kept =
      operation_so s0 (signed l s0 s op) op at ns (signature_of op s.types).signature (signed_kept l s0 s op kept)
      (parts_are l s0 s op kept)
      (gives_is l s0 s op kept)

  -- the type of a function of a group, behind its body
  pub end_function_kept : (s0 s : Inference) (f : GroupFunction) (a : ℕ) → Kept s0 s → Has s a → Kept s0 (end_function p f a s)
  end_function_kept s0 s f a kept has =
      let b = taken s in
      let k = taken_kept l s0 s kept in
      let here = taken_kept l s s (kept_here s0 s kept) in
      let has_a = has_later s b.state a here.0 has in
      let t = function_from a b in
      let m = function_made l p s0 b.state k.0 a b.found has_a k.1 in
      let w = annotated_if p f.place t.found f.annotation t.state in
      let n = annotated_kept l p f.place s0 t.state t.found f.annotation m.0 m.1 in
      let n_here = annotated_kept l p f.place t.state t.state t.found f.annotation (kept_here s0 t.state m.0) m.1 in
      let u = one_type f.name w in
      let o = one_kept l s0 w n f.name in
      let o_here = one_kept l w w (kept_here s0 w n) f.name in
      equated_kept l s0 u.state f.place t.found u.found o.0
      (has_later w u.state t.found o_here.0 (has_later t.state w t.found n_here m.1)) o.1

  -- the type of a function, behind its body
  pub lambda_kept : (s0 s : Inference) (a : ℕ) → Kept s0 s → Has s a → Kept s0 (lambda a s)
  lambda_kept s0 s a kept has =
      let b = taken s in
      let k = taken_kept l s0 s kept in
      let here = taken_kept l s s (kept_here s0 s kept) in
      found_given s0 (function_from a b) (function_made l p s0 b.state k.0 a b.found (has_later s b.state a here.0 has) k.1)

  -- two equal types
  pub agreed_kept : (s0 s : Inference) (at : Place) → Kept s0 s → Kept s0 (agreed at s)
  agreed_kept s0 s at kept =
      let second = taken s in
      let k = taken_kept l s0 s kept in
      let one = taken second.state in
      let o = taken_kept l s0 second.state k.0 in
      let here = taken_kept l second.state second.state (kept_here s0 second.state k.0) in
      let back = given_back one.found one.state in
      equated_kept l s0 back at second.found one.found (given_kept s0 one.state one.found o.0 o.1)
      (has_later second.state one.state second.found here.0 k.1) o.1

  -- a type that is written
  pub annotated_term_kept : (s0 s : Inference) (at : Place) (w : ℕ) → Kept s0 s → Kept s0 (annotated p at w s)
  annotated_term_kept s0 s at w kept =
      let t = taken s in
      let k = taken_kept l s0 s kept in
      annotated_kept l p at s0 (given_back t.found t.state) t.found (Some w) (given_kept s0 t.state t.found k.0 k.1) k.1

  -- an application
  unknown_kept :
      (s0 s : Inference) (at : Place) (given found : ℕ) → Kept s0 s → Has s given → Has s found
      → Kept s0 (applied_unknown at given found s)
  unknown_kept s0 s at given found kept has_given has_found =
      let answer = new_variable s in
      let k = variable_made l s0 s kept in
      let here = variable_made l s s (kept_here s0 s kept) in
      let has = variable_is l s0 s in
      let t = given_back answer.found answer.state in
      let given_k = given_kept s0 answer.state answer.found k has in
      let given_later = has_later s answer.state given here has_given in
      let found_later = has_later s answer.state found here has_found in
      let f = function_made l p s0 t given_k given answer.found given_later has in
      let f_here = function_made l p t t (kept_here s0 t given_k) given answer.found given_later has in
      let g = function_from given (record { found = answer.found; state = t }) in
      equated_kept l s0 g.state at found g.found f.0 (has_later t g.state found f_here.0 found_later) f.1

  application_so :
      (s0 s : Inference) (is : Bool) (a b : Option ℕ) (at here : Place) (given found : ℕ) → Kept s0 s → Has s given → Has s found
      → HasIf s a
      → HasIf s b → Kept s0 (applied_known is a b at here given found s)
  application_so s0 s true (Some a) (Some b) at here given found kept has_given has_found has_a has_b =
      equated_kept l s0 (given_back b s) here given a (given_kept s0 s b kept has_b) has_given has_a
  application_so s0 s true (Some a) None at here given found kept has_given has_found has_a has_b =
      unknown_kept s0 s at given found kept has_given has_found
  application_so s0 s true None b at here given found kept has_given has_found has_a has_b =
      unknown_kept s0 s at given found kept has_given has_found
  application_so s0 s false a b at here given found kept has_given has_found has_a has_b =
      unknown_kept s0 s at given found kept has_given has_found

  pub application_kept : (s0 s : Inference) (at here : Place) → Kept s0 s → Kept s0 (application at here s)
  application_kept s0 s at here kept =
      let given = taken s in
      let k = taken_kept l s0 s kept in
      let found = taken given.state in
      let o = taken_kept l s0 given.state k.0 in
      let o_here = taken_kept l given.state given.state (kept_here s0 given.state k.0) in
      let f = form_of found.state.types.nodes found.found in
      application_so s0 found.state (is_of f 15 2) (argument_of found.state.types.arguments f 0)
      (argument_of found.state.types.arguments f 1) at
      here given.found found.found o.0 (has_later given.state found.state given.found o_here.0 k.1) o.1
      (argument_there l s0 found.state f 0 o.0) (argument_there l s0 found.state f 1 o.0)

  -- a match or a catch
  pub match_kept : (s0 s : Inference) (n a : ℕ) → Kept s0 s → Kept s0 (match_term n a s)
  match_kept s0 s n a kept =
      let t = new_variable s in
      let k = variable_made l s0 s kept in
      let has = variable_is l s0 s in
      first_kept s0 t.state (task.Term a ∷ task.Clauses n t.found ∷ task.Give t.found ∷ []) k
      (λ room. (tt, (has room, (has room, tt))))
