-- What is kept where written types are read.
use Rattle.std.proofs.Common.{◌≡◌, ℕ, zero, suc, ◌+◌, ◌≤◌, ◌<◌, List, [], ◌∷◌, length, map, Option, Some, None, Bool, true, false, sym, subst, arith, if◌then◌else◌, min, slice_get, ◌==◌, ⊎_elim}
use Rattle.std.specs.List.{AllByRecursion, list_all}
use Rattle.std.proofs.lemmas.Bool.Decides.{leb_tells}
use Rattle.fx_base.specs.declared.refusal.Place.{Place}
use Rattle.effect_meaning.specs.declared.core_nodes.TypeExpression.{TypeExpression}
use Rattle.effect_meaning.specs.declared.core_nodes.TypeExpression.TheVariants as type
use Rattle.effect_meaning.specs.Arena.{Parts}
use Rattle.type_graph.specs.Graph.{Graph, applied}
use Rattle.type_readings.specs.OuterLaws.{IsFixed}
use Rattle.type_readings.specs.WellFormed.{AreNumbers, IsOuter}
use Rattle.ml_infer.specs.declared.inference.Inference.{Inference}
use Rattle.ml_infer.specs.declared.inference.KnownVariable.{KnownVariable}
use Rattle.ml_infer.specs.declared.inference.Read.{Read}
use Rattle.ml_infer.specs.declared.written.Variables.{Variables}
use Rattle.ml_infer.specs.declared.written.Variables.TheVariants as variables
use Rattle.ml_infer.specs.declared.written.Visit.{Visit}
use Rattle.ml_infer.specs.declared.written.Visit.TheVariants as visit
use Rattle.ml_infer.specs.Inference.{Gives, gives, new_variable, variable_noted}
use Rattle.ml_infer.specs.Known.{known}
use Rattle.ml_infer.specs.Written.{annotated_if, built, entered, entered_type, found_of, item_variable, item_variable_of, left_type, note_found, read_before, reading, takes, type_variable, visited, visited_one, written}
use Rattle.inference_laws.specs.Whole.{HasRoom, IfKnown, EachKnown, VariablesAreThere, ReadIsThere}
use Rattle.inference_laws.proofs.Booleans.{both_hold}
use Rattle.inference_laws.proofs.Each.{known_at}
use Rattle.inference_laws.proofs.Kept.{Kept, Roomy, Has, kept_here, room_before, has_later, roomy_later, variables_up}
use Rattle.inference_laws.proofs.Fields.{read_kept, refused_unless_kept, stopped_kept, variable_kept}
use Rattle.inference_laws.proofs.GraphLaws.{GraphLaws}
use Rattle.inference_laws.proofs.Steps.{equated_kept, type_is, type_made, variable_is, variable_made}

-- a state with a number that is one of its types
abbrev pub Gave : Inference → Gives → Type 0
Gave s0 g = Kept s0 g.state × Has g.state g.found

-- the types that variables stand for are there
abbrev pub HasVariables : Inference → Variables → Type 0
HasVariables s vars = Roomy s (λ types. VariablesAreThere types vars)

pub has_variables_later : (s0 s : Inference) (vars : Variables) → Kept s0 s → HasVariables s0 vars → HasVariables s vars
has_variables_later s0 s vars k h =
    roomy_later (λ types. VariablesAreThere types vars) (λ m n le there. variables_up m n le vars there) s0 s k h

-- what written types were read as are types
module _ (g : Graph) (reads : List (Option Read)) (there : EachKnown (ReadIsThere g) reads) (first : 6 ≤ length g.nodes) where
  found_there : (o : Option Read) → IfKnown (ReadIsThere g) o → elim o [ None ↦ 4 | Some r ↦ r.found ] < length g.nodes
  found_there None h = omega arith
  found_there (Some r) h = h.0

  pub read_is : (n : ℕ) → found_of reads n < length g.nodes
  read_is n = found_there (known reads n) (known_at (ReadIsThere g) reads n there)

  reads_are : (ns : List ℕ) → AreNumbers (length g.nodes) (map (found_of reads) ns)
  reads_are [] = tt
  reads_are (n ∷ ns) = (read_is n, reads_are ns)

  -- those without variables are outer
  outer_there :
      (o : Option Read) → IfKnown (ReadIsThere g) o → elim o [ None ↦ false | Some r ↦ r.is_closed ] ≡ true
      → IsOuter g (elim o [ None ↦ 4 | Some r ↦ r.found ])
  outer_there None h e = absurd (cc)
  outer_there (Some r) h e = (h.1 e).0

  reads_outer : (ns : List ℕ) → list_all (read_before reads) ns ≡ true → AllByRecursion (IsOuter g) (map (found_of reads) ns)
  reads_outer [] e = tt
  reads_outer (n ∷ ns) e =
      let both = both_hold (read_before reads n) (list_all (read_before reads) ns) e in
      (outer_there (known reads n) (known_at (ReadIsThere g) reads n there) both.0, reads_outer ns both.1)

module _ (l : GraphLaws) (s0 s : Inference) (kept : Kept s0 s) where
  -- a new type variable of the item
  variable_new : (v : ℕ) → Gave s0 (gives (new_variable s).found (variable_noted v (new_variable s).found (new_variable s).state))
  variable_new v = (
    variable_kept s0 (new_variable s).state v (new_variable s).found (variable_made l s0 s kept) (variable_is l s0 s),
    variable_is l s0 s,
  )

  variable_so :
      (v : ℕ) (o : Option KnownVariable) → Roomy s (λ types. IfKnown (λ k. k.found < types) o) → Gave s0 (item_variable_of o v s)
  variable_so v None there = variable_new v
  variable_so v (Some k) there =
      elim (k.item == s.item)
      as (λ b. Gave s0 (if b then gives k.found s else gives (new_variable s).found
      (variable_noted v (new_variable s).found (new_variable s).state))) [
        | true ↦ (kept, there)
        | false ↦ variable_new v
      ]

  pub item_variable_kept : (v : ℕ) → Gave s0 (item_variable v s)
  item_variable_kept v =
      variable_so v (known s.variables v)
      (λ room. known_at (λ k. k.found < length s.types.nodes) s.variables v (kept.whole room).tables.variables_there)

  pub type_variable_kept : (vars : Variables) (v : ℕ) → HasVariables s vars → Gave s0 (type_variable vars v s)
  type_variable_kept variables.OfItem v there = item_variable_kept v
  type_variable_kept (variables.Parameters first count) v there =
      let P : Bool → Type 0 = λ b. Gave s0 (if b then gives (min (first + v) 4294967295) s else new_variable s) in
      ⊎_elim
      (λ p. let low = p.1 in subst P (sym p.0) (kept, λ room. let within = there room in omega arith))
      (λ p. subst P (sym p.0) (variable_made l s0 s kept, variable_is l s0 s))
      (leb_tells (suc v) count)

-- a written type is begun with
module _ (l : GraphLaws) (s0 s : Inference) (kept : Kept s0 s) (p : Parts) (vars : Variables) (there : HasVariables s vars)
    (at : Place) where
  found_kept : (n : ℕ) (g : Gives) → Gave s0 g → Kept s0 (note_found n g)
  found_kept n g k = read_kept s0 g.state n g.found false k.0 k.1 (λ room e. absurd (cc))

  entered_so : (o : Option TypeExpression) (n : ℕ) (vs : List Visit) → Kept s0 (entered_type o p vars at n vs s).state
  entered_so (Some (type.Variable v)) n vs = found_kept n (type_variable vars v s) (type_variable_kept l s0 s kept vars v there)
  entered_so (Some (type.Applied c ns)) n vs = refused_unless_kept s0 s (takes p c (length ns)) at kept
  entered_so (Some type.Any) n vs = found_kept n (new_variable s) (variable_made l s0 s kept, variable_is l s0 s)
  entered_so None n vs = found_kept n (new_variable s) (variable_made l s0 s kept, variable_is l s0 s)

  entered_kept : (n : ℕ) (vs : List Visit) → Kept s0 (entered p vars at n vs s).state
  entered_kept n vs =
      elim (read_before s.read n)
      as (λ b. Kept s0 (if b then reading vs s else entered_type (slice_get p.types n) p vars at n vs s).state) [
        | true ↦ kept
        | false ↦ entered_so (slice_get p.types n) n vs
      ]

  -- and ended
  built_kept : (n c : ℕ) (ns : List ℕ) → Kept s0 (built n c (map (found_of s.read) ns) (list_all (read_before s.read) ns) s)
  built_kept n c ns =
      let ts = map (found_of s.read) ns in
      let closed = list_all (read_before s.read) ns in
      let known : HasRoom s.types → EachKnown (ReadIsThere s.types) s.read = λ room. (kept.whole room).tables.read_there in
      let first : HasRoom s.types → 6 ≤ length s.types.nodes = λ room. (kept.whole room).types.built_in in
      let made = type_made l s0 s c ts closed kept (λ room. reads_are s.types s.read (known room) (first room) ns)
      (λ room e. reads_outer s.types s.read (known room) (first room) ns e) in
      read_kept s0 (record s {
        types =
            applied c ts closed s.types;
      }) n (length s.types.nodes) closed made (type_is l s0 s c ts closed)
      (λ room e.
      subst (λ b. IsFixed (applied c ts b s.types) (length s.types.nodes)) (sym e)
      (l.applied_itself c ts s.types (kept.whole (room_before s _ (type_made l s s c ts closed (kept_here s0 s kept)
      (λ r. reads_are s.types s.read (known r) (first r) ns)
      (λ r q. reads_outer s.types s.read (known r) (first r) ns q)) room)).types.well))

  left_so : (o : Option TypeExpression) (n : ℕ) → Kept s0 (left_type o n s)
  left_so (Some (type.Applied c ns)) n = built_kept n c ns
  left_so (Some (type.Variable v)) n = kept
  left_so (Some type.Any) n = kept
  left_so None n = kept

  pub visit_kept : (v : Visit) (vs : List Visit) → Kept s0 (visited_one p vars at v vs s).state
  visit_kept (visit.Enter n) vs = entered_kept n vs
  visit_kept (visit.Leave n) vs = left_so (slice_get p.types n) n

module _ (l : GraphLaws) (p : Parts) (vars : Variables) (at : Place) where
  visited_kept :
      (steps : ℕ) (s0 s : Inference) (vs : List Visit) → Kept s0 s → HasVariables s vars → Kept s0 (visited steps p vars at vs s)
  unfolding visited
  visited_kept steps s0 s [] kept there = kept
  visited_kept zero s0 s (v ∷ vs) kept there = stopped_kept s0 s kept
  visited_kept (suc steps) s0 s (v ∷ vs) kept there =
      let r = visited_one p vars at v vs s in
      let here = visit_kept l s s (kept_here s0 s kept) p vars there at v vs in
      visited_kept steps s0 r.state r.visits (visit_kept l s0 s kept p vars there at v vs)
      (has_variables_later s r.state vars here there)

  -- the type that a written one stands for
  pub written_kept : (s0 s : Inference) (n : ℕ) → Kept s0 s → HasVariables s vars → Gave s0 (written p n vars at s)
  written_kept s0 s n kept there =
      let t = visited 18446744073709551615 p vars at (visit.Enter n ∷ []) s in
      let k = visited_kept 18446744073709551615 s0 s (visit.Enter n ∷ []) kept there in (
        k,
        λ room. let w = k.whole room in read_is t.types t.read w.tables.read_there w.types.built_in n,
      )

-- a type is the one that is written, if one is
pub annotated_kept :
    (l : GraphLaws) (p : Parts) (at : Place) (s0 s : Inference) (t : ℕ) (w : Option ℕ) → Kept s0 s → Has s t
    → Kept s0 (annotated_if p at t w s)
annotated_kept l p at s0 s t None kept has = kept
annotated_kept l p at s0 s t (Some w) kept has =
    let u = written p w variables.OfItem at s in
    let k = written_kept l p variables.OfItem at s0 s w kept (λ room. tt) in
    let here = written_kept l p variables.OfItem at s s w (kept_here s0 s kept) (λ room. tt) in
    equated_kept l s0 u.state at t u.found k.0 (has_later s u.state t here.0 has) k.1
