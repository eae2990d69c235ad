-- Written types mean what they are read as.
use Rattle.std.proofs.Common.{◌≡◌, ℕ, zero, suc, ◌+◌, ◌≤◌, ◌<◌, List, [], ◌∷◌, ◌++◌, length, map, Option, Some, None, option_map, Bool, true, false, refl, sym, ◌∙◌, ap, subst, arith, if◌then◌else◌, min, slice_get, ◌⊎◌, inl, inr, ⊎_elim}
use Rattle.std.specs.List.{AllByRecursion, list_all}
use Rattle.std.proofs.lemmas.Bool.Decides.{eqb_tells, leb_tells}
use Rattle.fx_base.specs.declared.refusal.Place.{Place}
use Rattle.effect_meaning.specs.declared.core_nodes.TypeExpression.{TypeExpression}
use Rattle.effect_meaning.specs.declared.core_nodes.TypeExpression.TheVariants as type
use Rattle.effect_meaning.specs.Arena.{Parts, IsArena}
use Rattle.effect_meaning.specs.ArenaTrees.{program, type_at, type_tree, types_at, types_of}
use Rattle.effect_meaning.specs.Terms.{Written, Variable, Applied, Writtens, AndType}
use Rattle.type_terms.specs.TypeTrees.{Ty, Constructed}
use Rattle.type_terms.specs.Constructors.{ArgumentIs}
use Rattle.type_terms.specs.WrittenTypes.{Means, IfWritten}
use Rattle.type_graph.specs.Graph.{Graph, applied}
use Rattle.type_readings.specs.Readings.{Reads, trees_of}
use Rattle.type_readings.specs.WellFormed.{AreNumbers}
use Rattle.ml_infer.specs.declared.inference.End.{End}
use Rattle.ml_infer.specs.declared.inference.End.TheVariants as ends
use Rattle.ml_infer.specs.declared.inference.Inference.{Inference}
use Rattle.ml_infer.specs.declared.inference.KnownVariable.{KnownVariable}
use Rattle.ml_infer.specs.declared.inference.Read.{Read}
use Rattle.ml_infer.specs.declared.written.Variables.{Variables}
use Rattle.ml_infer.specs.declared.written.Variables.TheVariants as variables
use Rattle.ml_infer.specs.declared.written.Visit.{Visit}
use Rattle.ml_infer.specs.declared.written.Visit.TheVariants as visit
use Rattle.ml_infer.specs.Constructors.{declared_argument}
use Rattle.ml_infer.specs.Inference.{Gives, gives, equated, new_variable, variable_noted}
use Rattle.ml_infer.specs.Known.{known, noted}
use Rattle.ml_infer.specs.Written.{Reading, annotated_if, built, entered_type, found_of, item_variable, item_variable_of, left_type, note_found, read_before, reading, refused_unless, takes, type_variable, visited, visited_one, written}
use Rattle.inference_laws.specs.Whole.{HasRoom, IfKnown, IsWhole}
use Rattle.inference_laws.specs.Meanings.{VariablesAgree, StandFor, VariablesStay, ReadsAreMeant, SameRest, LeadsTo, AreBelowThese}
use Rattle.inference_laws.specs.WrittenLaws.{ItemTypeIsMeant, DeclaredTypeIsMeant, WrittenLeads}
use Rattle.inference_laws.proofs.Booleans.{both_hold}
use Rattle.inference_laws.proofs.Kept.{Kept, Has, kept_here, kept_on, numbers_up, room_before, has_later}
use Rattle.inference_laws.proofs.Fields.{stopped_kept, goes_on}
use Rattle.inference_laws.proofs.GraphLaws.{GraphLaws}
use Rattle.inference_laws.proofs.Noting.{noted_same, noted_other}
use Rattle.inference_laws.proofs.Trees.{got_there, type_is_tree, arguments_below}
use Rattle.inference_laws.proofs.Leading.{agree_before, leads_here, leads_on, same_rest_here, same_rest_but, same_rest_on, stand_before, variables_stay_on, equated_leads, equated_equal, type_is_read}
use Rattle.inference_laws.proofs.Arguments.{IsMeant, IsClosedMeant, applied_meant, closed_is_meant, closed_noted, meant_noted}
use Rattle.inference_laws.proofs.Steps.{equated_kept}
use Rattle.inference_laws.proofs.Written.{HasVariables, has_variables_later, visit_kept, written_kept}

-- a state differs from another in what a step of reading changes, at most
record Stays (s t : Inference) : Type 0 where
  rest : SameRest s t
  stay : VariablesStay s t

stays_here : (s : Inference) → Stays s s
stays_here s = record { rest = same_rest_here s; stay = λ v k is item. is }

stays_but : (s : Inference) (types : Graph) (read : List (Option Read)) (end : Option End)
    → Stays s (record s { types = types; read = read; end = end })
stays_but s types read end =
    record { rest = same_rest_but s types read s.variables s.equations s.last end; stay = λ v k is item. is }

stays_on : (s t u : Inference) → Stays s t → Stays t u → Stays s u
stays_on s t u a b = record { rest = same_rest_on s t u a.rest b.rest; stay = variables_stay_on s t u a.rest a.stay b.stay }

-- a type variable
module _ (s : Inference) (v : ℕ) where
  abbrev fresh : Inference
  fresh = variable_noted v (new_variable s).found (new_variable s).state

  fresh_stays : ((k : KnownVariable) → known s.variables v ≡ Some k → k.item ≡ s.item → ⊥) → Stays s fresh
  fresh_stays unknown = record {
    rest = same_rest_but s _ _ _ _ _ _;
    stay =
        λ w k is item.
        ⊎_elim (λ h. absurd (unknown k (ap (known s.variables) (sym h.1) ∙ is) item))
        (λ h. noted_other v w (record { item = s.item; found = length s.types.nodes }) s.variables h.1 ∙ is) (eqb_tells w v);
  }

  fresh_agrees : (f vs : ℕ → Ty) → VariablesAgree f vs fresh → vs v ≡ f (length s.types.nodes)
  fresh_agrees f vs agree =
      agree v (record { item = s.item; found = length s.types.nodes })
      (noted_same v (record { item = s.item; found = length s.types.nodes }) s.variables) refl

  some_same : (a b : KnownVariable) → Some a ≡ Some b → a ≡ b
  some_same a b e = cc

  -- what is found of a type variable of the item
  record OfItem (g : Gives) : Type 0 where
    stays : Stays s g.state
    read : g.state.read ≡ s.read
    is : (f vs : ℕ → Ty) → VariablesAgree f vs g.state → vs v ≡ f g.found

  fresh_found :
      ((k : KnownVariable) → known s.variables v ≡ Some k → k.item ≡ s.item → ⊥)
      → OfItem (gives (length s.types.nodes) fresh)
  fresh_found unknown = record { stays = fresh_stays unknown; read = refl; is = λ f vs agree. fresh_agrees f vs agree }

  item_found_so : (o : Option KnownVariable) → known s.variables v ≡ o → OfItem (item_variable_of o v s)
  item_found_so None is = fresh_found (λ k e item. absurd (cc))
  item_found_so (Some k) is =
      let P : Bool → Type 0 = λ b. OfItem (if b then gives k.found s else gives (length s.types.nodes) fresh) in
      ⊎_elim
      (λ h. subst P (sym h.0) (record { stays = stays_here s; read = refl; is = λ f vs agree. agree v k is h.1 }))
      (λ h. subst P (sym h.0)
      (fresh_found (λ j e item. h.1 (ap (λ (a : KnownVariable). a.item) (some_same k j (sym is ∙ e)) ∙ item))))
      (eqb_tells k.item s.item)

  item_found : OfItem (item_variable v s)
  item_found = item_found_so (known s.variables v) refl

-- what is found of a type variable
record OfVariable (s : Inference) (vars : Variables) (v : ℕ) (g : Gives) : Type 0 where
  stays : Stays s g.state
  read : g.state.read ≡ s.read
  is :
      HasRoom s.types → HasVariables s vars → AreBelowThese vars (Variable v) → (f vs : ℕ → Ty) → StandFor f vs g.state vars
      → vs v ≡ f g.found

variable_found : (s : Inference) (vars : Variables) (v : ℕ) → OfVariable s vars v (type_variable vars v s)
variable_found s variables.OfItem v =
    let o = item_found s v in record { stays = o.stays; read = o.read; is = λ room there below f vs stand. o.is f vs stand }
variable_found s (variables.Parameters first count) v =
    let P : Bool → Type 0 = λ b.
    OfVariable s (variables.Parameters first count) v (if b then gives (min (first + v) 4294967295) s else new_variable s) in
    ⊎_elim
    (λ h. subst P (sym h.0)
    (record {
      stays = stays_here s;
      read = refl;
      is =
          λ room there below f vs stand.
          let few = room.types in
          let within : first + count ≤ length s.types.nodes = there room in
          let same : first + v ≡ min (first + v) 4294967295 = omega arith in
          stand v below ∙ ap f same;
    }))
    (λ h. subst P (sym h.0)
    (record {
      stays = stays_but s _ _ _;
      read = refl;
      is = λ room there below f vs stand. absurd (let low : v < count = below in let high = h.1 in omega arith);
    }))
    (leb_tells (suc v) count)

-- what a refusal changes
refused_stays : (is : Bool) (at : Place) (s : Inference) → Stays s (refused_unless is at s)
refused_stays true at s = stays_here s
refused_stays false at s = stays_but s _ _ _

pub refused_read : (is : Bool) (at : Place) (s : Inference) → (refused_unless is at s).read ≡ s.read
refused_read true at s = refl
refused_read false at s = refl

-- one step of reading changes no more than that
module _ (p : Parts) (vars : Variables) (at : Place) (s : Inference) where
  entered_stays : (o : Option TypeExpression) (n : ℕ) (vs : List Visit) → Stays s (entered_type o p vars at n vs s).state
  entered_stays (Some (type.Variable v)) n vs =
      let r = type_variable vars v s in
      stays_on s r.state (note_found n r) (variable_found s vars v).stays (stays_but r.state _ _ _)
  entered_stays (Some (type.Applied c ns)) n vs = refused_stays (takes p c (length ns)) at s
  entered_stays (Some type.Any) n vs = stays_but s _ _ _
  entered_stays None n vs = stays_but s _ _ _

  left_stays : (o : Option TypeExpression) (n : ℕ) → Stays s (left_type o n s)
  left_stays (Some (type.Applied c ns)) n = stays_but s _ _ _
  left_stays (Some (type.Variable v)) n = stays_here s
  left_stays (Some type.Any) n = stays_here s
  left_stays None n = stays_here s

  visit_stays : (v : Visit) (vs : List Visit) → Stays s (visited_one p vars at v vs s).state
  visit_stays (visit.Enter n) vs =
      elim (read_before s.read n)
      as (λ b. Stays s (if b then reading vs s else entered_type (slice_get p.types n) p vars at n vs s).state) [
        | true ↦ stays_here s
        | false ↦ entered_stays (slice_get p.types n) n vs
      ]
  visit_stays (visit.Leave n) vs = left_stays (slice_get p.types n) n

-- the one state is kept in the other, which differs in this at most
record Toward (s t : Inference) : Type 0 where
  kept : Kept s t
  stays : Stays s t

module _ (l : GraphLaws) (p : Parts) (vars : Variables) (at : Place) where
  visits_toward :
      (steps : ℕ) (s : Inference) (vs : List Visit) → Kept s s → HasVariables s vars → Toward s (visited steps p vars at vs s)
  unfolding visited
  visits_toward steps s [] kept there = record { kept = kept; stays = stays_here s }
  visits_toward zero s (v ∷ vs) kept there = record {
    kept = stopped_kept s s kept;
    stays =
        stays_but s _ _ _;
  }
  visits_toward (suc steps) s (v ∷ vs) kept there =
      let r = visited_one p vars at v vs s in
      let k = visit_kept l s s kept p vars there at v vs in
      let others = visits_toward steps r.state r.visits (kept_here s r.state k) (has_variables_later s r.state vars k there) in
      record {
        kept = kept_on s r.state (visited steps p vars at r.visits r.state) k others.kept;
        stays = stays_on s r.state (visited steps p vars at r.visits r.state) (visit_stays p vars at s v vs) others.stays;
      }

-- the walk goes on, there is room, and this reads the types
record Goes (f : ℕ → Ty) (s : Inference) : Type 0 where
  room : HasRoom s.types
  on : s.end ≡ None
  reads : Reads f s.types

goes_before : (f : ℕ → Ty) (s t : Inference) → Kept s t → Goes f t → Goes f s
goes_before f s t kept g =
    record { room = room_before s t kept g.room; on = kept.ended g.on; reads = kept.reads g.room g.on f g.reads }

-- a type constructor with as many arguments as it takes
record Takes (p : Parts) (n : ℕ) : Type 0 where
  constructor_is : ℕ
  arguments : List ℕ
  is : slice_get p.types n ≡ Some (type.Applied constructor_is arguments)
  takes_them : takes p constructor_is (length arguments) ≡ true

-- so are those that are to be ended
abbrev Taking : Parts → List Visit → Type 0
Taking p [] = Unit {0}
Taking p (visit.Enter n ∷ vs) = Taking p vs
Taking p (visit.Leave n ∷ vs) = Takes p n × Taking p vs

taking_entered : (p : Parts) (ns : List ℕ) (vs : List Visit) → Taking p vs → Taking p (map (λ a. visit.Enter a) ns ++ vs)
taking_entered p [] vs h = h
taking_entered p (n ∷ ns) vs h = taking_entered p ns vs h

stopped : Some ends.Stopped ≡ None → ⊥
stopped e = cc

module _ (l : GraphLaws) (p : Parts) (arena : IsArena p) (vars : Variables) (at : Place) (f : ℕ → Ty) where
  module _ (s : Inference) (kept : Kept s s) (there : HasVariables s vars) (closed : IsClosedMeant p f s.read) where
    -- behind a step what has no variables still means what it was read as
    abbrev Sound : Reading → Type 0
    Sound r = Goes f r.state → IsClosedMeant p f r.state.read × Taking p r.visits

    open_noted :
        (t : Inference) → t.read ≡ s.read → (n found : ℕ)
        → IsClosedMeant p f (noted n (record { found = found; is_closed = false }) t.read)
    open_noted t same n found =
        subst (λ reads. IsClosedMeant p f (noted n (record { found = found; is_closed = false }) reads)) (sym same)
        (closed_noted p f s.read n (record { found = found; is_closed = false }) closed (λ e vs. absurd (cc)))

    entered_sound :
        (n : ℕ) (vs : List Visit) → Taking p vs → (o : Option TypeExpression) → slice_get p.types n ≡ o
        → Sound (entered_type o p vars at n vs s)
    entered_sound n vs taking None is g = (open_noted (new_variable s).state refl n (length s.types.nodes), taking)
    entered_sound n vs taking (Some type.Any) is g = (open_noted (new_variable s).state refl n (length s.types.nodes), taking)
    entered_sound n vs taking (Some (type.Variable v)) is g =
        let r = type_variable vars v s in (open_noted r.state (variable_found s vars v).read n r.found, taking)
    entered_sound n vs taking (Some (type.Applied c ns)) is g =
        let t : Takes p n = record {
          constructor_is = c;
          arguments = ns;
          is = is;
          takes_them = goes_on (takes p c (length ns)) at s g.on;
        } in (
          subst (IsClosedMeant p f) (sym (refused_read (takes p c (length ns)) at s)) closed,
          taking_entered p ns (visit.Leave n ∷ vs) (t, taking),
        )

    each_closed :
        (vs : ℕ → Ty) (ns : List ℕ) → list_all (read_before s.read) ns ≡ true → AllByRecursion (IsMeant p f vs s.read) ns
    each_closed vs [] e = tt
    each_closed vs (n ∷ ns) e =
        let both = both_hold (read_before s.read n) (list_all (read_before s.read) ns) e in
        (closed_is_meant p f s.read closed n both.0 vs, each_closed vs ns both.1)

    -- the type that is built
    built_is :
        (n c : ℕ) (ns : List ℕ)
        → HasRoom s.types → Goes f (built n c (map (found_of s.read) ns) (list_all (read_before s.read) ns) s)
        → f (length s.types.nodes) ≡ Constructed c (trees_of f (map (found_of s.read) ns))
    built_is n c ns room g =
        type_is_read l s s kept c (map (found_of s.read) ns) (list_all (read_before s.read) ns) f room g.reads

    left_sound : (n : ℕ) (vs : List Visit) (t : Takes p n) → Taking p vs → HasRoom s.types
        → Sound (reading vs (left_type (Some (type.Applied t.constructor_is t.arguments)) n s))
    left_sound n vs t taking room g =
        let c = t.constructor_is in
        let ns = t.arguments in (
          closed_noted p f s.read n (record { found = length s.types.nodes; is_closed = list_all (read_before s.read) ns }) closed
              (λ e vs. applied_meant p f arena n c ns t.is t.takes_them vs s.read (each_closed vs ns e) (f (length s.types.nodes))
              (built_is n c ns room g)),
          taking,
        )

    closed_step : (v : Visit) (vs : List Visit) → Taking p (v ∷ vs) → Sound (visited_one p vars at v vs s)
    closed_step (visit.Enter n) vs taking g =
        elim (read_before s.read n) as
        (λ b. Sound (if b then reading vs s else entered_type (slice_get p.types n) p vars at n vs s)) [
          | true ↦ λ g. (closed, taking)
          | false ↦ entered_sound n vs taking (slice_get p.types n) refl
        ]
        g
    closed_step (visit.Leave n) vs taking g =
        let room = room_before s (visited_one p vars at (visit.Leave n) vs s).state
        (visit_kept l s s kept p vars there at (visit.Leave n) vs) g.room in
        let t = taking.0 in
        subst (λ o. Sound (reading vs (left_type o n s))) (sym t.is) (left_sound n vs t taking.1 room) g

  -- so it does behind all steps
  closed_visits :
      (steps : ℕ) (s : Inference) (vs : List Visit) → Kept s s → HasVariables s vars → Goes f (visited steps p vars at vs s)
      → IsClosedMeant p f s.read → Taking p vs → IsClosedMeant p f (visited steps p vars at vs s).read
  unfolding visited
  closed_visits steps s [] kept there g closed taking = closed
  closed_visits zero s (v ∷ vs) kept there g closed taking = absurd (stopped g.on)
  closed_visits (suc steps) s (v ∷ vs) kept there g closed taking =
      let r = visited_one p vars at v vs s in
      let k = visit_kept l s s kept p vars there at v vs in
      let here = kept_here s r.state k in
      let later = has_variables_later s r.state vars k there in
      let toward = visits_toward l p vars at steps r.state r.visits here later in
      let now = closed_step s kept there closed v vs taking
      (goes_before f r.state (visited steps p vars at r.visits r.state) toward.kept g) in
      closed_visits steps r.state r.visits here later g now.0 now.1

none_some : (node : TypeExpression) → None ≡ Some node → ⊥
none_some node e = cc

-- what is to be read is read behind all visits, if these are done already
record Readable (p : Parts) (vars : Variables) (n : ℕ) : Type 0 where
  low : n < length p.types
  below : AreBelowThese vars (type_at (types_of p) n)

abbrev Ready : (p : Parts) (vars : Variables) (goal : ℕ) → (ℕ → Type 0) → List Visit → Type 0
Ready p vars goal done [] = done goal
Ready p vars goal done (visit.Enter n ∷ vs) = Readable p vars n × Ready p vars goal (λ m. done m ⊎ (m ≡ n)) vs
Ready p vars goal done (visit.Leave n ∷ vs) =
    (t : Takes p n) × AllByRecursion done t.arguments × Ready p vars goal (λ m. done m ⊎ (m ≡ n)) vs

each_more : (d e : ℕ → Type 0) → ((m : ℕ) → d m → e m) → (ns : List ℕ) → AllByRecursion d ns → AllByRecursion e ns
each_more d e up [] h = tt
each_more d e up (n ∷ ns) h = (up n h.0, each_more d e up ns h.1)

-- the variables of arguments
first_below :
    (vars : Variables) (w : Written) (ws : Writtens) → AreBelowThese vars (Applied 0 (AndType w ws))
    → AreBelowThese vars w × AreBelowThese vars (Applied 0 ws)
first_below variables.OfItem w ws h = (tt, tt)
first_below (variables.Parameters first count) w ws h = h

any_constructor : (vars : Variables) (c : ℕ) (ws : Writtens) → AreBelowThese vars (Applied c ws) → AreBelowThese vars (Applied 0 ws)
any_constructor variables.OfItem c ws h = tt
any_constructor (variables.Parameters first count) c ws h = h

module _ (p : Parts) (vars : Variables) (goal : ℕ) where
  or_more : (d e : ℕ → Type 0) (n : ℕ) → ((m : ℕ) → d m → e m) → (m : ℕ) → (d m ⊎ (m ≡ n)) → (e m ⊎ (m ≡ n))
  or_more d e n up m h = ⊎_elim (λ k. inl (up m k)) (λ k. inr k) h

  ready_more : (d e : ℕ → Type 0) → ((m : ℕ) → d m → e m) → (vs : List Visit) → Ready p vars goal d vs → Ready p vars goal e vs
  ready_more d e up [] h = up goal h
  ready_more d e up (visit.Enter n ∷ vs) h =
      (h.0, ready_more (λ m. d m ⊎ (m ≡ n)) (λ m. e m ⊎ (m ≡ n)) (or_more d e n up) vs h.1)
  ready_more d e up (visit.Leave n ∷ vs) h = (
    h.0,
    each_more d e up h.0.arguments h.1,
    ready_more (λ m. d m ⊎ (m ≡ n)) (λ m. e m ⊎ (m ≡ n)) (or_more d e n up) vs h.2,
  )

  ready_taking : (d : ℕ → Type 0) (vs : List Visit) → Ready p vars goal d vs → Taking p vs
  ready_taking d [] h = tt
  ready_taking d (visit.Enter n ∷ vs) h = ready_taking (λ m. d m ⊎ (m ≡ n)) vs h.1
  ready_taking d (visit.Leave n ∷ vs) h = (h.0, ready_taking (λ m. d m ⊎ (m ≡ n)) vs h.2)

  -- the arguments come first
  ready_entered :
      (ns : List ℕ) (vs : List Visit) (d : ℕ → Type 0) → AllByRecursion (Readable p vars) ns
      → ((e : ℕ → Type 0) → ((m : ℕ) → d m → e m) → AllByRecursion e ns → Ready p vars goal e vs)
      → Ready p vars goal d (map (λ a. visit.Enter a) ns ++ vs)
  ready_entered [] vs d are behind = behind d (λ m h. h) tt
  ready_entered (n ∷ ns) vs d are behind = (
    are.0,
    ready_entered ns vs (λ m. d m ⊎ (m ≡ n)) are.1
        (λ e up all. behind e (λ m h. up m (inl h)) (up n (inr refl), all)),
  )

  -- arguments are readable where the type is
  parts_below :
      (ns : List ℕ) → AreNumbers (length p.types) ns → AreBelowThese vars (Applied 0 (types_at (types_of p) ns))
      → AllByRecursion (Readable p vars) ns
  parts_below [] low below = tt
  parts_below (n ∷ ns) low below =
      let one = first_below vars (type_at (types_of p) n) (types_at (types_of p) ns) below in
      (record { low = low.0; below = one.0 }, parts_below ns low.1 one.1)

module _ (l : GraphLaws) (p : Parts) (arena : IsArena p) (vars : Variables) (at : Place) (goal : ℕ) (f variables : ℕ → Ty) where
  -- what is done means what it was read as
  abbrev AreMeant : (ℕ → Type 0) → List (Option Read) → Type 0
  AreMeant done reads = (m : ℕ) → done m → IsMeant p f variables reads m

  -- what is left to be read, and what is done
  abbrev Onward : Reading → Type 1
  Onward r = (done : ℕ → Type 0) × Ready p vars goal done r.visits × AreMeant done r.state.read

  module _ (s : Inference) (kept : Kept s s) (there : HasVariables s vars) (closed : IsClosedMeant p f s.read) where
    abbrev Steps : Reading → Type 1
    Steps r = Goes f r.state → StandFor f variables r.state vars → Onward r

    module _ (done : ℕ → Type 0) (meant : AreMeant done s.read) (n : ℕ) (vs : List Visit)
        (ready : Ready p vars goal (λ m. done m ⊎ (m ≡ n)) vs) where
      -- a written type is noted
      noted_now :
          (t : Inference) → t.read ≡ s.read → (r : Read) → Means (program p).types variables (type_at (types_of p) n) (f r.found)
          → AreMeant (λ m. done m ⊎ (m ≡ n)) (noted n r t.read)
      noted_now t same r new m old =
          subst (λ reads. IsMeant p f variables (noted n r reads) m) (sym same)
          (meant_noted p f s.read n r variables new m (⊎_elim (λ h. inl (meant m h)) (λ h. inr h) old))

      closed_now : read_before s.read n ≡ true → AreMeant (λ m. done m ⊎ (m ≡ n)) s.read
      closed_now e m old =
          ⊎_elim (λ h. meant m h)
          (λ h. subst (IsMeant p f variables s.read) (sym h) (closed_is_meant p f s.read closed n e variables)) old

      is_written : (node : TypeExpression) → slice_get p.types n ≡ Some node → (t : Ty)
          → Means (program p).types variables (type_tree (types_of p) node) t
          → Means (program p).types variables (type_at (types_of p) n) t
      is_written node is t h = subst (λ w. Means (program p).types variables w t) (sym (type_is_tree p arena n node is)) h

      entered_steps :
          Readable p vars n → HasRoom s.types → (o : Option TypeExpression) → slice_get p.types n ≡ o
          → Steps (entered_type o p vars at n vs s)
      entered_steps readable room None is g stand =
          let one = got_there p.types n readable.low in absurd (none_some one.0 (sym is ∙ one.1))
      entered_steps readable room (Some type.Any) is g stand = (
        (λ m. done m ⊎ (m ≡ n)),
        ready,
        noted_now (new_variable s).state refl (record { found = length s.types.nodes; is_closed = false })
            (is_written type.Any is (f (length s.types.nodes)) tt),
      )
      entered_steps readable room (Some (type.Variable v)) is g stand =
          let r = type_variable vars v s in
          let o = variable_found s vars v in
          let below : AreBelowThese vars (Variable v) = subst (AreBelowThese vars) (type_is_tree p arena n (type.Variable v) is)
          readable.below in (
            (λ m. done m ⊎ (m ≡ n)),
            ready,
            noted_now r.state o.read (record { found = r.found; is_closed = false })
                (is_written (type.Variable v) is (f r.found) (sym (o.is room there below f variables stand))),
          )
      entered_steps readable room (Some (type.Applied c ns)) is g stand =
          let t : Takes p n = record {
            constructor_is = c;
            arguments = ns;
            is = is;
            takes_them = goes_on (takes p c (length ns)) at s g.on;
          } in
          let low = numbers_up n (length p.types) (let r = readable.low in omega arith) ns (arguments_below p arena n c ns is) in
          let below = any_constructor vars c (types_at (types_of p) ns)
          (subst (AreBelowThese vars) (type_is_tree p arena n (type.Applied c ns) is) readable.below) in (
            done,
            ready_entered p vars goal ns (visit.Leave n ∷ vs) done (parts_below p vars goal ns low below)
                (λ e up all. (
                  t,
                  all,
                  ready_more p vars goal (λ m. done m ⊎ (m ≡ n)) (λ m. e m ⊎ (m ≡ n)) (or_more p vars goal done e n up) vs
                      ready,
                )),
            subst (AreMeant done) (sym (refused_read (takes p c (length ns)) at s)) meant,
          )

      -- what is done of the arguments
      each_meant : (ns : List ℕ) → AllByRecursion done ns → AllByRecursion (IsMeant p f variables s.read) ns
      each_meant [] h = tt
      each_meant (m ∷ ns) h = (meant m h.0, each_meant ns h.1)

      left_steps :
          (t : Takes p n) → AllByRecursion done t.arguments → HasRoom s.types
          → Steps (reading vs (left_type (Some (type.Applied t.constructor_is t.arguments)) n s))
      left_steps t all room g stand =
          let c = t.constructor_is in
          let ns = t.arguments in (
            (λ m. done m ⊎ (m ≡ n)),
            ready,
            noted_now (record s { types = applied c (map (found_of s.read) ns) (list_all (read_before s.read) ns) s.types }) refl
                (record { found = length s.types.nodes; is_closed = list_all (read_before s.read) ns })
                (applied_meant p f arena n c ns t.is t.takes_them variables s.read (each_meant ns all) (f (length s.types.nodes))
                (built_is l p arena vars at f s kept there closed n c ns room g)),
          )

    entered_so :
        (n : ℕ) (vs : List Visit) (done : ℕ → Type 0) → HasRoom s.types → Ready p vars goal done (visit.Enter n ∷ vs)
        → AreMeant done s.read
        → (b : Bool) → read_before s.read n ≡ b
        → Steps (if b then reading vs s else entered_type (slice_get p.types n) p vars at n vs s)
    entered_so n vs done room ready meant true e g stand = ((λ m. done m ⊎ (m ≡ n)), ready.1, closed_now done meant n vs ready.1 e)
    entered_so n vs done room ready meant false e g stand =
        entered_steps done meant n vs ready.1 ready.0 room (slice_get p.types n) refl g stand

    one_step :
        (v : Visit) (vs : List Visit) (done : ℕ → Type 0) → HasRoom s.types → Ready p vars goal done (v ∷ vs) → AreMeant done s.read
        → Steps (visited_one p vars at v vs s)
    one_step (visit.Enter n) vs done room ready meant =
        entered_so n vs done room ready meant (read_before s.read n) refl
    one_step (visit.Leave n) vs done room ready meant =
        let t = ready.0 in
        subst (λ o. Steps (reading vs (left_type o n s))) (sym t.is) (left_steps done meant n vs ready.2 t ready.1 room)

  -- the number at hand means what it was read as
  visits_meant :
      (steps : ℕ) (s : Inference) (vs : List Visit) (done : ℕ → Type 0) → Kept s s → HasVariables s vars
      → Goes f (visited steps p vars at vs s) → StandFor f variables (visited steps p vars at vs s) vars
      → IsClosedMeant p f s.read → Ready p vars goal done vs → AreMeant done s.read
      → IsMeant p f variables (visited steps p vars at vs s).read goal
  unfolding visited
  visits_meant steps s [] done kept there g stand closed ready meant = meant goal ready
  visits_meant zero s (v ∷ vs) done kept there g stand closed ready meant = absurd (stopped g.on)
  visits_meant (suc steps) s (v ∷ vs) done kept there g stand closed ready meant =
      let r = visited_one p vars at v vs s in
      let k = visit_kept l s s kept p vars there at v vs in
      let here = kept_here s r.state k in
      let later = has_variables_later s r.state vars k there in
      let end = visited steps p vars at r.visits r.state in
      let toward = visits_toward l p vars at steps r.state r.visits here later in
      let goes = goes_before f r.state end toward.kept g in
      let stands = stand_before f variables vars r.state end toward.stays.stay toward.stays.rest stand in
      let now = closed_step l p arena vars at f s kept there closed v vs (ready_taking p vars goal done (v ∷ vs) ready) goes in
      let on = one_step s kept there closed v vs done (goes_before f s r.state k goes).room ready meant goes stands in
      visits_meant steps r.state r.visits on.0 here later g stand now.0 on.1 on.2

-- a written type that is read
module _ (l : GraphLaws) (p : Parts) (arena : IsArena p) (s0 s : Inference) (kept : Kept s0 s) where
  module _ (vars : Variables) (at : Place) (there : HasVariables s vars) (n : ℕ) where
    abbrev read_now : Gives
    read_now = written p n vars at s

    now_toward : Toward s read_now.state
    now_toward = visits_toward l p vars at 18446744073709551615 s (visit.Enter n ∷ []) (kept_here s0 s kept) there

    pub written_leads : LeadsTo p s read_now.state
    written_leads =
        let t = now_toward in
        record {
          rest = t.stays.rest;
          stay = t.stays.stay;
          meant =
              λ room on meant f reads.
              closed_visits l p arena vars at f 18446744073709551615 s (visit.Enter n ∷ []) (kept_here s0 s kept) there
              (record { room = room; on = on; reads = reads }) (meant f (t.kept.reads room on f reads)) tt;
        }

    -- means what it is read as, as long as the walk goes on
    pub written_meant :
        n < length p.types → HasRoom read_now.state.types → read_now.state.end ≡ None → ReadsAreMeant p s
        → AreBelowThese vars (type_at (types_of p) n)
        → (f vs : ℕ → Ty) → Reads f read_now.state.types → StandFor f vs read_now.state vars
        → Means (program p).types vs (type_at (types_of p) n) (f read_now.found)
    written_meant low room on meant below f vs reads stand =
        visits_meant l p arena vars at n f vs 18446744073709551615 s (visit.Enter n ∷ []) (λ m. ⊥) (kept_here s0 s kept) there
        (record { room = room; on = on; reads = reads }) stand (meant f (now_toward.kept.reads room on f reads))
        (record { low = low; below = below }, inr refl) (λ m h. absurd h)

  -- a type is the one that is written, if one is
  module _ (at : Place) (t : ℕ) (has : Has s t) where
    abbrev now : ℕ → Gives
    now w = written p w variables.OfItem at s

    now_gave : (w : ℕ) → Kept s0 (now w).state × Has (now w).state (now w).found
    now_gave w = written_kept l p variables.OfItem at s0 s w kept (λ room. tt)

    has_now : (w : ℕ) → Has (now w).state t
    has_now w = has_later s (now w).state t (written_kept l p variables.OfItem at s s w (kept_here s0 s kept) (λ room. tt)).0 has

    equated_now : (w : ℕ) → LeadsTo p (now w).state (equated at t (now w).found (now w).state)
    equated_now w = equated_leads l s0 (now w).state (now_gave w).0 at t (now w).found p (has_now w) (now_gave w).1

    equated_now_kept : (w : ℕ) → Kept (now w).state (equated at t (now w).found (now w).state)
    equated_now_kept w =
        let k = now_gave w in
        equated_kept l (now w).state (now w).state at t (now w).found (kept_here s0 (now w).state k.0) (has_now w) k.1

    pub annotated_leads : (w : Option ℕ) → LeadsTo p s (annotated_if p at t w s)
    annotated_leads None = leads_here p s
    annotated_leads (Some w) =
        leads_on p s (now w).state (equated at t (now w).found (now w).state) (equated_now_kept w)
        (written_leads variables.OfItem at (λ room. tt) w) (equated_now w)

    pub annotated_meant :
        (w : Option ℕ) → IfKnown (λ n. n < length p.types) w → HasRoom (annotated_if p at t w s).types
        → (annotated_if p at t w s).end ≡ None → ReadsAreMeant p s
        → (f vs : ℕ → Ty) → Reads f (annotated_if p at t w s).types → VariablesAgree f vs (annotated_if p at t w s)
        → IfWritten (program p).types vs (option_map (type_at (types_of p)) w) (f t)
    annotated_meant None low room on meant f vs reads agree = tt
    annotated_meant (Some w) low room on meant f vs reads agree =
        let u = now w in
        let k = now_gave w in
        let back = equated at t u.found u.state in
        let to = equated_now_kept w in
        let leads = equated_now w in
        let same : f t ≡ f u.found = equated_equal l s0 u.state k.0 at t u.found (has_now w) k.1 room on f reads in
        let is = written_meant variables.OfItem at (λ r. tt) w low (room_before u.state back to room) (to.ended on) meant tt f vs
        (to.reads room on f reads) (agree_before f vs u.state back leads.stay leads.rest agree) in
        subst (λ a. Means (program p).types vs (type_at (types_of p) w) a) (sym same) is

  -- the argument of a declaration
  module _ (vars : Variables) (at : Place) (there : HasVariables s vars) where
    pub argument_leads : (o : Option ℕ) → LeadsTo p s (declared_argument p o vars at s).state
    argument_leads None = leads_here p s
    argument_leads (Some w) = written_leads vars at there w

    pub argument_meant :
        (o : Option ℕ) → IfKnown (λ n. n < length p.types) o → IfKnown (λ n. AreBelowThese vars (type_at (types_of p) n)) o
        → HasRoom (declared_argument p o vars at s).state.types → (declared_argument p o vars at s).state.end ≡ None
        → ReadsAreMeant p s
        → (f vs : ℕ → Ty) → Reads f (declared_argument p o vars at s).state.types
        → StandFor f vs (declared_argument p o vars at s).state vars
        → ArgumentIs (program p).types vs (option_map (type_at (types_of p)) o)
        (option_map f (declared_argument p o vars at s).value)
    argument_meant None low below room on meant f vs reads stand = tt
    argument_meant (Some w) low below room on meant f vs reads stand =
        written_meant vars at there w low room on meant below f vs reads stand

-- the laws

-- a whole state is kept in itself
kept_whole : (s : Inference) → IsWhole s → Kept s s
kept_whole s whole = record {
  types = omega arith;
  arguments = omega arith;
  first = whole.types.built_in;
  ended = λ e. e;
  reads = λ room e f is. is;
  outer = λ room e n low is. is;
  counted = refl;
  numbered = λ h. h;
  whole = λ room. whole;
}

pub item_type_is_meant_law : GraphLaws → ItemTypeIsMeant
item_type_is_meant_law l p n at s arena whole meant low room on f vs reads agree =
    written_meant l p arena s s (kept_whole s whole) variables.OfItem at (λ r. tt) n low room on meant tt f vs reads agree

pub declared_type_is_meant_law : GraphLaws → DeclaredTypeIsMeant
declared_type_is_meant_law l p n first count at s arena whole meant low there below room on f vs reads stand =
    written_meant l p arena s s (kept_whole s whole) (variables.Parameters first count) at (λ r. there) n low room on meant below
    f vs reads stand

pub written_leads_law : GraphLaws → WrittenLeads
written_leads_law l p n vars at s arena whole there = written_leads l p arena s s (kept_whole s whole) vars at (λ r. there) n
