-- What the walk over the parts of a pattern gives, from what it gives for each of them.
use Rattle.std.proofs.Common.{◌≡◌, ℕ, List, [], ◌∷◌, ◌++◌, length, map, Option, Some, None, Bool, true, false, ◌==◌, refl, sym, ◌∙◌, ap, subst, ⊎_elim, arith}
use Rattle.std.specs.Prelude.{IsTrue}
use Rattle.std.specs.List.{AllByRecursion}
use Rattle.std.proofs.lemmas.Bool.Decides.{eqb_tells}
use Rattle.fx_base.specs.declared.refusal.Place.{Place}
use Rattle.effect_meaning.specs.declared.core_nodes.FieldPart.{FieldPart}
use Rattle.effect_meaning.specs.Arena.{Parts, IsArena}
use Rattle.effect_meaning.specs.ArenaTrees.{pattern_at, patterns_at, patterns_of, program}
use Rattle.effect_meaning.specs.Scoped.{all_sides_agree, holds, names_in, names_in_all, sides_agree}
use Rattle.effect_meaning.specs.Terms.{Pattern, Patterns}
use Rattle.type_terms.specs.TypeTrees.{Ty, Tys}
use Rattle.type_terms.specs.Contexts.{Names}
use Rattle.type_terms.specs.Constructors.{FieldHas}
use Rattle.type_terms.specs.PatternTypes.{PatternHas, PatternsHave, FieldPatternsHave}
use Rattle.type_readings.specs.Readings.{trees_of}
use Rattle.ml_infer.specs.declared.constructors.Instance.{Instance}
use Rattle.ml_infer.specs.declared.inference.End.{End}
use Rattle.ml_infer.specs.declared.inference.Inference.{Inference}
use Rattle.ml_infer.specs.declared.tasks.Task.{Task}
use Rattle.ml_infer.specs.declared.tasks.Task.TheVariants as task
use Rattle.ml_infer.specs.Constructors.{field_owner, field_type, instance, is_owner}
use Rattle.ml_infer.specs.Inference.{With, ended_first, pattern_place}
use Rattle.ml_infer.specs.Patterns.{field_pattern_task, pattern_tasks}
use Rattle.ml_infer.specs.Tasks.{first_one}
use Rattle.ml_infer.specs.Walk.{acted, acted_on_data}
use Rattle.ml_infer.specs.Written.{refused_unless}
use Rattle.inference_laws.specs.Meanings.{RowsAreBelow}
use Rattle.inference_laws.proofs.Booleans.{both_hold}
use Rattle.inference_laws.proofs.Each.{each_appended, each_made}
use Rattle.inference_laws.proofs.Kept.{Kept, Has, HasAll, all_later, has_later, kept_here, kept_on, room_before}
use Rattle.inference_laws.proofs.Fields.{refused_unless_kept, goes_on}
use Rattle.inference_laws.proofs.GraphLaws.{GraphLaws}
use Rattle.inference_laws.proofs.Written.{has_variables_later}
use Rattle.inference_laws.proofs.Constructors.{field_made, instance_made}
use Rattle.inference_laws.proofs.Runs.{left, Does, begins, does_tasks}
use Rattle.inference_laws.proofs.Grounds.{Tops, IsBound, names_of, standing}
use Rattle.inference_laws.proofs.Doing.{does_kept, rest_kept}
use Rattle.inference_laws.proofs.Instances.{instance_is}
use Rattle.inference_laws.proofs.FieldRules.{field_has, field_leads, owner_there}
use Rattle.inference_laws.proofs.BoundNames.{bound_later, keys_appended}
use Rattle.inference_laws.proofs.PatternSteps.{IsOfPattern, quiet_refused, tuple_tasks_are}
use Rattle.inference_laws.proofs.PatternRuns.{Goes, goes_begun, halves, is_end}

-- a fault ends the walk
pub not_ended : (o : Option End) (e : End) → ended_first o e ≡ None → ⊥
not_ended None e is = absurd (cc)
not_ended (Some old) e is = absurd (cc)

-- the record type of a field
owner_so : (o : Option ℕ) (t : ℕ) → elim o [ None ↦ false | Some owner ↦ owner == t ] ≡ true → o ≡ Some t
owner_so None t is = absurd (cc)
owner_so (Some owner) t is = ⊎_elim (λ h. ap Some h.1) (λ h. let k = h.0 in absurd (cc)) (eqb_tells owner t)

module _ (l : GraphLaws) (p : Parts) (arena : IsArena p) (below : RowsAreBelow p) (tops : Tops) (locals : Names)
    (vs f : ℕ → Ty) where
  abbrev pub Tree : ℕ → Pattern
  Tree q = pattern_at (patterns_of p) q

  -- a pattern matches values of an equal type
  pub of_equal :
      (q : Pattern) (a b : ℕ) (names : Names) → f a ≡ f b → PatternHas (standing p tops locals vs) q (f a) names
      → PatternHas (standing p tops locals vs) q (f b) names
  of_equal q a b names equal h = subst (λ t. PatternHas (standing p tops locals vs) q t names) equal h

  -- a pattern gave its type, and bound names
  pub record Told (q : Pattern) (given : List ℕ) (e : Inference) : Type 0 where
    pub value : ℕ
    pub names : Names
    pub gives : e.given ≡ value ∷ given
    pub there : Has e value
    pub typed : PatternHas (standing p tops locals vs) q (f value) names
    pub bound : AllByRecursion (IsBound f e) names
    pub keys : (x : ℕ) → holds (names_of names) x ≡ holds (names_in q) x

  -- a pattern of a type bound names
  pub record Holds (q : Pattern) (t : ℕ) (given : List ℕ) (e : Inference) : Type 0 where
    pub names : Names
    pub gives : e.given ≡ given
    pub typed : PatternHas (standing p tops locals vs) q (f t) names
    pub bound : AllByRecursion (IsBound f e) names
    pub keys : (x : ℕ) → holds (names_of names) x ≡ holds (names_in q) x

  -- so did patterns of types
  pub record AllHold (qs : Patterns) (ts : Tys) (given : List ℕ) (e : Inference) : Type 0 where
    pub names : Names
    pub gives : e.given ≡ given
    pub typed : PatternsHave (standing p tops locals vs) qs ts names
    pub bound : AllByRecursion (IsBound f e) names
    pub keys : (x : ℕ) → holds (names_of names) x ≡ holds (names_in_all qs) x

  -- and the patterns of a record's fields
  pub record FieldsHold (fields : List ℕ) (qs : Patterns) (t : ℕ) (given : List ℕ) (e : Inference) : Type 0 where
    pub names : Names
    pub gives : e.given ≡ given
    pub typed : FieldPatternsHave (standing p tops locals vs) fields qs (f t) names
    pub bound : AllByRecursion (IsBound f e) names
    pub keys : (x : ℕ) → holds (names_of names) x ≡ holds (names_in_all qs) x

  -- the walk over a pattern gives that
  abbrev pub DoneAt : ℕ → Type 0
  DoneAt q =
      (rest : List Task) (k : ℕ) (s e : Inference) → Does p rest k (task.Pattern q ∷ []) s e → Goes p f vs s e
      → IsTrue (sides_agree (Tree q)) → Told (Tree q) s.given e

  -- a pattern that has a type
  module _ (q t : ℕ) (done : DoneAt q) (sides : IsTrue (sides_agree (Tree q))) where
    pub is_told :
        (rest : List Task) (k : ℕ) (s e : Inference) → Does p rest k (task.PatternIs q t ∷ []) s e → Goes p f vs s e → Has s t
        → Holds (Tree q) t s.given e
    unfolding acted
    is_told rest k s e d g has =
        let at = pattern_place p q (left rest s) in
        let one : List Task = task.Pattern q ∷ [] in
        let two : List Task = task.Is at t ∷ [] in
        let b = begins p rest k (task.PatternIs q t) (one ++ two) s e d refl in
        let s1 = acted (task.PatternIs q t) p (left rest s) in
        let g1 = goes_begun l p arena below f vs rest k (task.PatternIs q t) (one ++ two) s e tt d b g in
        let part = halves l p arena below f vs rest one two b.steps s1 e (tt, tt) (tt, tt) b.others g1 in
        let m = part.middle in
        let told = done (two ++ rest) part.first_steps s1 m part.first part.goes_first sides in
        let end = is_end l p arena below f vs rest part.other_steps m e part.goes_other at t told.value s.given part.other
        told.gives (has_later s1 m t part.kept_first has) in
        record {
          names = told.names;
          gives = end.gives;
          typed = of_equal (Tree q) told.value t told.names end.equal told.typed;
          bound = bound_later f p m e part.steady told.names told.bound;
          keys = told.keys;
        }

  -- the parts of a tuple
  pub all_told :
      (qs ts : List ℕ) → AllByRecursion DoneAt qs → length qs ≡ length ts
      → IsTrue (all_sides_agree (patterns_at (patterns_of p) qs))
      → (rest : List Task) (k : ℕ) (s e : Inference) → Does p rest k (pattern_tasks qs ts) s e → Goes p f vs s e → HasAll s ts
      → AllHold (patterns_at (patterns_of p) qs) (trees_of f ts) s.given e
  all_told [] [] done long sides rest k s e d g has = record {
    names = [];
    gives = ap (λ (x : Inference). x.given) (sym d.1);
    typed = (refl, refl);
    bound = tt;
    keys = λ x. refl;
  }
  all_told [] (t ∷ ts) done long sides rest k s e d g has = absurd (omega arith)
  all_told (q ∷ qs) [] done long sides rest k s e d g has = absurd (omega arith)
  all_told (q ∷ qs) (t ∷ ts) done long sides rest k s e d g has =
      let P = patterns_of p in
      let both = both_hold (sides_agree (pattern_at P q)) (all_sides_agree (patterns_at P qs)) sides in
      let one : List Task = task.PatternIs q t ∷ [] in
      let two : List Task = pattern_tasks qs ts in
      let are = tuple_tasks_are qs ts in
      let part = halves l p arena below f vs rest one two k s e (tt, tt) are d g in
      let m = part.middle in
      let first = is_told q t done.0 both.0 (two ++ rest) part.first_steps s m part.first part.goes_first (λ room. (has room).0) in
      let others = all_told qs ts done.1 (omega arith) both.1 rest part.other_steps m e part.other part.goes_other
      (all_later s m ts part.kept_first (λ room. (has room).1)) in
      record {
        names = first.names ++ others.names;
        gives = others.gives ∙ first.gives;
        typed = (f t, trees_of f ts, first.names, others.names, refl, refl, first.typed, others.typed);
        bound =
            each_appended (IsBound f e) first.names others.names (bound_later f p m e part.steady first.names first.bound)
            others.bound;
        keys = keys_appended first.names others.names (names_in (pattern_at P q)) (names_in_all (patterns_at P qs)) first.keys
            others.keys;
      }

  -- a field of a record
  module _ (at : Place) (t : ℕ) (s0 : Inference) (kept0 : Kept s0 s0) where
    abbrev made : With Instance
    made = instance p t s0

    abbrev FieldTask : FieldPart → Task
    FieldTask = field_pattern_task at t made.value.variables

    -- the field, its type and its pattern
    pub record FieldHolds (n : ℕ) (q : Pattern) (given : List ℕ) (e : Inference) : Type 0 where
      pub field_type_is : ℕ
      pub is_field : FieldHas (program p) n (f made.value.value) (f field_type_is)
      pub part : Holds q field_type_is given e

    pub field_told :
        (h : FieldPart) → DoneAt h.part → IsTrue (sides_agree (Tree h.part)) → (rest : List Task) (k : ℕ) (s e : Inference)
        → Does p rest k (FieldTask h ∷ []) s e → Goes p f vs s e → Kept made.state s → FieldHolds h.field (Tree h.part) s.given e
    unfolding acted acted_on_data
    field_told h done sides rest k s e d g later =
        let is = is_owner p t h.field in
        let vars = made.value.variables in
        let x = left rest s in
        let has = does_tasks p rest k (FieldTask h ∷ []) s e d in
        let kx = rest_kept l p made.state s later (FieldTask h) rest has in
        let before = refused_unless is at x in
        let kb = refused_unless_kept made.state x is at kx in
        let there = has_variables_later made.state before vars kb (instance_made l p t s0 s0 kept0).variables in
        let hb = kept_here made.state before kb in
        let u = field_type p h.field vars at before in
        let um = field_made l p vars at before before hb there h.field in
        let leads = field_leads l p arena before before hb at h.field vars there in
        let quiet = quiet_refused p is at x in
        let one : List Task = task.PatternIs h.part u.found ∷ [] in
        let s1 : Inference = first_one (task.PatternIs h.part u.found) u.state in
        let b = begins p rest k (FieldTask h) one s e d
        (ap (λ (ts : List Task). task.PatternIs h.part u.found ∷ ts) (leads.rest.same_tasks ∙ quiet.tasks)) in
        let g1 = goes_begun l p arena below f vs rest k (FieldTask h) one s e tt d b g in
        let kept = does_kept l p rest b.steps one s1 s1 e b.others g1.here in
        let room1 = room_before s1 e kept g1.room in
        let on1 : u.state.end ≡ None = kept.ended g1.on in
        let on2 = um.0.ended on1 in
        let owner = owner_so (field_owner p h.field) t (goes_on is at x on2) in
        let meant = quiet.steady.meant (room_before before u.state um.0 room1) on2 g.meant in
        let km = kept_on made.state before u.state kb um.0 in
        let read = kept.reads g1.room g1.on f g1.reads in
        let holding = is_told h.part u.found done sides rest b.steps s1 e b.others g1 um.1 in
        record {
          field_type_is = u.found;
          is_field = field_has l p arena made.state before kb at h.field below t owner s0 there room1 on1 meant f read
              (instance_is l p s0 s0 kept0 t (owner_there p arena h.field t owner) f (room_before made.state u.state km room1)
              (km.reads room1 on1 f read));
          part = record {
            names = holding.names;
            gives = holding.gives ∙ leads.rest.same_given ∙ given_same is x;
            typed = holding.typed;
            bound = holding.bound;
            keys = holding.keys;
          };
        }
      where
        given_same : (b : Bool) (x : Inference) → (refused_unless b at x).given ≡ x.given
        given_same true x = refl
        given_same false x = refl

    pub fields_told :
        (fs : List FieldPart) → AllByRecursion (λ h. DoneAt h.part) fs
        → IsTrue (all_sides_agree (patterns_at (patterns_of p) (map (λ h. h.part) fs)))
        → (rest : List Task) (k : ℕ) (s e : Inference)
        → Does p rest k (map FieldTask fs) s e → Goes p f vs s e → Kept made.state s
        → FieldsHold (map (λ h. h.field) fs) (patterns_at (patterns_of p) (map (λ h. h.part) fs)) made.value.value s.given e
    fields_told [] done sides rest k s e d g later = record {
      names = [];
      gives = ap (λ (x : Inference). x.given) (sym d.1);
      typed = (refl, refl);
      bound = tt;
      keys = λ x. refl;
    }
    fields_told (h ∷ fs) done sides rest k s e d g later =
        let P = patterns_of p in
        let qs = map (λ j. j.part) fs in
        let both = both_hold (sides_agree (pattern_at P h.part)) (all_sides_agree (patterns_at P qs)) sides in
        let one : List Task = FieldTask h ∷ [] in
        let two : List Task = map FieldTask fs in
        let are = each_made IsOfPattern FieldTask (λ j. tt) fs in
        let part = halves l p arena below f vs rest one two k s e (tt, tt) are d g in
        let m = part.middle in
        let first = field_told h done.0 both.0 (two ++ rest) part.first_steps s m part.first part.goes_first later in
        let others = fields_told fs done.1 both.1 rest part.other_steps m e part.other part.goes_other
        (kept_on made.state s m later part.kept_first) in
        record {
          names = first.part.names ++ others.names;
          gives = others.gives ∙ first.part.gives;
          typed = (
            h.field,
            map (λ j. j.field) fs,
            f first.field_type_is,
            first.part.names,
            others.names,
            refl,
            refl,
            first.is_field,
            first.part.typed,
            others.typed,
          );
          bound =
              each_appended (IsBound f e) first.part.names others.names
              (bound_later f p m e part.steady first.part.names first.part.bound)
              others.bound;
          keys =
              keys_appended first.part.names others.names (names_in (pattern_at P h.part)) (names_in_all (patterns_at P qs))
              first.part.keys
              others.keys;
        }
