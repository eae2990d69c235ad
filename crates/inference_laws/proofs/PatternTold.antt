-- The walk over a pattern of each form gives what the rule of that form says.
use Rattle.std.proofs.Common.{◌≡◌, ℕ, List, [], ◌∷◌, ◌++◌, length, map, Option, Some, None, option_map, Bool, true, false, not, ◌||◌, refl, sym, ◌∙◌, ap, subst, slice_get, append_assoc}
use Rattle.std.specs.Prelude.{IsTrue}
use Rattle.std.specs.List.{AllByRecursion}
use Rattle.fx_base.specs.declared.refusal.Place.{Place}
use Rattle.effect_meaning.specs.declared.core_nodes.Constant.{Constant}
use Rattle.effect_meaning.specs.declared.core_nodes.Constant.TheVariants as constant
use Rattle.effect_meaning.specs.declared.core_nodes.Constructor.{Constructor}
use Rattle.effect_meaning.specs.declared.core_nodes.Constructor.TheVariants as constructor
use Rattle.effect_meaning.specs.declared.core_nodes.FieldPart.{FieldPart}
use Rattle.effect_meaning.specs.declared.core_nodes.PatternForm.{PatternForm}
use Rattle.effect_meaning.specs.declared.core_nodes.PatternForm.TheVariants as pat
use Rattle.effect_meaning.specs.declared.core_nodes.PatternNode.{PatternNode}
use Rattle.effect_meaning.specs.Arena.{Parts, IsArena, Met, constructor_need, counts}
use Rattle.effect_meaning.specs.ArenaTrees.{constant_of, constructor_of, pattern_at, pattern_tree, patterns_at, patterns_of, program, types_of}
use Rattle.effect_meaning.specs.Scoped.{same, sides_agree, all_sides_agree}
use Rattle.effect_meaning.specs.Terms.{Pattern, AnyPat, NamePat, ConstPat, TuplePat, ConPat, ConOfPat, RecordPat}
use Rattle.type_terms.specs.TypeTrees.{Ty}
use Rattle.type_terms.specs.Contexts.{Names}
use Rattle.type_terms.specs.Constructors.{constant_type, Constructs, is_unhandled}
use Rattle.type_graph.specs.Graph.{applied, built_in}
use Rattle.type_readings.specs.Readings.{Reads, trees_of}
use Rattle.ml_infer.specs.declared.constructors.Constructed.{Constructed}
use Rattle.ml_infer.specs.declared.inference.End.TheVariants as ends
use Rattle.ml_infer.specs.declared.inference.Inference.{Inference}
use Rattle.ml_infer.specs.declared.inference.NameType.TheVariants.{One}
use Rattle.ml_infer.specs.declared.tasks.Task.{Task}
use Rattle.ml_infer.specs.declared.tasks.Task.TheVariants as task
use Rattle.ml_infer.specs.Constructors.{constant_row, constructed, instance, new_variables, unhandled}
use Rattle.ml_infer.specs.Inference.{With, given_back, new_variable, refused}
use Rattle.ml_infer.specs.Known.{known}
use Rattle.ml_infer.specs.Patterns.{argument_pattern, bound, field_pattern_task, fields_pattern, give_found, is_any, is_any_form, pattern_tasks, tuple_pattern}
use Rattle.ml_infer.specs.Tasks.{first, first_one}
use Rattle.ml_infer.specs.Written.{refused_unless}
use Rattle.inference_laws.specs.Whole.{HasRoom, TaskIsThere}
use Rattle.inference_laws.specs.Meanings.{RowsAreBelow}
use Rattle.inference_laws.proofs.Each.{each_made}
use Rattle.inference_laws.proofs.Kept.{Kept, Has, all_later, has_later, kept_here, kept_on, room_before}
use Rattle.inference_laws.proofs.Fields.{first_kept, first_one_kept}
use Rattle.inference_laws.proofs.GraphLaws.{GraphLaws}
use Rattle.inference_laws.proofs.Steps.{inner_made, type_is, variable_is}
use Rattle.inference_laws.proofs.Constructors.{HasIf, constructed_made, has_built_in, instance_made, variables_made}
use Rattle.inference_laws.proofs.Leading.{type_is_read}
use Rattle.inference_laws.proofs.Patterns.{bound_made, constant_given, constant_low}
use Rattle.inference_laws.proofs.Trees.{pattern_is_tree}
use Rattle.inference_laws.proofs.Runs.{Does}
use Rattle.inference_laws.proofs.Grounds.{Tops}
use Rattle.inference_laws.proofs.Doing.{does_kept}
use Rattle.inference_laws.specs.Premises.{EffectsAreEffects}
use Rattle.inference_laws.proofs.Instances.{instance_leads, many_numbers, new_numbers, variables_lead}
use Rattle.inference_laws.proofs.Rules.{constructed_is, constructed_leads}
use Rattle.inference_laws.proofs.Steady.{given_behind, name_bound}
use Rattle.inference_laws.proofs.BoundNames.{bound_later}
use Rattle.inference_laws.proofs.PatternSteps.{IsOfPattern, tuple_tasks_are}
use Rattle.inference_laws.proofs.PatternRuns.{Goes, give_end, halves}
use Rattle.inference_laws.proofs.PatternForms.{DoneAt, Told, all_told, fields_told, is_told, not_ended}

-- so many new variables are so many numbers
many_variables : (count : ℕ) (s : Inference) → length (new_variables count s).value ≡ count
many_variables count s = ap length (new_numbers count s) ∙ many_numbers (length s.types.nodes) count

-- the type of a constant
constant_is : (f : ℕ → Ty) → Reads f built_in → (k : Constant) → f (constant_row k) ≡ constant_type (constant_of k)
constant_is f reads (constant.Integer n) = reads 0
constant_is f reads (constant.Character c) = reads 2
constant_is f reads (constant.Boolean b) = reads 1
constant_is f reads constant.Unit = reads 4
constant_is f reads (constant.Literal i) = reads 3

module _ (l : GraphLaws) (p : Parts) (arena : IsArena p) (below : RowsAreBelow p) (effects : EffectsAreEffects p) (tops : Tops)
    (locals : Names)
    (vs f : ℕ → Ty) (built : Reads f built_in) where
  -- a pattern, what it gives, and what is done of its parts
  abbrev pub ToldOf : Pattern → List ℕ → Inference → Type 0
  ToldOf = Told l p arena below tops locals vs f

  abbrev pub IsDone : ℕ → Type 0
  IsDone = DoneAt l p arena below tops locals vs f

  module _ (x e : Inference) (g : Goes p f vs x e) where
    -- the tasks that a form puts first are done behind it
    abbrev pub Opens : Inference → Type 0
    Opens s1 = (new : List Task) → s1.tasks ≡ new ++ x.tasks → (k : ℕ) × Does p x.tasks k new s1 e × Goes p f vs s1 e

    pub any_told : Opens (give_found (new_variable x)) → ToldOf AnyPat x.given e
    any_told opens =
        let o = opens [] refl in
        let path = o.1.1 in
        record {
          value = length x.types.nodes;
          names = [];
          gives = ap (λ (y : Inference). y.given) (sym path);
          there = subst (λ y. Has y (length x.types.nodes)) path (variable_is l x x);
          typed = refl;
          bound = tt;
          keys = λ y. refl;
        }

    pub name_told : (n : ℕ) → Opens (give_found (bound n x)) → ToldOf (NamePat n) x.given e
    name_told n opens =
        let names = name_bound l p x x g.here n in
        let b = bound n x in
        let made = bound_made l p x x g.here n in
        let path = (opens [] names.tasks).1.1 in
        record {
          value = b.found;
          names = (n, f b.found) ∷ [];
          gives = ap (λ (y : Inference). y.given) (sym path) ∙ ap (λ ts. b.found ∷ ts) names.given;
          there = subst (λ y. Has y b.found) path made.1;
          typed = refl;
          bound = ((b.found, subst (λ (y : Inference). known y.names n ≡ Some (One b.found y.pattern)) path names.bound, refl), tt);
          keys = λ y. refl;
        }

    pub constant_told : (k : Constant) → Opens (given_back (constant_row k) x) → ToldOf (ConstPat (constant_of k)) x.given e
    constant_told k opens =
        let o = opens [] refl in
        let path = o.1.1 in
        record {
          value = constant_row k;
          names = [];
          gives = ap (λ (y : Inference). y.given) (sym path);
          there = has_built_in x e (constant_row k) (subst (Kept x) path (constant_given l p x x g.here k))
              (constant_low l p x x g.here k);
          typed = (constant_is f built k, refl);
          bound = tt;
          keys = λ y. refl;
        }

    pub tuple_told :
        (qs : List ℕ) → AllByRecursion IsDone qs → IsTrue (all_sides_agree (patterns_at (patterns_of p) qs))
        → Opens (tuple_pattern qs x)
        → ToldOf (TuplePat (patterns_at (patterns_of p) qs)) x.given e
    tuple_told qs done sides opens =
        let r = new_variables (length qs) x in
        let made = variables_made l (length qs) x x g.here in
        let leads = variables_lead l p (length qs) x x g.here in
        let kept = kept_here x r.state made.kept in
        let with_tuple : Inference = record r.state { types = applied 16 r.value false r.state.types } in
        let value = length r.state.types.nodes in
        let one : List Task = pattern_tasks qs r.value in
        let two : List Task = task.Give value ∷ [] in
        let o = opens (one ++ two)
        (ap (λ ts. one ++ task.Give value ∷ ts) leads.rest.same_tasks ∙ sym (append_assoc one two x.tasks)) in
        let s1 = tuple_pattern qs x in
        let g1 = o.2 in
        let are = tuple_tasks_are qs r.value in
        let part = halves l p arena below f vs x.tasks one two o.0 s1 e are (tt, tt) o.1 g1 in
        let m = part.middle in
        let inner = inner_made l r.state r.state 16 r.value kept made.there in
        let later = kept_on s1 m e part.kept_first part.kept_other in
        let all = all_told l p arena below tops locals vs f qs r.value done (sym (many_variables (length qs) x)) sides
        (two ++ x.tasks)
        part.first_steps s1 m part.first part.goes_first (all_later r.state with_tuple r.value inner made.there) in
        let gave = give_end l p arena below f vs x.tasks part.other_steps m e part.goes_other value part.other in
        let room1 = room_before s1 e later g.room in
        record {
          value = value;
          names = all.names;
          gives = given_behind value e.given m.given r.state.given x.given gave all.gives leads.rest.same_given;
          there = has_later s1 e value later (type_is l x r.state 16 r.value false);
          typed = (
            trees_of f r.value,
            type_is_read l x r.state made.kept 16 r.value false f (room_before r.state with_tuple inner room1)
                (later.reads g.room g.on f g.reads),
            all.typed,
          );
          bound = bound_later f p m e part.steady all.names all.bound;
          keys = all.keys;
        }

    -- a constructor
    module _ (con : Constructor) (at : Place) (met : Met (counts p) (constructor_need con)) where
      abbrev pub made : With Constructed
      made = constructed p con at x

      abbrev pub giving : Inference
      giving = first_one (task.Give made.value.value) made.state

      abbrev Construes : Option ℕ → Type 0
      Construes o = Constructs (program p) (constructor_of con) (option_map f o) (f made.value.value)

      construes : (s1 : Inference) → s1.types ≡ made.state.types → made.state.end ≡ None → Kept s1 e → Construes made.value.argument
      construes s1 same on kept =
          let room = subst HasRoom same (room_before s1 e kept g.room) in
          let reads = subst (Reads f) same (kept.reads g.room g.on f g.reads) in
          constructed_is l p arena below x x g.here at effects con met room on g.meant f built reads

      refused_never : (new : List Task) → ((refused at giving).tasks ≡ new ++ x.tasks) → Opens (refused at giving) → ⊥
      refused_never new is opens =
          let o = opens new is in
          let kept = does_kept l p x.tasks o.0 new (refused at giving) (refused at giving) e o.1 o.2.here in
          not_ended made.state.end (ends.Fault at) (kept.ended g.on)

      abbrev gave_first : List Task
      gave_first = task.Give made.value.value ∷ []

      same_first : giving.tasks ≡ gave_first ++ x.tasks
      same_first = ap (λ ts. task.Give made.value.value ∷ ts) (constructed_leads l p arena below x x g.here at con).rest.same_tasks

      pub no_argument_told :
          (o : Option ℕ) (other : Bool) → made.value.argument ≡ o → Opens (argument_pattern None o other p at giving)
          → ToldOf (ConPat (constructor_of con)) x.given e
      no_argument_told (Some t) other is opens = absurd (refused_never gave_first same_first opens)
      no_argument_told None other is opens =
          let o = opens gave_first same_first in
          let kept = does_kept l p x.tasks o.0 gave_first giving giving e o.1 o.2.here in
          let leads = constructed_leads l p arena below x x g.here at con in
          let there = (constructed_made l p at x x g.here con).value in
          record {
            value = made.value.value;
            names = [];
            gives =
                give_end l p arena below f vs x.tasks o.0 giving e o.2 made.value.value o.1
                ∙ ap (λ ts. made.value.value ∷ ts) leads.rest.same_given;
            there = has_later giving e made.value.value kept there;
            typed = (subst Construes is (construes giving refl (kept.ended g.on) kept), refl);
            bound = tt;
            keys = λ y. refl;
          }

      -- the argument of Effect.Unhandled is _
      unhandled_same : (k : Constructor) → is_unhandled (constructor_of k) ≡ unhandled k
      unhandled_same (constructor.Variant n) = refl
      unhandled_same (constructor.Exception n) = refl
      unhandled_same (constructor.Effect n) = refl

      form_any : (h : PatternForm) → is_any_form h ≡ true → pattern_tree (types_of p) (patterns_of p) h ≡ AnyPat
      form_any pat.Any is = refl
      form_any _ is = absurd (cc)

      any_so :
          (a : ℕ) (o : Option PatternNode) → slice_get p.patterns a ≡ o
          → elim o [ None ↦ false | Some node ↦ is_any_form node.form ] ≡ true
          → pattern_at (patterns_of p) a ≡ AnyPat
      any_so a None is test = absurd (cc)
      any_so a (Some node) is test = pattern_is_tree p arena a node is ∙ form_any node.form test

      or_true : (a b : Bool) → (not a || b) ≡ true → a ≡ true → b ≡ true
      or_true true b h is = h
      or_true false b h is = absurd (cc)

      argument_told_so :
          (a t : ℕ) → IsDone a → IsTrue (sides_agree (pattern_at (patterns_of p) a)) → made.value.argument ≡ Some t → (b : Bool)
          → (not (unhandled con) || is_any p a) ≡ b → Opens (first_one (task.PatternIs a t) (refused_unless b at giving))
          → ToldOf (ConOfPat (constructor_of con) (pattern_at (patterns_of p) a)) x.given e
      argument_told_so a t done sides is false test opens =
          let new : List Task = task.PatternIs a t ∷ gave_first in
          let o = opens new (ap (λ ts. task.PatternIs a t ∷ ts) same_first) in
          let s1 : Inference = first_one (task.PatternIs a t) (refused at giving) in
          let kept = does_kept l p x.tasks o.0 new s1 s1 e o.1 o.2.here in
          absurd (not_ended made.state.end (ends.Fault at) (kept.ended g.on))
      argument_told_so a t done sides is true test opens =
          let one : List Task = task.PatternIs a t ∷ [] in
          let o = opens (one ++ gave_first) (ap (λ ts. task.PatternIs a t ∷ ts) same_first) in
          let s1 : Inference = first_one (task.PatternIs a t) giving in
          let g1 = o.2 in
          let part = halves l p arena below f vs x.tasks one gave_first o.0 s1 e (tt, tt) (tt, tt) o.1 g1 in
          let m = part.middle in
          let kept = does_kept l p x.tasks o.0 (one ++ gave_first) s1 s1 e o.1 g1.here in
          let leads = constructed_leads l p arena below x x g.here at con in
          let cm = constructed_made l p at x x g.here con in
          let has : HasIf s1 (Some t) = subst (HasIf s1) is cm.argument in
          let h = is_told l p arena below tops locals vs f a t done sides (gave_first ++ x.tasks) part.first_steps s1 m part.first
          part.goes_first has in
          record {
            value = made.value.value;
            names = h.names;
            gives =
                given_behind made.value.value e.given m.given made.state.given x.given
                (give_end l p arena below f vs x.tasks part.other_steps m e part.goes_other made.value.value part.other) h.gives
                leads.rest.same_given;
            there = has_later s1 e made.value.value kept cm.value;
            typed = (
              f t,
              subst Construes is (construes s1 refl (kept.ended g.on) kept),
              λ unhandled_is. any_so a (slice_get p.patterns a) refl
                  (or_true (unhandled con) (is_any p a) test (sym (unhandled_same con) ∙ unhandled_is)),
              h.typed,
            );
            bound = bound_later f p m e part.steady h.names h.bound;
            keys = h.keys;
          }

      pub argument_told :
          (a : ℕ) → IsDone a → IsTrue (sides_agree (pattern_at (patterns_of p) a)) → (o : Option ℕ) → made.value.argument ≡ o
          → Opens (argument_pattern (Some a) o (not (unhandled con)) p at giving)
          → ToldOf (ConOfPat (constructor_of con) (pattern_at (patterns_of p) a)) x.given e
      argument_told a done sides None is opens = absurd (refused_never gave_first same_first opens)
      argument_told a done sides (Some t) is opens =
          argument_told_so a t done sides is (not (unhandled con) || is_any p a) refl opens

    -- a record
    pub fields_pattern_told :
        (fs : List FieldPart) (at : Place) (o : Option ℕ) → (o ≡ None → ⊥) → AllByRecursion (λ h. IsDone h.part) fs
        → IsTrue (all_sides_agree (patterns_at (patterns_of p) (map (λ h. h.part) fs))) → Opens (fields_pattern o fs p at x)
        → ToldOf (RecordPat (map (λ h. h.field) fs) (patterns_at (patterns_of p) (map (λ h. h.part) fs))) x.given e
    fields_pattern_told fs at None there done sides opens = absurd (there refl)
    fields_pattern_told fs at (Some t) there done sides opens =
        let r = instance p t x in
        let value = r.value.value in
        let made = instance_made l p t x x g.here in
        let leads = instance_leads l p x x g.here t in
        let make = field_pattern_task at t r.value.variables in
        let one : List Task = map make fs in
        let two : List Task = task.Give value ∷ [] in
        let s1 : Inference = first one (first_one (task.Give value) r.state) in
        let o = opens (one ++ two)
        (ap (λ ts. one ++ task.Give value ∷ ts) leads.rest.same_tasks ∙ sym (append_assoc one two x.tasks)) in
        let g1 = o.2 in
        let are = each_made IsOfPattern make (λ h. tt) fs in
        let part = halves l p arena below f vs x.tasks one two o.0 s1 e are (tt, tt) o.1 g1 in
        let m = part.middle in
        let kr = kept_here x r.state made.kept in
        let kg = first_one_kept r.state r.state (task.Give value) kr made.value in
        let ks = first_kept r.state (first_one (task.Give value) r.state) one kg
        (λ room. each_made (TaskIsThere (length r.state.types.nodes)) make (λ h. made.variables room) fs) in
        let all = fields_told l p arena below tops locals vs f at t x g.here fs done sides (two ++ x.tasks) part.first_steps s1 m
        part.first part.goes_first ks in
        let kept = does_kept l p x.tasks o.0 (one ++ two) s1 s1 e o.1 g1.here in
        record {
          value = value;
          names = all.names;
          gives =
              given_behind value e.given m.given r.state.given x.given
              (give_end l p arena below f vs x.tasks part.other_steps m e part.goes_other value part.other) all.gives
              leads.rest.same_given;
          there = has_later s1 e value kept made.value;
          typed = all.typed;
          bound = bound_later f p m e part.steady all.names all.bound;
          keys = all.keys;
        }
