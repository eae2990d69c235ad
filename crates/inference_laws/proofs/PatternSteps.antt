-- Each step of the walk over a pattern: the tasks that it puts first, and what stays.
use Rattle.std.proofs.Common.{◌≡◌, ℕ, List, [], ◌∷◌, ◌++◌, length, map, Option, Some, None, Bool, true, false, not, ◌&&◌, ◌||◌, ◌==◌, refl, sym, ◌∙◌, ap, subst, slice_get, append_assoc}
use Rattle.std.specs.Prelude.{IsTrue}
use Rattle.std.specs.List.{AllByRecursion}
use Rattle.fx_base.specs.declared.refusal.Place.{Place}
use Rattle.effect_meaning.specs.declared.core_nodes.Constructor.{Constructor}
use Rattle.effect_meaning.specs.declared.core_nodes.FieldPart.{FieldPart}
use Rattle.effect_meaning.specs.declared.core_nodes.PatternForm.{PatternForm}
use Rattle.effect_meaning.specs.declared.core_nodes.PatternForm.TheVariants as pat
use Rattle.effect_meaning.specs.declared.core_nodes.PatternNode.{PatternNode}
use Rattle.effect_meaning.specs.Arena.{Parts, IsArena}
use Rattle.effect_meaning.specs.ArenaTrees.{pattern_at, pattern_tree, patterns_at, patterns_of, types_of}
use Rattle.effect_meaning.specs.Scoped.{all_sides_agree, holds, names_in, names_in_all, sides_agree, differ, same}
use Rattle.effect_meaning.specs.Terms.{Pattern, NamePat, TuplePat, RecordPat}
use Rattle.type_graph.specs.Graph.{applied}
use Rattle.ml_infer.specs.declared.constructors.Constructed.{Constructed}
use Rattle.ml_infer.specs.declared.inference.End.{End}
use Rattle.ml_infer.specs.declared.inference.End.TheVariants as ends
use Rattle.ml_infer.specs.declared.inference.Inference.{Inference}
use Rattle.ml_infer.specs.declared.tasks.Task.{Task}
use Rattle.ml_infer.specs.declared.tasks.Task.TheVariants as task
use Rattle.ml_infer.specs.declared.written.Variables.{Variables}
use Rattle.ml_infer.specs.Constructors.{constant_row, constructed, field_owner, field_type, instance, is_owner, new_variables, unhandled}
use Rattle.ml_infer.specs.Inference.{With, ended_first, equated, given_back, new_variable, pattern_place, refused, taken}
use Rattle.ml_infer.specs.Known.{known}
use Rattle.ml_infer.specs.Patterns.{argument_pattern, bound, field_pattern_task, fields_pattern, give_found, is_any, joined_pattern, pattern_node, pattern_of, pattern_tasks, record_pattern, tuple_pattern}
use Rattle.ml_infer.specs.Tasks.{first, first_one}
use Rattle.ml_infer.specs.Terms.{agreed, annotated}
use Rattle.ml_infer.specs.Walk.{acted, acted_on_data}
use Rattle.ml_infer.specs.Written.{annotated_if, refused_unless}
use Rattle.inference_laws.specs.Whole.{TaskIsThere}
use Rattle.inference_laws.specs.Meanings.{RowsAreBelow}
use Rattle.inference_laws.proofs.Booleans.{both_hold, both_fail}
use Rattle.inference_laws.proofs.Each.{each_appended, each_made}
use Rattle.inference_laws.proofs.Kept.{Kept, Roomy, Has, kept_here, has_later}
use Rattle.inference_laws.proofs.Fields.{given_kept, refused_unless_kept}
use Rattle.inference_laws.proofs.GraphLaws.{GraphLaws}
use Rattle.inference_laws.proofs.Steps.{equated_kept, inner_made, taken_kept}
use Rattle.inference_laws.proofs.Constructors.{field_made, variables_made}
use Rattle.inference_laws.proofs.Leading.{equated_leads, leads_on, type_leads, variable_leads}
use Rattle.inference_laws.proofs.Patterns.{bound_made}
use Rattle.inference_laws.proofs.Trees.{pattern_is_tree}
use Rattle.inference_laws.proofs.Written.{annotated_kept, has_variables_later}
use Rattle.inference_laws.proofs.WrittenMeant.{annotated_leads}
use Rattle.inference_laws.proofs.Instances.{instance_leads, variables_lead}
use Rattle.inference_laws.proofs.Rules.{constructed_leads}
use Rattle.inference_laws.proofs.FieldRules.{field_leads}
use Rattle.inference_laws.proofs.Steady.{Steady, Quiet, leads_quiet, name_bound, quiet_given, quiet_here, quiet_on, quiet_taken, steady_on}
use Rattle.inference_laws.proofs.BoundNames.{holds_appended, other_number, same_held}

-- the tasks of patterns
abbrev pub IsOfPattern : Task → Type 0
IsOfPattern (task.Pattern q) = Unit {0}
IsOfPattern (task.PatternIs q t) = Unit {0}
IsOfPattern (task.Give t) = Unit {0}
IsOfPattern (task.Is at t) = Unit {0}
IsOfPattern (task.Agree at) = Unit {0}
IsOfPattern (task.Annotated at w) = Unit {0}
IsOfPattern (task.Alias at x) = Unit {0}
IsOfPattern (task.FieldPatternIs at t f vars) = Unit {0}
IsOfPattern _ = ⊥

-- a pattern doesn't bind a name
abbrev pub SparedBy : ℕ → Pattern → Type 0
SparedBy x q = IsTrue (sides_agree q) × (holds (names_in q) x ≡ false)

-- nor does a task
abbrev pub Spares : Parts → ℕ → Task → Type 0
Spares p x (task.Pattern q) = SparedBy x (pattern_at (patterns_of p) q)
Spares p x (task.PatternIs q t) = SparedBy x (pattern_at (patterns_of p) q)
Spares p x (task.FieldPatternIs at t f vars) = SparedBy x (pattern_at (patterns_of p) f.part)
Spares p x (task.Alias at y) = x ≡ y → ⊥
Spares p x _ = Unit {0}

-- a task is done: it puts tasks of patterns first, and of names that it doesn't bind nothing else is known
pub record PatternStep (p : Parts) (t : Task) (s after : Inference) : Type 0 where
  pub new : List Task
  pub pushed : after.tasks ≡ new ++ s.tasks
  pub all : AllByRecursion IsOfPattern new
  pub steady : Steady p s after
  pub spared : (x : ℕ) → Spares p x t → AllByRecursion (Spares p x) new × (known after.names x ≡ known s.names x)

none_ended : (o : Option End) (e : End) → ended_first o e ≡ None → o ≡ None
none_ended None e is = refl
none_ended (Some old) e is = is

-- the parts of a pattern don't bind what it doesn't
tuple_spared :
    (p : Parts) (x : ℕ) (qs ts : List ℕ) → IsTrue (all_sides_agree (patterns_at (patterns_of p) qs))
    → holds (names_in_all (patterns_at (patterns_of p) qs)) x ≡ false → AllByRecursion (Spares p x) (pattern_tasks qs ts)
tuple_spared p x [] ts sides none = tt
tuple_spared p x (q ∷ qs) [] sides none = tt
tuple_spared p x (q ∷ qs) (t ∷ ts) sides none =
    let P = patterns_of p in
    let both = both_hold (sides_agree (pattern_at P q)) (all_sides_agree (patterns_at P qs)) sides in
    let two = both_fail (holds (names_in (pattern_at P q)) x) (holds (names_in_all (patterns_at P qs)) x)
    (sym (holds_appended (names_in (pattern_at P q)) (names_in_all (patterns_at P qs)) x) ∙ none) in
    ((both.0, two.0), tuple_spared p x qs ts both.1 two.1)

fields_spared :
    (p : Parts) (x : ℕ) (at : Place) (t : ℕ) (vars : Variables) (fs : List FieldPart)
    → IsTrue (all_sides_agree (patterns_at (patterns_of p) (map (λ f. f.part) fs)))
    → holds (names_in_all (patterns_at (patterns_of p) (map (λ f. f.part) fs))) x ≡ false
    → AllByRecursion (Spares p x) (map (field_pattern_task at t vars) fs)
fields_spared p x at t vars [] sides none = tt
fields_spared p x at t vars (f ∷ fs) sides none =
    let P = patterns_of p in
    let qs = map (λ g. g.part) fs in
    let both = both_hold (sides_agree (pattern_at P f.part)) (all_sides_agree (patterns_at P qs)) sides in
    let two = both_fail (holds (names_in (pattern_at P f.part)) x) (holds (names_in_all (patterns_at P qs)) x)
    (sym (holds_appended (names_in (pattern_at P f.part)) (names_in_all (patterns_at P qs)) x) ∙ none) in
    ((both.0, two.0), fields_spared p x at t vars fs both.1 two.1)

pub tuple_tasks_are : (qs ts : List ℕ) → AllByRecursion IsOfPattern (pattern_tasks qs ts)
tuple_tasks_are [] ts = tt
tuple_tasks_are (q ∷ qs) [] = tt
tuple_tasks_are (q ∷ qs) (t ∷ ts) = (tt, tuple_tasks_are qs ts)

-- a fault where it isn't so, and other tasks
pub quiet_refused : (p : Parts) (is : Bool) (at : Place) (s : Inference) → Quiet p s (refused_unless is at s)
quiet_refused p true at s = quiet_here p s
quiet_refused p false at s = record {
  steady = record {
    item = refl;
    pattern = refl;
    stay = λ v k is item. is;
    meant = λ room on meant. meant;
    bound_stay = λ x v is. refl;
  };
  tasks = refl;
  names = refl;
}

module _ (p : Parts) (t : Task) (s : Inference) where
  -- nothing is put first
  quiet_step : (after : Inference) → Quiet p s after → PatternStep p t s after
  quiet_step after quiet = record {
    new = [];
    pushed = quiet.tasks;
    all = tt;
    steady = quiet.steady;
    spared = λ x spares. (tt, ap (λ xs. known xs x) quiet.names);
  }

  -- these tasks are put first, and the walk may end
  pushed_step :
      (m : Inference) (ts new : List Task) (o : Option End) → Quiet p s m → (o ≡ None → m.end ≡ None) → ts ≡ new ++ m.tasks
      → AllByRecursion IsOfPattern new → ((x : ℕ) → Spares p x t → AllByRecursion (Spares p x) new)
      → PatternStep p t s (record m { tasks = ts; end = o })
  pushed_step m ts new o quiet on is all spared = record {
    new = new;
    pushed = is ∙ ap (λ xs. new ++ xs) quiet.tasks;
    all = all;
    steady = record {
      item = quiet.steady.item;
      pattern = quiet.steady.pattern;
      stay = quiet.steady.stay;
      meant = λ room goes meant. quiet.steady.meant room (on goes) meant;
      bound_stay = quiet.steady.bound_stay;
    };
    spared = λ x spares. (spared x spares, ap (λ xs. known xs x) quiet.names);
  }

module _ (l : GraphLaws) (p : Parts) (arena : IsArena p) (below : RowsAreBelow p) (s : Inference) (kept : Kept s s) where
  -- two types are made equal, behind what is quiet
  equated_quiet : (m : Inference) (at : Place) (a b : ℕ) → Kept s m → Quiet p s m → Has m a → Has m b → Quiet p s (equated at a b m)
  equated_quiet m at a b k quiet has_a has_b =
      let here = kept_here s m k in
      quiet_on p s m (equated at a b m) (equated_kept l m m at a b here has_a has_b) quiet
      (leads_quiet p m (equated at a b m) (equated_leads l s m k at a b p has_a has_b))

  is_quiet : (at : Place) (t : ℕ) → Has s t → Quiet p s (equated at (taken s).found t (taken s).state)
  is_quiet at t has =
      let k = taken_kept l s s kept in
      equated_quiet (taken s).state at (taken s).found t k.0 (quiet_taken l p s s kept) k.1 (has_later s (taken s).state t k.0 has)

  agreed_quiet : (at : Place) → Quiet p s (agreed at s)
  agreed_quiet at =
      let second = taken s in
      let one = taken second.state in
      let k = taken_kept l s s kept in
      let here = kept_here s second.state k.0 in
      let j = taken_kept l s second.state k.0 in
      let i = taken_kept l second.state second.state here in
      let back = given_back one.found one.state in
      let quiet = quiet_on p s one.state back (given_kept one.state one.state one.found (kept_here s one.state j.0) j.1)
      (quiet_on p s second.state one.state i.0 (quiet_taken l p s s kept) (quiet_taken l p s second.state k.0))
      (quiet_given p one.state (one.found ∷ one.state.given)) in
      equated_quiet back at second.found one.found (given_kept s one.state one.found j.0 j.1) quiet
      (has_later second.state one.state second.found i.0 k.1) j.1

  annotated_quiet : (at : Place) (w : ℕ) → Quiet p s (annotated p at w s)
  annotated_quiet at w =
      let t = taken s in
      let k = taken_kept l s s kept in
      let back = given_back t.found t.state in
      let given = given_kept s t.state t.found k.0 k.1 in
      let here = kept_here s back given in
      quiet_on p s back (annotated_if p at t.found (Some w) back) (annotated_kept l p at back back t.found (Some w) here k.1)
      (quiet_on p s t.state back (given_kept t.state t.state t.found (kept_here s t.state k.0) k.1) (quiet_taken l p s s kept)
      (quiet_given p t.state (t.found ∷ t.state.given)))
      (leads_quiet p back (annotated_if p at t.found (Some w) back)
      (annotated_leads l p arena s back given at t.found k.1 (Some w)))

  -- a name of the pattern's whole value
  alias_step : (at : Place) (x : ℕ)
      → PatternStep p (task.Alias at x) s
      (let t = taken s in let b = bound x (given_back t.found t.state) in equated at b.found t.found b.state)
  alias_step at x =
      let t = taken s in
      let k = taken_kept l s s kept in
      let back = given_back t.found t.state in
      let given = given_kept s t.state t.found k.0 k.1 in
      let here = kept_here s back given in
      let b = bound_made l p s back given x in
      let i = bound_made l p back back here x in
      let names = name_bound l p s back given x in
      let g = bound x back in
      let after = equated at g.found t.found g.state in
      let has = has_later back g.state t.found i.0 k.1 in
      let before = quiet_on p s t.state back (given_kept t.state t.state t.found (kept_here s t.state k.0) k.1)
      (quiet_taken l p s s kept)
      (quiet_given p t.state (t.found ∷ t.state.given)) in
      let last = leads_quiet p g.state after (equated_leads l s g.state b.0 at g.found t.found p b.1 has) in
      record {
        new = [];
        pushed = last.tasks ∙ names.tasks ∙ before.tasks;
        all = tt;
        steady =
            steady_on p s g.state after (equated_kept l g.state g.state at g.found t.found (kept_here s g.state b.0) b.1 has)
            (steady_on p s back g.state i.0 before.steady names.steady) last.steady;
        spared =
            λ y spares.
            (tt, ap (λ xs. known xs y) last.names ∙ names.others y spares ∙ ap (λ xs. known xs y) before.names);
      }

  -- a field
  field_step :
      (at : Place) (t : ℕ) (f : FieldPart) (vars : Variables)
      → Roomy s (λ types. TaskIsThere types (task.FieldPatternIs at t f vars))
      → PatternStep p (task.FieldPatternIs at t f vars) s
      (let u = field_type p f.field vars at (refused_unless (is_owner p t f.field) at s) in first_one
      (task.PatternIs f.part u.found) u.state)
  field_step at t f vars there =
      let is = is_owner p t f.field in
      let before = refused_unless is at s in
      let u = field_type p f.field vars at before in
      let k = refused_unless_kept s s is at kept in
      let leads = field_leads l p arena s before k at f.field vars (has_variables_later s before vars k there) in
      let quiet = quiet_on p s before u.state
      (field_made l p vars at before before (kept_here s before k) (has_variables_later s before vars k there) f.field).0
      (quiet_refused p is at s) (leads_quiet p before u.state leads) in
      pushed_step p (task.FieldPatternIs at t f vars) s u.state (task.PatternIs f.part u.found ∷ u.state.tasks)
      (task.PatternIs f.part u.found ∷ [])
      u.state.end quiet (λ o. o) refl (tt, tt) (λ x spares. (spares, tt))

  -- the forms of patterns
  module _ (q : ℕ) where
    abbrev StepTo : Inference → Type 0
    StepTo after = PatternStep p (task.Pattern q) s after

    new_quiet : (ts : List ℕ) → Quiet p s (record (new_variable s).state { given = ts })
    new_quiet ts =
        let v = (leads_quiet p s (new_variable s).state (variable_leads l s s kept p)).steady in
        record {
          steady = record { item = v.item; pattern = v.pattern; stay = v.stay; meant = v.meant; bound_stay = v.bound_stay };
          tasks = refl;
          names = refl;
        }

    any_step : StepTo (give_found (new_variable s))
    any_step = quiet_step p (task.Pattern q) s (give_found (new_variable s)) (new_quiet (length s.types.nodes ∷ s.given))

    name_step : (x : ℕ) → pattern_at (patterns_of p) q ≡ NamePat x → StepTo (give_found (bound x s))
    name_step x is =
        let names = name_bound l p s s kept x in
        let g = bound x s in
        record {
          new = [];
          pushed = names.tasks;
          all = tt;
          steady = record {
            item = names.steady.item;
            pattern = names.steady.pattern;
            stay = names.steady.stay;
            meant = names.steady.meant;
            bound_stay = names.steady.bound_stay;
          };
          spared =
              λ y spares.
              let none = (subst (SparedBy y) is spares).1 in
              (tt, names.others y (other_number y x ((both_fail (y == x) false none).0)));
        }

    tuple_step :
        (qs : List ℕ) → pattern_at (patterns_of p) q ≡ TuplePat (patterns_at (patterns_of p) qs) → StepTo (tuple_pattern qs s)
    tuple_step qs is =
        let r = new_variables (length qs) s in
        let k = variables_made l (length qs) s s kept in
        let quiet = leads_quiet p s (record r.state { types = applied 16 r.value false r.state.types })
        (leads_on p s r.state (record r.state { types = applied 16 r.value false r.state.types })
        (inner_made l r.state r.state 16 r.value (kept_here s r.state k.kept) k.there) (variables_lead l p (length qs) s s kept)
        (type_leads l s r.state k.kept 16 r.value p k.there)) in
        let give = task.Give (length r.state.types.nodes) in
        let with_tuple : Inference = record r.state { types = applied 16 r.value false r.state.types } in
        pushed_step p (task.Pattern q) s with_tuple (pattern_tasks qs r.value ++ give ∷ r.state.tasks)
        (pattern_tasks qs r.value ++ give ∷ [])
        r.state.end quiet (λ o. o) (sym (append_assoc (pattern_tasks qs r.value) (give ∷ []) r.state.tasks))
        (each_appended IsOfPattern (pattern_tasks qs r.value) (give ∷ []) (tuple_tasks_are qs r.value) (tt, tt))
        (λ x spares.
        let h = subst (SparedBy x) is spares in
        each_appended (Spares p x) (pattern_tasks qs r.value) (give ∷ []) (tuple_spared p x qs r.value h.0 h.1) (tt, tt))

    -- a constructor, and its argument
    module _ (con : Constructor) (at : Place) where
      abbrev made : With Constructed
      made = constructed p con at s

      made_quiet : Quiet p s made.state
      made_quiet = leads_quiet p s made.state (constructed_leads l p arena below s s kept at con)

      abbrev giving : Inference
      giving = first_one (task.Give made.value.value) made.state

      refused_step : (argument : Option ℕ) → StepTo (refused at giving)
      refused_step argument =
          pushed_step p (task.Pattern q) s made.state (task.Give made.value.value ∷ made.state.tasks)
          (task.Give made.value.value ∷ [])
          (ended_first made.state.end (ends.Fault at)) made_quiet (none_ended made.state.end (ends.Fault at)) refl (tt, tt)
          (λ x spares. (tt, tt))

      no_argument_step : (o : Option ℕ) (other : Bool) → StepTo (argument_pattern None o other p at giving)
      no_argument_step None other =
          pushed_step p (task.Pattern q) s made.state (task.Give made.value.value ∷ made.state.tasks)
          (task.Give made.value.value ∷ [])
          made.state.end made_quiet (λ o. o) refl (tt, tt) (λ x spares. (tt, tt))
      no_argument_step (Some t) other = refused_step (Some t)

      with_step :
          (a t : ℕ) (b : Bool) → ((x : ℕ) → Spares p x (task.Pattern q) → SparedBy x (pattern_at (patterns_of p) a))
          → StepTo (first_one (task.PatternIs a t) (refused_unless b at giving))
      with_step a t true spared =
          let ts = task.PatternIs a t ∷ task.Give made.value.value ∷ [] in
          pushed_step p (task.Pattern q) s made.state (ts ++ made.state.tasks) ts made.state.end made_quiet (λ o. o) refl
          (tt, (tt, tt))
          (λ x spares. (spared x spares, (tt, tt)))
      with_step a t false spared =
          let ts = task.PatternIs a t ∷ task.Give made.value.value ∷ [] in
          pushed_step p (task.Pattern q) s made.state (ts ++ made.state.tasks) ts (ended_first made.state.end (ends.Fault at))
          made_quiet
          (none_ended made.state.end (ends.Fault at)) refl (tt, (tt, tt)) (λ x spares. (spared x spares, (tt, tt)))

      argument_step :
          (a : ℕ) (o : Option ℕ) (other : Bool)
          → ((x : ℕ) → Spares p x (task.Pattern q) → SparedBy x (pattern_at (patterns_of p) a))
          → StepTo (argument_pattern (Some a) o other p at giving)
      argument_step a None other spared = refused_step None
      argument_step a (Some t) other spared = with_step a t (other || is_any p a) spared

    -- a record
    fields_step :
        (o : Option ℕ) (fs : List FieldPart) (at : Place)
        → ((x : ℕ) → Spares p x (task.Pattern q) → SparedBy x (RecordPat [] (patterns_at (patterns_of p) (map (λ f. f.part) fs))))
        → StepTo (fields_pattern o fs p at s)
    fields_step None fs at spared = quiet_step p (task.Pattern q) s s (quiet_here p s)
    fields_step (Some t) fs at spared =
        let r = instance p t s in
        let give = task.Give r.value.value in
        let ts = map (field_pattern_task at t r.value.variables) fs in
        pushed_step p (task.Pattern q) s r.state (ts ++ give ∷ r.state.tasks) (ts ++ give ∷ []) r.state.end
        (leads_quiet p s r.state (instance_leads l p s s kept t)) (λ o. o) (sym (append_assoc ts (give ∷ []) r.state.tasks))
        (each_appended IsOfPattern ts (give ∷ []) (each_made IsOfPattern (field_pattern_task at t r.value.variables) (λ f. tt) fs)
        (tt, tt))
        (λ x spares.
        let h = spared x spares in
        each_appended (Spares p x) ts (give ∷ []) (fields_spared p x at t r.value.variables fs h.0 h.1) (tt, tt))

    record_step :
        (fs : List FieldPart) (at : Place)
        → ((x : ℕ) → Spares p x (task.Pattern q) → SparedBy x (RecordPat [] (patterns_at (patterns_of p) (map (λ f. f.part) fs))))
        → StepTo (record_pattern fs p at s)
    record_step [] at spared =
        quiet_step p (task.Pattern q) s (refused at s) (quiet_refused p false at s)
    record_step (f ∷ fs) at spared = fields_step (field_owner p f.field) (f ∷ fs) at spared

    parts_step :
        (ts : List Task) → AllByRecursion IsOfPattern ts → ((x : ℕ) → Spares p x (task.Pattern q) → AllByRecursion (Spares p x) ts)
        → StepTo (first ts s)
    parts_step ts all spared = pushed_step p (task.Pattern q) s s (ts ++ s.tasks) ts s.end (quiet_here p s) (λ o. o) refl all spared

    form_step :
        (f : PatternForm) (at : Place) → pattern_at (patterns_of p) q ≡ pattern_tree (types_of p) (patterns_of p) f
        → StepTo (pattern_of f p at s)
    unfolding pattern_of joined_pattern
    form_step pat.Any at is = any_step
    form_step (pat.Name x) at is = name_step x is
    form_step (pat.Constant c) at is =
        quiet_step p (task.Pattern q) s (given_back (constant_row c) s) (quiet_given p s (constant_row c ∷ s.given))
    form_step (pat.Tuple qs) at is = tuple_step qs is
    form_step (pat.Constructor con) at is =
        no_argument_step con at (constructed p con at s).value.argument (not (unhandled con))
    form_step (pat.Construct con a) at is =
        argument_step con at a (constructed p con at s).value.argument (not (unhandled con))
        (λ x spares. subst (SparedBy x) is spares)
    form_step (pat.Record fs) at is = record_step fs at (λ x spares. subst (SparedBy x) is spares)
    form_step (pat.Or a b) at is =
        let P = patterns_of p in
        let A = pattern_at P a in
        let B = pattern_at P b in
        parts_step (task.Pattern a ∷ task.Pattern b ∷ task.Agree (pattern_place p b s) ∷ []) (tt, (tt, (tt, tt)))
        (λ x spares.
        let h = subst (SparedBy x) is spares in
        let three = both_hold (sides_agree A && sides_agree B && differ (names_in B)) (same (names_in A) (names_in B)) h.0 in
        let two = both_hold (sides_agree A && sides_agree B) (differ (names_in B)) three.0 in
        let one = both_hold (sides_agree A) (sides_agree B) two.0 in
        ((one.0, h.1), ((one.1, sym (same_held (names_in A) (names_in B) three.1 x) ∙ h.1), (tt, tt))))
    form_step (pat.Alias a y) at is =
        let A = pattern_at (patterns_of p) a in
        parts_step (task.Pattern a ∷ task.Alias at y ∷ []) (tt, (tt, tt))
        (λ x spares.
        let h = subst (SparedBy x) is spares in
        let two = both_fail (holds (names_in A) x) (holds (y ∷ []) x) (sym (holds_appended (names_in A) (y ∷ []) x) ∙ h.1) in
        ((h.0, two.0), (other_number x y (both_fail (x == y) false two.1).0, tt)))
    form_step (pat.Annotated a w) at is =
        parts_step (task.Pattern a ∷ task.Annotated at w ∷ []) (tt, (tt, tt)) (λ x spares. (subst (SparedBy x) is spares, (tt, tt)))

    node_step : (o : Option PatternNode) → slice_get p.patterns q ≡ o → StepTo (pattern_node o p s)
    node_step None is = any_step
    node_step (Some node) is = form_step node.form node.place (pattern_is_tree p arena q node is)

  -- each task of a pattern
  pub pattern_step :
      (t : Task) → IsOfPattern t → Roomy s (λ types. TaskIsThere types t) → PatternStep p t s (acted t p s)
  unfolding acted acted_on_data
  pattern_step (task.Pattern q) is there = node_step q (slice_get p.patterns q) refl
  pattern_step (task.PatternIs q t) is there =
      let ts = task.Pattern q ∷ task.Is (pattern_place p q s) t ∷ [] in
      pushed_step p (task.PatternIs q t) s s (ts ++ s.tasks) ts s.end (quiet_here p s) (λ o. o) refl (tt, (tt, tt))
      (λ x spares. (spares, (tt, tt)))
  pattern_step (task.Give t) is there = quiet_step p (task.Give t) s (given_back t s) (quiet_given p s (t ∷ s.given))
  pattern_step (task.Is at t) is there = quiet_step p (task.Is at t) s _ (is_quiet at t there)
  pattern_step (task.Agree at) is there = quiet_step p (task.Agree at) s (agreed at s) (agreed_quiet at)
  pattern_step (task.Annotated at w) is there = quiet_step p (task.Annotated at w) s (annotated p at w s) (annotated_quiet at w)
  pattern_step (task.Alias at x) is there = alias_step at x
  pattern_step (task.FieldPatternIs at t f vars) is there = field_step at t f vars there
  pattern_step _ is there = absurd is
