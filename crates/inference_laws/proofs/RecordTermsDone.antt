-- The walk over a record expression gives what the rules of terms say.
use Rattle.std.proofs.Common.{◌≡◌, ℕ, zero, suc, List, [], ◌∷◌, ◌++◌, length, map, Option, Some, None, Bool, true, false, ◌==◌, ◌&&◌, if◌then◌else◌, refl, sym, ◌∙◌, ap, subst, append_assoc, slice_get}
use Rattle.std.specs.Prelude.{IsTrue}
use Rattle.std.specs.List.{AllByRecursion, list_all}
use Rattle.fx_base.specs.declared.refusal.Place.{Place}
use Rattle.effect_meaning.specs.declared.core_nodes.FieldPart.{FieldPart}
use Rattle.effect_meaning.specs.declared.core_nodes.TermForm.TheVariants as form
use Rattle.effect_meaning.specs.declared.core_nodes.TermNode.{TermNode}
use Rattle.effect_meaning.specs.Arena.{Parts, IsArena}
use Rattle.effect_meaning.specs.ArenaTrees.{fields_of, program, terms_at, terms_of}
use Rattle.effect_meaning.specs.Scoped.{Scope, holds, term_scoped, terms_scoped}
use Rattle.effect_meaning.specs.Terms.{Record, Term}
use Rattle.type_terms.specs.TypeTrees.{Ty}
use Rattle.type_terms.specs.Contexts.{Names}
use Rattle.type_terms.specs.Constructors.{NamesEachField}
use Rattle.type_terms.specs.Typing.{FieldsHave}
use Rattle.ml_infer.specs.declared.inference.Inference.{Inference}
use Rattle.ml_infer.specs.declared.tasks.Task.{Task}
use Rattle.ml_infer.specs.declared.tasks.Task.TheVariants as task
use Rattle.ml_infer.specs.Constructors.{field_owner, field_type, instance, is_owner, new_variables, parameter_count}
use Rattle.ml_infer.specs.Inference.{With, new_variable, refused}
use Rattle.ml_infer.specs.Members.{count_of}
use Rattle.ml_infer.specs.Tasks.{first, first_one}
use Rattle.ml_infer.specs.Terms.{data_term, fields_first, named_each, names_each, names_new, plain_term, record_counted, record_of, term_of}
use Rattle.ml_infer.specs.Walk.{acted, acted_on_data}
use Rattle.inference_laws.specs.Meanings.{LeadsTo, RowsAreBelow, VariablesAgree}
use Rattle.inference_laws.proofs.Kept.{Kept, kept_here, room_before}
use Rattle.inference_laws.proofs.Fields.{counted_kept}
use Rattle.inference_laws.proofs.GraphLaws.{GraphLaws}
use Rattle.inference_laws.proofs.Written.{HasVariables, has_variables_later}
use Rattle.inference_laws.proofs.Constructors.{instance_made}
use Rattle.inference_laws.proofs.Trees.{term_met}
use Rattle.inference_laws.proofs.Leading.{known_leads, leads_on}
use Rattle.inference_laws.proofs.Instances.{InstanceIs, instance_is, instance_leads}
use Rattle.inference_laws.proofs.FieldRules.{field_has, field_leads, owner_there}
use Rattle.inference_laws.proofs.FieldNames.{names_each_field}
use Rattle.inference_laws.proofs.Runs.{left, Does}
use Rattle.inference_laws.proofs.Grounds.{Tops, standing, scope_of, HasScope, Ground, Ending, TermDone, Asked}
use Rattle.inference_laws.proofs.Booleans.{both_hold}
use Rattle.inference_laws.proofs.Following.{agree_at, follows_on, ground_later}
use Rattle.inference_laws.proofs.TasksDone.{task_left}
use Rattle.inference_laws.proofs.TermsDone.{Rule, term_is_done, tree}
use Rattle.inference_laws.proofs.PartsDone.{asked_on, begun_with, entered_on, entered_with, given_last, none_asked, not_refused, parts_end, step_kept}
use Rattle.inference_laws.proofs.DataTermsDone.{equals, holds_on}
use Rattle.inference_laws.proofs.ConstructedTermsDone.{owner_of}

-- where types are made the fields are counted as before
variables_count : (many : ℕ) (s : Inference) → (new_variables many s).state.fields ≡ s.fields
unfolding new_variables
variables_count zero s = refl
variables_count (suc many) s = variables_count many (new_variable s).state

module _ (p : Parts) (t : ℕ) where
  -- where parts name fields nothing else changes
  named_state :
      (fs : List FieldPart) (r : With Bool)
      → (named_each p t fs r).state ≡ record r.state { naming = (named_each p t fs r).state.naming }
  named_state [] r = refl
  named_state (f ∷ fs) r =
      let o = names_new p t f.field r.state in named_state fs (record { value = r.value && o.value; state = o.state })

  -- the fields are those of the type
  owner_is : (o : Option ℕ) → elim o [ None ↦ false | Some owner ↦ owner == t ] ≡ true → o ≡ Some t
  owner_is None e = absurd (cc)
  owner_is (Some owner) e = ap (λ (k : ℕ). Some k) (equals owner t e)

  abbrev pub AreOwned : List FieldPart → Type 0
  AreOwned fs = AllByRecursion (λ (f : FieldPart). field_owner p f.field ≡ Some t) fs

  named_owned : (fs : List FieldPart) (r : With Bool) → (named_each p t fs r).value ≡ true → (r.value ≡ true) × AreOwned fs
  named_owned [] r e = (e, tt)
  named_owned (f ∷ fs) r e =
      let o = names_new p t f.field r.state in
      let others = named_owned fs (record { value = r.value && o.value; state = o.state }) e in
      let both = both_hold r.value o.value others.0 in
      let now = both_hold (is_owner p t f.field) _ both.1 in
      (both.0, (owner_is (field_owner p f.field) now.0, others.1))

module _ (l : GraphLaws) (p : Parts) (f : ℕ → Ty) (tops : Tops) (vs : ℕ → Ty) (arena : IsArena p) (below : RowsAreBelow p) where
  -- the fields of a record of this type have their types
  pub record FieldsDone (names : Names) (fs : List FieldPart) (v : ℕ) (s e : Inference) : Type 0 where
    pub asked : Asked p tops names s e
    pub typed :
        VariablesAgree f vs e
        → FieldsHave (standing p tops names vs) (map (λ (x : FieldPart). x.field) fs)
        (terms_at (terms_of p) (map (λ (x : FieldPart). x.part) fs)) (f v)

  module _ (at : Place) (t : ℕ) (before : Inference) (known : InstanceIs p t f (instance p t before).value) where
    fields_done :
        (fs : List FieldPart) → AllByRecursion (λ (x : FieldPart). Rule l p f tops vs x.part) fs → AreOwned p t fs → (sc : Scope)
        (names : Names) (rest : List Task) (k : ℕ) (s e : Inference)
        → Does p rest k (map (λ (x : FieldPart). task.FieldIs at x (instance p t before).value.variables) fs) s e → Ending f e
        → Ground p f tops s names → HasVariables s (instance p t before).value.variables → HasScope sc tops names
        → IsTrue (terms_scoped sc (terms_at (terms_of p) (map (λ (x : FieldPart). x.part) fs)))
        → FieldsDone names fs (instance p t before).value.value s e
    unfolding acted acted_on_data
    fields_done [] rules owned sc names rest k s e d ending ground there scope scoped =
        record { asked = none_asked l p f tops vs names s e ground.here d.1; typed = λ agree. refl }
    fields_done (x ∷ fs) rules owned sc names rest k s e d ending ground there scope scoped =
        let scope_here = scope_of tops names in
        let vars = (instance p t before).value.variables in
        let one_task = task.FieldIs at x vars in
        let us : List Task = map (λ (y : FieldPart). task.FieldIs at y vars) fs in
        let q = parts_end l p f tops vs rest k (one_task ∷ []) us s e d ground.here ending in
        let rest_here = us ++ rest in
        let left_kept = (step_kept l p f tops vs rest_here q.first_steps one_task s q.middle q.first_part ground.here).before in
        let here : Inference = left rest_here s in
        let u = field_type p x.field vars at here in
        let leads = field_leads l p arena s here left_kept at x.field vars there in
        let new = task.TermIs x.part u.found ∷ [] in
        let s1 : Inference = record u.state { tasks = new ++ rest_here } in
        let step : acted one_task p here ≡ s1 =
        ap (λ (ts : List Task). record u.state { tasks = task.TermIs x.part u.found ∷ ts }) leads.rest.same_tasks in
        let en =
        begun_with l p f tops vs one_task names rest_here new q.first_steps s u.state q.middle q.first_part q.ending ground step
        leads in
        let tree_here = term_scoped sc (tree l p f tops vs x.part) in
        let both = both_hold tree_here (terms_scoped sc (terms_at (terms_of p) (map (λ (y : FieldPart). y.part) fs))) scoped in
        let one =
        term_is_done l p f tops vs x.part rules.0 sc names rest_here en.steps u.found s1 q.middle en.others q.ending en.ground scope
        both.0 in
        let follows = follows_on p scope_here s s1 q.middle en.follows one.asked.follows in
        let ground_q = ground_later p f tops s q.middle names q.ending.room q.ending.on ground follows in
        let meant = ground.meant (room_before s s1 en.follows.kept en.ending.room) in
        let has =
        field_has l p arena s here left_kept at x.field below t owned.0 before there en.ending.room en.ending.on meant f
        en.ending.reads known in
        let others =
        fields_done fs rules.1 owned.1 sc names rest q.other_steps q.middle e q.other_part ending ground_q
        (has_variables_later s q.middle vars follows.kept there) scope both.1 in
        record {
          asked =
              asked_on l p f tops vs names s q.middle e
              (record { gives = one.asked.gives ∙ leads.rest.same_given; follows = follows }) others.asked;
          typed =
              λ agree. (
                x.field,
                map (λ (y : FieldPart). y.field) fs,
                f u.found,
                refl,
                has,
                one.typed (agree_at p f vs scope_here q.middle e others.asked.follows agree),
                others.typed agree,
              );
        }

  -- the tree of a record expression with these fields
  abbrev pub record_tree : List FieldPart → Term
  record_tree fs = Record (map (λ (x : FieldPart). x.field) fs) (terms_at (terms_of p) (map (λ (x : FieldPart). x.part) fs))

  -- a record expression
  pub record_ruled :
      (n : ℕ) (at : Place) (fs : List FieldPart) → slice_get p.terms n ≡ Some (record { place = at; form = form.Record fs })
      → AllByRecursion (λ (x : FieldPart). Rule l p f tops vs x.part) fs → (sc : Scope) (names : Names) (rest : List Task) (k : ℕ)
      (s e : Inference) → Does p rest k (task.Term n ∷ []) s e → Ending f e → Ground p f tops s names → HasScope sc tops names
      → IsTrue (term_scoped sc (record_tree fs)) → TermDone p f tops names vs (record_tree fs) s e
  unfolding term_of plain_term data_term
  record_ruled n at [] is rules sc names rest k s e d ending ground scope scoped =
      let node : TermNode = record { place = at; form = form.Record [] } in
      let on = entered_on l p f tops vs n node is rest k s e d ground.here ending in
      absurd (not_refused at (left rest s) on)
  record_ruled n at (x ∷ xs) is rules sc names rest k s e d ending ground scope scoped =
      let scope_here = scope_of tops names in
      let fs = x ∷ xs in
      let before = (task_left l p rest k (task.Term n) s e d ground.here).0 in
      let here : Inference = left rest s in
      let node : TermNode = record { place = at; form = form.Record (x ∷ xs) } in
      let owner = owner_of p x.field (term_met p arena n node is).0 in
      let t = owner.0 in
      let low = owner_there p arena x.field t owner.1 in
      let made = instance p t here in
      let v = made.value.value in
      let vars = made.value.variables in
      let i = instance_made l p t s here before in
      let lead = instance_leads l p s here before t in
      let made_here = kept_here s made.state i.kept in
      let after : Inference = first_one (task.Give v) made.state in
      let r = names_each p t fs after in
      let c = record_counted after in
      let begun : With Bool = record { value = length fs == count_of c.fields t; state = c } in
      let named : r.state ≡ record c { naming = r.state.naming } = named_state p t fs begun in
      let m : Inference = record made.state { records = c.records; naming = r.state.naming } in
      let m_kept =
      counted_kept made.state made.state c.records made.state.equations made.state.item r.state.naming
      made.state.last made_here in
      let leads = leads_on p here made.state m m_kept lead (naming_leads made.state c.records r.state.naming m_kept) in
      let tasks : List Task = map (λ (y : FieldPart). task.FieldIs at y vars) fs in
      let last = task.Give v ∷ [] in
      let on = entered_on l p f tops vs n node is rest k s e d ground.here ending in
      let chosen : record_of (field_owner p x.field) fs p at here ≡ fields_first fs at vars r =
      ap (λ (o : Option ℕ). record_of o fs p at here) owner.1 in
      let test = holds_on r.value at (first tasks r.state) r.state (ap (λ (y : Inference). y.end) (sym chosen) ∙ on) in
      let put : tasks ++ (task.Give v ∷ made.state.tasks) ≡ (tasks ++ last) ++ rest =
      ap (λ (us : List Task). tasks ++ (task.Give v ∷ us)) lead.rest.same_tasks ∙ sym (append_assoc tasks last rest) in
      let s1 : Inference = record m { tasks = (tasks ++ last) ++ rest } in
      let step : record_of (field_owner p x.field) fs p at here ≡ s1 =
      chosen
      ∙ (ap (λ (b : Bool). if b then first tasks r.state else refused at r.state) test
      ∙ (ap (λ (y : Inference). first tasks y) named ∙ ap (λ (us : List Task). record m { tasks = us }) put)) in
      let en = entered_with l p f tops vs n node is names rest (tasks ++ last) k s m e d ending ground step leads in
      let room = room_before made.state m m_kept en.ending.room in
      let known = instance_is l p s here before t low f room en.ending.reads in
      let owned = (named_owned p t fs begun test).1 in
      let many : count_of after.fields t ≡ length (fields_of p t) =
      ap (λ ms. count_of ms t) (variables_count (parameter_count p t) here) ∙ ground.counted t low in
      let names_all =
      subst (NamesEachField (program p) (map (λ (y : FieldPart). y.field) fs)) (sym known.is)
      (names_each_field p t low x xs after many test known.arguments) in
      let q = parts_end l p f tops vs rest en.steps tasks last s1 e en.others en.here ending in
      let both =
      both_hold (list_all (holds sc.fields) (map (λ (y : FieldPart). y.field) fs))
      (terms_scoped sc (terms_at (terms_of p) (map (λ (y : FieldPart). y.part) fs))) scoped in
      let there : HasVariables s1 vars = i.variables in
      let fields =
      fields_done at t here known fs rules owned sc names (last ++ rest) q.first_steps s1 q.middle q.first_part q.ending en.ground
      there scope both.1 in
      given_last l p f tops vs names (record_tree fs) rest q.other_steps v s q.middle e q.other_part q.here
      (fields.asked.gives ∙ leads.rest.same_given) (follows_on p scope_here s s1 q.middle en.follows fields.asked.follows)
      (λ agree. (names_all, fields.typed agree))
    where
      naming_leads :
          (t : Inference) (records : ℕ) (naming : List (Option ℕ)) → Kept t (record t { records = records; naming = naming })
          → LeadsTo p t (record t { records = records; naming = naming })
      naming_leads t records naming kept =
          known_leads p t (record t { records = records; naming = naming }) kept
          (record {
            rest = record { same_tasks = refl; same_given = refl; same_names = refl; same_item = refl; same_pattern = refl };
            variables = refl;
            read = refl;
          })
