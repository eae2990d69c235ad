-- The walk over a constructor and over a field that is read or assigned to gives what the rules of terms say.
use Rattle.std.proofs.Common.{◌≡◌, ℕ, ◌<◌, List, [], ◌∷◌, ◌++◌, length, Option, Some, None, option_map, Bool, true, false, ◌&&◌, if◌then◌else◌, refl, sym, ◌∙◌, ap, subst, slice_get}
use Rattle.std.specs.Prelude.{IsFalse}
use Rattle.fx_base.specs.declared.refusal.Place.{Place}
use Rattle.effect_meaning.specs.declared.core_nodes.Constructor.{Constructor}
use Rattle.effect_meaning.specs.declared.core_nodes.Constructor.TheVariants as constructor
use Rattle.effect_meaning.specs.declared.core_nodes.TermForm.TheVariants as form
use Rattle.effect_meaning.specs.declared.core_nodes.TermNode.{TermNode}
use Rattle.effect_meaning.specs.declared.core_tables.FieldRow.{FieldRow}
use Rattle.effect_meaning.specs.Arena.{Parts, IsArena, Met, counts, terms_below, constructor_need}
use Rattle.effect_meaning.specs.ArenaTrees.{program, constructor_of}
use Rattle.effect_meaning.specs.Scoped.{constructor_known, holds, term_scoped}
use Rattle.effect_meaning.specs.Terms.{Con, ConOf, Field, SetField}
use Rattle.type_terms.specs.TypeTrees.{Ty}
use Rattle.type_terms.specs.Contexts.{Names}
use Rattle.type_terms.specs.Constructors.{Constructs, IsMutable, is_unhandled}
use Rattle.type_graph.specs.Graph.{built_in}
use Rattle.type_readings.specs.Readings.{Reads}
use Rattle.ml_infer.specs.declared.inference.Inference.{Inference}
use Rattle.ml_infer.specs.declared.tasks.Task.{Task}
use Rattle.ml_infer.specs.declared.tasks.Task.TheVariants as task
use Rattle.ml_infer.specs.Constructors.{constructed, field_owner, field_type, instance, unhandled}
use Rattle.ml_infer.specs.Inference.{refused}
use Rattle.ml_infer.specs.Tasks.{first_one}
use Rattle.ml_infer.specs.Terms.{argument_term, construct, data_term, is_mutable, plain_term, read_field_of, set_field_of, term_of}
use Rattle.ml_infer.specs.Walk.{acted, acted_on_data}
use Rattle.inference_laws.specs.Meanings.{RowsAreBelow}
use Rattle.inference_laws.specs.Premises.{EffectsAreEffects}
use Rattle.inference_laws.proofs.Kept.{Kept, kept_here, room_before}
use Rattle.inference_laws.proofs.GraphLaws.{GraphLaws}
use Rattle.inference_laws.proofs.Constructors.{field_made, instance_made}
use Rattle.inference_laws.proofs.Trees.{got_there, term_met}
use Rattle.inference_laws.proofs.Leading.{leads_on}
use Rattle.inference_laws.proofs.Instances.{instance_is, instance_leads}
use Rattle.inference_laws.proofs.Rules.{constructed_is, constructed_leads}
use Rattle.inference_laws.proofs.FieldRules.{field_has, field_leads, mutable_is, mutable_leads, owner_there}
use Rattle.inference_laws.proofs.Runs.{left, Does}
use Rattle.inference_laws.proofs.Grounds.{Tops, scope_of, Asked, Ending}
use Rattle.inference_laws.proofs.Booleans.{both_hold}
use Rattle.inference_laws.proofs.Following.{agree_at, follows_on, ground_later}
use Rattle.inference_laws.proofs.TasksDone.{once_done, task_left}
use Rattle.inference_laws.proofs.TermsDone.{FormIsRuled, Rule, tree}
use Rattle.inference_laws.proofs.PartsDone.{entered_on, entered_with, first_has, given_last, not_refused, parts_end, step_follows, step_kept}

-- the walk goes on only where a test doesn't hold
fails_on : (b : Bool) (at : Place) (s t : Inference) → (if b then refused at t else s).end ≡ None → b ≡ false
fails_on true at s t on = absurd (not_refused at t on)
fails_on false at s t on = refl

-- where the argument of a constructor is there exactly where one was declared
none_on : (o : Option ℕ) (at : Place) (s : Inference) → (argument_term None o at s).end ≡ None → o ≡ None
none_on None at s on = refl
none_on (Some t) at s on = absurd (not_refused at s on)

some_on : (n : ℕ) (o : Option ℕ) (at : Place) (s : Inference) → (argument_term (Some n) o at s).end ≡ None → (t : ℕ) × (o ≡ Some t)
some_on n None at s on = absurd (not_refused at s on)
some_on n (Some t) at s on = (t, refl)

-- a constructor that is none of Effect.Unhandled
isnt_unhandled : (con : Constructor) → unhandled con ≡ false → IsFalse (is_unhandled (constructor_of con))
isnt_unhandled (constructor.Variant n) is = refl
isnt_unhandled (constructor.Exception n) is = is
isnt_unhandled (constructor.Effect n) is = refl

-- its row is there
row_met : (p : Parts) (n : ℕ) (con : Constructor) → Met (terms_below (counts p) n) (constructor_need con)
    → Met (counts p) (constructor_need con)
row_met p n (constructor.Variant v) met = met
row_met p n (constructor.Exception v) met = met
row_met p n (constructor.Effect v) met = met

-- a field that is there is one of a type
pub owner_of : (p : Parts) (n : ℕ) → n < length p.field_rows → (t : ℕ) × (field_owner p n ≡ Some t)
owner_of p n low =
    let got = got_there p.field_rows n low in
    (got.0.of_type, ap (λ (o : Option FieldRow). elim o [ None ↦ None | Some row ↦ Some row.of_type ]) got.1)

module _ (l : GraphLaws) (p : Parts) (f : ℕ → Ty) (tops : Tops) (vs : ℕ → Ty) (arena : IsArena p) (below : RowsAreBelow p) where
  module _ (effects : EffectsAreEffects p) (built : Reads f built_in) where
    -- a constructor without argument
    pub constructor_ruled :
        (n : ℕ) (at : Place) (con : Constructor) → slice_get p.terms n ≡ Some (record { place = at; form = form.Constructor con })
        → FormIsRuled l p f tops vs n (record { place = at; form = form.Constructor con }) (Con (constructor_of con))
    unfolding term_of plain_term data_term
    constructor_ruled n at con is sc names rest k s e d ending ground scope scoped =
        let before = (task_left l p rest k (task.Term n) s e d ground.here).0 in
        let here : Inference = left rest s in
        let made = constructed p con at here in
        let v = made.value.value in
        let last = task.Give v ∷ [] in
        let t : Inference = first_one (task.Give v) made.state in
        let node : TermNode = record { place = at; form = form.Constructor con } in
        let on = entered_on l p f tops vs n node is rest k s e d ground.here ending in
        let test = fails_on (unhandled con) at (argument_term None made.value.argument at t) t on in
        let chosen = ap (λ (b : Bool). if b then refused at t else argument_term None made.value.argument at t) test in
        let none = none_on made.value.argument at t (ap (λ (x : Inference). x.end) (sym chosen) ∙ on) in
        let leads = constructed_leads l p arena below s here before at con in
        let s1 : Inference = record made.state { tasks = last ++ rest } in
        let step : construct con None p at here ≡ s1 =
        chosen ∙ (ap (λ (o : Option ℕ). argument_term None o at t) none
        ∙ ap (λ (us : List Task). record made.state { tasks = task.Give v ∷ us }) leads.rest.same_tasks) in
        let en = entered_with l p f tops vs n node is names rest last k s made.state e d ending ground step leads in
        let met = row_met p n con (term_met p arena n node is).0 in
        let meant = ground.meant (room_before s s1 en.follows.kept en.ending.room) in
        let has =
        constructed_is l p arena below s here before at effects con met en.ending.room en.ending.on meant f built en.ending.reads in
        let constructs = subst (λ (o : Option ℕ). Constructs (program p) (constructor_of con) (option_map f o) (f v)) none has in
        given_last l p f tops vs names (Con (constructor_of con)) rest en.steps v s s1 e en.others en.here leads.rest.same_given
        en.follows (λ agree. (constructs, isnt_unhandled con test))

    -- with one
    pub construct_ruled :
        (n : ℕ) (at : Place) (con : Constructor) (a : ℕ)
        → slice_get p.terms n ≡ Some (record { place = at; form = form.Construct con a }) → Rule l p f tops vs a
        → FormIsRuled l p f tops vs n (record { place = at; form = form.Construct con a })
        (ConOf (constructor_of con) (tree l p f tops vs a))
    unfolding term_of plain_term data_term
    construct_ruled n at con a is rule sc names rest k s e d ending ground scope scoped =
        let scope_here = scope_of tops names in
        let before = (task_left l p rest k (task.Term n) s e d ground.here).0 in
        let here : Inference = left rest s in
        let made = constructed p con at here in
        let v = made.value.value in
        let last = task.Give v ∷ [] in
        let t : Inference = first_one (task.Give v) made.state in
        let node : TermNode = record { place = at; form = form.Construct con a } in
        let on = entered_on l p f tops vs n node is rest k s e d ground.here ending in
        let test = fails_on (unhandled con) at (argument_term (Some a) made.value.argument at t) t on in
        let chosen = ap (λ (b : Bool). if b then refused at t else argument_term (Some a) made.value.argument at t) test in
        let some = some_on a made.value.argument at t (ap (λ (x : Inference). x.end) (sym chosen) ∙ on) in
        let argument = some.0 in
        let leads = constructed_leads l p arena below s here before at con in
        let new = task.TermIs a argument ∷ last in
        let s1 : Inference = record made.state { tasks = new ++ rest } in
        let step : construct con (Some a) p at here ≡ s1 =
        chosen ∙ (ap (λ (o : Option ℕ). argument_term (Some a) o at t) some.1
        ∙ ap (λ (us : List Task). record made.state { tasks = new ++ us }) leads.rest.same_tasks) in
        let en = entered_with l p f tops vs n node is names rest new k s made.state e d ending ground step leads in
        let met = row_met p n con (term_met p arena n node is).0 in
        let meant = ground.meant (room_before s s1 en.follows.kept en.ending.room) in
        let has =
        constructed_is l p arena below s here before at effects con met en.ending.room en.ending.on meant f built en.ending.reads in
        let constructs = subst (λ (o : Option ℕ). Constructs (program p) (constructor_of con) (option_map f o) (f v)) some.1 has in
        let both = both_hold (constructor_known sc (constructor_of con)) (term_scoped sc (tree l p f tops vs a)) scoped in
        let one =
        first_has l p f tops vs a argument rule sc names rest last en.steps s1 e en.others ending en.ground scope both.1 in
        given_last l p f tops vs names (ConOf (constructor_of con) (tree l p f tops vs a)) rest one.steps v s one.middle e
        one.others
        one.ground.here (one.first.asked.gives ∙ leads.rest.same_given)
        (follows_on p scope_here s s1 one.middle en.follows one.first.asked.follows)
        (λ agree. (f argument, constructs, isnt_unhandled con test, one.first.typed agree))

  -- a field that is read
  pub field_ruled :
      (n : ℕ) (at : Place) (field a : ℕ) → slice_get p.terms n ≡ Some (record { place = at; form = form.Field field a })
      → Rule l p f tops vs a
      → FormIsRuled l p f tops vs n (record { place = at; form = form.Field field a }) (Field field (tree l p f tops vs a))
  unfolding term_of plain_term data_term
  field_ruled n at field a is rule sc names rest k s e d ending ground scope scoped =
      let scope_here = scope_of tops names in
      let before = (task_left l p rest k (task.Term n) s e d ground.here).0 in
      let here : Inference = left rest s in
      let node : TermNode = record { place = at; form = form.Field field a } in
      let owner = owner_of p field (term_met p arena n node is).0 in
      let t = owner.0 in
      let made = instance p t here in
      let v = made.value.value in
      let vars = made.value.variables in
      let u = field_type p field vars at made.state in
      let i = instance_made l p t s here before in
      let u_kept = (field_made l p vars at made.state made.state (kept_here s made.state i.kept) i.variables field).0 in
      let lead = instance_leads l p s here before t in
      let leads =
      leads_on p here made.state u.state u_kept lead (field_leads l p arena s made.state i.kept at field vars i.variables) in
      let last = task.Give u.found ∷ [] in
      let new = task.TermIs a v ∷ last in
      let s1 : Inference = record u.state { tasks = new ++ rest } in
      let step : read_field_of (field_owner p field) p at field a here ≡ s1 =
      ap (λ (o : Option ℕ). read_field_of o p at field a here) owner.1
      ∙ ap (λ (us : List Task). record u.state { tasks = new ++ us }) leads.rest.same_tasks in
      let en = entered_with l p f tops vs n node is names rest new k s u.state e d ending ground step leads in
      let room = room_before made.state u.state u_kept en.ending.room in
      let reads = u_kept.reads en.ending.room en.ending.on f en.ending.reads in
      let meant = lead.meant room (u_kept.ended en.ending.on) (ground.meant (room_before s s1 en.follows.kept en.ending.room)) in
      let known = instance_is l p s here before t (owner_there p arena field t owner.1) f room reads in
      let has =
      field_has l p arena s made.state i.kept at field below t owner.1 here i.variables en.ending.room en.ending.on meant f
      en.ending.reads known in
      let both = both_hold (holds sc.fields field) (term_scoped sc (tree l p f tops vs a)) scoped in
      let one = first_has l p f tops vs a v rule sc names rest last en.steps s1 e en.others ending en.ground scope both.1 in
      given_last l p f tops vs names (Field field (tree l p f tops vs a)) rest one.steps u.found s one.middle e one.others
      one.ground.here (one.first.asked.gives ∙ leads.rest.same_given)
      (follows_on p scope_here s s1 one.middle en.follows one.first.asked.follows) (λ agree. (f v, has, one.first.typed agree))

  -- a field is tested to be mutable
  mutable_done :
      (names : Names) (rest : List Task) (k : ℕ) (at : Place) (field : ℕ) (s e : Inference)
      → Does p rest k (task.IsMutable at field ∷ []) s e → Kept s s → Ending f e → field < length p.field_rows
      → Asked p tops names s e × IsMutable (program p) field
  unfolding acted acted_on_data
  mutable_done names rest k at field s e d kept ending low =
      let here : Inference = left rest s in
      let m : Inference = is_mutable p at field here in
      let steps = step_kept l p f tops vs rest k (task.IsMutable at field) s e d kept in
      let leads = mutable_leads l p arena s here steps.before at field in
      let once = once_done l p rest k (task.IsMutable at field) s e d leads.rest.same_tasks kept in
      let follows = step_follows l p f tops vs (scope_of tops names) rest m.tasks s m steps.step leads in (
        subst (Asked p tops names s) once.is (record { gives = leads.rest.same_given; follows = follows }),
        mutable_is p at field here low (ap (λ (x : Inference). x.end) once.is ∙ ending.on),
      )

  -- a field that is assigned to
  pub set_field_ruled :
      (n : ℕ) (at : Place) (field a b : ℕ) → slice_get p.terms n ≡ Some (record { place = at; form = form.SetField field a b })
      → Reads f built_in → Rule l p f tops vs a → Rule l p f tops vs b
      → FormIsRuled l p f tops vs n (record { place = at; form = form.SetField field a b })
      (SetField field (tree l p f tops vs a) (tree l p f tops vs b))
  unfolding term_of plain_term data_term
  set_field_ruled n at field a b is built rule_a rule_b sc names rest k s e d ending ground scope scoped =
      let scope_here = scope_of tops names in
      let before = (task_left l p rest k (task.Term n) s e d ground.here).0 in
      let here : Inference = left rest s in
      let node : TermNode = record { place = at; form = form.SetField field a b } in
      let low = (term_met p arena n node is).0 in
      let owner = owner_of p field low in
      let t = owner.0 in
      let made = instance p t here in
      let v = made.value.value in
      let vars = made.value.variables in
      let u = field_type p field vars at made.state in
      let i = instance_made l p t s here before in
      let u_kept = (field_made l p vars at made.state made.state (kept_here s made.state i.kept) i.variables field).0 in
      let lead = instance_leads l p s here before t in
      let leads =
      leads_on p here made.state u.state u_kept lead (field_leads l p arena s made.state i.kept at field vars i.variables) in
      let last = task.Give 4 ∷ [] in
      let second = task.TermIs b u.found ∷ last in
      let new = task.TermIs a v ∷ task.IsMutable at field ∷ second in
      let s1 : Inference = record u.state { tasks = new ++ rest } in
      let step : set_field_of (field_owner p field) p at field a b here ≡ s1 =
      ap (λ (o : Option ℕ). set_field_of o p at field a b here) owner.1
      ∙ ap (λ (us : List Task). record u.state { tasks = new ++ us }) leads.rest.same_tasks in
      let en = entered_with l p f tops vs n node is names rest new k s u.state e d ending ground step leads in
      let room = room_before made.state u.state u_kept en.ending.room in
      let reads = u_kept.reads en.ending.room en.ending.on f en.ending.reads in
      let meant = lead.meant room (u_kept.ended en.ending.on) (ground.meant (room_before s s1 en.follows.kept en.ending.room)) in
      let known = instance_is l p s here before t (owner_there p arena field t owner.1) f room reads in
      let has =
      field_has l p arena s made.state i.kept at field below t owner.1 here i.variables en.ending.room en.ending.on meant f
      en.ending.reads known in
      let both =
      both_hold (holds sc.fields field && term_scoped sc (tree l p f tops vs a)) (term_scoped sc (tree l p f tops vs b)) scoped in
      let first_part = both_hold (holds sc.fields field) (term_scoped sc (tree l p f tops vs a)) both.0 in
      let one =
      first_has l p f tops vs a v rule_a sc names rest (task.IsMutable at field ∷ second) en.steps s1 e en.others ending en.ground
      scope first_part.1 in
      let q =
      parts_end l p f tops vs rest one.steps (task.IsMutable at field ∷ []) second one.middle e one.others one.ground.here ending in
      let mutable =
      mutable_done names (second ++ rest) q.first_steps at field one.middle q.middle q.first_part one.ground.here q.ending low in
      let ground_q = ground_later p f tops one.middle q.middle names q.ending.room q.ending.on one.ground mutable.0.follows in
      let two =
      first_has l p f tops vs b u.found rule_b sc names rest last q.other_steps q.middle e q.other_part ending ground_q scope
      both.1 in
      let follows_1 = follows_on p scope_here s s1 one.middle en.follows one.first.asked.follows in
      let follows_2 = follows_on p scope_here one.middle q.middle two.middle mutable.0.follows two.first.asked.follows in
      given_last l p f tops vs names (SetField field (tree l p f tops vs a) (tree l p f tops vs b)) rest two.steps 4 s two.middle e
      two.others two.ground.here
      (two.first.asked.gives ∙ (mutable.0.gives ∙ (one.first.asked.gives ∙ leads.rest.same_given)))
      (follows_on p scope_here s one.middle two.middle follows_1 follows_2)
      (λ agree. (
        f v,
        f u.found,
        built 4,
        mutable.1,
        has,
        one.first.typed (agree_at p f vs scope_here one.middle two.middle follows_2 agree),
        two.first.typed agree,
      ))
