-- The walk over a handler gives what its rule says.
use Rattle.std.proofs.Common.{◌≡◌, ℕ, ◌<◌, List, [], ◌∷◌, ◌++◌, length, map, Option, Some, None, false, ◌&&◌, refl, sym, ◌∙◌, ap, subst, append_assoc, arith, flat_map, slice_get}
use Rattle.std.specs.Prelude.{IsTrue}
use Rattle.std.specs.List.{AllByRecursion}
use Rattle.fx_base.specs.declared.refusal.Place.{Place}
use Rattle.effect_meaning.specs.declared.core_nodes.Constructor.{Constructor}
use Rattle.effect_meaning.specs.declared.core_nodes.Constructor.TheVariants as constructor
use Rattle.effect_meaning.specs.declared.core_nodes.EffectClause.{EffectClause}
use Rattle.effect_meaning.specs.declared.core_nodes.HandlerKind.{HandlerKind}
use Rattle.effect_meaning.specs.declared.core_nodes.HandlerKind.TheVariants as kind
use Rattle.effect_meaning.specs.declared.core_nodes.HandlerTypes.{HandlerTypes}
use Rattle.effect_meaning.specs.declared.core_nodes.TermForm.TheVariants as form
use Rattle.effect_meaning.specs.Arena.{Parts, AllMet, APattern, AType, IsArena, Met, constructor_need, counts, effect_clause_needs, if_any, terms_below}
use Rattle.effect_meaning.specs.ArenaTrees.{effect_clauses_tree, handler_types, kind_of, patterns_of, term_at, terms_at, terms_of, types_of}
use Rattle.effect_meaning.specs.Scoped.{Scope, annotation_known, effect_clauses_scoped, term_scoped, terms_scoped}
use Rattle.effect_meaning.specs.Terms.{Handle}
use Rattle.type_graph.specs.Graph.{applied, built_in}
use Rattle.type_terms.specs.TypeTrees.{Ty, Constructed, exn, four_tys, function, two_tys}
use Rattle.type_terms.specs.Contexts.{Names}
use Rattle.type_terms.specs.HandlerRules.{HandlerHas}
use Rattle.type_terms.specs.Typing.{TermsHave}
use Rattle.type_readings.specs.Readings.{Reads, trees_of}
use Rattle.ml_infer.specs.declared.inference.Inference.{Inference}
use Rattle.ml_infer.specs.declared.tasks.Handling.{Handling}
use Rattle.ml_infer.specs.declared.tasks.Task.{Task}
use Rattle.ml_infer.specs.declared.tasks.Task.TheVariants as task
use Rattle.ml_infer.specs.Handlers.{argument_of_kind, handled, handler_clause, handler_first, handler_parts, new_handling, parts_for, subject_of_kind}
use Rattle.ml_infer.specs.Inference.{Gives, gives, new_variable}
use Rattle.ml_infer.specs.Tasks.{first_one}
use Rattle.ml_infer.specs.Terms.{data_term, plain_term, term_of}
use Rattle.ml_infer.specs.Walk.{acted}
use Rattle.inference_laws.specs.Whole.{HasRoom, IfKnown}
use Rattle.inference_laws.specs.Meanings.{VariablesAgree}
use Rattle.inference_laws.proofs.Kept.{Kept, HasAll, has_later, kept_here, room_before}
use Rattle.inference_laws.proofs.GraphLaws.{GraphLaws}
use Rattle.inference_laws.proofs.Steps.{inner_made, variable_is, variable_made}
use Rattle.inference_laws.proofs.Constructors.{has_built_in}
use Rattle.inference_laws.proofs.Leading.{type_is_read}
use Rattle.inference_laws.proofs.Runs.{left, Does}
use Rattle.inference_laws.proofs.Grounds.{Tops, standing, scope_of, HasScope, Ground, Ending, Asked}
use Rattle.inference_laws.proofs.Booleans.{both_hold}
use Rattle.inference_laws.proofs.Following.{agree_at, follows_on, ground_later}
use Rattle.inference_laws.proofs.TasksDone.{give_done, task_left}
use Rattle.inference_laws.proofs.TermsDone.{FormIsRuled, PatternIsRuled, TermIsRuled, ending_before, step_of, term_is_done}
use Rattle.inference_laws.proofs.Opening.{follows_here, follows_same, met_parts, opened, split}
use Rattle.inference_laws.proofs.HandlerClauses.{ArgumentIsRuled, EffectClauseIsRuled, EffectLaws}
use Rattle.inference_laws.proofs.HandlersDone.{all_done, clause_tasks, clauses_first}

-- the type of what a handler takes
abbrev subject_row : HandlerKind → ℕ
subject_row kind.Deep = 15
subject_row _ = 12

subject_made :
    (k : HandlerKind) (a b : ℕ) (s : Inference)
    → subject_of_kind k a b s ≡ gives (length s.types.nodes)
    (record s { types = applied (subject_row k) (a ∷ b ∷ []) false s.types })
subject_made kind.Deep a b s = refl
subject_made kind.ShallowContinue a b s = refl
subject_made kind.ShallowDiscontinue a b s = refl

module _ (f : ℕ → Ty) (built : Reads f built_in) where
  handler_has :
      (k : HandlerKind) (a b t n m e : ℕ) → f n ≡ Constructed (subject_row k) (two_tys (f a) (f b)) → f m ≡ function (f b) (f t)
      → f e ≡ function (f 5) (f t)
      → HandlerHas (kind_of k) (four_tys (f n) (f (argument_of_kind k a)) (f m) (f e)) (f b) (f t)
  handler_has kind.Deep a b t n m e subject value exception = let five : f 5 ≡ exn = built 5 in (f a, cc)
  handler_has kind.ShallowContinue a b t n m e subject value exception = let five : f 5 ≡ exn = built 5 in (f a, cc)
  handler_has kind.ShallowDiscontinue a b t n m e subject value exception = let five : f 5 ≡ exn = built 5 in (f a, cc)

module _ (l : GraphLaws) (p : Parts) (arena : IsArena p) (f : ℕ → Ty) (built : Reads f built_in) (tops : Tops) (vs : ℕ → Ty)
    (effects : EffectLaws p) where
  -- terms that have types
  record PartsDone (names : Names) (xs : List (ℕ × ℕ)) (s e : Inference) : Type 0 where
    asked : Asked p tops names s e
    typed :
        VariablesAgree f vs e
        → TermsHave (standing p tops names vs) (terms_at (terms_of p) (map (λ x. x.0) xs)) (trees_of f (map (λ x. x.1) xs))

  parts_done :
      (xs : List (ℕ × ℕ)) → AllByRecursion (λ x. TermIsRuled p f tops vs x.0) xs
      → (sc : Scope) (names : Names) (rest : List Task) (k : ℕ)
      (s e : Inference) → Does p rest k (map (λ x. task.TermIs x.0 x.1) xs) s e → Ending f e → Ground p f tops s names
      → HasScope sc tops names
      → IsTrue (terms_scoped sc (terms_at (terms_of p) (map (λ x. x.0) xs))) → PartsDone names xs s e
  parts_done [] rules sc names rest k s e d ending ground scope scoped =
      subst (PartsDone names [] s) d.1
      (record {
        asked = record { gives = refl; follows = follows_here l p (scope_of tops names) s ground.here };
        typed = λ agree. refl;
      })
  parts_done (x ∷ xs) rules sc names rest k s e d ending ground scope scoped =
      let here = scope_of tops names in
      let others = map (λ (y : ℕ × ℕ). task.TermIs y.0 y.1) xs in
      let both = both_hold (term_scoped sc (term_at (terms_of p) x.0))
      (terms_scoped sc (terms_at (terms_of p) (map (λ (y : ℕ × ℕ). y.0) xs))) scoped in
      let sp = split l p f rest k (task.TermIs x.0 x.1 ∷ []) others s e d ground.here ending in
      let m = sp.middle in
      let one = term_is_done l p f tops vs x.0 rules.0 sc names (others ++ rest) sp.first_steps x.1 s m sp.first_part sp.ending
      ground scope both.0 in
      let ground_m = ground_later p f tops s m names sp.ending.room sp.ending.on ground one.asked.follows in
      let two = parts_done xs rules.1 sc names rest sp.other_steps m e sp.other_part ending ground_m scope both.1 in
      record {
        asked = record {
          gives = two.asked.gives ∙ one.asked.gives;
          follows = follows_on p here s m e one.asked.follows two.asked.follows;
        };
        typed =
            λ agree. (
              f x.1,
              trees_of f (map (λ (y : ℕ × ℕ). y.1) xs),
              refl,
              one.typed (agree_at p f vs here m e two.asked.follows agree),
              two.typed agree,
            );
      }

  module _ (kd : HandlerKind) (types : HandlerTypes) (fn argument value exception : ℕ) (cs : List EffectClause) where
    -- the types of a handler are made one after another
    module _ (at : Place) (rest : List Task) (s : Inference) where
      abbrev b : ℕ
      b = length s.types.nodes

      abbrev x1 : Inference
      x1 = (new_variable (left rest s)).state

      abbrev t : ℕ
      t = length x1.types.nodes

      abbrev x2 : Inference
      x2 = (new_variable x1).state

      abbrev a : ℕ
      a = length x2.types.nodes

      abbrev x3 : Inference
      x3 = (new_variable x2).state

      abbrev x4 : Inference
      x4 = record x3 { types = applied (subject_row kd) (a ∷ b ∷ []) false x3.types }

      abbrev x5 : Inference
      x5 = record x4 { types = applied 15 (b ∷ t ∷ []) false x4.types }

      abbrev x6 : Inference
      x6 = record x5 { types = applied 15 (5 ∷ t ∷ []) false x5.types }

      abbrev handling : Handling
      handling = record { kind = kd; types = types; handled = b; given = t }

      abbrev part_types : List (ℕ × ℕ)
      part_types =
          (fn, length x3.types.nodes) ∷ (argument, argument_of_kind kd a) ∷ (value, length x4.types.nodes)
          ∷ (exception, length x5.types.nodes) ∷ []

      abbrev part_tasks : List Task
      part_tasks = map (λ (x : ℕ × ℕ). task.TermIs x.0 x.1) part_types

      abbrev behind_parts : List Task
      behind_parts = clause_tasks at handling cs ++ (task.Give t ∷ rest)

      parts_made :
          handler_parts handling (fn ∷ argument ∷ value ∷ exception ∷ []) (record x2 { tasks = behind_parts })
          ≡ record x6 { tasks = part_tasks ++ behind_parts }
      parts_made =
          ap (λ (g : Gives). parts_for handling (fn ∷ argument ∷ value ∷ exception ∷ []) a g)
          (subject_made kd a b (record x3 { tasks = behind_parts }))

      handler_made :
          handler_first at cs (fn ∷ argument ∷ value ∷ exception ∷ []) (new_handling kd types (left rest s))
          ≡ record x6 { tasks = part_tasks ++ behind_parts }
      handler_made =
          let ns = fn ∷ argument ∷ value ∷ exception ∷ [] in
          let y1 = first_one (task.Give t) x2 in
          ap (λ (y : Inference). handler_parts handling ns y) (clauses_first at handling cs y1) ∙ parts_made

      handle_step :
          (n : ℕ) → slice_get p.terms n ≡ Some (record { place = at; form = form.Handle kd types fn argument value exception cs })
          → acted (task.Term n) p (left rest s) ≡ record x6 { tasks = part_tasks ++ behind_parts }
      unfolding term_of plain_term data_term handled
      handle_step n is =
          step_of l p f tops vs n (record { place = at; form = form.Handle kd types fn argument value exception cs }) (left rest s)
          is
          ∙ handler_made

      -- and are read as those of its parts
      parts_read :
          Kept s (left rest s) → HasRoom x6.types → x6.end ≡ None → Reads f x6.types
          → HandlerHas (kind_of kd) (trees_of f (map (λ (x : ℕ × ℕ). x.1) part_types)) (f b) (f t)
      parts_read kept room on reads =
          let x0 = left rest s in
          let k1 = variable_made l s x0 kept in
          let h1 = variable_made l x0 x0 (kept_here s x0 kept) in
          let b_1 = variable_is l s x0 in
          let k2 = variable_made l s x1 k1 in
          let h2 = variable_made l x1 x1 (kept_here s x1 k1) in
          let t_2 = variable_is l s x1 in
          let b_2 = has_later x1 x2 b h2 b_1 in
          let k3 = variable_made l s x2 k2 in
          let h3 = variable_made l x2 x2 (kept_here s x2 k2) in
          let a_3 = variable_is l s x2 in
          let b_3 = has_later x2 x3 b h3 b_2 in
          let t_3 = has_later x2 x3 t h3 t_2 in
          let row = subject_row kd in
          let all_4 : HasAll x3 (a ∷ b ∷ []) = λ r. (a_3 r, (b_3 r, tt)) in
          let k4 = inner_made l s x3 row (a ∷ b ∷ []) k3 all_4 in
          let h4 = inner_made l x3 x3 row (a ∷ b ∷ []) (kept_here s x3 k3) all_4 in
          let b_4 = has_later x3 x4 b h4 b_3 in
          let t_4 = has_later x3 x4 t h4 t_3 in
          let all_5 : HasAll x4 (b ∷ t ∷ []) = λ r. (b_4 r, (t_4 r, tt)) in
          let k5 = inner_made l s x4 15 (b ∷ t ∷ []) k4 all_5 in
          let h5 = inner_made l x4 x4 15 (b ∷ t ∷ []) (kept_here s x4 k4) all_5 in
          let t_5 = has_later x4 x5 t h5 t_4 in
          let five = has_built_in s x5 5 k5 (omega arith) in
          let all_6 : HasAll x5 (5 ∷ t ∷ []) = λ r. (five r, (t_5 r, tt)) in
          let h6 = inner_made l x5 x5 15 (5 ∷ t ∷ []) (kept_here s x5 k5) all_6 in
          let room_5 = room_before x5 x6 h6 room in
          let reads_5 = h6.reads room on f reads in
          let room_4 = room_before x4 x5 h5 room_5 in
          let reads_4 = h5.reads room_5 on f reads_5 in
          let room_3 = room_before x3 x4 h4 room_4 in
          let subject_is : f (length x3.types.nodes) ≡ Constructed row (two_tys (f a) (f b)) =
          type_is_read l s x3 k3 row (a ∷ b ∷ []) false f room_3 reads_4 in
          let value_is : f (length x4.types.nodes) ≡ function (f b) (f t) = type_is_read l s x4 k4 15 (b ∷ t ∷ []) false f room_4
          reads_5 in
          let exception_is : f (length x5.types.nodes) ≡ function (f 5) (f t) = type_is_read l s x5 k5 15 (5 ∷ t ∷ []) false f
          room_5 reads in
          handler_has f built kd a b t (length x3.types.nodes) (length x4.types.nodes) (length x5.types.nodes) subject_is value_is
          exception_is

    -- a handler with its clauses
    pub handle_ruled :
        (n : ℕ) (at : Place) → slice_get p.terms n ≡ Some
        (record { place = at; form = form.Handle kd types fn argument value exception cs })
        → AllByRecursion (λ m. TermIsRuled p f tops vs m) (fn ∷ argument ∷ value ∷ exception ∷ [])
        → IfKnown (λ m. m < length p.types) types.effect
        → AllByRecursion (λ c. EffectClauseIsRuled l p arena f built tops (handler_clause c)) cs
        → FormIsRuled l p f tops vs n (record { place = at; form = form.Handle kd types fn argument value exception cs })
        (Handle (kind_of kd) (handler_types (types_of p) types) (terms_at (terms_of p) (fn ∷ argument ∷ value ∷ exception ∷ []))
        (effect_clauses_tree (types_of p) (patterns_of p) (terms_of p) cs))
    handle_ruled n at is rules low clause_rules sc names rest k s e d ending ground scope scoped =
        let here = scope_of tops names in
        let h = handling at rest s in
        let s1 : Inference = record (x6 at rest s) { tasks = part_tasks at rest s ++ behind_parts at rest s } in
        let clauses = clause_tasks at h cs in
        let last = task.Give (t at rest s) ∷ [] in
        let pushed : s1.tasks ≡ (part_tasks at rest s ++ (clauses ++ last)) ++ rest =
        sym (ap (λ (ts : List Task). part_tasks at rest s ++ ts) (append_assoc clauses last rest)) in
        let op = opened l p rest (part_tasks at rest s ++ (clauses ++ last)) k (task.Term n) s s1 e d ground.here
        (handle_step at rest s n is)
        pushed in
        let begun = follows_same l p here s s1 op.kept refl refl refl (λ z is. refl) in
        let q1 = split l p f rest op.steps (part_tasks at rest s) (clauses ++ last) s1 e op.others (kept_here s s1 op.kept)
        ending in
        let m1 = q1.middle in
        let q2 = split l p f rest q1.other_steps clauses last m1 e q1.other_part q1.here ending in
        let m2 = q2.middle in
        let ending_1 = ending_before l p f tops vs s1 m1 q1.before q1.ending in
        let ground_1 = ground_later p f tops s s1 names ending_1.room ending_1.on ground begun in
        let tree = terms_at (terms_of p) (fn ∷ argument ∷ value ∷ exception ∷ []) in
        let clause_tree = effect_clauses_tree (types_of p) (patterns_of p) (terms_of p) cs in
        let written = annotation_known sc (handler_types (types_of p) types).effect in
        let scopes = both_hold (written && terms_scoped sc tree) (effect_clauses_scoped sc clause_tree) scoped in
        let parts_in = (both_hold written (terms_scoped sc tree) scopes.0).1 in
        let parts = parts_done (part_types at rest s) (rules.0, (rules.1.0, (rules.1.1.0, (rules.1.1.1.0, tt)))) sc names
        ((clauses ++ last) ++ rest) q1.first_steps s1 m1 q1.first_part q1.ending ground_1 scope parts_in in
        let ground_2 = ground_later p f tops s1 m1 names q1.ending.room q1.ending.on ground_1 parts.asked.follows in
        let all = all_done l p arena f built tops vs effects h low at cs clause_rules sc names (last ++ rest) q2.first_steps m1 m2
        q2.first_part q2.ending ground_2 scope scopes.1 in
        let give = give_done l p here rest q2.other_steps (t at rest s) m2 e q2.other_part q2.here in
        let beyond = follows_on p here m1 m2 e all.follows give.follows in
        record {
          value = t at rest s;
          gives = give.gives ∙ ap (λ (gs : List ℕ). t at rest s ∷ gs) (all.gives ∙ parts.asked.gives);
          there = give.there;
          follows = follows_on p here s m1 e (follows_on p here s s1 m1 begun parts.asked.follows) beyond;
          typed =
              λ agree.
              let agree_2 = agree_at p f vs here m2 e give.follows agree in (
                f (b at rest s),
                trees_of f (map (λ (x : ℕ × ℕ). x.1) (part_types at rest s)),
                parts.typed (agree_at p f vs here m1 e beyond agree),
                parts_read at rest s (task_left l p rest k (task.Term n) s e d ground.here).0 ending_1.room ending_1.on
                    ending_1.reads,
                all.parameter agree_2,
                all.typed agree_2,
              );
        }

  -- what is needed of a handler's type and of its clauses, if all terms below it and all patterns are shown
  type_low : (n : ℕ) (w : Option ℕ) → AllMet (terms_below (counts p) n) (if_any AType w) → IfKnown (λ m. m < length p.types) w
  type_low n None met = tt
  type_low n (Some w) met = met.0

  constructor_low : (n : ℕ) (con : Constructor) → Met (terms_below (counts p) n) (constructor_need con)
      → Met (counts p) (constructor_need con)
  constructor_low n (constructor.Variant m) met = met
  constructor_low n (constructor.Exception m) met = met
  constructor_low n (constructor.Effect m) met = met

  argument_ruled :
      (n : ℕ) → ((q : ℕ) → q < length p.patterns → PatternIsRuled p f tops q) → (q : Option ℕ)
      → AllMet (terms_below (counts p) n) (if_any APattern q) → ArgumentIsRuled l p arena f built tops q
  argument_ruled n patterns None met = tt
  argument_ruled n patterns (Some q) met = patterns q met.0

  pub effect_clauses_ruled :
      (n : ℕ) → ((ws : ℕ → Ty) (m : ℕ) → m < n → TermIsRuled p f tops ws m)
      → ((q : ℕ) → q < length p.patterns → PatternIsRuled p f tops q) → (cs : List EffectClause)
      → AllMet (terms_below (counts p) n) (flat_map effect_clause_needs cs)
      → AllByRecursion (λ c. EffectClauseIsRuled l p arena f built tops (handler_clause c)) cs
  effect_clauses_ruled n terms patterns [] met = tt
  effect_clauses_ruled n terms patterns (c ∷ cs) met =
      let below = terms_below (counts p) n in
      let parts = met_parts below (effect_clause_needs c) (flat_map effect_clause_needs cs) met in
      let others = met_parts below (if_any APattern c.argument) (if_any AType c.annotation) parts.0.1.1 in (
        (
          argument_ruled n patterns c.argument others.0,
          λ ws. terms ws c.body parts.0.1.0,
          type_low n c.annotation others.1,
          constructor_low n c.effect parts.0.0,
        ),
        effect_clauses_ruled n terms patterns cs parts.1,
      )

  -- the type that is written for a handler's parameter, and the clauses
  pub handler_needs :
      (n : ℕ) → ((ws : ℕ → Ty) (m : ℕ) → m < n → TermIsRuled p f tops ws m)
      → ((q : ℕ) → q < length p.patterns → PatternIsRuled p f tops q) → (types : HandlerTypes) (cs : List EffectClause)
      → AllMet (terms_below (counts p) n) (if_any AType types.effect ++ flat_map effect_clause_needs cs)
      → IfKnown (λ m. m < length p.types) types.effect
      × AllByRecursion (λ c. EffectClauseIsRuled l p arena f built tops (handler_clause c)) cs
  handler_needs n terms patterns types cs met =
      let parts = met_parts (terms_below (counts p) n) (if_any AType types.effect) (flat_map effect_clause_needs cs) met in
      (type_low n types.effect parts.0, effect_clauses_ruled n terms patterns cs parts.1)
