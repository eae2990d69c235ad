-- The walk over the clauses of a handler gives what the rules of clauses say, whatever their constructors.
use Rattle.std.proofs.Common.{◌≡◌, ℕ, ◌<◌, List, [], ◌∷◌, ◌++◌, length, map, Option, ◌&&◌, refl, ◌∙◌, ap, subst}
use Rattle.std.specs.Prelude.{IsTrue, option_map}
use Rattle.std.specs.List.{AllByRecursion}
use Rattle.fx_base.specs.declared.refusal.Place.{Place}
use Rattle.effect_meaning.specs.declared.core_nodes.Constructor.{Constructor}
use Rattle.effect_meaning.specs.declared.core_nodes.Constructor.TheVariants as constructor
use Rattle.effect_meaning.specs.declared.core_nodes.EffectClause.{EffectClause}
use Rattle.effect_meaning.specs.Arena.{Parts, IsArena}
use Rattle.effect_meaning.specs.ArenaTrees.{constructor_of, effect_clauses_tree, handler_types, kind_of, pattern_at, patterns_of, type_at, term_at, terms_of, types_of}
use Rattle.effect_meaning.specs.Scoped.{Scope, annotation_known, are_new, argument_known, argument_names, constructor_known, effect_clauses_scoped, term_scoped, with_names}
use Rattle.effect_meaning.specs.Terms.{EffectClauses}
use Rattle.type_graph.specs.Graph.{built_in}
use Rattle.type_terms.specs.TypeTrees.{Ty}
use Rattle.type_terms.specs.Contexts.{Names}
use Rattle.type_terms.specs.HandlerRules.{ParameterIs}
use Rattle.type_terms.specs.Typing.{EffectClausesHave}
use Rattle.type_readings.specs.Readings.{Reads}
use Rattle.ml_infer.specs.declared.inference.Inference.{Inference}
use Rattle.ml_infer.specs.declared.tasks.Handling.{Handling}
use Rattle.ml_infer.specs.declared.tasks.HandlerClause.{HandlerClause}
use Rattle.ml_infer.specs.declared.tasks.Task.{Task}
use Rattle.ml_infer.specs.declared.tasks.Task.TheVariants as task
use Rattle.ml_infer.specs.Handlers.{effect_clauses, handler_clause, parameter_entered, variable_entered}
use Rattle.ml_infer.specs.Inference.{new_variable}
use Rattle.ml_infer.specs.Tasks.{first}
use Rattle.ml_infer.specs.Walk.{acted, acted_in_group, acted_on_data}
use Rattle.inference_laws.specs.Whole.{IfKnown}
use Rattle.inference_laws.specs.Meanings.{VariablesAgree}
use Rattle.inference_laws.proofs.Kept.{has_later, kept_here, room_before}
use Rattle.inference_laws.proofs.GraphLaws.{GraphLaws}
use Rattle.inference_laws.proofs.Steps.{variable_is, variable_made}
use Rattle.inference_laws.proofs.Runs.{left, Does}
use Rattle.inference_laws.proofs.Grounds.{Tops, standing, scope_of, HasScope, Ground, Ending, Follows}
use Rattle.inference_laws.proofs.Booleans.{both_hold}
use Rattle.inference_laws.proofs.Following.{agree_at, follows_on, ground_later}
use Rattle.inference_laws.proofs.TasksDone.{once_done, task_left}
use Rattle.inference_laws.proofs.TermsDone.{ending_before}
use Rattle.inference_laws.proofs.Opening.{follows_here, follows_same, opened, split}
use Rattle.inference_laws.proofs.HandlerVariables.{again_done, but_follows, but_on, follows_again, leaves_first, others_before, was_kept, was_tasks}
use Rattle.inference_laws.proofs.HandlerClauses.{EffectClauseDone, EffectClauseIsRuled, EffectLaws, effect_clause_done, never, types_entered_so}

-- the tasks of a handler's clauses
abbrev pub clause_tasks : Place → Handling → List EffectClause → List Task
clause_tasks at h [] = task.NoClause at h ∷ []
clause_tasks at h (c ∷ cs) = map (λ d. task.EffectClause h (handler_clause d)) (c ∷ cs)

pub clauses_first : (at : Place) (h : Handling) (cs : List EffectClause) (s : Inference)
    → effect_clauses at h cs s ≡ first (clause_tasks at h cs) s
clauses_first at h [] s = refl
clauses_first at h (c ∷ cs) s = refl

module _ (l : GraphLaws) (p : Parts) (arena : IsArena p) (f : ℕ → Ty) (built : Reads f built_in) (tops : Tops) (vs : ℕ → Ty)
    (effects : EffectLaws p) where
  module _ (h : Handling) (low : IfKnown (λ n. n < length p.types) h.types.effect) where
    abbrev named : Option ℕ
    named = h.types.variable

    abbrev pub ClauseRule : HandlerClause → Type 0
    ClauseRule c = EffectClauseIsRuled l p arena f built tops c

    -- a clause, whatever its constructor
    clause_of :
        (con : Constructor) (c : HandlerClause) → ClauseRule (record c { effect = con })
        → (sc : Scope) (names : Names) (rest : List Task) (k : ℕ)
        (s e : Inference) → Does p rest k (task.EffectClause h (record c { effect = con }) ∷ []) s e → Ending f e
        → Ground p f tops s names
        → HasScope sc tops names → IsTrue (argument_known sc (option_map (λ q. pattern_at (patterns_of p) q) c.argument))
        → IsTrue (are_new sc (argument_names (option_map (λ q. pattern_at (patterns_of p) q) c.argument) ++ c.continuation ∷ []))
        → IsTrue (term_scoped
        (with_names (argument_names (option_map (λ q. pattern_at (patterns_of p) q) c.argument) ++ c.continuation ∷ []) sc)
        (term_at (terms_of p) c.body))
        → EffectClauseDone l p arena f built tops vs effects h names (record c { effect = con }) s e
    unfolding acted acted_on_data acted_in_group
    clause_of (constructor.Effect n) c rules sc names rest k s e d ending ground scope argument new scoped =
        effect_clause_done l p arena f built tops vs effects h n (record c { effect = constructor.Effect n }) rules rules.3 low sc
        names rest k s e d
        ending ground scope argument new scoped
    clause_of (constructor.Variant n) c rules sc names rest k s e d ending ground scope argument new scoped =
        let once = once_done l p rest k (task.EffectClause h (record c { effect = constructor.Variant n })) s e d refl
        ground.here in
        absurd (never s.end _ (ap (λ (x : Inference). x.end) once.is ∙ ending.on))
    clause_of (constructor.Exception n) c rules sc names rest k s e d ending ground scope argument new scoped =
        let once = once_done l p rest k (task.EffectClause h (record c { effect = constructor.Exception n })) s e d refl
        ground.here in
        absurd (never s.end _ (ap (λ (x : Inference). x.end) once.is ∙ ending.on))

    abbrev TreeOf : List EffectClause → EffectClauses
    TreeOf cs = effect_clauses_tree (types_of p) (patterns_of p) (terms_of p) cs

    -- clauses are done
    record ClausesDone (names : Names) (cs : List EffectClause) (s e : Inference) : Type 0 where
      gives : e.given ≡ s.given
      follows : Follows p (scope_of tops names) s e
      typed :
          VariablesAgree f vs e
          → EffectClausesHave (standing p tops names vs) (kind_of h.kind) (handler_types (types_of p) h.types) (TreeOf cs)
          (f h.handled) (f h.given)

    clauses_done :
        (cs : List EffectClause) → AllByRecursion (λ c. ClauseRule (handler_clause c)) cs
        → (sc : Scope) (names : Names) (rest : List Task) (k : ℕ)
        (s e : Inference) → Does p rest k (map (λ d. task.EffectClause h (handler_clause d)) cs) s e → Ending f e
        → Ground p f tops s names
        → HasScope sc tops names → IsTrue (effect_clauses_scoped sc (TreeOf cs)) → ClausesDone names cs s e
    clauses_done [] rules sc names rest k s e d ending ground scope scoped =
        subst (ClausesDone names [] s) d.1
        (record {
          gives = refl;
          follows = follows_here l p (scope_of tops names) s ground.here;
          typed = λ agree. tt;
        })
    clauses_done (c ∷ cs) rules sc names rest k s e d ending ground scope scoped =
        let here = scope_of tops names in
        let q = option_map (λ q. pattern_at (patterns_of p) q) c.argument in
        let w = option_map (λ w. type_at (types_of p) w) c.annotation in
        let bound = argument_names q ++ c.continuation ∷ [] in
        let one = constructor_known sc (constructor_of c.effect) in
        let two = argument_known sc q in
        let three = annotation_known sc w in
        let four = are_new sc bound in
        let five = term_scoped (with_names bound sc) (term_at (terms_of p) c.body) in
        let parts = both_hold (one && two && three && four && five) (effect_clauses_scoped sc (TreeOf cs)) scoped in
        let until_4 = both_hold (one && two && three && four) five parts.0 in
        let until_3 = both_hold (one && two && three) four until_4.0 in
        let until_2 = both_hold (one && two) three until_3.0 in
        let known_so = (both_hold one two until_2.0).1 in
        let others = map (λ (d : EffectClause). task.EffectClause h (handler_clause d)) cs in
        let sp = split l p f rest k (task.EffectClause h (handler_clause c) ∷ []) others s e d ground.here ending in
        let m = sp.middle in
        let first_done = clause_of c.effect (handler_clause c) rules.0 sc names (others ++ rest) sp.first_steps s m sp.first_part
        sp.ending ground scope
        known_so until_3.1 until_4.1 in
        let ground_m = ground_later p f tops s m names sp.ending.room sp.ending.on ground first_done.follows in
        let more = clauses_done cs rules.1 sc names rest sp.other_steps m e sp.other_part ending ground_m scope parts.1 in
        record {
          gives = more.gives ∙ first_done.gives;
          follows = follows_on p here s m e first_done.follows more.follows;
          typed =
              λ agree.
              let typed = first_done.typed (agree_at p f vs here m e more.follows agree) in
              (typed.0, typed.1, typed.2, typed.3, more.typed agree);
        }

    -- all clauses of a handler, or that it has none
    pub record AllDone (names : Names) (cs : List EffectClause) (s e : Inference) : Type 0 where
      pub gives : e.given ≡ s.given
      pub follows : Follows p (scope_of tops names) s e
      pub parameter : VariablesAgree f vs e → (r : Ty)
          × ParameterIs (standing p tops names vs) (handler_types (types_of p) h.types) r
      pub typed :
          VariablesAgree f vs e
          → EffectClausesHave (standing p tops names vs) (kind_of h.kind) (handler_types (types_of p) h.types) (TreeOf cs)
          (f h.handled) (f h.given)

    no_clause_step :
        (at : Place) (rest : List Task) (s : Inference)
        → acted (task.NoClause at h) p (left rest s)
        ≡ parameter_entered h.types.effect p at (length s.types.nodes)
        (variable_entered named (length s.types.nodes) (first (was_tasks named s.variables) (new_variable (left rest s)).state))
    unfolding acted acted_on_data acted_in_group
    no_clause_step at rest s =
        let n = length s.types.nodes in
        ap (λ (x : Inference). parameter_entered h.types.effect p at n (variable_entered named n x))
        (leaves_first named (new_variable (left rest s)).state)

    pub all_done :
        (at : Place) (cs : List EffectClause) → AllByRecursion (λ c. ClauseRule (handler_clause c)) cs
        → (sc : Scope) (names : Names)
        (rest : List Task) (k : ℕ) (s e : Inference) → Does p rest k (clause_tasks at h cs) s e → Ending f e
        → Ground p f tops s names
        → HasScope sc tops names → IsTrue (effect_clauses_scoped sc (TreeOf cs)) → AllDone names cs s e
    all_done at [] rules sc names rest k s e d ending ground scope scoped =
        let here = scope_of tops names in
        let x0 = left rest s in
        let both = task_left l p rest k (task.NoClause at h) s e d ground.here in
        let n = length s.types.nodes in
        let x1 = (new_variable x0).state in
        let x1_kept = variable_made l s x0 both.0 in
        let n_is = variable_is l s x0 in
        let was = was_tasks named s.variables in
        let x2 = first was x1 in
        let x2_kept = was_kept l p named x1 x1 (kept_here s x1 x1_kept) in
        let n_there = has_later x1 x2 n x2_kept n_is in
        let ent = types_entered_so l p arena f built tops vs effects h low here at n x2 (kept_here x1 x2 x2_kept) n_there in
        let x3 = parameter_entered h.types.effect p at n (variable_entered named n x2) in
        let o = opened l p rest was k (task.NoClause at h) s x3 e d ground.here (no_clause_step at rest s) ent.rest.same_tasks in
        let again = again_done l p named here x1 rest o.steps x3 e o.others (kept_here s x3 o.kept) in
        let f1 = follows_same l p here s x1 x1_kept refl refl refl (λ z is. refl) in
        let f2 = but_follows p named here x1 x2 (follows_same l p here x1 x2 x2_kept refl refl refl (λ z is. refl)) in
        let within = but_on p named here x1 x3 e (but_on p named here x1 x2 x3 f2 ent.follows) again.follows in
        let ending_3 = ending_before l p f tops vs x3 e again.follows.kept ending in
        let ending_2 = ending_before l p f tops vs x2 x3 ent.kept ending_3 in
        let meant = f1.meant ending_2.room ending_2.on (ground.meant (room_before s x1 x1_kept ending_2.room)) in
        record {
          gives = again.gives ∙ ent.rest.same_given;
          follows = follows_on p here s x1 e f1 (follows_again p named here x1 e within again.again);
          parameter =
              λ agree.
              let others = others_before p named f vs here x3 e again.follows (λ v k other is item. agree v k is item) in
              (f n, ent.parameter ending_3.room ending_3.on meant ending_3.reads others);
          typed = λ agree. tt;
        }
    all_done at (c ∷ cs) rules sc names rest k s e d ending ground scope scoped =
        let done = clauses_done (c ∷ cs) rules sc names rest k s e d ending ground scope scoped in
        record {
          gives = done.gives;
          follows = done.follows;
          parameter = λ agree. let typed = done.typed agree in (typed.0, typed.2.3);
          typed = done.typed;
        }
