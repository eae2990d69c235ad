-- The walk over the clauses of a handler gives what the rules of handlers say.
use Rattle.std.proofs.Common.{◌≡◌, ℕ, ◌<◌, List, [], ◌∷◌, ◌++◌, length, Option, Some, None, false, ◌==◌, refl, sym, ◌∙◌, ap, subst, append_assoc, arith}
use Rattle.std.specs.Prelude.{IsTrue, option_map}
use Rattle.std.specs.List.{AllByRecursion, list_all}
use Rattle.std.proofs.lemmas.List.Folds.{list_any-append}
use Rattle.fx_base.specs.declared.refusal.Place.{Place}
use Rattle.effect_meaning.specs.declared.core_nodes.Constructor.TheVariants as constructor
use Rattle.effect_meaning.specs.declared.core_nodes.HandlerKind.{HandlerKind}
use Rattle.effect_meaning.specs.declared.core_nodes.HandlerKind.TheVariants as kind
use Rattle.effect_meaning.specs.Arena.{Parts, IsArena, Met, constructor_need, counts}
use Rattle.effect_meaning.specs.ArenaTrees.{constructor_of, handler_types, kind_of, pattern_at, patterns_of, program, term_at, terms_of, type_at, types_of}
use Rattle.effect_meaning.specs.Scoped.{Scope, are_new, argument_known, argument_names, differ, holds, is_new, pattern_known, sides_agree, term_scoped, with_names}
use Rattle.effect_meaning.specs.Terms.{Effect, HandlerTypes as HandlerTypesOf, Pattern, Written}
use Rattle.type_graph.specs.Graph.{applied, built_in}
use Rattle.type_terms.specs.TypeTrees.{Ty, Constructed, effect, two_tys}
use Rattle.type_terms.specs.WrittenTypes.{IfWritten}
use Rattle.type_terms.specs.Constructors.{Constructs}
use Rattle.type_terms.specs.Contexts.{Names}
use Rattle.type_terms.specs.HandlerRules.{ClauseBegins, clause_context, continuation}
use Rattle.type_terms.specs.PatternTypes.{ArgumentPatternHas}
use Rattle.type_terms.specs.Typing.{HasType}
use Rattle.type_readings.specs.Readings.{Reads}
use Rattle.ml_infer.specs.declared.inference.End.{End}
use Rattle.ml_infer.specs.declared.inference.Inference.{Inference}
use Rattle.ml_infer.specs.declared.inference.NameType.{NameType}
use Rattle.ml_infer.specs.declared.inference.NameType.TheVariants.{One}
use Rattle.ml_infer.specs.declared.tasks.Handling.{Handling}
use Rattle.ml_infer.specs.declared.tasks.HandlerClause.{HandlerClause}
use Rattle.ml_infer.specs.declared.tasks.Task.{Task}
use Rattle.ml_infer.specs.declared.tasks.Task.TheVariants as task
use Rattle.ml_infer.specs.Constructors.{answer_of, constructed}
use Rattle.ml_infer.specs.Handlers.{applied_two, clause_argument, continuation_of_kind, parameter_entered, variable_entered}
use Rattle.ml_infer.specs.Inference.{Gives, ended_first, of_one_type}
use Rattle.ml_infer.specs.Known.{known}
use Rattle.ml_infer.specs.Tasks.{first, first_one}
use Rattle.ml_infer.specs.Walk.{acted, acted_in_group, acted_on_data}
use Rattle.ml_infer.specs.Written.{annotated_if}
use Rattle.inference_laws.specs.Whole.{HasRoom, IfKnown}
use Rattle.inference_laws.specs.Meanings.{LeadsTo, ReadsAreMeant, SameRest, VariablesAgree}
use Rattle.inference_laws.proofs.Each.{each_so}
use Rattle.inference_laws.proofs.Kept.{Kept, Has, HasAll, has_later, kept_here, kept_on, room_before}
use Rattle.inference_laws.proofs.Fields.{first_one_kept, name_kept}
use Rattle.inference_laws.proofs.GraphLaws.{GraphLaws}
use Rattle.inference_laws.proofs.Steps.{inner_made, type_is}
use Rattle.inference_laws.proofs.Written.{annotated_kept}
use Rattle.inference_laws.proofs.Constructors.{HasIf, answer_made, constructed_made, has_if_later}
use Rattle.inference_laws.proofs.Patterns.{whole_pattern_kept}
use Rattle.inference_laws.proofs.Noting.{noted_other, noted_same}
use Rattle.inference_laws.proofs.Leading.{same_rest_here, same_rest_on, type_is_read}
use Rattle.inference_laws.proofs.WrittenMeant.{annotated_leads, annotated_meant}
use Rattle.inference_laws.proofs.Runs.{left, Does}
use Rattle.inference_laws.proofs.Grounds.{Tops, standing, names_of, scope_of, HasScope, Ground, Ending, Follows, NameAgrees, IsBound}
use Rattle.inference_laws.proofs.Booleans.{both_hold}
use Rattle.inference_laws.proofs.Following.{agree_at, follows_leads, follows_on, follows_within, ground_later, ground_with}
use Rattle.inference_laws.proofs.Doing.{does_kept}
use Rattle.inference_laws.proofs.TasksDone.{task_left}
use Rattle.inference_laws.proofs.TermsDone.{PatternIsRuled, TermIsRuled, ending_before, term_is_done}
use Rattle.inference_laws.proofs.Opening.{apart_from, either_false, keys_with, follows_here, follows_same, ground_with_names, none_held, opened, scope_with_names, split, within_names}
use Rattle.inference_laws.proofs.ClausesDone.{as_known, known_agree}
use Rattle.inference_laws.proofs.HandlerVariables.{FollowsBut, OthersAgree, StandsFor, again_done, answer_agrees, but_follows, but_on, entered_follows, entered_kept, entered_stands, follows_again, ground_but, leaves_first, others_before, parameter_kept, parameter_leads, parameter_meant, stands_later, was_kept, was_tasks, with_answer}

-- what an effect's perform gives, behind a use of its constructor
abbrev pub answer_at : Parts → Place → ℕ → Inference → Gives
answer_at p at n s = let made = constructed p (constructor.Effect n) at s in answer_of made.value.value made.state

-- what is needed of the constructors of effects
pub record EffectLaws (p : Parts) : Type 0 where
  pub leads : (s0 s : Inference) → Kept s0 s → (at : Place) (n : ℕ) → LeadsTo p s (answer_at p at n s).state
  pub answers :
      (s0 s : Inference) → Kept s0 s → (at : Place) (n : ℕ) → n < length p.effect_rows → HasRoom (answer_at p at n s).state.types
      → (answer_at p at n s).state.end ≡ None → ReadsAreMeant p s → (f : ℕ → Ty) → Reads f built_in
      → Reads f (answer_at p at n s).state.types
      → Constructs (program p) (Effect n) (option_map f (constructed p (constructor.Effect n) at s).value.argument)
      (effect (f (answer_at p at n s).found))

-- the type of a continuation, by its parts
abbrev continuation_row : HandlerKind → ℕ
continuation_row kind.Deep = 11
continuation_row _ = 12

abbrev continuation_gives : HandlerKind → (b t : ℕ) → ℕ
continuation_gives kind.Deep b t = t
continuation_gives _ b t = b

continuation_made :
    (k : HandlerKind) (r b t : ℕ) (s : Inference)
    → continuation_of_kind k r b t s ≡ applied_two (continuation_row k) r (continuation_gives k b t) s
continuation_made kind.Deep r b t s = refl
continuation_made kind.ShallowContinue r b t s = refl
continuation_made kind.ShallowDiscontinue r b t s = refl

continuation_is :
    (f : ℕ → Ty) (k : HandlerKind) (r b t : ℕ)
    → Constructed (continuation_row k) (two_tys (f r) (f (continuation_gives k b t))) ≡ continuation (kind_of k) (f r) (f b) (f t)
continuation_is f kind.Deep r b t = refl
continuation_is f kind.ShallowContinue r b t = refl
continuation_is f kind.ShallowDiscontinue r b t = refl

-- a walk that ended goes on no more
pub never : (o : Option End) (e : End) → ended_first o e ≡ None → ⊥
never None e h = absurd (cc)
never (Some old) e h = absurd (cc)

-- the tasks of a clause's pattern
abbrev argument_tasks : (argument type : Option ℕ) → List Task
argument_tasks (Some q) (Some t) = task.PatternIs q t ∷ []
argument_tasks _ _ = []

argument_pushed : (q t : Option ℕ) (at : Place) (s : Inference) → (clause_argument q t at s).tasks ≡ argument_tasks q t ++ s.tasks
argument_pushed (Some q) (Some t) at s = refl
argument_pushed (Some q) None at s = refl
argument_pushed None (Some t) at s = refl
argument_pushed None None at s = refl

-- the rest of a state is as before where a type variable stands for another type
entered_rest : (o : Option ℕ) (x : ℕ) (s : Inference) → SameRest s (variable_entered o x s)
entered_rest None x s = same_rest_here s
entered_rest (Some w) x s = record
    { same_tasks = refl; same_given = refl; same_names = refl; same_item = refl; same_pattern = refl }

module _ (l : GraphLaws) (p : Parts) (arena : IsArena p) (f : ℕ → Ty) (built : Reads f built_in) (tops : Tops) where
  abbrev pub Tree : ℕ → Pattern
  Tree q = pattern_at (patterns_of p) q

  abbrev pub Type_of : Option ℕ → Option Written
  Type_of w = option_map (type_at (types_of p)) w

  -- the pattern of a clause's argument
  abbrev pub ArgumentIsRuled : Option ℕ → Type 0
  ArgumentIsRuled None = Unit {0}
  ArgumentIsRuled (Some q) = PatternIsRuled p f tops q

  abbrev pub Argument : Option ℕ → Option Pattern
  Argument q = option_map Tree q

  record ArgumentNames (names : Names) (ws : ℕ → Ty) (q : Option Pattern) (t : Option Ty) (e : Inference) : Type 0 where
    bound_names : Names
    typed : ArgumentPatternHas (standing p tops names ws) q t bound_names
    bound : AllByRecursion (IsBound f e) bound_names
    keys : (x : ℕ) → holds (names_of bound_names) x ≡ holds (argument_names q) x

  record ArgumentDone (names : Names) (q : Option Pattern) (t : Option Ty) (s e : Inference) : Type 0 where
    gives : e.given ≡ s.given
    follows : Follows p (scope_of tops names) s e
    typed : (ws : ℕ → Ty) → VariablesAgree f ws e → ArgumentNames names ws q t e

  argument_done :
      (q t : Option ℕ) → ArgumentIsRuled q → (sc : Scope) (names : Names) (rest : List Task) (k : ℕ) (at : Place) (s e : Inference)
      → Does p rest k (argument_tasks q t) (clause_argument q t at s) e → Ending f e → Kept s s
      → (HasRoom s.types → s.end ≡ None → ReadsAreMeant p s) → HasIf s t
      → IsTrue (argument_known sc (Argument q))
      → ((x : ℕ) → IsTrue (holds (scope_of tops names) x) → holds (argument_names (Argument q)) x ≡ false)
      → ArgumentDone names (Argument q) (option_map f t) s e
  argument_done (Some q) (Some t) rule sc names rest k at s e d ending kept meant has known_so apart =
      let here = scope_of tops names in
      let s1 : Inference = clause_argument (Some q) (Some t) at s in
      let s1_kept : Kept s s1 = whole_pattern_kept s s q t kept has in
      let first = follows_same l p here s s1 s1_kept refl refl refl (λ x is. refl) in
      let both = both_hold (pattern_known sc (Tree q)) (sides_agree (Tree q)) known_so in
      let all = does_kept l p rest k (task.PatternIs q t ∷ []) s s1 e d s1_kept in
      let meant_1 = meant (room_before s e all ending.room) (all.ended ending.on) in
      let pattern = λ (ws : ℕ → Ty) (agree : VariablesAgree f ws e).
      rule ws names rest k t s1 e d (kept_here s s1 s1_kept) (has_later s s1 t s1_kept has) ending meant_1 agree both.1 in
      let one = pattern (as_known f e) (known_agree f e) in
      let second : Follows p here s1 e = record {
        kept = one.binds.kept;
        item = one.binds.item;
        stay = one.binds.stay;
        meant = one.binds.meant;
        same = λ x is. one.binds.others x (apart x is);
      } in
      record {
        gives = one.gives;
        follows = follows_on p here s s1 e first second;
        typed =
            λ ws agree.
            let found = pattern ws agree in
            record { bound_names = found.names; typed = found.typed; bound = found.bound; keys = found.keys };
      }
  argument_done None None rule sc names rest k at s e d ending kept meant has known_so apart =
      subst (ArgumentDone names None None s) d.1
      (record {
        gives = refl;
        follows = follows_here l p (scope_of tops names) s kept;
        typed = λ ws agree. record { bound_names = []; typed = refl; bound = tt; keys = λ x. refl };
      })
  argument_done None (Some t) rule sc names rest k at s e d ending kept meant has known_so apart =
      absurd (never s.end _ (ap (λ (x : Inference). x.end) d.1 ∙ ending.on))
  argument_done (Some q) None rule sc names rest k at s e d ending kept meant has known_so apart =
      absurd (never s.end _ (ap (λ (x : Inference). x.end) d.1 ∙ ending.on))

  module _ (h : Handling) where
    abbrev Continues : ℕ → Ty
    Continues x = continuation (kind_of h.kind) (f x) (f h.handled) (f h.given)

    -- the continuation and the body of a clause
    record Resumed (ws : ℕ → Ty) (c : HandlerClause) (x : ℕ) (inner : Names) (s e : Inference) : Type 0 where
      gives : e.given ≡ s.given
      follows : Follows p (scope_of tops inner) s e
      typed :
          VariablesAgree f ws e
          → IfWritten (program p).types ws (Type_of c.annotation) (Continues x)
          × HasType (standing p tops ((c.continuation, Continues x) ∷ inner) ws) (term_at (terms_of p) c.body) (f h.given)

    resumed_step :
        (c : HandlerClause) (x : ℕ) (rest : List Task) (s : Inference)
        → acted (task.Resumption h c x) p (left rest s)
        ≡ first_one (task.TermIs c.body h.given)
        (annotated_if p c.place (length s.types.nodes) c.annotation
        (of_one_type c.continuation (length s.types.nodes)
        (record s {
          tasks = rest;
          types = applied (continuation_row h.kind) (x ∷ continuation_gives h.kind h.handled h.given ∷ [])
              false s.types;
        })))
    unfolding acted acted_on_data acted_in_group
    resumed_step c x rest s =
        ap
        (λ (k : Gives).
        first_one (task.TermIs c.body h.given)
        (annotated_if p c.place k.found c.annotation (of_one_type c.continuation k.found k.state)))
        (continuation_made h.kind x h.handled h.given (left rest s))

    second_there : (k : HandlerKind) (b t : ℕ) (s : Inference) → Has s b → Has s t → Has s (continuation_gives k b t)
    second_there kind.Deep b t s has_b has_t = has_t
    second_there kind.ShallowContinue b t s has_b has_t = has_b
    second_there kind.ShallowDiscontinue b t s has_b has_t = has_b

    resumed :
        (ws : ℕ → Ty) (c : HandlerClause) (x : ℕ) → TermIsRuled p f tops ws c.body → IfKnown (λ n. n < length p.types) c.annotation
        → (sc : Scope) (inner : Names) (rest : List Task) (k : ℕ) (s e : Inference) → Does p rest k (task.Resumption h c x ∷ []) s e
        → Ending f e
        → Ground p f tops s inner → ((y : ℕ) → IsTrue (holds (scope_of tops inner) y) → y ≡ c.continuation → ⊥)
        → HasScope sc tops ((c.continuation, Continues x) ∷ inner) → IsTrue (term_scoped sc (term_at (terms_of p) c.body))
        → Resumed ws c x inner s e
    resumed ws c x rule low sc inner rest k s e d ending ground apart scope scoped =
        let here = scope_of tops inner in
        let at = c.place in
        let row = continuation_row h.kind in
        let y = continuation_gives h.kind h.handled h.given in
        let n = length s.types.nodes in
        let last = task.TermIs c.body h.given in
        let both = task_left l p rest k (task.Resumption h c x) s e d ground.here in
        let x0 = left rest s in
        let has_y = second_there h.kind h.handled h.given x0 (λ room. (both.1 room).0.0) (λ room. (both.1 room).0.1) in
        let parts : HasAll x0 (x ∷ y ∷ []) = λ room. ((both.1 room).1, (has_y room, tt)) in
        let u1 : Inference = record s { tasks = rest; types = applied row (x ∷ y ∷ []) false s.types } in
        let u1_kept = inner_made l s x0 row (x ∷ y ∷ []) both.0 parts in
        let u1_here = inner_made l x0 x0 row (x ∷ y ∷ []) (kept_here s x0 both.0) parts in
        let n_is = type_is l s x0 row (x ∷ y ∷ []) false in
        let u2 = of_one_type c.continuation n u1 in
        let u2_kept : Kept s u2 = name_kept s u1 c.continuation (One n s.pattern) u1_kept n_is (omega arith) in
        let u2_here = kept_here s u2 u2_kept in
        let u3 = annotated_if p at n c.annotation u2 in
        let u3_kept = annotated_kept l p at s u2 n c.annotation u2_kept n_is in
        let u3_here = annotated_kept l p at u2 u2 n c.annotation u2_here n_is in
        let u3_leads = annotated_leads l p arena s u2 u2_kept at n n_is c.annotation in
        let u4 = first_one last u3 in
        let given_u1 : Has u1 h.given = has_later x0 u1 h.given u1_here (λ room. (both.1 room).0.1) in
        let given_u3 = has_later u2 u3 h.given u3_here given_u1 in
        let u4_here : Kept u3 u4 = first_one_kept u3 u3 last (kept_here s u3 u3_kept) given_u3 in
        let o = opened l p rest (last ∷ []) k (task.Resumption h c x) s u4 e d ground.here (resumed_step c x rest s)
        (ap (λ (ts : List Task). last ∷ ts) u3_leads.rest.same_tasks) in
        let first = follows_same l p here s u2 u2_kept refl refl refl
        (λ z is. noted_other c.continuation z (One n s.pattern) s.names (apart z is)) in
        let second = follows_leads p here u2 u3 u3_here u3_leads in
        let third = follows_same l p here u3 u4 u4_here refl refl refl (λ z is. refl) in
        let before = follows_on p here s u3 u4 (follows_on p here s u2 u3 first second) third in
        let behind : Kept u4 e = does_kept l p rest o.steps (last ∷ []) u4 u4 e o.others (kept_here s u4 o.kept) in
        let ending_4 = ending_before l p f tops ws u4 e behind ending in
        let u3_reads : Reads f u3.types = ending_4.reads in
        let u3_room : HasRoom u3.types = ending_4.room in
        let u2_room = room_before u2 u3 u3_here u3_room in
        let u2_reads = u3_here.reads u3_room ending_4.on f u3_reads in
        let read : f n ≡ Continues x =
        type_is_read l s x0 both.0 row (x ∷ y ∷ []) false f (room_before x0 u1 u1_here u2_room) u2_reads
        ∙ continuation_is f h.kind x h.handled h.given in
        let ground_4 = ground_later p f tops s u4 inner ending_4.room ending_4.on ground before in
        let is : known u4.names c.continuation ≡ Some (One n s.pattern) =
        ap (λ (xs : List (Option NameType)). known xs c.continuation) u3_leads.rest.same_names
        ∙ noted_same c.continuation (One n s.pattern) s.names in
        let all : Names = (c.continuation, Continues x) ∷ inner in
        let ground_all = ground_with p f tops u4 inner c.continuation n s.pattern (Continues x) ground_4 is read in
        let done = term_is_done l p f tops ws c.body rule sc all rest o.steps h.given u4 e o.others ending ground_all scope
        scoped in
        let after = follows_within p here (scope_of tops all) u4 e (within_names tops ((c.continuation, Continues x) ∷ []) inner)
        done.asked.follows in
        let meant_2 = first.meant u2_room (u3_here.ended ending_4.on) (ground.meant (room_before s u2 u2_kept u2_room)) in
        record {
          gives = done.asked.gives ∙ u3_leads.rest.same_given;
          follows = follows_on p here s u4 e before after;
          typed =
              λ agree.
              let agree_4 : VariablesAgree f ws u3 = agree_at p f ws here u4 e after agree in (
                subst (IfWritten (program p).types ws (Type_of c.annotation)) read
                    (annotated_meant l p arena s u2 u2_kept at n n_is c.annotation low u3_room ending_4.on meant_2 f ws u3_reads
                    agree_4),
                done.typed agree,
              );
        }

  -- what is shown of a clause of a handler
  abbrev pub EffectClauseIsRuled : HandlerClause → Type 0
  EffectClauseIsRuled c =
      ArgumentIsRuled c.argument × ((ws : ℕ → Ty) → TermIsRuled p f tops ws c.body) × IfKnown (λ n. n < length p.types) c.annotation
      × Met (counts p) (constructor_need c.effect)

  module _ (vs : ℕ → Ty) (effects : EffectLaws p) (h : Handling) where
    abbrev pub Types : HandlerTypesOf
    Types = handler_types (types_of p) h.types

    abbrev pub named : Option ℕ
    named = h.types.variable

    -- in a clause the name of a type stands for what its effect gives, and the type that is written for the handler's parameter is so
    pub record TypesEntered (scope : List ℕ) (x : ℕ) (s e : Inference) : Type 0 where
      pub rest : SameRest s e
      pub kept : Kept s e
      pub follows : FollowsBut p named scope s e
      pub stands : StandsFor named x e
      pub parameter :
          HasRoom e.types → e.end ≡ None → ReadsAreMeant p s → Reads f e.types → OthersAgree named f vs e
          → IfWritten (program p).types (with_answer named (f x) vs) (Type_of h.types.effect) (effect (f x))

    pub types_entered_so :
        IfKnown (λ n. n < length p.types) h.types.effect → (scope : List ℕ) (at : Place) (x : ℕ) (s : Inference) → Kept s s
        → Has s x
        → TypesEntered scope x s (parameter_entered h.types.effect p at x (variable_entered named x s))
    types_entered_so low scope at x s kept has =
        let t = variable_entered named x s in
        let e = parameter_entered h.types.effect p at x t in
        let t_kept = entered_kept p named s s x kept has in
        let t_here = kept_here s t t_kept in
        let has_t = has_later s t x t_kept has in
        let e_here = parameter_kept l p arena at t t t_here x has_t h.types.effect in
        let leads = parameter_leads l p arena at t t t_here x has_t h.types.effect in
        let first = entered_follows p named scope s x kept has in
        let second = follows_leads p scope t e e_here leads in
        let stands = stands_later p named scope x t e second (entered_stands p named s x) in
        record {
          rest = same_rest_on s t e (entered_rest named x s) leads.rest;
          kept = kept_on s t e t_kept e_here;
          follows = but_on p named scope s t e first (but_follows p named scope t e second);
          stands = stands;
          parameter =
              λ room on meant reads others.
              parameter_meant l p arena at t t t_here x has_t h.types.effect low room on
              (first.meant (room_before t e e_here room) (e_here.ended on) meant) f (with_answer named (f x) vs) reads
              (answer_agrees f vs named x e others stands);
        }

    -- a clause is done
    pub record EffectClauseDone (names : Names) (c : HandlerClause) (s e : Inference) : Type 0 where
      pub gives : e.given ≡ s.given
      pub follows : Follows p (scope_of tops names) s e
      pub typed :
          VariablesAgree f vs e
          → (r : Ty) × (ns : Names)
          × ClauseBegins (standing p tops names vs) (kind_of h.kind) Types (constructor_of c.effect) (Argument c.argument)
          (Type_of c.annotation) r
          (f h.handled) (f h.given) ns
          × HasType (clause_context (standing p tops names vs) (kind_of h.kind) Types c.continuation r (f h.handled) (f h.given) ns)
          (term_at (terms_of p) c.body) (f h.given)

    clause_step :
        (n : ℕ) (c : HandlerClause) (s : Inference)
        → acted (task.EffectClause h (record c { effect = constructor.Effect n })) p s
        ≡ clause_argument c.argument (constructed p (constructor.Effect n) c.place s).value.argument c.place
        (first_one (task.Resumption h (record c { effect = constructor.Effect n }) (answer_at p c.place n s).found)
        (parameter_entered h.types.effect p c.place (answer_at p c.place n s).found
        (variable_entered named (answer_at p c.place n s).found
        (first (was_tasks named (answer_at p c.place n s).state.variables) (answer_at p c.place n s).state))))
    unfolding acted acted_on_data acted_in_group
    clause_step n c s =
        let a = answer_at p c.place n s in
        ap
        (λ (x : Inference).
        clause_argument c.argument (constructed p (constructor.Effect n) c.place s).value.argument c.place
        (first_one (task.Resumption h (record c { effect = constructor.Effect n }) a.found)
        (parameter_entered h.types.effect p c.place a.found (variable_entered named a.found x))))
        (leaves_first named a.state)

    pub effect_clause_done :
        (n : ℕ) (c0 : HandlerClause) → EffectClauseIsRuled c0 → n < length p.effect_rows
        → IfKnown (λ m. m < length p.types) h.types.effect
        → (sc : Scope) (names : Names) (rest : List Task) (k : ℕ) (s e : Inference)
        → Does p rest k (task.EffectClause h (record c0 { effect = constructor.Effect n }) ∷ []) s e → Ending f e
        → Ground p f tops s names → HasScope sc tops names → IsTrue (argument_known sc (Argument c0.argument))
        → IsTrue (are_new sc (argument_names (Argument c0.argument) ++ c0.continuation ∷ []))
        → IsTrue (term_scoped (with_names (argument_names (Argument c0.argument) ++ c0.continuation ∷ []) sc)
        (term_at (terms_of p) c0.body))
        → EffectClauseDone names (record c0 { effect = constructor.Effect n }) s e
    effect_clause_done n c0 rules low_n low sc names rest k s e d ending ground scope argument new scoped =
        let c : HandlerClause = record c0 { effect = constructor.Effect n } in
        let here = scope_of tops names in
        let at = c0.place in
        let names_bound = argument_names (Argument c0.argument) in
        let inner = with_names (names_bound ++ c0.continuation ∷ []) sc in
        let x0 = left rest s in
        let both = task_left l p rest k (task.EffectClause h c) s e d ground.here in
        let x0_here = kept_here s x0 both.0 in
        let made = constructed p (constructor.Effect n) at x0 in
        let a = answer_at p at n x0 in
        let x = a.found in
        let x1 = a.state in
        let m1 = constructed_made l p at x0 x0 x0_here (constructor.Effect n) in
        let an = answer_made l x0 made.state m1.kept made.value.value in
        let x1_kept = an.0 in
        let made_x1 = (answer_made l made.state made.state (kept_here x0 made.state m1.kept) made.value.value).0 in
        let leads_1 = effects.leads x0 x0 x0_here at n in
        let was = was_tasks named x1.variables in
        let x2 = first was x1 in
        let x2_here = was_kept l p named x1 x1 (kept_here x0 x1 x1_kept) in
        let has_2 = has_later x1 x2 x x2_here an.1 in
        let ent = types_entered_so low here at x x2 (kept_here x1 x2 x2_here) has_2 in
        let x3 = parameter_entered h.types.effect p at x (variable_entered named x x2) in
        let x1_x3 = kept_on x1 x2 x3 x2_here ent.kept in
        let x3_kept = kept_on x0 x1 x3 x1_kept x1_x3 in
        let resume = task.Resumption h c x in
        let y = first_one resume x3 in
        let has_x = has_later x2 x3 x ent.kept has_2 in
        let has_b = has_later x0 x3 h.handled x3_kept (λ room. (both.1 room).0) in
        let has_t = has_later x0 x3 h.given x3_kept (λ room. (both.1 room).1) in
        let y_here : Kept x3 y = first_one_kept x3 x3 resume (kept_here x0 x3 x3_kept)
        (λ room. ((has_b room, has_t room), has_x room)) in
        let q = c0.argument in
        let t = made.value.argument in
        let s1 = clause_argument q t at y in
        let has_arg : HasIf y t = has_if_later made.state y t
        (kept_on made.state x3 y (kept_on made.state x1 x3 made_x1 x1_x3) y_here) m1.argument in
        let below : x3.tasks ≡ was ++ rest = ent.rest.same_tasks ∙ ap (λ (ts : List Task). was ++ ts) leads_1.rest.same_tasks in
        let pushed : s1.tasks ≡ (argument_tasks q t ++ resume ∷ was) ++ rest =
        argument_pushed q t at y ∙ ap (λ (ts : List Task). argument_tasks q t ++ resume ∷ ts) below
        ∙ sym (append_assoc (argument_tasks q t) (resume ∷ was) rest) in
        let o = opened l p rest (argument_tasks q t ++ resume ∷ was) k (task.EffectClause h c) s s1 e d ground.here
        (clause_step n c0 x0) pushed in
        let sp = split l p f rest o.steps (argument_tasks q t) (resume ∷ was) s1 e o.others (kept_here s s1 o.kept) ending in
        let m = sp.middle in
        let sq = split l p f rest sp.other_steps (resume ∷ []) was m e sp.other_part sp.here ending in
        let m2 = sq.middle in
        let again = again_done l p named here x1 rest sq.other_steps m2 e sq.other_part sq.here in
        let f1 = follows_on p here s x0 x1 (follows_same l p here s x0 both.0 refl refl refl (λ z is. refl))
        (follows_leads p here x0 x1 x1_kept leads_1) in
        let f2 = follows_same l p here x1 x2 x2_here refl refl refl (λ z is. refl) in
        let f4 = follows_same l p here x3 y y_here refl refl refl (λ z is. refl) in
        let x1_y = but_on p named here x1 x3 y (but_on p named here x1 x2 x3 (but_follows p named here x1 x2 f2) ent.follows)
        (but_follows p named here x3 y f4) in
        let all_y = but_on p named here s x1 y (but_follows p named here s x1 f1) x1_y in
        let meant_y = λ (room : HasRoom y.types) (on : y.end ≡ None). all_y.meant room on
        (ground.meant (room_before s y all_y.kept room)) in
        let new_parts = both_hold (differ (names_bound ++ c0.continuation ∷ []))
        (list_all (is_new sc) (names_bound ++ c0.continuation ∷ [])) new in
        let apart = λ (z : ℕ) (is : IsTrue (holds here z)).
        either_false (holds names_bound z) (holds (c0.continuation ∷ []) z)
        (sym (list_any-append (λ w. z == w) names_bound (c0.continuation ∷ []))
        ∙ none_held sc (names_bound ++ c0.continuation ∷ []) z new_parts.1 (subst IsTrue (sym (scope z)) is)) in
        let arg = argument_done q t rules.0 sc names ((resume ∷ was) ++ rest) sp.first_steps at y m sp.first_part sp.ending
        (kept_here x3 y y_here) meant_y has_arg
        argument apart in
        let all_m = but_on p named here s y m all_y (but_follows p named here y m arg.follows) in
        let ground_m = ground_but p named f tops s m names sp.ending.room sp.ending.on ground all_m in
        let resume_with = λ (ws : ℕ → Ty) (ns : Names) (bound : AllByRecursion (IsBound f m) ns)
        (keys : (z : ℕ) → holds (names_of ns) z ≡ holds names_bound z).
        resumed h ws c x (rules.1 ws) rules.2 inner (ns ++ names) (was ++ rest) sq.first_steps m m2 sq.first_part sq.ending
        (ground_with_names p f tops m names ns ground_m
        (each_so (IsBound f m) (NameAgrees f m) (λ n h. (h.0, m.pattern, h.1, h.2)) ns bound))
        (apart_from sc tops names ns names_bound c0.continuation new scope keys)
        (scope_with_names sc tops names ((c0.continuation, continuation (kind_of h.kind) (f x) (f h.handled) (f h.given)) ∷ ns)
        (names_bound ++ c0.continuation ∷ [])
        (keys_with ns names_bound c0.continuation (continuation (kind_of h.kind) (f x) (f h.handled) (f h.given)) keys) scope)
        scoped in
        let any = arg.typed (as_known f m) (known_agree f m) in
        let res = resume_with vs any.bound_names any.bound any.keys in
        let after = follows_within p here (scope_of tops (any.bound_names ++ names)) m m2
        (within_names tops any.bound_names names) res.follows in
        let y_m2 = follows_on p here y m m2 arg.follows after in
        let x1_e = but_on p named here x1 m2 e (but_on p named here x1 y m2 x1_y (but_follows p named here y m2 y_m2))
        again.follows in
        record {
          gives = again.gives ∙ res.gives ∙ arg.gives ∙ ent.rest.same_given ∙ leads_1.rest.same_given;
          follows = follows_on p here s x1 e f1 (follows_again p named here x1 e x1_e again.again);
          typed =
              λ agree.
              let ws = with_answer named (f x) vs in
              let others = others_before p named f vs here m2 e again.follows (λ v k other is item. agree v k is item) in
              let toward_2 = follows_on p here x3 y m2 f4 y_m2 in
              let agree_2 = answer_agrees f vs named x m2 others (stands_later p named here x x3 m2 toward_2 ent.stands) in
              let found = arg.typed ws (agree_at p f ws here m m2 after agree_2) in
              let typed = (resume_with ws found.bound_names found.bound found.keys).typed agree_2 in
              let ending_3 = ending_before l p f tops vs x3 m2 toward_2.kept sq.ending in
              let ending_1 = ending_before l p f tops vs x1 x3 x1_x3 ending_3 in
              let ending_2 = ending_before l p f tops vs x2 x3 ent.kept ending_3 in
              let meant_s = ground.meant (room_before s x1 f1.kept ending_1.room) in
              let constructs = effects.answers x0 x0 x0_here at n low_n ending_1.room ending_1.on meant_s f built ending_1.reads in
              let meant_2 = f2.meant ending_2.room ending_2.on (f1.meant ending_1.room ending_1.on meant_s) in
              let parameter = ent.parameter ending_3.room ending_3.on meant_2 ending_3.reads
              (others_before p named f vs here x3 m2 (but_follows p named here x3 m2 toward_2) others) in
              (f x, found.bound_names, (option_map f t, refl, constructs, parameter, found.typed, typed.0), typed.1);
        }
