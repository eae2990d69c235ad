-- The walk over clauses gives what the rules of clauses say: patterns, guards and bodies, and the terms that have them.
use Rattle.std.proofs.Common.{◌≡◌, ℕ, ◌+◌, ◌<◌, List, [], ◌∷◌, ◌++◌, length, map, Option, Some, None, Bool, true, false, ◌&&◌, refl, sym, ◌∙◌, ap, subst, append_assoc, flat_map, slice_get}
use Rattle.std.specs.Prelude.{IsTrue}
use Rattle.std.specs.List.{AllByRecursion, list_all}
use Rattle.fx_base.specs.declared.refusal.Place.{Place}
use Rattle.effect_meaning.specs.declared.core_nodes.Clause.{Clause}
use Rattle.effect_meaning.specs.declared.core_nodes.TermForm.TheVariants as form
use Rattle.effect_meaning.specs.declared.core_nodes.TermNode.{TermNode}
use Rattle.effect_meaning.specs.Arena.{Parts, ATerm, AllMet, clause_needs, counts, if_any, terms_below}
use Rattle.effect_meaning.specs.ArenaTrees.{clauses_tree, guard_tree, pattern_at, patterns_of, place_of, term_at, terms_of}
use Rattle.effect_meaning.specs.Scoped.{Scope, are_new, clauses_scoped, differ, guard_scoped, holds, is_new, names_in, pattern_known, pattern_scoped, sides_agree, term_scoped, with_names}
use Rattle.effect_meaning.specs.Terms.{Catch, Clauses, Guard, Match, Pattern}
use Rattle.type_graph.specs.Graph.{built_in, variable_added}
use Rattle.type_terms.specs.TypeTrees.{Ty, exn, unit}
use Rattle.type_terms.specs.Contexts.{Names}
use Rattle.type_terms.specs.PatternTypes.{PatternHas}
use Rattle.type_terms.specs.Typing.{ClausesHave, GuardHas, HasType}
use Rattle.type_readings.specs.Readings.{Reads}
use Rattle.ml_infer.specs.declared.inference.Inference.{Inference}
use Rattle.ml_infer.specs.declared.inference.KnownVariable.{KnownVariable}
use Rattle.ml_infer.specs.declared.tasks.Task.{Task}
use Rattle.ml_infer.specs.declared.tasks.Task.TheVariants as task
use Rattle.ml_infer.specs.Inference.{Gives, taken}
use Rattle.ml_infer.specs.Known.{known}
use Rattle.ml_infer.specs.Patterns.{clause_task, clauses_in, clauses_of}
use Rattle.ml_infer.specs.Terms.{plain_term, term_of}
use Rattle.ml_infer.specs.Walk.{acted, acted_in_group, acted_on_data}
use Rattle.inference_laws.specs.Meanings.{VariablesAgree}
use Rattle.inference_laws.proofs.Each.{each_so}
use Rattle.inference_laws.proofs.Kept.{Has, has_later, kept_here}
use Rattle.inference_laws.proofs.GraphLaws.{GraphLaws}
use Rattle.inference_laws.proofs.Runs.{left, Does}
use Rattle.inference_laws.proofs.Grounds.{Tops, standing, names_of, scope_of, HasScope, Ground, Ending, Follows, Asked, NameAgrees, IsBound}
use Rattle.inference_laws.proofs.Booleans.{both_hold}
use Rattle.inference_laws.proofs.Following.{agree_at, follows_on, follows_within, ground_later}
use Rattle.inference_laws.proofs.Steady.{taken_is}
use Rattle.inference_laws.proofs.Doing.{does_kept}
use Rattle.inference_laws.proofs.TasksDone.{give_done}
use Rattle.inference_laws.proofs.TermsDone.{FormIsRuled, PatternIsRuled, TermIsRuled, ending_before, step_of, term_is_done}
use Rattle.inference_laws.proofs.Opening.{follows_here, follows_same, ground_with_names, met_parts, none_held, opened, scope_with_names, split, within_names}

-- type variables as they are known
abbrev known_as : (ℕ → Ty) → Option KnownVariable → Ty
known_as f None = unit
known_as f (Some k) = f k.found

abbrev pub as_known : (ℕ → Ty) → Inference → ℕ → Ty
as_known f s v = known_as f (known s.variables v)

pub known_agree : (f : ℕ → Ty) (s : Inference) → VariablesAgree f (as_known f s) s
known_agree f s v k is item = ap (known_as f) is

-- the tasks of a guard
abbrev guard_tasks : Option ℕ → List Task
guard_tasks None = []
guard_tasks (Some g) = task.TermIs g 1 ∷ []

module _ (l : GraphLaws) (p : Parts) (f : ℕ → Ty) (built : Reads f built_in) (tops : Tops) (vs : ℕ → Ty) where
  abbrev GuardIsRuled : Option ℕ → Type 0
  GuardIsRuled None = Unit {0}
  GuardIsRuled (Some g) = TermIsRuled p f tops vs g

  -- the parts of a clause are shown
  abbrev pub ClauseIsRuled : Clause → Type 0
  ClauseIsRuled c = PatternIsRuled p f tops c.pattern × GuardIsRuled c.guard × TermIsRuled p f tops vs c.body

  -- so are those of a term, if all terms below it and all patterns are
  pub clauses_ruled :
      (n : ℕ) → ((m : ℕ) → m < n → TermIsRuled p f tops vs m) → ((q : ℕ) → q < length p.patterns → PatternIsRuled p f tops q)
      → (cs : List Clause) → AllMet (terms_below (counts p) n) (flat_map clause_needs cs) → AllByRecursion ClauseIsRuled cs
  clauses_ruled n terms patterns [] met = tt
  clauses_ruled n terms patterns (c ∷ cs) met =
      let parts = met_parts (terms_below (counts p) n) (clause_needs c) (flat_map clause_needs cs) met in
      let first = parts.0 in
      ((patterns c.pattern first.0, guard_so c.guard first.1.1, terms c.body first.1.0), clauses_ruled n terms patterns cs parts.1)
    where
      guard_so : (g : Option ℕ) → AllMet (terms_below (counts p) n) (if_any ATerm g) → GuardIsRuled g
      guard_so None met = tt
      guard_so (Some g) met = terms g met.0

  abbrev Tree : ℕ → Pattern
  Tree q = pattern_at (patterns_of p) q

  -- a guard is a test
  record GuardDone (names : Names) (a : Guard) (s e : Inference) : Type 0 where
    asked : Asked p tops names s e
    typed : VariablesAgree f vs e → GuardHas (standing p tops names vs) a

  guard_done :
      (guard : Option ℕ) → GuardIsRuled guard → (sc : Scope) (names : Names) (rest : List Task) (k : ℕ) (s e : Inference)
      → Does p rest k (guard_tasks guard) s e → Ending f e → Ground p f tops s names → HasScope sc tops names
      → IsTrue (guard_scoped sc (guard_tree (terms_of p) guard)) → GuardDone names (guard_tree (terms_of p) guard) s e
  guard_done None rule sc names rest k s e d ending ground scope scoped =
      record {
        asked =
            subst (Asked p tops names s) d.1
            (record { gives = refl; follows = follows_here l p (scope_of tops names) s ground.here });
        typed = λ agree. tt;
      }
  guard_done (Some g) rule sc names rest k s e d ending ground scope scoped =
      let done = term_is_done l p f tops vs g rule sc names rest k 1 s e d ending ground scope scoped in
      record {
        asked = done.asked;
        typed =
            λ agree. subst (HasType (standing p tops names vs) (term_at (terms_of p) g)) (built 1) (done.typed agree);
      }

  -- a guard and a body are done in the scope of a pattern's names
  record BodyDone (names ns : Names) (a : Guard) (body t : ℕ) (s e : Inference) : Type 0 where
    asked : Asked p tops names s e
    typed :
        VariablesAgree f vs e
        → GuardHas (standing p tops (ns ++ names) vs) a
        × HasType (standing p tops (ns ++ names) vs) (term_at (terms_of p) body) (f t)

  body_done :
      (guard : Option ℕ) (body t : ℕ) → GuardIsRuled guard → TermIsRuled p f tops vs body
      → (sc : Scope) (names ns : Names) (rest : List Task)
      (k : ℕ) (s e : Inference) → Does p rest k (guard_tasks guard ++ task.TermIs body t ∷ []) s e → Ending f e
      → Ground p f tops s (ns ++ names) → HasScope sc tops (ns ++ names) → IsTrue (guard_scoped sc (guard_tree (terms_of p) guard))
      → IsTrue (term_scoped sc (term_at (terms_of p) body)) → BodyDone names ns (guard_tree (terms_of p) guard) body t s e
  body_done guard body t rule_guard rule_body sc names ns rest k s e d ending ground scope guards bodies =
      let all = ns ++ names in
      let q = split l p f rest k (guard_tasks guard) (task.TermIs body t ∷ []) s e d ground.here ending in
      let m = q.middle in
      let one = guard_done guard rule_guard sc all (task.TermIs body t ∷ rest) q.first_steps s m q.first_part q.ending ground scope
      guards in
      let ground_m = ground_later p f tops s m all q.ending.room q.ending.on ground one.asked.follows in
      let two = term_is_done l p f tops vs body rule_body sc all rest q.other_steps t m e q.other_part ending ground_m scope
      bodies in
      record {
        asked = record {
          gives = two.asked.gives ∙ one.asked.gives;
          follows =
              follows_within p (scope_of tops names) (scope_of tops all) s e (within_names tops ns names)
              (follows_on p (scope_of tops all) s m e one.asked.follows two.asked.follows);
        };
        typed =
            λ agree.
            (one.typed (agree_at p f vs (scope_of tops all) m e two.asked.follows agree), two.typed agree);
      }

  -- the step of a clause
  clause_step :
      (q : ℕ) (guard : Option ℕ) (body u t : ℕ) (rest : List Task) (s : Inference)
      → acted (task.Clause q guard body u t) p (left rest s)
      ≡ record s {
        tasks = task.PatternIs q u ∷ ((guard_tasks guard ++ task.TermIs body t ∷ []) ++ rest);
        pattern = s.pattern + 1;
        bound = [];
      }
  unfolding acted acted_on_data acted_in_group
  clause_step q None body u t rest s = refl
  clause_step q (Some g) body u t rest s = refl

  -- a clause is done
  record ClauseDone (names : Names) (q : Pattern) (a : Guard) (body u t : ℕ) (s e : Inference) : Type 0 where
    asked : Asked p tops names s e
    typed :
        VariablesAgree f vs e
        → (ns : Names) × PatternHas (standing p tops names vs) q (f u) ns × GuardHas (standing p tops (ns ++ names) vs) a
        × HasType (standing p tops (ns ++ names) vs) (term_at (terms_of p) body) (f t)

  clause_done :
      (c : Clause) → ClauseIsRuled c → (sc : Scope) (names : Names) (rest : List Task) (k u t : ℕ) (s e : Inference)
      → Does p rest k (clause_task u t c ∷ []) s e → Ending f e → Ground p f tops s names → HasScope sc tops names
      → IsTrue (pattern_scoped sc (Tree c.pattern))
      → IsTrue (guard_scoped (with_names (names_in (Tree c.pattern)) sc) (guard_tree (terms_of p) c.guard))
      → IsTrue (term_scoped (with_names (names_in (Tree c.pattern)) sc) (term_at (terms_of p) c.body))
      → ClauseDone names (Tree c.pattern) (guard_tree (terms_of p) c.guard) c.body u t s e
  clause_done c rules sc names rest k u t s e d ending ground scope patterns guards bodies =
      let here = scope_of tops names in
      let later = guard_tasks c.guard ++ task.TermIs c.body t ∷ [] in
      let first = task.PatternIs c.pattern u ∷ [] in
      let s1 : Inference = record s {
        tasks = first ++ (later ++ rest);
        pattern = s.pattern + 1;
        bound = [];
      } in
      let o = opened l p rest (first ++ later) k (clause_task u t c) s s1 e d ground.here
      (clause_step c.pattern c.guard c.body u t rest s) refl in
      let s1_follows = follows_same l p here s s1 o.kept refl refl refl (λ x is. refl) in
      let q = split l p f rest o.steps first later s1 e o.others (kept_here s s1 o.kept) ending in
      let m = q.middle in
      let ending_1 = ending_before l p f tops vs s1 m q.before q.ending in
      let ground_1 = ground_later p f tops s s1 names ending_1.room ending_1.on ground s1_follows in
      let has_u : Has s1 u = has_later s s1 u o.kept (λ room. (o.there room).0) in
      let known_sides = pattern_known sc (Tree c.pattern) && sides_agree (Tree c.pattern) in
      let parts = both_hold known_sides (are_new sc (names_in (Tree c.pattern))) patterns in
      let sides = (both_hold (pattern_known sc (Tree c.pattern)) (sides_agree (Tree c.pattern)) parts.0).1 in
      let new = both_hold (differ (names_in (Tree c.pattern))) (list_all (is_new sc) (names_in (Tree c.pattern))) parts.1 in
      let pattern = λ (ws : ℕ → Ty) (agree : VariablesAgree f ws m).
      rules.0 ws names (later ++ rest) q.first_steps u s1 m q.first_part (kept_here s s1 o.kept) has_u q.ending
      (ground_1.meant ending_1.room)
      agree sides in
      let one = pattern (as_known f m) (known_agree f m) in
      let one_follows : Follows p here s1 m = record {
        kept = one.binds.kept;
        item = one.binds.item;
        stay = one.binds.stay;
        meant = one.binds.meant;
        same =
            λ x is.
            one.binds.others x (none_held sc (names_in (Tree c.pattern)) x new.1 (subst IsTrue (sym (scope x)) is));
      } in
      let ground_m = ground_later p f tops s1 m names q.ending.room q.ending.on ground_1 one_follows in
      let body = λ (ns : Names) (bound : AllByRecursion (IsBound f m) ns)
      (keys : (x : ℕ) → holds (names_of ns) x ≡ holds (names_in (Tree c.pattern)) x).
      body_done c.guard c.body t rules.1 rules.2 (with_names (names_in (Tree c.pattern)) sc) names ns rest q.other_steps m e
      q.other_part ending
      (ground_with_names p f tops m names ns ground_m
      (each_so (IsBound f m) (NameAgrees f m) (λ n h. (h.0, m.pattern, h.1, h.2)) ns bound))
      (scope_with_names sc tops names ns (names_in (Tree c.pattern)) keys scope) guards bodies in
      let two = body one.names one.bound one.keys in
      record {
        asked = record {
          gives = two.asked.gives ∙ one.gives;
          follows = follows_on p here s s1 e s1_follows (follows_on p here s1 m e one_follows two.asked.follows);
        };
        typed =
            λ agree.
            let found = pattern vs (agree_at p f vs here m e two.asked.follows agree) in
            let typed = (body found.names found.bound found.keys).typed agree in
            (found.names, found.typed, typed.0, typed.1);
      }

  -- the clauses are done
  pub record ClausesDone (names : Names) (cs : Clauses) (u t : ℕ) (s e : Inference) : Type 0 where
    pub asked : Asked p tops names s e
    pub typed : VariablesAgree f vs e → ClausesHave (standing p tops names vs) cs (f u) (f t)

  pub clauses_done :
      (cs : List Clause) → AllByRecursion ClauseIsRuled cs
      → (sc : Scope) (names : Names) (rest : List Task) (k u t : ℕ) (s e : Inference)
      → Does p rest k (map (clause_task u t) cs) s e → Ending f e → Ground p f tops s names → HasScope sc tops names
      → IsTrue (clauses_scoped sc (clauses_tree (patterns_of p) (terms_of p) cs))
      → ClausesDone names (clauses_tree (patterns_of p) (terms_of p) cs) u t s e
  clauses_done [] rules sc names rest k u t s e d ending ground scope scoped =
      record {
        asked =
            subst (Asked p tops names s) d.1
            (record { gives = refl; follows = follows_here l p (scope_of tops names) s ground.here });
        typed = λ agree. tt;
      }
  clauses_done (c ∷ cs) rules sc names rest k u t s e d ending ground scope scoped =
      let here = scope_of tops names in
      let inner = with_names (names_in (Tree c.pattern)) sc in
      let others = clauses_scoped sc (clauses_tree (patterns_of p) (terms_of p) cs) in
      let guards = guard_scoped inner (guard_tree (terms_of p) c.guard) in
      let bodies = term_scoped inner (term_at (terms_of p) c.body) in
      let parts = both_hold (pattern_scoped sc (Tree c.pattern) && guards && bodies) others scoped in
      let inside = both_hold (pattern_scoped sc (Tree c.pattern) && guards) bodies parts.0 in
      let before = both_hold (pattern_scoped sc (Tree c.pattern)) guards inside.0 in
      let q = split l p f rest k (clause_task u t c ∷ []) (map (clause_task u t) cs) s e d ground.here ending in
      let m = q.middle in
      let one = clause_done c rules.0 sc names (map (clause_task u t) cs ++ rest) q.first_steps u t s m q.first_part q.ending ground
      scope before.0 before.1 inside.1 in
      let ground_m = ground_later p f tops s m names q.ending.room q.ending.on ground one.asked.follows in
      let two = clauses_done cs rules.1 sc names rest q.other_steps u t m e q.other_part ending ground_m scope parts.1 in
      record {
        asked = record {
          gives = two.asked.gives ∙ one.asked.gives;
          follows = follows_on p here s m e one.asked.follows two.asked.follows;
        };
        typed =
            λ agree.
            let first = one.typed (agree_at p f vs here m e two.asked.follows agree) in
            (first.0, first.1, first.2, first.3, two.typed agree);
      }

  -- the clauses of a match or a catch begin
  clauses_step :
      (n : ℕ) (node : TermNode) → slice_get p.terms n ≡ Some node → (rest : List Task) (t v : ℕ) (gs : List ℕ) (s : Inference)
      → s.given ≡ v ∷ gs
      → acted (task.Clauses n t) p (left rest s) ≡ clauses_of node.form v t (record s { tasks = rest; given = gs })
  unfolding acted acted_on_data acted_in_group
  clauses_step n node is rest t v gs s given =
      ap (λ (o : Option TermNode). clauses_in o t (taken (left rest s))) is
      ∙ ap (λ (u : Gives). clauses_of node.form u.found t u.state) (taken_is (left rest s) v gs given)

  -- what the tasks of a match or a catch leave behind their subject
  record MatchedDone (names : Names) (t : ℕ) (s e : Inference) (gs : List ℕ) (P : Type 0) : Type 0 where
    gives : e.given ≡ gs
    follows : Follows p (scope_of tops names) s e
    typed : VariablesAgree f vs e → P

  -- what is shown of the clauses of a term, for a subject of any type
  abbrev AreMatched : ℕ → (Scope → Bool) → (Names → (u t : ℕ) → Type 0) → Type 0
  AreMatched n test P =
      (sc : Scope) (names : Names) (rest : List Task) (k t v : ℕ) (gs : List ℕ) (s e : Inference)
      → Does p rest k (task.Clauses n t ∷ []) s e
      → Ending f e → Ground p f tops s names → HasScope sc tops names → s.given ≡ v ∷ gs → IsTrue (test sc)
      → MatchedDone names t s e gs (P names v t)

  match_clauses :
      (n : ℕ) (at : Place) (a : ℕ) (cs : List Clause) → slice_get p.terms n ≡ Some (record { place = at; form = form.Match a cs })
      → AllByRecursion ClauseIsRuled cs
      → AreMatched n (λ sc. clauses_scoped sc (clauses_tree (patterns_of p) (terms_of p) cs))
      (λ names u t. ClausesHave (standing p tops names vs) (clauses_tree (patterns_of p) (terms_of p) cs) (f u) (f t))
  unfolding clauses_of
  match_clauses n at a cs is rules sc names rest k t v gs s e d ending ground scope given scoped =
      let here = scope_of tops names in
      let new = map (clause_task v t) cs in
      let s1 : Inference = record s { tasks = new ++ rest; given = gs } in
      let o = opened l p rest new k (task.Clauses n t) s s1 e d ground.here (clauses_step n _ is rest t v gs s given) refl in
      let first = follows_same l p here s s1 o.kept refl refl refl (λ x is. refl) in
      let kept = does_kept l p rest o.steps new s1 s1 e o.others (kept_here s s1 o.kept) in
      let ending_1 = ending_before l p f tops vs s1 e kept ending in
      let ground_1 = ground_later p f tops s s1 names ending_1.room ending_1.on ground first in
      let done = clauses_done cs rules sc names rest o.steps v t s1 e o.others ending ground_1 scope scoped in
      record {
        gives = done.asked.gives;
        follows = follows_on p here s s1 e first done.asked.follows;
        typed = done.typed;
      }

  catch_clauses :
      (n : ℕ) (at : Place) (a : ℕ) (values exceptions : List Clause)
      → slice_get p.terms n ≡ Some (record { place = at; form = form.Catch a values exceptions })
      → AllByRecursion ClauseIsRuled values → AllByRecursion ClauseIsRuled exceptions
      → AreMatched n
      (λ sc.
      clauses_scoped sc (clauses_tree (patterns_of p) (terms_of p) values)
      && clauses_scoped sc (clauses_tree (patterns_of p) (terms_of p) exceptions))
      (λ names u t.
      ClausesHave (standing p tops names vs) (clauses_tree (patterns_of p) (terms_of p) values) (f u) (f t)
      × ClausesHave (standing p tops names vs) (clauses_tree (patterns_of p) (terms_of p) exceptions) exn (f t))
  unfolding clauses_of
  catch_clauses n at a values exceptions is rules others sc names rest k t v gs s e d ending ground scope given scoped =
      let here = scope_of tops names in
      let one = map (clause_task v t) values in
      let two = map (clause_task 5 t) exceptions in
      let s1 : Inference = record s { tasks = one ++ (two ++ rest); given = gs } in
      let o = opened l p rest (one ++ two) k (task.Clauses n t) s s1 e d ground.here (clauses_step n _ is rest t v gs s given)
      (sym (append_assoc one two rest)) in
      let first = follows_same l p here s s1 o.kept refl refl refl (λ x is. refl) in
      let q = split l p f rest o.steps one two s1 e o.others (kept_here s s1 o.kept) ending in
      let m = q.middle in
      let ending_1 = ending_before l p f tops vs s1 m q.before q.ending in
      let ground_1 = ground_later p f tops s s1 names ending_1.room ending_1.on ground first in
      let both = both_hold (clauses_scoped sc (clauses_tree (patterns_of p) (terms_of p) values))
      (clauses_scoped sc (clauses_tree (patterns_of p) (terms_of p) exceptions)) scoped in
      let left_done = clauses_done values rules sc names (two ++ rest) q.first_steps v t s1 m q.first_part q.ending ground_1 scope
      both.0 in
      let ground_m = ground_later p f tops s1 m names q.ending.room q.ending.on ground_1 left_done.asked.follows in
      let right_done = clauses_done exceptions others sc names rest q.other_steps 5 t m e q.other_part ending ground_m scope
      both.1 in
      record {
        gives = right_done.asked.gives ∙ left_done.asked.gives;
        follows = follows_on p here s s1 e first (follows_on p here s1 m e left_done.asked.follows right_done.asked.follows);
        typed =
            λ agree. (
              left_done.typed (agree_at p f vs here m e right_done.asked.follows agree),
              subst (λ (u : Ty). ClausesHave (standing p tops names vs) (clauses_tree (patterns_of p) (terms_of p) exceptions) u
                  (f t)) (built 5)
                  (right_done.typed agree),
            );
      }

  -- a term with clauses: its subject, the clauses, and the type that they give
  record SubjectDone (names : Names) (a : ℕ) (P : Names → (u t : ℕ) → Type 0) (s e : Inference) : Type 0 where
    subject : ℕ
    value : ℕ
    gives : e.given ≡ value ∷ s.given
    there : Has e value
    follows : Follows p (scope_of tops names) s e
    typed : VariablesAgree f vs e → HasType (standing p tops names vs) (term_at (terms_of p) a) (f subject) × P names subject value

  subject_done :
      (n a : ℕ) (test : Scope → Bool) (P : Names → (u t : ℕ) → Type 0) → TermIsRuled p f tops vs a → AreMatched n test P
      → (sc : Scope)
      (names : Names) (rest : List Task) (k : ℕ) (s e : Inference) → Does p rest k (task.Term n ∷ []) s e
      → acted (task.Term n) p (left rest s)
      ≡ record s {
        tasks = (task.Term a ∷ task.Clauses n (length s.types.nodes) ∷ task.Give (length s.types.nodes) ∷ []) ++ rest;
        types = variable_added s.types;
      }
      → Ending f e → Ground p f tops s names → HasScope sc tops names → IsTrue (term_scoped sc (term_at (terms_of p) a))
      → IsTrue (test sc)
      → SubjectDone names a P s e
  subject_done n a test P rule matched sc names rest k s e d step ending ground scope scoped tested =
      let here = scope_of tops names in
      let t = length s.types.nodes in
      let last = task.Give t ∷ [] in
      let new = task.Term a ∷ task.Clauses n t ∷ last in
      let s1 : Inference = record s { tasks = new ++ rest; types = variable_added s.types } in
      let o = opened l p rest new k (task.Term n) s s1 e d ground.here step refl in
      let first = follows_same l p here s s1 o.kept refl refl refl (λ x is. refl) in
      let q = split l p f rest o.steps (task.Term a ∷ []) (task.Clauses n t ∷ last) s1 e o.others (kept_here s s1 o.kept) ending in
      let r = split l p f rest q.other_steps (task.Clauses n t ∷ []) last q.middle e q.other_part q.here ending in
      let ending_1 = ending_before l p f tops vs s1 q.middle q.before q.ending in
      let ground_1 = ground_later p f tops s s1 names ending_1.room ending_1.on ground first in
      let one = rule sc names (task.Clauses n t ∷ last ++ rest) q.first_steps s1 q.middle q.first_part q.ending ground_1 scope
      scoped in
      let ground_2 = ground_later p f tops s1 q.middle names q.ending.room q.ending.on ground_1 one.follows in
      let two = matched sc names (last ++ rest) r.first_steps t one.value s.given q.middle r.middle r.first_part r.ending ground_2
      scope one.gives tested in
      let three = give_done l p here rest r.other_steps t r.middle e r.other_part r.here in
      record {
        subject = one.value;
        value = t;
        gives = three.gives ∙ ap (λ (gs : List ℕ). t ∷ gs) two.gives;
        there = three.there;
        follows =
            follows_on p here s s1 e first
            (follows_on p here s1 q.middle e one.follows (follows_on p here q.middle r.middle e two.follows three.follows));
        typed =
            λ agree.
            let agree_2 = agree_at p f vs here r.middle e three.follows agree in
            (one.typed (agree_at p f vs here q.middle r.middle two.follows agree_2), two.typed agree_2);
      }

  -- match a with clauses
  pub match_ruled :
      (n : ℕ) (at : Place) (a : ℕ) (cs : List Clause) → slice_get p.terms n ≡ Some (record { place = at; form = form.Match a cs })
      → TermIsRuled p f tops vs a → AllByRecursion ClauseIsRuled cs
      → FormIsRuled l p f tops vs n (record { place = at; form = form.Match a cs })
      (Match (place_of at) (term_at (terms_of p) a) (clauses_tree (patterns_of p) (terms_of p) cs))
  unfolding term_of plain_term
  match_ruled n at a cs is rule rules sc names rest k s e d ending ground scope scoped =
      let both = both_hold (term_scoped sc (term_at (terms_of p) a))
      (clauses_scoped sc (clauses_tree (patterns_of p) (terms_of p) cs)) scoped in
      let done = subject_done n a _ _ rule (match_clauses n at a cs is rules) sc names rest k s e d
      (step_of l p f tops vs n (record { place = at; form = form.Match a cs }) (left rest s) is) ending ground scope both.0
      both.1 in
      record {
        value = done.value;
        gives = done.gives;
        there = done.there;
        follows = done.follows;
        typed = λ agree. let typed = done.typed agree in (f done.subject, typed.0, typed.1);
      }

  -- match a with clauses, some of them for exceptions
  pub catch_ruled :
      (n : ℕ) (at : Place) (a : ℕ) (values exceptions : List Clause)
      → slice_get p.terms n ≡ Some (record { place = at; form = form.Catch a values exceptions }) → TermIsRuled p f tops vs a
      → AllByRecursion ClauseIsRuled values → AllByRecursion ClauseIsRuled exceptions
      → FormIsRuled l p f tops vs n (record { place = at; form = form.Catch a values exceptions })
      (Catch (place_of at) (term_at (terms_of p) a) (clauses_tree (patterns_of p) (terms_of p) values)
      (clauses_tree (patterns_of p) (terms_of p) exceptions))
  unfolding term_of plain_term
  catch_ruled n at a values exceptions is rule rules others sc names rest k s e d ending ground scope scoped =
      let one = clauses_scoped sc (clauses_tree (patterns_of p) (terms_of p) values) in
      let two = clauses_scoped sc (clauses_tree (patterns_of p) (terms_of p) exceptions) in
      let parts = both_hold (term_scoped sc (term_at (terms_of p) a) && one) two scoped in
      let before = both_hold (term_scoped sc (term_at (terms_of p) a)) one parts.0 in
      let done = subject_done n a _ _ rule (catch_clauses n at a values exceptions is rules others) sc names rest k s e d
      (step_of l p f tops vs n (record { place = at; form = form.Catch a values exceptions }) (left rest s) is) ending ground scope
      before.0
      (both_so one two before.1 parts.1) in
      record {
        value = done.value;
        gives = done.gives;
        there = done.there;
        follows = done.follows;
        typed = λ agree. let typed = done.typed agree in (f done.subject, typed.0, typed.1.0, typed.1.1);
      }
    where
      both_so : (a b : Bool) → IsTrue a → IsTrue b → IsTrue (a && b)
      both_so true b h k = k
      both_so false b h k = h
