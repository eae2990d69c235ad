-- Parts of a walk over a term: how it is entered where types are made, and terms that are done one after another.
use Rattle.std.proofs.Common.{◌≡◌, ℕ, zero, suc, List, [], ◌∷◌, ◌++◌, length, Option, Some, None, refl, sym, ◌∙◌, ap, subst, arith, slice_get, map}
use Rattle.std.specs.Prelude.{IsTrue}
use Rattle.std.specs.List.{AllByRecursion}
use Rattle.fx_base.specs.declared.refusal.Place.{Place}
use Rattle.effect_meaning.specs.declared.core_nodes.TermNode.{TermNode}
use Rattle.effect_meaning.specs.Arena.{Parts}
use Rattle.effect_meaning.specs.ArenaTrees.{terms_at, terms_of}
use Rattle.effect_meaning.specs.Scoped.{Scope, term_scoped, terms_scoped}
use Rattle.effect_meaning.specs.Terms.{Term}
use Rattle.type_terms.specs.TypeTrees.{Ty}
use Rattle.type_terms.specs.Contexts.{Names}
use Rattle.type_terms.specs.Typing.{HasType, TermsHave, EachHas}
use Rattle.type_readings.specs.Readings.{trees_of}
use Rattle.ml_infer.specs.declared.inference.End.{End}
use Rattle.ml_infer.specs.declared.inference.End.TheVariants as ends
use Rattle.ml_infer.specs.declared.inference.Inference.{Inference}
use Rattle.ml_infer.specs.declared.tasks.Task.{Task}
use Rattle.ml_infer.specs.declared.tasks.Task.TheVariants as task
use Rattle.ml_infer.specs.Inference.{ended_first, refused}
use Rattle.ml_infer.specs.Known.{known}
use Rattle.ml_infer.specs.Tasks.{term_tasks}
use Rattle.ml_infer.specs.Terms.{term_of}
use Rattle.ml_infer.specs.Walk.{acted}
use Rattle.inference_laws.specs.Meanings.{LeadsTo, VariablesAgree}
use Rattle.inference_laws.proofs.Kept.{Kept, kept_here}
use Rattle.inference_laws.proofs.GraphLaws.{GraphLaws}
use Rattle.inference_laws.proofs.Leading.{leads_here}
use Rattle.inference_laws.proofs.Walk.{acted_kept}
use Rattle.inference_laws.proofs.Runs.{left, Does, begins, parted}
use Rattle.inference_laws.proofs.Grounds.{Tops, standing, scope_of, HasScope, Ground, Ending, Follows, TermDone, Asked}
use Rattle.inference_laws.proofs.Booleans.{both_hold}
use Rattle.inference_laws.proofs.Following.{agree_at, follows_leads, follows_on, ground_later}
use Rattle.inference_laws.proofs.Doing.{does_kept}
use Rattle.inference_laws.proofs.TasksDone.{give_done, task_left}
use Rattle.inference_laws.proofs.TermsDone.{HasThis, Rule, ending_before, step_of, term_is_done, tree}

-- a walk that is refused goes on no more
pub not_refused : (at : Place) (s : Inference) → (refused at s).end ≡ None → ⊥
not_refused at s on = not_on s.end on
  where
    not_on : (o : Option End) → ended_first o (ends.Fault at) ≡ None → ⊥
    not_on None h = absurd (cc)
    not_on (Some old) h = absurd (cc)

module _ (l : GraphLaws) (p : Parts) (f : ℕ → Ty) (tops : Tops) (vs : ℕ → Ty) where
  -- the state behind the step by which a task is begun is kept, and the walk goes on there, if it does at the end
  pub record StepKept (rest : List Task) (t : Task) (s e : Inference) : Type 0 where
    pub before : Kept s (left rest s)
    pub step : Kept s (acted t p (left rest s))
    pub onward : Kept (acted t p (left rest s)) e

  pub step_kept :
      (rest : List Task) (k : ℕ) (t : Task) (s e : Inference) → Does p rest k (t ∷ []) s e → Kept s s → StepKept rest t s e
  step_kept rest zero t s e d kept = absurd d
  step_kept rest (suc k) t s e d kept =
      let both = task_left l p rest (suc k) t s e d kept in
      let step = acted_kept l p s (left rest s) both.0 t d.0 both.1 in
      record {
        before = both.0;
        step = step;
        onward =
            does_kept l p rest k (d.2 ++ []) (acted t p (left rest s)) (acted t p (left rest s)) e d.4
            (kept_here s (acted t p (left rest s)) step);
      }

  -- behind the step by which a term is entered the walk goes on
  pub entered_on :
      (n : ℕ) (node : TermNode) → slice_get p.terms n ≡ Some node → (rest : List Task) (k : ℕ) (s e : Inference)
      → Does p rest k (task.Term n ∷ []) s e → Kept s s → Ending f e → (term_of node.form p n node.place (left rest s)).end ≡ None
  entered_on n node is rest k s e d kept ending =
      ap (λ (x : Inference). x.end) (sym (step_of l p f tops vs n node (left rest s) is))
      ∙ (step_kept rest k (task.Term n) s e d kept).onward.ended ending.on

  -- a state with other tasks follows one without the task at hand that leads to it
  pub step_follows :
      (scope : List ℕ) (rest ts : List Task) (s m : Inference) → Kept s (record m { tasks = ts }) → LeadsTo p (left rest s) m
      → Follows p scope s (record m { tasks = ts })
  step_follows scope rest ts s m kept leads = record {
    kept = kept;
    item = leads.rest.same_item;
    stay = leads.stay;
    meant = leads.meant;
    same = λ x is. ap (λ xs. known xs x) leads.rest.same_names;
  }

  -- a task is begun from a state with what held before, makes types, and puts these tasks first
  pub record EnteredWith (names : Names) (rest new : List Task) (s m e : Inference) : Type 0 where
    pub steps : ℕ
    pub others : Does p rest steps new (record m { tasks = new ++ rest }) e
    pub here : Kept (record m { tasks = new ++ rest }) (record m { tasks = new ++ rest })
    pub onward : Kept (record m { tasks = new ++ rest }) e
    pub follows : Follows p (scope_of tops names) s (record m { tasks = new ++ rest })
    pub ground : Ground p f tops (record m { tasks = new ++ rest }) names
    pub ending : Ending f (record m { tasks = new ++ rest })

  pub begun_with :
      (t : Task) (names : Names) (rest new : List Task) (k : ℕ) (s m e : Inference) → Does p rest k (t ∷ []) s e → Ending f e
      → Ground p f tops s names → acted t p (left rest s) ≡ record m { tasks = new ++ rest } → LeadsTo p (left rest s) m
      → EnteredWith names rest new s m e
  begun_with t names rest new k s m e d ending ground step leads =
      let s1 : Inference = record m { tasks = new ++ rest } in
      let b = begins p rest k t new s e d (ap (λ (x : Inference). x.tasks) step) in
      let kept = step_kept rest k t s e d ground.here in
      let s1_kept : Kept s s1 = subst (Kept s) step kept.step in
      let onward : Kept s1 e = subst (λ (x : Inference). Kept x e) step kept.onward in
      let follows = step_follows (scope_of tops names) rest (new ++ rest) s m s1_kept leads in
      let ending_1 = ending_before l p f tops vs s1 e onward ending in
      record {
        steps = b.steps;
        others = subst (λ (x : Inference). Does p rest b.steps new x e) step b.others;
        here = kept_here s s1 s1_kept;
        onward = onward;
        follows = follows;
        ground = ground_later p f tops s s1 names ending_1.room ending_1.on ground follows;
        ending = ending_1;
      }

  -- so a term is entered
  pub entered_with :
      (n : ℕ) (node : TermNode) → slice_get p.terms n ≡ Some node
      → (names : Names) (rest new : List Task) (k : ℕ) (s m e : Inference)
      → Does p rest k (task.Term n ∷ []) s e → Ending f e → Ground p f tops s names
      → term_of node.form p n node.place (left rest s) ≡ record m { tasks = new ++ rest } → LeadsTo p (left rest s) m
      → EnteredWith names rest new s m e
  entered_with n node is names rest new k s m e d ending ground step leads =
      begun_with (task.Term n) names rest new k s m e d ending ground (step_of l p f tops vs n node (left rest s) is ∙ step) leads

  -- some tasks are done, and then the others, where the end of the whole is known
  pub record PartsEnd (rest ts us : List Task) (s e : Inference) : Type 0 where
    pub middle : Inference
    pub first_steps : ℕ
    pub first_part : Does p (us ++ rest) first_steps ts s middle
    pub other_steps : ℕ
    pub other_part : Does p rest other_steps us middle e
    pub here : Kept middle middle
    pub ending : Ending f middle

  pub parts_end :
      (rest : List Task) (k : ℕ) (ts us : List Task) (s e : Inference) → Does p rest k (ts ++ us) s e → Kept s s → Ending f e
      → PartsEnd rest ts us s e
  parts_end rest k ts us s e d kept ending =
      let q = parted p rest k ts us s e d in
      let m_kept = does_kept l p (us ++ rest) q.first_steps ts s s q.middle q.first_part kept in
      let here = kept_here s q.middle m_kept in
      record {
        middle = q.middle;
        first_steps = q.first_steps;
        first_part = q.first_part;
        other_steps = q.other_steps;
        other_part = q.other_part;
        here = here;
        ending =
            ending_before l p f tops vs q.middle e (does_kept l p rest q.other_steps us q.middle q.middle e q.other_part here)
            ending;
      }

  -- at last a type is given, which a term has
  pub given_last :
      (names : Names) (a : Term) (rest : List Task) (k t : ℕ) (s m e : Inference) → Does p rest k (task.Give t ∷ []) m e → Kept m m
      → m.given ≡ s.given → Follows p (scope_of tops names) s m
      → (VariablesAgree f vs m → HasType (standing p tops names vs) a (f t))
      → TermDone p f tops names vs a s e
  given_last names a rest k t s m e d kept given follows typed =
      let gave = give_done l p (scope_of tops names) rest k t m e d kept in
      record {
        value = t;
        gives = gave.gives ∙ ap (λ (gs : List ℕ). t ∷ gs) given;
        there = gave.there;
        follows = follows_on p (scope_of tops names) s m e follows gave.follows;
        typed = λ agree. typed (agree_at p f vs (scope_of tops names) m e gave.follows agree);
      }

  -- the first of some tasks is a term that has a type
  pub record FirstHas (names : Names) (rest us : List Task) (n t : ℕ) (s e : Inference) : Type 0 where
    pub middle : Inference
    pub steps : ℕ
    pub others : Does p rest steps us middle e
    pub first : HasThis l p f tops vs names (tree l p f tops vs n) (f t) s middle
    pub ground : Ground p f tops middle names

  pub first_has :
      (n t : ℕ) → Rule l p f tops vs n → (sc : Scope) (names : Names) (rest us : List Task) (k : ℕ) (s e : Inference)
      → Does p rest k (task.TermIs n t ∷ us) s e → Ending f e → Ground p f tops s names → HasScope sc tops names
      → IsTrue (term_scoped sc (tree l p f tops vs n)) → FirstHas names rest us n t s e
  first_has n t rule sc names rest us k s e d ending ground scope scoped =
      let q = parts_end rest k (task.TermIs n t ∷ []) us s e d ground.here ending in
      let one =
      term_is_done l p f tops vs n rule sc names (us ++ rest) q.first_steps t s q.middle q.first_part q.ending ground scope
      scoped in
      record {
        middle = q.middle;
        steps = q.other_steps;
        others = q.other_part;
        first = one;
        ground = ground_later p f tops s q.middle names q.ending.room q.ending.on ground one.asked.follows;
      }

  -- nothing is done
  pub none_asked : (names : Names) (s e : Inference) → Kept s s → s ≡ e → Asked p tops names s e
  none_asked names s e kept is =
      subst (Asked p tops names s) is
      (record { gives = refl; follows = follows_leads p (scope_of tops names) s s kept (leads_here p s) })

  -- tasks are done, and then others
  pub asked_on : (names : Names) (s m e : Inference) → Asked p tops names s m → Asked p tops names m e → Asked p tops names s e
  asked_on names s m e a b = record {
    gives = b.gives ∙ a.gives;
    follows = follows_on p (scope_of tops names) s m e a.follows b.follows;
  }

  -- terms that have these types, one after another
  pub record TheseHave (names : Names) (ns ts : List ℕ) (s e : Inference) : Type 0 where
    pub asked : Asked p tops names s e
    pub typed : VariablesAgree f vs e → TermsHave (standing p tops names vs) (terms_at (terms_of p) ns) (trees_of f ts)

  pub terms_done :
      (ns ts : List ℕ) → length ns ≡ length ts → AllByRecursion (Rule l p f tops vs) ns
      → (sc : Scope) (names : Names) (rest : List Task)
      (k : ℕ) (s e : Inference) → Does p rest k (term_tasks ns ts) s e → Ending f e → Ground p f tops s names
      → HasScope sc tops names
      → IsTrue (terms_scoped sc (terms_at (terms_of p) ns)) → TheseHave names ns ts s e
  terms_done [] [] same rules sc names rest k s e d ending ground scope scoped =
      record { asked = none_asked names s e ground.here d.1; typed = λ agree. refl }
  terms_done [] (t ∷ ts) same rules sc names rest k s e d ending ground scope scoped = absurd (omega arith)
  terms_done (n ∷ ns) [] same rules sc names rest k s e d ending ground scope scoped = absurd (omega arith)
  terms_done (n ∷ ns) (t ∷ ts) same rules sc names rest k s e d ending ground scope scoped =
      let both = both_hold (term_scoped sc (tree l p f tops vs n)) (terms_scoped sc (terms_at (terms_of p) ns)) scoped in
      let one = first_has n t rules.0 sc names rest (term_tasks ns ts) k s e d ending ground scope both.0 in
      let others =
      terms_done ns ts (omega arith) rules.1 sc names rest one.steps one.middle e one.others ending one.ground scope both.1 in
      record {
        asked = asked_on names s one.middle e one.first.asked others.asked;
        typed =
            λ agree. (
              f t,
              trees_of f ts,
              refl,
              one.first.typed (agree_at p f vs (scope_of tops names) one.middle e others.asked.follows agree),
              others.typed agree,
            );
      }

  -- terms that have one type, one after another
  pub record EachDone (names : Names) (ns : List ℕ) (t : ℕ) (s e : Inference) : Type 0 where
    pub asked : Asked p tops names s e
    pub typed : VariablesAgree f vs e → EachHas (standing p tops names vs) (terms_at (terms_of p) ns) (f t)

  pub each_done :
      (ns : List ℕ) (t : ℕ) → AllByRecursion (Rule l p f tops vs) ns → (sc : Scope) (names : Names) (rest : List Task) (k : ℕ)
      (s e : Inference) → Does p rest k (map (λ n. task.TermIs n t) ns) s e → Ending f e → Ground p f tops s names
      → HasScope sc tops names
      → IsTrue (terms_scoped sc (terms_at (terms_of p) ns)) → EachDone names ns t s e
  each_done [] t rules sc names rest k s e d ending ground scope scoped =
      record { asked = none_asked names s e ground.here d.1; typed = λ agree. tt }
  each_done (n ∷ ns) t rules sc names rest k s e d ending ground scope scoped =
      let both = both_hold (term_scoped sc (tree l p f tops vs n)) (terms_scoped sc (terms_at (terms_of p) ns)) scoped in
      let one = first_has n t rules.0 sc names rest (map (λ n. task.TermIs n t) ns) k s e d ending ground scope both.0 in
      let others = each_done ns t rules.1 sc names rest one.steps one.middle e one.others ending one.ground scope both.1 in
      record {
        asked = asked_on names s one.middle e one.first.asked others.asked;
        typed =
            λ agree. (
              one.first.typed (agree_at p f vs (scope_of tops names) one.middle e others.asked.follows agree),
              others.typed agree,
            );
      }
