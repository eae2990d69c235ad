-- Terms and other tasks are done before further ones: the states between.
use Rattle.std.proofs.Common.{◌≡◌, ℕ, List, [], ◌∷◌, ◌++◌, Some, refl, slice_get}
use Rattle.std.specs.Prelude.{IsTrue}
use Rattle.std.specs.List.{AllByRecursion}
use Rattle.effect_meaning.specs.declared.core_nodes.TermNode.{TermNode}
use Rattle.effect_meaning.specs.Arena.{Parts}
use Rattle.effect_meaning.specs.ArenaTrees.{term_at, terms_of}
use Rattle.effect_meaning.specs.Scoped.{Scope, term_scoped}
use Rattle.effect_meaning.specs.Terms.{Term}
use Rattle.type_terms.specs.Contexts.{Names}
use Rattle.type_terms.specs.TypeTrees.{Ty}
use Rattle.ml_infer.specs.declared.inference.Inference.{Inference}
use Rattle.ml_infer.specs.declared.tasks.Task.{Task}
use Rattle.ml_infer.specs.declared.tasks.Task.TheVariants as task
use Rattle.ml_infer.specs.Terms.{term_of}
use Rattle.inference_laws.specs.Whole.{TaskIsThere}
use Rattle.inference_laws.proofs.Kept.{Kept, Roomy, kept_here}
use Rattle.inference_laws.proofs.Fields.{first_kept}
use Rattle.inference_laws.proofs.GraphLaws.{GraphLaws}
use Rattle.inference_laws.proofs.Runs.{left, Does, parted}
use Rattle.inference_laws.proofs.Grounds.{Tops, scope_of, HasScope, Ground, Ending, Follows, TermDone}
use Rattle.inference_laws.proofs.Following.{ground_later}
use Rattle.inference_laws.proofs.Doing.{does_kept}
use Rattle.inference_laws.proofs.TasksDone.{follows_given}
use Rattle.inference_laws.proofs.TermsDone.{TermIsRuled, ending_before, entered}

module _ (l : GraphLaws) (p : Parts) (f : ℕ → Ty) (tops : Tops) (vs : ℕ → Ty) where
  -- the rule of a term, and its tree
  abbrev Rule : ℕ → Type 0
  Rule n = TermIsRuled p f tops vs n

  abbrev tree : ℕ → Term
  tree n = term_at (terms_of p) n

  -- some tasks are done before others: the state between, from which the walk goes on to its end
  pub record Between (rest ts us : List Task) (s e : Inference) : Type 0 where
    pub middle : Inference
    pub first_steps : ℕ
    pub first_part : Does p (us ++ rest) first_steps ts s middle
    pub steps : ℕ
    pub others : Does p rest steps us middle e
    pub start : Ending f s
    pub kept : Kept s middle
    pub here : Kept middle middle
    pub ending : Ending f middle

  pub between :
      (rest : List Task) (k : ℕ) (ts us : List Task) (s e : Inference) → Does p rest k (ts ++ us) s e → Kept s s → Ending f e
      → Between rest ts us s e
  between rest k ts us s e d kept ending =
      let q = parted p rest k ts us s e d in
      let m_kept = does_kept l p (us ++ rest) q.first_steps ts s s q.middle q.first_part kept in
      let here = kept_here s q.middle m_kept in
      let e_kept = does_kept l p rest q.other_steps us q.middle q.middle e q.other_part here in
      let ending_m = ending_before l p f tops vs q.middle e e_kept ending in
      record {
        middle = q.middle;
        first_steps = q.first_steps;
        first_part = q.first_part;
        steps = q.other_steps;
        others = q.other_part;
        start = ending_before l p f tops vs s q.middle m_kept ending_m;
        kept = m_kept;
        here = here;
        ending = ending_m;
      }

  -- a term is done before other tasks
  pub record TermFirst (names : Names) (n : ℕ) (rest us : List Task) (s e : Inference) : Type 0 where
    pub middle : Inference
    pub done : TermDone p f tops names vs (tree n) s middle
    pub steps : ℕ
    pub others : Does p rest steps us middle e
    pub here : Kept middle middle
    pub ending : Ending f middle
    pub ground : Ground p f tops middle names

  pub term_first :
      (n : ℕ) → Rule n → (sc : Scope) (names : Names) (rest us : List Task) (k : ℕ) (s e : Inference)
      → Does p rest k (task.Term n ∷ us) s e → Ending f e → Ground p f tops s names → HasScope sc tops names
      → IsTrue (term_scoped sc (tree n)) → TermFirst names n rest us s e
  term_first n rule sc names rest us k s e d ending ground scope scoped =
      let b = between rest k (task.Term n ∷ []) us s e d ground.here ending in
      let done = rule sc names (us ++ rest) b.first_steps s b.middle b.first_part b.ending ground scope scoped in
      record {
        middle = b.middle;
        done = done;
        steps = b.steps;
        others = b.others;
        here = b.here;
        ending = b.ending;
        ground = ground_later p f tops s b.middle names b.ending.room b.ending.on ground done.follows;
      }

  -- a term puts tasks first and does no more
  pub record Put (names : Names) (new rest : List Task) (s s1 e : Inference) : Type 0 where
    pub steps : ℕ
    pub others : Does p rest steps new s1 e
    pub follows : Follows p (scope_of tops names) s s1
    pub ground : Ground p f tops s1 names

  pub puts :
      (n : ℕ) (node : TermNode) → slice_get p.terms n ≡ Some node → (names : Names) (rest new : List Task) (k : ℕ) (s e : Inference)
      → Does p rest k (task.Term n ∷ []) s e → Ending f e → Ground p f tops s names
      → term_of node.form p n node.place (left rest s) ≡ left (new ++ rest) s
      → Roomy s (λ types. AllByRecursion (TaskIsThere types) new)
      → Put names new rest s (left (new ++ rest) s) e
  puts n node is names rest new k s e d ending ground step there =
      let s1 : Inference = left (new ++ rest) s in
      let b = entered l p f tops vs n node is rest new k s s1 e d ground.here step refl in
      let kept : Kept s s1 = first_kept s (left rest s) new b.before there in
      let here = kept_here s s1 kept in
      let e_kept = does_kept l p rest b.steps new s1 s1 e b.others here in
      let start = ending_before l p f tops vs s1 e e_kept ending in
      let follows = follows_given l p (scope_of tops names) s (new ++ rest) s.given kept in
      record {
        steps = b.steps;
        others = b.others;
        follows = follows;
        ground = ground_later p f tops s s1 names start.room start.on ground follows;
      }
